-- A type without children has the kind that its physical type says.
use Rattle.std.proofs.Common.{◌≡◌, refl, ℤ, Option, ap₂, sym, subst, ◌∙◌}
use Rattle.lower.specs.TypeTrees.{null, boolean, int8, int16, int32, int64, uint8, uint16, uint32, uint64, float16, float32, float64, timestamp, date32, date64, time32, time64, duration, interval, binary, fixed_binary, large_binary, utf8, large_utf8, decimal, decimal256, TypeTree, plain, single, group, dictionary, extension}
use Rattle.lower.specs.Physical.{physical}
use Rattle.lower.specs.declared.datatypes.IntervalUnit.TheVariants.{YearMonth, DayTime, MonthDayNano}
use Rattle.lower_flat_arrays.specs.FixedBinaries.{byte_size}
use Rattle.ipc_base.specs.IdTrees.{IdTrees}
use Rattle.ipc_model.specs.TypeKinds.{kind_of}
use Rattle.ipc_read_flat.specs.FlatKinds.{IsPlain, IsFlat, flat_kind}
use Rattle.ipc_read_flat.specs.Kinds.{IsStored}

plain_kind_is : (t : TypeTree) (id : Option ℤ) (is : IdTrees) → IsPlain t → kind_of t id is ≡ flat_kind (physical t) (byte_size t)
plain_kind_is (plain null) id is h = refl
plain_kind_is (plain boolean) id is h = refl
plain_kind_is (plain int8) id is h = refl
plain_kind_is (plain int16) id is h = refl
plain_kind_is (plain int32) id is h = refl
plain_kind_is (plain int64) id is h = refl
plain_kind_is (plain uint8) id is h = refl
plain_kind_is (plain uint16) id is h = refl
plain_kind_is (plain uint32) id is h = refl
plain_kind_is (plain uint64) id is h = refl
plain_kind_is (plain float16) id is h = absurd h
plain_kind_is (plain float32) id is h = absurd h
plain_kind_is (plain float64) id is h = absurd h
plain_kind_is (plain (timestamp unit _)) id is h = refl
plain_kind_is (plain date32) id is h = refl
plain_kind_is (plain date64) id is h = refl
plain_kind_is (plain (time32 unit)) id is h = refl
plain_kind_is (plain (time64 unit)) id is h = refl
plain_kind_is (plain (duration unit)) id is h = refl
plain_kind_is (plain (interval YearMonth)) id is h = refl
plain_kind_is (plain (interval DayTime)) id is h = refl
plain_kind_is (plain (interval MonthDayNano)) id is h = refl
plain_kind_is (plain binary) id is h = refl
plain_kind_is (plain (fixed_binary n)) id is h = refl
plain_kind_is (plain large_binary) id is h = refl
plain_kind_is (plain utf8) id is h = refl
plain_kind_is (plain large_utf8) id is h = refl
plain_kind_is (plain (decimal p q)) id is h = refl
plain_kind_is (plain (decimal256 p q)) id is h = refl
plain_kind_is (single s f) id is h = absurd h
plain_kind_is (group g fs) id is h = absurd h
plain_kind_is (dictionary k t o) id is h = absurd h
plain_kind_is (extension n t x) id is h = absurd h

plain_flat : (t : TypeTree) → IsPlain t → IsFlat (physical t)
plain_flat (plain null) h = tt
plain_flat (plain boolean) h = tt
plain_flat (plain int8) h = tt
plain_flat (plain int16) h = tt
plain_flat (plain int32) h = tt
plain_flat (plain int64) h = tt
plain_flat (plain uint8) h = tt
plain_flat (plain uint16) h = tt
plain_flat (plain uint32) h = tt
plain_flat (plain uint64) h = tt
plain_flat (plain float16) h = absurd h
plain_flat (plain float32) h = absurd h
plain_flat (plain float64) h = absurd h
plain_flat (plain (timestamp unit _)) h = tt
plain_flat (plain date32) h = tt
plain_flat (plain date64) h = tt
plain_flat (plain (time32 unit)) h = tt
plain_flat (plain (time64 unit)) h = tt
plain_flat (plain (duration unit)) h = tt
plain_flat (plain (interval YearMonth)) h = tt
plain_flat (plain (interval DayTime)) h = tt
plain_flat (plain (interval MonthDayNano)) h = tt
plain_flat (plain binary) h = tt
plain_flat (plain (fixed_binary n)) h = tt
plain_flat (plain large_binary) h = tt
plain_flat (plain utf8) h = tt
plain_flat (plain large_utf8) h = tt
plain_flat (plain (decimal p q)) h = tt
plain_flat (plain (decimal256 p q)) h = tt
plain_flat (single s f) h = absurd h
plain_flat (group g fs) h = absurd h
plain_flat (dictionary k t o) h = absurd h
plain_flat (extension n t x) h = absurd h

-- the same of a type that is stored as this one
pub stored_kind :
    (own t : TypeTree) (id : Option ℤ) (is : IdTrees) → IsPlain t → IsStored own t → kind_of t id is ≡ flat_kind (physical own) (byte_size own)
stored_kind own t id is h stored = plain_kind_is t id is h ∙ sym (ap₂ flat_kind stored.lies stored.bytes_named)

pub stored_flat : (own t : TypeTree) → IsPlain t → IsStored own t → IsFlat (physical own)
stored_flat own t h stored = subst IsFlat (sym stored.lies) (plain_flat t h)
