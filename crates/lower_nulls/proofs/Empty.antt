-- Arrays without slots.
use Rattle.std.proofs.Common.{arith, ◌≡◌}
use Rattle.std.specs.Prelude.{Result, Ok, Err, MatchResult}
use Rattle.lower.specs.TypeTrees.{TypeTree}
use Rattle.lower_arrays.specs.Layouts.{len_of, type_of}
use Rattle.lower_arrays.specs.AnyLayouts.{layout_of}
use Rattle.lower_arrays.specs.declared.array.AnyArray.{AnyArray}
use Rattle.lower_nulls.specs.Nulls.{AreNulls, NoNulls, NoEmpty}
use Rattle.lower_nulls.specs.declared.error.NullError.{NullError}
use Rattle.lower_nulls.specs.declared.error.NullError.TheVariants.{Memory, DataType, Length}
use Rattle.lower_nulls.proofs.Types.{no_room}

none_empty : (t : TypeTree) (e : NullError) → NoNulls t 0 e → NoEmpty t e
none_empty t Memory refused = tt
none_empty t DataType refused = refused
none_empty t Length refused = let none = no_room t in omega (arith, refused, none)

pub empty_told : (t : TypeTree) (r : Result AnyArray NullError) → MatchResult r (λ a. AreNulls t 0 (layout_of a)) (NoNulls t 0)
    → MatchResult r (λ a. (type_of (layout_of a) ≡ t) × (len_of (layout_of a) ≡ 0)) (NoEmpty t)
empty_told t (Ok a) told = (told.type, told.len)
empty_told t (Err e) told = none_empty t e told
