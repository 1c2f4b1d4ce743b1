-- Each case is computed.
use Rattle.std.proofs.Common.{◌≡◌, ℕ, List, Option, Some, None, refl, ap, arith}
use Rattle.lower_types.specs.declared.PrimitiveType.TheVariants.{Int32, Int64}
use Rattle.lower_arrays.specs.Slots.{Slot}
use Rattle.ipc_examples.proofs.AcceptedRows.{first_byte}
use Rattle.ipc_examples.specs.ArrayRows.{KeyTypeRows, OfferWidthRows, KnownRows, CaseRows}

pub key_type_rows : KeyTypeRows
key_type_rows = record {
  signed_8 = refl;
  signed_16 = refl;
  signed_32 = refl;
  signed_64 = refl;
  unsigned_8 = refl;
  unsigned_16 = refl;
  unsigned_32 = refl;
  unsigned_64 = refl;
  large_offsets = refl;
  small_offsets = refl;
}

pub offer_width_rows : OfferWidthRows
offer_width_rows = record {
  short_numbers = refl;
  long_numbers = refl;
  decimals = refl;
  fixed = refl;
  large_offsets = refl;
  keys_of_a_byte = refl;
  keys_of_two = refl;
  keys_of_eight = refl;
  nine_slots = refl;
}

-- the first byte of the first text
abbrev byte_in : Option (List Slot) → ℕ
byte_in None = 0
byte_in (Some xs) = first_byte xs

pub known_rows : KnownRows
known_rows = record {
  known_values = record { type = refl; slots_are = refl; cases = (tt, tt); values = (refl, tt) };
  other_values = λ v. let e : 97 ≡ 120 = ap byte_in v.values.0 in absurd (omega arith);
  nothing_known = λ v. let e : 0 ≡ 97 = ap byte_in v.values.0 in absurd (omega arith);
  in_a_list = record { type = refl; slots_are = refl; cases = (refl, ((tt, tt), tt)); values = (refl, tt) };
  others_in_a_list = λ v. let e : 97 ≡ 120 = ap byte_in v.values.0 in absurd (omega arith);
  in_a_struct = record { type = refl; slots_are = refl; cases = (tt, ((tt, tt), ((tt, tt), tt))); values = (refl, tt) };
  others_in_a_struct = λ v. let e : 97 ≡ 120 = ap byte_in v.values.0 in absurd (omega arith);
  another_type = λ v. let e = v.type in absurd cc;
  other_slots = λ v. let e : 98 ≡ 97 = ap first_byte v.slots_are in absurd (omega arith);
  second_column = (record { type = refl; slots_are = refl; cases = (tt, tt); values = (refl, tt) }, tt);
  others_in_the_second = λ v. let e : 97 ≡ 120 = ap byte_in v.0.values.0 in absurd (omega arith);
  one_array_missing = λ v. v;
  inner_values_aside = record { type = refl; slots_are = refl; cases = (tt, tt); values = (refl, tt) };
}

pub case_rows : CaseRows
case_rows = record {
  numbers_have_none = (tt, tt);
  small = (refl, ((tt, tt), tt));
  large = (refl, ((tt, tt), tt));
  large_as_small = λ v. let e : Int32 ≡ Int64 = v.0 in absurd cc;
  large_in_small = (refl, ((refl, ((tt, tt), tt)), tt));
  large_as_small_in_small = λ v. let e : Int32 ≡ Int64 = v.1.0.0 in absurd cc;
  large_in_values = (tt, tt);
  values_aside = (tt, tt);
  not_the_column = λ v. let e : Int32 ≡ Int64 = v.cases.0 in absurd cc;
  the_column = record { type = refl; slots_are = refl; cases = (refl, ((tt, tt), tt)); values = tt };
}
