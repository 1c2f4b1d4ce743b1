-- Each case is computed.
use Rattle.std.proofs.Common.{◌≡◌, ℕ, ℤ, pos, negsuc, ◌<◌, ◌≤◌, List, [], ◌∷◌, lit<, lit≤, Some, refl, ap, arith}
use Rattle.std.specs.List.{AllByRecursion}
use Rattle.std.specs.Prelude.{codes}
use Rattle.lower.specs.Normal.{data_key}
use Rattle.lower.specs.TypeTrees.{utf8, TypeTree, plain, single, no_fields}
use Rattle.lower_arrays.specs.Slots.{Slot, text_slot}
use Rattle.std.proofs.lemmas.Bool.{false≢true}
use Rattle.std.specs.Prelude.{AllPairs}
use Rattle.ipc_base.specs.IdTrees.{no_ids}
use Rattle.ipc_model.proofs.Decided.{size_decides}
use Rattle.ipc_model.specs.Batches.{Place}
use Rattle.ipc_model.specs.Entries.{IsSize}
use Rattle.ipc_model.specs.Writable.{SameUnderId}
use Rattle.ipc_model.specs.Accepted.{Brought, body_length, IsSayable, AreShared, IsAccepted}
use Rattle.ipc_examples.specs.AcceptedRows.{two_fields, under_one_id, AcceptedRows, lengths_offered, values_offered, brought, brought_as, lists_with, offered_to_file, EdgeRows, EncodedRows}
use Rattle.ipc_examples.specs.DictionaryRows.{texts, a, b}

same_texts : IsAccepted (two_fields texts texts) (under_one_id (a ∷ []) (a ∷ []))
same_texts = record {
  count = refl;
  types = refl;
  shared = (((λ e. refl), tt), (tt, tt));
  nodes = (lit< tt, (lit< tt, tt));
  bodies = (lit< tt, tt);
}

to_file : IsAccepted (two_fields texts texts) (offered_to_file (a ∷ b ∷ []))
to_file = record {
  count = refl;
  types = refl;
  shared = (((λ e. refl), tt), (tt, tt));
  nodes = (lit< tt, (lit< tt, (lit< tt, (lit< tt, tt))));
  bodies = (lit< tt, (lit< tt, (lit< tt, tt)));
}

size_is : (n : ℕ) → IsSize (pos n)
size_is n = (size_decides (pos n)).0 refl

abbrev id_number : ℤ → ℕ
id_number (pos n) = n
id_number (negsuc n) = 0

-- the first byte of a text
abbrev pub byte_of : Slot → ℕ
byte_of (text_slot (x ∷ xs)) = x
byte_of _ = 0

abbrev pub first_byte : List Slot → ℕ
first_byte [] = 0
first_byte (x ∷ xs) = byte_of x

pub accepted_rows : AcceptedRows
accepted_rows = record {
  numbers = record { count = refl; types = refl; shared = tt; nodes = (lit< tt, (lit< tt, tt)); bodies = (lit< tt, tt) };
  another_type = λ v. let e = v.types in absurd cc;
  another_count = λ v. let e : 2 ≡ 1 = v.count in absurd (omega arith);
  same_values = same_texts;
  other_values = λ v. let e : 97 ≡ 98 = ap first_byte (v.shared.0.0 refl) in absurd (omega arith);
  kept = record { accepted = to_file; kept = ((refl, refl), ((refl, refl), tt)); few = lit≤ tt; places = (refl, size_is 200, refl, lit< tt, tt) };
  replaced = λ v. let e : 97 ≡ 98 = ap first_byte v.kept.0.0 in absurd (omega arith);
  first_time = record { accepted = to_file; kept = (tt, (tt, tt)); few = lit≤ tt; places = (refl, size_is 200, refl, lit< tt, (refl, size_is 192, refl, lit< tt, tt)) };
  no_block_for_values = λ v. v.places.4;
  block_for_known_values = λ v. v.places.4;
  not_at_the_place = λ v. let e : 1032 ≡ 1024 = ap id_number v.places.0 in absurd (omega arith);
  not_behind = λ v. let e : 1360 ≡ 1352 = ap id_number v.places.4.0 in absurd (omega arith);
  other_body = λ v. let e : 64 ≡ 128 = ap id_number v.places.2 in absurd (omega arith);
  padded_body = refl;
  long_body = λ v. let e : 9223372036854775808 < 9223372036854775808 = v.bodies.0 in absurd (omega arith);
}

-- ---- at the edges

no_columns : (ns body : List ℕ) → AllByRecursion IsSayable ns → IsSayable (body_length body) → IsAccepted no_fields (lengths_offered ns body)
no_columns ns body n b = record { count = refl; types = refl; shared = tt; nodes = n; bodies = (b, tt) }

only_values : (ds : List Brought) → AreShared ds → AllByRecursion (λ lengths. IsSayable (body_length lengths)) (values_offered ds).bodies
    → IsAccepted no_fields (values_offered ds)
only_values ds h b = record { count = refl; types = refl; shared = h; nodes = tt; bodies = b }

apart : (m n : ℕ) → pos m ≡ pos n → m ≡ n
apart m n e = ap id_number e

-- whether a type is a list
abbrev is_list : TypeTree → ℕ
is_list (single s f) = 1
is_list _ = 0

pub edge_rows : EdgeRows
edge_rows = record {
  longest_node = no_columns (1 ∷ 9223372036854775807 ∷ []) [] (lit< tt, (lit< tt, tt)) (lit< tt);
  longer_node = λ v. let e : 9223372036854775808 < 9223372036854775808 = v.nodes.1.0 in absurd (omega arith);
  longest_body = no_columns [] (1 ∷ 9223372036854775680 ∷ []) tt (lit< tt);
  longer_body = λ v. let e : 9223372036854775808 < 9223372036854775808 = v.bodies.0 in absurd (omega arith);
  third_is_other = λ v. let e : 97 ≡ 98 = ap first_byte (v.shared.0.1.0 refl) in absurd (omega arith);
  two_ids = only_values (brought (a ∷ []) ∷ brought_as (pos 1) (plain utf8) (b ∷ []) ∷ [])
      (((λ e. let f : 0 ≡ 1 = apart 0 1 e in absurd (omega arith)), tt), (tt, tt)) (lit< tt, (lit< tt, (lit< tt, tt)));
  most_blocks_there = record { accepted = only_values [] tt (lit< tt, tt); kept = tt; few = lit≤ tt; places = (refl, size_is 8, refl, lit< tt, tt) };
  one_block_more = λ v. let e : 33554433 ≤ 33554432 = v.few in absurd (omega arith);
  last_end = record { accepted = only_values [] tt (lit< tt, tt); kept = tt; few = lit≤ tt; places = (refl, size_is 9223372036854774783, refl, lit< tt, tt) };
  past_the_last_end = λ v. let e : 9223372036854775808 < 9223372036854775808 = v.places.3 in absurd (omega arith);
  kept_in_normal_form = record {
    accepted = only_values (brought_as (pos 0) (lists_with ((data_key, codes "m") ∷ [])) (a ∷ []) ∷ []) (tt, tt) (lit< tt, (lit< tt, tt));
    kept = ((refl, refl), tt);
    few = lit≤ tt;
    places = (refl, size_is 8, refl, lit< tt, tt);
  };
  other_type = λ v. let e : 1 ≡ 0 = ap is_list v.kept.0.1 in absurd (omega arith);
  another_id = record {
    accepted = only_values (brought_as (pos 1) (plain utf8) (b ∷ []) ∷ []) (tt, tt) (lit< tt, (lit< tt, tt));
    kept = (tt, tt);
    few = lit≤ tt;
    places = (refl, size_is 8, refl, lit< tt, (refl, size_is 8, refl, lit< tt, tt));
  };
  negative_metadata = λ v. let h : IsSize (negsuc 7) = v.places.1 in absurd h.le;
  one_list_of_two_types = only_values (brought_as (pos 0) (lists_with ((data_key, codes "m") ∷ [])) (a ∷ []) ∷ brought_as (pos 0) (lists_with []) (a ∷ []) ∷ [])
      (((λ e. refl), tt), (tt, tt)) (lit< tt, (lit< tt, (lit< tt, tt)));
}

abbrev text_place : Place
text_place = record { id = Some (pos 0); type = plain utf8; ids = no_ids }

no_pairs : AllPairs SameUnderId (text_place ∷ [])
no_pairs = λ i j d before inside. absurd (omega (arith, before, inside))

pub encoded_rows : EncodedRows
encoded_rows = record {
  with_an_id = record {
    writable = record {
      fits = ((refl, tt), ((refl, tt), tt));
      types = (tt, ((tt, tt), tt));
      levels = lit≤ tt;
      few_places = lit≤ tt;
      values = no_pairs;
      light = lit≤ tt;
    };
    accepted = record { count = refl; types = refl; shared = (tt, tt); nodes = (lit< tt, (lit< tt, tt)); bodies = (lit< tt, tt) };
  };
  no_id = λ v. absurd (false≢true v.writable.fits.1.0.0);
  few_ids = λ v. v.writable.fits.1;
  a_float = λ v. v.writable.types.0;
  no_name = refl;
}
