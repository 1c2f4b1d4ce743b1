-- Each case is computed.
use Rattle.std.proofs.Common.{◌≡◌, ℕ, ◌<◌, List, [], ◌∷◌, lit<, refl, ap, arith}
use Rattle.lower.specs.TypeTrees.{Pairs, TypeTree, single, FieldTree, field}
use Rattle.ipc_examples.proofs.AcceptedRows.{first_byte}
use Rattle.ipc_examples.specs.OfferRows.{LengthRows, FilledRows, ChunkRows}

pub length_rows : LengthRows
length_rows = record {
  two_numbers = refl;
  five_bits = refl;
  nulls = refl;
  large_texts = refl;
  slice_of_bytes = refl;
  slice_of_lists = refl;
  lists_in_lists = refl;
  structs = refl;
  structs_in_lists = refl;
  slice_of_pairs = refl;
  map_of_two = refl;
  sparse = refl;
  dense = refl;
  dense_slice = refl;
  body_of_structs = refl;
  body_of_maps = refl;
}

pub place_rows : FilledRows
place_rows = record { one_place = refl; nested_places = refl; in_column_order = refl }

-- the name and the metadata of the child of the first type
abbrev child_name : FieldTree → List ℕ
child_name (field name t nullable metadata) = name

abbrev child_pairs : FieldTree → Pairs
child_pairs (field name t nullable metadata) = metadata

abbrev child_of : (FieldTree → List ℕ) → TypeTree → List ℕ
child_of f (single s d) = f d
child_of f _ = []

abbrev first_of : (FieldTree → List ℕ) → List TypeTree → List ℕ
first_of f [] = []
first_of f (t ∷ ts) = child_of f t

abbrev head_of : List ℕ → ℕ
head_of [] = 0
head_of (x ∷ xs) = x

abbrev key_of : Pairs → List ℕ
key_of [] = []
key_of (e ∷ es) = e.0

pub chunk_rows : ChunkRows
chunk_rows = record {
  demo_offer = refl;
  demo_chunk = record { count = refl; types = refl; shared = tt; nodes = (lit< tt, (lit< tt, tt)); bodies = (lit< tt, tt) };
  another_type = λ v. let e = v.types in absurd cc;
  column_missing = λ v. let e : 1 ≡ 2 = v.count in absurd (omega arith);
  nested_list = record { count = refl; types = refl; shared = tt; nodes = (lit< tt, (lit< tt, tt)); bodies = (lit< tt, tt) };
  another_metadata = λ v. let e : 0 ≡ 107 = ap (λ ts. head_of (first_of (λ f. key_of (child_pairs f)) ts)) v.types in absurd (omega arith);
  another_name = λ v. let e : 102 ≡ 103 = ap (λ ts. head_of (first_of child_name ts)) v.types in absurd (omega arith);
  same_values = record {
    count = refl;
    types = refl;
    shared = (((λ e. refl), tt), (tt, tt));
    nodes = (lit< tt, (lit< tt, (lit< tt, (lit< tt, tt))));
    bodies = (lit< tt, (lit< tt, (lit< tt, tt)));
  };
  other_values = λ v. let e : 97 ≡ 98 = ap first_byte (v.shared.0.0 refl) in absurd (omega arith);
  long_child = record { count = refl; types = refl; shared = tt; nodes = (lit< tt, (lit< tt, tt)); bodies = (lit< tt, tt) };
  longer_child = λ v. let e : 9223372036854775808 < 9223372036854775808 = v.nodes.1.0 in absurd (omega arith);
}
