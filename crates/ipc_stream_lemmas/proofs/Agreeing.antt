-- Columns of readers that have the same values under the ids that the columns name.
use Rattle.std.proofs.Common.{◌≡◌, ℕ, zero, suc, ℤ, ◌+◌, ◌-◌, ◌*◌, ◌&&◌, nat_le, nat_lt, cond, Bool, true, List, [], ◌∷◌, map, length, slice_index_or, Option, None, Some, option_map, option_and_then, refl, ap, ◌∙◌}
use Rattle.std.specs.List.{range_with_len}
use Rattle.lower.specs.declared.datatypes.UnionMode.TheVariants.{Sparse, Dense}
use Rattle.lower.specs.TypeTrees.{FieldTrees}
use Rattle.lower_types.specs.NumberTypes.{width_of}
use Rattle.lower_arrays.specs.Slots.{Slot, null_slot, list_slot, record_slot, variant_slot, Slots, more_slots, slots_of}
use Rattle.ipc_model.specs.Batches.{Schema, kinds, Body, Lists, lists_of, entries_of, kind_at, type_at, own, rows_at, slots_of_column, chosen, first_rows, Chunk, chunk_of, all_read, are_bounded, is_projection, is_batch, batch, record_meaning}
use Rattle.ipc_model.specs.Columns.{slots_in, masked, is_valid, last_offset, child_rows, type_at as variant_type, child_at, place_at, slot_at, slots_at, child_slot}
use Rattle.ipc_model.specs.Entries.{Entries, part_at, size, node, Dictionary, Dictionaries, Limit, rows, times, integer, offset}
use Rattle.ipc_model.specs.Kinds.{offsets_32, offset_width, Kind, null_kind, boolean_kind, number_kind, float_kind, fixed_binary_kind, binary_kind, utf8_kind, list_kind, map_kind, fixed_list_kind, struct_kind, union_kind, dictionary_kind, extension_kind, Kinds, no_kinds, more_kinds, count, nodes, all_nodes, buffers, all_buffers}
use Rattle.ipc_model.specs.Tests.{is_size, is_index, all_below, has_bytes, begins, has_offsets, has_types, is_union, reaches, is_type, is_pair, is_some, with_rows, is_well, all_have_rows, all_well}
use Rattle.ipc_stream_lemmas.specs.Agreement.{AgreeOn, AgreeOnAll, AgreeOnChosen, KnowAlike, AlikeRecordLaw}

-- the same entries, with other dictionaries
abbrev pub knowing : Entries → Dictionaries → Entries
knowing s ds = record { nodes = s.nodes; parts = s.parts; order = s.order; extra = s.extra; dictionaries = ds }

pub map_alike : {A B : Type 0} (f g : A → B) → ((x : A) → f x ≡ g x) → (xs : List A) → map f xs ≡ map g xs
map_alike f g e [] = refl
map_alike f g e (x ∷ xs) = ap (λ y. y ∷ map f xs) (e x) ∙ ap (λ ys. g x ∷ ys) (map_alike f g e xs)

below_alike : (f g : ℕ → Bool) → ((i : ℕ) → f i ≡ g i) → (n : ℕ) → all_below n f ≡ all_below n g
below_alike f g e zero = refl
below_alike f g e (suc n) = ap (λ (v : Bool). v && all_below n f) (e n) ∙ ap (λ (v : Bool). g n && v) (below_alike f g e n)

-- ---- well formed columns

child_rows_alike : (s : Entries) (ds es : Dictionaries) (ts : Kinds) (a n : ℕ) → child_rows (knowing s ds) ts a n ≡ child_rows (knowing s es) ts a n
child_rows_alike s ds es no_kinds a n = refl
child_rows_alike s ds es (more_kinds t ts) a zero = refl
child_rows_alike s ds es (more_kinds t ts) a (suc n) = child_rows_alike s ds es ts (a + nodes t) n

reaches_alike : (s : Entries) (ds es : Dictionaries) (ids : Option (List ℤ)) (ts : Kinds) (a u k : ℕ) → reaches (knowing s ds) ids ts a u k ≡ reaches (knowing s es) ids ts a u k
reaches_alike s ds es ids ts a u k =
    ap (λ (v : Bool). has_bytes s (u + 1) (4 * k) && v)
    (below_alike (λ i. is_index (place_at s (u + 1) i) (child_rows (knowing s ds) ts a (child_at s ids (count ts) u i)))
    (λ i. is_index (place_at s (u + 1) i) (child_rows (knowing s es) ts a (child_at s ids (count ts) u i)))
    (λ i. ap (λ (n : ℕ). is_index (place_at s (u + 1) i) n) (child_rows_alike s ds es ts a (child_at s ids (count ts) u i))) k)

mutual
  well_alike : (s : Entries) (ds es : Dictionaries) (t : Kind) (a b : ℕ) (limit : Limit) → AgreeOn t ds es → is_well (knowing s ds) t a b limit ≡ is_well (knowing s es) t a b limit
  well_alike s ds es null_kind a b limit e = refl
  well_alike s ds es boolean_kind a b limit e = refl
  well_alike s ds es (number_kind f) a b limit e = refl
  well_alike s ds es float_kind a b limit e = refl
  well_alike s ds es (fixed_binary_kind n) a b limit e = refl
  well_alike s ds es (binary_kind w) a b limit e = refl
  well_alike s ds es (utf8_kind w) a b limit e = refl
  well_alike s ds es (list_kind w t) a b limit e =
      let k = rows s a limit in
      let last = last_offset s (b + 1) (offset_width w) k in
      ap (λ (v : Bool). begins s a b k && (has_offsets s (b + 1) (offset_width w) k && with_rows v (rows s (a + 1) (Some last)) last)) (well_alike s ds es t (a + 1) (b + 2) (Some last) e)
  well_alike s ds es (map_kind t) a b limit e =
      let k = rows s a limit in
      let last = last_offset s (b + 1) (offset_width offsets_32) k in
      ap (λ (v : Bool). is_pair t && (begins s a b k && (has_offsets s (b + 1) (offset_width offsets_32) k && with_rows v (rows s (a + 1) (Some last)) last))) (well_alike s ds es t (a + 1) (b + 2) (Some last) e)
  well_alike s ds es (fixed_list_kind n t) a b limit e =
      let k = rows s a limit in
      ap (λ (v : Bool). nat_lt 0 n && (begins s a b k && with_rows v (rows s (a + 1) (times limit n)) (k * n))) (well_alike s ds es t (a + 1) (b + 1) (times limit n) e)
  well_alike s ds es (struct_kind ts) a b limit e =
      let k = rows s a limit in
      ap (λ (v : Bool). is_some ts && (begins s a b k && v)) (rows_alike s ds es ts (a + 1) (b + 1) limit k e)
  well_alike s ds es (union_kind Sparse ids ts) a b limit e =
      let k = rows s a limit in
      ap (λ (v : Bool). is_size (node s a).length && (is_union ids (count ts) && (has_types s ids (count ts) (b + s.extra) k && v)))
      (rows_alike s ds es ts (a + 1) (b + s.extra + 1) limit k e)
  well_alike s ds es (union_kind Dense ids ts) a b limit e =
      let k = rows s a limit in
      ap (λ (v : Bool). is_size (node s a).length && (is_union ids (count ts) && (has_types s ids (count ts) (b + s.extra) k && (v && all_well (knowing s ds) ts (a + 1) (b + s.extra + 2)))))
      (reaches_alike s ds es ids ts (a + 1) (b + s.extra) k)
      ∙ ap (λ (v : Bool). is_size (node s a).length && (is_union ids (count ts) && (has_types s ids (count ts) (b + s.extra) k && (reaches (knowing s es) ids ts (a + 1) (b + s.extra) k && v))))
      (all_alike s ds es ts (a + 1) (b + s.extra + 2) e)
  well_alike s ds es (dictionary_kind f None t) a b limit e = refl
  well_alike s ds es (dictionary_kind f (Some id) t) a b limit e =
      let k = rows s a limit in
      ap (λ (o : Option Dictionary). begins s a b k && (has_bytes s (b + 1) (width_of f * k)
      && (is_type (option_map (λ d. d.type) o) t && all_below k (λ i. cond (is_valid s a b i) (is_index (integer s (b + 1) f i) (length (slots_in o))) true)))) e
  well_alike s ds es (extension_kind t) a b limit e = well_alike s ds es t a b limit e

  rows_alike : (s : Entries) (ds es : Dictionaries) (ts : Kinds) (a b : ℕ) (limit : Limit) (k : ℕ) → AgreeOnAll ts ds es
      → all_have_rows (knowing s ds) ts a b limit k ≡ all_have_rows (knowing s es) ts a b limit k
  rows_alike s ds es no_kinds a b limit k e = refl
  rows_alike s ds es (more_kinds t ts) a b limit k e =
      ap (λ (v : Bool). with_rows v (rows s a limit) k && all_have_rows (knowing s ds) ts (a + nodes t) (b + buffers s.extra t) limit k) (well_alike s ds es t a b limit e.0)
      ∙ ap (λ (v : Bool). with_rows (is_well (knowing s es) t a b limit) (rows s a limit) k && v) (rows_alike s ds es ts (a + nodes t) (b + buffers s.extra t) limit k e.1)

  all_alike : (s : Entries) (ds es : Dictionaries) (ts : Kinds) (a b : ℕ) → AgreeOnAll ts ds es → all_well (knowing s ds) ts a b ≡ all_well (knowing s es) ts a b
  all_alike s ds es no_kinds a b e = refl
  all_alike s ds es (more_kinds t ts) a b e =
      ap (λ (v : Bool). v && all_well (knowing s ds) ts (a + nodes t) (b + buffers s.extra t)) (well_alike s ds es t a b None e.0)
      ∙ ap (λ (v : Bool). is_well (knowing s es) t a b None && v) (all_alike s ds es ts (a + nodes t) (b + buffers s.extra t) e.1)

-- ---- slots

mutual
  slot_alike : (s : Entries) (ds es : Dictionaries) (t : Kind) (a b i : ℕ) → AgreeOn t ds es → slot_at (knowing s ds) t a b i ≡ slot_at (knowing s es) t a b i
  slot_alike s ds es null_kind a b i e = refl
  slot_alike s ds es boolean_kind a b i e = refl
  slot_alike s ds es (number_kind f) a b i e = refl
  slot_alike s ds es float_kind a b i e = refl
  slot_alike s ds es (fixed_binary_kind n) a b i e = refl
  slot_alike s ds es (binary_kind w) a b i e = refl
  slot_alike s ds es (utf8_kind w) a b i e = refl
  slot_alike s ds es (list_kind w t) a b i e =
      let from = offset s (b + 1) (offset_width w) i in
      let to = offset s (b + 1) (offset_width w) (i + 1) in
      ap (λ (xs : List Slot). masked s a b i (list_slot (slots_of xs)))
      (map_alike (λ j. slot_at (knowing s ds) t (a + 1) (b + 2) j) (λ j. slot_at (knowing s es) t (a + 1) (b + 2) j) (λ j. slot_alike s ds es t (a + 1) (b + 2) j e) (range_with_len from (to - from)))
  slot_alike s ds es (map_kind t) a b i e =
      let from = offset s (b + 1) (offset_width offsets_32) i in
      let to = offset s (b + 1) (offset_width offsets_32) (i + 1) in
      ap (λ (xs : List Slot). masked s a b i (list_slot (slots_of xs)))
      (map_alike (λ j. slot_at (knowing s ds) t (a + 1) (b + 2) j) (λ j. slot_at (knowing s es) t (a + 1) (b + 2) j) (λ j. slot_alike s ds es t (a + 1) (b + 2) j e) (range_with_len from (to - from)))
  slot_alike s ds es (fixed_list_kind n t) a b i e =
      ap (λ (xs : List Slot). masked s a b i (list_slot (slots_of xs)))
      (map_alike (λ j. slot_at (knowing s ds) t (a + 1) (b + 1) j) (λ j. slot_at (knowing s es) t (a + 1) (b + 1) j) (λ j. slot_alike s ds es t (a + 1) (b + 1) j e) (range_with_len (n * i) (n * (i + 1) - n * i)))
  slot_alike s ds es (struct_kind ts) a b i e = ap (λ (xs : Slots). masked s a b i (record_slot xs)) (slots_alike s ds es ts (a + 1) (b + 1) i e)
  slot_alike s ds es (union_kind Sparse ids ts) a b i e =
      ap (λ (x : Slot). variant_slot (variant_type s (b + s.extra) i) x) (child_alike s ds es ts (a + 1) (b + s.extra + 1) (child_at s ids (count ts) (b + s.extra) i) i e)
  slot_alike s ds es (union_kind Dense ids ts) a b i e =
      ap (λ (x : Slot). variant_slot (variant_type s (b + s.extra) i) x)
      (child_alike s ds es ts (a + 1) (b + s.extra + 2) (child_at s ids (count ts) (b + s.extra) i) (size (place_at s (b + s.extra + 1) i)) e)
  slot_alike s ds es (dictionary_kind f None t) a b i e = refl
  slot_alike s ds es (dictionary_kind f (Some id) t) a b i e =
      ap (λ (o : Option Dictionary). masked s a b i (slice_index_or (slots_in o) (size (integer s (b + 1) f i)) null_slot)) e
  slot_alike s ds es (extension_kind t) a b i e = slot_alike s ds es t a b i e

  slots_alike : (s : Entries) (ds es : Dictionaries) (ts : Kinds) (a b i : ℕ) → AgreeOnAll ts ds es → slots_at (knowing s ds) ts a b i ≡ slots_at (knowing s es) ts a b i
  slots_alike s ds es no_kinds a b i e = refl
  slots_alike s ds es (more_kinds t ts) a b i e =
      ap (λ (x : Slot). more_slots x (slots_at (knowing s ds) ts (a + nodes t) (b + buffers s.extra t) i)) (slot_alike s ds es t a b i e.0)
      ∙ ap (λ (xs : Slots). more_slots (slot_at (knowing s es) t a b i) xs) (slots_alike s ds es ts (a + nodes t) (b + buffers s.extra t) i e.1)

  child_alike : (s : Entries) (ds es : Dictionaries) (ts : Kinds) (a b n i : ℕ) → AgreeOnAll ts ds es → child_slot (knowing s ds) ts a b n i ≡ child_slot (knowing s es) ts a b n i
  child_alike s ds es no_kinds a b n i e = refl
  child_alike s ds es (more_kinds t ts) a b zero i e = slot_alike s ds es t a b i e.0
  child_alike s ds es (more_kinds t ts) a b (suc n) i e = child_alike s ds es ts (a + nodes t) (b + buffers s.extra t) n i e.1

-- ---- batches

read_alike : (s : Entries) (ds es : Dictionaries) (ts : Kinds) (limit : Limit) (k : ℕ) (js : List ℕ) → AgreeOnChosen ts js ds es → all_read (knowing s ds) ts limit k js ≡ all_read (knowing s es) ts limit k js
read_alike s ds es ts limit k [] e = refl
read_alike s ds es ts limit k (j ∷ js) e =
    ap (λ (v : Bool). with_rows v (rows_at s ts limit j) k && all_read (knowing s ds) ts limit k js) (well_alike (own s ts j) ds es (kind_at ts j) 0 0 limit e.0)
    ∙ ap (λ (v : Bool). with_rows (is_well (own (knowing s es) ts j) (kind_at ts j) 0 0 limit) (rows_at s ts limit j) k && v) (read_alike s ds es ts limit k js e.1)

first_alike : (s : Entries) (ds es : Dictionaries) (ts : Kinds) (limit : Limit) (js : List ℕ) → first_rows (knowing s ds) ts limit js ≡ first_rows (knowing s es) ts limit js
first_alike s ds es ts limit [] = refl
first_alike s ds es ts limit (j ∷ js) = refl

column_alike : (s : Entries) (ds es : Dictionaries) (ts : Kinds) (limit : Limit) (j : ℕ) → AgreeOn (kind_at ts j) ds es → slots_of_column (knowing s ds) ts limit j ≡ slots_of_column (knowing s es) ts limit j
column_alike s ds es ts limit j e =
    let u = own s ts j in
    let t = kind_at ts j in
    map_alike (λ i. slot_at (knowing u ds) t 0 0 i) (λ i. slot_at (knowing u es) t 0 0 i) (λ i. slot_alike u ds es t 0 0 i e) (range_with_len 0 (rows u 0 limit))

chunk_alike : (s : Entries) (ds es : Dictionaries) (fs : FieldTrees) (ts : Kinds) (js : List ℕ) (limit : Limit) → AgreeOnChosen ts js ds es → chunk_of (knowing s ds) fs ts js limit ≡ chunk_of (knowing s es) fs ts js limit
chunk_alike s ds es fs ts [] limit e = refl
chunk_alike s ds es fs ts (j ∷ js) limit e =
    ap (λ (xs : List Slot). record { type = type_at fs j; slots = xs } ∷ chunk_of (knowing s ds) fs ts js limit) (column_alike s ds es ts limit j e.0)
    ∙ ap (λ (cs : Chunk). record { type = type_at fs j; slots = slots_of_column (knowing s es) ts limit j } ∷ cs) (chunk_alike s ds es fs ts js limit e.1)

pub batch_alike : (s : Entries) (ds es : Dictionaries) (most : ℕ) (schema : Schema) (projection : Option (List ℕ)) (limit : Limit)
    → AgreeOnChosen (kinds schema) (chosen projection (count (kinds schema))) ds es
    → batch (knowing s ds) most schema projection limit ≡ batch (knowing s es) most schema projection limit
unfolding batch
batch_alike s ds es most schema projection limit e =
    let ts = kinds schema in
    let js = chosen projection (count ts) in
    let read : all_read (knowing s ds) ts limit (first_rows (knowing s ds) ts limit js) js ≡ all_read (knowing s es) ts limit (first_rows (knowing s es) ts limit js) js =
    ap (λ k. all_read (knowing s ds) ts limit k js) (first_alike s ds es ts limit js) ∙ read_alike s ds es ts limit (first_rows (knowing s es) ts limit js) js e in
    let test : is_batch (knowing s ds) most ts js limit ≡ is_batch (knowing s es) most ts js limit =
    ap (λ (v : Bool). are_bounded s most && (nat_le (all_nodes ts) (length s.nodes) && (nat_le (all_buffers s.extra ts) (length s.parts) && v))) read in
    ap (λ (o : Option Chunk). cond (is_projection projection (count ts)) o None)
    (ap (λ (v : Bool). cond v (Some (chunk_of (knowing s ds) schema.fields ts js limit)) None) test
    ∙ ap (λ (c : Chunk). cond (is_batch (knowing s es) most ts js limit) (Some c) None) (chunk_alike s ds es schema.fields ts js limit e))

-- ---- records

-- The entries of a batch, without dictionaries.
abbrev pub listed : Lists → Body → Schema → ℕ → Entries
listed lists body schema extra = record { nodes = lists.nodes; parts = map (part_at body.source body.base) lists.buffers; order = schema.order; extra = extra; dictionaries = [] }

lists_alike : (schema : Schema) (extra : ℕ) (ds es : Dictionaries) (body : Body) (projection : Option (List ℕ)) (limit : Limit) (o : Option Lists)
    → AgreeOnChosen (kinds schema) (chosen projection (count (kinds schema))) ds es
    → option_and_then (λ (lists : Lists). batch (entries_of lists body schema.order extra ds) body.size schema projection limit) o
    ≡ option_and_then (λ (lists : Lists). batch (entries_of lists body schema.order extra es) body.size schema projection limit) o
unfolding entries_of
lists_alike schema extra ds es body projection limit None e = refl
lists_alike schema extra ds es body projection limit (Some lists) e = batch_alike (listed lists body schema extra) ds es body.size schema projection limit e

pub alike_record_law : AlikeRecordLaw
unfolding record_meaning
alike_record_law schema extra ds es body t projection limit e = lists_alike schema extra ds es body projection limit (lists_of t) e

-- ---- readers that know the same at each id

mutual
  agree_on : (t : Kind) (ds es : Dictionaries) → KnowAlike ds es → AgreeOn t ds es
  agree_on null_kind ds es a = tt
  agree_on boolean_kind ds es a = tt
  agree_on (number_kind f) ds es a = tt
  agree_on float_kind ds es a = tt
  agree_on (fixed_binary_kind n) ds es a = tt
  agree_on (binary_kind w) ds es a = tt
  agree_on (utf8_kind w) ds es a = tt
  agree_on (list_kind w t) ds es a = agree_on t ds es a
  agree_on (map_kind t) ds es a = agree_on t ds es a
  agree_on (fixed_list_kind n t) ds es a = agree_on t ds es a
  agree_on (struct_kind ts) ds es a = agree_on_all ts ds es a
  agree_on (union_kind mode ids ts) ds es a = agree_on_all ts ds es a
  agree_on (dictionary_kind f None t) ds es a = tt
  agree_on (dictionary_kind f (Some id) t) ds es a = a.each id
  agree_on (extension_kind t) ds es a = agree_on t ds es a

  agree_on_all : (ts : Kinds) (ds es : Dictionaries) → KnowAlike ds es → AgreeOnAll ts ds es
  agree_on_all no_kinds ds es a = tt
  agree_on_all (more_kinds t ts) ds es a = (agree_on t ds es a, agree_on_all ts ds es a)

agree_at : (ts : Kinds) (j : ℕ) (ds es : Dictionaries) → KnowAlike ds es → AgreeOn (kind_at ts j) ds es
agree_at no_kinds j ds es a = tt
agree_at (more_kinds t ts) zero ds es a = agree_on t ds es a
agree_at (more_kinds t ts) (suc j) ds es a = agree_at ts j ds es a

pub agree_chosen : (ts : Kinds) (js : List ℕ) (ds es : Dictionaries) → KnowAlike ds es → AgreeOnChosen ts js ds es
agree_chosen ts [] ds es a = tt
agree_chosen ts (j ∷ js) ds es a = (agree_at ts j ds es a, agree_chosen ts js ds es a)
