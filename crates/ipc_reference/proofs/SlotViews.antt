-- Slots, level by level, and lists of them that grow.
use Rattle.std.proofs.Common.{◌≡◌, ℕ, ℤ, ◌+◌, ◌-◌, ◌<◌, ◌≤◌, List, [], ◌∷◌, ◌++◌, Vec, Global, rules, refl, ap, sym, ◌∙◌, arith, map, length, drop, get_or, cond, true}
use Rattle.std.proofs.lemmas.List.{map_push}
use Rattle.std.proofs.lemmas.List.FromFn.{map-range_with_len_more}
use Rattle.std.specs.List.{range_with_len}
use Rattle.ipc_model.specs.Columns.{is_valid, slot_at, slots_at}
use Rattle.ipc_model.specs.Entries.{Entries, offset}
use Rattle.ipc_model.specs.Kinds.{Kind, list_kind, offsets_32, nodes, buffers}
use Rattle.ipc_reference.proofs.Views.{kinds_left, kinds_none}
use Rattle.ipc_reference.specs.PlainKinds.{kind_view, kinds_view}
use Rattle.ipc_reference.specs.declared.kinds.PlainKind.{PlainKind}
use Rattle.lower_types.specs.NumberTypes.{whole}
use Rattle.lower_arrays.specs.Slots.{Slot, null_slot, number_slot, text_slot, list_slot, record_slot, Slots, no_slots, more_slots, slots_of}
use Rattle.ipc_reference.specs.PlainSlots.{slot_view, slots_view}
use Rattle.ipc_reference.specs.declared.slots.PlainSlot.{PlainSlot, Null, Number, Text, List as ListSlot, Record, the_lemmas}

pub slot-Null : slot_view Null ≡ null_slot
slot-Null = search (rules, the_lemmas)

pub slot-Number : (z : ℤ) → slot_view (Number z) ≡ number_slot (whole z)
slot-Number z = search (rules, the_lemmas)

pub slot-Text : (bytes : Vec ℕ Global) → slot_view (Text bytes) ≡ text_slot bytes.items
slot-Text bytes = search (rules, the_lemmas)

pub slot-List : (items : Vec PlainSlot Global) → slot_view (ListSlot items) ≡ list_slot (slots_of (slots_view items.items))
slot-List items = search (rules, the_lemmas)

pub slot-Record : (fields : Vec PlainSlot Global) → slot_view (Record fields) ≡ record_slot (slots_of (slots_view fields.items))
slot-Record fields = search (rules, the_lemmas)

pub ruleset slots = (slot-Null, slot-Number, slot-Text, slot-List, slot-Record)

-- one more slot
pub pushed : (f : ℕ → Slot) (xs : List PlainSlot) (x : PlainSlot) (from n i : ℕ) → slots_view xs ≡ map f (range_with_len from n) → slot_view x ≡ f i → from + n ≡ i
    → slots_view (xs ++ x ∷ []) ≡ map f (range_with_len from (n + 1))
pushed f xs x from n i e g h =
    map_push slot_view xs x ∙ ap (λ ys. ys ++ slot_view x ∷ []) e ∙ ap (λ y. map f (range_with_len from n) ++ y ∷ []) g
    ∙ sym (map-range_with_len_more f from n i h)

pub read_none : (f : ℕ → Slot) (xs : List PlainSlot) (from : ℕ) → xs ≡ [] → slots_view xs ≡ map f (range_with_len from (from - from))
read_none f xs from e = let n : 0 ≡ from - from = omega arith in ap slots_view e ∙ ap (λ n. map f (range_with_len from n)) n

pub read_more : (f : ℕ → Slot) (xs ys : List PlainSlot) (x : PlainSlot) (from j : ℕ) → ys ≡ xs ++ x ∷ [] → from ≤ j
    → slots_view xs ≡ map f (range_with_len from (j - from)) → slot_view x ≡ f j → slots_view ys ≡ map f (range_with_len from (j + 1 - from))
read_more f xs ys x from j e h g is =
    let n : (j - from) + 1 ≡ j + 1 - from = omega arith in
    let at : from + (j - from) ≡ j = omega arith in
    ap slots_view e ∙ pushed f xs x from (j - from) j g is at ∙ ap (λ n. map f (range_with_len from n)) n

-- Some slots before others.
abbrev pub onto : List Slot → Slots → Slots
onto [] r = r
onto (x ∷ xs) r = more_slots x (onto xs r)

pub onto-none : (xs : List Slot) → onto xs no_slots ≡ slots_of xs
onto-none [] = refl
onto-none (x ∷ xs) = ap (more_slots x) (onto-none xs)

pub onto-push : (xs : List PlainSlot) (x : PlainSlot) (r : Slots) → onto (slots_view (xs ++ x ∷ [])) r ≡ onto (slots_view xs) (more_slots (slot_view x) r)
onto-push [] x r = refl
onto-push (y ∷ ys) x r = ap (more_slots (slot_view y)) (onto-push ys x r)

-- the slots of a list that were read are its slot
pub list_is : (s : Entries) (t : Kind) (a b i from to j : ℕ) (items : Vec PlainSlot Global) → is_valid s a b i ≡ true
    → from ≡ offset s (b + 1) 4 i → to ≡ offset s (b + 1) 4 (i + 1)
    → slots_view items.items ≡ map (λ j. slot_at s t (a + 1) (b + 2) j) (range_with_len from (j - from))
    → to ≤ j → j - from ≤ to - from → slot_view (ListSlot items) ≡ slot_at s (list_kind offsets_32 t) a b i
list_is s t a b i from to j items valid f g e past few =
    let child : ℕ → Slot = λ j. slot_at s t (a + 1) (b + 2) j in
    let n : j - from ≡ offset s (b + 1) 4 (i + 1) - offset s (b + 1) 4 i = omega arith in
    let all : slots_view items.items ≡ map child (range_with_len (offset s (b + 1) 4 i) (offset s (b + 1) 4 (i + 1) - offset s (b + 1) 4 i)) =
    e ∙ ap (λ m. map child (range_with_len from m)) n ∙ ap (λ m. map child (range_with_len m (offset s (b + 1) 4 (i + 1) - offset s (b + 1) 4 i))) f in
    slot-List items ∙ ap (λ xs. list_slot (slots_of xs)) all
    ∙ sym (ap (λ v. cond v (list_slot (slots_of (map child (range_with_len (offset s (b + 1) 4 i) (offset s (b + 1) 4 (i + 1) - offset s (b + 1) 4 i))))) null_slot) valid)

-- One more slot of a struct.
pub record_more : (s : Entries) (ks : List PlainKind) (place i node buffer n m : ℕ) (k : PlainKind) (xs ys : List PlainSlot) (x : PlainSlot) (all : Slots)
    → ys ≡ xs ++ x ∷ [] → k ≡ get_or ks place k → place < length ks
    → onto (slots_view xs) (slots_at s (kinds_view (drop place ks)) node buffer i) ≡ all
    → slot_view x ≡ slot_at s (kind_view k) node buffer i → n ≡ nodes (kind_view k) → m ≡ buffers s.extra (kind_view k)
    → onto (slots_view ys) (slots_at s (kinds_view (drop (place + 1) ks)) (node + n) (buffer + m) i) ≡ all
record_more s ks place i node buffer n m k xs ys x all f is h e g nodes_is buffers_is =
    ap (λ zs. onto (slots_view zs) (slots_at s (kinds_view (drop (place + 1) ks)) (node + n) (buffer + m) i)) f
    ∙ ap (λ z. onto (slots_view (xs ++ x ∷ [])) (slots_at s (kinds_view (drop (place + 1) ks)) (node + z) (buffer + m) i)) nodes_is
    ∙ ap (λ z. onto (slots_view (xs ++ x ∷ [])) (slots_at s (kinds_view (drop (place + 1) ks)) (node + nodes (kind_view k)) (buffer + z) i)) buffers_is
    ∙ onto-push xs x (slots_at s (kinds_view (drop (place + 1) ks)) (node + nodes (kind_view k)) (buffer + buffers s.extra (kind_view k)) i)
    ∙ ap (λ y. onto (slots_view xs) (more_slots y (slots_at s (kinds_view (drop (place + 1) ks)) (node + nodes (kind_view k)) (buffer + buffers s.extra (kind_view k)) i))) g
    ∙ sym (ap (λ ts. onto (slots_view xs) (slots_at s ts node buffer i)) (kinds_left ks place k is h))
    ∙ e

pub record_all : (s : Entries) (ks : List PlainKind) (place i node buffer : ℕ) (xs : List PlainSlot) (all : Slots) → length ks ≤ place
    → onto (slots_view xs) (slots_at s (kinds_view (drop place ks)) node buffer i) ≡ all → slots_of (slots_view xs) ≡ all
record_all s ks place i node buffer xs all h e =
    sym (onto-none (slots_view xs)) ∙ sym (ap (λ ts. onto (slots_view xs) (slots_at s ts node buffer i)) (kinds_none ks place h)) ∙ e
