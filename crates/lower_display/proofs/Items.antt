-- Slots of nested types that are written part by part.
use Rattle.std.proofs.Common.{arith, refl, sym, ap, ◌∙◌, ◌≡◌, ℕ, suc, ◌+◌, ◌-◌, ◌<◌, ◌≤◌, ◌==◌, ℤ, min, List, [], ◌∷◌, ◌++◌, length, drop, get_or, codes, string_bytes, append_assoc, append-nil, ◌⊎◌, ⊎_elim}
use Rattle.std.proofs.lemmas.List.{at_drop_more, drop_all}
use Rattle.lower.specs.TypeTrees.{TypeTree, FieldTree, FieldTrees, field, no_fields, more_fields}
use Rattle.lower.specs.TypeViews.{type_view, field_view, fields_view, type_step, field_step, pairs_of}
use Rattle.lower.specs.declared.datatypes.Field.{Field, fold_out-Field}
use Rattle.lower_validation.specs.Fields.{field_type}
use Rattle.lower_arrays.specs.Slots.{Slot, record_slot, Slots, no_slots, slots_of, slots_from, slot_at}
use Rattle.lower_arrays.specs.AnyLayouts.{layout_of}
use Rattle.lower_arrays.specs.Values.{record_slots, nested_slot}
use Rattle.lower_arrays.specs.declared.array.AnyArray.{AnyArray}
use Rattle.lower_arrays.specs.declared.value.Nesting.TheVariants.{List as ListOf, Variant}
use Rattle.lower_arrays.proofs.SameSlots.{first_is}
use Rattle.lower_display.specs.Texts.{comma, name_of_field, shown_type, item_type, record_fields, variant_type, slot_text, items_text, members_text}

-- ---- items
pub items_begin : (f : ℕ → Slot) (t : TypeTree) (null : List ℕ) (a n : ℕ)
    → [] ++ items_text t null 0 (slots_of (slots_from f (a + 0) (n - 0))) ≡ items_text t null 0 (slots_of (slots_from f a n))
items_begin f t null a n =
    let first : a + 0 ≡ a = omega arith in
    let all : n - 0 ≡ n = omega arith in
    λ i. items_text t null 0 (slots_of (slots_from f (first i) (all i)))

regroup : (a b c d : List ℕ) → ((a ++ b) ++ c) ++ d ≡ a ++ (b ++ (c ++ d))
regroup a b c d = append_assoc (a ++ b) c d ∙ append_assoc a b (c ++ d)

pub items_more : (f : ℕ → Slot) (t : TypeTree) (null : List ℕ) (a n i : ℕ) (done all before : List ℕ)
    → i < n → before ≡ comma (i == 0)
    → done ++ items_text t null i (slots_of (slots_from f (a + i) (n - i))) ≡ all
    → ((done ++ before) ++ slot_text t null (f (a + i))) ++ items_text t null (i + 1) (slots_of (slots_from f (a + (i + 1)) (n - (i + 1)))) ≡ all
items_more f t null a n i done all before below is h =
    let m = n - (i + 1) in
    let left : suc m ≡ n - i = omega (arith, below) in
    let next : a + (i + 1) ≡ a + i + 1 = omega arith in
    let x = slot_text t null (f (a + i)) in
    regroup done before x (items_text t null (i + 1) (slots_of (slots_from f (a + (i + 1)) m)))
    ∙ ap (λ (b : List ℕ). done ++ (b ++ (x ++ items_text t null (i + 1) (slots_of (slots_from f (a + (i + 1)) m))))) is
    ∙ ap (λ (p : ℕ). done ++ (comma (i == 0) ++ (x ++ items_text t null (i + 1) (slots_of (slots_from f p m))))) next
    ∙ ap (λ (k : ℕ). done ++ items_text t null i (slots_of (slots_from f (a + i) k))) left
    ∙ h

pub items_end : (f : ℕ → Slot) (t : TypeTree) (null : List ℕ) (a n i : ℕ) (done all : List ℕ) → n ≤ i
    → done ++ items_text t null i (slots_of (slots_from f (a + i) (n - i))) ≡ all → done ≡ all
items_end f t null a n i done all past h =
    let none : 0 ≡ n - i = omega (arith, past) in
    sym (append-nil done) ∙ ap (λ (k : ℕ). done ++ items_text t null i (slots_of (slots_from f (a + i) k))) none ∙ h

-- ---- members
pub view-field : (f : Field) → field_view f ≡ field (string_bytes f.name) (type_view f.data_type) f.is_nullable (pairs_of f.metadata.entries)
view-field = fold_out-Field TypeTree FieldTree type_step field_step

regroup_more : (a b c d e x : List ℕ) → ((((a ++ b) ++ c) ++ d) ++ e) ++ x ≡ a ++ (b ++ (c ++ (d ++ (e ++ x))))
regroup_more a b c d e x = append_assoc (((a ++ b) ++ c) ++ d) e x ∙ append_assoc ((a ++ b) ++ c) d (e ++ x) ∙ regroup a b c (d ++ (e ++ x))

pub members_more : (fields : List Field) (children : List AnyArray) (null : List ℕ) (p i : ℕ) (f : Field) (c : AnyArray) (done all before : List ℕ)
    → i < length fields → i < length children → f ≡ get_or fields i f → c ≡ get_or children i c → before ≡ comma (i == 0)
    → done ++ members_text (fields_view (drop i fields)) null i (slots_of (record_slots (drop i children) p)) ≡ all
    → ((((done ++ before) ++ string_bytes f.name) ++ codes ": ") ++ slot_text (type_view f.data_type) null (slot_at (layout_of c) p))
    ++ members_text (fields_view (drop (i + 1) fields)) null (i + 1) (slots_of (record_slots (drop (i + 1) children) p)) ≡ all
members_more fields children null p i f c done all before named there found child is h =
    let rest = members_text (fields_view (drop (i + 1) fields)) null (i + 1) (slots_of (record_slots (drop (i + 1) children) p)) in
    regroup_more done before (string_bytes f.name) (codes ": ") (slot_text (type_view f.data_type) null (slot_at (layout_of c) p)) rest
    ∙ ap (λ (b : List ℕ). done ++ (b ++ (string_bytes f.name ++ (codes ": " ++ (slot_text (type_view f.data_type) null (slot_at (layout_of c) p) ++ rest))))) is
    ∙ ap (λ (x : FieldTree). done ++ (comma (i == 0) ++ (name_of_field x ++ (codes ": " ++ (slot_text (field_type x) null (slot_at (layout_of c) p) ++ rest))))) (sym (view-field f))
    ∙ ap (λ (x : Field). done ++ (comma (i == 0) ++ (name_of_field (field_view x) ++ (codes ": " ++ (slot_text (field_type (field_view x)) null (slot_at (layout_of c) p) ++ rest))))) found
    ∙ ap (λ (y : AnyArray). done ++ (comma (i == 0) ++ (name_of_field (field_view (get_or fields i f)) ++ (codes ": " ++ (slot_text (field_type (field_view (get_or fields i f))) null (slot_at (layout_of y) p) ++ rest))))) child
    ∙ ap (λ (s : List ℕ). done ++ s) (sym (at_drop_more (λ (ys : List AnyArray). members_text (fields_view (get_or fields i f ∷ drop (i + 1) fields)) null i (slots_of (record_slots ys p))) children i c there))
    ∙ ap (λ (s : List ℕ). done ++ s) (sym (at_drop_more (λ (xs : List Field). members_text (fields_view xs) null i (slots_of (record_slots (drop i children) p))) fields i f named))
    ∙ h

no_members : (fs : FieldTrees) (null : List ℕ) (i : ℕ) → members_text fs null i no_slots ≡ []
no_members no_fields null i = refl
no_members (more_fields f fs) null i = refl

pub members_end : (fields : List Field) (children : List AnyArray) (null : List ℕ) (p i : ℕ) (done all : List ℕ)
    → (length fields ≤ i) ⊎ (length children ≤ i)
    → done ++ members_text (fields_view (drop i fields)) null i (slots_of (record_slots (drop i children) p)) ≡ all → done ≡ all
members_end fields children null p i done all past h =
    let over : [] ≡ members_text (fields_view (drop i fields)) null i (slots_of (record_slots (drop i children) p)) =
    ⊎_elim
    (λ (l : length fields ≤ i). ap (λ (xs : List Field). members_text (fields_view xs) null i (slots_of (record_slots (drop i children) p))) (sym (drop_all i fields l)))
    (λ (l : length children ≤ i).
    sym (no_members (fields_view (drop i fields)) null i)
    ∙ ap (λ (ys : List AnyArray). members_text (fields_view (drop i fields)) null i (slots_of (record_slots ys p))) (sym (drop_all i children l)))
    past
    in
    sym (append-nil done) ∙ ap (λ (s : List ℕ). done ++ s) over ∙ h

pub past_one : (m n i : ℕ) → min m n ≤ i → (m ≤ i) ⊎ (n ≤ i)
past_one m n i h = grind arith

-- ---- whole slots
pub list_text : (t u : TypeTree) (null : List ℕ) (cs : List AnyArray) (x : AnyArray) (i n : ℕ) → 0 < length cs → x ≡ get_or cs 0 x → u ≡ item_type (shown_type t)
    → codes "[" ++ (items_text u null 0 (slots_of (slots_from (slot_at (layout_of x)) i n)) ++ codes "]") ≡ slot_text t null (nested_slot (ListOf n) cs i)
list_text t u null cs x i n some here same =
    ap (λ (v : TypeTree). codes "[" ++ (items_text v null 0 (slots_of (slots_from (slot_at (layout_of x)) i n)) ++ codes "]")) same
    ∙ ap (λ (f : ℕ → Slot). codes "[" ++ (items_text (item_type (shown_type t)) null 0 (slots_of (slots_from f i n)) ++ codes "]")) (sym (first_is cs x some here))

pub record_text : (t : TypeTree) (fs : FieldTrees) (null : List ℕ) (xs : Slots) → fs ≡ record_fields (shown_type t)
    → codes "{" ++ (members_text fs null 0 xs ++ codes "}") ≡ slot_text t null (record_slot xs)
record_text t fs null xs same = ap (λ (gs : FieldTrees). codes "{" ++ (members_text gs null 0 xs ++ codes "}")) same

pub variant_text : (t u : TypeTree) (null : List ℕ) (cs : List AnyArray) (x : AnyArray) (i : ℕ) (id : ℤ) → 0 < length cs → x ≡ get_or cs 0 x → u ≡ variant_type (shown_type t) id
    → slot_text u null (slot_at (layout_of x) i) ≡ slot_text t null (nested_slot (Variant id) cs i)
variant_text t u null cs x i id some here same =
    ap (λ (v : TypeTree). slot_text v null (slot_at (layout_of x) i)) same
    ∙ ap (λ (f : ℕ → Slot). slot_text (variant_type (shown_type t) id) null (f i)) (sym (first_is cs x some here))
