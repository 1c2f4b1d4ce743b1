-- What a field's table means, by what was read of it.
use Rattle.std.proofs.Common.{◌≡◌, ℕ, suc, ◌-◌, ◌<◌, Bool, true, false, cond, List, Option, Some, None, Result, Ok, Err, refl, ap, sym, ◌∙◌, arith}
use Rattle.std.specs.Prelude.{string_bytes}
use Rattle.std.specs.Option.{option_map}
use Rattle.lower.specs.TypeTrees.{Pairs, Plain, Single, Group, plain, FieldTree, field}
use Rattle.lower.specs.TypeViews.{pairs_of}
use Rattle.ipc_base.specs.IdTrees.{no_ids}
use Rattle.ipc_devices.specs.declared.fault.TableFault.{TableFault}
use Rattle.ipc_table_views.specs.Spot.{Spot, Vector}
use Rattle.ipc_table_views.specs.SchemaSlots.{field_name, field_nullable, field_type, field_dictionary, field_children, field_custom_metadata}
use Rattle.ipc_table_views.specs.Tables.{map_ok}
use Rattle.ipc_model.specs.Schemas.{Encoding, Read, ReadType, given, made, present, pairs_at, optional_encoding, field_at, field_count, field_from, field_with, first_field, group_with, is_group_tag, is_single_tag, plain_at, single_at, group_at, single_with, some_fields, type_of_field}
use Rattle.ipc_reference_schema.specs.Heads.{FieldHead, IsHead, head_at}
use Rattle.ipc_reference_schema.specs.Shapes.{Form, leaf, one, several, form_at, single_of, group_of, shape_of}
use Rattle.ipc_reference_schema.specs.declared.head.Head.{Head as PlainHead}
use Rattle.ipc_reference_schema.specs.declared.shape.Single.{Single as PlainSingle}
use Rattle.ipc_reference_schema.specs.declared.shape.Group.{Group as PlainGroup}
use Rattle.ipc_reference_schema.specs.declared.shape.Shape.TheVariants as shapes

pub some-field : (f : FieldTree) → 0 < field_count f
some-field (field name t nullable es) = omega arith

-- A field of a table that is present, or isn't.
pub present-map : {A B : Type 0} (f : A → B) (r : Result (Option A) TableFault) (s : Result (Option B) TableFault) (o : Option A)
    → map_ok (option_map f) r ≡ s → o ≡ present r → present s ≡ option_map f o
present-map f (Ok None) s o same e = ap present (sym same) ∙ ap (option_map f) (sym e)
present-map f (Ok (Some x)) s o same e = ap present (sym same) ∙ ap (option_map f) (sym e)
present-map f (Err d) s o same e = ap present (sym same) ∙ ap (option_map f) (sym e)

-- ---- a field by its head and its type

last_given : {A B C : Type 0} (o : Option A) (f : A → Option B) (g : A → C) (h : C → Option B) → ((x : A) → f x ≡ h (g x)) → given o f ≡ given (given o (λ x. Some (g x))) h
last_given None f g h same = refl
last_given (Some x) f g h same = same x

abbrev pub head : List ℕ → Bool → Pairs → Option Encoding → FieldHead
head name nullable es encoding = record { name = name; nullable = nullable; metadata = es; encoding = encoding }

with_dictionary : (d : Option (Option Spot)) (name : List ℕ) (nullable : Bool) (es : Pairs) (after : List ℕ → Bool → Pairs → Option Encoding → Option Read)
    → given d (λ d. given (optional_encoding d) (λ e. after name nullable es e))
    ≡ given (given (given d optional_encoding) (λ e. Some (head name nullable es e))) (λ h. after h.name h.nullable h.metadata h.encoding)
with_dictionary None name nullable es after = refl
with_dictionary (Some d) name nullable es after =
    last_given (optional_encoding d) (λ e. after name nullable es e) (λ e. head name nullable es e) (λ h. after h.name h.nullable h.metadata h.encoding) (λ e. refl)

with_pairs : (o : Option Pairs) (d : Option (Option Spot)) (name : List ℕ) (nullable : Bool) (after : List ℕ → Bool → Pairs → Option Encoding → Option Read)
    → given o (λ es. given d (λ d. given (optional_encoding d) (λ e. after name nullable es e)))
    ≡ given (given o (λ es. given (given d optional_encoding) (λ e. Some (head name nullable es e)))) (λ h. after h.name h.nullable h.metadata h.encoding)
with_pairs None d name nullable after = refl
with_pairs (Some es) d name nullable after = with_dictionary d name nullable es after

all_given : (n : Option (List ℕ)) (b : Option Bool) (m : Option (Option Vector)) (d : Option (Option Spot)) (after : List ℕ → Bool → Pairs → Option Encoding → Option Read)
    → given n (λ name. given b (λ nullable. given m (λ v. given (pairs_at v) (λ es. given d (λ d. given (optional_encoding d) (λ e. after name nullable es e))))))
    ≡ given (given n (λ name. given b (λ nullable. given (given m pairs_at) (λ es. given (given d optional_encoding) (λ e. Some (head name nullable es e))))))
    (λ h. after h.name h.nullable h.metadata h.encoding)
all_given None b m d after = refl
all_given (Some name) None m d after = refl
all_given (Some name) (Some nullable) None d after = refl
all_given (Some name) (Some nullable) (Some v) d after = with_pairs (pairs_at v) d name nullable after

abbrev pub with_head : (Spot → Option Read) → Spot → FieldHead → Option Read
with_head read t h = given (present (field_type t)) (λ type_. option_map (field_with h.name h.nullable h.metadata h.encoding) (type_of_field read t type_))

field-by-head : (read : Spot → Option Read) (t : Spot) → field_from read t ≡ given (head_at t) (λ h. with_head read t h)
unfolding field_from head_at
field-by-head read t =
    all_given (present (field_name t)) (made (field_nullable t)) (made (field_custom_metadata t)) (made (field_dictionary t))
    (λ name nullable es e. given (present (field_type t)) (λ type_. option_map (field_with name nullable es e) (type_of_field read t type_)))

level-down : (levels : ℕ) (t : Spot) → 0 < levels → field_at levels t ≡ field_from (λ s. field_at (levels - 1) s) t
unfolding field_at
level-down levels t some =
    let one : levels ≡ suc (levels - 1) = omega (arith, some) in
    ap (λ n. field_at n t) one

pub no-level : (levels : ℕ) (t : Spot) → levels ≡ 0 → field_at levels t ≡ None
unfolding field_at
no-level levels t none = ap (λ n. field_at n t) none

pub no-head : (levels : ℕ) (t : Spot) → 0 < levels → head_at t ≡ None → field_at levels t ≡ None
no-head levels t some none = level-down levels t some ∙ field-by-head (λ s. field_at (levels - 1) s) t ∙ ap (λ o. given o (λ h. with_head (λ s. field_at (levels - 1) s) t h)) none

pub no-type : (levels : ℕ) (t : Spot) → 0 < levels → present (field_type t) ≡ None → field_at levels t ≡ None
no-type levels t some none = level-down levels t some ∙ field-by-head (λ s. field_at (levels - 1) s) t ∙ at (head_at t)
  where
    at : (o : Option FieldHead) → given o (λ h. with_head (λ s. field_at (levels - 1) s) t h) ≡ None
    at None = refl
    at (Some h) = ap (λ o. given o (λ type_. option_map (field_with h.name h.nullable h.metadata h.encoding) (type_of_field (λ s. field_at (levels - 1) s) t type_))) none

-- A field with its head and its type.
pub field-is : (levels : ℕ) (t : Spot) (p : PlainHead) (h : FieldHead) (type_ : ℕ × Spot) → 0 < levels → head_at t ≡ Some h → IsHead p h → present (field_type t) ≡ Some type_
    → field_at levels t ≡ option_map (field_with (string_bytes p.name) p.is_nullable (pairs_of p.metadata.entries) h.encoding) (type_of_field (λ s. field_at (levels - 1) s) t type_)
field-is levels t p h type_ some headed is typed =
    level-down levels t some ∙ field-by-head (λ s. field_at (levels - 1) s) t
    ∙ ap (λ o. given o (λ h. with_head (λ s. field_at (levels - 1) s) t h)) headed
    ∙ ap (λ o. given o (λ type_. option_map (field_with h.name h.nullable h.metadata h.encoding) (type_of_field (λ s. field_at (levels - 1) s) t type_))) typed
    ∙ ap (λ name. option_map (field_with name h.nullable h.metadata h.encoding) (type_of_field (λ s. field_at (levels - 1) s) t type_)) is.name
    ∙ ap (λ nullable. option_map (field_with (string_bytes p.name) nullable h.metadata h.encoding) (type_of_field (λ s. field_at (levels - 1) s) t type_)) is.nullable
    ∙ ap (λ es. option_map (field_with (string_bytes p.name) p.is_nullable es h.encoding) (type_of_field (λ s. field_at (levels - 1) s) t type_)) is.metadata

-- ---- a type by its form

abbrev pub with_form : (Spot → Option Read) → Option Vector → Form → Option ReadType
with_form read children (leaf p) = Some (plain p, no_ids)
with_form read children (one s) = option_map (single_with s) (given children (first_field read))
with_form read children (several g) = option_map (group_with g) (given children (some_fields read))

by_form : (a b : Bool) (read : Spot → Option Read) (children : Option Vector) (s : Option Single) (g : Option Group) (p : Option Plain)
    → cond {A = Option ReadType} a (given s (λ s. given children (λ v. option_map (single_with s) (first_field read v))))
    (cond {A = Option ReadType} b (given g (λ g. given children (λ v. option_map (group_with g) (some_fields read v)))) (option_map (λ p. (plain p, no_ids)) p))
    ≡ given (cond a (option_map one s) (cond b (option_map several g) (option_map leaf p))) (with_form read children)
by_form true b read children None g p = refl
by_form true b read None (Some s) g p = refl
by_form true b read (Some v) (Some s) g p = refl
by_form false true read children s None p = refl
by_form false true read None s (Some g) p = refl
by_form false true read (Some v) s (Some g) p = refl
by_form false false read children s g None = refl
by_form false false read children s g (Some p) = refl

type-by-form : (read : Spot → Option Read) (t : Spot) (type_ : ℕ × Spot) → type_of_field read t type_ ≡ given (form_at type_) (with_form read (present (field_children t)))
type-by-form read t type_ =
    by_form (is_single_tag type_.0) (is_group_tag type_.0) read (present (field_children t)) (single_at type_.0 type_.1) (group_at type_.0 type_.1) (plain_at type_.0 type_.1)

pub single-form : (read : Spot → Option Read) (t : Spot) (type_ : ℕ × Spot) (x : PlainSingle) → Some (shapes.Single x) ≡ option_map shape_of (form_at type_)
    → (s : Single) × (single_of s ≡ x) × (type_of_field read t type_ ≡ option_map (single_with s) (given (present (field_children t)) (first_field read)))
single-form read t type_ x e =
    let (s, is, same) = at (form_at type_) e in (s, is, type-by-form read t type_ ∙ ap (λ o. given o (with_form read (present (field_children t)))) same)
  where
    at : (o : Option Form) → Some (shapes.Single x) ≡ option_map shape_of o → (s : Single) × (single_of s ≡ x) × (o ≡ Some (one s))
    at None e = cc
    at (Some (leaf p)) e = cc
    at (Some (one s)) e = (s, cc, refl)
    at (Some (several g)) e = cc

pub group-form : (read : Spot → Option Read) (t : Spot) (type_ : ℕ × Spot) (x : PlainGroup) → Some (shapes.Group x) ≡ option_map shape_of (form_at type_)
    → (g : Group) × (group_of g ≡ x) × (type_of_field read t type_ ≡ option_map (group_with g) (given (present (field_children t)) (some_fields read)))
group-form read t type_ x e =
    let (g, is, same) = at (form_at type_) e in (g, is, type-by-form read t type_ ∙ ap (λ o. given o (with_form read (present (field_children t)))) same)
  where
    at : (o : Option Form) → Some (shapes.Group x) ≡ option_map shape_of o → (g : Group) × (group_of g ≡ x) × (o ≡ Some (several g))
    at None e = cc
    at (Some (leaf p)) e = cc
    at (Some (one s)) e = cc
    at (Some (several g)) e = (g, cc, refl)
