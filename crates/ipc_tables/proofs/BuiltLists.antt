-- Lists of built parts.
use Rattle.std.proofs.Common.{false, nat_eq, ◌≡◌, ℕ, suc, ◌+◌, ◌<◌, List, [], ◌∷◌, ◌++◌, length, take, map, get_or, refl, sym, ap, subst, ◌∙◌, arith}
use Rattle.std.proofs.Math.Seq.{take-suc}
use Rattle.ipc_table_bytes.specs.declared.build.Built.{Built}
use Rattle.ipc_table_bytes.specs.Parts.{IsPart, AreParts, end_parts, is_part}
use Rattle.ipc_table_bytes.specs.Tree.{Part, table, tables}
use Rattle.ipc_table_bytes.specs.declared.build.Slot.TheVariants.{Offset}
use Rattle.ipc_tables.specs.declared.schema.KeyValue.{KeyValue}
use Rattle.ipc_tables.specs.declared.schema.Field.{Field}
use Rattle.ipc_tables.specs.declared.schema.Field.TheViews.{out-Field}
use Rattle.ipc_tables.specs.declared.schema.Field.TheFolds.{fold_out-Field}
use Rattle.ipc_tables.specs.Schemas.{field_part, field_slots, field_step, pair_part, pairs_part}
use Rattle.ipc_tables.specs.Slots.{AreBuilt, IsOptional, parts_of}

pub AreParts-from_built : (ys : List Built) (xs : List Part) → AreBuilt ys xs → AreParts ys (parts_of xs)
AreParts-from_built [] [] h = end_parts
AreParts-from_built [] (x ∷ xs) h = absurd h
AreParts-from_built (y ∷ ys) [] h = absurd h
AreParts-from_built (y ∷ ys) (x ∷ xs) h = is_part h.0 (AreParts-from_built ys xs h.1)

AreBuilt-more : (ys : List Built) (xs : List Part) (y : Built) (x : Part) → AreBuilt ys xs → IsPart y x → AreBuilt (ys ++ y ∷ []) (xs ++ x ∷ [])
AreBuilt-more [] [] y x h is = (is, tt)
AreBuilt-more [] (z ∷ xs) y x h is = absurd h
AreBuilt-more (z ∷ ys) [] y x h is = absurd h
AreBuilt-more (w ∷ ys) (z ∷ xs) y x h is = (h.0, AreBuilt-more ys xs y x h.1 is)

map-snoc : {V : Type 0} (f : V → Part) (vs : List V) (v : V) → map f (vs ++ v ∷ []) ≡ map f vs ++ f v ∷ []
map-snoc f [] v = refl
map-snoc f (w ∷ vs) v = ap (λ (r : List Part). f w ∷ r) (map-snoc f vs v)

-- the parts of the values so far, and of the next
pub AreBuilt-next : {V : Type 0} (f : V → Part) (ys : List Built) (vs : List V) (i : ℕ) (y : Built) (v d : V) → i < length vs → v ≡ get_or vs i d
    → AreBuilt ys (map f (take i vs)) → IsPart y (f v) → AreBuilt (ys ++ y ∷ []) (map f (take (i + 1) vs))
AreBuilt-next f ys vs i y v d h e are is =
    let one : i + 1 ≡ suc i = omega arith in
    let split = ap (λ (n : ℕ). take n vs) one ∙ take-suc vs i d h ∙ ap (λ x. take i vs ++ x ∷ []) (sym e) in
    subst (AreBuilt (ys ++ y ∷ [])) (sym (ap (map f) split ∙ map-snoc f (take i vs) v))
    (AreBuilt-more ys (map f (take i vs)) y (f v) are is)

-- A field's part is the table of the field.
pub field_part-out : (f : Field) → field_part f ≡ table (field_slots f (map field_part (out-Field f).children.items))
unfolding field_part
field_part-out f = fold_out-Field Part field_step f

pub field_part-from : (f : Field) (kids : List Field) → kids ≡ (out-Field f).children.items → field_part f ≡ table (field_slots f (map field_part kids))
field_part-from f kids h = field_part-out f ∙ ap (λ (k : List Field). table (field_slots f (map field_part k))) (sym h)

pub IsOptional-pairs : (y : Built) (ps : List KeyValue) → nat_eq (length ps) 0 ≡ false → IsPart y (tables (parts_of (map pair_part ps))) → IsOptional (Offset y) (pairs_part ps)
IsOptional-pairs y [] h is = absurd (cc)
IsOptional-pairs y (p ∷ ps) h is = is
