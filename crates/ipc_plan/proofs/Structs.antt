-- Levels of structs, and children that correspond slot by slot.
use Rattle.std.proofs.Common.{arith, ◌≡◌, ℕ, ℤ, ◌+◌, ◌<◌, ◌≤◌, List, [], ◌∷◌, length, Option, refl, sym, ap, ◌∙◌, subst}
use Rattle.lower.specs.TypeTrees.{FieldTree, FieldTrees, no_fields, more_fields}
use Rattle.lower.specs.declared.datatypes.physical_type.PhysicalType.TheVariants as Physicals
use Rattle.lower_validation.specs.Fields.{child_fields}
use Rattle.lower_arrays.specs.Children.{ChildTypes, HasChild, AllHave}
use Rattle.lower_arrays.specs.Layouts.{records, Level, Layout, Layouts, no_layouts, more_layouts, type_of}
use Rattle.lower_arrays.specs.Slots.{record_slot, more_slots, slots_of, each_at, children_at, PartsFit, IsArray, AreArrays}
use Rattle.ipc_base.specs.IdTrees.{IdTrees}
use Rattle.ipc_table_views.specs.declared.message.FieldNode.{FieldNode}
use Rattle.ipc_model.specs.Columns.{Begins, IsSome, AllHaveRows, slots_at}
use Rattle.ipc_model.specs.Entries.{Entries, Limit, limited}
use Rattle.ipc_model.specs.Kinds.{Kind, Kinds, more_kinds, nodes, buffers}
use Rattle.ipc_model.specs.Offers.{own_id, inner_ids, written_levels, levels_below, body_lengths}
use Rattle.ipc_model.specs.TypeKinds.{first_ids, other_ids, kind_of, field_kind, kinds_of}
use Rattle.ipc_model.proofs.OfferCounts.{entry_count_law}
use Rattle.ipc_model.proofs.TypeKinds.{node_counts, buffer_counts}
use Rattle.ipc_plan.specs.Meaning.{StandsAmong}
use Rattle.ipc_plan.proofs.KindForms.{means_by, field_kind_is}
use Rattle.ipc_plan.proofs.ValidityRows.{begins, rows_of, masked_is}
use Rattle.ipc_plan.proofs.Rows.{Row, RowMeans, ChildrenMean, masked_row}
use Rattle.ipc_plan.proofs.Standing.{stands_both, stands_at}

-- the levels of a child are as many as its kind has nodes, and have as many buffers
pub record Counted (s : Entries) (c : Layout) (t : Kind) (o n : ℕ) : Type 0 where
  pub node_count : length (written_levels c o n) ≡ nodes t
  pub buffer_count : length (body_lengths (written_levels c o n)) ≡ buffers s.extra t

pub counted : (s : Entries) (c : Layout) (id : Option ℤ) (is : IdTrees) (o n : ℕ) → IsArray c → s.extra ≡ 0 → Counted s c (kind_of (type_of c) id is) o n
counted s c id is o n a extra =
    let e = entry_count_law c o n a in
    record {
      node_count = e.node_count ∙ sym (node_counts (type_of c) id is);
      buffer_count = e.buffer_count ∙ sym (buffer_counts 0 (type_of c) id is) ∙ ap (λ k. buffers k (kind_of (type_of c) id is)) (sym extra);
    }

-- the kind of a field whose child this is
pub child_kind : (f : FieldTree) (fs : FieldTrees) (is : IdTrees) (c : Layout) (cs : Layouts) → ChildTypes (more_fields f fs) (more_layouts c cs)
    → field_kind f (first_ids is) ≡ kind_of (type_of c) (own_id (first_ids is)) (inner_ids (first_ids is))
child_kind f fs is c cs h = field_kind_is f (first_ids is) ∙ ap (λ t. kind_of t (own_id (first_ids is)) (inner_ids (first_ids is))) (sym h.0)

-- Children that correspond slot by slot: n slots of each from index o on.
pub record Beside (s : Entries) (ts : Kinds) (cs : Layouts) (o n a b : ℕ) (limit : Limit) : Type 0 where
  pub well : AllHaveRows s ts a b limit n
  pub each : (i : ℕ) → i < n → slots_at s ts a b i ≡ slots_of (each_at (children_at cs) (o + i))

pub beside : (s : Entries) (cs : Layouts) (fs : FieldTrees) (is : IdTrees) (m o n a b : ℕ) (limit : Limit) → s.extra ≡ 0 → ChildTypes fs cs → AllHave m cs → o + n ≤ m → AreArrays cs → ChildrenMean s cs is
    → limited limit n ≡ n → StandsAmong s a b (levels_below cs records o n) → Beside s (kinds_of fs is) cs o n a b limit
beside s no_layouts no_fields is m o n a b limit extra types have inside are mean full st = record { well = tt; each = λ i l. refl }
beside s no_layouts (more_fields f fs) is m o n a b limit extra types have inside are mean full st = absurd types
beside s (more_layouts c cs) no_fields is m o n a b limit extra types have inside are mean full st = absurd types
beside s (more_layouts c cs) (more_fields f fs) is m o n a b limit extra types have inside are mean full st =
    let t = kind_of (type_of c) (own_id (first_ids is)) (inner_ids (first_ids is)) in
    let both = stands_both s a b (written_levels c o n) (levels_below cs records o n) st in
    let count = counted s c (own_id (first_ids is)) (inner_ids (first_ids is)) o n are.0 extra in
    let here = mean.0 o n a b limit (omega (arith, inside, have.0)) full both.here in
    let behind = stands_at s _ _ (a + nodes t) (b + buffers s.extra t) (levels_below cs records o n) (ap (λ k. a + k) count.node_count) (ap (λ k. b + k) count.buffer_count) both.behind in
    let rest = beside s cs fs (other_ids is) m o n (a + nodes t) (b + buffers s.extra t) limit extra types.1 have.1 inside are.1 mean.1 full behind in
    let all : Beside s (more_kinds t (kinds_of fs (other_ids is))) (more_layouts c cs) o n a b limit = record {
      well = ((here.well, here.rows_are), rest.well);
      each = λ i l. λ j. more_slots (here.each i l j) (rest.each i l j);
    } in
    subst (λ (k : Kind). Beside s (more_kinds k (kinds_of fs (other_ids is))) (more_layouts c cs) o n a b limit) (sym (child_kind f fs is c cs types)) all

some_kinds : (fs : FieldTrees) (is : IdTrees) (cs : Layouts) → HasChild cs → ChildTypes fs cs → IsSome (kinds_of fs is)
some_kinds no_fields is no_layouts h e = absurd h
some_kinds no_fields is (more_layouts c cs) h e = absurd e
some_kinds (more_fields f fs) is cs h e = tt

pub records_mean : (s : Entries) (h : Level) (cs : Layouts) (o n a b : ℕ) (limit : Limit) (id : Option ℤ) (is : IdTrees) (own : List (List ℕ)) → PartsFit h records cs → AreArrays cs
    → ChildrenMean s cs is → Row s h records o n a b limit own → StandsAmong s (a + 1) (b + length own) (levels_below cs records o n) → RowMeans s h records cs o n a b limit id is
records_mean s h cs o n a b limit id is (m ∷ []) fit arrays mean r st =
    let mask = masked_row s h o n a b m r.fits r.inside r.node_is r.stand.0 r.are in
    let rows_are = rows_of s a n limit (ap (λ (x : FieldNode). x.length) r.node_is) r.full in
    let ts = kinds_of (child_fields h.type) is in
    let all = beside s cs (child_fields h.type) is h.len o n (a + 1) (b + 1) limit r.extra_is fit.2 fit.3 r.inside arrays mean r.full st in
    means_by s Physicals.Struct h.type id is a b limit n _ fit.0
    (record {
      well = subst (λ (k : ℕ). IsSome ts × Begins s a b k × AllHaveRows s ts (a + 1) (b + 1) limit k) (sym rows_are)
          (some_kinds (child_fields h.type) is cs fit.1 fit.2, begins s a b n _ mask, all.well);
      rows_are = rows_are;
      each = λ i l. masked_is s a b o n h.validity i _ _ mask l (λ _. ap record_slot (all.each i l));
    })
records_mean s h cs o n a b limit id is _ fit arrays mean r st = absurd r.are
