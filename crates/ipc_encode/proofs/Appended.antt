-- What the levels of an array mean that were appended to the parts of a batch.
use Rattle.std.proofs.Common.{◌≡◌, ℕ, pos, ◌+◌, List, ◌++◌, length, map, refl, sym, ap, ◌∙◌, subst}
use Rattle.std.proofs.lemmas.List.{length-map, map-append}
use Rattle.lower_types.specs.declared.Endianness.{Endianness}
use Rattle.lower_arrays.specs.Layouts.{Layout, Level}
use Rattle.lower_arrays.specs.Slots.{IsArray}
use Rattle.ipc_table_views.specs.declared.message.FieldNode.{FieldNode}
use Rattle.ipc_table_views.specs.declared.schema.Buffer.{Buffer}
use Rattle.ipc_model.specs.Batches.{entries_of}
use Rattle.ipc_model.specs.Entries.{part_at, size}
use Rattle.ipc_model.specs.Offers.{whole_levels}
use Rattle.ipc_model.specs.TypeKinds.{kind_of}
use Rattle.ipc_plan.specs.Levels.{HaveBuffers, joined_buffers, node_of}
use Rattle.ipc_plan.specs.Meaning.{NodesStand, PartsStand}
use Rattle.ipc_plan.specs.Pieces.{pieces_bytes}
use Rattle.ipc_plan.specs.Plans.{body, entries_from, end_from}
use Rattle.ipc_plan.specs.declared.plan.Plan.{Plan}
use Rattle.ipc_plan.proofs.Arrays.{array_law}
use Rattle.ipc_encode.specs.Appending.{JoinsParts, BatchParts, MeansArray, PlansFrom, SameMeaningLaw}
use Rattle.ipc_encode.proofs.Placed.{end_long, nodes_placed, parts_placed}

-- The levels of an array, wherever their nodes, their buffers and these bytes are.
means_array : (order : Endianness) (l : Layout) (offset : ℕ) (bss : List (List (List ℕ))) → IsArray l → HaveBuffers order (whole_levels l) bss
    → MeansArray order l offset (map node_of (whole_levels l)) (entries_from offset (joined_buffers bss)) (body (joined_buffers bss))
unfolding entries_of
means_array order l offset bss array have lists at a b known id is ns bs xs knows =
    let s = entries_of lists at order 0 known in
    let hs = whole_levels l in
    let part = part_at at.source at.base in
    let parts : map part lists.buffers ≡ map part bs.before ++ (map part (entries_from offset (joined_buffers bss)) ++ map part bs.behind) =
    ap (λ (ys : List Buffer). map part ys) bs.all_is ∙ map-append part bs.before (entries_from offset (joined_buffers bss) ++ bs.behind)
    ∙ ap (λ ys. map part bs.before ++ ys) (map-append part (entries_from offset (joined_buffers bss)) bs.behind) in
    let place : length (map part bs.before) ≡ b = length-map bs.before part ∙ bs.place_is in
    let means = array_law s l a b id is array refl
    (record {
      buffers = bss;
      have = have;
      nodes_stand = subst (λ (k : ℕ). NodesStand s k (map node_of hs)) ns.place_is (nodes_placed s ns.before (map node_of hs) ns.behind ns.all_is);
      parts_stand =
          subst (λ (k : ℕ). PartsStand s k (joined_buffers bss)) place
          (parts_placed s at.source xs.before at.base offset (map part bs.before) (map part bs.behind) (joined_buffers bss) xs.behind parts xs.all_is xs.place_is);
    }) knows in
    record { well = means.0; slots_are = means.1 }

-- the bytes of a plan, and how many they are
planned_bytes : (order : Endianness) (start : ℕ) (hs : List Level) (p : Plan) (plans : PlansFrom order start hs p) → pieces_bytes p.order p.pieces.items ≡ body (joined_buffers plans.adds.buffers)
planned_bytes order start hs p plans =
    let begun = plans.begun in
    let bs = joined_buffers plans.adds.buffers in
    ap (λ (k : Endianness). pieces_bytes k p.pieces.items) plans.adds.grows.order_same ∙ plans.adds.grows.body_is
    ∙ ap (λ ps. pieces_bytes begun.order ps ++ body bs) plans.is_begun.no_pieces

planned_end : (order : Endianness) (start : ℕ) (hs : List Level) (p : Plan) (plans : PlansFrom order start hs p) → p.end ≡ start + length (body (joined_buffers plans.adds.buffers))
planned_end order start hs p plans =
    let bs = joined_buffers plans.adds.buffers in
    plans.adds.grows.end_is ∙ ap (λ k. end_from k bs) plans.is_begun.end_is ∙ end_long start bs

pub planned_length : (order : Endianness) (start : ℕ) (hs : List Level) (p : Plan) → PlansFrom order start hs p → p.end ≡ start + length (pieces_bytes p.order p.pieces.items)
planned_length order start hs p plans =
    planned_end order start hs p plans ∙ ap (λ (xs : List ℕ). start + length xs) (sym (planned_bytes order start hs p plans))

-- The nodes and buffers of an array's plan, and its bytes, after those that were there.
pub appended : (order : Endianness) (l : Layout) (p : Plan) (old new : BatchParts) → IsArray l → PlansFrom order (size old.offset) (whole_levels l) p
    → new.nodes ≡ old.nodes ++ p.nodes.items → new.buffers ≡ old.buffers ++ p.buffers.items → new.bytes ≡ old.bytes ++ pieces_bytes p.order p.pieces.items → new.offset ≡ pos p.end
    → JoinsParts order l old new
appended order l p old new array plans ns bs xs end =
    let begun = plans.begun in
    let start = plans.is_begun in
    let a = plans.adds in
    let g = a.grows in
    let o = size old.offset in
    let levels = map node_of (whole_levels l) in
    let nodes : p.nodes.items ≡ levels = g.nodes_are ∙ ap (λ (ys : List FieldNode). ys ++ levels) start.no_nodes in
    let buffers : p.buffers.items ≡ entries_from o (joined_buffers a.buffers) =
    g.entries_are ∙ ap (λ (ys : List Buffer). ys ++ entries_from begun.end (joined_buffers a.buffers)) start.no_buffers
    ∙ ap (λ k. entries_from k (joined_buffers a.buffers)) start.end_is in
    let have : HaveBuffers order (whole_levels l) a.buffers = subst (λ (k : Endianness). HaveBuffers k (whole_levels l) a.buffers) start.order_is a.have in
    record {
      buffers = a.buffers;
      have = have;
      nodes_are = ns ∙ ap (λ ys. old.nodes ++ ys) nodes;
      buffers_are = bs ∙ ap (λ ys. old.buffers ++ ys) buffers;
      bytes_are = xs ∙ ap (λ ys. old.bytes ++ ys) (planned_bytes order o (whole_levels l) p plans);
      offset_is = end ∙ ap (λ k. pos k) (planned_end order o (whole_levels l) p plans);
      means = means_array order l o a.buffers array have;
    }

pub same_meaning_law : SameMeaningLaw
same_meaning_law s s' a b a' b' l l' id is types same h h' =
    (ap (λ t. kind_of t id is) types, h.slots_are ∙ same ∙ sym h'.slots_are)
