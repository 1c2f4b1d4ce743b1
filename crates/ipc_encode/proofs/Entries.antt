-- The numbers in a plan's nodes and buffers fit in signed 64-bit integers.
use Rattle.std.proofs.Common.{arith, ℕ, pos, ◌+◌, ◌^◌, ◌<◌, ◌≤◌, List, [], ◌∷◌, ◌++◌, map, length, drop, not, Option, Some, None, All, SFits, sym, subst, length-append}
use Rattle.std.proofs.lemmas.List.{length-take}
use Rattle.std.proofs.lemmas.List.Concat.{flat_map-cons}
use Rattle.std.proofs.lemmas.List.Elements.{All-cons, All-nil}
use Rattle.std.proofs.lemmas.List.Sums.{count_by-le-length}
use Rattle.std.specs.Int.{w64, next_multiple_of}
use Rattle.std.specs.List.{AllByRecursion}
use Rattle.lower_flat_arrays.specs.Validities.{Validity, cut_validity, null_count_of, part}
use Rattle.lower_arrays.specs.Cuts.{cut_parts}
use Rattle.lower_arrays.specs.Layouts.{Parts, nothing, Level, Layout, layout, Layouts, no_layouts, more_layouts, len_of, nulls_among}
use Rattle.ipc_tables.proofs.Kept.{BufferFits, NodeFits}
use Rattle.ipc_model.specs.Offers.{levels_along, levels_below, slots_along, whole_levels, written_levels}
use Rattle.ipc_model.specs.WrittenBatches.{entry, padded}
use Rattle.ipc_plan.specs.Levels.{node_of}
use Rattle.ipc_plan.specs.Plans.{body, entries_from}
use Rattle.ipc_plan.specs.Taking.{AreShort}
use Rattle.ipc_encode.specs.Encoding.{levels_of}
use Rattle.ipc_encode.proofs.Placed.{length_padded}

-- ---- no more slots are null than there are

abbrev HasFewNulls : Level → Type 0
HasFewNulls h = nulls_among h.parts h.len h.validity ≤ h.len

few_missing : (v : Validity) (o n : ℕ) → null_count_of (cut_validity o n v) ≤ n
few_missing None o n = omega arith
few_missing (Some bits) o n = omega (arith, count_by-le-length (λ bit. not bit) (part o n bits), length-take n (drop o bits))

few_among : (p : Parts) (n : ℕ) (v : Validity) → null_count_of v ≤ n → nulls_among p n v ≤ n
few_among nothing n v h = omega arith
few_among _ n v h = h

few_both : (hs ks : List Level) → AllByRecursion HasFewNulls hs → AllByRecursion HasFewNulls ks → AllByRecursion HasFewNulls (hs ++ ks)
few_both [] ks f g = g
few_both (h ∷ hs) ks f g = (f.0, few_both hs ks f.1 g)

few_along : (r : Option (ℕ × ℕ)) (child : ℕ → ℕ → List Level) → ((o n : ℕ) → AllByRecursion HasFewNulls (child o n)) → AllByRecursion HasFewNulls (levels_along r child)
few_along None child few = tt
few_along (Some range) child few = few range.0 range.1

mutual
  few_in : (l : Layout) (o n : ℕ) → AllByRecursion HasFewNulls (written_levels l o n)
  few_in (layout h cs) o n = (few_among (cut_parts o n h.parts) n (cut_validity o n h.validity) (few_missing h.validity o n), few_below cs h.parts o n)

  few_below : (cs : Layouts) (p : Parts) (o n : ℕ) → AllByRecursion HasFewNulls (levels_below cs p o n)
  few_below no_layouts p o n = tt
  few_below (more_layouts c cs) p o n =
      few_both (levels_along (slots_along p o n (len_of c)) (λ from k. written_levels c from k)) (levels_below cs p o n)
      (few_along (slots_along p o n (len_of c)) (λ from k. written_levels c from k) (λ from k. few_in c from k)) (few_below cs p o n)

few_of : (ls : List Layout) → AllByRecursion HasFewNulls (levels_of ls)
few_of [] = tt
few_of (l ∷ ls) =
    subst (λ (hs : List Level). AllByRecursion HasFewNulls hs) (sym (flat_map-cons whole_levels l ls)) (few_both (whole_levels l) (levels_of ls) (few_in l 0 (len_of l)) (few_of ls))

-- ---- numbers that fit

pub fits_long : (n : ℕ) → n < 2 ^ 63 → SFits w64 (pos n)
fits_long n h = record { sfits = h }

nodes_below : (hs : List Level) → AllByRecursion HasFewNulls hs → AreShort hs → All NodeFits (map node_of hs)
nodes_below [] few short = All-nil NodeFits
nodes_below (h ∷ hs) few short =
    All-cons NodeFits (node_of h) (map node_of hs) (fits_long h.len short.0, fits_long (nulls_among h.parts h.len h.validity) (omega (arith, few.0, short.0)))
    (nodes_below hs few.1 short.1)

pub nodes_fit : (ls : List Layout) → AreShort (levels_of ls) → All NodeFits (map node_of (levels_of ls))
nodes_fit ls short = nodes_below (levels_of ls) (few_of ls) short

pub buffers_fit : (o : ℕ) (bs : List (List ℕ)) → o + length (body bs) < 2 ^ 63 → All BufferFits (entries_from o bs)
buffers_fit o [] h = All-nil BufferFits
buffers_fit o (x ∷ bs) h =
    let next = o + next_multiple_of (length x) 64 in
    let long = length-append (padded x) (body bs) in
    let part = length_padded x in
    All-cons BufferFits (entry (pos o) (length x)) (entries_from next bs)
    (fits_long o (omega (arith, h, long, part)), fits_long (length x) (omega (arith, h, long, part)))
    (buffers_fit next bs (omega (arith, h, long, part)))
