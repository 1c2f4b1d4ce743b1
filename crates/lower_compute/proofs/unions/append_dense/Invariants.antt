use Rattle.std.proofs.Common.{◌≡◌, ℕ, ◌<◌, List, ◌++◌, length, map, get_or}
use Rattle.std.specs.List.{range_with_len}
use Rattle.lower_arrays.specs.Layouts.{Layout}
use Rattle.lower_arrays.specs.Choices.{no_child}
use Rattle.lower_arrays.specs.Unions.{union_layout}
use Rattle.lower_compute.specs.Variants.{AreRecorded}
use Rattle.lower_compute.proofs.unions.append_dense.Given as goal

abbrev pub invariant-loop-i : goal.invariant-loop-i
invariant-loop-i l =
    (length l.parts.items ≡ length l.initial.parts.items)
    × (length l.lens.items ≡ length l.initial.lens.items)
    × ((ls : List Layout) (ps : List (ℕ × ℕ)) → get_or ls l.number no_child ≡ union_layout l.array → l.number < length ls
    → AreRecorded ls (length l.initial.parts.items) ps l.initial.offsets.items (map (λ v. v.items) l.initial.parts.items) l.initial.lens.items
    → AreRecorded ls (length l.initial.parts.items) (ps ++ map {B = ℕ × ℕ} (λ k. (l.number, k)) (range_with_len l.offset l.i))
    l.offsets.items (map (λ v. v.items) l.parts.items) l.lens.items)
