use Rattle.std.proofs.Common.{arith, ◌≡◌, ◌+◌, ◌-◌, ◌*◌, ◌/◌, ◌%◌, ◌≤◌, ◌∙◌, ap, take, drop, map}
use Rattle.std.proofs.lemmas.Grind.{common_steps}
use Rattle.std.specs.List.{range_with_len}
use Rattle.lower.specs.Bits.{has_bit}
use Rattle.lower.proofs.BitPlaces.{bits_of_part}
use Rattle.lower.proofs.bitmap.Bitmap.as_slice.Goals as goal

pub returns-clause-bits : goal.returns-clause-bits
returns-clause-bits c =
    let s = c.self.inside in
    let count = c.div_ceil-count.result in
    let enough : s.offset % 8 + s.len ≤ 8 * count = grind (arith, common_steps) in
    let same : s.offset / 8 + count - s.offset / 8 ≡ count = omega arith in
    ap (λ n. map (has_bit (take n (drop (s.offset / 8) c.as_slice.result.now))) (range_with_len (s.offset % 8) s.len)) same
    ∙ ap (λ bytes. map (has_bit (take count (drop (s.offset / 8) bytes))) (range_with_len (s.offset % 8) s.len)) c.as_slice.ensures
    ∙ bits_of_part s.bytes s.offset s.len count enough
    ∙ c.self.view_is
