use Rattle.std.proofs.Common.{arith, ◌≡◌, ◌+◌, ◌*◌, ◌/◌, ◌%◌, ◌≤◌, ◌∙◌, ap, take, drop, map}
use Rattle.std.proofs.lemmas.Grind.{common_steps}
use Rattle.std.specs.List.{range_with_len}
use Rattle.lower.specs.Bits.{has_bit}
use Rattle.lower.proofs.BitPlaces.{bits_of_part}
use Rattle.lower.proofs.bitmap.Bitmap.compact.Goals as goal

pub returns : goal.returns
returns c =
    let s = c.self.inside in
    let count = c.div_ceil-needed.result in
    let enough : s.offset % 8 + s.len ≤ 8 * count = grind (arith, common_steps) in
    let bytes : c.in_ok-bytes.bytes ≡ take count (drop (s.offset / 8) s.bytes) = c.in_ok-bytes.ensures ∙ c.in_ok-part.ensures in
    ap (λ bytes. map (has_bit bytes) (range_with_len (s.offset % 8) s.len)) bytes
    ∙ bits_of_part s.bytes s.offset s.len count enough
    ∙ c.self.view_is
