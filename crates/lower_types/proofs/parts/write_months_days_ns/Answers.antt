use Rattle.std.proofs.Common.{arith, rules, ◌≡◌, ◌-◌, ◌+◌, ◌++◌, ◌∙◌, ap, ap₂, drop, take, length, length-append}
use Rattle.std.proofs.lemmas.List.{append_assoc}
use Rattle.std.specs.Int.{w32, w64, cast_unsigned}
use Rattle.std.specs.Int.RustNames.{FitsSigned}
use Rattle.std.proofs.Math.Facts.{to_z-of_z}
use borrow.Rule.Slice.PartMut.{put_mid}
use Rattle.lower_types.proofs.PartWrites.{second_write}
use Rattle.lower_types.proofs.parts.write_months_days_ns.Goals as goal

pub returns : goal.returns
returns g c =
    let write = g.B.ByteOrder.bytes_of in
    let to = c.args.to.now in
    let months_fits : FitsSigned w32 c.args.value.months = search rules in
    let days_fits : FitsSigned w32 c.args.value.days = search rules in
    let nanoseconds_fits : FitsSigned w64 c.args.value.nanoseconds = search rules in
    let size = g.met.B.ByteOrder.length_bytes in
    let months = write 4 (cast_unsigned w32 c.args.value.months) in
    let days = write 4 (cast_unsigned w32 c.args.value.days) in
    let nanoseconds = write 8 (cast_unsigned w64 c.args.value.nanoseconds) in
    let both = put_mid 4 (length c.write_i32.new.buf - 4) c.write_i32.new.buf c.write_i32-2.new.buf in
    let two =
    second_write 4 4 to months days c.write_i32.new.buf c.write_i32-2.new.buf (omega (arith, c.requires)) (size 4 (cast_unsigned w32 c.args.value.months))
    (c.write_i32.ensures ∙ ap (λ z. write 4 (cast_unsigned w32 z) ++ drop 4 to) (to_z-of_z months_fits))
    (c.write_i32-2.ensures ∙ ap (λ z. write 4 (cast_unsigned w32 z) ++ drop 4 (take (length c.write_i32.new.buf - 4) (drop 4 c.write_i32.new.buf))) (to_z-of_z days_fits))
    in
    let len : length (months ++ days) ≡ 8 = length-append months days ∙ ap₂ (λ i j. i + j) (size 4 (cast_unsigned w32 c.args.value.months)) (size 4 (cast_unsigned w32 c.args.value.days)) in
    second_write 8 8 to (months ++ days) nanoseconds both c.write_i64.new.buf (omega (arith, c.requires)) len two (c.write_i64.ensures ∙ ap (λ z. write 8 (cast_unsigned w64 z) ++ drop 8 (take (length both - 8) (drop 8 both))) (to_z-of_z nanoseconds_fits))
    ∙ ap (λ bytes. bytes ++ drop 16 to) (append_assoc months days nanoseconds)
