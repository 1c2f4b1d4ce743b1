use Rattle.std.proofs.Common.{◌≡◌, ◌*◌, ◌+◌, arith, pos, get_or, length, sym, ◌∙◌, refl}
use Rattle.std.proofs.lemmas.List.{take_all}
use Rattle.byteorder.proofs.Slices.{write_step}
use Rattle.lower_types.specs.declared.parts.i256.{i256}
use Rattle.lower_types.specs.PartNumbers.{high_first_spelt}
use Rattle.lower_types.specs.PartLaws.{high_first_spelt-length}
use Rattle.lower_types.proofs.parts.put_high_first.Goals as goal

pub items-preserved : goal.items-preserved
items-preserved g c =
    let spelt = high_first_spelt g.B.ByteOrder.bytes_of in
    let none : i256 = record { high = pos 0; low = 0 } in
    let step : 32 * (c.items.i + 1) ≡ 32 * c.items.i + 32 = omega arith in
    let len = c.items.auto.to in
    let each = high_first_spelt-length g.B.ByteOrder.bytes_of g.met.B.ByteOrder.length_bytes in
    rw (step, c.write_high_first.ensures)
    (write_step spelt 32 c.args.values.now none c.items.to _ _ _ c.items.i (omega arith) (omega arith) (each (get_or c.args.values.now c.items.i none)) refl c.items.invariant)

pub returns : goal.returns
returns g c =
    let len = c.items.auto.to in
    let done : c.items.i ≡ length c.args.values.now = omega arith in
    sym (take_all (32 * c.items.i) c.items.to (omega arith)) ∙ rw (take_all c.items.i c.args.values.now (omega arith)) at c.items.invariant
