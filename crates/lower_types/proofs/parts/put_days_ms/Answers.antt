use Rattle.std.proofs.Common.{◌≡◌, ◌*◌, ◌+◌, arith, pos, get_or, length, sym, ◌∙◌, refl}
use Rattle.std.proofs.lemmas.List.{take_all}
use Rattle.byteorder.proofs.Slices.{write_step}
use Rattle.lower_types.specs.declared.parts.days_ms.{days_ms}
use Rattle.lower_types.specs.PartNumbers.{days_ms_spelt}
use Rattle.lower_types.specs.PartLaws.{days_ms_spelt-length}
use Rattle.lower_types.proofs.parts.put_days_ms.Goals as goal

pub items-preserved : goal.items-preserved
items-preserved g c =
    let spelt = days_ms_spelt g.B.ByteOrder.bytes_of in
    let none : days_ms = record { days = pos 0; milliseconds = pos 0 } in
    let step : 8 * (c.items.i + 1) ≡ 8 * c.items.i + 8 = omega arith in
    let len = c.items.auto.to in
    let each = days_ms_spelt-length g.B.ByteOrder.bytes_of g.met.B.ByteOrder.length_bytes in
    rw (step, c.write_days_ms.ensures)
    (write_step spelt 8 c.args.values.now none c.items.to _ _ _ c.items.i (omega arith) (omega arith) (each (get_or c.args.values.now c.items.i none)) refl c.items.invariant)

pub returns : goal.returns
returns g c =
    let len = c.items.auto.to in
    let done : c.items.i ≡ length c.args.values.now = omega arith in
    sym (take_all (8 * c.items.i) c.items.to (omega arith)) ∙ rw (take_all c.items.i c.args.values.now (omega arith)) at c.items.invariant
