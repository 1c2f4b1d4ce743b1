use Rattle.std.proofs.Common.{List, ℕ, ap, length, ◌++◌, ◌∙◌, ◌≡◌}
use Rattle.std.specs.List.{flat_map}
use Rattle.ipc_table_bytes.specs.Parts.{elements_header}
use Rattle.ipc_tables.proofs.Lengths.{length-elements}
use Rattle.ipc_tables.proofs.elements.elements_part.Goals as goal

pub returns : goal.returns
returns g c =
    let e = g.S.Element in
    let laws = g.met.S.Element in
    let values = c.args.values.now in
    let raw = flat_map e.spelt values in
    let is : c.put_all.new.bytes.items ≡ elements_header (length values) ++ raw = c.in_ok-put_all.ensures ∙ ap (λ (r : List ℕ). r ++ raw) c.in_ok-bytes.ensures in
    c.elements.ensures e.align e.size (length values) raw is laws.aligned laws.some (length-elements e.spelt e.size laws.sized values)
