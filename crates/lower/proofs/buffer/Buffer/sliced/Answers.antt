use Rattle.std.proofs.Common.{arith, ◌≡◌, ◌≤◌, ◌+◌, length, take, drop, ap, min}
use Rattle.std.proofs.lemmas.List.{length-take}
use Rattle.lower.proofs.Cuts.{cut_again}
use Rattle.lower.proofs.buffer.Buffer.sliced.Goals as goal

pub returns : goal.returns
returns g c =
    let s = c.self.inside in
    let e : length (take s.len (drop s.offset s.all.value.items)) ≡ length c.args.self = ap length c.self.view_is in
    let m : length (take s.len (drop s.offset s.all.value.items)) ≡ min s.len (length (drop s.offset s.all.value.items)) =
    length-take s.len (drop s.offset s.all.value.items)
    in
    let r : c.args.offset + c.args.len ≤ length c.args.self = c.requires in
    let h : c.args.offset + c.args.len ≤ s.len = omega (arith, e, m, r) in
    rw (← c.self.view_is) (cut_again s.offset c.args.offset c.args.len s.len s.all.value.items h)
