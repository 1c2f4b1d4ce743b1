use Rattle.std.proofs.Common.{rules, ◌≡◌}
use Rattle.ipc_base.proofs.Clones.{equal_clones, same_clones}
use Rattle.ipc_base.proofs.chunk.Chunk.clone.Goals as goal

pub invariant_of-result : goal.invariant_of-result
invariant_of-result g c =
    equal_clones g.A.Rows.rows g.A.Clone.is_clone c.requires c.self.inside.arrays.items c.in_ok-arrays.arrays.items c.in_ok-arrays.ensures.cases.0 c.self.invariant

pub returns-clause-equal : goal.returns-clause-equal
returns-clause-equal g c test takes =
    let seen : c.args.self.now ≡ c.self.inside.arrays.items = search rules in
    rw seen (same_clones g.A.Clone.is_clone test takes c.self.inside.arrays.items c.in_ok-arrays.arrays.items c.in_ok-arrays.ensures.cases.0)
