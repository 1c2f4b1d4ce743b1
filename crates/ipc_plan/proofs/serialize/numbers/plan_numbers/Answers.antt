use Rattle.ipc_plan.specs.Pieces.{number_bytes}
use Rattle.ipc_plan.proofs.Growing.{on_ok}
use Rattle.ipc_plan.proofs.Numbers.{slice_spelt}
use Rattle.ipc_plan.proofs.serialize.numbers.plan_numbers.Goals as goal

pub returns-clause-grows : goal.returns-clause-grows
returns-clause-grows c =
    let order = c.args.plan.now.order in
    let read = c.requires.spelt.each order in
    on_ok c.push_buffer.result (λ grows. record {
      bytes = number_bytes order c.args.numbers;
      are = record { count = read.count; each = read.each; spelt = slice_spelt order c.args.numbers };
      grows = grows;
    }) c.push_buffer.ensures.grows
