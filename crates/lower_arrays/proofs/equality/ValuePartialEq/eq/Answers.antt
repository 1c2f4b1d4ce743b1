use Rattle.lower_arrays.specs.Sameness.{value_answer}
use Rattle.lower_arrays.proofs.equality.ValuePartialEq.eq.Goals as goal

pub returns : goal.returns
returns c = value_answer c.are_one_slot.result c.args.self.now c.args.other.now c.are_one_slot.ensures
