use Rattle.lower_flat_arrays.specs.ColumnLaws.{exact_answer}
use Rattle.lower_validation.specs.Numbers.{numbers_column}
use Rattle.lower_validation.specs.AnyNumbers.{numbers_seen}
use Rattle.lower_validation.proofs.numbers.AnyPrimitivePartialEq.eq.Goals as goal

pub returns : goal.returns
returns c =
    exact_answer c.are_same_numbers.result (numbers_column (numbers_seen c.args.self.now)) (numbers_column (numbers_seen c.args.other.now))
    c.are_same_numbers.ensures
