use Rattle.std.proofs.Common.{◌≡◌, take, map}
use Rattle.std.specs.Prelude.{Some, string_bytes}
use Rattle.lower_dictionary_builders.proofs.utf8.texts_of.Given as goal

abbrev pub invariant-loop-text : goal.invariant-loop-text
invariant-loop-text l = l.array ≡ map (λ t. Some (string_bytes t)) (take l.text-index l.texts)
