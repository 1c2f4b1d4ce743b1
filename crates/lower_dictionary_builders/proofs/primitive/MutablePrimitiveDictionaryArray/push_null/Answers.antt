use Rattle.std.proofs.Common.{[], ◌∷◌, ◌++◌, ap, ◌∙◌}
use Rattle.std.specs.Prelude.{None}
use Rattle.lower_dictionary_builders.proofs.Keyed.{grow_null}
use Rattle.lower_dictionary_builders.proofs.primitive.MutablePrimitiveDictionaryArray.push_null.Goals as goal

pub invariant_of-self-2 : goal.invariant_of-self-2
invariant_of-self-2 g c =
    let s = c.self.inside in
    (grow_null g.T.PartialEq.eq g.K.DictionaryKey.integer s.values.keys s.keys c.push_null.new.self c.self.invariant c.in_ok-push_null.ensures).0

pub returns : goal.returns
returns g c =
    let s = c.self.inside in
    (grow_null g.T.PartialEq.eq g.K.DictionaryKey.integer s.values.keys s.keys c.push_null.new.self c.self.invariant c.in_ok-push_null.ensures).1
    ∙ ap (λ slots. slots ++ None ∷ []) c.self.view_is
