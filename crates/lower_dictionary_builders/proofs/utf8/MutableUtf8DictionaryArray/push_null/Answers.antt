use Rattle.std.proofs.Common.{[], ◌∷◌, ◌++◌, map, ap, ◌∙◌}
use Rattle.std.specs.Prelude.{None, string_bytes}
use Rattle.std.specs.Str.{bytes_eq}
use Rattle.lower_dictionary_builders.proofs.Keyed.{grow_null}
use Rattle.lower_dictionary_builders.proofs.utf8.MutableUtf8DictionaryArray.push_null.Goals as goal

pub invariant_of-self-2 : goal.invariant_of-self-2
invariant_of-self-2 g c =
    let s = c.self.inside in
    (grow_null bytes_eq g.K.DictionaryKey.integer (map string_bytes s.values.keys) s.keys c.push_null.new.self c.self.invariant c.in_ok-push_null.ensures).0

pub returns : goal.returns
returns g c =
    let s = c.self.inside in
    (grow_null bytes_eq g.K.DictionaryKey.integer (map string_bytes s.values.keys) s.keys c.push_null.new.self c.self.invariant c.in_ok-push_null.ensures).1
    ∙ ap (λ slots. slots ++ None ∷ []) c.self.view_is
