use Rattle.std.proofs.Common.{◌≡◌, map, sym, ap, ◌∙◌}
use Rattle.std.specs.Prelude.{slice_get, string_bytes}
use Rattle.std.specs.List.{list_any}
use Rattle.std.specs.Str.{bytes_eq}
use Rattle.lower_dictionary_builders.specs.Keyed.{values_among}
use Rattle.lower_dictionary_builders.proofs.Texts.{any_text, found_text}
use Rattle.lower_dictionary_builders.proofs.utf8.MutableUtf8DictionaryArray.push_text.Goals as goal

pub push_index-requires : goal.push_index-requires
push_index-requires g c =
    let s = c.self.inside in
    let same : values_among bytes_eq c.args.self.now ≡ map string_bytes s.values.keys = ap (values_among bytes_eq) (sym c.self.view_is) ∙ c.self.invariant.values in
    ap (λ ts. slice_get ts c.in-Some.index) same ∙ found_text c.args.text.now s.values.keys c.in-Some.index (sym c.in-Some.ensures.index)

pub push_new-requires : goal.push_new-requires
push_new-requires g c =
    let s = c.self.inside in
    let same : values_among bytes_eq c.args.self.now ≡ map string_bytes s.values.keys = ap (values_among bytes_eq) (sym c.self.view_is) ∙ c.self.invariant.values in
    ap (list_any (bytes_eq c.args.text.now)) same ∙ sym (any_text c.args.text.now s.values.keys) ∙ sym c.in-None.ensures.found
