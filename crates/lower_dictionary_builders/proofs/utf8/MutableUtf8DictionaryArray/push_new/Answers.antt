use Rattle.std.proofs.Common.{refl, ◌≡◌, [], ◌∷◌, ◌++◌, false, length, map, sym, ap, ap₂, ◌∙◌}
use Rattle.std.specs.Prelude.{Some, string_bytes, option_map}
use Rattle.std.specs.List.{list_any}
use Rattle.std.specs.Str.{bytes_eq}
use Rattle.std.proofs.lemmas.List.{length-map, map_push}
use Rattle.lower_dictionary_builders.specs.Keyed.{values_among, value_of}
use Rattle.lower_dictionary_builders.proofs.Keyed.{grow_new, miss_new}
use Rattle.lower_dictionary_builders.proofs.Sets.{value_back}
use Rattle.lower_dictionary_builders.proofs.Texts.{text_new}
use Rattle.lower_dictionary_builders.proofs.utf8.MutableUtf8DictionaryArray.push_new.Goals as goal

pub invariant_of-self-in-Err : goal.invariant_of-self-in-Err
invariant_of-self-in-Err g c =
    let s = c.self.inside in
    let t = c.args.text.now in
    let owned = c.in_ok-owned.owned in
    let all = map string_bytes s.values.keys in
    let absent : list_any (bytes_eq t) all ≡ false = ap (list_any (bytes_eq t)) (sym c.self.invariant.values ∙ ap (values_among bytes_eq) c.self.view_is) ∙ c.requires in
    let more : c.insert.new.self.keys ≡ s.values.keys ++ owned ∷ [] = text_new s.values.keys c.insert.new.self.keys owned t c.in_ok-insert.ensures.keys c.in_ok-owned.ensures.ok absent in
    let back : c.pop.new.self.keys ≡ s.values.keys = value_back s.values.keys c.insert.new.self.keys c.pop.new.self.keys owned c.pop.result more c.pop.ensures.keys c.pop.ensures.found in
    rw (back, c.in-Err.ensures) c.self.invariant

pub returns-in-Err : goal.returns-in-Err
returns-in-Err g c =
    let s = c.self.inside in
    let t = c.args.text.now in
    let owned = c.in_ok-owned.owned in
    let all = map string_bytes s.values.keys in
    let absent : list_any (bytes_eq t) all ≡ false = ap (list_any (bytes_eq t)) (sym c.self.invariant.values ∙ ap (values_among bytes_eq) c.self.view_is) ∙ c.requires in
    let more : c.insert.new.self.keys ≡ s.values.keys ++ owned ∷ [] = text_new s.values.keys c.insert.new.self.keys owned t c.in_ok-insert.ensures.keys c.in_ok-owned.ensures.ok absent in
    let back : c.pop.new.self.keys ≡ s.values.keys = value_back s.values.keys c.insert.new.self.keys c.pop.new.self.keys owned c.pop.result more c.pop.ensures.keys c.pop.ensures.found in (
      ap₂ (λ ks keys. map (value_of (map string_bytes ks)) (map (option_map g.K.DictionaryKey.integer) keys)) back c.in-Err.ensures ∙ c.self.view_is,
      rw c.from.ensures tt,
    )

pub invariant_of-self-in_default-push : goal.invariant_of-self-in_default-push
invariant_of-self-in_default-push g c =
    let s = c.self.inside in
    let t = c.args.text.now in
    let owned = c.in_ok-owned.owned in
    let all = map string_bytes s.values.keys in
    let absent : list_any (bytes_eq t) all ≡ false = ap (list_any (bytes_eq t)) (sym c.self.invariant.values ∙ ap (values_among bytes_eq) c.self.view_is) ∙ c.requires in
    let more : c.insert.new.self.keys ≡ s.values.keys ++ owned ∷ [] = text_new s.values.keys c.insert.new.self.keys owned t c.in_ok-insert.ensures.keys c.in_ok-owned.ensures.ok absent in
    let count : c.len.result ≡ length all = c.len.ensures.len ∙ sym (length-map s.values.keys string_bytes) in
    let texts : map string_bytes c.insert.new.self.keys ≡ all ++ t ∷ [] = ap (map string_bytes) more ∙ map_push string_bytes s.values.keys owned ∙ ap (λ x. all ++ x ∷ []) c.in_ok-owned.ensures.ok in
    let grown = grow_new bytes_eq g.K.DictionaryKey.integer all s.keys c.push.new.self c.self.invariant c.in-Some.key c.len.result t (map string_bytes c.insert.new.self.keys) c.in_default-push.ensures c.in-Some.ensures.0 count texts absent in
    grown.0

pub returns : goal.returns
returns g c =
    let s = c.self.inside in
    let t = c.args.text.now in
    let owned = c.in_ok-owned.owned in
    let all = map string_bytes s.values.keys in
    let absent : list_any (bytes_eq t) all ≡ false = ap (list_any (bytes_eq t)) (sym c.self.invariant.values ∙ ap (values_among bytes_eq) c.self.view_is) ∙ c.requires in
    let more : c.insert.new.self.keys ≡ s.values.keys ++ owned ∷ [] = text_new s.values.keys c.insert.new.self.keys owned t c.in_ok-insert.ensures.keys c.in_ok-owned.ensures.ok absent in
    let count : c.len.result ≡ length all = c.len.ensures.len ∙ sym (length-map s.values.keys string_bytes) in
    let texts : map string_bytes c.insert.new.self.keys ≡ all ++ t ∷ [] = ap (map string_bytes) more ∙ map_push string_bytes s.values.keys owned ∙ ap (λ x. all ++ x ∷ []) c.in_ok-owned.ensures.ok in
    let grown = grow_new bytes_eq g.K.DictionaryKey.integer all s.keys c.push.new.self c.self.invariant c.in-Some.key c.len.result t (map string_bytes c.insert.new.self.keys) c.in_default-push.ensures c.in-Some.ensures.0 count texts absent in
    grown.1 ∙ ap (λ slots. slots ++ Some t ∷ []) c.self.view_is

pub returns-in_default : goal.returns-in_default
returns-in_default g c =
    let s = c.self.inside in
    let same = ap (values_among bytes_eq) (sym c.self.view_is) ∙ c.self.invariant.values in
    let count : c.len.result ≡ length (values_among bytes_eq c.args.self.now) = c.len.ensures.len ∙ sym (length-map s.values.keys string_bytes) ∙ ap length (sym same) in
    (refl, miss_new bytes_eq c.args.self.now c.args.text.now g.K.BuildKey.count c.len.result c.requires count c.in_default.ensures)
