use Rattle.std.proofs.Common.{arith, ◌≡◌, ◌≤◌, Global, String, length, map, sym, ap, subst, ◌∙◌}
use Rattle.std.specs.Prelude.{false, Some, string_bytes, option_map}
use Rattle.std.proofs.lemmas.List.{length-map}
use Rattle.std.proofs.lemmas.Simd.{map-map}
use Rattle.std.proofs.lemmas.Result.{err_from_is_err_and}
use Rattle.std.specs.Str.{bytes_eq}
use Rattle.lower.specs.TypeTrees.{plain, utf8, dictionary}
use Rattle.lower.specs.TypeViews.{type_view}
use Rattle.lower_flat_arrays.specs.Options.{options}
use Rattle.lower_validation.specs.AnyKeys.{keys_seen}
use Rattle.lower_arrays.specs.Layouts.{len_of, type_of}
use Rattle.lower_arrays.specs.AnyLayouts.{layout_of}
use Rattle.lower_builders.specs.Growing.{CantReach}
use Rattle.lower_builders.specs.Bytes.{byte_count}
use Rattle.lower_dictionary_builders.specs.Keyed.{values_among, value_of, texts_in}
use Rattle.lower_dictionary_builders.proofs.Rules.{enough_slots, no_dictionary_error}
use Rattle.lower_dictionary_builders.proofs.Texts.{view-Utf8}
use Rattle.lower_dictionary_builders.proofs.utf8.MutableUtf8DictionaryArray.finish.Goals as goal

pub returns-in_err-texts-clause-error : goal.returns-in_err-texts-clause-error
returns-in_err-texts-clause-error g c =
    let ks = c.self.inside.values.keys in
    let p = err_from_is_err_and c.from_residual-in_err-texts.result c.from_residual-in_err-texts.ensures.1 in
    let same : map (λ (t : String Global). Some (string_bytes t)) c.as_slice.result.now ≡ map Some (values_among bytes_eq c.args.self) =
    ap (map (λ (t : String Global). Some (string_bytes t))) c.as_slice.ensures.keys
    ∙ sym (map-map Some string_bytes ks)
    ∙ ap (map Some) (sym c.self.invariant.values ∙ ap (values_among bytes_eq) c.self.view_is)
    in
    rw (p.1, p.2) (subst (λ slots. CantReach 2147483648 (byte_count slots) c.in_err-texts.field-0.0) same c.in_err-texts.ensures.error)

pub unreachable-requires : goal.unreachable-requires
unreachable-requires g c =
    let s = c.self.inside in
    let all = map string_bytes s.values.keys in
    let keys = map (option_map g.K.DictionaryKey.integer) s.keys in
    let texts = c.in_ok-texts.texts in
    let l = layout_of c.in_ok-values.values.value in
    let is : l ≡ layout_of c.from.result = ap layout_of c.in_ok-values.ensures.ok in
    let type : type_of l ≡ plain utf8 = ap type_of (is ∙ c.from.ensures) ∙ c.in_ok-texts.ensures.data_type in
    let count : length (map (λ (t : String Global). Some (string_bytes t)) c.as_slice.result.now) ≡ length all =
    ap (λ xs. length (map (λ (t : String Global). Some (string_bytes t)) xs)) c.as_slice.ensures.keys
    ∙ length-map s.values.keys (λ (t : String Global). Some (string_bytes t))
    ∙ sym (length-map s.values.keys string_bytes)
    in
    let slots = enough_slots texts (map (λ (t : String Global). Some (string_bytes t)) c.as_slice.result.now) c.in_ok-texts.ensures.slots in
    let len : len_of l ≡ len_of (layout_of c.from.result) = ap len_of is in
    let some = ap len_of c.from.ensures in
    let enough : length all ≤ len_of l = omega (arith, count, slots, len, some) in
    no_dictionary_error g.K.DictionaryKey.key (type_view c.in_ok-data_type.data_type) (plain utf8) (keys_seen c.in_ok-keys.keys) keys (type_of l) (length all) (len_of l) c.in-Err.field-0
    (c.in_ok-data_type.ensures ∙ ap (λ t. dictionary c.key_type.result t false) view-Utf8 ∙ ap (λ k. dictionary k (plain utf8) false) c.key_type.ensures)
    c.in_ok-keys.ensures type c.self.invariant.each enough c.in-Err.ensures

pub returns-clause-slots : goal.returns-clause-slots
returns-clause-slots g c =
    let same = ap (values_among bytes_eq) (sym c.self.view_is) ∙ c.self.invariant.values in
    ap (λ a. map (value_of (values_among bytes_eq c.args.self)) (options a.keys.validity a.keys.integers)) c.in-Ok.ensures.0
    ∙ ap (map (value_of (values_among bytes_eq c.args.self))) c.in_ok-keys.ensures.slots_are
    ∙ ap (λ texts. map (value_of texts) (map (option_map g.K.DictionaryKey.integer) c.self.inside.keys)) same
    ∙ c.self.view_is

pub returns-clause-values : goal.returns-clause-values
returns-clause-values g c =
    let ks = c.self.inside.values.keys in
    ap (λ a. texts_in a.values) c.in-Ok.ensures.0
    ∙ ap (λ a. texts_in (layout_of a)) c.in_ok-values.ensures.ok
    ∙ ap texts_in c.from.ensures
    ∙ c.in_ok-texts.ensures.slots
    ∙ ap (map (λ (t : String Global). Some (string_bytes t))) c.as_slice.ensures.keys
    ∙ sym (map-map Some string_bytes ks)
    ∙ ap (map Some) (sym c.self.invariant.values ∙ ap (values_among bytes_eq) c.self.view_is)
