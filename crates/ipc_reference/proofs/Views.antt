-- Kinds, level by level.
use Rattle.std.proofs.Common.{◌≡◌, ℕ, ◌+◌, ◌<◌, ◌≤◌, List, Vec, Box, Global, rules, ap, sym, ◌∙◌, drop, get_or, length, true, false, ◌==◌, [], ◌∷◌, refl, arith}
use Rattle.std.proofs.lemmas.Bool.{eqb-true}
use Rattle.std.proofs.lemmas.List.{at_drop_more, at_drop_all}
use Rattle.lower.specs.declared.datatypes.IntegerType.{IntegerType}
use Rattle.ipc_model.specs.Kinds.{offsets_32, number_kind, utf8_kind, list_kind, struct_kind, no_kinds, more_kinds, nodes, all_nodes, buffers, all_buffers}
use Rattle.ipc_model.specs.Tests.{is_some}
use Rattle.ipc_model.specs.TypeKinds.{key_form}
use Rattle.ipc_reference.specs.PlainKinds.{kind_view, kinds_view}
use Rattle.ipc_reference.specs.declared.kinds.PlainKind.{PlainKind, Int, Utf8, List as ListKind, Struct, the_lemmas}

pub kind-Int : (form : IntegerType) → kind_view (Int form) ≡ number_kind (key_form form)
kind-Int form = search (rules, the_lemmas)

pub kind-Utf8 : kind_view Utf8 ≡ utf8_kind offsets_32
kind-Utf8 = search (rules, the_lemmas)

pub kind-List : (item : Box PlainKind Global) → kind_view (ListKind item) ≡ list_kind offsets_32 (kind_view item.value)
kind-List item = search (rules, the_lemmas)

pub kind-Struct : (fields : Vec PlainKind Global) → kind_view (Struct fields) ≡ struct_kind (kinds_view fields.items)
kind-Struct fields = search (rules, the_lemmas)

pub ruleset kinds = (kind-Int, kind-Utf8, kind-List, kind-Struct)

-- the kinds that are left at one of them
pub kinds_left : (ks : List PlainKind) (i : ℕ) (k : PlainKind) → k ≡ get_or ks i k → i < length ks
    → kinds_view (drop i ks) ≡ more_kinds (kind_view k) (kinds_view (drop (i + 1) ks))
kinds_left ks i k e h = at_drop_more kinds_view ks i k h ∙ ap (λ j. more_kinds (kind_view j) (kinds_view (drop (i + 1) ks))) (sym e)

pub kinds_none : (ks : List PlainKind) (i : ℕ) → length ks ≤ i → kinds_view (drop i ks) ≡ no_kinds
kinds_none ks i h = at_drop_all kinds_view ks i h

pub nodes_left : (ks : List PlainKind) (i : ℕ) (k : PlainKind) → k ≡ get_or ks i k → i < length ks
    → all_nodes (kinds_view (drop i ks)) ≡ nodes (kind_view k) + all_nodes (kinds_view (drop (i + 1) ks))
nodes_left ks i k e h = ap all_nodes (kinds_left ks i k e h)

pub nodes_none : (ks : List PlainKind) (i : ℕ) → length ks ≤ i → all_nodes (kinds_view (drop i ks)) ≡ 0
nodes_none ks i h = ap all_nodes (kinds_none ks i h)

pub buffers_left : (extra : ℕ) (ks : List PlainKind) (i : ℕ) (k : PlainKind) → k ≡ get_or ks i k → i < length ks
    → all_buffers extra (kinds_view (drop i ks)) ≡ buffers extra (kind_view k) + all_buffers extra (kinds_view (drop (i + 1) ks))
buffers_left extra ks i k e h = ap (all_buffers extra) (kinds_left ks i k e h)

pub buffers_none : (extra : ℕ) (ks : List PlainKind) (i : ℕ) → length ks ≤ i → all_buffers extra (kinds_view (drop i ks)) ≡ 0
buffers_none extra ks i h = ap (all_buffers extra) (kinds_none ks i h)

pub ruleset lefts = (nodes_left, nodes_none, buffers_left, buffers_none)

-- whether there is a kind
pub some_kinds : (ks : List PlainKind) → (length ks == 0) ≡ false → is_some (kinds_view ks) ≡ true
some_kinds [] h = absurd cc
some_kinds (k ∷ ks) h = refl

pub no_kind : (ks : List PlainKind) → (length ks == 0) ≡ true → is_some (kinds_view ks) ≡ false
no_kind [] h = refl
no_kind (k ∷ ks) h = let none : length (k ∷ ks) ≡ 0 = eqb-true (length (k ∷ ks)) 0 h in absurd (omega arith)

pub ruleset somes = (some_kinds, no_kind)
