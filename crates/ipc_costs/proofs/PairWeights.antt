-- Pairs that are read, and the extension that they name, are no larger than their tables cost.
use Rattle.std.proofs.Common.{◌≡◌, ℕ, zero, suc, ◌+◌, ◌≤◌, Bool, true, false, cond, ◌||◌, List, [], ◌∷◌, Option, Some, None, Result, Ok, Err, length, refl, ap, sym, ◌∙◌, subst, arith}
use Rattle.std.proofs.lemmas.Map.Text.{is_eq-slice_cmp}
use Rattle.std.proofs.lemmas.Slice.Eq.{bytes_eq-Decides}
use Rattle.std.specs.Cmp.Lexicographic.{slice_cmp}
use Rattle.std.specs.Ordering.{match_ordering, nat_cmp, is_eq}
use Rattle.std.specs.declared.cmp.Ordering.{Ordering}
use Rattle.std.specs.declared.cmp.Ordering.TheVariants.{Less, Equal, Greater}
use Rattle.lower.specs.Normal.{data_key, is_extension_key, name_key, with_pair}
use Rattle.lower.specs.TypeTrees.{Pairs}
use Rattle.ipc_devices.specs.declared.fault.TableFault.{TableFault}
use Rattle.ipc_table_views.specs.SchemaSlots.{key_value_key, key_value_value}
use Rattle.ipc_table_views.specs.Spot.{Spot, Vector}
use Rattle.ipc_table_views.specs.Tables.{table_in}
use Rattle.ipc_model.proofs.Given.{given-some, made-some, some-same}
use Rattle.ipc_model.specs.Schemas.{made, pairs_at, pairs_from, present, value_under, with_key_value, with_read}
use Rattle.ipc_costs.specs.Costs.{pair_cost, pair_texts, table_cost, tables_cost, vector_cost}
use Rattle.ipc_costs.specs.Sizes.{pairs_size, text_size}

pub present-made : {A : Type 0} (r : Result (Option A) TableFault) (o : Option A) → made r ≡ Some o → present r ≡ o
present-made (Ok None) o e = cc
present-made (Ok (Some x)) o e = cc
present-made (Err d) o e = cc

keys-same : (k j : List ℕ) → is_eq (slice_cmp nat_cmp k j) ≡ true → k ≡ j
keys-same k j e = (bytes_eq-Decides k j).0 (sym (is_eq-slice_cmp k j) ∙ e)

-- ---- a pair weighs its texts, and its value once more if its key is one of extensions

again : (key value : List ℕ) → ℕ
again key value = cond (is_extension_key key) (length value) 0

weight : Pairs → ℕ
weight [] = 0
weight (e ∷ es) = 1 + length e.0 + length e.1 + again e.0 e.1 + weight es

none-weighs : weight [] ≡ 0
unfolding weight
none-weighs = refl

more-weighs : (e : List ℕ × List ℕ) (es : Pairs) → weight (e ∷ es) ≡ 1 + length e.0 + length e.1 + again e.0 e.1 + weight es
unfolding weight
more-weighs e es = refl

weight-with : (k v : List ℕ) (es : Pairs) → weight (with_pair k v es) ≤ 1 + length k + length v + again k v + weight es
weight-with k v [] = omega (arith, more-weighs (k, v) [], none-weighs)
weight-with k v (e ∷ es) = at (slice_cmp nat_cmp k e.0) refl (weight-with k v es)
  where
    at : (o : Ordering) → slice_cmp nat_cmp k e.0 ≡ o → weight (with_pair k v es) ≤ 1 + length k + length v + again k v + weight es
        → weight (match_ordering o ((k, v) ∷ e ∷ es) ((e.0, v) ∷ es) (e ∷ with_pair k v es)) ≤ 1 + length k + length v + again k v + weight (e ∷ es)
    at Less is h = omega (arith, more-weighs (k, v) (e ∷ es))
    at Equal is h =
        let same : k ≡ e.0 = keys-same k e.0 (ap is_eq is) in
        let moved = ap (λ (j : List ℕ). weight ((j, v) ∷ es)) same in
        omega (arith, more-weighs (k, v) es, moved, more-weighs e es)
    at Greater is h = omega (arith, h, more-weighs e es, more-weighs e (with_pair k v es))

read-weighs : (k v : Option (List ℕ)) (es : Pairs) → weight (with_read k v es) ≤ 1 + pair_texts k v + weight es
unfolding again
read-weighs None v es = omega arith
read-weighs (Some k) None es = omega arith
read-weighs (Some k) (Some v) es = omega (arith, weight-with k v es)

pair-weighs : (t : Spot) (es after : Pairs) → with_key_value t es ≡ Some after → weight after ≤ 1 + pair_cost t + weight es
pair-weighs t es after e =
    let (k, k_is, e1) = given-some (made (key_value_key t)) _ after e in
    let (v, v_is, e2) = given-some (made (key_value_value t)) _ after e1 in
    let same : with_read k v es ≡ after = some-same _ _ e2 in
    let key = present-made (key_value_key t) k k_is in
    let value = present-made (key_value_value t) v v_is in
    subst (λ (p : Pairs). weight p ≤ 1 + pair_cost t + weight es) same
    (subst (λ (j : Option (List ℕ)). weight (with_read k v es) ≤ 1 + pair_texts j (present (key_value_value t)) + weight es) (sym key)
    (subst (λ (j : Option (List ℕ)). weight (with_read k v es) ≤ 1 + pair_texts k j + weight es) (sym value) (read-weighs k v es)))

pairs-weigh : (v : Vector) (k n : ℕ) (es after : Pairs) → pairs_from v k n es ≡ Some after → weight after ≤ tables_cost pair_cost v k n + weight es
pairs-weigh v k zero es after e =
    let same : es ≡ after = some-same es after e in
    omega (arith, ap weight same)
pairs-weigh v k (suc n) es after e =
    let (t, t_is, e1) = given-some (made (table_in v k)) _ after e in
    let (mid, mid_is, e2) = given-some (with_key_value t es) _ after e1 in
    let opened = ap (table_cost pair_cost) (made-some (table_in v k) t t_is) in
    omega (arith, opened, pair-weighs t es mid mid_is, pairs-weigh v (k + 1) n mid after e2)

-- ---- the texts of the extension

apart : (key : List ℕ) → is_eq (slice_cmp nat_cmp name_key key) ≡ true → is_eq (slice_cmp nat_cmp data_key key) ≡ true → ⊥
apart key name data_ =
    let same : name_key ≡ data_key = keys-same name_key key name ∙ sym (keys-same data_key key data_) in
    let lengths : length name_key ≡ length data_key = ap length same in
    omega (arith, lengths)

texts-weigh : (es : Pairs) → pairs_size es + text_size (value_under name_key es) + text_size (value_under data_key es) ≤ weight es
unfolding weight again
texts-weigh [] = omega arith
texts-weigh (e ∷ es) = at (is_eq (slice_cmp nat_cmp name_key e.0)) (is_eq (slice_cmp nat_cmp data_key e.0)) refl refl (texts-weigh es)
  where
    at : (n d : Bool) → is_eq (slice_cmp nat_cmp name_key e.0) ≡ n → is_eq (slice_cmp nat_cmp data_key e.0) ≡ d
        → pairs_size es + text_size (value_under name_key es) + text_size (value_under data_key es) ≤ weight es
        → 1 + length e.0 + length e.1 + pairs_size es + text_size (cond n (Some e.1) (value_under name_key es)) + text_size (cond d (Some e.1) (value_under data_key es))
        ≤ 1 + length e.0 + length e.1 + cond (n || d) (length e.1) 0 + weight es
    at true true n_is d_is h = absurd (apart e.0 n_is d_is)
    at true false n_is d_is h = omega (arith, h)
    at false true n_is d_is h = omega (arith, h)
    at false false n_is d_is h = omega (arith, h)

-- ---- the pairs of a field or of a schema

pub pairs-texts : (o : Option Vector) (es : Pairs) → pairs_at o ≡ Some es
    → pairs_size es + text_size (value_under name_key es) + text_size (value_under data_key es) ≤ vector_cost pair_cost o
unfolding pairs_at
pairs-texts None es e =
    let same : [] ≡ es = some-same [] es e in
    subst (λ (p : Pairs). pairs_size p + text_size (value_under name_key p) + text_size (value_under data_key p) ≤ 0) same (omega arith)
pairs-texts (Some v) es e = omega (arith, texts-weigh es, pairs-weigh v 0 v.count [] es e, none-weighs)

pub pairs-cost : (o : Option Vector) (es : Pairs) → pairs_at o ≡ Some es → pairs_size es ≤ vector_cost pair_cost o
pairs-cost o es e = omega (arith, pairs-texts o es e)
