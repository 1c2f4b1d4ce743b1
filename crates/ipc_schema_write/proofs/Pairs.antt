-- Pairs that are written in order are read unchanged, and name the extension that was added.
use Rattle.std.proofs.Common.{◌≡◌, ℕ, ◌+◌, List, [], ◌∷◌, ◌++◌, length, append-nil, append_assoc, ◌||◌, Bool, true, false, cond, Ordering, Less, Equal, Greater, nat_cmp, is_eq, Option, Some, None, String, Global, string_bytes, refl, sym, ap, subst, ◌∙◌, arith}
use Rattle.std.specs.Ordering.{match_ordering, ordering_reverse}
use Rattle.std.specs.Cmp.Lexicographic.{slice_cmp}
use Rattle.std.specs.Cmp.{tied_itself}
use Rattle.std.proofs.lemmas.Cmp.{nat_list_cmp_total}
use Rattle.std.specs.List.{AllByRecursion}
use Rattle.std.specs.List.Sorted.{IsStrictlySortedBy}
use Rattle.std.specs.Map.{keys_of}
use Rattle.std.specs.String.{string_cmp}
use Rattle.lower.specs.Normal.{name_key, data_key, is_extension_key, without, with_pair, put_extension}
use Rattle.lower.specs.TypeTrees.{Pairs}
use Rattle.lower.specs.TypeViews.{pairs_of}
use Rattle.lower.proofs.Laws.{Lacks, Lacks-without, Lacks-other, Lacks-with}
use Rattle.ipc_model.specs.Schemas.{value_under}
use Rattle.ipc_model.specs.Writable.{pairs_weight}
use Rattle.ipc_tables.specs.declared.schema.KeyValue.{KeyValue}
use Rattle.ipc_tables.specs.Weights.{pairs_weight as tables_weight}
use Rattle.ipc_schema_write.specs.Meanings.{Above, ArePairsOf, Ascend, extension_pairs, pairs_in, put_pairs}

-- ---- the order of keys

above_from : (k : String Global) (es : List (String Global × String Global)) → AllByRecursion (λ y. string_cmp k y ≡ Less) (keys_of es) → Above (string_bytes k) (pairs_of es)
above_from k [] h = tt
above_from k (e ∷ es) h = (h.0, above_from k es h.1)

-- The entries of a map are in order.
pub ascend_from : (es : List (String Global × String Global)) → IsStrictlySortedBy string_cmp (keys_of es) → Ascend (pairs_of es)
unfolding IsStrictlySortedBy
ascend_from [] h = tt
ascend_from (e ∷ es) h = (above_from e.0 es h.0, ascend_from es h.1)

above_without_at : (j k : List ℕ) (b : Bool) (e : List ℕ × List ℕ) (es : Pairs) → slice_cmp nat_cmp j e.0 ≡ Less → Above j es → Above j (cond b es (e ∷ es))
above_without_at j k true e es here rest = rest
above_without_at j k false e es here rest = (here, rest)

above_without : (j k : List ℕ) (es : Pairs) → Above j es → Above j (without k es)
above_without j k [] h = tt
above_without j k (e ∷ es) h = above_without_at j k _ e (without k es) h.0 (above_without j k es h.1)

ascend_without_at : (b : Bool) (e : List ℕ × List ℕ) (es : Pairs) → Above e.0 es → Ascend es → Ascend (cond b es (e ∷ es))
ascend_without_at true e es here rest = rest
ascend_without_at false e es here rest = (here, rest)

pub ascend_without : (k : List ℕ) (es : Pairs) → Ascend es → Ascend (without k es)
ascend_without k [] h = tt
ascend_without k (e ∷ es) h = ascend_without_at _ e (without k es) (above_without e.0 k es h.0) (ascend_without k es h.1)

-- ---- reading pairs

below : (a k : List ℕ) (es rest : Pairs) (v : List ℕ) → Above a (es ++ (k, v) ∷ rest) → slice_cmp nat_cmp k a ≡ Greater
below a k [] rest v h = nat_list_cmp_total.antisymm k a ∙ ap ordering_reverse h.0
below a k (e ∷ es) rest v h = below a k es rest v h.1

-- a pair whose key is above the others comes last
with_last : (es : Pairs) (k v : List ℕ) (rest : Pairs) → Ascend (es ++ (k, v) ∷ rest) → with_pair k v es ≡ es ++ (k, v) ∷ []
with_last [] k v rest h = refl
with_last (e ∷ es) k v rest h = rw (below e.0 k es rest v h.0, with_last es k v rest h.1) refl

put_after : (es ps : Pairs) → Ascend (es ++ ps) → put_pairs ps es ≡ es ++ ps
put_after es [] h = sym (append-nil es)
put_after es (p ∷ ps) h =
    let more : (es ++ p ∷ []) ++ ps ≡ es ++ p ∷ ps = append_assoc es (p ∷ []) ps in
    ap (put_pairs ps) (with_last es p.0 p.1 ps h) ∙ put_after (es ++ p ∷ []) ps (subst Ascend (sym more) h) ∙ more

pub put-append : (ps qs es : Pairs) → put_pairs (ps ++ qs) es ≡ put_pairs qs (put_pairs ps es)
put-append [] qs es = refl
put-append (p ∷ ps) qs es = put-append ps qs (with_pair p.0 p.1 es)

-- Pairs in order are read unchanged.
pub put-ascending : (ps : Pairs) → Ascend ps → put_pairs ps [] ≡ ps
put-ascending ps h = put_after [] ps h

-- ---- weights

pub weight-append : (ps qs : Pairs) → pairs_weight (ps ++ qs) ≡ pairs_weight ps + pairs_weight qs
weight-append [] qs = omega arith
weight-append (p ∷ ps) qs = omega (arith, weight-append ps qs)

weight-with_at : (k v : List ℕ) (o : Ordering) (e : List ℕ × List ℕ) (es put : Pairs) → slice_cmp nat_cmp k e.0 ≡ o → is_eq (slice_cmp nat_cmp k e.0) ≡ false
    → pairs_weight put ≡ 64 + length k + length v + pairs_weight es
    → pairs_weight (match_ordering o ((k, v) ∷ e ∷ es) ((e.0, v) ∷ es) (e ∷ put)) ≡ 64 + length k + length v + pairs_weight (e ∷ es)
weight-with_at k v Less e es put is apart h = omega arith
weight-with_at k v Equal e es put is apart h = absurd (let same : true ≡ false = ap is_eq (sym is) ∙ apart in cc)
weight-with_at k v Greater e es put is apart h = omega (arith, h)

-- a new pair adds its own weight
pub weight-with : (k v : List ℕ) (es : Pairs) → Lacks k es → pairs_weight (with_pair k v es) ≡ 64 + length k + length v + pairs_weight es
weight-with k v [] h = omega arith
weight-with k v (e ∷ es) h = weight-with_at k v _ e es (with_pair k v es) refl h.0 (weight-with k v es h.1)

pub tables-weigh : (ps : List KeyValue) → tables_weight ps ≡ pairs_weight (pairs_in ps)
tables-weigh [] = refl
tables-weigh (p ∷ ps) = omega (arith, tables-weigh ps)

-- ---- the extension of a field

put-extension : (x : Option (List ℕ × Option (List ℕ))) (es : Pairs) → put_pairs (extension_pairs x) es ≡ put_extension x es
put-extension None es = refl
put-extension (Some (name, None)) es = refl
put-extension (Some (name, Some text)) es = refl

pub extension-weight : (x : Option (List ℕ × Option (List ℕ))) (es : Pairs) → Lacks name_key es → Lacks data_key es
    → pairs_weight es + pairs_weight (extension_pairs x) ≡ pairs_weight (put_extension x es)
extension-weight None es n d = omega arith
extension-weight (Some (name, None)) es n d = omega (arith, weight-with name_key name es n)
extension-weight (Some (name, Some text)) es n d =
    let first = weight-with data_key text es d in
    let second = weight-with name_key name (with_pair data_key text es) (Lacks-with name_key data_key text es refl n) in
    omega (arith, first, second)

pub no_name : (es : Pairs) → Lacks name_key (without name_key (without data_key es))
no_name es = Lacks-without name_key (without data_key es)

pub no_data : (es : Pairs) → Lacks data_key (without name_key (without data_key es))
no_data es = Lacks-other data_key name_key (without data_key es) (Lacks-without data_key es)

-- The pairs as they are in a map.
pub are_pairs : (ps : List KeyValue) (es : Pairs) → Ascend es → pairs_in ps ≡ es → ArePairsOf ps es
are_pairs ps es h is = record { means = ap (λ qs. put_pairs qs []) is ∙ put-ascending es h; weighs = ap pairs_weight is }

-- The pairs of a field in its normal form.
pub are_normal : (ps : List KeyValue) (es : Pairs) (x : Option (List ℕ × Option (List ℕ))) → Ascend es
    → pairs_in ps ≡ without name_key (without data_key es) ++ extension_pairs x → ArePairsOf ps (put_extension x (without name_key (without data_key es)))
are_normal ps es x h is =
    let base = without name_key (without data_key es) in
    let rising = ascend_without name_key (without data_key es) (ascend_without data_key es h) in
    record {
      means = ap (λ qs. put_pairs qs []) is ∙ put-append base (extension_pairs x) [] ∙ ap (put_pairs (extension_pairs x)) (put-ascending base rising) ∙ put-extension x base;
      weighs = ap pairs_weight is ∙ weight-append base (extension_pairs x) ∙ extension-weight x base (no_name es) (no_data es);
    }

-- ---- values under keys

congr_right : (k j i : List ℕ) → slice_cmp nat_cmp j i ≡ Equal → slice_cmp nat_cmp k i ≡ slice_cmp nat_cmp k j
congr_right k j i same =
    nat_list_cmp_total.antisymm k i ∙ ap ordering_reverse (sym (nat_list_cmp_total.congr j i k same)) ∙ sym (nat_list_cmp_total.antisymm k j)

under-with_at : (k v : List ℕ) (o : Ordering) (e : List ℕ × List ℕ) (es put : Pairs) → slice_cmp nat_cmp k e.0 ≡ o → value_under k put ≡ Some v
    → value_under k (match_ordering o ((k, v) ∷ e ∷ es) ((e.0, v) ∷ es) (e ∷ put)) ≡ Some v
under-with_at k v Less e es put is h = rw (tied_itself nat_list_cmp_total k) refl
under-with_at k v Equal e es put is h = rw is refl
under-with_at k v Greater e es put is h = rw is h

pub under-with : (k v : List ℕ) (es : Pairs) → value_under k (with_pair k v es) ≡ Some v
under-with k v [] = rw (tied_itself nat_list_cmp_total k) refl
under-with k v (e ∷ es) = under-with_at k v _ e es (with_pair k v es) refl (under-with k v es)

under-other_at : (k j v : List ℕ) (o : Ordering) (e : List ℕ × List ℕ) (es put : Pairs) → is_eq (slice_cmp nat_cmp k j) ≡ false → slice_cmp nat_cmp j e.0 ≡ o → value_under k put ≡ value_under k es
    → value_under k (match_ordering o ((j, v) ∷ e ∷ es) ((e.0, v) ∷ es) (e ∷ put)) ≡ value_under k (e ∷ es)
under-other_at k j v Less e es put apart is h = rw apart refl
under-other_at k j v Equal e es put apart is h =
    let here : is_eq (slice_cmp nat_cmp k e.0) ≡ false = ap is_eq (congr_right k j e.0 is) ∙ apart in
    rw here refl
under-other_at k j v Greater e es put apart is h = rw h refl

pub under-other : (k j v : List ℕ) (es : Pairs) → is_eq (slice_cmp nat_cmp k j) ≡ false → value_under k (with_pair j v es) ≡ value_under k es
under-other k j v [] apart = rw apart refl
under-other k j v (e ∷ es) apart = under-other_at k j v _ e es (with_pair j v es) apart refl (under-other k j v es apart)

pub under-none : (k : List ℕ) (es : Pairs) → Lacks k es → value_under k es ≡ None
under-none k [] h = refl
under-none k (e ∷ es) h = rw h.0 (under-none k es h.1)

-- ---- the pairs that say no extension

own_at : (a b : Bool) (e : List ℕ × List ℕ) (es : Pairs) → is_eq (slice_cmp nat_cmp name_key e.0) ≡ a → is_eq (slice_cmp nat_cmp data_key e.0) ≡ b
    → without name_key (cond b (without data_key es) (e ∷ without data_key es)) ≡ cond (a || b) (without name_key (without data_key es)) (e ∷ without name_key (without data_key es))
own_at true true e es n d = refl
own_at true false e es n d = rw n refl
own_at false true e es n d = refl
own_at false false e es n d = rw n refl

pub own-cons : (e : List ℕ × List ℕ) (es : Pairs)
    → without name_key (without data_key (e ∷ es)) ≡ cond (is_extension_key e.0) (without name_key (without data_key es)) (e ∷ without name_key (without data_key es))
own-cons e es = own_at _ _ e es refl refl
