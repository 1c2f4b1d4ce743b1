-- Inductions over types.
use Rattle.std.proofs.Common.{◌≡◌, ℕ, ◌+◌, ◌≤◌, List, [], ◌∷◌, Option, Some, None, Ordering, Less, Equal, Greater, nat_cmp, is_eq, Bool, true, false, true≢false, cond, refl, sym, ap, ◌∙◌, arith}
use Rattle.std.specs.Ordering.{match_ordering}
use Rattle.std.specs.Cmp.Lexicographic.{slice_cmp}
use Rattle.std.specs.Cmp.{tied_itself}
use Rattle.std.proofs.lemmas.Cmp.{nat_list_cmp_total}
use Rattle.lower.specs.TypeTrees.{Pairs, TypeTree, plain, single, group, dictionary, extension, FieldTree, field, FieldTrees, no_fields, more_fields}
use Rattle.lower.specs.Counts.{nodes, field_nodes, fields_nodes}
use Rattle.lower.specs.Normal.{norm, norm_field, norm_fields, norm_pairs, extension_of, extension_of_values, put_extension, put_text, without, with_pair, kept_pairs, name_key, data_key}

pub nodes_pos : (t : TypeTree) → 1 ≤ nodes t
nodes_pos (plain p) = omega arith
nodes_pos (single s f) = omega arith
nodes_pos (group g fs) = omega arith
nodes_pos (dictionary keys t ordered) = omega arith
nodes_pos (extension name t text) = nodes_pos t

mutual
  pub nodes-norm : (t : TypeTree) → nodes (norm t) ≡ nodes t
  nodes-norm (plain p) = refl
  nodes-norm (single s f) = ap (λ n. 1 + n) (field_nodes-norm f)
  nodes-norm (group g fs) = ap (λ n. 1 + n) (fields_nodes-norm fs)
  nodes-norm (dictionary keys t ordered) = refl
  nodes-norm (extension name t text) = nodes-norm t

  field_nodes-norm : (f : FieldTree) → field_nodes (norm_field f) ≡ field_nodes f
  field_nodes-norm (field name t nullable metadata) = nodes-norm t

  fields_nodes-norm : (fs : FieldTrees) → fields_nodes (norm_fields fs) ≡ fields_nodes fs
  fields_nodes-norm no_fields = refl
  fields_nodes-norm (more_fields f fs) = rw (field_nodes-norm f, fields_nodes-norm fs)

-- No pair of the list has the key.
abbrev pub Lacks : List ℕ → Pairs → Type 0
Lacks k [] = Unit {0}
Lacks k (e ∷ es) = (is_eq (slice_cmp nat_cmp k e.0) ≡ false) × Lacks k es

Lacks-without_at : (k : List ℕ) (b : Bool) (e : List ℕ × List ℕ) (es : Pairs) → is_eq (slice_cmp nat_cmp k e.0) ≡ b → Lacks k es → Lacks k (cond b es (e ∷ es))
Lacks-without_at k true e es h rest = rest
Lacks-without_at k false e es h rest = (h, rest)

pub Lacks-without : (k : List ℕ) (es : Pairs) → Lacks k (without k es)
Lacks-without k [] = tt
Lacks-without k (e ∷ es) = Lacks-without_at k _ e (without k es) refl (Lacks-without k es)

Lacks-other_at : (k : List ℕ) (b : Bool) (e : List ℕ × List ℕ) (es : Pairs) → is_eq (slice_cmp nat_cmp k e.0) ≡ false → Lacks k es → Lacks k (cond b es (e ∷ es))
Lacks-other_at k true e es h rest = rest
Lacks-other_at k false e es h rest = (h, rest)

-- Removing pairs leaves none with a key.
pub Lacks-other : (k j : List ℕ) (es : Pairs) → Lacks k es → Lacks k (without j es)
Lacks-other k j [] h = tt
Lacks-other k j (e ∷ es) h = Lacks-other_at k _ e (without j es) h.0 (Lacks-other k j es h.1)

Lacks-with_at : (k j v : List ℕ) (o : Ordering) (e : List ℕ × List ℕ) (es put : Pairs) → is_eq (slice_cmp nat_cmp k j) ≡ false → is_eq (slice_cmp nat_cmp k e.0) ≡ false → Lacks k es → Lacks k put
    → Lacks k (match_ordering o ((j, v) ∷ e ∷ es) ((e.0, v) ∷ es) (e ∷ put))
Lacks-with_at k j v Less e es put apart h rest other = (apart, (h, rest))
Lacks-with_at k j v Equal e es put apart h rest other = (h, rest)
Lacks-with_at k j v Greater e es put apart h rest other = (h, other)

-- Nor does a pair with another key add one.
pub Lacks-with : (k j v : List ℕ) (es : Pairs) → is_eq (slice_cmp nat_cmp k j) ≡ false → Lacks k es → Lacks k (with_pair j v es)
Lacks-with k j v [] apart h = (apart, tt)
Lacks-with k j v (e ∷ es) apart h = Lacks-with_at k j v _ e es (with_pair j v es) apart h.0 h.1 (Lacks-with k j v es apart h.1)

pub without-Lacks : (k : List ℕ) (es : Pairs) → Lacks k es → without k es ≡ es
without-Lacks k [] h = refl
without-Lacks k (e ∷ es) h = rw (h.0, without-Lacks k es h.1)

without-with_at : (k v : List ℕ) (o : Ordering) (e : List ℕ × List ℕ) (es put : Pairs) → slice_cmp nat_cmp k e.0 ≡ o → is_eq (slice_cmp nat_cmp k e.0) ≡ false → without k es ≡ es → without k put ≡ es
    → without k (match_ordering o ((k, v) ∷ e ∷ es) ((e.0, v) ∷ es) (e ∷ put)) ≡ e ∷ es
without-with_at k v Less e es put is h rest ih = rw (tied_itself nat_list_cmp_total k, h, rest)
without-with_at k v Equal e es put is h rest ih = absurd (true≢false (sym (ap is_eq is) ∙ h))
without-with_at k v Greater e es put is h rest ih = rw (h, ih)

-- A new pair can be removed again.
pub without-with : (k v : List ℕ) (es : Pairs) → Lacks k es → without k (with_pair k v es) ≡ es
without-with k v [] h = rw (tied_itself nat_list_cmp_total k)
without-with k v (e ∷ es) h = without-with_at k v _ e es (with_pair k v es) refl h.0 (without-Lacks k es h.1) (without-with k v es h.1)

without-swap_at : (k j : List ℕ) (a b : Bool) (e : List ℕ × List ℕ) (es fs : Pairs) → is_eq (slice_cmp nat_cmp k e.0) ≡ a → is_eq (slice_cmp nat_cmp j e.0) ≡ b → without k es ≡ without j fs
    → without k (cond b es (e ∷ es)) ≡ without j (cond a fs (e ∷ fs))
without-swap_at k j true true e es fs p q ih = ih
without-swap_at k j true false e es fs p q ih = rw (p, ih)
without-swap_at k j false true e es fs p q ih = rw (q, ih)
without-swap_at k j false false e es fs p q ih = rw (p, q, ih)

pub without-swap : (k j : List ℕ) (es : Pairs) → without k (without j es) ≡ without j (without k es)
without-swap k j [] = refl
without-swap k j (e ∷ es) = without-swap_at k j _ _ e (without j es) (without k es) refl refl (without-swap k j es)

-- The pairs that a field's extension adds can be removed again.
strip-put : (x : Option (List ℕ × Option (List ℕ))) (es : Pairs) → Lacks name_key es → Lacks data_key es → kept_pairs (put_extension x es) ≡ es
strip-put None es n d = rw (without-Lacks data_key es d) (without-Lacks name_key es n)
strip-put (Some e) es n d = at_text e.0 e.1
  where
    at_text : (name : List ℕ) (text : Option (List ℕ)) → kept_pairs (with_pair name_key name (put_text text es)) ≡ es
    at_text name None = rw (without-Lacks data_key _ (Lacks-with data_key name_key name es refl d)) (without-with name_key name es n)
    at_text name (Some text) =
        let below = with_pair data_key text es in
        rw (without-swap name_key data_key (with_pair name_key name below), without-with name_key name below (Lacks-with name_key data_key text es refl n))
        (without-with data_key text es d)

extension_of_values-norm : (t : TypeTree) → extension_of_values (norm t) ≡ extension_of_values t
extension_of_values-norm (plain p) = refl
extension_of_values-norm (single s f) = refl
extension_of_values-norm (group g fs) = refl
extension_of_values-norm (dictionary keys t ordered) = refl
extension_of_values-norm (extension name t text) = refl

pub extension_of-norm : (t : TypeTree) → extension_of (norm t) ≡ extension_of t
extension_of-norm (plain p) = refl
extension_of-norm (single s f) = refl
extension_of-norm (group g fs) = refl
extension_of-norm (dictionary keys t ordered) = extension_of_values-norm t
extension_of-norm (extension name t text) = refl

pub kept-norm : (t : TypeTree) (es : Pairs) → kept_pairs (norm_pairs t es) ≡ kept_pairs es
kept-norm t es =
    let no_name = Lacks-without name_key (without data_key es) in
    let no_data = Lacks-other data_key name_key (without data_key es) (Lacks-without data_key es) in
    strip-put (extension_of t) (kept_pairs es) no_name no_data

norm_pairs-norm : (t : TypeTree) (es : Pairs) → norm_pairs (norm t) (norm_pairs t es) ≡ norm_pairs t es
norm_pairs-norm t es =
    ap (λ x. put_extension x (kept_pairs (norm_pairs t es))) (extension_of-norm t) ∙ ap (put_extension (extension_of t)) (kept-norm t es)

-- the normal form of a normal form is itself
mutual
  pub norm-norm : (t : TypeTree) → norm (norm t) ≡ norm t
  norm-norm (plain p) = refl
  norm-norm (single s f) = ap (single s) (norm_field-norm_field f)
  norm-norm (group g fs) = ap (group g) (norm_fields-norm_fields fs)
  norm-norm (dictionary keys t ordered) = ap (λ u. dictionary keys u ordered) (norm-norm t)
  norm-norm (extension name t text) = ap (λ u. extension name u text) (norm-norm t)

  pub norm_field-norm_field : (f : FieldTree) → norm_field (norm_field f) ≡ norm_field f
  norm_field-norm_field (field name t nullable metadata) = rw (norm-norm t, norm_pairs-norm t metadata)

  pub norm_fields-norm_fields : (fs : FieldTrees) → norm_fields (norm_fields fs) ≡ norm_fields fs
  norm_fields-norm_fields no_fields = refl
  norm_fields-norm_fields (more_fields f fs) = rw (norm_field-norm_field f, norm_fields-norm_fields fs)
