-- Clones of columns with one number of rows have that number of rows.
use Rattle.std.proofs.Common.{◌≡◌, ℕ, Bool, IsTrue, refl, List, [], ◌∷◌, ◌∙◌, sym}
use Rattle.std.specs.List.{All, AllZip}
use Rattle.std.specs.Cmp.Lexicographic.{pointwise}
use Rattle.std.proofs.lemmas.List.Elements.{All-nil, All-cons, All-head, All-tail}
use Rattle.ipc_base.specs.Chunks.{AreEqualRows}

module _ {A : Type 0} (rows : A → ℕ) (is_clone : A → A → Type 0) (kept : (x y : A) → is_clone x y → rows y ≡ rows x) where
  kept_rows : (n : ℕ) (xs ys : List A) → AllZip is_clone xs ys → All (λ x. rows x ≡ n) xs → All (λ y. rows y ≡ n) ys
  kept_rows n [] [] same all = All-nil (λ y. rows y ≡ n)
  kept_rows n [] (y ∷ ys) same all = absurd same
  kept_rows n (x ∷ xs) [] same all = absurd same
  kept_rows n (x ∷ xs) (y ∷ ys) same all =
      All-cons (λ y. rows y ≡ n) y ys (kept x y same.0 ∙ All-head (λ x. rows x ≡ n) x xs all)
      (kept_rows n xs ys same.1 (All-tail (λ x. rows x ≡ n) x xs all))

  pub equal_clones : (xs ys : List A) → AllZip is_clone xs ys → AreEqualRows rows xs → AreEqualRows rows ys
  equal_clones [] [] same equal = equal
  equal_clones [] (y ∷ ys) same equal = absurd same
  equal_clones (x ∷ xs) [] same equal = absurd same
  equal_clones (x ∷ xs) (y ∷ ys) same equal =
      kept_rows (rows y) (x ∷ xs) (y ∷ ys) same (subst_rows (sym (kept x y same.0)) equal)
    where
      subst_rows : {m n : ℕ} → m ≡ n → All (λ x. rows x ≡ m) (x ∷ xs) → All (λ x. rows x ≡ n) (x ∷ xs)
      subst_rows e all = λ k d inside. all k d inside ∙ e

-- A test that passes for a clone and its source passes for lists of clones, one by one.
pub same_clones : {A : Type 0} (is_clone : A → A → Type 0) (test : A → A → Bool) (takes : (x y : A) → is_clone x y → IsTrue (test x y)) (xs ys : List A)
    → AllZip is_clone xs ys → IsTrue (pointwise test xs ys)
same_clones is_clone test takes [] [] h = refl
same_clones is_clone test takes [] (y ∷ ys) h = absurd h
same_clones is_clone test takes (x ∷ xs) [] h = absurd h
same_clones is_clone test takes (x ∷ xs) (y ∷ ys) h = rw (takes x y h.0, same_clones is_clone test takes xs ys h.1)
