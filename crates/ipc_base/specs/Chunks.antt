-- Columns of equal lengths.
-- (Arrow columnar format, "RecordBatch message".)
use Rattle.std.specs.Prelude.{ℕ, ◌≡◌, List, [], ◌∷◌, All}

-- The number of rows of a chunk: that of its first column, or 0 without columns.
abbrev pub row_count : {A : Type 0} → (A → ℕ) → List A → ℕ
row_count rows [] = 0
row_count rows (x ∷ xs) = rows x

-- Each column has as many rows as the first.
abbrev pub AreEqualRows : {A : Type 0} → (A → ℕ) → List A → Type 0
AreEqualRows rows xs = All (λ x. rows x ≡ row_count rows xs) xs
