-- What a push does to a builder.
use Rattle.std.specs.Prelude.{◌≡◌, List, [], ◌∷◌, ◌++◌, Result, MatchResult}

-- The slot is appended, or the call fails and the slots stay as they were.
abbrev pub Pushes : {A T E : Type 0} → Result T E → List A → A → List A → Type 0
Pushes r before x after = MatchResult r (λ _. after ≡ before ++ x ∷ []) (λ _. after ≡ before)
