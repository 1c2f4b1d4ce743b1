use Rattle.std.proofs.Common.{◌≡◌, List, [], ◌∷◌, String, Global, refl}
use Rattle.std.specs.Prelude.{string_bytes}
use Rattle.std.specs.List.{AllZip}
use Rattle.lower.specs.TypeViews.{pairs_of}
use Rattle.lower.proofs.datatypes.clones.clone_metadata.Goals as goal

abbrev Entry : Type 0
Entry = String Global × String Global

pairs_of-AllZip : (R : Entry → Entry → Type 0)
    → ((x y : Entry) → R x y → (string_bytes y.0 ≡ string_bytes x.0) × (string_bytes y.1 ≡ string_bytes x.1))
    → (xs ys : List Entry) → AllZip R xs ys → pairs_of ys ≡ pairs_of xs
pairs_of-AllZip R same [] [] h = refl
pairs_of-AllZip R same [] (y ∷ ys) h = elim h [ ]
pairs_of-AllZip R same (x ∷ xs) [] h = elim h [ ]
pairs_of-AllZip R same (x ∷ xs) (y ∷ ys) h =
    let here = same x y h.0 in rw (here.0, here.1, pairs_of-AllZip R same xs ys h.1)

pub returns : goal.returns
returns c = pairs_of-AllZip _ (λ x y h. h) c.args.metadata.now.entries c.in_ok-copy.copy.entries c.in_ok-copy.ensures.cases
