-- The value of a key in a map of texts.
use Rattle.std.proofs.Common.{◌≡◌, ℕ, List, [], ◌∷◌, String, Global, string_bytes, Bool, true, false, cond, Option, Some, nat_cmp, is_eq, refl}
use Rattle.std.specs.Option.{option_map}
use Rattle.std.specs.Cmp.Lexicographic.{slice_cmp}
use Rattle.std.specs.Map.{lookup}
use Rattle.std.specs.BTreeMap.{is_at}
use Rattle.lower.specs.TypeViews.{pairs_of}
use Rattle.ipc_model.specs.Schemas.{value_under}

branch : (b : Bool) (v : String Global) (o : Option (String Global)) (p : Option (List ℕ)) → option_map (λ s. string_bytes s) o ≡ p
    → option_map (λ s. string_bytes s) (cond b (Some v) o) ≡ cond b (Some (string_bytes v)) p
branch true v o p h = refl
branch false v o p h = h

pub found : (key : List ℕ) (es : List (String Global × String Global))
    → option_map (λ s. string_bytes s) (lookup (is_at (λ k. slice_cmp nat_cmp key (string_bytes k))) es) ≡ value_under key (pairs_of es)
found key [] = refl
found key (e ∷ es) = branch (is_eq (slice_cmp nat_cmp key (string_bytes e.0))) e.1 _ _ (found key es)
