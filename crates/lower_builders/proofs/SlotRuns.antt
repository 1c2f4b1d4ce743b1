-- Slots that are pushed in turn, one for each value of a list.
use Rattle.std.proofs.Common.{arith, ◌≡◌, ℕ, ◌+◌, ◌<◌, ◌≤◌, List, [], ◌∷◌, ◌++◌, length, map, take, get_or, sym, ap, ◌∙◌}
use Rattle.std.specs.Prelude.{Option}
use Rattle.std.proofs.lemmas.List.{length-map, map_push, take_more, take-map, get_or-map}
use Rattle.lower_builders.specs.declared.error.BuildError.{BuildError}
use Rattle.lower_builders.specs.Growing.{CantReach}
use Rattle.lower_builders.specs.Bytes.{bytes_in, byte_count}
use Rattle.lower_builders.proofs.OffsetPushes.{misses_more}
use Rattle.lower_builders.proofs.SpanPushes.{byte_count-take}

module _ {X : Type 0} (f : X → Option (List ℕ)) (xs : List X) (i : ℕ) (x : X) (before : List (Option (List ℕ))) (h : i < length xs) (at : x ≡ get_or xs i x) (was : before ≡ map f (take i xs)) where
  -- one value more
  pub runs_more : before ++ f x ∷ [] ≡ map f (take (i + 1) xs)
  runs_more =
      ap (λ s. s ++ f x ∷ []) was
      ∙ sym (map_push f (take i xs) x)
      ∙ ap (map f) (ap (λ y. take i xs ++ y ∷ []) at ∙ sym (take_more xs i x h))

  -- what the slots of the first values miss, those of all miss
  pub runs_miss : (limit : ℕ) (e : BuildError) → CantReach limit (byte_count before + length (bytes_in (f x))) e → CantReach limit (byte_count (map f xs)) e
  runs_miss limit e misses =
      let count : length (map f xs) ≡ length xs = length-map xs f in
      let all : byte_count (take i (map f xs)) + length (bytes_in (f x)) ≤ byte_count (map f xs) = byte_count-take (map f xs) i (f x) (omega (arith, h, count)) (ap f at ∙ sym (get_or-map f xs i x (f x) h)) in
      let same : byte_count before ≡ byte_count (take i (map f xs)) = ap byte_count (was ∙ sym (take-map f i xs)) in
      misses_more limit (byte_count before + length (bytes_in (f x))) (byte_count (map f xs)) e (omega (arith, all, same)) misses
