-- How many bytes the dictionaries of a file need.
use Rattle.std.proofs.Common.{◌≡◌, ℕ, suc, ◌+◌, ◌<◌, ◌≤◌, Bool, IsTrue, List, [], ◌∷◌, ◌++◌, length, take, get_or, Some, refl, sym, ◌∙◌, ap, subst, arith}
use Rattle.std.proofs.Math.Seq.{take-suc}
use Rattle.std.proofs.lemmas.List.{take_all}
use Rattle.ipc_table_views.specs.declared.file.Block.{Block}
use Rattle.ipc_model.specs.Batches.{Schema}
use Rattle.ipc_files.specs.Batches.{block_metadata}
use Rattle.ipc_files.specs.Dictionaries.{NeedValues, needed_values}

-- At most as many bytes were read as some blocks need.
pub record GivenFor (known : Bool) (schema : Schema) (source : List ℕ) (bs : List Block) (old new : ℕ) : Type 0 where
  pub bytes : ℕ
  pub needed : NeedValues known schema source bs bytes
  pub most : new ≤ old + bytes

-- One block after the others.
need_more : (known : Bool) (schema : Schema) (source : List ℕ) (bs : List Block) (b : Block) (n : ℕ) (metadata : List ℕ) → NeedValues known schema source bs n
    → (IsTrue known → block_metadata source (Some b) ≡ Some metadata) → NeedValues known schema source (bs ++ b ∷ []) (n + needed_values schema metadata)
need_more known schema source [] b n metadata h stands = (metadata, 0, stands, refl, omega (arith, h))
need_more known schema source (a ∷ bs) b n metadata h stands =
    (h.0, h.1 + needed_values schema metadata, h.2, need_more known schema source bs b h.1 metadata h.3 stands, omega (arith, h.4))

pub take_none : (bs : List Block) → take 0 bs ≡ []
take_none [] = refl
take_none (b ∷ bs) = refl

pub take_next : (bs : List Block) (i : ℕ) (d : Block) → i < length bs → take (i + 1) bs ≡ take i bs ++ get_or bs i d ∷ []
take_next bs i d inside = (let same_place : i + 1 ≡ suc i = omega arith in ap (λ (n : ℕ). take n bs) same_place) ∙ take-suc bs i d inside

pub none_given : (known : Bool) (schema : Schema) (source : List ℕ) (bs : List Block) (old : ℕ) → GivenFor known schema source (take 0 bs) old old
none_given known schema source bs old =
    subst (λ (xs : List Block). GivenFor known schema source xs old old) (sym (take_none bs)) (record { bytes = 0; needed = refl; most = omega arith })

pub more_given : (known : Bool) (schema : Schema) (source whole : List ℕ) (bs : List Block) (i : ℕ) (d : Block) (old mid new : ℕ) (metadata : List ℕ) → i < length bs
    → GivenFor known schema source (take i bs) old mid → (IsTrue known → whole ≡ source) → (IsTrue known → block_metadata whole (Some (get_or bs i d)) ≡ Some metadata)
    → new ≤ mid + needed_values schema metadata → GivenFor known schema source (take (i + 1) bs) old new
more_given known schema source whole bs i d old mid new metadata inside so_far same stands most =
    subst (λ (xs : List Block). GivenFor known schema source xs old new) (sym (take_next bs i d inside))
    (record {
      bytes = so_far.bytes + needed_values schema metadata;
      needed = need_more known schema source (take i bs) (get_or bs i d) so_far.bytes metadata so_far.needed
          (λ k. subst (λ (xs : List ℕ). block_metadata xs (Some (get_or bs i d)) ≡ Some metadata) (same k) (stands k));
      most = omega (arith, so_far.most, most);
    })

pub all_given : (known : Bool) (schema : Schema) (source : List ℕ) (bs : List Block) (i old new : ℕ) → length bs ≤ i → GivenFor known schema source (take i bs) old new
    → GivenFor known schema source bs old new
all_given known schema source bs i old new past h = subst (λ (xs : List Block). GivenFor known schema source xs old new) (take_all i bs past) h
