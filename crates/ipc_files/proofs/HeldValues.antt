-- How many bytes the arrays of a file's dictionaries retain.
use Rattle.std.proofs.Common.{◌≡◌, ◌⊎◌, ℕ, ℤ, ◌+◌, ◌<◌, ◌≤◌, Bool, IsTrue, List, [], ◌∷◌, ◌++◌, length, take, get_or, Option, None, Some, sym, ap, subst, inl, inr}
use Rattle.std.proofs.lemmas.Bool.{cases_Bool}
use Rattle.std.proofs.lemmas.Bool.Decides.{Decides-int_eq}
use Rattle.std.proofs.lemmas.List.{take_all}
use Rattle.std.specs.HashMap.{HashMap, IsEmpty}
use Rattle.std.specs.Map.{lookup}
use Rattle.std.specs.Ordering.{int_eq}
use Rattle.std.specs.declared.sync.Arc.{Arc}
use Rattle.lower_arrays.specs.Held.{held}
use Rattle.lower_arrays.specs.Layouts.{Layout}
use Rattle.lower_arrays.specs.declared.array.AnyArray.{AnyArray}
use Rattle.ipc_table_views.specs.declared.file.Block.{Block}
use Rattle.ipc_model.specs.Batches.{Schema}
use Rattle.ipc_model.specs.Files.{BlockHeader, block_header}
use Rattle.ipc_read_flat.specs.Bodies.{array_found, array_under}
use Rattle.ipc_files.proofs.NeededValues.{take_none, take_next}
use Rattle.ipc_files.specs.Batches.{block_metadata}
use Rattle.ipc_files.specs.Dictionaries.{HoldsHeader, IsListedBy, IsListedByOne, ListsValues}

-- The array that the header of a dictionary batch has set.
put_or_kept : (most : ℕ) (schema : Schema) (o : Option BlockHeader) (before after : Option ℤ → Layout) → HoldsHeader most schema o before after → (id : ℤ)
    → ListsValues most schema o id (held (after (Some id))) ⊎ (after (Some id) ≡ before (Some id))
put_or_kept most schema None before after h id = absurd h
put_or_kept most schema (Some x) before after h id = elim (cases_Bool (int_eq h.id id)) [
  | inl e ↦ inl (subst (λ (i : ℤ). ListsValues most schema (Some x) i (held (after (Some i)))) ((Decides-int_eq h.id id).0 e) (h.values, h.head, h.own_buffers, h.all_buffers))
  | inr e ↦ inr (h.others id e)
]

module _ (known : Bool) (most : ℕ) (schema : Schema) (source : List ℕ) (id : ℤ) where
  -- The message of one of some blocks is also one of these blocks and another.
  one_before : (bs : List Block) (b : Block) (n : ℕ) → IsListedByOne known most schema source bs id n → IsListedByOne known most schema source (bs ++ b ∷ []) id n
  one_before [] b n h = inr h
  one_before (a ∷ bs) b n h = elim h [
    | inl here ↦ inl here
    | inr behind ↦ inr (one_before bs b n behind)
  ]

  one_last : (bs : List Block) (b : Block) (n : ℕ) → IsListedBy known most schema source b id n → IsListedByOne known most schema source (bs ++ b ∷ []) id n
  one_last [] b n h = inl h
  one_last (a ∷ bs) b n h = inr (one_last bs b n h)

module _ (known : Bool) (most : ℕ) (schema : Schema) (source : List ℕ) where
  -- Each array is within the encoded lengths of the message of one of some blocks.
  pub record EachListed (bs : List Block) (values : Option ℤ → Layout) : Type 0 where
    pub each : (id : ℤ) → IsListedByOne known most schema source bs id (held (values (Some id)))

  pub none_listed : {Z S : Type 0} (m : HashMap ℤ (Arc AnyArray Z) S) → IsEmpty m → (bs : List Block) → EachListed (take 0 bs) (λ id. array_under m id)
  none_listed m empty bs =
      subst (λ (xs : List Block). EachListed xs (λ id. array_under m id)) (sym (take_none bs))
      (record { each = λ id. ap (λ es. held (array_found (lookup (int_eq id) es))) empty })

  pub more_listed : (whole : List ℕ) (bs : List Block) (i : ℕ) (d : Block) (metadata : List ℕ) (before after : Option ℤ → Layout) → i < length bs → EachListed (take i bs) before
      → (IsTrue known → whole ≡ source) → (IsTrue known → block_metadata whole (Some (get_or bs i d)) ≡ Some metadata) → HoldsHeader most schema (block_header metadata) before after
      → EachListed (take (i + 1) bs) after
  more_listed whole bs i d metadata before after inside so_far same stands put =
      let b = get_or bs i d in
      let there : IsTrue known → block_metadata source (Some b) ≡ Some metadata =
      λ k. subst (λ (xs : List ℕ). block_metadata xs (Some b) ≡ Some metadata) (same k) (stands k) in
      subst (λ (xs : List Block). EachListed xs after) (sym (take_next bs i d inside))
      (record {
        each = λ id. elim (put_or_kept most schema (block_header metadata) before after put id) [
          | inl h ↦ one_last known most schema source id (take i bs) b (held (after (Some id))) (record { metadata = metadata; stands = there; lists = h })
          | inr e ↦ one_before known most schema source id (take i bs) b (held (after (Some id)))
              (subst (λ (l : Layout). IsListedByOne known most schema source (take i bs) id (held l)) (sym e) (so_far.each id))
        ];
      })

  pub each_listed : (bs : List Block) (i : ℕ) (values : Option ℤ → Layout) → length bs ≤ i → EachListed (take i bs) values → EachListed bs values
  each_listed bs i values past h = subst (λ (xs : List Block). EachListed xs values) (take_all i bs past) h
