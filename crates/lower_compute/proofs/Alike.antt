-- Arrays of one type have one kind: the facts that each kind needs.
use Rattle.std.proofs.Common.{◌≡◌, ℕ, List, map, get_or, sym, ◌∙◌}
use Rattle.std.specs.List.{All}
use Rattle.lower_types.specs.declared.PrimitiveType.{PrimitiveType}
use Rattle.lower_types.specs.declared.PrimitiveType.TheVariants.{Int32}
use Rattle.lower.specs.Physical.{physical}
use Rattle.lower.specs.declared.datatypes.physical_type.PhysicalType.TheVariants as Physicals
use Rattle.lower_flat_arrays.specs.Binaries.{bytes_with}
use Rattle.lower_flat_arrays.specs.Texts.{texts_with}
use Rattle.lower_flat_arrays.specs.FixedBinaries.{FixedBinarySeen}
use Rattle.lower_validation.specs.ListTypes.{list_with, list_size}
use Rattle.lower_arrays.specs.Layouts.{Parts, lists, maps, Layout, level, children, type_of}
use Rattle.lower_arrays.specs.Primitives.{AreNumbersOf}
use Rattle.lower_arrays.specs.Flat.{fixed_layout}
use Rattle.lower_arrays.specs.Slots.{IsArray}
use Rattle.lower_compute.specs.Kinds.{AreTruths, AreFixedBytes, AreBytes, AreStrings, HaveOffsets, AreChoices, AreKeys}
use Rattle.lower_compute.specs.Copies.{HasTypeOf, AllHaveTypeOf}
use Rattle.lower_compute.proofs.KindFacts.{kind, truths_are, fixed_bytes_are, choices_are, keys_are, numbers_are, bytes_are, texts_are, lists_are, maps_are}
use Rattle.lower_compute.proofs.Likes.{kinds, physicals, parts_fit, same_byte_size, same_list_size}
use Rattle.lower_compute.proofs.CopySlots.{viewed_all}
use Rattle.lower_compute.proofs.ListCopies.{HasItems}
use Rattle.lower_compute.proofs.FixedListCopies.{HasSize, sized}

module _ (m : Layout) (ls : List Layout) (like : AllHaveTypeOf m ls) where
  pub truths_like : kind (level m).parts ≡ 1 → All (λ l. AreTruths (level l).parts) ls
  truths_like e = λ k d lt. truths_are (level (get_or ls k d)).parts (kinds m ls like k d lt ∙ e)

  pub fixed_like : kind (level m).parts ≡ 3 → All (λ l. AreFixedBytes (level l).parts) ls
  fixed_like e = λ k d lt. fixed_bytes_are (level (get_or ls k d)).parts (kinds m ls like k d lt ∙ e)

  pub choices_like : kind (level m).parts ≡ 10 → All (λ l. AreChoices (level l).parts) ls
  choices_like e = λ k d lt. choices_are (level (get_or ls k d)).parts (kinds m ls like k d lt ∙ e)

  pub keys_like : kind (level m).parts ≡ 11 → All (λ l. AreKeys (level l).parts) ls
  keys_like e = λ k d lt. keys_are (level (get_or ls k d)).parts (kinds m ls like k d lt ∙ e)

  pub numbers_like : (q : PrimitiveType) → kind (level m).parts ≡ 2 → physical (type_of m) ≡ Physicals.Primitive q → All (λ l. AreNumbersOf q (level l).parts) ls
  numbers_like q e p = λ k d lt.
      let l = get_or ls k d in
      numbers_are (level l) (level l).parts (children l) q (parts_fit l (like.1 k d lt)) (kinds m ls like k d lt ∙ e) (physicals m ls like k d lt ∙ p)

  pub bytes_like : (q : PrimitiveType) → kind (level m).parts ≡ 4 → physical (type_of m) ≡ bytes_with q → All (λ l. AreBytes q (level l).parts) ls
  bytes_like q e p = λ k d lt.
      let l = get_or ls k d in
      bytes_are (level l) (level l).parts (children l) q (parts_fit l (like.1 k d lt)) (kinds m ls like k d lt ∙ e) (physicals m ls like k d lt ∙ p)

  pub texts_like : (q : PrimitiveType) → kind (level m).parts ≡ 5 → physical (type_of m) ≡ texts_with q → All (λ l. AreStrings q (level l).parts) ls
  texts_like q e p = λ k d lt.
      let l = get_or ls k d in
      texts_are (level l) (level l).parts (children l) q (parts_fit l (like.1 k d lt)) (kinds m ls like k d lt ∙ e) (physicals m ls like k d lt ∙ p)

  pub lists_like : (q : PrimitiveType) → kind (level m).parts ≡ 6 → physical (type_of m) ≡ list_with q → All (λ l. HaveOffsets q (level l).parts) ls
  lists_like q e p = λ k d lt.
      let l = get_or ls k d in
      lists_are (level l) (level l).parts (children l) q (parts_fit l (like.1 k d lt)) (kinds m ls like k d lt ∙ e) (physicals m ls like k d lt ∙ p)

  pub maps_like : kind (level m).parts ≡ 8 → All (λ l. HaveOffsets Int32 (level l).parts) ls
  maps_like e = λ k d lt. maps_are (level (get_or ls k d)).parts (kinds m ls like k d lt ∙ e)

  pub sizes_like : (n : ℕ) → kind (level m).parts ≡ 7 → list_size (type_of m) ≡ n → All (λ l. HasSize n (level l).parts) ls
  sizes_like n e s = λ k d lt.
      let l = get_or ls k d in
      sized (level l) (level l).parts (children l) n (parts_fit l (like.1 k d lt)) (kinds m ls like k d lt ∙ e) (same_list_size (type_of l) (type_of m) (like.2 k d lt) ∙ s)

-- offsets are of lists or maps
pub have_items : (q : PrimitiveType) (ls : List Layout) → All (λ l. HaveOffsets q (level l).parts) ls → All (λ l. HasItems (level l).parts) ls
have_items q ls h = λ k d lt. by (level (get_or ls k d)).parts (h k d lt)
  where
    by : (p : Parts) → HaveOffsets q p → HasItems p
    by (lists w r os) e = tt
    by (maps os) e = tt
    by _ e = absurd e

-- byte strings of one length have the size of the type
pub sizes_of : {X : Type 0} (seen : X → FixedBinarySeen) (xs : List X) (b : FixedBinarySeen) (ls : List Layout) → map (λ x. fixed_layout (seen x)) xs ≡ ls
    → AllHaveTypeOf (fixed_layout b) ls → All (λ x. (seen x).size ≡ b.size) xs
sizes_of seen xs b ls same like = λ k d lt.
    let a = seen (get_or xs k d) in
    let is = viewed_all IsArray (λ x. fixed_layout (seen x)) xs ls same like.1 k d lt in
    let type = viewed_all (HasTypeOf (fixed_layout b)) (λ x. fixed_layout (seen x)) xs ls same like.2 k d lt in
    sym is.1.1 ∙ same_byte_size a.type b.type type ∙ like.0.1.1
