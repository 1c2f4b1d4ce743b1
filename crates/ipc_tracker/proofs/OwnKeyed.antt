-- The array of keys that an array itself is.
use Rattle.std.proofs.Common.{◌≡◌, ℤ, Option, Some, sym, ap, ap₂, ◌∙◌}
use Rattle.lower_arrays.specs.AnyLayouts.{layout_of}
use Rattle.lower_arrays.specs.Dictionaries.{DictionarySeen}
use Rattle.lower_arrays.specs.declared.array.AnyArray.{AnyArray}
use Rattle.lower_arrays.specs.declared.array.AnyArray.TheVariants.{Dictionary}
use Rattle.ipc_tracker.specs.Places.{own_keyed}
use Rattle.ipc_tracker.proofs.KeyedLists.{one_keyed}

-- The id is the one that was passed.
pub own_is : (x : AnyArray) (d : DictionarySeen) (k : Option ℤ) (id j : ℤ) → x ≡ Dictionary d → k ≡ Some id → j ≡ id → one_keyed j d.values ≡ own_keyed (layout_of x) k
own_is x d k id j e f g =
    ap (λ (z : ℤ). one_keyed z d.values) g ∙ sym (ap₂ (λ (y : AnyArray) (o : Option ℤ). own_keyed (layout_of y) o) e f)
