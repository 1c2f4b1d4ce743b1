-- A batch that was read in ascending order, in the requested order.
use Rattle.std.proofs.Common.{◌≡◌, ℕ, List, length, Option, None, Some, IsSome, Ok, Err, refl, sym, ◌∙◌, subst}
use Rattle.std.proofs.lemmas.List.{length-map}
use Rattle.lower_arrays.specs.declared.array.AnyArray.{AnyArray}
use Rattle.ipc_devices.proofs.Claims.{claims_through}
use Rattle.ipc_devices.specs.declared.fault.Fault.{Fault}
use Rattle.ipc_table_views.specs.Spot.{Spot}
use Rattle.ipc_model.specs.Batches.{Schema, Body, Chunk, record_meaning}
use Rattle.ipc_model.specs.Entries.{Dictionaries}
use Rattle.ipc_projection.proofs.AskedOrder.{asked_images, asked_record_law, given_as_asked}
use Rattle.ipc_projection.proofs.Reorderings.{some_is}
use Rattle.ipc_projection.specs.AskedOrder.{Asked, AreInAskedOrder, IsInAskedOrder}
use Rattle.ipc_projection.specs.ChosenColumns.{AreAsMany, AreOrdered, AreShuffled, asked_by, rising_by}
use Rattle.ipc_projection.specs.declared.read.chosen.ChosenColumns.{ChosenColumns}
use Rattle.ipc_read.specs.Chunks.{GivesBatch, chunk_seen, column_seen}

-- What has no meaning in ascending order has none in the requested order.
asked_none : (a : Asked) (o p : Option Chunk) → AreInAskedOrder a o p → (IsSome o → ⊥) → IsSome p → ⊥
asked_none a None None h never some = never some
asked_none a None (Some x) h never some = absurd h
asked_none a (Some x) p h never some = never refl

pub given_in_order : (c : Option ChosenColumns) (schema : Schema) (extra : ℕ) (known : Dictionaries) (b : Body) (t : Spot) (read given : List AnyArray) → AreShuffled c → AreAsMany c (length read)
    → AreOrdered c read given → GivesBatch schema extra known b t (rising_by c) None (Ok read) → GivesBatch schema extra known b t (asked_by c) None (Ok given)
given_in_order None schema extra known b t read given same many moved g = subst (λ (xs : List AnyArray). GivesBatch schema extra known b t None None (Ok xs)) (sym moved) g
given_in_order (Some c) schema extra known b t read given same many moved g =
    let a = c.columns in
    let rising = record_meaning schema extra known b t (Some a.rising) None in
    let asked = record_meaning schema extra known b t (Some a.columns) None in
    let long : length (chunk_seen read) ≡ length a.rising = length-map read column_seen ∙ many in
    let here : IsInAskedOrder a (chunk_seen read) (chunk_seen given) = asked_images a column_seen read given moved in
    let is : asked ≡ Some (chunk_seen given) =
    given_as_asked a rising asked (chunk_seen read) (chunk_seen given) same.0 (asked_record_law a schema extra known b t None same.0) g.1 long here in
    (some_is asked (chunk_seen given) is, is)

pub refused_in_order : (c : Option ChosenColumns) (schema : Schema) (extra : ℕ) (known : Dictionaries) (b : Body) (t : Spot) (e : Fault) → AreShuffled c
    → GivesBatch schema extra known b t (rising_by c) None (Err e) → GivesBatch schema extra known b t (asked_by c) None (Err e)
refused_in_order None schema extra known b t e same g = g
refused_in_order (Some c) schema extra known b t e same g =
    let a = c.columns in
    let rising = record_meaning schema extra known b t (Some a.rising) None in
    let asked = record_meaning schema extra known b t (Some a.columns) None in
    claims_through e (IsSome rising → ⊥) (IsSome asked → ⊥) (asked_none a rising asked (asked_record_law a schema extra known b t None same.0)) g
