-- The slots of a record batch's meaning.
use Rattle.std.proofs.Common.{◌≡◌, ℕ, Bool, true, false, cond, List, [], ◌∷◌, map, Option, Some, None, refl, ap, ◌∙◌}
use Rattle.std.specs.Option.{option_and_then, option_map}
use Rattle.lower.specs.TypeTrees.{FieldTrees}
use Rattle.lower_arrays.specs.Slots.{Slot}
use Rattle.ipc_model.specs.Batches.{Schema, kinds, Lists, lists_of, entries_of, slots_of_column, chosen, is_projection, is_batch, Chunk, chunk_of, chunk_in, batch, record_meaning}
use Rattle.ipc_model.proofs.Pruned.{projection_decides}
use Rattle.ipc_model.specs.Entries.{Entries, Limit}
use Rattle.ipc_model.specs.Kinds.{Kinds, count}
use Rattle.ipc_reference.specs.PlainBatches.{columns_of}
use Rattle.ipc_reference.specs.PlainRecords.{chunk_slots, RecordLaw}

slots_in : (s : Entries) (fs : FieldTrees) (ts : Kinds) (limit : Limit) (js : List ℕ)
    → chunk_slots (chunk_of s fs ts js limit) ≡ map (λ j. slots_of_column s ts limit j) js
slots_in s fs ts limit [] = refl
slots_in s fs ts limit (j ∷ js) = ap (λ xs. slots_of_column s ts limit j ∷ xs) (slots_in s fs ts limit js)

where_both : (b : Bool) (c : Chunk) (xs : List (List Slot)) → chunk_slots c ≡ xs → option_map chunk_slots (cond b (Some c) None) ≡ cond b (Some xs) None
where_both true c xs e = ap Some e
where_both false c xs e = refl

over_lists : (o : Option Lists) (f : Lists → Option Chunk) (g : Lists → Option (List (List Slot))) → ((l : Lists) → option_map chunk_slots (f l) ≡ g l)
    → option_map chunk_slots (option_and_then f o) ≡ option_and_then g o
over_lists None f g h = refl
over_lists (Some l) f g h = h l

batch_slots : (s : Entries) (most : ℕ) (schema : Schema) (projection : Option (List ℕ)) (limit : Limit) → is_projection projection (count (kinds schema)) ≡ true
    → option_map chunk_slots (batch s most schema projection limit) ≡ columns_of s most (kinds schema) (chosen projection (count (kinds schema))) limit
unfolding batch
batch_slots s most schema projection limit e =
    let js : List ℕ = chosen projection (count (kinds schema)) in
    ap (λ b. option_map chunk_slots (cond b (chunk_in s most schema js limit) None)) e ∙
    where_both (is_batch s most (kinds schema) js limit) (chunk_of s schema.fields (kinds schema) js limit) (map (λ j. slots_of_column s (kinds schema) limit j) js)
    (slots_in s schema.fields (kinds schema) limit js)

pub record_law : RecordLaw
unfolding record_meaning
record_law schema extra body t projection limit h =
    over_lists (lists_of t) _ _
    (λ l. batch_slots (entries_of l body schema.order extra []) body.size schema projection limit ((projection_decides projection (count (kinds schema))).1 h))
