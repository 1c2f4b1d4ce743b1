-- What arrays mean that were appended to the parts of a batch, and what is read of them.
-- (Arrow columnar format, "RecordBatch message".)
use Rattle.std.specs.Prelude.{◌≡◌, ℕ, pos, ◌≤◌, List, [], ◌∷◌, length, map, Option, None, Some, Result, MatchResult}
use Rattle.lower_types.specs.declared.Endianness.{Endianness}
use Rattle.lower_arrays.specs.AnyLayouts.{layout_of}
use Rattle.lower_arrays.specs.Layouts.{Layout, layouts, type_of}
use Rattle.lower_arrays.specs.Slots.{IsArray, AreArrays}
use Rattle.lower_arrays.specs.declared.array.AnyArray.{AnyArray}
use Rattle.ipc_devices.specs.Faults.{OwnFault}
use Rattle.ipc_devices.specs.declared.fault.Fault.{Fault}
use Rattle.ipc_table_views.specs.Spot.{Spot}
use Rattle.ipc_model.specs.Accepted.{types_of}
use Rattle.ipc_model.specs.BatchLaws.{pruned}
use Rattle.ipc_model.specs.Batches.{Schema, kinds, Body, Lists, lists_of, entries_of, IsProjection, Chunk, record_meaning}
use Rattle.ipc_model.specs.Entries.{Dictionaries, Entries, Limit}
use Rattle.ipc_model.specs.Kinds.{count}
use Rattle.ipc_model.specs.Offers.{own_id, inner_ids}
use Rattle.ipc_model.specs.TypeKinds.{first_ids}
use Rattle.ipc_plan.specs.Batches.{AreLike, HaveRows, chunk_named}
use Rattle.ipc_plan.specs.Meaning.{Knows, KnowsAll}
use Rattle.ipc_encode.specs.Appending.{BatchParts, Has, JoinsParts}
use Rattle.ipc_read.specs.Chunks.{GivesBatch, chunk_seen}

-- ---- what was written

-- The parts of a batch without arrays; the first buffer begins at offset 0 of the body.
abbrev pub nothing_written : BatchParts
nothing_written = record { nodes = []; buffers = []; bytes = []; offset = pos 0 }

-- Arrays were appended to the parts of a batch in one byte order, one after the other.
abbrev pub AreJoined : Endianness → List Layout → BatchParts → BatchParts → Type 0
AreJoined order [] old last = last ≡ old
AreJoined order (l ∷ ls) old last = (new : BatchParts) × JoinsParts order l old new × AreJoined order ls new last

-- ---- the batch that is read

-- The nodes and buffers of a batch with these parts.
abbrev pub written_lists : BatchParts → Lists
written_lists p = record { nodes = p.nodes; buffers = p.buffers }

-- The table of a record batch has the nodes and buffers of some parts, uncompressed. Its body,
-- which is at any offset of a source and has at least as many bytes, begins with their bytes.
pub record HoldsWritten (t : Spot) (at : Body) (p : BatchParts) : Type 0 where
  pub lists_are : lists_of t ≡ Some (written_lists p)
  pub bytes_stand : Has at.source at.base p.bytes
  pub room : length p.bytes ≤ at.size

-- What the columns of a batch with these parts are read from, in version 5.
abbrev pub written_entries : Schema → Dictionaries → Body → BatchParts → Entries
written_entries schema known at p = entries_of (written_lists p) at schema.order 0 known

-- A record batch has the parts to which some arrays of one length were appended, in the byte order
-- of the schema. The schema's fields have the types of the arrays in the normal form. Its reader
-- has the values at their dictionary fields, under the ids of the schema.
pub record AreWritten (schema : Schema) (known : Dictionaries) (at : Body) (t : Spot) (ls : List Layout) : Type 0 where
  pub parts : BatchParts
  pub joined : AreJoined schema.order ls nothing_written parts
  pub holds : HoldsWritten t at parts
  pub arrays : AreArrays (layouts ls)
  pub like : AreLike schema.fields (layouts ls)
  pub rows : ℕ
  pub have : HaveRows rows ls
  pub knows : KnowsAll (written_entries schema known at parts) (layouts ls) schema.ids

-- ---- what it means

-- One array, appended alone, is read as a column of the type of the only
-- field, with the array's slots.
abbrev pub WrittenArrayLaw : Type 0
WrittenArrayLaw = (schema : Schema) (known : Dictionaries) (at : Body) (t : Spot) (p : BatchParts) (l : Layout)
    → JoinsParts schema.order l nothing_written p → HoldsWritten t at p → IsArray l → AreLike schema.fields (layouts (l ∷ []))
    → Knows (written_entries schema known at p) l (own_id (first_ids schema.ids)) (inner_ids (first_ids schema.ids))
    → record_meaning schema 0 known at t None None ≡ Some (chunk_named schema.fields (l ∷ []))

-- Arrays are read as columns of the types of the fields, each with its array's slots.
abbrev pub WrittenArraysLaw : Type 0
WrittenArraysLaw = (schema : Schema) (known : Dictionaries) (at : Body) (t : Spot) (ls : List Layout) → AreWritten schema known at t ls
    → record_meaning schema 0 known at t None None ≡ Some (chunk_named schema.fields ls)

-- ---- what is read

-- Exactly this chunk is read, or an allocation or the device failed: there is no other error.
abbrev pub GivesJust : Chunk → Result (List AnyArray) Fault → Type 0
GivesJust c r = MatchResult r (λ xs. chunk_seen xs ≡ c) (λ e. OwnFault e ⊥)

-- Whatever a reader returns for the record batch, by all columns and without a limit: it is exactly
-- these types and slots, unless an allocation or the device fails.
abbrev pub ReadArraysLaw : Type 0
ReadArraysLaw = (schema : Schema) (known : Dictionaries) (at : Body) (t : Spot) (ls : List Layout) (r : Result (List AnyArray) Fault)
    → AreWritten schema known at t ls → GivesBatch schema 0 known at t None None r → GivesJust (chunk_named schema.fields ls) r

-- What a reader returns for the record batch by a projection to columns that exist, and up to a
-- limit. It is the first slots of these columns, in the requested order.
abbrev pub ChosenArraysLaw : Type 0
ChosenArraysLaw = (schema : Schema) (known : Dictionaries) (at : Body) (t : Spot) (ls : List Layout) (projection : Option (List ℕ)) (limit : Limit) (r : Result (List AnyArray) Fault)
    → AreWritten schema known at t ls → IsProjection projection (count (kinds schema)) → GivesBatch schema 0 known at t projection limit r
    → GivesJust (pruned projection limit (chunk_named schema.fields ls)) r

-- If the fields have exactly the types of the arrays, the types that are
-- read are those of the arrays too.
abbrev pub SameArraysLaw : Type 0
SameArraysLaw = (schema : Schema) (known : Dictionaries) (at : Body) (t : Spot) (xs : List AnyArray) (r : Result (List AnyArray) Fault)
    → AreWritten schema known at t (map layout_of xs) → types_of schema.fields ≡ map type_of (map layout_of xs)
    → GivesBatch schema 0 known at t None None r → GivesJust (chunk_seen xs) r
