-- The errors of a part are errors of the whole.
use Rattle.std.proofs.Common.{◌≡◌, ℕ, List, [], ◌∷◌, length, Option, None, Some, Result, Ok, Err, refl, sym, ap, subst, inl, inr}
use Rattle.ipc_devices.proofs.Claims.{claimed, claims_own, claims_through}
use Rattle.ipc_devices.specs.Faults.{OwnFault}
use Rattle.ipc_devices.specs.declared.fault.ArgFault.TheVariants.{UnequalRows}
use Rattle.ipc_devices.specs.declared.fault.Fault.{Fault}
use Rattle.ipc_devices.specs.declared.fault.Fault.TheVariants.{OutOfSpec, NotYetImplemented, Argument}
use Rattle.ipc_devices.specs.declared.fault.Nyi.TheVariants.{Compressed}
use Rattle.ipc_devices.specs.declared.fault.OutOfSpecKind.TheVariants.{NegativeFooterLength, InvalidBuffersLength, MissingMessageBuffers, MissingMessageNodes, ExpectedBuffer, InvalidFlatbufferBuffers, InvalidFlatbufferNodes, InvalidFlatbufferCompression}
use Rattle.ipc_devices.specs.declared.fault.TableFault.{TableFault}
use Rattle.ipc_table_views.specs.MessageSlots.{record_batch_buffers, record_batch_compression, record_batch_nodes}
use Rattle.ipc_table_views.specs.Spot.{Spot}
use Rattle.ipc_table_views.specs.declared.message.FieldNode.{FieldNode}
use Rattle.ipc_table_views.specs.declared.schema.Buffer.{Buffer}
use Rattle.ipc_model.specs.Batches.{Lists, both_lists, kind_at, lists_of}
use Rattle.ipc_model.specs.Kinds.{Kind, Kinds}
use Rattle.ipc_read_flat.proofs.Refusals.{kind_column}
use Rattle.ipc_read_flat.specs.Refusals.{IsColumnFault, IsFaultOf}
use Rattle.ipc_read.specs.Refusals.{IsEntriesFault, IsListFault, IsFaultOfSome, IsFaultOfBatch, IsShorter, TellsCounts, TellsLengths, TellsLonger, TellsLists, TellsTable}
use Rattle.ipc_read.specs.Sizes.{AreSizes, batch_listed}

pub negative_entries : (e : Fault) → e ≡ OutOfSpec NegativeFooterLength → OwnFault e (IsEntriesFault e)
negative_entries e q = subst (λ (x : Fault). OwnFault x (IsEntriesFault x)) (sym q) tt

entries_are : (e : Fault) → IsEntriesFault e → IsListFault e
entries_are (OutOfSpec (InvalidBuffersLength n m)) h = absurd h
entries_are _ h = h

pub entries_in_list : (e : Fault) → OwnFault e (IsEntriesFault e) → OwnFault e (IsListFault e)
entries_in_list e h = claims_through e (IsEntriesFault e) (IsListFault e) (entries_are e) h

pub entries_in_batch : (ts : Kinds) (js : List ℕ) (e : Fault) → OwnFault e (IsEntriesFault e) → OwnFault e (IsFaultOfBatch ts js e)
entries_in_batch ts js e h = claims_through e (IsEntriesFault e) (IsFaultOfBatch ts js e) (λ f. inl (entries_are e f)) h

pub list_in_batch : (ts : Kinds) (js : List ℕ) (e : Fault) → OwnFault e (IsListFault e) → OwnFault e (IsFaultOfBatch ts js e)
list_in_batch ts js e h = claims_through e (IsListFault e) (IsFaultOfBatch ts js e) (λ f. inl f) h

pub some_in_batch : (ts : Kinds) (js : List ℕ) (e : Fault) → OwnFault e (IsFaultOfSome ts js e) → OwnFault e (IsFaultOfBatch ts js e)
some_in_batch ts js e h = claims_through e (IsFaultOfSome ts js e) (IsFaultOfBatch ts js e) (λ f. inr (inl f)) h

pub unequal_in_batch : (ts : Kinds) (js : List ℕ) (e : Fault) → e ≡ Argument UnequalRows → OwnFault e (IsFaultOfBatch ts js e)
unequal_in_batch ts js e q = claimed e (IsFaultOfBatch ts js e) (inr (inr q))

-- ---- what has to be so

pub negative_lengths : (bs : List Buffer) (size : ℕ) (e : Fault) → e ≡ OutOfSpec NegativeFooterLength → OwnFault e (AreSizes bs → ⊥) → TellsLengths bs size e
negative_lengths bs size e q d = subst (TellsLengths bs size) (sym q) (subst (λ x. OwnFault x (AreSizes bs → ⊥)) q d)

-- ---- of the table alone

module _ (t : Spot) where
  pub tells_compression : (e : TableFault) → record_batch_compression t ≡ Err e → TellsTable t (OutOfSpec (InvalidFlatbufferCompression e))
  tells_compression e h = record { each = λ size nodes buffers. h }

  pub tells_compressed : (x : Spot) → record_batch_compression t ≡ Ok (Some x) → TellsTable t (NotYetImplemented Compressed)
  tells_compressed x h = record { each = λ size nodes buffers. rw h refl }

  pub tells_buffers : (e : TableFault) → record_batch_buffers t ≡ Err e → TellsTable t (OutOfSpec (InvalidFlatbufferBuffers e))
  tells_buffers e h = record { each = λ size nodes buffers. h }

  pub tells_no_buffers : record_batch_buffers t ≡ Ok None → TellsTable t (OutOfSpec MissingMessageBuffers)
  tells_no_buffers h = record { each = λ size nodes buffers. h }

  pub tells_nodes : (e : TableFault) → record_batch_nodes t ≡ Err e → TellsTable t (OutOfSpec (InvalidFlatbufferNodes e))
  tells_nodes e h = record { each = λ size nodes buffers. h }

  pub tells_no_nodes : record_batch_nodes t ≡ Ok None → TellsTable t (OutOfSpec MissingMessageNodes)
  tells_no_nodes h = record { each = λ size nodes buffers. inl h }

pub ruleset table_faults = (tells_compression, tells_compressed, tells_buffers, tells_no_buffers, tells_nodes, tells_no_nodes)

-- ---- of lists that are present

both_there : (c : Result (Option Spot) TableFault) (n : Result (Option (List FieldNode)) TableFault) (b : Result (Option (List Buffer)) TableFault) (lists : Lists)
    → both_lists c n b ≡ Some lists → (n ≡ Ok (Some lists.nodes)) × (b ≡ Ok (Some lists.buffers))
both_there (Ok None) (Ok (Some ns)) (Ok (Some bs)) lists is =
    let same : record { nodes = ns; buffers = bs } ≡ lists = cc in
    (ap (λ (l : Lists). Ok (Some l.nodes)) same, ap (λ (l : Lists). Ok (Some l.buffers)) same)
both_there (Ok None) (Ok (Some ns)) (Ok None) lists is = absurd cc
both_there (Ok None) (Ok (Some ns)) (Err e) lists is = absurd cc
both_there (Ok None) (Ok None) b lists is = absurd cc
both_there (Ok None) (Err e) b lists is = absurd cc
both_there (Ok (Some c)) n b lists is = absurd cc
both_there (Err e) n b lists is = absurd cc

module _ (t : Spot) (lists : Lists) (listed : lists_of t ≡ Some lists) where
  there : (record_batch_nodes t ≡ Ok (Some lists.nodes)) × (record_batch_buffers t ≡ Ok (Some lists.buffers))
  unfolding lists_of
  there = both_there (record_batch_compression t) (record_batch_nodes t) (record_batch_buffers t) lists listed

  module _ (size nodes buffers : ℕ) where
    pub lengths_tell : (e : Fault) → TellsLengths lists.buffers size e → TellsLists t size nodes buffers e
    lengths_tell (OutOfSpec (InvalidBuffersLength n m)) h =
        subst (λ (o : Option Lists). TellsLonger (batch_listed o) size n m) (sym listed) h
    lengths_tell (OutOfSpec NegativeFooterLength) h = tt
    lengths_tell _ h = absurd h

    pub counts_tell : (e : Fault) → TellsCounts (length lists.nodes) (length lists.buffers) nodes buffers e → TellsLists t size nodes buffers e
    counts_tell (OutOfSpec MissingMessageNodes) h = inr (subst (λ (r : Result (Option (List FieldNode)) TableFault). IsShorter r nodes) (sym there.0) h)
    counts_tell (OutOfSpec ExpectedBuffer) h = subst (λ (r : Result (Option (List Buffer)) TableFault). IsShorter r buffers) (sym there.1) h
    counts_tell _ h = absurd h

-- ---- of columns, whose errors say nothing of the lists

module _ (t : Spot) (size nodes buffers : ℕ) where
  column_tells : (e : Fault) → OwnFault e (IsColumnFault e) → TellsLists t size nodes buffers e
  column_tells (OutOfSpec (InvalidFlatbufferCompression e)) h = absurd h
  column_tells (NotYetImplemented Compressed) h = absurd h
  column_tells (OutOfSpec (InvalidFlatbufferBuffers e)) h = absurd h
  column_tells (OutOfSpec MissingMessageBuffers) h = absurd h
  column_tells (OutOfSpec ExpectedBuffer) h = absurd h
  column_tells (OutOfSpec (InvalidFlatbufferNodes e)) h = absurd h
  column_tells (OutOfSpec MissingMessageNodes) h = absurd h
  column_tells (OutOfSpec (InvalidBuffersLength n m)) h = absurd h
  column_tells _ h = tt

  pub values_tell : (k : Kind) (e : Fault) → OwnFault e (IsFaultOf k e) → TellsLists t size nodes buffers e
  values_tell k e h = column_tells e (kind_column k e h)

  some_column : (ts : Kinds) (js : List ℕ) (e : Fault) → IsFaultOfSome ts js e → OwnFault e (IsColumnFault e)
  some_column ts [] e h = absurd h
  some_column ts (j ∷ js) e h = elim h [
    | inl f ↦ kind_column (kind_at ts j) e (claimed e (IsFaultOf (kind_at ts j) e) f)
    | inr f ↦ some_column ts js e f
  ]

  pub columns_tell : (ts : Kinds) (js : List ℕ) (e : Fault) → OwnFault e (IsFaultOfSome ts js e) → TellsLists t size nodes buffers e
  columns_tell ts js e h = column_tells e (claims_own e (IsFaultOfSome ts js e) (IsColumnFault e) (some_column ts js e) h)

  pub unequal_tell : (e : Fault) → e ≡ Argument UnequalRows → TellsLists t size nodes buffers e
  unequal_tell e q = subst (TellsLists t size nodes buffers) (sym q) tt

pub ruleset list_faults = (entries_in_list, negative_entries, negative_lengths)

pub ruleset batch_faults = (list_in_batch, entries_in_batch, some_in_batch, unequal_in_batch, lengths_tell, counts_tell, columns_tell, unequal_tell)
