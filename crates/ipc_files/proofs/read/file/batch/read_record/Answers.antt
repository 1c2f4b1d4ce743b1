use Rattle.std.proofs.Common.{◌≡◌, ℕ, ◌+◌, ◌≤◌, List, map, length, Option, IfOk, subst}
use Rattle.std.specs.Option.{option_copied}
use Rattle.lower.specs.declared.datatypes.Field.{Field}
use Rattle.lower_arrays.specs.AnyLayouts.{layout_of}
use Rattle.ipc_base.specs.IdTrees.{all_ids_view}
use Rattle.ipc_devices.proofs.Acts.{each_err}
use Rattle.ipc_devices.specs.Faults.{OwnFault}
use Rattle.ipc_model.specs.Batches.{chosen, extra_of, kinds, lists_of}
use Rattle.ipc_model.specs.ReadChunks.{HaveMeaning}
use Rattle.ipc_read_flat.specs.Bodies.{known_dictionaries}
use Rattle.ipc_read.specs.Chunks.{batch_schema, chunk_seen}
use Rattle.ipc_read.specs.HeldChunks.{HoldChosen}
use Rattle.ipc_read.specs.Refusals.{IsFaultOfBatch, TellsBatch}
use Rattle.ipc_read.specs.Sizes.{chosen_listed}
use Rattle.ipc_files.proofs.BlockRecords.{record-given}
use Rattle.ipc_files.specs.Footers.{file_seen}
use Rattle.ipc_files.proofs.read.file.batch.read_record.Goals as goal

pub returns-clause-memory : goal.returns-clause-memory
returns-clause-memory g c = λ k.
    record-given c.args.metadata.now (extra_of c.args.version) (known_dictionaries c.args.dictionaries.now)
    (record { source = (g.R.Failures.device.memory c.args.reader.now).whole; base = c.args.body; size = c.args.metadata.now.size }) c.args.batch
    (option_copied c.args.projection) c.args.limit c.deref.result.now c.read_record_batch.result c.deref.ensures.value (c.read_record_batch.ensures.batch.exact k)

pub returns-clause-many : goal.returns-clause-many
returns-clause-many g c =
    let p : Option (List ℕ) = option_copied c.args.projection in
    subst (λ (fs : List Field). IfOk c.read_record_batch.result (λ xs. length xs ≡ length (chosen p (length fs)))) c.deref.ensures.value
    c.read_record_batch.ensures.batch.bounds.many

pub returns-clause-only : goal.returns-clause-only
returns-clause-only g c =
    let p : Option (List ℕ) = option_copied c.args.projection in
    let m = c.args.metadata.now in
    each_err {Q = λ e. OwnFault e (IsFaultOfBatch (kinds (file_seen m).schema) (chosen p (length m.schema.fields.items)) e)} c.read_record_batch.result
    c.read_record_batch.ensures.batch.causes (λ e cause.
    subst (λ (fs : List Field). OwnFault e (IsFaultOfBatch (kinds (batch_schema fs m.ipc_schema)) (chosen p (length fs)) e)) c.deref.ensures.value cause.kind)

pub returns-clause-lists : goal.returns-clause-lists
returns-clause-lists g c =
    let m = c.args.metadata.now in
    each_err {Q = TellsBatch (file_seen m).schema (extra_of c.args.version) c.args.batch m.size} c.read_record_batch.result
    c.read_record_batch.ensures.batch.causes (λ e cause.
    subst (λ (fs : List Field). TellsBatch (batch_schema fs m.ipc_schema) (extra_of c.args.version) c.args.batch m.size e) c.deref.ensures.value cause.lists)

pub returns-clause-given : goal.returns-clause-given
returns-clause-given g c =
    let p : Option (List ℕ) = option_copied c.args.projection in
    let m = c.args.metadata.now in
    let old = g.R.Failures.device.given c.args.reader.now in
    let new = g.R.Failures.device.given c.read_record_batch.new.reader in
    subst (λ (fs : List Field). new ≤ old + chosen_listed (lists_of c.args.batch) (extra_of c.args.version) (kinds (batch_schema fs m.ipc_schema)) (chosen p (length fs))) c.deref.ensures.value
    c.read_record_batch.ensures.batch.bounds.given

pub returns-clause-held : goal.returns-clause-held
returns-clause-held g c =
    let p : Option (List ℕ) = option_copied c.args.projection in
    let m = c.args.metadata.now in
    subst (λ (fs : List Field). IfOk c.read_record_batch.result (λ xs.
    HoldChosen m.size (lists_of c.args.batch) (extra_of c.args.version) (kinds (batch_schema fs m.ipc_schema)) (chosen p (length fs)) xs)) c.deref.ensures.value
    c.read_record_batch.ensures.batch.bounds.held

pub returns-clause-values : goal.returns-clause-values
returns-clause-values g c = λ k.
    let p : Option (List ℕ) = option_copied c.args.projection in
    let is = all_ids_view c.args.metadata.now.ipc_schema.fields.items in
    subst (λ (fs : List Field). IfOk c.read_record_batch.result (λ xs.
    HaveMeaning (known_dictionaries c.args.dictionaries.now) is (chosen p (length fs)) (chunk_seen xs) (map layout_of xs))) c.deref.ensures.value
    (c.read_record_batch.ensures.batch.values k)
