use Rattle.std.proofs.Common.{true, rules, ◌≡◌, refl, sym, None, Option, ℕ, List, map, length, subst, Ok, Err}
use Rattle.std.specs.Option.{option_copied}
use Rattle.lower.specs.TypeViews.{pairs_of}
use Rattle.lower.specs.declared.datatypes.Field.{Field}
use Rattle.lower_arrays.specs.AnyLayouts.{layout_of}
use Rattle.lower_arrays.specs.declared.array.AnyArray.{AnyArray}
use Rattle.ipc_base.specs.IdTrees.{all_ids_view}
use Rattle.ipc_read_flat.specs.Bodies.{known_dictionaries}
use Rattle.ipc_devices.specs.Faults.{OwnFault}
use Rattle.ipc_devices.specs.declared.fault.Fault.{Fault}
use Rattle.ipc_model.specs.Batches.{extra_of, kinds, chosen, lists_of}
use Rattle.ipc_model.specs.ReadChunks.{HaveMeaning}
use Rattle.ipc_read.specs.Chunks.{GivesBatch, batch_schema, chunk_seen, order_of}
use Rattle.ipc_read.specs.Columns.{ArePrepared}
use Rattle.ipc_read.specs.HeldChunks.{HoldChosen}
use Rattle.ipc_read.specs.Refusals.{IsFaultOfBatch, TellsBatch, TellsColumns}
use Rattle.ipc_read.proofs.AskedColumns.{are_prepared, as_many_read, values_in_order}
use Rattle.ipc_readers.proofs.GivenColumns.{given_columns, no_memory, refused_columns, stream_faults}
use Rattle.ipc_projection.specs.ChosenColumns.{rising_by}
use Rattle.ipc_readers.specs.Streams.{known_in, request_in}
use Rattle.ipc_readers.proofs.OfMemory.{no_failure}
use Rattle.ipc_readers.proofs.read.stream.reader.Batches.columns.Goals as goal

pub read_record_batch-requires : goal.read_record_batch-requires
read_record_batch-requires g c =
    let old = c.args.self.now in
    let fs : List Field = old.metadata.schema.fields.items in
    let fields_are : c.deref.result.now ≡ fs = search rules in
    record {
      prepared = subst (λ (p : Option (List ℕ)). ArePrepared p (length c.deref.result.now)) (sym c.rising.ensures.columns)
          (subst (λ (ds : List Field). ArePrepared (rising_by old.projection) (length ds)) (sym fields_are) (are_prepared (length fs) old.projection old.there c.rising.ensures.same));
    }

pub in_order-requires : goal.in_order-requires
in_order-requires g c =
    let old = c.args.self.now in
    let fs : List Field = old.metadata.schema.fields.items in
    let fields_are : c.deref.result.now ≡ fs = search rules in
    let read : List AnyArray = c.in_ok-read.read in
    let Many : Option (List ℕ) → List Field → Type 0 = λ p ds. length read ≡ length (chosen p (length ds)) in
    as_many_read (length fs) old.projection (length read)
    (subst (λ ds. Many (rising_by old.projection) ds) fields_are (subst (λ p. Many p c.deref.result.now) c.rising.ensures.columns c.in_ok-read.ensures.batch.bounds.many))

pub returns-clause-memory : goal.returns-clause-memory
returns-clause-memory g c =
    let old = c.args.self.now in
    let m = old.metadata in
    let body : List ℕ = g.B.Bytes.bytes c.args.body in
    let fs : List Field = m.schema.fields.items in
    let bytes : List ℕ = g.B.Bytes.bytes c.new-bytes.result.inner in
    let bytes_are : bytes ≡ body = search rules in
    let size_is : c.args.size ≡ length body = c.requires in
    let fields_are : c.deref.result.now ≡ fs = search rules in
    let read : List AnyArray = c.in_ok-read.read in
    let Read : Option (List ℕ) → List Field → List ℕ → ℕ → Type 0 = λ p ds bs n. GivesBatch (batch_schema ds m.ipc_schema) (extra_of m.version) (known_dictionaries old.dictionaries) (record { source = bs; base = 0; size = n }) c.args.batch p None (Ok read) in
    let given : Read (option_copied c.rising.result) c.deref.result.now bytes c.args.size = c.in_ok-read.ensures.batch.exact refl in
    let Many : Option (List ℕ) → List Field → Type 0 = λ p ds. length read ≡ length (chosen p (length ds)) in
    let Hold : Option (List ℕ) → List Field → ℕ → Type 0 =
    λ p ds n. HoldChosen n (lists_of c.args.batch) (extra_of m.version) (kinds (batch_schema ds m.ipc_schema)) (chosen p (length ds)) read in
    let hold : Hold (option_copied c.rising.result) c.deref.result.now c.args.size = c.in_ok-read.ensures.batch.bounds.held in
    given_columns old.projection fs (pairs_of m.schema.metadata.entries) (all_ids_view m.ipc_schema.fields.items) (order_of m.ipc_schema.is_little_endian) m.version c.rising.ensures.same
    (known_in old) c.args.batch body read c.in_ok-chunk.chunk
    (as_many_read (length fs) old.projection (length read) (subst (λ ds. Many (rising_by old.projection) ds) fields_are (subst (λ p. Many p c.deref.result.now) c.rising.ensures.columns c.in_ok-read.ensures.batch.bounds.many)))
    c.in_ok-chunk.ensures.ordered
    (subst (λ n. Hold (rising_by old.projection) fs n) size_is (subst (λ ds. Hold (rising_by old.projection) ds c.args.size) fields_are (subst (λ p. Hold p c.deref.result.now c.args.size) c.rising.ensures.columns hold)))
    (subst (λ n. Read (rising_by old.projection) fs body n) size_is (subst (λ bs. Read (rising_by old.projection) fs bs c.args.size) bytes_are (subst (λ ds. Read (rising_by old.projection) ds bytes c.args.size) fields_are (subst (λ p. Read p c.deref.result.now bytes c.args.size) c.rising.ensures.columns given))))

pub returns-in_err-read-clause-memory : goal.returns-in_err-read-clause-memory
returns-in_err-read-clause-memory g c =
    let old = c.args.self.now in
    let m = old.metadata in
    let body : List ℕ = g.B.Bytes.bytes c.args.body in
    let fs : List Field = m.schema.fields.items in
    let is = all_ids_view m.ipc_schema.fields.items in
    let bytes : List ℕ = g.B.Bytes.bytes c.new-bytes.result.inner in
    let bytes_are : bytes ≡ body = search rules in
    let size_is : c.args.size ≡ length body = c.requires in
    let fields_are : c.deref.result.now ≡ fs = search rules in
    let fault : Fault = c.in_err-read.field-0.0 in
    let e : c.from_residual.result ≡ Err fault = search rules in
    let Read : Option (List ℕ) → List Field → List ℕ → ℕ → Type 0 = λ p ds bs n. GivesBatch (batch_schema ds m.ipc_schema) (extra_of m.version) (known_dictionaries old.dictionaries) (record { source = bs; base = 0; size = n }) c.args.batch p None (Err fault) in
    let given : Read (option_copied c.rising.result) c.deref.result.now bytes c.args.size = c.in_err-read.ensures.batch.exact refl in
    let Blames : Option (List ℕ) → List Field → Type 0 = λ p ds. OwnFault fault (IsFaultOfBatch (kinds (batch_schema ds m.ipc_schema)) (chosen p (length ds)) fault) in
    let blamed : Blames (option_copied c.rising.result) c.deref.result.now = c.in_err-read.ensures.batch.causes.kind in
    let Tells : List Field → ℕ → Type 0 = λ ds n. TellsBatch (batch_schema ds m.ipc_schema) (extra_of m.version) c.args.batch n fault in
    let told : Tells c.deref.result.now c.args.size = c.in_err-read.ensures.batch.causes.lists in
    let Names : List ℕ → ℕ → Type 0 = λ bs n. TellsColumns true (order_of m.ipc_schema.is_little_endian) (extra_of m.version) (known_dictionaries old.dictionaries) (record { source = bs; base = 0; size = n }) c.args.batch fault in
    let named : Names bytes c.args.size = c.in_err-read.ensures.batch.causes.entries in
    rw e (refused_columns old.projection fs (pairs_of m.schema.metadata.entries) is (order_of m.ipc_schema.is_little_endian) m.version c.rising.ensures.same
    (known_in old) c.args.batch body fault
    (subst (λ ds. Blames (rising_by old.projection) ds) fields_are (subst (λ p. Blames p c.deref.result.now) c.rising.ensures.columns blamed))
    (subst (λ n. Tells fs n) size_is (subst (λ ds. Tells ds c.args.size) fields_are told)) (subst (λ n. Names body n) size_is (subst (λ bs. Names bs c.args.size) bytes_are named))
    (subst (λ n. Read (rising_by old.projection) fs body n) size_is (subst (λ bs. Read (rising_by old.projection) fs bs c.args.size) bytes_are (subst (λ ds. Read (rising_by old.projection) ds bytes c.args.size) fields_are (subst (λ p. Read p c.deref.result.now bytes c.args.size) c.rising.ensures.columns given)))))

pub returns-in_err-chunk-clause-memory : goal.returns-in_err-chunk-clause-memory
returns-in_err-chunk-clause-memory g c =
    let old = c.args.self.now in
    let fault : Fault = c.in_err-chunk.field-0.0 in
    let e : c.from_residual-in_err-chunk.result ≡ Err fault = search rules in
    rw e (no_memory (request_in old) (known_in old) 3 c.args.batch (g.B.Bytes.bytes c.args.body) fault (known_in old) c.in_err-chunk.ensures.only)

pub returns-in_err-read-clause-only : goal.returns-in_err-read-clause-only
returns-in_err-read-clause-only g c =
    let old = c.args.self.now in
    let m = old.metadata in
    let fs : List Field = m.schema.fields.items in
    let fields_are : c.deref.result.now ≡ fs = search rules in
    let fault : Fault = c.in_err-read.field-0.0 in
    let e : c.from_residual.result ≡ Err fault = search rules in
    let Blames : Option (List ℕ) → List Field → Type 0 = λ p ds. OwnFault fault (IsFaultOfBatch (kinds (batch_schema ds m.ipc_schema)) (chosen p (length ds)) fault) in
    let blamed : Blames (option_copied c.rising.result) c.deref.result.now = c.in_err-read.ensures.batch.causes.kind in
    rw e (stream_faults old.projection fs (pairs_of m.schema.metadata.entries) (all_ids_view m.ipc_schema.fields.items) (order_of m.ipc_schema.is_little_endian) m.version c.rising.ensures.same fault
    (subst (λ ds. Blames (rising_by old.projection) ds) fields_are (subst (λ p. Blames p c.deref.result.now) c.rising.ensures.columns blamed)))

pub returns-clause-values : goal.returns-clause-values
returns-clause-values g c =
    let old = c.args.self.now in
    let m = old.metadata in
    let fs : List Field = m.schema.fields.items in
    let is = all_ids_view m.ipc_schema.fields.items in
    let known = known_dictionaries old.dictionaries in
    let fields_are : c.deref.result.now ≡ fs = search rules in
    let read : List AnyArray = c.in_ok-read.read in
    let Have : Option (List ℕ) → List Field → Type 0 = λ p ds. HaveMeaning known is (chosen p (length ds)) (chunk_seen read) (map layout_of read) in
    let have : Have (option_copied c.rising.result) c.deref.result.now = c.in_ok-read.ensures.batch.values refl in
    let Many : Option (List ℕ) → List Field → Type 0 = λ p ds. length read ≡ length (chosen p (length ds)) in
    values_in_order known is (length fs) old.projection read c.in_ok-chunk.chunk c.rising.ensures.same
    (as_many_read (length fs) old.projection (length read) (subst (λ ds. Many (rising_by old.projection) ds) fields_are (subst (λ p. Many p c.deref.result.now) c.rising.ensures.columns c.in_ok-read.ensures.batch.bounds.many)))
    c.in_ok-chunk.ensures.ordered
    (subst (λ ds. Have (rising_by old.projection) ds) fields_are (subst (λ p. Have p c.deref.result.now) c.rising.ensures.columns have))

pub returns-in_err-read-clause-own : goal.returns-in_err-read-clause-own
returns-in_err-read-clause-own g c =
    let fault : Fault = c.in_err-read.field-0.0 in
    let e : c.from_residual.result ≡ Err fault = search rules in
    rw e (no_failure (List AnyArray) (List AnyArray) fault c.in_err-read.ensures.batch.device.failed)
