use Rattle.std.proofs.Common.{true, rules, ◌≡◌, ◌+◌, refl, ℕ, ℤ, List, length, subst, Option, Result, Ok, Err, inl, inr, ap, sym}
use Rattle.lower.specs.TypeViews.{fields_view, pairs_of}
use Rattle.lower.specs.declared.datatypes.Field.{Field}
use Rattle.ipc_base.specs.IdTrees.{all_ids_view}
use Rattle.ipc_read_flat.specs.Bodies.{array_under, known_dictionaries}
use Rattle.ipc_devices.specs.Faults.{OwnFault}
use Rattle.ipc_devices.specs.declared.fault.Fault.{Fault}
use Rattle.ipc_model.specs.Batches.{extra_of}
use Rattle.ipc_read.specs.Chunks.{batch_schema, order_of}
use Rattle.ipc_read.specs.DictionaryBatches.{BlamesDictionary, GivesDictionary, TellsValues, TellsOfValues, IsDictionaryFault}
use Rattle.ipc_read.specs.HeldChunks.{HoldsValues}
use Rattle.ipc_readers.proofs.Bodies.{values_give}
use Rattle.ipc_readers.proofs.Kept.{same_arrays}
use Rattle.lower_arrays.specs.Layouts.{Layout}
use Rattle.ipc_projection.specs.ChosenColumns.{asked_by}
use Rattle.ipc_readers.specs.Streams.{known_in, request_in}
use Rattle.ipc_devices.proofs.Claims.{claims_through}
use Rattle.ipc_readers.specs.Refusals.{IsStreamFault}
use Rattle.ipc_model.specs.Entries.{Dictionaries, dictionary_at}
use Rattle.ipc_read.proofs.KnownDictionaries.{same_known}
use Rattle.ipc_readers.proofs.OfMemory.{no_failure}
use Rattle.ipc_readers.proofs.read.stream.reader.Batches.values.Goals as goal

pub returns-clause-memory : goal.returns-clause-memory
returns-clause-memory g c =
    let old = c.args.self.now in
    let m = old.metadata in
    let body : List ℕ = g.B.Bytes.bytes c.args.body in
    let fs : List Field = m.schema.fields.items in
    let bytes : List ℕ = g.B.Bytes.bytes c.new-bytes.result.inner in
    let bytes_are : bytes ≡ body = search rules in
    let size_is : c.args.size ≡ length body = c.requires.size in
    let fields_are : c.deref.result.now ≡ fs = search rules in
    let r : Result Unit Fault = Ok tt in
    let after = known_dictionaries c.read_dictionary.new.dictionaries in
    let Read : List Field → List ℕ → ℕ → Type 0 = λ ds bs n. GivesDictionary (batch_schema ds m.ipc_schema) (extra_of m.version) (known_dictionaries old.dictionaries) (record { source = bs; base = 0; size = n }) c.args.batch r after in
    let given : Read c.deref.result.now bytes c.args.size = c.in_ok-read_dictionary.ensures.dictionary.exact refl in
    values_give (fields_view fs) (pairs_of m.schema.metadata.entries) (all_ids_view m.ipc_schema.fields.items) (order_of m.ipc_schema.is_little_endian) m.version (asked_by old.projection) (known_in old)
    c.args.batch body r (record { dictionaries = after; count = old.count + 1 }) c.requires.counted refl tt tt tt
    (subst (λ n. Read fs body n) size_is (subst (λ bs. Read fs bs c.args.size) bytes_are (subst (λ ds. Read ds bytes c.args.size) fields_are given)))

pub returns-in_err-read_dictionary-clause-memory : goal.returns-in_err-read_dictionary-clause-memory
returns-in_err-read_dictionary-clause-memory g c =
    let old = c.args.self.now in
    let m = old.metadata in
    let body : List ℕ = g.B.Bytes.bytes c.args.body in
    let fs : List Field = m.schema.fields.items in
    let bytes : List ℕ = g.B.Bytes.bytes c.new-bytes.result.inner in
    let bytes_are : bytes ≡ body = search rules in
    let size_is : c.args.size ≡ length body = c.requires.size in
    let fields_are : c.deref.result.now ≡ fs = search rules in
    let fault : Fault = c.in_err-read_dictionary.field-0.0 in
    let e : c.from_residual.result ≡ Err fault = search rules in
    let r : Result Unit Fault = Err fault in
    let after = known_dictionaries c.read_dictionary.new.dictionaries in
    let Read : List Field → List ℕ → ℕ → Type 0 = λ ds bs n. GivesDictionary (batch_schema ds m.ipc_schema) (extra_of m.version) (known_dictionaries old.dictionaries) (record { source = bs; base = 0; size = n }) c.args.batch r after in
    let given : Read c.deref.result.now bytes c.args.size = c.in_err-read_dictionary.ensures.dictionary.exact refl in
    let Blames : List Field → Type 0 = λ ds. OwnFault fault (BlamesDictionary (batch_schema ds m.ipc_schema) c.args.batch fault) in
    let blamed : Blames c.deref.result.now = c.in_err-read_dictionary.ensures.dictionary.causes.field in
    let Tells : List Field → ℕ → Type 0 = λ ds n. TellsValues (batch_schema ds m.ipc_schema) (extra_of m.version) c.args.batch n fault in
    let told : Tells c.deref.result.now c.args.size = c.in_err-read_dictionary.ensures.dictionary.causes.lists in
    let Names : List Field → List ℕ → ℕ → Type 0 = λ ds bs n. TellsOfValues true (batch_schema ds m.ipc_schema) (extra_of m.version) (known_dictionaries old.dictionaries) (record { source = bs; base = 0; size = n }) c.args.batch fault in
    let named : Names c.deref.result.now bytes c.args.size = c.in_err-read_dictionary.ensures.dictionary.causes.entries in
    rw e (values_give (fields_view fs) (pairs_of m.schema.metadata.entries) (all_ids_view m.ipc_schema.fields.items) (order_of m.ipc_schema.is_little_endian) m.version (asked_by old.projection) (known_in old)
    c.args.batch body r (record { dictionaries = after; count = old.count }) c.requires.counted tt
    (subst (λ ds. Blames ds) fields_are blamed) (subst (λ n. Tells fs n) size_is (subst (λ ds. Tells ds c.args.size) fields_are told)) (subst (λ n. Names fs body n) size_is (subst (λ bs. Names fs bs c.args.size) bytes_are (subst (λ ds. Names ds bytes c.args.size) fields_are named)))
    (subst (λ n. Read fs body n) size_is (subst (λ bs. Read fs bs c.args.size) bytes_are (subst (λ ds. Read ds bytes c.args.size) fields_are given))))

pub returns-clause-held : goal.returns-clause-held
returns-clause-held g c =
    let old = c.args.self.now in
    let m = old.metadata in
    let fs : List Field = m.schema.fields.items in
    let fields_are : c.deref.result.now ≡ fs = search rules in
    let before : Option ℤ → Layout = λ id. array_under old.dictionaries id in
    let after : Option ℤ → Layout = λ id. array_under c.read_dictionary.new.dictionaries id in
    let Put : List Field → ℕ → Type 0 = λ ds n. HoldsValues n (batch_schema ds m.ipc_schema) (extra_of m.version) c.args.batch before after in
    let there : Put c.deref.result.now c.args.size = c.in_ok-read_dictionary.ensures.dictionary.bounds.held in
    let put : Put fs (length (g.B.Bytes.bytes c.args.body)) = subst (λ n. Put fs n) c.requires.size (subst (λ ds. Put ds c.args.size) fields_are there) in
    (refl, record { id = put.id; values = put.values; head = put.head; own_buffers = put.own_buffers; all_buffers = put.all_buffers; others = put.others })

pub returns-in_err-read_dictionary-clause-held : goal.returns-in_err-read_dictionary-clause-held
returns-in_err-read_dictionary-clause-held g c =
    let e : c.from_residual.result ≡ Err c.in_err-read_dictionary.field-0.0 = search rules in
    rw e (same_arrays c.args.self.now.dictionaries c.read_dictionary.new.dictionaries c.in_err-read_dictionary.ensures.dictionary.state.kept)

pub returns-in_err-read_dictionary-clause-only : goal.returns-in_err-read_dictionary-clause-only
returns-in_err-read_dictionary-clause-only g c =
    let fault : Fault = c.in_err-read_dictionary.field-0.0 in
    let e : c.from_residual.result ≡ Err fault = search rules in
    rw e (claims_through fault (IsDictionaryFault fault) (IsStreamFault (request_in c.args.self.now) fault) (λ f. inr (inr (inr (inl f)))) c.in_err-read_dictionary.ensures.dictionary.causes.kind)

pub returns-in_err-read_dictionary-clause-own : goal.returns-in_err-read_dictionary-clause-own
returns-in_err-read_dictionary-clause-own g c =
    let fault : Fault = c.in_err-read_dictionary.field-0.0 in
    let e : c.from_residual.result ≡ Err fault = search rules in
    rw e (no_failure (Unit {0}) (Unit {0}) fault c.in_err-read_dictionary.ensures.dictionary.device.failed)

pub returns-in_err-read_dictionary-clause-kept : goal.returns-in_err-read_dictionary-clause-kept
returns-in_err-read_dictionary-clause-kept g c =
    let e : c.from_residual.result ≡ Err c.in_err-read_dictionary.field-0.0 = search rules in
    let same : known_dictionaries c.read_dictionary.new.dictionaries ≡ known_dictionaries c.args.self.now.dictionaries =
    same_known c.args.self.now.dictionaries c.read_dictionary.new.dictionaries c.in_err-read_dictionary.ensures.dictionary.state.kept in
    rw e (record { alike = record { each = λ id. ap (λ (ds : Dictionaries). dictionary_at ds id) (sym same) }; count = refl })
