use Rattle.std.proofs.Common.{rules, ◌≡◌, ◌+◌, ◌≤◌, List, Ok, Err, subst, ℤ, Option}
use Rattle.lower.specs.declared.datatypes.Field.{Field}
use Rattle.ipc_model.specs.Batches.{extra_of}
use Rattle.ipc_read_flat.specs.Bodies.{known_dictionaries, array_under}
use Rattle.ipc_read.specs.Chunks.{batch_schema}
use Rattle.ipc_read.specs.DictionaryBatches.{values_listed}
use Rattle.ipc_files.proofs.BlockDictionaries.{dictionary-blames, dictionary-given, dictionary-tells}
use Rattle.ipc_read.specs.HeldChunks.{HoldsValues}
use Rattle.lower_arrays.specs.Layouts.{Layout}
use Rattle.ipc_files.proofs.read.file.dictionaries.read_values.Goals as goal

pub returns-in_err-read_dictionary-clause-memory : goal.returns-in_err-read_dictionary-clause-memory
returns-in_err-read_dictionary-clause-memory g c = λ k.
    let e = c.in_err-read_dictionary.field-0.0 in
    let is : c.from_residual.result ≡ Err e = search rules in
    rw is (dictionary-given {X = Unit {0}} c.args.metadata.now (extra_of c.args.version) (known_dictionaries c.args.dictionaries.now) (known_dictionaries c.read_dictionary.new.dictionaries)
    (record { source = (g.R.Failures.device.memory c.args.reader.now).whole; base = c.args.body; size = c.args.metadata.now.size }) c.args.batch
    c.deref.result.now (Err e) c.deref.ensures.value (c.in_err-read_dictionary.ensures.dictionary.exact k))

pub returns-clause-memory : goal.returns-clause-memory
returns-clause-memory g c = λ k.
    dictionary-given {X = Unit {0}} c.args.metadata.now (extra_of c.args.version) (known_dictionaries c.args.dictionaries.now) (known_dictionaries c.read_dictionary.new.dictionaries)
    (record { source = (g.R.Failures.device.memory c.args.reader.now).whole; base = c.args.body; size = c.args.metadata.now.size }) c.args.batch
    c.deref.result.now (Ok tt) c.deref.ensures.value (c.in_ok-read_dictionary.ensures.dictionary.exact k)

pub returns-in_err-read_dictionary-clause-blames : goal.returns-in_err-read_dictionary-clause-blames
returns-in_err-read_dictionary-clause-blames g c =
    let e = c.in_err-read_dictionary.field-0.0 in
    let is : c.from_residual.result ≡ Err e = search rules in
    rw is (dictionary-blames {X = Unit {0}} c.args.metadata.now c.args.batch c.deref.result.now (Err e) c.deref.ensures.value c.in_err-read_dictionary.ensures.dictionary.causes.field)

pub returns-in_err-read_dictionary-clause-lists : goal.returns-in_err-read_dictionary-clause-lists
returns-in_err-read_dictionary-clause-lists g c =
    let e = c.in_err-read_dictionary.field-0.0 in
    let is : c.from_residual.result ≡ Err e = search rules in
    rw is (dictionary-tells {X = Unit {0}} c.args.metadata.now c.args.batch c.deref.result.now (Err e) c.deref.ensures.value (extra_of c.args.version) c.args.metadata.now.size
    c.in_err-read_dictionary.ensures.dictionary.causes.lists)

pub returns-in_err-read_dictionary-clause-given : goal.returns-in_err-read_dictionary-clause-given
returns-in_err-read_dictionary-clause-given g c =
    let old = g.R.Failures.device.given c.args.reader.now in
    let new = g.R.Failures.device.given c.read_dictionary.new.reader in
    subst (λ (fs : List Field). new ≤ old + values_listed (batch_schema fs c.args.metadata.now.ipc_schema) (extra_of c.args.version) c.args.batch) c.deref.ensures.value
    c.in_err-read_dictionary.ensures.dictionary.bounds.given

pub returns-in_err-read_dictionary-clause-only : goal.returns-in_err-read_dictionary-clause-only
returns-in_err-read_dictionary-clause-only g c =
    let e = c.in_err-read_dictionary.field-0.0 in
    let is : c.from_residual.result ≡ Err e = search rules in
    rw is c.in_err-read_dictionary.ensures.dictionary.causes.kind

pub returns-clause-given : goal.returns-clause-given
returns-clause-given g c =
    let old = g.R.Failures.device.given c.args.reader.now in
    let new = g.R.Failures.device.given c.read_dictionary.new.reader in
    subst (λ (fs : List Field). new ≤ old + values_listed (batch_schema fs c.args.metadata.now.ipc_schema) (extra_of c.args.version) c.args.batch) c.deref.ensures.value
    c.in_ok-read_dictionary.ensures.dictionary.bounds.given

pub returns-clause-held : goal.returns-clause-held
returns-clause-held g c =
    let m = c.args.metadata.now in
    let before : Option ℤ → Layout = λ id. array_under c.args.dictionaries.now id in
    let after : Option ℤ → Layout = λ id. array_under c.read_dictionary.new.dictionaries id in
    let Put : List Field → Type 0 = λ fs. HoldsValues m.size (batch_schema fs m.ipc_schema) (extra_of c.args.version) c.args.batch before after in
    let put : Put m.schema.fields.items = subst Put c.deref.ensures.value c.in_ok-read_dictionary.ensures.dictionary.bounds.held in
    record { id = put.id; values = put.values; head = put.head; own_buffers = put.own_buffers; all_buffers = put.all_buffers; others = put.others }
