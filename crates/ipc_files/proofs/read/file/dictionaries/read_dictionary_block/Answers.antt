use Rattle.std.proofs.Common.{rules, ◌≡◌, ◌∙◌, [], ◌∷◌, Some, Ok, Err, refl, sym, ap, arith}
use Rattle.ipc_devices.proofs.Claims.{claimed}
use Rattle.ipc_devices.specs.declared.fault.OutOfSpecKind.TheVariants.{NegativeFooterLength, UnexpectedNegativeInteger}
use Rattle.ipc_model.specs.Batches.{extra_of}
use Rattle.ipc_model.specs.Files.{block_header}
use Rattle.ipc_read_flat.specs.Bodies.{known_dictionaries}
use Rattle.ipc_files.specs.Blocks.{message_seen, place_seen}
use Rattle.ipc_files.specs.Dictionaries.{BlamesValues, header_values, needed_values}
use Rattle.ipc_files.specs.Footers.{file_seen}
use Rattle.ipc_files.proofs.BlockDictionaries.{refused-dictionary-place, refused-dictionary-message, refused-dictionary-header, refused-dictionary-kind, read-dictionary}
use Rattle.ipc_files.proofs.BlockFaults.{blames-values, dictionary-kind, ill-made, in-batch, no-message, other-kind, unplaced}
use Rattle.ipc_files.proofs.BlockRecords.{message-read}
use Rattle.ipc_files.proofs.TakenBytes.{dictionary_needs, misread, unasked, unread}
use Rattle.ipc_read.specs.DictionaryBatches.{values_listed}
use Rattle.ipc_files.proofs.read.file.dictionaries.read_dictionary_block.Goals as goal

pub returns-in_err-place-clause-memory : goal.returns-in_err-place-clause-memory
returns-in_err-place-clause-memory g c = λ k.
    let e = c.in_err-place.field-0.0 in
    let is : c.from_residual.result ≡ Err e = search rules in
    rw is (refused-dictionary-place c.args.metadata.now (known_dictionaries c.args.dictionaries.now) (g.R.Failures.device.memory c.args.reader.now).whole c.args.block.now e c.in_err-place.ensures.place)

pub returns-in_err-read_metadata-clause-memory : goal.returns-in_err-read_metadata-clause-memory
returns-in_err-read_metadata-clause-memory g c = λ k.
    let e = c.in_err-read_metadata.field-0.0 in
    let is : c.from_residual-in_err-read_metadata.result ≡ Err e = search rules in
    rw is (refused-dictionary-message c.args.metadata.now (known_dictionaries c.args.dictionaries.now) (g.R.Failures.device.memory c.args.reader.now).whole c.args.block.now
    c.in_ok-place.place c.in_ok-place.ensures.place e (c.in_err-read_metadata.ensures.memory k))

pub returns-in_err-message-clause-memory : goal.returns-in_err-message-clause-memory
returns-in_err-message-clause-memory g c = λ k.
    let e = c.in_err-message.field-0.0 in
    let is : c.from_residual-in_err-message.result ≡ Err e = search rules in
    rw is (refused-dictionary-header c.args.metadata.now (known_dictionaries c.args.dictionaries.now) (g.R.Failures.device.memory c.args.reader.now).whole c.args.block.now
    c.in_ok-place.place c.in_ok-place.ensures.place c.read_metadata.new.metadata.items (c.in_ok-read_metadata.ensures.memory k) e
    (rw c.deref.ensures.value at c.in_err-message.ensures.meaning))

pub returns-in_err-batch-clause-memory : goal.returns-in_err-batch-clause-memory
returns-in_err-batch-clause-memory g c = λ k.
    let e = c.in_err-batch.field-0.0 in
    let is : c.from_residual-in_err-batch.result ≡ Err e = search rules in
    rw is (claimed e _ (refused-dictionary-kind c.args.metadata.now (known_dictionaries c.args.dictionaries.now) (g.R.Failures.device.memory c.args.reader.now).whole c.args.block.now
    c.in_ok-place.place c.in_ok-place.ensures.place c.read_metadata.new.metadata.items (c.in_ok-read_metadata.ensures.memory k) c.in_ok-message.message
    (ap block_header (sym c.deref.ensures.value) ∙ c.in_ok-message.ensures.meaning) e c.in_err-batch.ensures))

pub returns-in_err-read_values-clause-memory : goal.returns-in_err-read_values-clause-memory
returns-in_err-read_values-clause-memory g c = λ k.
    let e = c.in_err-read_values.field-0.0 in
    let is : c.from_residual-in_err-read_values.result ≡ Err e = search rules in
    rw is (read-dictionary c.args.metadata.now (known_dictionaries c.args.dictionaries.now) (g.R.Failures.device.memory c.args.reader.now).whole c.args.block.now
    c.in_ok-place.place c.in_ok-place.ensures.place c.read_metadata.new.metadata.items (c.in_ok-read_metadata.ensures.memory k) c.in_ok-message.message
    (ap block_header (sym c.deref.ensures.value) ∙ c.in_ok-message.ensures.meaning) {X = Unit {0}} c.in_ok-batch.batch (g.R.Failures.device.memory c.read_metadata.new.reader).whole
    (Err e) (known_dictionaries c.read_values.new.dictionaries) c.in_ok-batch.ensures (c.in_ok-read_metadata.ensures.device.whole (g.met.R.Seeks.known_still k)) (c.in_err-read_values.ensures.memory k))

pub returns-clause-memory : goal.returns-clause-memory
returns-clause-memory g c = λ k.
    read-dictionary c.args.metadata.now (known_dictionaries c.args.dictionaries.now) (g.R.Failures.device.memory c.args.reader.now).whole c.args.block.now
    c.in_ok-place.place c.in_ok-place.ensures.place c.read_metadata.new.metadata.items (c.in_ok-read_metadata.ensures.memory k) c.in_ok-message.message
    (ap block_header (sym c.deref.ensures.value) ∙ c.in_ok-message.ensures.meaning) {X = Unit {0}} c.in_ok-batch.batch (g.R.Failures.device.memory c.read_metadata.new.reader).whole
    (Ok tt) (known_dictionaries c.read_values.new.dictionaries) c.in_ok-batch.ensures (c.in_ok-read_metadata.ensures.device.whole (g.met.R.Seeks.known_still k)) (c.in_ok-read_values.ensures.memory k)

pub returns-clause-message : goal.returns-clause-message
returns-clause-message g c = λ k.
    message-read (c.args.block.now ∷ []) 0 c.args.block.now refl (g.R.Failures.device.memory c.args.reader.now).whole c.in_ok-place.place c.read_metadata.new.metadata.items c.in_ok-message.message
    c.in_ok-place.ensures.place (c.in_ok-read_metadata.ensures.memory k) (ap block_header (sym c.deref.ensures.value) ∙ c.in_ok-message.ensures.meaning)

pub returns-in_err-place-clause-reason : goal.returns-in_err-place-clause-reason
returns-in_err-place-clause-reason g c = λ k.
    let e = c.in_err-place.field-0.0 in
    let is : c.from_residual.result ≡ Err e = search rules in
    rw is (unplaced 2 UnexpectedNegativeInteger NegativeFooterLength (g.R.Failures.device.memory c.args.reader.now).whole {o = Some c.args.block.now} {b = c.args.block.now} refl (BlamesValues (file_seen c.args.metadata.now))
    e c.in_err-place.ensures.place c.in_err-place.ensures.only)

pub returns-in_err-read_metadata-clause-reason : goal.returns-in_err-read_metadata-clause-reason
returns-in_err-read_metadata-clause-reason g c = λ k.
    let e = c.in_err-read_metadata.field-0.0 in
    let is : c.from_residual-in_err-read_metadata.result ≡ Err e = search rules in
    rw is (no-message 2 UnexpectedNegativeInteger NegativeFooterLength (g.R.Failures.device.memory c.args.reader.now).whole {o = Some c.args.block.now} {b = c.args.block.now} refl (BlamesValues (file_seen c.args.metadata.now))
    (place_seen c.in_ok-place.place) c.in_ok-place.ensures.place e (c.in_err-read_metadata.ensures.memory k) (c.in_err-read_metadata.ensures.reason k))

pub returns-in_err-message-clause-reason : goal.returns-in_err-message-clause-reason
returns-in_err-message-clause-reason g c = λ k.
    let e = c.in_err-message.field-0.0 in
    let is : c.from_residual-in_err-message.result ≡ Err e = search rules in
    rw is (ill-made 2 UnexpectedNegativeInteger NegativeFooterLength (g.R.Failures.device.memory c.args.reader.now).whole {o = Some c.args.block.now} {b = c.args.block.now} refl (BlamesValues (file_seen c.args.metadata.now))
    (place_seen c.in_ok-place.place) c.in_ok-place.ensures.place c.read_metadata.new.metadata.items (c.in_ok-read_metadata.ensures.memory k) e
    (rw c.deref.ensures.value at c.in_err-message.ensures.exact))

pub returns-in_err-batch-clause-reason : goal.returns-in_err-batch-clause-reason
returns-in_err-batch-clause-reason g c = λ k.
    let e = c.in_err-batch.field-0.0 in
    let is : c.from_residual-in_err-batch.result ≡ Err e = search rules in
    rw is (other-kind 2 UnexpectedNegativeInteger NegativeFooterLength (g.R.Failures.device.memory c.args.reader.now).whole {o = Some c.args.block.now} {b = c.args.block.now} refl (BlamesValues (file_seen c.args.metadata.now))
    (place_seen c.in_ok-place.place) c.in_ok-place.ensures.place c.read_metadata.new.metadata.items (c.in_ok-read_metadata.ensures.memory k)
    (message_seen c.in_ok-message.message) (rw c.deref.ensures.value at c.in_ok-message.ensures.exact) e (dictionary-kind c.in_ok-message.message (Err e) c.in_err-batch.ensures))

pub returns-in_err-read_values-clause-reason : goal.returns-in_err-read_values-clause-reason
returns-in_err-read_values-clause-reason g c = λ k.
    let e = c.in_err-read_values.field-0.0 in
    let is : c.from_residual-in_err-read_values.result ≡ Err e = search rules in
    rw is (in-batch 2 UnexpectedNegativeInteger NegativeFooterLength (g.R.Failures.device.memory c.args.reader.now).whole {o = Some c.args.block.now} {b = c.args.block.now} refl (BlamesValues (file_seen c.args.metadata.now))
    (place_seen c.in_ok-place.place) c.in_ok-place.ensures.place c.read_metadata.new.metadata.items (c.in_ok-read_metadata.ensures.memory k)
    (message_seen c.in_ok-message.message) (rw c.deref.ensures.value at c.in_ok-message.ensures.exact) {X = Unit {0}} (Err e)
    (dictionary-kind c.in_ok-message.message (Ok c.in_ok-batch.batch) c.in_ok-batch.ensures)
    (blames-values {X = Unit {0}} (file_seen c.args.metadata.now) c.in_ok-message.message c.in_ok-batch.batch (Err e) c.in_ok-batch.ensures
    c.in_err-read_values.ensures.blames c.in_err-read_values.ensures.lists))

pub returns-in_err-place-clause-given : goal.returns-in_err-place-clause-given
returns-in_err-place-clause-given g c =
    let is : c.from_residual.result ≡ Err c.in_err-place.field-0.0 = search rules in
    rw is (unasked g.R.Failures.device.is_memory (needed_values (file_seen c.args.metadata.now).schema) (g.R.Failures.device.memory c.args.reader.now).whole c.args.message_scratch.now.items
    (g.R.Failures.device.given c.args.reader.now) (g.R.Failures.device.given c.args.reader.now) (Some c.args.block.now) (omega arith))

pub returns-in_err-read_metadata-clause-given : goal.returns-in_err-read_metadata-clause-given
returns-in_err-read_metadata-clause-given g c =
    let is : c.from_residual-in_err-read_metadata.result ≡ Err c.in_err-read_metadata.field-0.0 = search rules in
    rw is (unread g.R.Failures.device.is_memory (needed_values (file_seen c.args.metadata.now).schema) (g.R.Failures.device.memory c.args.reader.now).whole c.read_metadata.new.metadata.items
    (g.R.Failures.device.given c.args.reader.now) (g.R.Failures.device.given c.read_metadata.new.reader) (Some c.args.block.now) c.args.block.now (place_seen c.in_ok-place.place) refl
    c.in_ok-place.ensures.place c.in_err-read_metadata.ensures.given)

pub returns-in_err-message-clause-given : goal.returns-in_err-message-clause-given
returns-in_err-message-clause-given g c =
    let is : c.from_residual-in_err-message.result ≡ Err c.in_err-message.field-0.0 = search rules in
    rw is (misread g.R.Failures.device.is_memory (needed_values (file_seen c.args.metadata.now).schema) (g.R.Failures.device.memory c.args.reader.now).whole c.read_metadata.new.metadata.items
    (g.R.Failures.device.given c.args.reader.now) (g.R.Failures.device.given c.read_metadata.new.reader) (Some c.args.block.now) c.args.block.now (place_seen c.in_ok-place.place) refl
    c.in_ok-place.ensures.place c.in_ok-read_metadata.ensures.memory (omega (arith, c.in_ok-read_metadata.ensures.given)))

pub returns-in_err-batch-clause-given : goal.returns-in_err-batch-clause-given
returns-in_err-batch-clause-given g c =
    let is : c.from_residual-in_err-batch.result ≡ Err c.in_err-batch.field-0.0 = search rules in
    rw is (misread g.R.Failures.device.is_memory (needed_values (file_seen c.args.metadata.now).schema) (g.R.Failures.device.memory c.args.reader.now).whole c.read_metadata.new.metadata.items
    (g.R.Failures.device.given c.args.reader.now) (g.R.Failures.device.given c.read_metadata.new.reader) (Some c.args.block.now) c.args.block.now (place_seen c.in_ok-place.place) refl
    c.in_ok-place.ensures.place c.in_ok-read_metadata.ensures.memory (omega (arith, c.in_ok-read_metadata.ensures.given)))

pub returns-in_err-read_values-clause-given : goal.returns-in_err-read_values-clause-given
returns-in_err-read_values-clause-given g c =
    let schema = (file_seen c.args.metadata.now).schema in
    let items = c.read_metadata.new.metadata.items in
    let needs : header_values schema (block_header items) ≡ values_listed schema (extra_of c.in_ok-message.message.version) c.in_ok-batch.batch =
    dictionary_needs c.in_ok-message.message c.in_ok-batch.batch items (ap block_header (sym c.deref.ensures.value) ∙ c.in_ok-message.ensures.meaning) schema c.in_ok-batch.ensures in
    let is : c.from_residual-in_err-read_values.result ≡ Err c.in_err-read_values.field-0.0 = search rules in
    rw is (misread g.R.Failures.device.is_memory (needed_values schema) (g.R.Failures.device.memory c.args.reader.now).whole items
    (g.R.Failures.device.given c.args.reader.now) (g.R.Failures.device.given c.read_values.new.reader) (Some c.args.block.now) c.args.block.now (place_seen c.in_ok-place.place) refl
    c.in_ok-place.ensures.place c.in_ok-read_metadata.ensures.memory (omega (arith, needs, c.in_ok-read_metadata.ensures.given, c.in_err-read_values.ensures.given)))

pub returns-clause-given : goal.returns-clause-given
returns-clause-given g c =
    let schema = (file_seen c.args.metadata.now).schema in
    let items = c.read_metadata.new.metadata.items in
    let needs : header_values schema (block_header items) ≡ values_listed schema (extra_of c.in_ok-message.message.version) c.in_ok-batch.batch =
    dictionary_needs c.in_ok-message.message c.in_ok-batch.batch items (ap block_header (sym c.deref.ensures.value) ∙ c.in_ok-message.ensures.meaning) schema c.in_ok-batch.ensures in
    omega (arith, needs, c.in_ok-read_metadata.ensures.given, c.in_ok-read_values.ensures.given)
