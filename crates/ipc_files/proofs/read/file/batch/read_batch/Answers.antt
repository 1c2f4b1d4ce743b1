use Rattle.std.proofs.Common.{rules, ◌≡◌, ◌∙◌, length, Ok, Err, sym, ap, arith, ℕ, List, Option, Some, IfErr, IsTrue, subst, inl, inr}
use Rattle.std.proofs.lemmas.Option.{slice_get_read}
use Rattle.std.specs.Prelude.{slice_get, vec_len}
use Rattle.std.specs.Option.{option_copied}
use Rattle.ipc_devices.proofs.Claims.{claimed, claims_through}
use Rattle.ipc_devices.specs.declared.fault.OutOfSpecKind.TheVariants.{NegativeFooterLength, UnexpectedNegativeInteger, UnexpectedMessageType}
use Rattle.ipc_model.specs.Batches.{chosen, extra_of, kinds, lists_of}
use Rattle.ipc_model.specs.Files.{block_header}
use Rattle.ipc_read_flat.specs.Bodies.{known_dictionaries}
use Rattle.ipc_files.specs.Batches.{BlamesRecord, header_lists, needed_bytes, HoldBatch, IsRecordFault, RecordReason}
use Rattle.ipc_files.specs.Blocks.{message_seen, place_seen, IsFrameFault, IsHeaderFault}
use Rattle.ipc_files.specs.Footers.{file_seen}
use Rattle.ipc_files.proofs.BlockFaults.{blames-record, ill-made, in-batch, no-message, other-kind, record-kind, unplaced}
use Rattle.ipc_files.proofs.BlockRecords.{refused-record-place, refused-record-message, refused-record-header, refused-record-kind, read-record, has-place, message-read, on-ok}
use Rattle.ipc_files.proofs.TakenBytes.{block_given, misread, record_needs, unasked, unread}
use Rattle.ipc_read.specs.Sizes.{chosen_listed}
use Rattle.ipc_devices.proofs.Acts.{both_errs, device_after, device_err, device_then, each_err, each_ok, idle_device, when_err}
use Rattle.ipc_devices.specs.Faults.{OnIo, OwnFault}
use Rattle.ipc_devices.specs.declared.fault.Fault.{Fault}
use Rattle.ipc_devices.specs.declared.fault.Fault.TheVariants.{OutOfSpec}
use Rattle.ipc_files.proofs.Causes.{batch-holds, no-record}
use Rattle.ipc_files.specs.Api.{BatchCause, BlockRequest, block_request}
use Rattle.ipc_read.specs.HeldChunks.{HoldChosen}
use Rattle.ipc_read.specs.Refusals.{IsFaultOfBatch}
use Rattle.ipc_files.proofs.read.file.batch.read_batch.Goals as goal

pub returns-in_err-place-clause-batch : goal.returns-in_err-place-clause-batch
returns-in_err-place-clause-batch g c =
    let e = c.in_err-place.field-0.0 in
    let is : c.from_residual.result ≡ Err e = search rules in
    let m = c.args.metadata.now in
    let ds = known_dictionaries c.args.dictionaries.now in
    let source = (g.R.Failures.device.memory c.args.reader.now).whole in
    let projection : Option (List ℕ) = option_copied c.args.projection in
    let limit = c.args.limit in
    let ts = kinds (file_seen m).schema in
    let js = chosen projection (length m.schema.fields.items) in
    let old = g.R.Failures.device.given c.args.reader.now in
    let block = c.index-block.result.now in
    let listed : slice_get m.blocks.items c.args.index ≡ Some block = slice_get_read m.blocks.items (vec_len m.blocks) c.args.index block (search rules) c.requires.index c.index-block.ensures in
    let negative : e ≡ OutOfSpec NegativeFooterLength = c.in_err-place.ensures.only in
    rw is (record {
      exact = λ k. refused-record-place m ds source projection limit c.args.index block listed e c.in_err-place.ensures.place;
      causes = record {
        kind = claimed e (IsRecordFault ts js e) (inl negative);
        reason = λ k. unplaced 3 NegativeFooterLength UnexpectedNegativeInteger source
            listed (BlamesRecord (file_seen m) js) e c.in_err-place.ensures.place negative;
      };
      numbers = λ none. ap Err negative;
      device = idle_device g.R.Failures.device c.args.reader.now (Err e) (subst (λ (f : Fault). OnIo {X = Unit {0}} (Err f) ⊥) (sym negative) tt);
      bounds = record {
        many = tt;
        message = λ k. tt;
        given = unasked g.R.Failures.device.is_memory (needed_bytes ts js) source c.args.message_scratch.now.items old old (slice_get m.blocks.items c.args.index) (omega arith);
        held = tt;
      };
      values = λ k. tt;
    })

pub returns-in_err-read_metadata-clause-batch : goal.returns-in_err-read_metadata-clause-batch
returns-in_err-read_metadata-clause-batch g c =
    let e = c.in_err-read_metadata.field-0.0 in
    let is : c.from_residual-in_err-read_metadata.result ≡ Err e = search rules in
    let m = c.args.metadata.now in
    let ds = known_dictionaries c.args.dictionaries.now in
    let source = (g.R.Failures.device.memory c.args.reader.now).whole in
    let projection : Option (List ℕ) = option_copied c.args.projection in
    let limit = c.args.limit in
    let ts = kinds (file_seen m).schema in
    let js = chosen projection (length m.schema.fields.items) in
    let old = g.R.Failures.device.given c.args.reader.now in
    let block = c.index-block.result.now in
    let listed : slice_get m.blocks.items c.args.index ≡ Some block = slice_get_read m.blocks.items (vec_len m.blocks) c.args.index block (search rules) c.requires.index c.index-block.ensures in
    let place = c.in_ok-place.place in
    let stands = c.in_ok-place.ensures.place in
    let items = c.read_metadata.new.metadata.items in
    let new = g.R.Failures.device.given c.read_metadata.new.reader in
    rw is (record {
      exact = λ k. refused-record-message m ds source projection limit c.args.index block listed place stands e (c.in_err-read_metadata.ensures.memory k);
      causes = record {
        kind = claims_through e (IsFrameFault UnexpectedNegativeInteger e) (IsRecordFault ts js e) (λ f. inr (inl f)) c.in_err-read_metadata.ensures.only;
        reason = λ k. no-message 3 NegativeFooterLength UnexpectedNegativeInteger source
            listed (BlamesRecord (file_seen m) js)
            (place_seen place) stands e (c.in_err-read_metadata.ensures.memory k) (c.in_err-read_metadata.ensures.reason k);
      };
      numbers = λ none. has-place m.blocks.items c.args.index block listed place stands none;
      device = device_err g.R.Failures.device c.args.reader.now e c.read_metadata.new.reader c.in_err-read_metadata.ensures.device;
      bounds = record {
        many = tt;
        message = λ k. tt;
        given = unread g.R.Failures.device.is_memory (needed_bytes ts js) source items old new (slice_get m.blocks.items c.args.index) block (place_seen place) listed stands
            c.in_err-read_metadata.ensures.given;
        held = tt;
      };
      values = λ k. tt;
    })

pub returns-in_err-message-clause-batch : goal.returns-in_err-message-clause-batch
returns-in_err-message-clause-batch g c =
    let e = c.in_err-message.field-0.0 in
    let is : c.from_residual-in_err-message.result ≡ Err e = search rules in
    let m = c.args.metadata.now in
    let ds = known_dictionaries c.args.dictionaries.now in
    let source = (g.R.Failures.device.memory c.args.reader.now).whole in
    let projection : Option (List ℕ) = option_copied c.args.projection in
    let limit = c.args.limit in
    let ts = kinds (file_seen m).schema in
    let js = chosen projection (length m.schema.fields.items) in
    let old = g.R.Failures.device.given c.args.reader.now in
    let block = c.index-block.result.now in
    let listed : slice_get m.blocks.items c.args.index ≡ Some block = slice_get_read m.blocks.items (vec_len m.blocks) c.args.index block (search rules) c.requires.index c.index-block.ensures in
    let place = c.in_ok-place.place in
    let stands = c.in_ok-place.ensures.place in
    let items = c.read_metadata.new.metadata.items in
    let new = g.R.Failures.device.given c.read_metadata.new.reader in
    rw is (record {
      exact = λ k. refused-record-header m ds source projection limit c.args.index block listed place stands
          items (c.in_ok-read_metadata.ensures.memory k) e (rw c.deref.ensures.value at c.in_err-message.ensures.meaning);
      causes = record {
        kind = claims_through e (IsHeaderFault e) (IsRecordFault ts js e) (λ f. inr (inr (inl f))) c.in_err-message.ensures.only;
        reason = λ k. ill-made 3 NegativeFooterLength UnexpectedNegativeInteger source
            listed (BlamesRecord (file_seen m) js)
            (place_seen place) stands items (c.in_ok-read_metadata.ensures.memory k) e
            (rw c.deref.ensures.value at c.in_err-message.ensures.exact);
      };
      numbers = λ none. has-place m.blocks.items c.args.index block listed place stands none;
      device = device_then g.R.Failures.device c.args.reader.now c.read_metadata.new.reader _ (Err e) c.in_ok-read_metadata.ensures.device c.in_err-message.ensures.own;
      bounds = record {
        many = tt;
        message = λ k. tt;
        given = misread g.R.Failures.device.is_memory (needed_bytes ts js) source items old new (slice_get m.blocks.items c.args.index) block (place_seen place) listed stands
            c.in_ok-read_metadata.ensures.memory (omega (arith, c.in_ok-read_metadata.ensures.given));
        held = tt;
      };
      values = λ k. tt;
    })

pub returns-in_err-batch-clause-batch : goal.returns-in_err-batch-clause-batch
returns-in_err-batch-clause-batch g c =
    let e = c.in_err-batch.field-0.0 in
    let is : c.from_residual-in_err-batch.result ≡ Err e = search rules in
    let m = c.args.metadata.now in
    let ds = known_dictionaries c.args.dictionaries.now in
    let source = (g.R.Failures.device.memory c.args.reader.now).whole in
    let projection : Option (List ℕ) = option_copied c.args.projection in
    let limit = c.args.limit in
    let ts = kinds (file_seen m).schema in
    let js = chosen projection (length m.schema.fields.items) in
    let old = g.R.Failures.device.given c.args.reader.now in
    let block = c.index-block.result.now in
    let listed : slice_get m.blocks.items c.args.index ≡ Some block = slice_get_read m.blocks.items (vec_len m.blocks) c.args.index block (search rules) c.requires.index c.index-block.ensures in
    let place = c.in_ok-place.place in
    let stands = c.in_ok-place.ensures.place in
    let items = c.read_metadata.new.metadata.items in
    let new = g.R.Failures.device.given c.read_metadata.new.reader in
    let other : e ≡ OutOfSpec UnexpectedMessageType = no-record c.in_ok-message.message.header e c.in_err-batch.ensures in
    rw is (record {
      exact = λ k. claimed e _ (refused-record-kind m ds source projection limit c.args.index block listed place stands
          items (c.in_ok-read_metadata.ensures.memory k) c.in_ok-message.message
          (ap block_header (sym c.deref.ensures.value) ∙ c.in_ok-message.ensures.meaning) e c.in_err-batch.ensures);
      causes = record {
        kind = claimed e (IsRecordFault ts js e) (inr (inr (inr (inl other))));
        reason = λ k. other-kind 3 NegativeFooterLength UnexpectedNegativeInteger source
            listed (BlamesRecord (file_seen m) js)
            (place_seen place) stands items (c.in_ok-read_metadata.ensures.memory k) (message_seen c.in_ok-message.message)
            (rw c.deref.ensures.value at c.in_ok-message.ensures.exact) e (record-kind c.in_ok-message.message (Err e) c.in_err-batch.ensures);
      };
      numbers = λ none. has-place m.blocks.items c.args.index block listed place stands none;
      device = device_then g.R.Failures.device c.args.reader.now c.read_metadata.new.reader _ (Err e) c.in_ok-read_metadata.ensures.device (subst (λ (f : Fault). OnIo {X = Unit {0}} (Err f) ⊥) (sym other) tt);
      bounds = record {
        many = tt;
        message = λ k. tt;
        given = misread g.R.Failures.device.is_memory (needed_bytes ts js) source items old new (slice_get m.blocks.items c.args.index) block (place_seen place) listed stands
            c.in_ok-read_metadata.ensures.memory (omega (arith, c.in_ok-read_metadata.ensures.given));
        held = tt;
      };
      values = λ k. tt;
    })

pub returns-clause-batch : goal.returns-clause-batch
returns-clause-batch g c =
    let m = c.args.metadata.now in
    let ds = known_dictionaries c.args.dictionaries.now in
    let source = (g.R.Failures.device.memory c.args.reader.now).whole in
    let projection : Option (List ℕ) = option_copied c.args.projection in
    let limit = c.args.limit in
    let ts = kinds (file_seen m).schema in
    let js = chosen projection (length m.schema.fields.items) in
    let old = g.R.Failures.device.given c.args.reader.now in
    let block = c.index-block.result.now in
    let listed : slice_get m.blocks.items c.args.index ≡ Some block = slice_get_read m.blocks.items (vec_len m.blocks) c.args.index block (search rules) c.requires.index c.index-block.ensures in
    let place = c.in_ok-place.place in
    let stands = c.in_ok-place.ensures.place in
    let items = c.read_metadata.new.metadata.items in
    let x = c.in_ok-message.message in
    let opened : block_header items ≡ Some (message_seen x) = ap block_header (sym c.deref.ensures.value) ∙ c.in_ok-message.ensures.meaning in
    let q : BlockRequest = block_request m c.args.dictionaries.now projection limit c.args.index in
    let only : IfErr c.read_record.result (λ e. OwnFault e (IsRecordFault ts js e)) =
    each_err {P = λ e. OwnFault e (IsFaultOfBatch ts js e)} {Q = λ e. OwnFault e (IsRecordFault ts js e)} c.read_record.result c.read_record.ensures.only
    (λ e h. claims_through e (IsFaultOfBatch ts js e) (IsRecordFault ts js e) (λ f. inr (inr (inr (inr f)))) h) in
    let reason : IfErr c.read_record.result (λ e. IsTrue g.R.Failures.device.is_memory → OwnFault e (RecordReason (file_seen m) js source (slice_get m.blocks.items c.args.index) e)) =
    when_err (λ e. OwnFault e (RecordReason (file_seen m) js source (slice_get m.blocks.items c.args.index) e)) c.read_record.result (IsTrue g.R.Failures.device.is_memory) (λ k.
    in-batch 3 NegativeFooterLength UnexpectedNegativeInteger source
    listed (BlamesRecord (file_seen m) js)
    (place_seen place) stands items (c.in_ok-read_metadata.ensures.memory k) (message_seen x)
    (rw c.deref.ensures.value at c.in_ok-message.ensures.exact) c.read_record.result (record-kind x (Ok c.in_ok-batch.batch) c.in_ok-batch.ensures)
    (blames-record (file_seen m) x c.in_ok-batch.batch c.read_record.result js c.in_ok-batch.ensures c.read_record.ensures.only c.read_record.ensures.lists)) in
    record {
      exact = λ k.
          read-record m ds source projection limit c.args.index block listed place stands
          items (c.in_ok-read_metadata.ensures.memory k) x opened c.in_ok-batch.batch (g.R.Failures.device.memory c.read_metadata.new.reader).whole
          c.read_record.result c.in_ok-batch.ensures (c.in_ok-read_metadata.ensures.device.whole (g.met.R.Seeks.known_still k)) (c.read_record.ensures.memory k);
      causes = each_err {Q = BatchCause g.R.Failures.device q c.args.reader.now} c.read_record.result (both_errs _ _ c.read_record.result only reason) (λ e p. record { kind = p.0; reason = p.1 });
      numbers = λ none. has-place m.blocks.items c.args.index block listed place stands none;
      device = device_after g.R.Failures.device c.args.reader.now c.read_metadata.new.reader _ c.read_record.result c.read_record.new.reader
          c.in_ok-read_metadata.ensures.device c.read_record.ensures.device;
      bounds = record {
        many = c.read_record.ensures.many;
        message = λ k.
            on-ok c.read_record.result _ (message-read m.blocks.items c.args.index block listed source place
            items x stands (c.in_ok-read_metadata.ensures.memory k) opened);
        given =
            let needs : header_lists ts js (block_header items) ≡ chosen_listed (lists_of c.in_ok-batch.batch) (extra_of x.version) ts js =
            record_needs x c.in_ok-batch.batch items opened ts js c.in_ok-batch.ensures in
            block_given g.R.Failures.device.is_memory (needed_bytes ts js) source items old
            (g.R.Failures.device.given c.read_record.new.reader) (slice_get m.blocks.items c.args.index) block (place_seen place)
            listed stands c.in_ok-read_metadata.ensures.memory
            (omega (arith, needs, c.in_ok-read_metadata.ensures.given, c.read_record.ensures.given)) c.read_record.result;
        held = each_ok {P = λ xs. HoldChosen m.size (lists_of c.in_ok-batch.batch) (extra_of x.version) ts js xs} {Q = λ xs. HoldBatch m.size ts js items xs} c.read_record.result c.read_record.ensures.held
            (λ xs h. batch-holds m.size ts js x c.in_ok-batch.batch items opened c.in_ok-batch.ensures xs h);
      };
      values = c.read_record.ensures.values;
    }
