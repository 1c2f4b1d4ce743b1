-- What holds of a file writer to a reference holds of one to the device that it leads to.
use Rattle.std.proofs.Common.{ℕ, Bool, true, List, [], None, Err, inl, inr}
use Rattle.std.specs.Borrow.{MutBor}
use Rattle.lower_arrays.specs.declared.array.AnyArray.{AnyArray}
use Rattle.ipc_devices.specs.Device as devices
use Rattle.ipc_devices.specs.Device.{Device, before}
use Rattle.ipc_devices.specs.declared.fault.ArgFault.TheVariants.{TooLarge}
use Rattle.ipc_devices.specs.declared.fault.Fault.{Fault}
use Rattle.ipc_devices.specs.declared.fault.Fault.TheVariants.{Argument}
use Rattle.ipc_model.specs.Batches.{Chunk}
use Rattle.ipc_model.specs.Entries.{Dictionaries}
use Rattle.ipc_write.specs.declared.stream.WriterState.{WriterState}
use Rattle.ipc_write.specs.declared.stream.WriterState.TheVariants.{Failed, Finished, New, Started}
use Rattle.ipc_file_write.proofs.Elsewhere.{open_over, over, whole_over}
use Rattle.ipc_file_write.specs.FileWriters.{AnswersFinish, FileIs, FileSeen, HoldsBytes, MayBeFinished}
use Rattle.ipc_file_write.specs.Writes.{HaveBlocks, MayBeWritten, MissesWrite, Written, WritesExactly}
use Rattle.ipc_convert.proofs.Own.{own}
use Rattle.ipc_convert.specs.Refusals.{CopyFileCause, CopyStreamCause, AsFileCause}
use Rattle.ipc_convert.specs.Sinks.{TookBlocks}
use Rattle.ipc_convert.specs.Steps.{BeginsFile}
use Rattle.ipc_programs.proofs.Borrowed.{copies_no_file, copies_no_stream, same_behind}

-- ---- writers over another device

-- The same holds of a writer with another device, if no device is read.
module _ {V W : Type 0} (w : FileSeen V) (device : W) where
  -- the file that its bytes are
  pub file_over : (is_stream : Bool) (state : WriterState) (bytes : List ℕ) (cs : List Chunk) → FileIs is_stream state w bytes cs → FileIs is_stream state (over device w) bytes cs
  file_over is_stream New bytes cs h = record { none = h.none; no_chunks = h.no_chunks; nothing = h.nothing; no_dictionaries = h.no_dictionaries; no_blocks = h.no_blocks }
  file_over is_stream Started bytes cs h = open_over w device is_stream bytes cs h
  file_over is_stream Finished bytes cs h = whole_over w device is_stream bytes cs h
  file_over is_stream Failed bytes cs h = h

  abbrev written_over : (columns : List AnyArray) → Written w columns → Written (over device w) columns
  written_over columns m = record { list = m.list; dictionaries = m.dictionaries; own = m.own; lists = m.lists; are = m.are }

  -- the columns that it may write, and the blocks that they have
  pub may_over : (known : Dictionaries) (columns : List AnyArray) → MayBeWritten w known columns None → MayBeWritten (over device w) known columns None
  may_over known columns h = record { started = h.started; same_ids = h.same_ids; messages = written_over columns h.messages; accepted = h.accepted }

  pub blocks_over : (known : Dictionaries) (columns : List AnyArray) → HaveBlocks w known columns → HaveBlocks (over device w) known columns
  blocks_over known columns h = record { messages = written_over columns h.messages; few = h.few; places = h.places }

  pub may_finish_over : MayBeFinished w → MayBeFinished (over device w)
  may_finish_over h = record { started = h.started; few = h.few }

-- what it refuses
module _ {V W : Type 0} (w : FileSeen V) (device : W) where
  misses_over : (known : Dictionaries) (columns : List AnyArray) (e : Fault) → MissesWrite w known columns None e → MissesWrite (over device w) known columns None e
  misses_over known columns (Argument TooLarge) h = λ all. h (all.0, blocks_over (over device w) w.device known columns all.1)
  misses_over known columns _ h = h

  pub exactly_over : (columns : List AnyArray) (e : Fault) → WritesExactly w columns None (Err e) → WritesExactly (over device w) columns None (Err e)
  exactly_over columns e h = record {
    known = h.known;
    agrees = h.agrees;
    exact = λ ds knows.
        let answer = h.exact ds knows in (
          misses_over ds columns e answer.0,
          own e (¬ MayBeWritten (over device w) ds columns None) (λ it may. it (¬ MayBeWritten w ds columns None) answer.1 (may_over (over device w) w.device ds columns may)),
        );
  }

  pub finish_over : (e : Fault) → AnswersFinish w (Err e) → AnswersFinish (over device w) (Err e)
  finish_over e answer = (answer.0, own e (¬ MayBeFinished (over device w)) (λ it may. it (¬ MayBeFinished w) answer.1 (may_finish_over (over device w) w.device may)))

-- ---- references

module _ {O : Type 0} (d : Device O) where
  -- The same writer with the device that its reference leads to.
  abbrev returned : FileSeen (MutBor O) → FileSeen O
  returned w = over w.device.now w

  holds_lent : (is_stream : Bool) (w : FileSeen (MutBor O)) (base : List ℕ) (cs : List Chunk) → HoldsBytes is_stream (d.memory w.device.now) (returned w) base cs
      → HoldsBytes is_stream (d.memory w.device.now) w base cs
  holds_lent is_stream w base cs h = record { bytes = h.bytes; held = h.held; file = file_over (returned w) w.device is_stream w.state h.bytes cs h.file }

  holds_returned : (is_stream : Bool) (w : FileSeen (MutBor O)) (base : List ℕ) (cs : List Chunk) → HoldsBytes is_stream (d.memory w.device.now) w base cs
      → HoldsBytes is_stream (d.memory w.device.now) (returned w) base cs
  holds_returned is_stream w base cs h = record { bytes = h.bytes; held = h.held; file = file_over w w.device.now is_stream w.state h.bytes cs h.file }

  took_returned : (v : FileSeen (MutBor O)) (cs : List Chunk) (w : FileSeen (MutBor O)) → TookBlocks (devices.behind d) v cs w → TookBlocks d (returned v) cs (returned w)
  took_returned v cs w h =
      let t = h.takes in
      record {
        state = h.state;
        takes = record {
          same = record { order = t.same.order; fields = t.same.fields; metadata = t.same.metadata; chosen = t.same.chosen; pairs = t.same.pairs; size = t.same.size };
          was = t.was;
          ids = t.ids;
          onward = t.onward;
          more = t.more;
          holds = λ there is_stream base front h. holds_returned is_stream w base _ (t.holds there is_stream base front (holds_lent is_stream v base front h));
          names = same_behind d v.device w.device t.names;
        };
      }

  -- From here on `out` is the reference.
  module _ (out : MutBor O) where
    begins_returned : (order : _) (fs es is ps : _) (w : FileSeen (MutBor O)) → BeginsFile (devices.behind d) out order fs es is ps w → BeginsFile d out.now order fs es is ps (returned w)
    begins_returned order fs es is ps w h = record {
      state = h.state;
      order_is = h.order_is;
      fields_are = h.fields_are;
      metadata_are = h.metadata_are;
      ids_are = h.ids_are;
      pairs_are = h.pairs_are;
      agrees = λ there. holds_returned true w (before (d.memory out.now)) [] (h.agrees there);
      names = same_behind d out w.device h.names;
    }

    -- What isn't written as a file to the one isn't to the other.
    refuses_as_file : (order pairs : _) (first : List Chunk → Type 0) (schema : _) (e : Fault) → AsFileCause (devices.behind d) out order pairs first schema e
        → AsFileCause d out.now order pairs first schema e
    refuses_as_file order pairs first schema e (inl begin) = inl begin
    refuses_as_file order pairs first schema e (inr (inl (inl one))) = inr (inl (inl (record {
      before = one.before;
      columns = one.columns;
      is_next = one.is_next;
      missed = record {
        begun = returned one.missed.begun;
        is = begins_returned order schema.fields schema.metadata schema.ids pairs one.missed.begun one.missed.is;
        writer = returned one.missed.writer;
        took = took_returned one.missed.begun one.before one.missed.writer one.missed.took;
        refused = exactly_over one.missed.writer one.missed.writer.device.now one.columns e one.missed.refused;
        named = one.missed.named;
      };
    })))
    refuses_as_file order pairs first schema e (inr (inl (inr many))) = inr (inl (inr many))
    refuses_as_file order pairs first schema e (inr (inr end)) = inr (inr (record {
      chunks = end.chunks;
      are_first = end.are_first;
      begun = returned end.begun;
      is = begins_returned order schema.fields schema.metadata schema.ids pairs end.begun end.is;
      writer = returned end.writer;
      took = took_returned end.begun end.chunks end.writer end.took;
      refused = finish_over end.writer end.writer.device.now e end.refused;
    }))

    pub stream_not_filed : (order : _) (bytes : List ℕ) (e : Fault) → CopyStreamCause (AsFileCause (devices.behind d) out order []) bytes e → CopyStreamCause (AsFileCause d out.now order []) bytes e
    stream_not_filed order bytes e h =
        copies_no_stream (AsFileCause (devices.behind d) out order []) (AsFileCause d out.now order []) bytes e (λ first schema. refuses_as_file order [] first schema e) h

    pub file_not_filed : (order : _) (bytes : List ℕ) (e : Fault) → CopyFileCause (λ first schema pairs fault. AsFileCause (devices.behind d) out order pairs first schema fault) bytes e
        → CopyFileCause (λ first schema pairs fault. AsFileCause d out.now order pairs first schema fault) bytes e
    file_not_filed order bytes e h =
        copies_no_file (λ first schema pairs fault. AsFileCause (devices.behind d) out order pairs first schema fault) (λ first schema pairs fault. AsFileCause d out.now order pairs first schema fault) bytes e
        (λ first schema pairs. refuses_as_file order pairs first schema e) h
