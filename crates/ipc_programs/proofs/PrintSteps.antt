-- Bytes that are printed, one call after the other.
use Rattle.std.specs.Prelude.{IfOk, OnOk}
use Rattle.std.proofs.Common.{◌≡◌, inl, inr, ℕ, ◌+◌, ◌≤◌, IsTrue, List, [], ◌++◌, Result, Ok, Err, refl, sym, ap, ◌∙◌, subst, append_assoc, append-nil, arith}
use Rattle.ipc_devices.specs.Device.{Device, Memory, Rises, WritesOver}
use Rattle.ipc_devices.specs.Acts.{IsIoOf}
use Rattle.ipc_devices.specs.declared.fault.Fault.{Fault}
use Rattle.ipc_devices.specs.declared.fault.Fault.TheVariants as faults
use Rattle.ipc_plan.proofs.Sends.{Sent, sends_stop, sends_then, sent_none}
use Rattle.ipc_plan.specs.Sending.{Sends, WritesSome}
use Rattle.ipc_programs.specs.Outputs.{FlushesOutput, WritesOutput, without_room}
use Rattle.ipc_programs.specs.Printing.{PrintsBytes, Printed, PrinterSeen, Prints, PrintsAll, Puts, PutsSeen, SendsKept, SendsSeen, printer_seen}
use Rattle.ipc_programs.specs.declared.cat.output.Output.{Output}
use Rattle.ipc_programs.specs.declared.cat.printer.Printer.{Printer}

-- ---- what is sent

-- The same without the room of a device.
roomless_io : {W : Type 0} (d : Device W) (e : Fault) → IsIoOf d e → IsIoOf (without_room d) e
roomless_io d (faults.Io x) h = h
roomless_io d _ h = absurd h

pub roomless : {X W : Type 0} (d : Device W) (w w' : W) (r : Result X Fault) (bytes : List ℕ) → Sends d bytes w r w'
    → Sends (without_room d) bytes w r w'
roomless d w w' (Ok x) bytes h = record { monotone = h.monotone; failed = tt; only = tt; done = h.done; memory = h.memory; part = h.part; room = omega arith; names = h.names }
roomless d w w' (Err e) bytes h = record {
  monotone = h.monotone;
  failed = elim h.failed [ inl rises ↦ inl rises | inr full ↦ inr (full.0, let low = full.1 in omega (arith, low)) ];
  only = roomless_io d e h.only;
  done = tt;
  memory = λ k. tt;
  part = h.part;
  room = tt;
  names = h.names;
}

-- all was sent, whatever the answer is
sent_so : {X W : Type 0} (d : Device W) (w w' : W) (x : X) (bytes : List ℕ) → Sends d bytes w (Ok x) w' → Sent d w w' bytes
sent_so d w w' x bytes h = record { monotone = h.monotone; failed = tt; only = tt; done = h.done; memory = h.memory; part = h.part; room = h.room; names = h.names }

-- A flush leaves what was sent, also if it fails.
pub then_flushed : {X Y W : Type 0} (d : Device W) (w w' w'' : W) (x : X) (y : Y) (bytes : List ℕ) → Sends d bytes w (Ok x) w' → d.failures w'' ≡ d.failures w'
    → (IsTrue d.is_memory → d.memory w'' ≡ d.memory w') → d.room w' ≤ d.room w'' → d.names w'' ≡ d.names w' → Sends {X = Y} d bytes w (Ok y) w''
then_flushed d w w' w'' x y bytes h well same room names = record {
  monotone = let more = h.monotone in omega (arith, more, well);
  failed = tt;
  only = tt;
  done = well ∙ h.done;
  memory = λ k. subst (λ (m : Memory). WritesOver (d.memory w) m bytes) (sym (same k)) (h.memory k);
  part = λ k. subst (λ (m : Memory). WritesSome (d.memory w) m bytes) (sym (same k)) (h.part k);
  room = let was = h.room in omega (arith, was, room);
  names = names ∙ h.names;
}

pub then_unflushed : {X Y W : Type 0} (d : Device W) (w w' w'' : W) (x : X) (e : Fault) (bytes : List ℕ) → Sends d bytes w (Ok x) w' → d.failures w' ≤ d.failures w''
    → Rises (d.failures w') (d.failures w'') → IsIoOf d e → (IsTrue d.is_memory → d.memory w'' ≡ d.memory w') → d.names w'' ≡ d.names w'
    → Sends {X = Y} d bytes w (Err e) w''
then_unflushed d w w' w'' x e bytes h more rises io same names = record {
  monotone = let was = h.monotone in omega (arith, was, more);
  failed = inl (let was = h.monotone in omega (arith, was, rises));
  only = io;
  done = tt;
  memory = λ k. tt;
  part = λ k. subst (λ (m : Memory). WritesSome (d.memory w) m bytes) (sym (same k)) (h.part k);
  room = tt;
  names = names ∙ h.names;
}

-- ---- one call

module _ {W : Type 0} (d : Device W) where
  -- Many bytes at once, after the buffered bytes.
  pub put_great : (a m b : PrinterSeen W) (r : Result (Unit {0}) Fault) (bytes : List ℕ) → SendsSeen {X = Unit {0}} d a (Ok tt) m → b.name ≡ m.name
      → Sends (without_room d) bytes m.device r b.device → OnOk r (d.failures b.device ≡ d.failures m.device) → b.kept ≡ m.kept → PutsSeen d a r b bytes
  put_great a m b (Ok x) bytes f same sends done kept =
      let none : b.kept ≡ [] = kept ∙ f.none in
      record {
        same = same ∙ f.same;
        sent = a.kept ++ bytes;
        joined = sym (ap (λ (xs : List ℕ). (a.kept ++ bytes) ++ xs) none ∙ append-nil (a.kept ++ bytes));
        sends = sent_so (without_room d) a.device b.device x (a.kept ++ bytes) (sends_then (without_room d) a.device m.device b.device (Ok x) a.kept bytes f.sends sends);
        done = done ∙ f.done;
      }
  put_great a m b (Err e) bytes f same sends done kept = inr (record {
    same = same ∙ f.same;
    none = kept ∙ f.none;
    sends = sends_then (without_room d) a.device m.device b.device (Err e) a.kept bytes f.sends sends;
  })

  -- The buffered bytes couldn't be sent.
  pub put_unsent : (a b : PrinterSeen W) (e : Fault) (bytes : List ℕ) → SendsSeen {X = Unit {0}} d a (Err e) b → PutsSeen {X = Unit {0}} d a (Err e) b bytes
  put_unsent a b e bytes f =
      inr (record { same = f.same; none = f.none; sends = sends_stop {X = Unit {0}} {Y = Unit {0}} (without_room d) a.device b.device e a.kept bytes f.sends })

  -- An allocation failed.
  pub put_refused : (a : PrinterSeen W) (kept bytes : List ℕ) → kept ≡ a.kept → PutsSeen {X = Unit {0}} d a (Err faults.Memory) (record a { kept = kept }) bytes
  put_refused a kept bytes e = inl (
    refl,
    record {
      same = refl;
      sent = [];
      joined = append-nil a.kept ∙ sym e;
      sends = sent_none (without_room d) a.device;
      done = refl;
    },
  )

  -- The bytes are buffered.
  pub put_kept : (a : PrinterSeen W) (kept bytes : List ℕ) → kept ≡ a.kept ++ bytes → PutsSeen {X = Unit {0}} d a (Ok tt) (record a { kept = kept }) bytes
  put_kept a kept bytes e = record {
    same = refl;
    sent = [];
    joined = sym e;
    sends = sent_none (without_room d) a.device;
    done = refl;
  }

  -- The bytes are buffered, and all are sent.
  pub put_filled : (a b : PrinterSeen W) (kept bytes : List ℕ) (r : Result (Unit {0}) Fault) → kept ≡ a.kept ++ bytes → SendsSeen d (record a { kept = kept }) r b
      → PutsSeen d a r b bytes
  put_filled a b kept bytes (Ok x) e h = record {
    same = h.same;
    sent = kept;
    joined = sym e ∙ sym (ap (λ (xs : List ℕ). kept ++ xs) h.none ∙ append-nil kept);
    sends = sent_so (without_room d) a.device b.device x kept h.sends;
    done = h.done;
  }
  put_filled a b kept bytes (Err f) e h = inr (record {
    same = h.same;
    none = h.none;
    sends = subst (λ (xs : List ℕ). Sends {X = Unit {0}} (without_room d) xs a.device (Err f) b.device) e h.sends;
  })

-- ---- calls, one after the other

bytes_then : {W : Type 0} (d : Device W) (a m b : PrinterSeen W) (xs ys : List ℕ) → PrintsBytes d a m xs → PrintsBytes d m b ys → PrintsBytes d a b (xs ++ ys)
bytes_then d a m b xs ys f g = record {
  same = g.same ∙ f.same;
  sent = f.sent ++ g.sent;
  joined = sym (append_assoc a.kept xs ys) ∙ ap (λ (zs : List ℕ). zs ++ ys) f.joined ∙ append_assoc f.sent m.kept ys ∙ ap (λ (zs : List ℕ). f.sent ++ zs) g.joined
      ∙ sym (append_assoc f.sent g.sent b.kept);
  sends = sends_then (without_room d) a.device m.device b.device (Ok tt) f.sent g.sent f.sends g.sends;
  done = g.done ∙ f.done;
}

module _ {W : Type 0} (d : Device W) where
  -- The buffered bytes couldn't be written.
  pub send_unwritten : (a b : Printer W) (bytes : List ℕ) (e : Fault) → bytes ≡ a.kept.items
      → WritesOutput {X = Unit {0}} d a.out (Err e) b.out bytes → b.kept.items ≡ [] → SendsKept {X = Unit {0}} d a (Err e) b
  send_unwritten a b bytes e same wrote none = record {
    same = wrote.same;
    none = none;
    sends = subst (λ (xs : List ℕ). Sends {X = Unit {0}} (without_room d) xs (printer_seen a).device (Err e) (printer_seen b).device) same wrote.sends;
    done = tt;
    flushed = tt;
  }

  -- They were written, and the flush failed.
  pub send_unflushed : (a b : Printer W) (o : Output W) (bytes : List ℕ) (x : Unit {0}) (e : Fault) → bytes ≡ a.kept.items
      → WritesOutput {X = Unit {0}} d a.out (Ok x) o bytes → FlushesOutput {X = Unit {0}} d o (Err e) b.out → b.kept.items ≡ []
      → SendsKept {X = Unit {0}} d a (Err e) b
  send_unflushed a b o bytes x e same wrote flushed none = record {
    same = flushed.same ∙ wrote.same;
    none = none;
    sends = subst (λ (xs : List ℕ). Sends {X = Unit {0}} (without_room d) xs (printer_seen a).device (Err e) (printer_seen b).device) same
        (then_unflushed {X = Unit {0}} {Y = Unit {0}} (without_room d) (printer_seen a).device o.device.now (printer_seen b).device x e bytes
        wrote.sends flushed.monotone flushed.failed (roomless_io d e flushed.only) flushed.memory_is flushed.names);
    done = tt;
    flushed = tt;
  }

  -- They were written and flushed.
  pub send_flushed : (a b : Printer W) (o : Output W) (bytes : List ℕ) (x y : Unit {0}) → bytes ≡ a.kept.items
      → WritesOutput {X = Unit {0}} d a.out (Ok x) o bytes → FlushesOutput {X = Unit {0}} d o (Ok y) b.out → b.kept.items ≡ []
      → SendsKept {X = Unit {0}} d a (Ok tt) b
  send_flushed a b o bytes x y same wrote flushed none = record {
    same = flushed.same ∙ wrote.same;
    none = none;
    sends = subst (λ (xs : List ℕ). Sends {X = Unit {0}} (without_room d) xs (printer_seen a).device (Ok tt) (printer_seen b).device) same
        (then_flushed {X = Unit {0}} {Y = Unit {0}} (without_room d) (printer_seen a).device o.device.now (printer_seen b).device x tt bytes
        wrote.sends flushed.done flushed.memory_is (omega arith) flushed.names);
    done = flushed.done ∙ wrote.done;
    flushed = flushed.flushed;
  }

  pub puts_prints : {X : Type 0} (a b : Printer W) (r : Result X Fault) (bytes : List ℕ) → Puts d a r b bytes
      → OnOk r (Prints d a b)
  puts_prints a b (Ok x) bytes h = record { bytes = bytes; printed = h }
  puts_prints a b (Err e) bytes h = tt

  pub sends_all : {X : Type 0} (a b : Printer W) (r : Result X Fault) → SendsKept d a r b → OnOk r (PrintsAll d a b)
  sends_all a b (Ok x) h = record {
    bytes = [];
    printed = record {
      same = h.same;
      sent = a.kept.items;
      joined = ap (λ (xs : List ℕ). a.kept.items ++ xs) (sym h.none);
      sends = sent_so (without_room d) (printer_seen a).device (printer_seen b).device x a.kept.items h.sends;
      done = h.done;
    };
    none = h.none;
    flushed = h.flushed;
  }
  sends_all a b (Err e) h = tt

module _ {W : Type 0} {d : Device W} where
  pub nothing_printed : (a : Printer W) → Prints d a a
  nothing_printed a = record {
    bytes = [];
    printed = record {
      same = refl;
      sent = [];
      joined = append-nil a.kept.items;
      sends = sent_none (without_room d) (printer_seen a).device;
      done = refl;
    };
  }

  pub prints_then : {a m b : Printer W} → Prints d a m → Prints d m b → Prints d a b
  prints_then {a = a} {m = m} {b = b} f g = record {
    bytes = f.bytes ++ g.bytes;
    printed = bytes_then d (printer_seen a) (printer_seen m) (printer_seen b) f.bytes g.bytes f.printed g.printed;
  }

  -- before a last call
  pub prints_last : {X : Type 0} {a m : Printer W} (b : Printer W) (r : Result X Fault) → Prints d a m → OnOk r (Prints d m b)
      → OnOk r (Prints d a b)
  prints_last b (Ok x) f g = prints_then f g
  prints_last b (Err e) f g = tt

  pub all_last : {X : Type 0} {a m : Printer W} (b : Printer W) (r : Result X Fault) → Prints d a m → OnOk r (PrintsAll d m b)
      → OnOk r (PrintsAll d a b)
  all_last {m = m} b (Ok x) f g =
      let rest : Prints d m b = record { bytes = g.bytes; printed = g.printed } in
      let both = prints_then f rest in
      record { bytes = both.bytes; printed = both.printed; none = g.none; flushed = g.flushed }
  all_last b (Err e) f g = tt

  pub all_prints : {a b : Printer W} → PrintsAll d a b → Prints d a b
  all_prints h = record { bytes = h.bytes; printed = h.printed }

module _ {W : Type 0} (d : Device W) where
  -- All that was shown is sent if the result is Ok.
  pub shown_sent : {X : Type 0} (a m b : Printer W) (shown r : Result X Fault) → IfOk r (λ x. shown ≡ Ok x) → OnOk shown (Prints d a m)
      → OnOk r (PrintsAll d m b) → OnOk r (PrintsAll d a b)
  shown_sent a m b shown (Err e) same f g = tt
  shown_sent a m b (Ok y) (Ok x) same f g = all_last b (Ok x) f g
  shown_sent a m b (Err e) (Ok x) same f g = absurd cc

  -- What a printer wrote to the device that it borrowed.
  pub all_printed : {X : Type 0} (a b : Printer W) (old new : W) (r : Result X Fault) → a.out.device.now ≡ old → b.out.device.now ≡ new → OnOk r (PrintsAll d a b)
      → OnOk r (Printed d old new)
  all_printed a b old new (Ok x) first last h =
      rw (sym first, sym last) (record { bytes = h.printed.sent; written = λ k. h.printed.sends.memory k; done = h.printed.done; flushed = h.flushed })
  all_printed a b old new (Err e) first last h = tt
