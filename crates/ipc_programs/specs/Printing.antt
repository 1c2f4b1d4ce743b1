-- What becomes of the bytes that are printed: they are sent in the order in which they came, and
-- those that aren't sent yet are buffered.
use Rattle.std.specs.Prelude.{◌≡◌, ◌⊎◌, ℕ, IsTrue, List, [], ◌++◌, Result, Ok, Err, OnOk}
use Rattle.ipc_devices.specs.Device.{Device, WritesOver}
use Rattle.ipc_devices.specs.declared.fault.Fault.{Fault}
use Rattle.ipc_devices.specs.declared.fault.Fault.TheVariants as faults
use Rattle.ipc_plan.specs.Sending.{Sends}
use Rattle.ipc_programs.specs.Outputs.{without_room}
use Rattle.ipc_programs.specs.declared.cat.printer.Printer.{Printer}

-- What contracts know of a printer: the name of its reference to the device, the device, and the
-- buffered bytes.
pub record PrinterSeen (W : Type 0) : Type 0 where
  pub name : ℕ
  pub device : W
  pub kept : List ℕ

-- What contracts know of a printer.
abbrev pub printer_seen : {W : Type 0} → Printer W → PrinterSeen W
printer_seen printer = record {
  name = printer.out.device.ghost_name;
  device = printer.out.device.now;
  kept = printer.kept.items;
}

-- These bytes were printed, and no call of the device failed: the bytes buffered before and these
-- are those sent now and those still buffered, in order.
pub record PrintsBytes {W : Type 0} (d : Device W) (a b : PrinterSeen W) (bytes : List ℕ) : Type 0 where
  pub same : b.name ≡ a.name
  pub sent : List ℕ
  pub joined : a.kept ++ bytes ≡ sent ++ b.kept
  pub sends : Sends {X = Unit {0}} (without_room d) sent a.device (Ok tt) b.device
  pub done : d.failures b.device ≡ d.failures a.device

-- The device failed while these bytes were printed. A first part of the buffered bytes and of these
-- was sent, in order. Nothing is buffered afterwards, so that nothing is sent twice.
pub record StopsPrinting {W : Type 0} (d : Device W) (a b : PrinterSeen W) (bytes : List ℕ) (e : Fault) : Type 0 where
  pub same : b.name ≡ a.name
  pub none : b.kept ≡ []
  pub sends : Sends {X = Unit {0}} (without_room d) (a.kept ++ bytes) a.device (Err e) b.device

-- A call that prints these bytes: if an allocation for them fails, it changes nothing.
-- A call of a printer that prints these bytes.
abbrev pub PutsSeen : {W X : Type 0} → Device W → PrinterSeen W → Result X Fault → PrinterSeen W → List ℕ → Type 0
PutsSeen d a (Ok x) b bytes = PrintsBytes d a b bytes
PutsSeen d a (Err e) b bytes = ((e ≡ faults.Memory) × PrintsBytes d a b []) ⊎ StopsPrinting d a b bytes e

-- A call sends all buffered bytes, and flushes the device. Nothing is buffered
-- afterwards, also if it failed.
pub record SendsSeen {W X : Type 0} (d : Device W) (a : PrinterSeen W) (r : Result X Fault) (b : PrinterSeen W) : Type 0 where
  pub same : b.name ≡ a.name
  pub none : b.kept ≡ []
  pub sends : Sends (without_room d) a.kept a.device r b.device
  pub done : OnOk r (d.failures b.device ≡ d.failures a.device)
  pub flushed : OnOk r (IsTrue (d.is_flushed b.device))

module _ {W : Type 0} (d : Device W) where
  -- Some bytes were printed.
  pub record Prints (a b : Printer W) : Type 0 where
    pub bytes : List ℕ
    pub printed : PrintsBytes d (printer_seen a) (printer_seen b) bytes

  -- Some bytes were printed, and all buffered bytes were sent and flushed.
  pub record PrintsAll (a b : Printer W) : Type 0 where
    pub bytes : List ℕ
    pub printed : PrintsBytes d (printer_seen a) (printer_seen b) bytes
    pub none : b.kept.items ≡ []
    pub flushed : IsTrue (d.is_flushed b.out.device.now)

  -- All bytes that were printed were written to a device and flushed, and no call of it failed.
  pub record Printed (a b : W) : Type 0 where
    pub bytes : List ℕ
    pub written : IsTrue d.is_memory → WritesOver (d.memory a) (d.memory b) bytes
    pub done : d.failures b ≡ d.failures a
    pub flushed : IsTrue (d.is_flushed b)

abbrev pub Puts : {W X : Type 0} → Device W → Printer W → Result X Fault → Printer W → List ℕ → Type 0
Puts d a r b bytes = PutsSeen d (printer_seen a) r (printer_seen b) bytes

-- A call of a printer that sends all buffered bytes.
abbrev pub SendsKept : {W X : Type 0} → Device W → Printer W → Result X Fault → Printer W → Type 0
SendsKept d a r b = SendsSeen d (printer_seen a) r (printer_seen b)
