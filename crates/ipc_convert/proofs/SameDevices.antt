-- The devices that a copy returns are those that it was given, and what is known of their flushes.
use Rattle.std.proofs.Common.{◌≡◌, ℕ, IsTrue, List, Result, Ok, IfOk, ap, sym, subst, ◌∙◌}
use Rattle.ipc_devices.specs.Device.{Device}
use Rattle.ipc_devices.specs.Gives.{Gives, GivesNames}
use Rattle.ipc_devices.specs.declared.fault.Fault.{Fault}
use Rattle.ipc_write.specs.Writers.{WriterSeen}
use Rattle.ipc_file_readers.specs.Readers.{device_of}
use Rattle.ipc_file_readers.specs.declared.read.reader.state.FileReader.{FileReader}
use Rattle.ipc_file_write.specs.FileWriters.{seen}
use Rattle.ipc_file_write.specs.declared.file.FileWriter.{FileWriter}
use Rattle.ipc_convert.specs.Chunks.{Copied, Moved}
use Rattle.ipc_convert.specs.Copies.{TakesStream}
use Rattle.ipc_convert.specs.Sinks.{FileTook}
use Rattle.ipc_convert.specs.Sources.{FileCame, FileStopped}
use Rattle.ipc_convert.specs.Steps.{EndsAsSource, EndsCopy}
use Rattle.ipc_convert.specs.declared.chunks.Ending.{Ending}
use Rattle.ipc_convert.specs.declared.chunks.Ending.TheVariants.{Over, Waits}

-- ---- what is read

-- A stream that was read to its end.
pub takes_named : {R : Type 0} (gives : Gives R) (names : R → List ℕ) → GivesNames gives names → (a b : R) → TakesStream gives a b → names b ≡ names a
takes_named gives names law a b h = law a h.bytes h.stop b h.gave

-- A file whose chunks were copied, whatever the sink.
pub source_named : {F T : Type 0} (d : Device F) (took : Moved T) (a b : FileReader F) (v w : T) (ending : Ending) → Copied (FileCame d) (FileStopped d) took a v ending b w
    → d.names (device_of b) ≡ d.names (device_of a)
source_named d took a b v w ending copied = copied.stops.2 ∙ copied.handed.came_all.names

-- The same where the copy was Ok with this end.
pub source_named_so : {F W : Type 0} (d : Device F) (to : Device W) (a b : FileReader F) (v w : FileWriter W) (copied : Result Ending Fault) (ending : Ending) → copied ≡ Ok ending
    → IfOk copied (λ e. Copied (FileCame d) (FileStopped d) (FileTook to) a v e b w) → d.names (device_of b) ≡ d.names (device_of a)
source_named_so d to a b v w copied ending is all =
    source_named d (FileTook to) a b v w ending (subst (λ (r : Result Ending Fault). IfOk r (λ e. Copied (FileCame d) (FileStopped d) (FileTook to) a v e b w)) is all)

-- ---- what is written

-- A stream that was ended like its source.
pub ended_named : {W : Type 0} (d : Device W) (ending : Ending) (a b : WriterSeen W) → EndsAsSource d ending a b → d.names b.device ≡ d.names a.device
ended_named {W = W} d Waits a b same = ap (λ (w : WriterSeen W). d.names w.device) same
ended_named d Over a b ends = ends.2

-- A file to which the chunks were written and that was finished.
pub file_named : {S W : Type 0} (d : Device W) (came : Moved S) (stopped : S → Ending → S → Type 0) (a b : S) (v w x : FileWriter W) (copied : Result Ending Fault) (ending : Ending)
    → IfOk copied (λ e. Copied came stopped (FileTook d) a v e b w) → EndsCopy d copied ending (seen w) (seen x) → d.names (seen x).device ≡ d.names (seen v).device
file_named d came stopped a b v w x copied ending all ends =
    let done : Copied came stopped (FileTook d) a v ending b w = subst (λ (r : Result Ending Fault). IfOk r (λ e. Copied came stopped (FileTook d) a v e b w)) ends.all all in
    ends.sends.step.names ∙ done.handed.took_all.takes.names

-- ---- what is flushed

-- A device that was flushed before it was returned.
pub still_flushed : {W : Type 0} (d : Device W) (a b : W) → b ≡ a → IsTrue (d.is_flushed a) → IsTrue (d.is_flushed b)
still_flushed {W = W} d a b same h = subst (λ (w : W). IsTrue (d.is_flushed w)) (sym same) h

-- A stream whose source ended.
pub ended_flushed : {W : Type 0} (d : Device W) (ending : Ending) (a b : WriterSeen W) → ending ≡ Over → EndsAsSource d ending a b → IsTrue (d.is_flushed b.device)
ended_flushed d Waits a b is ends = (let no : Waits ≡ Over = is in absurd cc)
ended_flushed d Over a b is ends = ends.3

-- The source of chunks that were copied from a file has ended.
pub source_over : {F T : Type 0} (d : Device F) (took : Moved T) (a b : FileReader F) (v w : T) (ending : Ending) → Copied (FileCame d) (FileStopped d) took a v ending b w → ending ≡ Over
source_over d took a b v w ending copied = copied.stops.0
