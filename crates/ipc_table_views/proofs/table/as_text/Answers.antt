-- The test `is_utf8` has the result of the call.
use Rattle.std.proofs.Common.{◌≡◌, ℕ, Bool, true, false, List, Ok, Err, refl}
use Rattle.std.proofs.lemmas.Str.{IsUtf8-from_is_utf8, is_utf8-from_IsUtf8}
use Rattle.std.specs.Str.{IsUtf8, is_utf8}
use Rattle.ipc_devices.specs.declared.fault.TableFault.TheVariants.{Utf8}
use Rattle.ipc_table_views.specs.Tables.{as_text}
use Rattle.ipc_table_views.proofs.table.as_text.Goals as goal

as_text-ok : (bytes : List ℕ) → IsUtf8 bytes → Ok bytes ≡ as_text bytes
as_text-ok bytes h = rw (is_utf8-from_IsUtf8 bytes h) refl

refused : (bytes : List ℕ) (b : Bool) → is_utf8 bytes ≡ b → ¬ (IsUtf8 bytes) → b ≡ false
refused bytes true e h = absurd (h (IsUtf8-from_is_utf8 bytes e))
refused bytes false e h = refl

as_text-err : (bytes : List ℕ) → ¬ (IsUtf8 bytes) → Err Utf8 ≡ as_text bytes
as_text-err bytes h = rw (refused bytes (is_utf8 bytes) refl h) refl

pub returns-in-Ok : goal.returns-in-Ok
returns-in-Ok c = rw (c.in-Ok.ensures.0) (as_text-ok _ c.in-Ok.ensures.1)

pub returns-in-Err : goal.returns-in-Err
returns-in-Err c = as_text-err _ c.in-Err.ensures
