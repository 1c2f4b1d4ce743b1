-- The footer of a file in memory, read from where the file begins.
use Rattle.std.proofs.Common.{◌≡◌, ℕ, ◌+◌, ◌-◌, ◌≤◌, List, length, take, drop, Option, Result, Ok, Err, None, Some, sym, ap, ◌∙◌, subst, arith}
use Rattle.std.proofs.lemmas.List.{length-drop}
use Rattle.ipc_devices.proofs.Claims.{claims_through}
use Rattle.ipc_devices.specs.Device.{Memory, after}
use Rattle.ipc_devices.specs.Faults.{OwnFault}
use Rattle.ipc_devices.specs.declared.fault.Fault.{Fault}
use Rattle.ipc_table_views.specs.Tables.{root_at}
use Rattle.ipc_model.specs.Files.{FileMetadata as Meaning, footer_at, last, magic, metadata_of}
use Rattle.ipc_model.specs.Schemas.{made, given}
use Rattle.ipc_files.specs.declared.read.file.metadata.FileMetadata.{FileMetadata}
use Rattle.ipc_files.specs.Files.{GivesFooter, GivesTail, footer_bytes, footer_length, metadata_from}
use Rattle.ipc_files.specs.Footers.{GivesPart, file_seen}
use Rattle.ipc_files.proofs.Tails.{beginning_law, footer-is, metadata-is, no-metadata, other-head, other-tail}

pub from-place : (m m' : Memory) → m' ≡ m → after m' ≡ drop m.place m.whole
from-place m m' same = ap after same

pub refused-head : (m m' : Memory) (e : Fault) → m' ≡ m → OwnFault e (take 6 (after m') ≡ magic → ⊥)
    → OwnFault e (footer_bytes m.place m.whole ≡ None)
refused-head m m' e same h =
    claims_through e _ _ (λ other. other-head m.place m.whole (λ front. other (ap (λ xs. take 6 xs) (from-place m m' same) ∙ front))) h

pub refused-tail : (start : ℕ) (whole whole' : List ℕ) (e : Fault) → whole' ≡ whole → GivesTail whole' (Err e) → OwnFault e (footer_bytes start whole ≡ None)
refused-tail start whole whole' e same h = claims_through e _ _ (other-tail start whole) (subst (λ w. GivesTail w (Err e)) same h)

-- where the footer begins
pub sits : (whole : List ℕ) (m : Memory) (end n : ℕ) → m.whole ≡ whole → m.place ≡ end - 10 - n → end ≡ length whole → n + 10 ≤ length whole
    → after m ≡ last (n + 10) whole
sits whole m end n same at is fits =
    let e : m.place ≡ length whole - (n + 10) = omega (arith, at, is, fits) in
    ap (λ xs. drop m.place xs) same ∙ ap (λ k. drop k whole) e

-- A footer whose length is stated is present.
pub refused-footer : (whole : List ℕ) (m : Memory) (end n : ℕ) (e : Fault) → m.whole ≡ whole → m.place ≡ end - 10 - n → end ≡ length whole → n + 10 ≤ length whole
    → OwnFault e (n ≤ length (after m) → ⊥) → OwnFault e ⊥
refused-footer whole m end n e same at is fits h =
    let long : n ≤ length (after m) = omega (arith, ap length (sits whole m end n same at is fits), length-drop (length whole - (n + 10)) whole, fits) in
    claims_through e _ _ (λ short. short long) h

pub read-footer : (start : ℕ) (whole footer : List ℕ) (m : Memory) (end n : ℕ) → take 6 (drop start whole) ≡ magic → m.whole ≡ whole → m.place ≡ end - 10 - n → end ≡ length whole → n + 10 ≤ length whole
    → footer_length (last 10 whole) ≡ Ok n → footer ≡ take n (after m) → footer_bytes start whole ≡ Some footer
read-footer start whole footer m end n head same at is fits stated bytes =
    let b : footer ≡ take n (last (n + 10) whole) = bytes ∙ ap (λ xs. take n xs) (sits whole m end n same at is fits) in
    footer-is start whole n head fits stated ∙ ap Some (sym b)

-- ---- the metadata of the file

pub given-nothing : (r : Result FileMetadata Fault) (start : ℕ) (whole : List ℕ) (e : Fault) → r ≡ Err e → GivesFooter start whole (Err e) → GivesPart file_seen r (metadata_from start whole)
given-nothing r start whole e is h =
    rw is (claims_through e _ (metadata_from start whole ≡ None) (λ x. no-metadata start whole x.0) h)

pub given-metadata : (r : Result FileMetadata Fault) (start : ℕ) (whole footer : List ℕ) (size : ℕ) → footer_bytes start whole ≡ Some footer → size ≡ length whole - start
    → GivesPart file_seen r (given (made (root_at footer)) (footer_at size)) → GivesPart file_seen r (metadata_from start whole)
given-metadata r start whole footer size is long h =
    subst (λ (o : Option Meaning). GivesPart file_seen r o) (sym (metadata-is start whole footer size is long)) h

-- What holds of a file that begins at any offset holds of one that begins with the device.
pub from-beginning : (r : Result FileMetadata Fault) (start : ℕ) (whole : List ℕ) → start ≡ 0 → GivesPart file_seen r (metadata_from start whole) → GivesPart file_seen r (metadata_of whole)
from-beginning r start whole at h =
    subst (λ (o : Option Meaning). GivesPart file_seen r o) (ap (λ (n : ℕ). metadata_from n whole) at ∙ beginning_law whole) h
