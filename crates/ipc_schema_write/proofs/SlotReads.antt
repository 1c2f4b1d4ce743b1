-- What the readers of fields give if a message has a table.
use Rattle.std.proofs.Common.{◌≡◌, ℕ, ◌+◌, ◌<◌, ◌≤◌, Bool, true, false, List, Some, None, Result, Ok, refl, ap, ◌∙◌, arith}
use Rattle.std.proofs.lemmas.Bool.Decides.{nat_tests}
use Rattle.ipc_devices.specs.declared.fault.TableFault.{TableFault}
use Rattle.ipc_table_views.specs.Spot.{Spot}
use Rattle.ipc_table_views.specs.Tables.{and_then, flag, map_ok, number_at, number_slot, of_slot, or_default, slot_at, spot_at, table_slot, target_at, union_slot}
use Rattle.ipc_table_bytes.specs.Holds.{HoldsPart, spot}
use Rattle.ipc_table_bytes.specs.Tree.{Slots, table}
use Rattle.ipc_tables.specs.Slots.{bit}

-- A field that is a number.
pub number-read : (w d : ℕ) (m : List ℕ) (p i q x : ℕ) → slot_at m p i ≡ Ok (Some q) → number_at w m q ≡ Ok x → number_slot w d m p i ≡ Ok x
number-read w d m p i q x e f = ap (λ s. or_default d (of_slot s (number_at w m))) e ∙ ap (λ r. or_default d (map_ok Some r)) f

-- A field that is an offset, for any reader of what it leads to.
pub offset-read : {T : Type 0} (m : List ℕ) (p i q t : ℕ) (read : ℕ → Result T TableFault) (x : T) → slot_at m p i ≡ Ok (Some q) → target_at m q ≡ Ok t → read t ≡ Ok x
    → of_slot (slot_at m p i) (λ k. and_then (target_at m k) read) ≡ Ok (Some x)
offset-read m p i q t read x e f g =
    ap (λ s. of_slot s (λ k. and_then (target_at m k) read)) e ∙ ap (λ r. map_ok Some (and_then r read)) f ∙ ap (map_ok Some) g

-- An absent field.
pub absent-read : {T : Type 0} (m : List ℕ) (p i : ℕ) (read : ℕ → Result T TableFault) → slot_at m p i ≡ Ok None → of_slot (slot_at m p i) read ≡ Ok None
absent-read m p i read e = ap (λ s. of_slot s read) e

-- the tag and the table of a union
pub union-read : (last : ℕ) (m : List ℕ) (p i tag : ℕ) (t : Spot) → number_slot 1 0 m p i ≡ Ok tag → 0 < tag → tag ≤ last → table_slot m p (i + 1) ≡ Ok (Some t)
    → union_slot last m p i ≡ Ok (Some (tag, t))
union-read last m p i tag t e h k f = grind (arith, nat_tests)

pub flag-bit : (b : Bool) → flag (bit b) ≡ b
flag-bit true = refl
flag-bit false = refl

-- A table of a message can be opened.
pub spot-held : (m : List ℕ) (t : ℕ) (slots : Slots) → HoldsPart m t (table slots) → spot_at m t ≡ Ok (spot m t)
unfolding spot_at
spot-held m t slots (v, size, opened, sized, held) = ap (map_ok (λ _. spot m t)) opened
