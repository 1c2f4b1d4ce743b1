-- A table is in the same message as what leads to it.
use Rattle.std.proofs.Common.{◌≡◌, ℕ, ◌+◌, Bool, true, false, cond, List, Option, Some, None, Result, Ok, Err, nat_eq, nat_lt, refl, ap, sym, ◌∙◌}
use Rattle.ipc_devices.specs.declared.fault.TableFault.{TableFault}
use Rattle.ipc_devices.specs.declared.fault.TableFault.TheVariants.{UnknownTag}
use Rattle.ipc_table_views.specs.Spot.{Spot}
use Rattle.ipc_table_views.specs.MessageSlots.{message_header}
use Rattle.ipc_table_views.specs.Tables.{Opened, and_then, map_ok, number_at, number_slot, of_slot, present, root_at, slot_at, spot_at, table_at, table_slot, target_at, union_slot}

then-ok : {A B : Type 0} (r : Result A TableFault) (f : A → Result B TableFault) (y : B) → and_then r f ≡ Ok y → (x : A) × (f x ≡ Ok y)
then-ok (Ok x) f y e = (x, e)
then-ok (Err d) f y e = cc

spot-message : (m : List ℕ) (p : ℕ) (t : Spot) → spot_at m p ≡ Ok t → t.message ≡ m
unfolding spot_at
spot-message m p t e = at (table_at m p) e
  where
    at : (r : Result Opened TableFault) → map_ok (λ _. record { message = m; place = p }) r ≡ Ok t → t.message ≡ m
    at (Ok x) e = let same : ◌≡◌ {A = Spot} (record { message = m; place = p }) t = cc in sym (ap (λ (s : Spot). s.message) same)
    at (Err d) e = cc

pub root-message : (m : List ℕ) (t : Spot) → root_at m ≡ Ok t → t.message ≡ m
root-message m t e = let (p, is) = then-ok (number_at 4 m 0) (spot_at m) t e in spot-message m p t is

slot-message : (m : List ℕ) (p i : ℕ) (t : Spot) → table_slot m p i ≡ Ok (Some t) → t.message ≡ m
slot-message m p i t e = at (slot_at m p i) e
  where
    led : (q : ℕ) (r : Result Spot TableFault) → and_then (target_at m q) (spot_at m) ≡ r → map_ok Some r ≡ Ok (Some t) → t.message ≡ m
    led q (Ok x) is e =
        let same : x ≡ t = cc in
        let (k, at_k) = then-ok (target_at m q) (spot_at m) x is in
        ap (λ (s : Spot). s.message) (sym same) ∙ spot-message m k x at_k
    led q (Err d) is e = cc

    at : (s : Result (Option ℕ) TableFault) → of_slot s (λ q. and_then (target_at m q) (spot_at m)) ≡ Ok (Some t) → t.message ≡ m
    at (Ok None) e = cc
    at (Ok (Some q)) e = led q (and_then (target_at m q) (spot_at m)) refl e
    at (Err d) e = cc

union-message : (last : ℕ) (m : List ℕ) (p i tag : ℕ) (t : Spot) → union_slot last m p i ≡ Ok (Some (tag, t)) → t.message ≡ m
union-message last m p i tag t e =
    let (n, is) = then-ok (number_slot 1 0 m p i) _ (Some (tag, t)) e in at n (nat_eq n 0) (nat_lt last n) (table_slot m p (i + 1)) refl is
  where
    at : (n : ℕ) (none unknown : Bool) (r : Result (Option Spot) TableFault) → table_slot m p (i + 1) ≡ r
        → cond {A = Result (Option (ℕ × Spot)) TableFault} none (Ok None) (cond {A = Result (Option (ℕ × Spot)) TableFault} unknown (Err UnknownTag) (map_ok (λ t. Some (n, t)) (and_then r present))) ≡ Ok (Some (tag, t)) → t.message ≡ m
    at n true unknown r is e = cc
    at n false true r is e = cc
    at n false false (Ok None) is e = cc
    at n false false (Ok (Some x)) is e = let same : ◌≡◌ {A = ℕ × Spot} (n, x) (tag, t) = cc in ap (λ (s : ℕ × Spot). s.1.message) (sym same) ∙ slot-message m p (i + 1) x is
    at n false false (Err d) is e = cc

-- The header of a message is in the message.
pub header-message : (t : Spot) (tag : ℕ) (s : Spot) → message_header t ≡ Ok (Some (tag, s)) → s.message ≡ t.message
header-message t tag s e = union-message 5 t.message t.place 1 tag s e
