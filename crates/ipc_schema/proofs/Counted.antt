-- The visits that are counted if a schema is refused.
use Rattle.std.proofs.Common.{◌≡◌, ℕ, ◌+◌, ◌<◌, ◌≤◌, Bool, true, false, cond, nat_le, List, length, take, drop, Option, Some, Result, Ok, Err, refl, arith}
use Rattle.std.specs.Prelude.{IfSome}
use Rattle.std.proofs.lemmas.Bool.{leb-true}
use Rattle.ipc_devices.proofs.Claims.{claimed}
use Rattle.ipc_devices.specs.declared.fault.Fault.{Fault}
use Rattle.ipc_devices.specs.declared.fault.TableFault.{TableFault}
use Rattle.ipc_devices.specs.declared.fault.TableFault.TheVariants.{Outside}
use Rattle.ipc_table_views.specs.SchemaSlots.{schema_fields}
use Rattle.ipc_table_views.specs.Spot.{Spot, Vector}
use Rattle.ipc_table_views.specs.Tables.{and_then, before, bytes_at, map_ok, number_at, of_slot, open_vtable, slot_at, table_at, target_at, vector_at, vtable_at}
use Rattle.ipc_model.proofs.Given.{if-some}
use Rattle.ipc_schema.specs.Reading.{CountsRefused}

then-ok : {A B : Type 0} (r : Result A TableFault) (f : A → Result B TableFault) (y : B) → and_then r f ≡ Ok y → (x : A) × (r ≡ Ok x)
then-ok (Ok x) f y e = (x, refl)
then-ok (Err d) f y e = cc

mapped-ok : {A B : Type 0} (f : A → B) (r : Result A TableFault) (y : B) → map_ok f r ≡ Ok y → (x : A) × (r ≡ Ok x)
mapped-ok f (Ok x) y e = (x, refl)
mapped-ok f (Err d) y e = cc

slot-there : {A : Type 0} (s : Result (Option ℕ) TableFault) (read : ℕ → Result A TableFault) (y : A) → of_slot s read ≡ Ok (Some y) → (o : Option ℕ) × (s ≡ Ok o)
slot-there (Ok o) read y e = (o, refl)
slot-there (Err d) read y e = cc

bytes-long : (m : List ℕ) (p : ℕ) (bytes : List ℕ) → bytes_at 4 m p ≡ Ok bytes → 0 < length m
bytes-long m p bytes e = at (nat_le (p + 4) (length m)) refl e
  where
    at : (b : Bool) → nat_le (p + 4) (length m) ≡ b → cond {A = Result (List ℕ) TableFault} b (Ok (take 4 (drop p m))) (Err Outside) ≡ Ok bytes → 0 < length m
    at true is e = let inside : p + 4 ≤ length m = leb-true (p + 4) (length m) is in omega (arith, inside)
    at false is e = cc

number-long : (m : List ℕ) (p n : ℕ) → number_at 4 m p ≡ Ok n → 0 < length m
unfolding number_at
number-long m p n e = let (bytes, is) = mapped-ok _ (bytes_at 4 m p) n e in bytes-long m p bytes is

table-long : (m : List ℕ) (p : ℕ) (x : ℕ × ℕ) → table_at m p ≡ Ok x → 0 < length m
unfolding table_at
table-long m p x e =
    let (v, v_is) = then-ok (vtable_at m p) (open_vtable m) x e in
    let (n, n_is) = then-ok (number_at 4 m p) (before p) v v_is in
    number-long m p n n_is

slot-long : (m : List ℕ) (p i : ℕ) (o : Option ℕ) → slot_at m p i ≡ Ok o → 0 < length m
unfolding slot_at
slot-long m p i o e = let (x, x_is) = then-ok (table_at m p) _ o e in table-long m p x x_is

-- a message with a schema that has fields has bytes
pub fields-long : (t : Spot) (v : Vector) → schema_fields t ≡ Ok (Some v) → 0 < length t.message
fields-long t v e =
    let (o, o_is) = slot-there (slot_at t.message t.place 1) (λ q. and_then (target_at t.message q) (vector_at 4 t.message)) v e in
    slot-long t.message t.place 1 o o_is

-- The visits that were counted are those that a refusal must count.
pub counts-refused : (e : Fault) (fields : Option Vector) (before after : ℕ) → before < after → CountsRefused e fields before after
counts-refused e fields before after h = claimed e (IfSome fields (λ _. before < after)) (if-some fields (λ _. before < after) (λ v is. h))
