-- The chunks that lists of writes wrote.
use Rattle.std.proofs.Common.{◌≡◌, List, [], ◌∷◌, ◌++◌, length, Result, Ok, Err, Vec, refl, sym, ap, ◌∙◌, arith, append-nil, append_assoc}
use Rattle.std.specs.declared.alloc.Global.{Global}
use Rattle.lower_arrays.specs.declared.array.AnyArray.{AnyArray}
use Rattle.ipc_devices.specs.declared.fault.Fault.{Fault}
use Rattle.ipc_model.specs.Batches.{Chunk}
use Rattle.ipc_sessions.specs.Sessions.{all_taken_of, taken_of}

pub taken_one : (c : List AnyArray) (cs : List (List AnyArray)) (r : Result (Unit {0}) Fault) (rs : List (Result (Unit {0}) Fault)) → taken_of (c ∷ cs) (r ∷ rs) ≡ taken_of (c ∷ []) (r ∷ []) ++ taken_of cs rs
taken_one c cs (Ok x) rs = refl
taken_one c cs (Err e) rs = refl

-- one session more
pub all_taken_more : (cs : List (Vec (List AnyArray) Global)) (c : Vec (List AnyArray) Global) (rs : List (Vec (Result (Unit {0}) Fault) Global)) (r : Vec (Result (Unit {0}) Fault) Global) → length cs ≡ length rs
    → all_taken_of (cs ++ c ∷ []) (rs ++ r ∷ []) ≡ all_taken_of cs rs ++ taken_of c.items r.items
all_taken_more [] c [] r e = append-nil (taken_of c.items r.items)
all_taken_more [] c (q ∷ rs) r e = absurd (omega (arith, e))
all_taken_more (d ∷ cs) c [] r e = absurd (omega (arith, e))
all_taken_more (d ∷ cs) c (q ∷ rs) r e =
    ap (λ (xs : List Chunk). taken_of d.items q.items ++ xs) (all_taken_more cs c rs r (omega (arith, e))) ∙ sym (append_assoc (taken_of d.items q.items) (all_taken_of cs rs) (taken_of c.items r.items))
