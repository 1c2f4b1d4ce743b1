-- Columns that are read one after another.
use Rattle.std.proofs.Common.{◌≡◌, ℕ, ℤ, Option, List, [], ◌∷◌, ◌++◌, sym, subst, append_assoc, append-nil, inl, inr}
use Rattle.lower.specs.TypeTrees.{FieldTrees}
use Rattle.lower_arrays.specs.Layouts.{Layout}
use Rattle.lower_arrays.specs.declared.array.AnyArray.{AnyArray}
use Rattle.ipc_devices.specs.declared.fault.Fault.{Fault}
use Rattle.ipc_model.specs.AddressLaws.{IsWellInBatch}
use Rattle.ipc_model.specs.Batches.{kind_at}
use Rattle.ipc_model.specs.Entries.{Entries, Limit}
use Rattle.ipc_model.specs.Kinds.{Kinds}
use Rattle.ipc_read_flat.specs.Refusals.{IsFaultOf}
use Rattle.ipc_read.specs.Columns.{HasColumns, IsColumnAt, AreColumns}
use Rattle.ipc_read.specs.Refusals.{IsFaultOfSome}

-- An error of those that are left is one of all.
pub record Among (ts : Kinds) (js left : List ℕ) : Type 0 where
  pub each : (e : Fault) → IsFaultOfSome ts left e → IsFaultOfSome ts js e

pub all_among : (ts : Kinds) (js left : List ℕ) → left ≡ js → Among ts js left
all_among ts js left e = record { each = λ f h. subst (λ (l : List ℕ). IsFaultOfSome ts l f) e h }

pub among_same : (ts : Kinds) (js left rest : List ℕ) → left ≡ rest → Among ts js left → Among ts js rest
among_same ts js left rest e among = subst (λ (l : List ℕ). Among ts js l) e among

pub among_more : (ts : Kinds) (js left rest : List ℕ) (i : ℕ) → left ≡ i ∷ rest → Among ts js left → Among ts js rest
among_more ts js left rest i more among = record { each = λ f h. among.each f (subst (λ (l : List ℕ). IsFaultOfSome ts l f) (sym more) (inr h)) }

pub fault_among : (ts : Kinds) (js left rest : List ℕ) (i : ℕ) (e : Fault) → left ≡ i ∷ rest → Among ts js left → IsFaultOf (kind_at ts i) e → IsFaultOfSome ts js e
fault_among ts js left rest i e more among h = among.each e (subst (λ (l : List ℕ). IsFaultOfSome ts l e) (sym more) (inl h))

-- xs are the arrays of the columns js before those that are left
pub record SoFar (s : Entries) (vs : Option ℤ → Layout) (fs : FieldTrees) (ts : Kinds) (limit : Limit) (js left : List ℕ) (xs : List AnyArray) : Type 0 where
  pub on : HasColumns s ts limit js → HasColumns s ts limit left
  pub back : HasColumns s ts limit left → HasColumns s ts limit js
  pub are : (ys : List AnyArray) → AreColumns s vs fs ts limit left ys → AreColumns s vs fs ts limit js (xs ++ ys)

module _ (s : Entries) (vs : Option ℤ → Layout) (fs : FieldTrees) (ts : Kinds) (limit : Limit) (js : List ℕ) where
  pub so_start : (left : List ℕ) → left ≡ js → SoFar s vs fs ts limit js left []
  so_start left e =
      subst (λ (l : List ℕ). SoFar s vs fs ts limit js l []) (sym e) (record { on = λ h. h; back = λ h. h; are = λ ys h. h })

  pub so_same : (left rest : List ℕ) (xs : List AnyArray) → left ≡ rest → SoFar s vs fs ts limit js left xs → SoFar s vs fs ts limit js rest xs
  so_same left rest xs e so = subst (λ (l : List ℕ). SoFar s vs fs ts limit js l xs) e so

  -- the first that is left
  pub one_on : (left rest : List ℕ) (xs : List AnyArray) (i : ℕ) → left ≡ i ∷ rest → SoFar s vs fs ts limit js left xs → HasColumns s ts limit js → IsWellInBatch s ts limit i
  one_on left rest xs i more so h =
      let w : HasColumns s ts limit (i ∷ rest) = subst (λ (l : List ℕ). HasColumns s ts limit l) more (so.on h) in
      w.0

  pub so_more : (left rest : List ℕ) (xs ys : List AnyArray) (i : ℕ) (x : AnyArray) → left ≡ i ∷ rest → IsWellInBatch s ts limit i
      → IsColumnAt s vs fs ts limit i x → ys ≡ xs ++ x ∷ [] → SoFar s vs fs ts limit js left xs → SoFar s vs fs ts limit js rest ys
  so_more left rest xs ys i x more well column pushed so =
      subst (λ (l : List AnyArray). SoFar s vs fs ts limit js rest l) (sym pushed)
      (record {
        on = λ h. let w : HasColumns s ts limit (i ∷ rest) = subst (λ (l : List ℕ). HasColumns s ts limit l) more (so.on h) in w.1;
        back = λ h. so.back (subst (λ (l : List ℕ). HasColumns s ts limit l) (sym more) (well, h));
        are = λ zs h.
            subst (λ (l : List AnyArray). AreColumns s vs fs ts limit js l) (sym (append_assoc xs (x ∷ []) zs))
            (so.are (x ∷ zs) (subst (λ (l : List ℕ). AreColumns s vs fs ts limit l (x ∷ zs)) (sym more) (column, h)));
      })

  pub so_end : (left : List ℕ) (xs : List AnyArray) → left ≡ [] → SoFar s vs fs ts limit js left xs → HasColumns s ts limit js × AreColumns s vs fs ts limit js xs
  so_end left xs none so = (
    so.back (subst (λ (l : List ℕ). HasColumns s ts limit l) (sym none) tt),
    subst (λ (l : List AnyArray). AreColumns s vs fs ts limit js l) (append-nil xs) (so.are [] (subst (λ (l : List ℕ). AreColumns s vs fs ts limit l []) (sym none) tt)),
  )
