-- What calls of `next` returned, one after the other.
use Rattle.ipc_devices.specs.Device.{Device}
use Rattle.std.proofs.Common.{◌≡◌, List, [], ◌∷◌, ◌++◌, None, Some, Ok, Err, refl, sym, ap, ◌∙◌, subst, append_assoc, inr}
use Rattle.std.proofs.lemmas.List.{map-append}
use Rattle.lower_arrays.specs.declared.array.AnyArray.{AnyArray}
use Rattle.ipc_devices.specs.declared.fault.Fault.{Fault}
use Rattle.ipc_file_readers.specs.Readers.{Answer, NextStep}
use Rattle.ipc_file_readers.specs.Runs.{Calls}
use Rattle.ipc_file_readers.specs.declared.read.reader.state.FileReader.{FileReader}
use Rattle.ipc_file_round_trip.specs.Steps.{GivesAll, ReadBlocksCause, answers_of}

-- One more answer, and those after it.
answers_more : (xs ys : List (List AnyArray)) (x : List AnyArray) (rs : List Answer) → ys ≡ xs ++ x ∷ [] → answers_of xs ++ Some (Ok x) ∷ rs ≡ answers_of ys ++ rs
answers_more xs ys x rs added =
    let last : answers_of (xs ++ x ∷ []) ++ rs ≡ answers_of xs ++ Some (Ok x) ∷ rs = rw (map-append, append_assoc) refl in
    sym (ap (λ (zs : List (List AnyArray)). answers_of zs ++ rs) added ∙ last)

module _ {R : Type 0} (d : Device R) where
  abbrev Run : FileReader R → List Answer → Type 0
  Run a rs = Calls d a rs

  -- One more chunk was returned: later ones come after all earlier ones.
  pub one_more : (first a b : FileReader R) (xs ys : List (List AnyArray)) (x : List AnyArray) → ys ≡ xs ++ x ∷ [] → NextStep d a (Some (Ok x)) b
      → ((rs : List Answer) → Run a rs → Run first (answers_of xs ++ rs)) → (rs : List Answer) → Run b rs → Run first (answers_of ys ++ rs)
  one_more first a b xs ys x added step so_far rs h = subst (λ (zs : List Answer). Run first zs) (answers_more xs ys x rs added) (so_far (Some (Ok x) ∷ rs) (b, step, h))

  -- None was returned.
  pub all_given : (first a b : FileReader R) (xs ys : List (List AnyArray)) → ys ≡ xs → NextStep d a None b
      → ((rs : List Answer) → Run a rs → Run first (answers_of xs ++ rs)) → GivesAll d first ys
  all_given first a b xs ys same step so_far = record {
    calls = subst (λ (zs : List (List AnyArray)). Run first (answers_of zs ++ None ∷ [])) (sym same) (so_far (None ∷ []) (b, step, tt));
  }

  -- An error was returned.
  pub broken_off : (first a b : FileReader R) (xs : List (List AnyArray)) (e : Fault) → NextStep d a (Some (Err e)) b
      → ((rs : List Answer) → Run a rs → Run first (answers_of xs ++ rs)) → ReadBlocksCause d first e
  broken_off first a b xs e step so_far = inr (record { chunks = xs; calls = so_far (Some (Err e) ∷ []) (b, step, tt) })

  -- the first of some calls
  pub calls_front : (rs ss : List Answer) (a : FileReader R) → Run a (rs ++ ss) → Run a rs
  calls_front [] ss a h = tt
  calls_front (r ∷ rs) ss a h = (h.0, h.1, calls_front rs ss h.0 h.2)
