-- Blocks of a file that are shown, one after the other.
use Rattle.ipc_devices.specs.Device.{Device}
use Rattle.std.proofs.Common.{◌≡◌, ℕ, ◌+◌, ◌-◌, ◌<◌, List, [], ◌∷◌, ◌++◌, Bool, true, false, nat_le, None, Some, Ok, Err, refl, ap, rules, tests, arith}
use Rattle.std.specs.Prelude.{vec_len}
use Rattle.lower_arrays.specs.declared.array.AnyArray.{AnyArray}
use Rattle.ipc_devices.specs.declared.fault.Fault.{Fault}
use Rattle.ipc_files.specs.declared.read.file.metadata.FileMetadata.{FileMetadata}
use Rattle.ipc_file_readers.specs.Readers.{Answer, NextStep, block_of, blocks_left, is_over, metadata_of}
use Rattle.ipc_file_readers.specs.Runs.{Calls}
use Rattle.ipc_file_readers.specs.declared.read.reader.state.FileReader.{FileReader}
use Rattle.ipc_file_round_trip.proofs.Pushes.{one_more}
use Rattle.ipc_file_round_trip.specs.Steps.{GivesThenFails, answers_of}
use Rattle.ipc_programs.specs.Shown.{GaveBlocks}

-- One block fewer is left.
one_less : (n i j : ℕ) → nat_le n i ≡ false → j ≡ i + 1 → n - j < n - i
one_less n i j more next = let within : i < n = search (rules, tests, more) in omega (arith, within, next)

module _ {F : Type 0} (d : Device F) where
  abbrev Run : FileReader F → List Answer → Type 0
  Run a rs = Calls d a rs

  abbrev Step : FileReader F → Answer → FileReader F → Type 0
  Step a r b = NextStep d a r b

  -- From state a on these chunks were returned, and then the reader is in state b.
  pub record HasGiven (a b : FileReader F) : Type 0 where
    pub chunks : List (List AnyArray)
    pub before : (rs : List Answer) → Run b rs → Run a (answers_of chunks ++ rs)

  pub none_given : (a : FileReader F) → HasGiven a a
  none_given a = record { chunks = []; before = λ rs h. h }

  pub one_given : (first a b : FileReader F) (x : List AnyArray) → HasGiven first a → Step a (Some (Ok x)) b → HasGiven first b
  one_given first a b x so_far step = record {
    chunks = so_far.chunks ++ x ∷ [];
    before = one_more d first a b so_far.chunks (so_far.chunks ++ x ∷ []) x refl step so_far.before;
  }

  pub then_fails : (first a b : FileReader F) (e : Fault) → HasGiven first a → Step a (Some (Err e)) b → GivesThenFails d first e
  then_fails first a b e so_far step = record { chunks = so_far.chunks; calls = so_far.before (Some (Err e) ∷ []) (b, step, tt) }

  pub then_nothing : (first a b : FileReader F) → HasGiven first a → Step a None b → GaveBlocks d first
  then_nothing first a b so_far step = record { chunks = so_far.chunks; all = record { calls = so_far.before (None ∷ []) (b, step, tt) } }

  -- If a chunk was returned, one block fewer is left.
  pub fewer_left : (a b : FileReader F) (x : List AnyArray) → Step a (Some (Ok x)) b → blocks_left b < blocks_left a
  fewer_left a b x step = by (is_over a) refl
    where
      by : (over : Bool) → is_over a ≡ over → blocks_left b < blocks_left a
      by true over = let none = (step.over over).0 in absurd cc
      by false more =
          let same = ap (λ (m : FileMetadata). vec_len m.blocks) step.state.file.described in
          let less = one_less (vec_len (metadata_of a).blocks) (block_of a) (block_of b) more (step.next more).block in
          omega (arith, same, less)
