-- What the reads of a device give that has several pieces of bytes.
use Rattle.std.proofs.Common.{ℕ, ◌+◌, List, [], ◌++◌, length, refl, arith, length-append}
use Rattle.ipc_devices.specs.Gives.{Stop, going, Counts, Fails, Takes}
use Rattle.ipc_devices.specs.GivesLaws.{counts_more, takes_more}

-- Reads that gave xs took them off the front of the piece. `left` is the rest of that piece,
-- or the next piece if it ended.
pub record PiecesGive (front : List ℕ) (given : ℕ) (xs : List ℕ) (e : Stop)
    (left : List ℕ) (given' : ℕ) : Type 0 where
  pub counts : Counts given (length xs) given'
  pub takes : Takes e xs front left
  pub succeeds : Fails e 0 0

-- No call gives nothing.
pub pieces_nothing : (front : List ℕ) (g : ℕ) → PiecesGive front g [] going front g
pieces_nothing front g = record { counts = omega arith; takes = refl; succeeds = refl }

-- The bytes of two runs of reads come one after the other.
pub pieces_in_order : (p q r : List ℕ) (g g' g'' : ℕ) (xs ys : List ℕ) (e : Stop)
    → PiecesGive p g xs going q g' → PiecesGive q g' ys e r g''
    → PiecesGive p g (xs ++ ys) e r g''
pieces_in_order p q r g g' g'' xs ys e a b = record {
  counts = rw (length-append xs ys)
      (counts_more g (length xs) (length ys) g'' g' a.counts b.counts);
  takes = takes_more e xs ys p q r a.takes b.takes;
  succeeds = b.succeeds;
}
