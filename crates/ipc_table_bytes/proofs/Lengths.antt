-- How long the bytes of a number and padded bytes are.
use Rattle.std.proofs.Common.{◌≡◌, ℕ, ◌-◌, ◌%◌, List, length, arith, length-append}
use Rattle.std.proofs.lemmas.List.{length-replicate}
use Rattle.byteorder.specs.Numbers.{length-bytes_low_first}
use Rattle.ipc_table_bytes.specs.Pads.{le, missing, zeros, padded}

pub length-le : (k x : ℕ) → length (le k x) ≡ k
unfolding le
length-le k x = length-bytes_low_first 0 k x

pub length-padded : (xs : List ℕ) → length (padded xs) % 8 ≡ 0
length-padded xs = omega (arith, length-append xs (zeros (missing (length xs))), length-replicate {A = ℕ} (missing (length xs)) 0)

pub ruleset lengths = (length-le, length-padded, length-append)
