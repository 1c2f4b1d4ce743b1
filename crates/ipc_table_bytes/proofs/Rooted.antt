-- The offset of a root, and then the root.
use Rattle.std.proofs.Common.{◌≡◌, ℕ, ◌+◌, ◌*◌, ◌^◌, ◌<◌, List, [], ◌++◌, length, refl, sym, subst, ap, arith, length-append}
use Rattle.ipc_table_bytes.specs.declared.build.Built.{Built}
use Rattle.ipc_table_bytes.specs.Encodes.{IsEncoding}
use Rattle.ipc_table_bytes.specs.Pads.{le}
use Rattle.ipc_table_bytes.specs.Parts.{Stands, IsPart}
use Rattle.ipc_table_bytes.specs.Sizes.{message_size}
use Rattle.ipc_table_bytes.specs.Tree.{Slots, table}
use Rattle.ipc_table_bytes.specs.Strict.{Grain, regions, target_place, AreLaidOut}
use Rattle.ipc_table_bytes.proofs.TableHolds.{same-end}
use Rattle.ipc_table_bytes.proofs.LaidOut.{IsLaidOut-from}
use Rattle.ipc_table_bytes.proofs.Lengths.{length-le}
use Rattle.ipc_table_bytes.proofs.TableBytes.{append-nil}
use Rattle.ipc_table_bytes.proofs.Standing.{stands-first, stands-then, number_at-stands}

itself : (m : List ℕ) → Stands m 0 m
itself m = record { front = []; back = []; parts = sym (append-nil m); here = refl }

pub length-rooted : (m : List ℕ) (root : Built) (slots : Slots) → m ≡ le 8 (8 + root.entry) ++ root.bytes.items → IsPart root (table slots) → length m ≡ message_size slots
length-rooted m root slots e is = omega (arith, ap length e, length-append (le 8 (8 + root.entry)) root.bytes.items, length-le 8 (8 + root.entry), is.size)

pub IsEncoding-from_part : (m : List ℕ) (root : Built) (slots : Slots) → m ≡ le 8 (8 + root.entry) ++ root.bytes.items → length m < 2 ^ 31 → IsPart root (table slots) → IsEncoding m slots
IsEncoding-from_part m root slots e short is =
    let entry : root.entry < 2 ^ 16 = root.near in
    let long : 8 * 1 + length root.bytes.items ≡ length m = omega (arith, ap length e, length-append (le 8 (8 + root.entry)) root.bytes.items, length-le 8 (8 + root.entry)) in
    let small : length root.bytes.items < 2 ^ 31 = omega arith in
    let all = subst (λ (r : List ℕ). Stands m 0 r) e (itself m) in
    let rest = stands-then m 0 (8 * 1) (le 8 (8 + root.entry)) root.bytes.items (omega (arith, length-le 8 (8 + root.entry))) all in
    let place = number_at-stands m 0 4 8 (8 + root.entry) (omega arith) (omega arith) (stands-first m 0 (le 8 (8 + root.entry)) _ all) in
    let laid = λ (g : Grain). same-end (0 + 4) (8 * 1) _ (length m) (regions g m (8 * 1 + root.entry) (table slots)) (omega arith) long (is.laid g small m 1 rest) in
    record {
      holds = (8 * 1 + root.entry, place, is.holds small m 1 rest);
      strict = IsLaidOut-from m slots (λ g. (omega arith, omega arith, subst (λ (k : ℕ). AreLaidOut (0 + 4) (regions g m k (table slots)) (length m)) (sym (ap target_place place)) (laid g)));
      size = length-rooted m root slots e is;
      small = short;
    }
