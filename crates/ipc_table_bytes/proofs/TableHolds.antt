-- The bytes of a table have its fields.
use Rattle.std.proofs.Common.{◌≡◌, ℕ, ◌+◌, ◌*◌, ◌/◌, ◌%◌, ◌^◌, ◌<◌, ◌≤◌, List, ◌∷◌, ◌++◌, length, Option, None, Some, Result, Ok, refl, sym, ap, subst, ◌∙◌, arith, length-append}
use Rattle.std.proofs.Math.Nat.{zero-mod, zero-mul}
use Rattle.std.proofs.lemmas.Nat.{mul-mod}
use Rattle.std.proofs.lemmas.Bool.Decides.{nat_tests}
use Rattle.ipc_table_bytes.specs.declared.build.Built.{Built}
use Rattle.ipc_table_bytes.specs.declared.build.Slot.{Slot}
use Rattle.ipc_table_bytes.specs.declared.build.Slot.TheVariants.{Absent, Number, Offset}
use Rattle.ipc_table_bytes.specs.Tree.{Part, Slots, table}
use Rattle.ipc_table_bytes.specs.Holds.{HoldsPart, HoldsSlots, count_slots}
use Rattle.ipc_table_bytes.specs.Sizes.{size_of, slots_size}
use Rattle.ipc_devices.specs.declared.fault.TableFault.{TableFault}
use Rattle.ipc_table_bytes.specs.Strict.{Grain, by_part, by_value, Region, region, regions, inline_regions, child_regions, slot_place, stated_size, target_place, vtable_place, vtable_stated, AreLaidOut}
use Rattle.ipc_table_bytes.proofs.LaidOut.{AreLaidOut-later, AreLaidOut-append}
use Rattle.ipc_table_bytes.specs.Pads.{le, missing, zeros}
use Rattle.ipc_table_bytes.specs.Parts.{vtable_size, vtable_bytes, entries, tail_of, tails, number_in, numbers, table_bytes, Stands, IsPart, AreSlots, no_more, is_absent, is_number, is_offset}
use Rattle.ipc_table_views.specs.Tables.{Opened as OpenedAt, number_at, table_at, slot_at, target_at}
use Rattle.ipc_table_bytes.proofs.TableBytes.{length-vtable, length-numbers, length-table}
use Rattle.ipc_table_bytes.proofs.Lengths.{length-le}
use Rattle.ipc_table_bytes.proofs.Standing.{stands-first, stands-then, stands-at, number_at-stands}

-- A table with a valid vtable.
opens : (m : List ℕ) (p v size second : ℕ) → v < 2 ^ 31 → 4 ≤ size → number_at 4 m (p + v) ≡ Ok v → number_at 2 m p ≡ Ok size → number_at 2 m (p + 2) ≡ Ok second → table_at m (p + v) ≡ Ok (p, size)
unfolding table_at
opens m p v size second hv hs e f g = grind (arith, nat_tests)

slot-present : (m : List ℕ) (t v size i o : ℕ) → table_at m t ≡ Ok (v, size) → 4 + 2 * i + 2 ≤ size → number_at 2 m (v + 4 + 2 * i) ≡ Ok o → 0 < o → slot_at m t i ≡ Ok (Some (t + o))
unfolding slot_at
slot-present m t v size i o e h f k = grind (arith, nat_tests)

slot-empty : (m : List ℕ) (t v size i : ℕ) → table_at m t ≡ Ok (v, size) → number_at 2 m (v + 4 + 2 * i) ≡ Ok 0 → slot_at m t i ≡ Ok None
unfolding slot_at
slot-empty m t v size i e f = grind (arith, nat_tests)

slot-past : (m : List ℕ) (t v size i : ℕ) → table_at m t ≡ Ok (v, size) → size < 4 + 2 * i + 2 → slot_at m t i ≡ Ok None
unfolding slot_at
slot-past m t v size i e h = grind (arith, nat_tests)

-- The fields from field i on of a table of n fields at t with its vtable at v. The parts of
-- the earlier fields take u bytes.
record Layout (m : List ℕ) (t v n i u : ℕ) (slots : List Slot) : Type 0 where
  opened : table_at m t ≡ Ok (v, 4 + 2 * n)
  few : n < 8000
  last : i + length slots ≡ n
  entered : Stands m (v + 4 + 2 * i) (entries i slots)
  numbered : Stands m (t + 8 + 8 * i) (numbers u slots)
  followed : Stands m (t + 8 + 8 * n + u) (tails slots)
  whole : (t + u) % 8 ≡ 0
  small : 8 * n + u < 2 ^ 31

-- The fields after the first.
next : (m : List ℕ) (t v n i u : ℕ) (x : Slot) (rest : List Slot) (o : ℕ) → entries i (x ∷ rest) ≡ le 2 o ++ entries (i + 1) rest
    → length (tail_of x) % 8 ≡ 0 → 8 * n + u + length (tail_of x) < 2 ^ 31
    → Layout m t v n i u (x ∷ rest) → Layout m t v n (i + 1) (u + length (tail_of x)) rest
next m t v n i u x rest o e whole small l =
    let number = number_in (8 * (length rest + 1) + u) x in
    let entered = subst (λ (r : List ℕ). Stands m (v + 4 + 2 * i) r) e l.entered in
    record {
      opened = l.opened;
      few = l.few;
      last = omega (arith, l.last);
      entered = stands-then m _ _ (le 2 o) _ (omega (arith, length-le 2 o)) entered;
      numbered = stands-then m _ _ (le 8 number) _ (omega (arith, length-le 8 number)) l.numbered;
      followed = stands-then m _ _ (tail_of x) _ (omega arith) l.followed;
      whole = omega (arith, l.whole);
      small = omega arith;
    }

-- The vtable entry of a field that is present.
entry-is : (m : List ℕ) (t v n i u : ℕ) (x : Slot) (rest : List Slot) → entries i (x ∷ rest) ≡ le 2 (8 + 8 * i) ++ entries (i + 1) rest
    → Layout m t v n i u (x ∷ rest) → slot_at m t i ≡ Ok (Some (t + (8 + 8 * i)))
entry-is m t v n i u x rest e l =
    let entered = subst (λ (r : List ℕ). Stands m (v + 4 + 2 * i) r) e l.entered in
    let last = l.last in let few = l.few in
    slot-present m t v (4 + 2 * n) i (8 + 8 * i) l.opened (omega arith)
    (number_at-stands m _ 2 2 (8 + 8 * i) (omega arith) (omega arith) (stands-first m _ (le 2 (8 + 8 * i)) _ entered)) (omega arith)

pub target-is : (m : List ℕ) (q o : ℕ) → number_at 4 m q ≡ Ok o → target_at m q ≡ Ok (q + o)
unfolding target_at
target-is m q o e = grind (arith, nat_tests)

-- A part at a multiple of 8.
pub part-at : (m : List ℕ) (p q : ℕ) (y : Built) (x : Part) → IsPart y x → length y.bytes.items < 2 ^ 31 → p % 8 ≡ 0 → p + y.entry ≡ q → Stands m p y.bytes.items → HoldsPart m q x
part-at m p q y x is small whole e s =
    let a : p ≡ 8 * (p / 8) = omega arith in
    let b : 8 * (p / 8) + y.entry ≡ q = omega arith in
    subst (λ (r : ℕ). HoldsPart m r x) b (is.holds small m (p / 8) (stands-at m p (8 * (p / 8)) y.bytes.items a s))

slots-hold : (m : List ℕ) (t v n i u : ℕ) (slots : List Slot) (xs : Slots) → AreSlots slots xs → Layout m t v n i u slots → 8 * n + u + length (tails slots) < 2 ^ 31 → HoldsSlots m t (8 + 8 * n) i xs
slots-hold m t v n i u _ _ no_more l small = λ k. slot-past m t v (4 + 2 * n) (i + k) l.opened (omega (arith, l.last))
slots-hold m t v n i u _ _ (is_absent {slots = slots} {rest = rest} a) l small = (
  slot-empty m t v (4 + 2 * n) i l.opened (number_at-stands m _ 2 2 0 (omega arith) (omega arith) (stands-first m _ (le 2 0) _ l.entered)),
  slots-hold m t v n (i + 1) _ slots rest a (next m t v n i u Absent slots 0 refl (omega arith) (omega arith) l) (omega arith),
)
slots-hold m t v n i u _ _ (is_number {slots = slots} {rest = rest} {w = w} {x = x} {y = y} same fits whole range a) l small =
    let here = subst (λ (k : ℕ). Stands m (t + 8 + 8 * i) (le 8 k)) same (stands-first m _ (le 8 x) _ l.numbered) in
    let last = l.last in (
      (
        t + (8 + 8 * i),
        entry-is m t v n i u (Number x) slots refl l,
        number_at-stands m _ w 8 y fits range (stands-at m _ _ (le 8 y) (omega arith) here),
        omega arith,
      ),
      slots-hold m t v n (i + 1) _ slots rest a (next m t v n i u (Number x) slots (8 + 8 * i) refl (omega arith) (omega arith) l) (omega arith),
    )
slots-hold m t v n i u _ _ (is_offset {slots = slots} {rest = rest} {y = y} {x = z} is a) l small =
    let o = 8 * (length slots + 1) + u + y.entry in
    let q = t + (8 + 8 * i) in
    let cut = length-append y.bytes.items (tails slots) in
    let last = l.last in
    let whole = l.whole in
    let entry : y.entry < 2 ^ 16 = y.near in
    let length_is : length y.bytes.items % 8 ≡ 0 = y.whole in
    let far = number_at-stands m q 4 8 o (omega arith) (omega arith) (stands-at m _ q (le 8 o) (omega arith) (stands-first m _ (le 8 o) _ l.numbered)) in (
      (
        q,
        q + o,
        entry-is m t v n i u (Offset y) slots refl l,
        target-is m q o far,
        omega arith,
        part-at m (t + 8 + 8 * n + u) (q + o) y z is (omega arith) (omega arith) (omega arith) (stands-first m _ y.bytes.items _ l.followed),
      ),
      slots-hold m t v n (i + 1) _ slots rest a (next m t v n i u (Offset y) slots (8 + 8 * i) refl length_is (omega arith) l) (omega arith),
    )

count-is : (slots : List Slot) (xs : Slots) → AreSlots slots xs → count_slots xs ≡ length slots
count-is _ _ no_more = refl
count-is _ _ (is_absent {slots = slots} {rest = rest} a) = omega (arith, count-is slots rest a)
count-is _ _ (is_number {slots = slots} {rest = rest} same fits whole range a) = omega (arith, count-is slots rest a)
count-is _ _ (is_offset {slots = slots} {rest = rest} is a) = omega (arith, count-is slots rest a)

-- The parts below a table take as many bytes as its fields say.
length-tails : (slots : List Slot) (xs : Slots) → AreSlots slots xs → length (tails slots) ≡ slots_size xs
length-tails _ _ no_more = refl
length-tails _ _ (is_absent {slots = slots} {rest = rest} a) = length-tails slots rest a
length-tails _ _ (is_number {slots = slots} {rest = rest} same fits whole range a) = length-tails slots rest a
length-tails _ _ (is_offset {slots = slots} {rest = rest} {y = y} is a) =
    omega (arith, is.size, length-append y.bytes.items (tails slots), length-tails slots rest a)

pub whole-by : (w x : ℕ) → 8 % w ≡ 0 → x % 8 ≡ 0 → x % w ≡ 0
whole-by w x h k =
    let e : x ≡ 8 * (x / 8) = omega arith in
    ap (λ (y : ℕ). y % w) e ∙ mul-mod 8 (x / 8) w ∙ ap (λ (r : ℕ). (r * (x / 8 % w)) % w) h
    ∙ ap (λ (r : ℕ). r % w) (zero-mul (x / 8 % w)) ∙ zero-mod w

-- a region before others
pub first-region : (align lo q q' size hi : ℕ) (rs : List Region) → q ≡ q' → lo ≤ q' → q' % align ≡ 0 → AreLaidOut (q' + size) rs hi → AreLaidOut lo (region align q size ∷ rs) hi
first-region align lo q q' size hi rs e h k l = subst (λ (r : ℕ). AreLaidOut lo (region align r size ∷ rs) hi) (sym e) (h, k, l)

inline-laid : (m : List ℕ) (t v n i u : ℕ) (slots : List Slot) (xs : Slots) → AreSlots slots xs → Layout m t v n i u slots → t % 8 ≡ 0 → 8 * n + u + length (tails slots) < 2 ^ 31
    → AreLaidOut (t + 8 + 8 * i) (inline_regions m t i xs) (t + 8 + 8 * n)
inline-laid m t v n i u _ _ no_more l at small = omega (arith, l.last)
inline-laid m t v n i u _ _ (is_absent {slots = slots} {rest = rest} a) l at small =
    AreLaidOut-later _ (t + 8 + 8 * (i + 1)) _ _ (omega arith)
    (inline-laid m t v n (i + 1) _ slots rest a (next m t v n i u Absent slots 0 refl (omega arith) (omega arith) l) at (omega arith))
inline-laid m t v n i u _ _ (is_number {slots = slots} {rest = rest} {w = w} {x = x} {y = y} same fits whole range a) l at small =
    first-region w _ _ (t + (8 + 8 * i)) w _ _ (ap slot_place (entry-is m t v n i u (Number x) slots refl l)) (omega arith) (whole-by w (t + (8 + 8 * i)) whole (omega arith))
    (AreLaidOut-later _ (t + 8 + 8 * (i + 1)) _ _ (omega arith)
    (inline-laid m t v n (i + 1) _ slots rest a (next m t v n i u (Number x) slots (8 + 8 * i) refl (omega arith) (omega arith) l) at (omega arith)))
inline-laid m t v n i u _ _ (is_offset {slots = slots} {rest = rest} {y = y} {x = z} is a) l at small =
    let length_is : length y.bytes.items % 8 ≡ 0 = y.whole in
    let cut = length-append y.bytes.items (tails slots) in
    first-region 4 _ _ (t + (8 + 8 * i)) 4 _ _ (ap slot_place (entry-is m t v n i u (Offset y) slots refl l)) (omega arith) (omega arith)
    (AreLaidOut-later _ (t + 8 + 8 * (i + 1)) _ _ (omega arith)
    (inline-laid m t v n (i + 1) _ slots rest a (next m t v n i u (Offset y) slots (8 + 8 * i) refl length_is (omega arith) l) at (omega arith)))

-- The regions of a part at a multiple of 8.
pub laid-at : (g : Grain) (m : List ℕ) (p q hi : ℕ) (y : Built) (x : Part) → IsPart y x → length y.bytes.items < 2 ^ 31 → p % 8 ≡ 0 → p + y.entry ≡ q → p + length y.bytes.items ≡ hi → Stands m p y.bytes.items → AreLaidOut p (regions g m q x) hi
laid-at g m p q hi y x is small whole e f s =
    let a : p ≡ 8 * (p / 8) = omega arith in
    let b : 8 * (p / 8) + y.entry ≡ q = omega arith in
    let d : 8 * (p / 8) + length y.bytes.items ≡ hi = omega arith in
    subst (λ (r : ℕ). AreLaidOut r (regions g m q x) hi) (sym a) (subst (λ (r : ℕ). AreLaidOut (8 * (p / 8)) (regions g m q x) r) d
    (subst (λ (r : ℕ). AreLaidOut (8 * (p / 8)) (regions g m r x) (8 * (p / 8) + length y.bytes.items)) b
    (is.laid g small m (p / 8) (stands-at m p (8 * (p / 8)) y.bytes.items a s))))

pub same-end : (lo lo' hi hi' : ℕ) (rs : List Region) → lo ≤ lo' → hi ≡ hi' → AreLaidOut lo' rs hi → AreLaidOut lo rs hi'
same-end lo lo' hi hi' rs h e l = subst (λ (r : ℕ). AreLaidOut lo rs r) e (AreLaidOut-later lo lo' hi rs h l)

children-laid : (g : Grain) (m : List ℕ) (t v n i u : ℕ) (slots : List Slot) (xs : Slots) → AreSlots slots xs → Layout m t v n i u slots → 8 * n + u + length (tails slots) < 2 ^ 31
    → AreLaidOut (t + 8 + 8 * n + u) (child_regions g m t i xs) (t + 8 + 8 * n + (u + length (tails slots)))
children-laid g m t v n i u _ _ no_more l small = omega arith
children-laid g m t v n i u _ _ (is_absent {slots = slots} {rest = rest} a) l small =
    same-end _ (t + 8 + 8 * n + (u + 0)) _ _ _ (omega arith) (omega arith)
    (children-laid g m t v n (i + 1) _ slots rest a (next m t v n i u Absent slots 0 refl (omega arith) (omega arith) l) (omega arith))
children-laid g m t v n i u _ _ (is_number {slots = slots} {rest = rest} {w = w} {x = x} {y = y} same fits whole range a) l small =
    same-end _ (t + 8 + 8 * n + (u + 0)) _ _ _ (omega arith) (omega arith)
    (children-laid g m t v n (i + 1) _ slots rest a (next m t v n i u (Number x) slots (8 + 8 * i) refl (omega arith) (omega arith) l) (omega arith))
children-laid g m t v n i u _ _ (is_offset {slots = slots} {rest = rest} {y = y} {x = z} is a) l small =
    let o = 8 * (length slots + 1) + u + y.entry in
    let q = t + (8 + 8 * i) in
    let cut = length-append y.bytes.items (tails slots) in
    let last = l.last in
    let whole = l.whole in
    let entry : y.entry < 2 ^ 16 = y.near in
    let length_is : length y.bytes.items % 8 ≡ 0 = y.whole in
    let far = number_at-stands m q 4 8 o (omega arith) (omega arith) (stands-at m _ q (le 8 o) (omega arith) (stands-first m _ (le 8 o) _ l.numbered)) in
    let there = ap (λ (r : Result (Option ℕ) TableFault). target_place (target_at m (slot_place r))) (entry-is m t v n i u (Offset y) slots refl l) ∙ ap target_place (target-is m q o far) in
    let hi = t + 8 + 8 * n + (u + length (y.bytes.items ++ tails slots)) in
    subst (λ (r : ℕ). AreLaidOut (t + 8 + 8 * n + u) (regions g m r z ++ child_regions g m t (i + 1) rest) hi) (sym there)
    (AreLaidOut-append _ (t + 8 + 8 * n + (u + length y.bytes.items)) hi (regions g m (q + o) z) (child_regions g m t (i + 1) rest)
    (laid-at g m (t + 8 + 8 * n + u) (q + o) _ y z is (omega arith) (omega arith) (omega arith) (omega arith) (stands-first m _ y.bytes.items _ l.followed))
    (same-end _ _ _ hi (child_regions g m t (i + 1) rest) (omega arith) (omega arith)
    (children-laid g m t v n (i + 1) _ slots rest a (next m t v n i u (Offset y) slots (8 + 8 * i) refl length_is (omega arith) l) (omega arith))))

missing-whole : (p n : ℕ) → (8 * p + (n + missing n) + 0) % 8 ≡ 0
missing-whole p n = omega arith

-- What the bytes of a table give at their offset.
record Opened (m : List ℕ) (p : ℕ) (slots : List Slot) : Type 0 where
  layout : Layout m (8 * p + vtable_size (length slots)) (8 * p) (length slots) 0 0 slots
  size : number_at 2 m (8 * p + 2) ≡ Ok (8 + 8 * length slots)

opened-table : (m : List ℕ) (p : ℕ) (slots : List Slot) → length slots < 8000 → length (table_bytes slots) < 2 ^ 31 → Stands m (8 * p) (table_bytes slots) → Opened m p slots
unfolding table_bytes
opened-table m p slots few built_small all =
    let n = length slots in
    let v = vtable_size n in
    let head = stands-first m (8 * p) (vtable_bytes slots) _ all in
    let rest = stands-then m (8 * p) (8 * p + v) (vtable_bytes slots) _ (ap (λ (k : ℕ). 8 * p + k) (length-vtable slots)) all in
    let offset = number_at-stands m (8 * p + v) 4 8 v (omega arith) (omega arith) (stands-first m _ (le 8 v) _ rest) in
    let entered = stands-first m (8 * p) (le 2 (4 + 2 * n) ++ (le 2 (8 + 8 * n) ++ entries 0 slots)) (zeros (missing (4 + 2 * n))) head in
    let first = number_at-stands m (8 * p) 2 2 (4 + 2 * n) (omega arith) (omega arith) (stands-first m _ (le 2 (4 + 2 * n)) _ entered) in
    let second_on = stands-then m (8 * p) (8 * p + 2) (le 2 (4 + 2 * n)) _ (omega (arith, length-le 2 (4 + 2 * n))) entered in
    let second = number_at-stands m (8 * p + 2) 2 2 (8 + 8 * n) (omega arith) (omega arith) (stands-first m _ (le 2 (8 + 8 * n)) _ second_on) in
    let opened = opens m (8 * p) v (4 + 2 * n) (8 + 8 * n) (omega arith) (omega arith) offset first second in
    let body = stands-then m (8 * p + v) (8 * p + v + 8) (le 8 v) _ (omega (arith, length-le 8 v)) rest in
    record {
      size = second;
      layout = record {
        opened = opened;
        few = few;
        last = omega arith;
        entered = stands-then m (8 * p + 2) _ (le 2 (8 + 8 * n)) _ (omega (arith, length-le 2 (8 + 8 * n))) second_on;
        numbered = stands-at m _ _ _ (omega arith) (stands-first m _ (numbers 0 slots) _ body);
        followed = stands-then m (8 * p + v + 8) _ (numbers 0 slots) (tails slots) (omega (arith, length-numbers 0 slots)) body;
        whole = missing-whole p (4 + 2 * n);
        small = omega arith;
      };
    }

missing-eighth : (p n : ℕ) → (8 * p + (n + missing n)) % 8 ≡ 0
missing-eighth p n = omega arith

-- what the vtable says
stated-is : (m : List ℕ) (t v k size : ℕ) → table_at m t ≡ Ok (v, k) → number_at 2 m (v + 2) ≡ Ok size → stated_size m t ≡ size
stated-is m t v k size e f = ap (λ (r : Result OpenedAt TableFault). target_place (number_at 2 m (vtable_place r + 2))) e ∙ ap target_place f

-- the parts below, after a table of this size
below-laid : (g : Grain) (m : List ℕ) (p : ℕ) (slots : List Slot) (xs : Slots) → AreSlots slots xs → length (table_bytes slots) < 2 ^ 31 → Opened m p slots
    → AreLaidOut (8 * p + vtable_size (length slots) + (8 + 8 * length slots)) (child_regions g m (8 * p + vtable_size (length slots)) 0 xs) (8 * p + length (table_bytes slots))
below-laid g m p slots xs are small o =
    let n = length slots in
    let t = 8 * p + vtable_size n in
    let long = length-table slots in
    let within : 8 * n + 0 + length (tails slots) < 2 ^ 31 = omega arith in
    let hi = 8 * p + length (table_bytes slots) in
    same-end _ (t + 8 + 8 * n + 0) _ hi _ (omega arith) (omega arith) (children-laid g m t (8 * p) n 0 0 slots xs are o.layout within)

table-laid : (g : Grain) (m : List ℕ) (p : ℕ) (slots : List Slot) (xs : Slots) → AreSlots slots xs → length (table_bytes slots) < 2 ^ 31 → Opened m p slots
    → AreLaidOut (8 * p) (regions g m (8 * p + vtable_size (length slots)) (table xs)) (8 * p + length (table_bytes slots))
table-laid by_value m p slots xs are small o =
    let n = length slots in
    let t = 8 * p + vtable_size n in
    let l = o.layout in
    let long = length-table slots in
    let at : t % 8 ≡ 0 = missing-eighth p (4 + 2 * n) in
    let count = count-is slots xs are in
    let within : 8 * n + 0 + length (tails slots) < 2 ^ 31 = omega arith in
    let hi = 8 * p + length (table_bytes slots) in
    let rs = inline_regions m t 0 xs ++ child_regions by_value m t 0 xs in
    let inner : AreLaidOut (t + 4) rs hi =
    AreLaidOut-append _ (t + 8 + 8 * n) hi (inline_regions m t 0 xs) (child_regions by_value m t 0 xs)
    (AreLaidOut-later _ (t + 8 + 8 * 0) _ _ (omega arith) (inline-laid m t (8 * p) n 0 0 slots xs are l at within))
    (AreLaidOut-later _ (t + (8 + 8 * n)) _ _ (omega arith) (below-laid by_value m p slots xs are small o)) in
    let outer : AreLaidOut (8 * p + (4 + 2 * count_slots xs)) (region 4 t 4 ∷ rs) hi = (omega arith, omega arith, inner) in
    first-region 2 (8 * p) _ (8 * p) (4 + 2 * count_slots xs) hi (region 4 t 4 ∷ rs) (ap vtable_place l.opened) (omega arith) (omega arith) outer
table-laid by_part m p slots xs are small o =
    let n = length slots in
    let t = 8 * p + vtable_size n in
    let l = o.layout in
    let at : t % 8 ≡ 0 = missing-eighth p (4 + 2 * n) in
    let hi = 8 * p + length (table_bytes slots) in
    let rs = child_regions by_part m t 0 xs in
    let stated = stated-is m t (8 * p) (4 + 2 * n) (8 + 8 * n) l.opened o.size in
    let inner : AreLaidOut (8 * p + (4 + 2 * n)) (region 4 t (8 + 8 * n) ∷ rs) hi = (omega arith, omega arith, below-laid by_part m p slots xs are small o) in
    let outer : AreLaidOut (8 * p + (4 + 2 * n)) (region 4 t (stated_size m t) ∷ rs) hi =
    subst (λ (k : ℕ). AreLaidOut (8 * p + (4 + 2 * n)) (region 4 t k ∷ rs) hi) (sym stated) inner in
    subst (λ (k : ℕ). AreLaidOut (8 * p) (region 2 (vtable_place (table_at m t)) k ∷ (region 4 t (stated_size m t) ∷ rs)) hi) (sym (ap vtable_stated l.opened))
    (first-region 2 (8 * p) _ (8 * p) (4 + 2 * n) hi (region 4 t (stated_size m t) ∷ rs) (ap vtable_place l.opened) (omega arith) (omega arith) outer)

table-size : (slots : List Slot) (xs : Slots) → AreSlots slots xs → length (table_bytes slots) ≡ size_of (table xs)
table-size slots xs are = omega (arith, length-table slots, count-is slots xs are, length-tails slots xs are)

pub IsPart-table : (built : Built) (slots : List Slot) (xs : Slots) → built.bytes.items ≡ table_bytes slots → built.entry ≡ vtable_size (length slots) → AreSlots slots xs → length slots < 8000 → IsPart built (table xs)
IsPart-table built slots xs bytes entry are few =
    let n = length slots in
    let opened = λ (small : length (table_bytes slots) < 2 ^ 31) (m : List ℕ) (p : ℕ) (s : Stands m (8 * p) built.bytes.items). opened-table m p slots few small (subst (λ (r : List ℕ). Stands m (8 * p) r) bytes s) in
    let short = λ (small : length built.bytes.items < 2 ^ 31). subst (λ (r : List ℕ). length r < 2 ^ 31) bytes small in
    record {
      size = ap length bytes ∙ table-size slots xs are;
      holds = λ small m p s.
          let o = opened (short small) m p s in
          let count = ap (λ (k : ℕ). Ok (8 * p, 4 + 2 * k)) (sym (count-is slots xs are)) in
          let within : length (table_bytes slots) < 2 ^ 31 = short small in
          subst (λ (k : ℕ). HoldsPart m (8 * p + k) (table xs)) (sym entry)
          (8 * p, 8 + 8 * n, o.layout.opened ∙ count, o.size, slots-hold m _ _ n 0 0 slots xs are o.layout (let z = length-table slots in omega arith));
      laid = λ g small m p s.
          subst (λ (k : ℕ). AreLaidOut (8 * p) (regions g m (8 * p + k) (table xs)) (8 * p + length built.bytes.items)) (sym entry)
          (subst (λ (k : List ℕ). AreLaidOut (8 * p) (regions g m (8 * p + vtable_size n) (table xs)) (8 * p + length k)) (sym bytes)
          (table-laid g m p slots xs are (short small) (opened (short small) m p s)));
    }
