-- The bytes of texts and vectors are these parts.
use Rattle.std.proofs.Common.{◌≡◌, ℕ, ◌+◌, ◌*◌, ◌%◌, ◌^◌, ◌<◌, ◌≤◌, Bool, true, List, [], ◌∷◌, ◌++◌, length, Ok, Err, refl, sym, ap, subst, suc, suc-mul, zero, ◌∙◌, arith, length-append}
use Rattle.std.specs.Prelude.{if◌then◌else◌}
use Rattle.std.specs.Str.{is_utf8}
use Rattle.std.proofs.lemmas.Bool.Decides.{nat_tests}
use Rattle.std.proofs.lemmas.List.{length-replicate}
use Rattle.ipc_table_bytes.specs.declared.build.Built.{Built}
use Rattle.ipc_devices.specs.declared.fault.TableFault.TheVariants.{Utf8}
use Rattle.ipc_table_bytes.specs.Tree.{text, elements, tables, Parts, no_parts, part}
use Rattle.ipc_table_bytes.specs.Holds.{HoldsPart, HoldsParts, vector, count_parts}
use Rattle.ipc_table_bytes.specs.Sizes.{parts_size, size_of}
use Rattle.ipc_table_bytes.specs.Strict.{Grain, by_part, by_value, regions, offset_regions, part_regions, target_place, AreLaidOut}
use Rattle.ipc_table_bytes.proofs.LaidOut.{AreLaidOut-append, AreLaidOut-later}
use Rattle.ipc_table_bytes.specs.Pads.{le, missing, short, zeros}
use Rattle.ipc_table_bytes.specs.Parts.{joined_parts, offsets, gap_after, vector_bytes, text_bytes, elements_bytes, Stands, IsPart, AreParts, end_parts, is_part}
use Rattle.ipc_table_views.specs.Tables.{bytes_at, number_at, target_at, text_at, vector_at, and_then, as_text}
use Rattle.ipc_table_bytes.proofs.Lengths.{length-le}
use Rattle.ipc_table_bytes.proofs.VectorLengths.{length-elements, length-offsets, length-text, length-vector}
use Rattle.ipc_table_bytes.proofs.Standing.{stands-first, stands-then, stands-at, stands-inside, number_at-stands, bytes_at-stands}
use Rattle.ipc_table_bytes.proofs.TableHolds.{part-at, laid-at, same-end, target-is, whole-by}

text-is : (m s : List ℕ) (t : ℕ) → number_at 4 m t ≡ Ok (length s) → bytes_at (length s) m (t + 4) ≡ Ok s → is_utf8 s ≡ true → text_at m t ≡ Ok s
unfolding text_at
text-is m s t e f g =
    ap (λ r. and_then r (λ count. and_then (bytes_at count m (t + 4)) as_text)) e
    ∙ ap (λ r. and_then r as_text) f ∙ ap (λ (b : Bool). if b then Ok s else Err Utf8) g

vector-is : (m : List ℕ) (t size count : ℕ) → number_at 4 m t ≡ Ok count → t + 4 + size * count ≤ length m → vector_at size m t ≡ Ok (vector m (t + 4) count)
unfolding vector_at
vector-is m t size count e f = grind (arith, nat_tests)

-- no more elements than bytes
at-most : (size count : ℕ) → 0 < size → count ≤ size * count
at-most zero count h = absurd (omega arith)
at-most (suc size) count h = omega (arith, suc-mul size count)

zero-byte : (0 ∷ []) ≡ le 1 0
unfolding le
zero-byte = refl

pub IsPart-text : (built : Built) (s : List ℕ) → built.bytes.items ≡ text_bytes s → built.entry ≡ 0 → is_utf8 s ≡ true → IsPart built (text s)
unfolding text_bytes
IsPart-text built s bytes entry valid =
    let n = short (length s) in
    let long = length-text s in
    let size : length built.bytes.items ≡ size_of (text s) = ap length bytes ∙ long in
    record {
      size = size;
      laid = λ g small m p st. (omega arith, omega arith, omega arith);
      holds = λ small m p st.
          let same : n ≡ length s = omega arith in
          let all = subst (λ (r : List ℕ). Stands m (8 * p) r) bytes st in
          let with_zero = stands-first m _ ((le 4 n ++ s) ++ 0 ∷ []) _ all in
          let both = stands-first m _ (le 4 n ++ s) (0 ∷ []) with_zero in
          let count = number_at-stands m (8 * p) 4 4 n (omega arith) (omega arith) (stands-first m _ (le 4 n) s both) ∙ ap (λ (k : ℕ). Ok k) same in
          let here = bytes_at-stands m (8 * p + 4) s (stands-then m (8 * p) (8 * p + 4) (le 4 n) s (omega (arith, length-le 4 n)) both) in
          let zero_on = stands-then m (8 * p) (8 * p + (4 + length s)) (le 4 n ++ s) (0 ∷ []) (omega (arith, length-append (le 4 n) s, length-le 4 n)) with_zero in
          let ends = number_at-stands m _ 1 1 0 (omega arith) (omega arith) (subst (λ (r : List ℕ). Stands m (8 * p + (4 + length s)) r) zero-byte zero_on) in
          let e : 8 * p + (4 + length s) ≡ 8 * p + 4 + length s = omega arith in
          let f : 8 * p ≡ 8 * p + built.entry = omega arith in
          subst (λ (k : ℕ). HoldsPart m k (text s)) f
          (text-is m s (8 * p) count here valid, subst (λ (k : ℕ). number_at 1 m k ≡ Ok 0) e ends);
    }

elements-laid : (g : Grain) (m : List ℕ) (lo t hi align size count : ℕ) (raw : List ℕ) → lo ≤ t → t % 8 ≡ 4 → 8 % align ≡ 0 → t + (4 + size * count) ≤ hi
    → AreLaidOut lo (regions g m t (elements align size count raw)) hi
elements-laid by_part m lo t hi align size count raw h at whole end = (h, omega arith, end)
elements-laid by_value m lo t hi align size count raw h at whole end = (h, omega arith, (omega arith, whole-by align (t + 4) whole (omega arith), omega arith))

pub IsPart-elements : (built : Built) (align size count : ℕ) (raw : List ℕ) → built.bytes.items ≡ elements_bytes count raw → built.entry ≡ 4 → 8 % align ≡ 0 → 0 < size → length raw ≡ size * count → IsPart built (elements align size count raw)
unfolding elements_bytes
IsPart-elements built align size count raw bytes entry whole some e =
    let n = short count in
    let long = length-elements count raw in
    let total : length built.bytes.items ≡ size_of (elements align size count raw) = ap length bytes ∙ long in
    record {
      size = total;
      laid = λ g small m p st.
          let hi : 8 * p + built.entry + (4 + size * count) ≤ 8 * p + length built.bytes.items = omega (arith, total) in
          elements-laid g m (8 * p) (8 * p + built.entry) _ align size count raw (omega arith) (omega arith) whole hi;
      holds = λ small m p st.
          let few = at-most size count some in
          let same : n ≡ count = omega arith in
          let all = subst (λ (r : List ℕ). Stands m (8 * p) r) bytes st in
          let body = stands-first m _ ((le 4 0 ++ le 4 n) ++ raw) _ all in
          let second = stands-then m (8 * p) (8 * p + 4) (le 4 0) (le 4 n) (omega (arith, length-le 4 0)) (stands-first m _ (le 4 0 ++ le 4 n) raw body) in
          let number = number_at-stands m (8 * p + 4) 4 4 n (omega arith) (omega arith) second ∙ ap (λ (k : ℕ). Ok k) same in
          let there = stands-then m (8 * p) (8 * p + 4 + 4) (le 4 0 ++ le 4 n) raw (omega (arith, length-append (le 4 0) (le 4 n), length-le 4 0, length-le 4 n)) body in
          let here = bytes_at-stands m (8 * p + 4 + 4) raw there in
          subst (λ (k : ℕ). HoldsPart m (8 * p + k) (elements align size count raw)) (sym entry) (
            vector-is m (8 * p + 4) size count number (omega (arith, stands-inside m (8 * p + 4 + 4) raw there)),
            ap (λ (n : ℕ). bytes_at n m (8 * p + 4 + 4)) (sym e) ∙ here,
          );
    }

count-is : (parts : List Built) (xs : Parts) → AreParts parts xs → count_parts xs ≡ length parts
count-is _ _ end_parts = refl
count-is _ _ (is_part {parts = parts} {rest = rest} is a) = omega (arith, count-is parts rest a)

length-joined : (parts : List Built) (xs : Parts) → AreParts parts xs → length (joined_parts parts) ≡ parts_size xs
length-joined _ _ end_parts = refl
length-joined _ _ (is_part {parts = parts} {rest = rest} {y = y} is a) =
    omega (arith, is.size, length-append y.bytes.items (joined_parts parts), length-joined parts rest a)

-- The offsets from offset q on, and the parts after them and a gap; the earlier parts take u bytes.
record Row (m : List ℕ) (q gap u : ℕ) (parts : List Built) : Type 0 where
  offset : Stands m q (offsets gap u parts)
  followed : Stands m (q + 4 * length parts + gap + u) (joined_parts parts)
  whole : (q + 4 * length parts + gap + u) % 8 ≡ 0
  small : 4 * length parts + gap + u + length (joined_parts parts) < 2 ^ 31

-- What the first offset leads to.
offset-is : (m : List ℕ) (q gap u : ℕ) (y : Built) (parts : List Built) → Row m q gap u (y ∷ parts)
    → target_at m q ≡ Ok (q + (4 * (length parts + 1) + (gap + u) + y.entry))
offset-is m q gap u y parts r =
    let o = 4 * (length parts + 1) + (gap + u) + y.entry in
    let cut = length-append y.bytes.items (joined_parts parts) in
    let small = r.small in
    let entry : y.entry < 2 ^ 16 = y.near in
    let same : short o ≡ o = omega arith in
    target-is m q o (number_at-stands m q 4 4 (short o) (omega arith) (omega arith) (stands-first m q (le 4 (short o)) _ r.offset) ∙ ap (λ (k : ℕ). Ok k) same)

-- the offsets and parts after the first
next-row : (m : List ℕ) (q gap u : ℕ) (y : Built) (parts : List Built) → Row m q gap u (y ∷ parts) → Row m (q + 4) gap (u + length y.bytes.items) parts
next-row m q gap u y parts r =
    let o = short (4 * (length parts + 1) + (gap + u) + y.entry) in
    let cut = length-append y.bytes.items (joined_parts parts) in
    let small = r.small in
    let whole = r.whole in
    let length_is : length y.bytes.items % 8 ≡ 0 = y.whole in
    record {
      offset = stands-then m q (q + 4) (le 4 o) _ (omega (arith, length-le 4 o)) r.offset;
      followed = stands-then m _ _ y.bytes.items (joined_parts parts) (omega arith) r.followed;
      whole = omega arith;
      small = omega arith;
    }

-- The first part is where its offset leads to.
first-stands : (m : List ℕ) (q gap u : ℕ) (y : Built) (parts : List Built) → Row m q gap u (y ∷ parts) → Stands m (q + 4 * (length parts + 1) + gap + u) y.bytes.items
first-stands m q gap u y parts r = stands-first m _ y.bytes.items (joined_parts parts) (stands-at m _ _ _ (omega arith) r.followed)

first-small : (m : List ℕ) (q gap u : ℕ) (y : Built) (parts : List Built) → Row m q gap u (y ∷ parts) → length y.bytes.items < 2 ^ 31
first-small m q gap u y parts r = omega (arith, r.small, length-append y.bytes.items (joined_parts parts))

parts-hold : (m : List ℕ) (q gap u : ℕ) (parts : List Built) (xs : Parts) → AreParts parts xs → Row m q gap u parts → HoldsParts m q xs
parts-hold m q gap u _ _ end_parts r = tt
parts-hold m q gap u _ _ (is_part {parts = parts} {rest = rest} {y = y} {x = x} is a) r =
    let o = 4 * (length parts + 1) + (gap + u) + y.entry in
    let whole = r.whole in (
      (
        q + o,
        offset-is m q gap u y parts r,
        part-at m (q + 4 * (length parts + 1) + gap + u) (q + o) y x is (first-small m q gap u y parts r) (omega arith) (omega arith) (first-stands m q gap u y parts r),
      ),
      parts-hold m (q + 4) gap (u + length y.bytes.items) parts rest a (next-row m q gap u y parts r),
    )

offsets-laid : (q : ℕ) (xs : Parts) → q % 4 ≡ 0 → AreLaidOut q (offset_regions q xs) (q + 4 * count_parts xs)
offsets-laid q no_parts h = omega arith
offsets-laid q (part x rest) h =
    (omega arith, h, same-end _ (q + 4) _ _ _ (omega arith) (omega arith) (offsets-laid (q + 4) rest (omega arith)))

parts-laid : (g : Grain) (m : List ℕ) (q gap u : ℕ) (parts : List Built) (xs : Parts) → AreParts parts xs → Row m q gap u parts
    → AreLaidOut (q + 4 * length parts + gap + u) (part_regions g m q xs) (q + 4 * length parts + gap + u + length (joined_parts parts))
parts-laid g m q gap u _ _ end_parts r = omega arith
parts-laid g m q gap u _ _ (is_part {parts = parts} {rest = rest} {y = y} {x = x} is a) r =
    let o = 4 * (length parts + 1) + (gap + u) + y.entry in
    let cut = length-append y.bytes.items (joined_parts parts) in
    let whole = r.whole in
    let here = q + 4 * length (y ∷ parts) + gap + u in
    let hi = here + length (y.bytes.items ++ joined_parts parts) in
    subst (λ (k : ℕ). AreLaidOut here (regions g m k x ++ part_regions g m (q + 4) rest) hi) (sym (ap target_place (offset-is m q gap u y parts r)))
    (AreLaidOut-append here (here + length y.bytes.items) hi (regions g m (q + o) x) (part_regions g m (q + 4) rest)
    (laid-at g m here (q + o) _ y x is (first-small m q gap u y parts r) (omega arith) (omega arith) refl (stands-first m here y.bytes.items _ r.followed))
    (same-end _ _ _ hi (part_regions g m (q + 4) rest) (omega arith) (omega arith)
    (parts-laid g m (q + 4) gap (u + length y.bytes.items) parts rest a (next-row m q gap u y parts r))))

gap-whole : (p n : ℕ) → (8 * p + 4 + 4 * n + missing (4 + 4 * n) + 0) % 8 ≡ 0
gap-whole p n = omega arith

row-of : (m : List ℕ) (p : ℕ) (parts : List Built) → length (vector_bytes parts) < 2 ^ 31 → Stands m (8 * p) (vector_bytes parts) → Row m (8 * p + 4) (gap_after parts) 0 parts
unfolding vector_bytes
row-of m p parts small all =
    let n = length parts in
    let s = short n in
    let gap = gap_after parts in
    let long = length-vector parts in
    let cut = length-append (le 4 s) (offsets gap 0 parts) in
    let four = length-le 4 s in
    let off = length-offsets gap 0 parts in
    let pads = length-replicate {A = ℕ} gap 0 in
    let head = stands-first m (8 * p) (le 4 s ++ offsets gap 0 parts) _ all in
    let tail = stands-then m (8 * p) (8 * p + (4 + 4 * n)) (le 4 s ++ offsets gap 0 parts) _ (omega arith) all in
    record {
      offset = stands-then m (8 * p) (8 * p + 4) (le 4 s) _ (omega arith) head;
      followed = stands-then m (8 * p + (4 + 4 * n)) _ (zeros gap) (joined_parts parts) (omega arith) tail;
      whole = gap-whole p n;
      small = omega arith;
    }

count-stands : (m : List ℕ) (p : ℕ) (parts : List Built) → length parts < 2 ^ 31 → Stands m (8 * p) (vector_bytes parts) → number_at 4 m (8 * p) ≡ Ok (length parts)
unfolding vector_bytes
count-stands m p parts h all =
    let s = short (length parts) in
    let same : s ≡ length parts = omega arith in
    number_at-stands m (8 * p) 4 4 s (omega arith) (omega arith) (stands-first m _ (le 4 s) _ (stands-first m (8 * p) (le 4 s ++ offsets (gap_after parts) 0 parts) _ all))
    ∙ ap (λ (k : ℕ). Ok k) same

-- the parts, after the offsets and a gap
rest-laid : (g : Grain) (m : List ℕ) (p : ℕ) (parts : List Built) (xs : Parts) → AreParts parts xs → length (vector_bytes parts) < 2 ^ 31 → Row m (8 * p + 4) (gap_after parts) 0 parts
    → AreLaidOut (8 * p + (4 + 4 * count_parts xs)) (part_regions g m (8 * p + 4) xs) (8 * p + length (vector_bytes parts))
rest-laid g m p parts xs are small row =
    let n = length parts in
    let gap = gap_after parts in
    let long = length-vector parts in
    let count = count-is parts xs are in
    same-end _ (8 * p + 4 + 4 * n + gap + 0) _ (8 * p + length (vector_bytes parts)) _ (omega arith) (omega arith) (parts-laid g m (8 * p + 4) gap 0 parts xs are row)

tables-laid : (g : Grain) (m : List ℕ) (p : ℕ) (parts : List Built) (xs : Parts) → AreParts parts xs → length (vector_bytes parts) < 2 ^ 31 → Row m (8 * p + 4) (gap_after parts) 0 parts
    → AreLaidOut (8 * p) (regions g m (8 * p) (tables xs)) (8 * p + length (vector_bytes parts))
tables-laid by_part m p parts xs are small row = (omega arith, omega arith, rest-laid by_part m p parts xs are small row)
tables-laid by_value m p parts xs are small row =
    let hi = 8 * p + length (vector_bytes parts) in (
      omega arith,
      omega arith,
      AreLaidOut-append (8 * p + 4) (8 * p + 4 + 4 * count_parts xs) hi (offset_regions (8 * p + 4) xs) (part_regions by_value m (8 * p + 4) xs)
          (offsets-laid (8 * p + 4) xs (omega arith))
          (AreLaidOut-later _ (8 * p + (4 + 4 * count_parts xs)) _ _ (omega arith) (rest-laid by_value m p parts xs are small row)),
    )

pub IsPart-tables : (built : Built) (parts : List Built) (xs : Parts) → built.bytes.items ≡ vector_bytes parts → built.entry ≡ 0 → AreParts parts xs → IsPart built (tables xs)
IsPart-tables built parts xs bytes entry are =
    let n = length parts in
    let long = length-vector parts in
    let short = λ (small : length built.bytes.items < 2 ^ 31). subst (λ (r : List ℕ). length r < 2 ^ 31) bytes small in
    let stands = λ (m : List ℕ) (p : ℕ) (s : Stands m (8 * p) built.bytes.items). subst (λ (r : List ℕ). Stands m (8 * p) r) bytes s in
    let e = λ (p : ℕ). let k : 8 * p ≡ 8 * p + built.entry = omega arith in k in
    record {
      size = omega (arith, ap length bytes, count-is parts xs are, length-joined parts xs are);
      holds = λ small m p s.
          let all = stands m p s in
          let within : length (vector_bytes parts) < 2 ^ 31 = short small in
          let row = row-of m p parts within all in
          subst (λ (k : ℕ). HoldsPart m k (tables xs)) (e p) (
            subst (λ (k : ℕ). vector_at 4 m (8 * p) ≡ Ok (vector m (8 * p + 4) k)) (sym (count-is parts xs are))
                (vector-is m (8 * p) 4 n (count-stands m p parts (omega arith) all) (let i = stands-inside m (8 * p + 4) _ row.offset in let off = length-offsets (gap_after parts) 0 parts in omega arith)),
            parts-hold m (8 * p + 4) (gap_after parts) 0 parts xs are row,
          );
      laid = λ g small m p s.
          subst (λ (k : ℕ). AreLaidOut (8 * p) (regions g m k (tables xs)) (8 * p + length built.bytes.items)) (e p)
          (subst (λ (k : List ℕ). AreLaidOut (8 * p) (regions g m (8 * p) (tables xs)) (8 * p + length k)) (sym bytes)
          (tables-laid g m p parts xs are (short small) (row-of m p parts (short small) (stands m p s))));
    }
