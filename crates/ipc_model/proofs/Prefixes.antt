-- What is read of the first bytes stays if bytes follow.
use Rattle.std.proofs.Common.{◌≡◌, ℕ, pos, ◌+◌, ◌-◌, ◌*◌, ◌/◌, ◌%◌, ◌^◌, ◌<◌, ◌≤◌, ◌==◌, List, ◌++◌, length, take, drop, refl, ap, ◌∙◌, arith, length-drop}
use Rattle.std.specs.Prelude.{slice_range}
use Rattle.std.specs.Int.{Width, byte_len, cast_signed, w8, w16, w32, w64, w128}
use Rattle.std.proofs.Math.Nat.{mul-le-mul_left}
use Rattle.std.proofs.lemmas.List.{take-append-le, drop-append-le, get_or_append_left}
use Rattle.byteorder.specs.Numbers.{little_from-append, big_from-append}
use Rattle.lower_types.specs.NumberTypes.{whole, wide, day_time, month_day_nano, width_of, number_in}
use Rattle.lower_types.specs.Numbers.{unsigned_in, signed_in, byte_in}
use Rattle.lower_types.specs.declared.Endianness.{Endianness}
use Rattle.lower_types.specs.declared.Endianness.TheVariants.{Little, Big}
use Rattle.lower_types.specs.declared.PrimitiveType.{PrimitiveType}
use Rattle.lower_types.specs.declared.PrimitiveType.TheVariants.{Int8, Int16, Int32, Int64, Int128, Int256, UInt8, UInt16, UInt32, UInt64, Float16, Float32, Float64, DaysMs, MonthDayNano}
use Rattle.ipc_model.specs.Entries.{bytes_for, bit}

pub unsigned-append : (n : ℕ) (order : Endianness) (xs ys : List ℕ) → n ≤ length xs → unsigned_in n order (xs ++ ys) ≡ unsigned_in n order xs
unsigned-append n Little xs ys h = little_from-append n xs ys h
unsigned-append n Big xs ys h = big_from-append n xs ys h

signed-append : (w : Width) (order : Endianness) (xs ys : List ℕ) → byte_len w ≤ length xs → signed_in w order (xs ++ ys) ≡ signed_in w order xs
signed-append w order xs ys h = ap (cast_signed w) (unsigned-append (byte_len w) order xs ys h)

-- The same from an offset on.
signed-drop : (w : Width) (order : Endianness) (n : ℕ) (xs ys : List ℕ) → n + byte_len w ≤ length xs → signed_in w order (drop n (xs ++ ys)) ≡ signed_in w order (drop n xs)
signed-drop w order n xs ys h =
    let inside : n ≤ length xs = omega arith in
    let long : byte_len w ≤ length (drop n xs) = omega (arith, h, length-drop n xs) in
    ap (signed_in w order) (drop-append-le n xs ys inside) ∙ signed-append w order (drop n xs) ys long

unsigned-drop : (w : ℕ) (order : Endianness) (n : ℕ) (xs ys : List ℕ) → n + w ≤ length xs → unsigned_in w order (drop n (xs ++ ys)) ≡ unsigned_in w order (drop n xs)
unsigned-drop w order n xs ys h =
    let inside : n ≤ length xs = omega arith in
    let long : w ≤ length (drop n xs) = omega (arith, h, length-drop n xs) in
    ap (unsigned_in w order) (drop-append-le n xs ys inside) ∙ unsigned-append w order (drop n xs) ys long

byte-append : (order : Endianness) (xs ys : List ℕ) → 1 ≤ length xs → byte_in order (xs ++ ys) ≡ byte_in order xs
byte-append order xs ys h = get_or_append_left xs ys 0 0 (omega arith)

pub number-append : (p : PrimitiveType) (order : Endianness) (xs ys : List ℕ) → width_of p ≤ length xs → number_in p order (xs ++ ys) ≡ number_in p order xs
number-append Int8 order xs ys h = ap (λ b. whole (cast_signed w8 b)) (byte-append order xs ys h)
number-append Int16 order xs ys h = ap whole (signed-append w16 order xs ys h)
number-append Int32 order xs ys h = ap whole (signed-append w32 order xs ys h)
number-append Int64 order xs ys h = ap whole (signed-append w64 order xs ys h)
number-append Int128 order xs ys h = ap whole (signed-append w128 order xs ys h)
number-append Int256 Little xs ys h =
    let high = signed-drop w128 Little 16 xs ys h in
    let low = unsigned-append 16 Little xs ys (omega (arith, h)) in
    ap (λ z. wide z (unsigned_in 16 Little (xs ++ ys))) high ∙ ap (λ n. wide (signed_in w128 Little (drop 16 xs)) n) low
number-append Int256 Big xs ys h =
    let high = signed-append w128 Big xs ys (omega (arith, h)) in
    let low = unsigned-drop 16 Big 16 xs ys h in
    ap (λ z. wide z (unsigned_in 16 Big (drop 16 (xs ++ ys)))) high ∙ ap (λ n. wide (signed_in w128 Big xs) n) low
number-append UInt8 order xs ys h = ap (λ b. whole (pos b)) (byte-append order xs ys h)
number-append UInt16 order xs ys h = ap (λ b. whole (pos b)) (unsigned-append 2 order xs ys h)
number-append UInt32 order xs ys h = ap (λ b. whole (pos b)) (unsigned-append 4 order xs ys h)
number-append UInt64 order xs ys h = ap (λ b. whole (pos b)) (unsigned-append 8 order xs ys h)
number-append Float16 order xs ys h = refl
number-append Float32 order xs ys h = refl
number-append Float64 order xs ys h = refl
number-append DaysMs order xs ys h =
    let first = signed-append w32 order xs ys (omega (arith, h)) in
    let second = signed-drop w32 order 4 xs ys (omega (arith, h)) in
    ap (λ x. day_time x (signed_in w32 order (drop 4 (xs ++ ys)))) first ∙ ap (λ y. day_time (signed_in w32 order xs) y) second
number-append MonthDayNano order xs ys h =
    let first = signed-append w32 order xs ys (omega (arith, h)) in
    let second = signed-drop w32 order 4 xs ys (omega (arith, h)) in
    let third = signed-drop w64 order 8 xs ys (omega (arith, h)) in
    ap (λ x. month_day_nano x (signed_in w32 order (drop 4 (xs ++ ys))) (signed_in w64 order (drop 8 (xs ++ ys)))) first
    ∙ ap (λ y. month_day_nano (signed_in w32 order xs) y (signed_in w64 order (drop 8 (xs ++ ys)))) second
    ∙ ap (λ z. month_day_nano (signed_in w32 order xs) (signed_in w32 order (drop 4 xs)) z) third

-- value i of k values of w bytes
pub value_room : (w k i n : ℕ) → i < k → w * k ≤ n → w * i + w ≤ n
value_room w k i n h room = let next : i + 1 ≤ k = omega arith in omega (arith, mul-le-mul_left w next, room)

pub number_at-append : (p : PrimitiveType) (order : Endianness) (k i : ℕ) (xs ys : List ℕ) → i < k → width_of p * k ≤ length xs
    → number_in p order (drop (width_of p * i) (xs ++ ys)) ≡ number_in p order (drop (width_of p * i) xs)
number_at-append p order k i xs ys h room =
    let far = value_room (width_of p) k i (length xs) h room in
    let inside : width_of p * i ≤ length xs = omega (arith, far) in
    let long : width_of p ≤ length (drop (width_of p * i) xs) = omega (arith, far, length-drop (width_of p * i) xs) in
    ap (number_in p order) (drop-append-le (width_of p * i) xs ys inside) ∙ number-append p order (drop (width_of p * i) xs) ys long

pub unsigned_at-append : (w : ℕ) (order : Endianness) (k i : ℕ) (xs ys : List ℕ) → i < k → w * k ≤ length xs
    → unsigned_in w order (drop (w * i) (xs ++ ys)) ≡ unsigned_in w order (drop (w * i) xs)
unsigned_at-append w order k i xs ys h room =
    let far = value_room w k i (length xs) h room in
    let inside : w * i ≤ length xs = omega (arith, far) in
    let long : w ≤ length (drop (w * i) xs) = omega (arith, far, length-drop (w * i) xs) in
    ap (unsigned_in w order) (drop-append-le (w * i) xs ys inside) ∙ unsigned-append w order (drop (w * i) xs) ys long

pub bit-append : (k i : ℕ) (xs ys : List ℕ) → i < k → bytes_for k ≤ length xs → bit (xs ++ ys) i ≡ bit xs i
bit-append k i xs ys h room =
    let inside : i / 8 < length xs = omega arith in
    ap (λ v. (v / 2 ^ (i % 8)) % 2 == 1) (get_or_append_left xs ys 0 (i / 8) inside)

pub slice-append : (xs ys : List ℕ) (a b : ℕ) → a ≤ b → b ≤ length xs → slice_range (xs ++ ys) a b ≡ slice_range xs a b
slice-append xs ys a b h room =
    let inside : a ≤ length xs = omega arith in
    let long : b - a ≤ length (drop a xs) = omega (arith, h, room, length-drop a xs) in
    ap (take (b - a)) (drop-append-le a xs ys inside) ∙ take-append-le (b - a) (drop a xs) ys long
