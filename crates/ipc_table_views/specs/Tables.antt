-- Tables of a message, which is a list of bytes; offsets count from 0.
-- (Flatbuffers, "Internals": tables, vtables, vectors, strings, unions.)
use Rattle.std.specs.Prelude.{ℕ, ◌+◌, ◌-◌, ◌*◌, ◌^◌, List, length, drop, take, nat_lt, nat_le, nat_eq, Bool, not, if◌then◌else◌, Option, Some, None, option_map, Result, Ok, Err}
use Rattle.ipc_table_views.specs.Spot.{Spot, Vector}
use Rattle.std.specs.Borrow.{Bor}
use Rattle.std.specs.Str.{is_utf8}
use Rattle.byteorder.specs.Endian.{little_number}
use Rattle.ipc_devices.specs.declared.fault.TableFault.{TableFault}
use Rattle.ipc_devices.specs.declared.fault.TableFault.TheVariants.{Outside, Vtable, UnknownTag, Utf8, MissingValue}

-- The next step, unless one before it failed.
abbrev pub and_then : {T U : Type 0} → Result T TableFault → (T → Result U TableFault) → Result U TableFault
and_then (Ok x) f = f x
and_then (Err e) f = Err e

-- The value of a step as something else.
abbrev pub map_ok : {T U : Type 0} → (T → U) → Result T TableFault → Result U TableFault
map_ok f (Ok x) = Ok (f x)
map_ok f (Err e) = Err e

-- The bytes from an offset on, which must be inside the message.
abbrev pub bytes_at : ℕ → List ℕ → ℕ → Result (List ℕ) TableFault
bytes_at count m p = if nat_le (p + count) (length m) then Ok (take count (drop p m)) else Err Outside

-- The number of `width` bytes at an offset, the lowest byte first.
unfoldable pub number_at : ℕ → List ℕ → ℕ → Result ℕ TableFault
number_at width m p = map_ok (little_number width) (bytes_at width m p)

-- An offset less a signed 32-bit number, given by its bits.
abbrev pub before : ℕ → ℕ → Result ℕ TableFault
before p bits =
    if nat_lt bits (2 ^ 31) then (if nat_le bits p then Ok (p - bits) else Err Outside)
    else Ok (p + (2 ^ 32 - bits))

-- The offset of the vtable of the table at p.
abbrev pub vtable_at : List ℕ → ℕ → Result ℕ TableFault
vtable_at m p = and_then (number_at 4 m p) (before p)

-- The vtable of a table: its offset and its size.
abbrev pub Opened : Type 0
Opened = ℕ × ℕ

-- The vtable at offset v.
abbrev pub open_vtable : List ℕ → ℕ → Result Opened TableFault
open_vtable m v =
    and_then (number_at 2 m v) (λ size. and_then (number_at 2 m (v + 2)) (λ _. if nat_lt size 4 then Err Vtable else Ok (v, size)))

-- The vtable of the table at p.
unfoldable pub table_at : List ℕ → ℕ → Result Opened TableFault
table_at m p = and_then (vtable_at m p) (open_vtable m)

-- The offset of a field's value, for the vtable at v.
abbrev pub entry_at : List ℕ → ℕ → ℕ → ℕ → Result (Option ℕ) TableFault
entry_at m p v i = map_ok (λ o. if nat_eq o 0 then None else Some (p + o)) (number_at 2 m (v + 4 + 2 * i))

-- The offset of the value of field i of the table at p.
unfoldable pub slot_at : List ℕ → ℕ → ℕ → Result (Option ℕ) TableFault
slot_at m p i =
    and_then (table_at m p) (λ t. if nat_lt t.1 (4 + 2 * i + 2) then Ok None else entry_at m p t.0 i)

-- The table at p, if it is valid.
unfoldable pub spot_at : List ℕ → ℕ → Result Spot TableFault
spot_at m p = map_ok (λ _. record { message = m; place = p }) (table_at m p)

-- The value of a field that may be absent.
abbrev pub of_slot : {T : Type 0} → Result (Option ℕ) TableFault → (ℕ → Result T TableFault) → Result (Option T) TableFault
of_slot (Ok None) read = Ok None
of_slot (Ok (Some q)) read = map_ok Some (read q)
of_slot (Err e) read = Err e

-- A value that may be absent, or the default.
abbrev pub or_default : {T : Type 0} → T → Result (Option T) TableFault → Result T TableFault
or_default d (Ok None) = Ok d
or_default d (Ok (Some x)) = Ok x
or_default d (Err e) = Err e

-- A boolean is true if its byte isn't 0.
abbrev pub flag : ℕ → Bool
flag n = not (nat_eq n 0)

-- The number of field i, with a default.
abbrev pub number_slot : ℕ → ℕ → List ℕ → ℕ → ℕ → Result ℕ TableFault
number_slot width d m p i = or_default d (of_slot (slot_at m p i) (number_at width m))

-- The offset that the offset at q leads to.
unfoldable pub target_at : List ℕ → ℕ → Result ℕ TableFault
target_at m q = map_ok (λ o. q + o) (number_at 4 m q)

-- The bytes as a text, if they are UTF-8.
abbrev pub as_text : List ℕ → Result (List ℕ) TableFault
as_text bytes = if is_utf8 bytes then Ok bytes else Err Utf8

-- The text at t: its length and its bytes.
unfoldable pub text_at : List ℕ → ℕ → Result (List ℕ) TableFault
text_at m t = and_then (number_at 4 m t) (λ count. and_then (bytes_at count m (t + 4)) as_text)

-- The elements of the vector at t, of `width` bytes each.
unfoldable pub vector_at : ℕ → List ℕ → ℕ → Result Vector TableFault
vector_at width m t = and_then (number_at 4 m t)
    (λ count. map_ok (λ _. record { message = m; place = t + 4; count = count }) (bytes_at (width * count) m (t + 4)))

-- The text in field i, which may be absent.
abbrev pub text_slot : List ℕ → ℕ → ℕ → Result (Option (List ℕ)) TableFault
text_slot m p i = of_slot (slot_at m p i) (λ q. and_then (target_at m q) (text_at m))

-- The table in field i, which may be absent.
abbrev pub table_slot : List ℕ → ℕ → ℕ → Result (Option Spot) TableFault
table_slot m p i = of_slot (slot_at m p i) (λ q. and_then (target_at m q) (spot_at m))

-- The vector in field i, which may be absent.
abbrev pub vector_slot : ℕ → List ℕ → ℕ → ℕ → Result (Option Vector) TableFault
vector_slot width m p i = of_slot (slot_at m p i) (λ q. and_then (target_at m q) (vector_at width m))

-- Element k of a vector of tables.
unfoldable pub table_in : Vector → ℕ → Result Spot TableFault
table_in v k = and_then (target_at v.message (v.place + 4 * k)) (spot_at v.message)

-- A value that must be present.
abbrev pub present : {T : Type 0} → Option T → Result T TableFault
present None = Err MissingValue
present (Some x) = Ok x

-- The tag and the table of the union in the fields i and i + 1, with tags from 1 to `last`.
abbrev pub union_slot : ℕ → List ℕ → ℕ → ℕ → Result (Option (ℕ × Spot)) TableFault
union_slot last m p i =
    and_then (number_slot 1 0 m p i) (λ tag. if nat_eq tag 0 then Ok None
    else if nat_lt last tag then Err UnknownTag
    else map_ok (λ t. Some (tag, t)) (and_then (table_slot m p (i + 1)) present))

-- The bytes of a text that may be absent.
abbrev pub texts : Result (Option (Bor (List ℕ))) TableFault → Result (Option (List ℕ)) TableFault
texts r = map_ok (option_map (λ s. s.now)) r

-- The root table, whose offset is the message's first four bytes.
abbrev pub root_at : List ℕ → Result Spot TableFault
root_at m = and_then (number_at 4 m 0) (spot_at m)
