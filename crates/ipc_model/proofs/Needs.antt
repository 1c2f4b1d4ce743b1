-- The nodes of a column, and the bytes that it needs.
use Rattle.std.proofs.Common.{◌≡◌, refl, Bool, true, false, nat_lt, Decides, ℕ, ◌+◌, ◌*◌, ◌<◌, ◌≤◌, ◌↔◌, ℤ, pos, negsuc, length, drop, length-take, length-drop, arith, List, inl, inr}
use Rattle.std.proofs.lemmas.Bool.{cases_lt}
use Rattle.std.proofs.lemmas.Bool.Decides.{Decides-ltb}
use Rattle.std.proofs.Math.Nat.{mul-add, mul-one, mul-le-mul_left}
use Rattle.ipc_model.specs.Kinds.{null_kind, boolean_kind, number_kind, float_kind, fixed_binary_kind, binary_kind, utf8_kind, list_kind, map_kind, fixed_list_kind, struct_kind, union_kind, dictionary_kind, extension_kind}
use Rattle.lower_types.specs.NumberTypes.{width_of}
use Rattle.ipc_model.specs.Entries.{IsSize, size, bytes_from, bytes}
use Rattle.ipc_model.specs.Laws.{NodeLaw, NeedLaw, NumberLaw}

pub node_law : NodeLaw
node_law null_kind = omega arith
node_law boolean_kind = omega arith
node_law (number_kind f) = omega arith
node_law float_kind = omega arith
node_law (fixed_binary_kind n) = omega arith
node_law (binary_kind w) = omega arith
node_law (utf8_kind w) = omega arith
node_law (list_kind w t) = omega arith
node_law (map_kind t) = omega arith
node_law (fixed_list_kind n t) = omega arith
node_law (struct_kind ts) = omega arith
node_law (union_kind mode ids ts) = omega arith
node_law (dictionary_kind f id t) = omega arith
node_law (extension_kind t) = node_law t

part_need : (source : List ℕ) (base : ℕ) (o l : ℤ) (d : ℕ)
    → (IsSize o × (d ≤ size l) × (d ≤ length (bytes_from source base o l))) ↔ (IsSize o × (0 < d → (d ≤ size l) × (base + size o + d ≤ length source)))
part_need source base (pos o) (pos l) d = (
  λ v. (v.0, λ some. (v.1, omega (arith, v.2, some, length-take l (drop (base + o) source), length-drop {A = ℕ} (base + o) source))),
  λ v. elim (cases_lt 0 d) [
    | inl some ↦ (v.0, (v.1 some).0, omega (arith, v.1 some, length-take l (drop (base + o) source), length-drop {A = ℕ} (base + o) source))
    | inr none ↦ (v.0, omega (arith, none), omega (arith, none))
  ],
)
part_need source base (pos o) (negsuc l) d = (
  λ v. (v.0, λ some. absurd (omega (arith, v.1, some))),
  λ v. elim (cases_lt 0 d) [ inl some ↦ absurd (omega (arith, v.1 some, some)) | inr none ↦ (v.0, none, omega (arith, none)) ],
)
part_need source base (negsuc o) l d = (λ v. absurd v.0.le, λ v. absurd v.0.le)

pub need_law : NeedLaw
need_law source base r d = part_need source base r.offset r.length d

not_so : (b : Bool) (P : Type 0) → Decides b P → (P → ⊥) → b ≡ false
not_so true P d never = absurd (never (d.0 refl))
not_so false P d never = refl

not_below : (m n : ℕ) → n ≤ m → nat_lt m n ≡ false
not_below m n h = not_so (nat_lt m n) (m < n) (Decides-ltb m n) (λ l. absurd (omega (arith, h, l)))

pub number_law : NumberLaw
number_law s f b k i need h =
    let more : width_of f * (i + 1) ≤ width_of f * k = mul-le-mul_left (width_of f) (omega (arith, h)) in
    let apart : width_of f * (i + 1) ≡ width_of f * i + width_of f * 1 = mul-add (width_of f) i 1 in
    let one : width_of f * 1 ≡ width_of f = mul-one (width_of f) in
    let inside : nat_lt (length (bytes s b)) (width_of f * i + width_of f) ≡ false =
    not_below (length (bytes s b)) (width_of f * i + width_of f) (omega (arith, more, apart, one, need.2)) in
    record { number = rw inside refl; integer_is = rw inside refl }
