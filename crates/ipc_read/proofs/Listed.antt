-- The encoded lengths of a column's buffers are those that the batch has for them.
use Rattle.ipc_devices.specs.Device.{Device}
use Rattle.std.proofs.Common.{arith, ◌≡◌, ℕ, zero, suc, pos, ◌+◌, ◌<◌, ◌≤◌, List, [], ◌∷◌, map, length, take, drop, get_or, Option, Some, refl, ap, ◌∙◌, inl, inr}
use Rattle.std.proofs.lemmas.Bool.{cases_lt}
use Rattle.std.proofs.lemmas.List.{drop_more, drop_all, get_or-map, get_or_past, length-map}
use Rattle.std.proofs.lemmas.List.Sums.{sum_by-cons}
use Rattle.lower.specs.declared.datatypes.UnionMode.TheVariants.{Sparse, Dense}
use Rattle.lower_types.specs.declared.Endianness.{Endianness}
use Rattle.ipc_table_views.specs.declared.schema.Buffer.{Buffer}
use Rattle.ipc_model.proofs.Holding.{split_listed, one_listed, two_listed, three_listed}
use Rattle.ipc_model.specs.Batches.{Body, Lists, entries_of, kind_at, buffers_before}
use Rattle.ipc_model.specs.Entries.{Entries, Part, size, part_at, listed, Dictionaries}
use Rattle.ipc_model.specs.Kinds.{Kind, null_kind, boolean_kind, number_kind, float_kind, fixed_binary_kind, binary_kind, utf8_kind, list_kind, map_kind, fixed_list_kind, struct_kind, union_kind, dictionary_kind, extension_kind, Kinds, no_kinds, more_kinds, buffers, all_buffers}
use Rattle.ipc_model.specs.Needed.{listed_from}
use Rattle.ipc_read_flat.specs.Kinds.{listed_in, all_listed}
use Rattle.ipc_read.specs.Columns.{columns_listed}
use Rattle.ipc_read_flat.specs.Bodies.{entries}
use Rattle.ipc_read_flat.specs.declared.read.body.Body.{Body as Read}
use Rattle.ipc_read.specs.Sizes.{total_of, chosen_total, chosen_listed}

-- ---- from one buffer on

-- The buffers of a union: the extra ones, its own, and those of its children.
in_front : (s : Entries) (b own extra m : ℕ) → listed_from s b (own + extra + m) ≡ listed_from s b extra + (listed_from s (b + extra) own + listed_from s (b + extra + own) m)
in_front s b own extra m =
    ap (listed_from s b) (let e : own + extra + m ≡ extra + (own + m) = omega arith in e) ∙ split_listed s b extra (own + m)
    ∙ ap (λ k. listed_from s b extra + k) (split_listed s (b + extra) own m)

mutual
  pub column_in : (s : Entries) (extra : ℕ) (t : Kind) (b : ℕ) → listed_in s extra t b ≤ listed_from s b (buffers extra t)
  column_in s extra null_kind b = omega arith
  column_in s extra boolean_kind b = omega (arith, two_listed s b)
  column_in s extra (number_kind f) b = omega (arith, two_listed s b)
  column_in s extra float_kind b = omega (arith, two_listed s b)
  column_in s extra (fixed_binary_kind n) b = omega (arith, two_listed s b)
  column_in s extra (binary_kind w) b = omega (arith, three_listed s b)
  column_in s extra (utf8_kind w) b = omega (arith, three_listed s b)
  column_in s extra (list_kind w t) b = omega (arith, split_listed s b 2 (buffers extra t), two_listed s b, column_in s extra t (b + 2))
  column_in s extra (map_kind t) b = omega (arith, split_listed s b 2 (buffers extra t), two_listed s b, column_in s extra t (b + 2))
  column_in s extra (fixed_list_kind n t) b = omega (arith, split_listed s b 1 (buffers extra t), one_listed s b, column_in s extra t (b + 1))
  column_in s extra (struct_kind ts) b = omega (arith, split_listed s b 1 (all_buffers extra ts), one_listed s b, columns_in s extra ts (b + 1))
  column_in s extra (union_kind Sparse ids ts) b =
      omega (arith, in_front s b 1 extra (all_buffers extra ts), one_listed s (b + extra), columns_in s extra ts (b + extra + 1))
  column_in s extra (union_kind Dense ids ts) b =
      omega (arith, in_front s b 2 extra (all_buffers extra ts), two_listed s (b + extra), columns_in s extra ts (b + extra + 2))
  column_in s extra (dictionary_kind f id t) b = omega (arith, two_listed s b)
  column_in s extra (extension_kind t) b = column_in s extra t b

  columns_in : (s : Entries) (extra : ℕ) (ts : Kinds) (b : ℕ) → all_listed s extra ts b ≤ listed_from s b (all_buffers extra ts)
  columns_in s extra no_kinds b = omega arith
  columns_in s extra (more_kinds t ts) b =
      omega (arith, split_listed s b (buffers extra t) (all_buffers extra ts), column_in s extra t b, columns_in s extra ts (b + buffers extra t))

-- ---- of the list of a batch

none_of : (n : ℕ) → total_of (take n []) ≤ 0
none_of zero = omega arith
none_of (suc n) = omega arith

total_more : (bs : List Buffer) (b n : ℕ) (d : Buffer) → b < length bs → total_of (take (suc n) (drop b bs)) ≡ size (get_or bs b d).length + total_of (take n (drop (b + 1) bs))
total_more bs b n d h =
    ap (λ (xs : List Buffer). total_of (take (suc n) xs)) (drop_more bs b d h)
    ∙ sum_by-cons (λ (r : Buffer). size r.length) (get_or bs b d) (take n (drop (b + 1) bs))

module _ (w : List ℕ) (base : ℕ) (bs : List Buffer) (s : Entries) (same : s.parts ≡ map (part_at w base) bs) where
  pub listed_inside : (b : ℕ) (d : Buffer) → b < length bs → listed s b ≡ size (get_or bs b d).length
  listed_inside b d h =
      ap (λ (ps : List Part). size (get_or ps b (record { offset = pos 0; length = pos 0; bytes = [] })).length) same
      ∙ ap (λ (p : Part). size p.length) (get_or-map (part_at w base) bs b d (record { offset = pos 0; length = pos 0; bytes = [] }) h)

  pub listed_outside : (b : ℕ) → length bs ≤ b → listed s b ≡ 0
  listed_outside b h =
      ap (λ (ps : List Part). size (get_or ps b (record { offset = pos 0; length = pos 0; bytes = [] })).length) same
      ∙ ap (λ (p : Part). size p.length)
      (get_or_past (map (part_at w base) bs) b (record { offset = pos 0; length = pos 0; bytes = [] }) (omega (arith, h, length-map bs (part_at w base))))

  from_in : (b n : ℕ) → listed_from s b n ≤ total_of (take n (drop b bs))
  from_in b zero = omega arith
  from_in b (suc n) =
      let d : Buffer = record { offset = pos 0; length = pos 0 } in
      elim (cases_lt b (length bs)) [
        | inl h ↦ omega (arith, listed_inside b d h, total_more bs b n d h, from_in (b + 1) n)
        | inr h ↦
            let gone : drop (b + 1) bs ≡ [] = drop_all (b + 1) bs (omega (arith, h)) in
            let here : drop b bs ≡ [] = drop_all b bs h in
            let e1 = ap (λ (xs : List Buffer). total_of (take n xs)) gone in
            let e2 = ap (λ (xs : List Buffer). total_of (take (suc n) xs)) here in
            let e3 : total_of (take n []) ≤ 0 = none_of n in
            omega (arith, listed_outside b h, from_in (b + 1) n, e1, e2, e3)
      ]

  pub columns_total : (extra : ℕ) (ts : Kinds) (js : List ℕ) → columns_listed s extra ts js ≤ chosen_total bs extra ts js
  columns_total extra ts [] = omega arith
  columns_total extra ts (j ∷ js) =
      omega (
        arith,
        column_in s extra (kind_at ts j) (buffers_before extra ts j),
        from_in (buffers_before extra ts j) (buffers extra (kind_at ts j)),
        columns_total extra ts js,
      )

pub parts_are : (lists : Lists) (b : Body) (order : Endianness) (extra : ℕ) (known : Dictionaries) → (entries_of lists b order extra known).parts ≡ map (part_at b.source b.base) lists.buffers
unfolding entries_of
parts_are lists b order extra known = refl

-- How many bytes were read at most, by the lists of the batch.
pub given_total :
    {R : Type 0} (d : Device R) (b : Read R) (lists : Lists) (m : Body) (order : Endianness) (extra : ℕ) (known : Dictionaries) (o : Option Lists) (ts : Kinds) (js : List ℕ) (x y : ℕ)
    → entries d b ≡ entries_of lists m order extra known → b.extra ≡ extra → o ≡ Some lists → y ≤ x + columns_listed (entries d b) b.extra ts js
    → y ≤ x + chosen_listed o extra ts js
given_total d b lists m order extra known o ts js x y same fronted listed h =
    let s = entries_of lists m order extra known in
    let total = columns_total m.source m.base lists.buffers s (parts_are lists m order extra known) extra ts js in
    let e1 = ap (λ (r : Entries). columns_listed r b.extra ts js) same in
    let e2 = ap (λ (n : ℕ). columns_listed s n ts js) fronted in
    let e3 = ap (λ (l : Option Lists). chosen_listed l extra ts js) listed in
    omega (arith, h, total, e1, e2, e3)
