-- Where the footer of a file is, by its head and its tail, and what it says.
use Rattle.std.proofs.Common.{◌≡◌, ℕ, ◌+◌, ◌-◌, ◌^◌, ◌<◌, ◌≤◌, Bool, true, false, List, length, take, drop, Option, None, Some, Ok, Err, refl, sym, ap, ◌∙◌, arith, nat_lt, bytes_eq, if◌then◌else◌, ◌&&◌, not}
use Rattle.std.specs.Int.{w32, from_le_bytes}
use Rattle.std.proofs.lemmas.Slice.Eq.{bytes_eq-Decides}
use Rattle.std.proofs.lemmas.List.{take_all, drop-drop, length-drop, length-take-le}
use Rattle.ipc_devices.specs.declared.fault.Fault.TheVariants.{OutOfSpec}
use Rattle.ipc_devices.specs.declared.fault.OutOfSpecKind.TheVariants.{InvalidFooter, NegativeFooterLength}
use Rattle.ipc_table_views.specs.Tables.{root_at}
use Rattle.ipc_model.proofs.Given.{some-same}
use Rattle.ipc_model.specs.Files.{FileMetadata, footer_at, last, magic, metadata_of}
use Rattle.ipc_model.specs.Schemas.{made, given}
use Rattle.ipc_files.specs.Files.{BeginningLaw, footer_before_tail, footer_bytes, footer_length, metadata_from, stated_length}

-- ---- tests

below : (n m : ℕ) → n < m → nat_lt n m ≡ true
below n m h = search arith

not-below : (n m : ℕ) → m ≤ n → nat_lt n m ≡ false
not-below n m h = search arith

is-below : (n m : ℕ) → nat_lt n m ≡ true → n < m
is-below n m h = search arith

isnt-below : (n m : ℕ) → nat_lt n m ≡ false → m ≤ n
isnt-below n m h = search arith

same-bytes : (xs ys : List ℕ) → xs ≡ ys → bytes_eq xs ys ≡ true
same-bytes xs ys h = (bytes_eq-Decides xs ys).1 h

not-false : (b : Bool) → not b ≡ false → b ≡ true
not-false true e = refl
not-false false e = cc

-- ---- the length of a footer

pub tail-magic : (tail : List ℕ) (other : Bool) → length tail ≡ 10 → other ≡ not (bytes_eq (take 6 (drop 4 tail)) magic) → other ≡ false
    → bytes_eq (drop 4 tail) magic ≡ true
tail-magic tail other len test same =
    let whole : take 6 (drop 4 tail) ≡ drop 4 tail = take_all 6 (drop 4 tail) (omega (arith, length-drop 4 tail, len)) in
    ap (λ xs. bytes_eq xs magic) (sym whole) ∙ not-false _ (sym test ∙ same)

pub states : (tail : List ℕ) (n : ℕ) → bytes_eq (drop 4 tail) magic ≡ true → from_le_bytes w32 (take 4 tail) ≡ n → n < 2 ^ 31 → footer_length tail ≡ Ok n
unfolding footer_length
states tail n m is h = rw (m, is, below n (2 ^ 31) h) refl

pub states-below-0 : (tail : List ℕ) (n : ℕ) → bytes_eq (drop 4 tail) magic ≡ true → from_le_bytes w32 (take 4 tail) ≡ n → 2 ^ 31 ≤ n → footer_length tail ≡ Err (OutOfSpec NegativeFooterLength)
unfolding footer_length
states-below-0 tail n m is h = rw (m, is, not-below n (2 ^ 31) h) refl

stated-by : (t : Bool) (m n k : ℕ) → nat_lt n m ≡ t → (if t then Ok n else Err (OutOfSpec NegativeFooterLength)) ≡ Ok k → (nat_lt k m ≡ true) × (n ≡ k)
stated-by true m n k e s = let same : n ≡ k = cc in (ap (λ x. nat_lt x m) (sym same) ∙ e, same)
stated-by false m n k e s = cc

stated-where : (b : Bool) (n k : ℕ) → (if b then stated_length n else Err (OutOfSpec InvalidFooter)) ≡ Ok k
    → (b ≡ true) × ((nat_lt k (2 ^ 31) ≡ true) × (n ≡ k))
stated-where true n k s = (refl, stated-by (nat_lt n (2 ^ 31)) (2 ^ 31) n k refl s)
stated-where false n k s = cc

-- what a tail is that states a length
abbrev Stated : List ℕ → ℕ → Type 0
Stated tail k = (bytes_eq (drop 4 tail) magic ≡ true) × ((nat_lt k (2 ^ 31) ≡ true) × (from_le_bytes w32 (take 4 tail) ≡ k))

is-stated : (tail : List ℕ) (k : ℕ) → footer_length tail ≡ Ok k → Stated tail k
unfolding footer_length
is-stated tail k s = stated-where (bytes_eq (drop 4 tail) magic) (from_le_bytes w32 (take 4 tail)) k s

-- ---- the bytes of a footer

-- the last 6 bytes end the last 10
ends : (bytes : List ℕ) → 10 ≤ length bytes → drop 4 (last 10 bytes) ≡ last 6 bytes
ends bytes h = let e : length bytes - 10 + 4 ≡ length bytes - 6 = omega (arith, h) in
    drop-drop 4 (length bytes - 10) bytes ∙ ap (λ n. drop n bytes) e

-- The footer of a file with its head, its tail and the footer that it states.
pub footer-is : (start : ℕ) (bytes : List ℕ) (n : ℕ) → take 6 (drop start bytes) ≡ magic → n + 10 ≤ length bytes → footer_length (last 10 bytes) ≡ Ok n
    → footer_bytes start bytes ≡ Some (take n (last (n + 10) bytes))
unfolding footer_bytes
footer-is start bytes n head fits s =
    let st = is-stated (last 10 bytes) n s in
    let tail : bytes_eq (last 6 bytes) magic ≡ true = ap (λ xs. bytes_eq xs magic) (sym (ends bytes (omega (arith, fits)))) ∙ st.0 in
    rw (not-below (length bytes) 10 (omega (arith, fits)), same-bytes (take 6 (drop start bytes)) magic head, tail, st.1.1, st.1.0, not-below (length bytes) (n + 10) fits) refl

no-head : (a b c : Bool) (o : Option (List ℕ)) → (b ≡ true → ⊥) → (if a then None else if b && c then o else None) ≡ None
no-head true b c o e = refl
no-head false true c o e = absurd (e refl)
no-head false false c o e = refl

pub other-head : (start : ℕ) (bytes : List ℕ) → (take 6 (drop start bytes) ≡ magic → ⊥) → footer_bytes start bytes ≡ None
unfolding footer_bytes
other-head start bytes h = no-head (nat_lt (length bytes) 10) (bytes_eq (take 6 (drop start bytes)) magic) (bytes_eq (last 6 bytes) magic)
    (footer_before_tail bytes (from_le_bytes w32 (take 4 (last 10 bytes)))) (λ e. h ((bytes_eq-Decides (take 6 (drop start bytes)) magic).0 e))

no-tail : (a b c t u : Bool) (o : Option (List ℕ)) → (a ≡ false → c ≡ true → t ≡ true → u ≡ false → ⊥)
    → (if a then None else if b && c then (if t then (if u then None else o) else None) else None) ≡ None
no-tail true b c t u o h = refl
no-tail false false c t u o h = refl
no-tail false true false t u o h = refl
no-tail false true true false u o h = refl
no-tail false true true true true o h = refl
no-tail false true true true false o h = absurd (h refl refl refl refl)

-- A tail that ends with ARROW1, with a length before that.
tells : (bytes : List ℕ) (n : ℕ) → from_le_bytes w32 (take 4 (last 10 bytes)) ≡ n → nat_lt (length bytes) 10 ≡ false → bytes_eq (last 6 bytes) magic ≡ true → nat_lt n (2 ^ 31) ≡ true
    → footer_length (last 10 bytes) ≡ Ok n
tells bytes n is long tail small =
    states (last 10 bytes) n (ap (λ xs. bytes_eq xs magic) (ends bytes (isnt-below (length bytes) 10 long)) ∙ tail) is (is-below n (2 ^ 31) small)

pub other-tail : (start : ℕ) (bytes : List ℕ) → ((n : ℕ) → n + 10 ≤ length bytes → footer_length (last 10 bytes) ≡ Ok n → ⊥) → footer_bytes start bytes ≡ None
unfolding footer_bytes
other-tail start bytes h =
    let n = from_le_bytes w32 (take 4 (last 10 bytes)) in
    no-tail (nat_lt (length bytes) 10) (bytes_eq (take 6 (drop start bytes)) magic) (bytes_eq (last 6 bytes) magic) (nat_lt n (2 ^ 31)) (nat_lt (length bytes) (n + 10))
    (Some (take n (last (n + 10) bytes)))
    (λ long tail small whole. h n (isnt-below (length bytes) (n + 10) whole) (tells bytes n refl long tail small))

-- The bytes before a footer's end, by the tail that states its length.
abbrev pub HasTail : List ℕ → List ℕ → Type 0
HasTail bytes footer = (n : ℕ) × (n + 10 ≤ length bytes) × (footer_length (last 10 bytes) ≡ Ok n) × (footer ≡ take n (last (n + 10) bytes))

has-tail : (bytes footer : List ℕ) (n : ℕ) (a b c t u : Bool) → from_le_bytes w32 (take 4 (last 10 bytes)) ≡ n → nat_lt (length bytes) 10 ≡ a → bytes_eq (last 6 bytes) magic ≡ c → nat_lt n (2 ^ 31) ≡ t
    → nat_lt (length bytes) (n + 10) ≡ u
    → (if a then None else if b && c then (if t then (if u then None else Some (take n (last (n + 10) bytes))) else None) else None) ≡ Some footer → HasTail bytes footer
has-tail bytes footer n true b c t u is long tail small whole e = cc
has-tail bytes footer n false false c t u is long tail small whole e = cc
has-tail bytes footer n false true false t u is long tail small whole e = cc
has-tail bytes footer n false true true false u is long tail small whole e = cc
has-tail bytes footer n false true true true true is long tail small whole e = cc
has-tail bytes footer n false true true true false is long tail small whole e =
    (n, isnt-below (length bytes) (n + 10) whole, tells bytes n is long tail small, sym (some-same (take n (last (n + 10) bytes)) footer e))

-- A footer that is present ends where its tail begins.
pub footer-ends : (start : ℕ) (bytes footer : List ℕ) → footer_bytes start bytes ≡ Some footer → HasTail bytes footer
unfolding footer_bytes
footer-ends start bytes footer e =
    let n = from_le_bytes w32 (take 4 (last 10 bytes)) in
    has-tail bytes footer n (nat_lt (length bytes) 10) (bytes_eq (take 6 (drop start bytes)) magic) (bytes_eq (last 6 bytes) magic) (nat_lt n (2 ^ 31)) (nat_lt (length bytes) (n + 10))
    refl refl refl refl refl e

-- its length is the one that is stated
pub footer-measured : (start : ℕ) (bytes footer : List ℕ) → footer_bytes start bytes ≡ Some footer → footer_length (last 10 bytes) ≡ Ok (length footer)
footer-measured start bytes footer e =
    let (n, fits, stated, is) = footer-ends start bytes footer e in
    let long : length footer ≡ n =
    ap length is ∙ length-take-le n (last (n + 10) bytes) (omega (arith, length-drop (length bytes - (n + 10)) bytes, fits)) in
    stated ∙ ap Ok (sym long)

-- ---- the metadata

pub no-metadata : (start : ℕ) (bytes : List ℕ) → footer_bytes start bytes ≡ None → metadata_from start bytes ≡ None
unfolding metadata_from
no-metadata start bytes e = ap (λ (o : Option (List ℕ)). given o (λ footer. given (made (root_at footer)) (footer_at (length bytes - start)))) e

pub metadata-is : (start : ℕ) (bytes footer : List ℕ) (size : ℕ) → footer_bytes start bytes ≡ Some footer → size ≡ length bytes - start
    → metadata_from start bytes ≡ given (made (root_at footer)) (footer_at size)
unfolding metadata_from
metadata-is start bytes footer size e is =
    ap (λ (o : Option (List ℕ)). given o (λ footer. given (made (root_at footer)) (footer_at (length bytes - start)))) e
    ∙ ap (λ (k : ℕ). given (made (root_at footer)) (footer_at k)) (sym is)

-- The footer that the tests of a file give.
tested : (a b c t u : Bool) (footer : List ℕ) (means : List ℕ → Option FileMetadata)
    → given (if a then None else if b && c then (if t then (if u then None else Some footer) else None) else None) means
    ≡ (if a then None else if b && c then (if t then (if u then None else means footer) else None) else None)
tested true b c t u footer means = refl
tested false false c t u footer means = refl
tested false true false t u footer means = refl
tested false true true false u footer means = refl
tested false true true true true footer means = refl
tested false true true true false footer means = refl

-- from the beginning of a device on
pub beginning_law : BeginningLaw
unfolding metadata_from footer_bytes metadata_of
beginning_law bytes =
    let n = from_le_bytes w32 (take 4 (last 10 bytes)) in
    let all : length bytes - 0 ≡ length bytes = omega arith in
    tested (nat_lt (length bytes) 10) (bytes_eq (take 6 bytes) magic) (bytes_eq (last 6 bytes) magic) (nat_lt n (2 ^ 31)) (nat_lt (length bytes) (n + 10)) (take n (last (n + 10) bytes))
    (λ footer. given (made (root_at footer)) (footer_at (length bytes - 0)))
    ∙ ap (λ (size : ℕ). if nat_lt (length bytes) 10 then None
    else if bytes_eq (take 6 bytes) magic && bytes_eq (last 6 bytes) magic then (if nat_lt n (2 ^ 31)
    then (if nat_lt (length bytes) (n + 10) then None else given (made (root_at (take n (last (n + 10) bytes)))) (footer_at size)) else None)
    else None) all
