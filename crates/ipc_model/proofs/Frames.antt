-- What the first message says of the bytes, and what the bytes after it change.
use Rattle.std.proofs.Common.{◌≡◌, ◌≢◌, ℕ, ◌<◌, ◌≤◌, ◌^◌, ◌==◌, nat_lt, true, false, Bool, cond, List, ◌++◌, length, take, drop, refl, sym, ap, ◌∙◌, length-drop, length-append, arith, inl, inr, ◌⊎◌}
use Rattle.std.proofs.lemmas.Bool.Decides.{nat_tests}
use Rattle.std.proofs.lemmas.Bool.{ltb-true, ltb-false, le-ltb, eqb-true, eqb-false, eq-eqb, ne_eqb}
use Rattle.std.proofs.lemmas.List.{take-append-le, drop-append-le}
use Rattle.std.specs.Int.{w32, from_le_bytes}
use Rattle.ipc_model.specs.Frame.{message, waiting, frame, marked, sized, word}

pub by_test : {A : Type 0} (b : Bool) (x y z : A) → cond b x y ≡ z → ((b ≡ true) × (x ≡ z)) ⊎ ((b ≡ false) × (y ≡ z))
by_test true x y z e = inl (refl, e)
by_test false x y z e = inr (refl, e)

pub record IsSized (n : ℕ) (bytes m r : List ℕ) : Type 0 where
  pub within : n ≤ length bytes
  pub some : 0 < n
  pub small : n < 2 ^ 31
  pub metadata : take n bytes ≡ m
  pub rest : drop n bytes ≡ r

message_is : (a b m r : List ℕ) → message a b ≡ message m r → (a ≡ m) × (b ≡ r)
message_is a b m r e = (cc, cc)

pub sized_message : (n : ℕ) (bytes m r : List ℕ) → sized n bytes ≡ message m r → IsSized n bytes m r
unfolding sized
sized_message n bytes m r h =
    elim (by_test (nat_lt n (2 ^ 31)) _ _ _ h) [
      | inr p ↦ absurd cc
      | inl p ↦ elim (by_test (n == 0) _ _ _ p.1) [
        | inl q ↦ absurd cc
        | inr q ↦ elim (by_test (nat_lt (length bytes) n) _ _ _ q.1) [
          | inl t ↦ absurd cc
          | inr t ↦
              let e = message_is _ _ _ _ t.1 in
              record { within = ltb-false _ _ t.0; some = omega (arith, eqb-false n 0 q.0); small = ltb-true _ _ p.0; metadata = e.0; rest = e.1 }
        ]
      ]
    ]

pub sized_is : (n : ℕ) (bytes : List ℕ) → n ≤ length bytes → 0 < n → n < 2 ^ 31 → sized n bytes ≡ message (take n bytes) (drop n bytes)
unfolding sized
sized_is n bytes within some small = grind (arith, nat_tests)

pub message_same : (a b c d : List ℕ) → a ≡ b → c ≡ d → message a c ≡ message b d
message_same a b c d e f = cc

sized_same : (n k : ℕ) (a b : List ℕ) → n ≡ k → a ≡ b → sized n a ≡ sized k b
sized_same n k a b e f = cc

sized_append : (n : ℕ) (bytes m r xs : List ℕ) → sized n bytes ≡ message m r → sized n (bytes ++ xs) ≡ message m (r ++ xs)
sized_append n bytes m r xs h =
    let i = sized_message n bytes m r h in
    let long : n ≤ length (bytes ++ xs) = omega (arith, i, length-append bytes xs) in
    sized_is n (bytes ++ xs) long i.some i.small
    ∙ message_same _ _ _ _ (take-append-le n bytes xs i.within ∙ i.metadata) (drop-append-le n bytes xs i.within ∙ ap (λ l. l ++ xs) i.rest)

word_append : (bytes xs : List ℕ) → 4 ≤ length bytes → word (bytes ++ xs) ≡ word bytes
word_append bytes xs h = ap (from_le_bytes w32) (take-append-le 4 bytes xs h)

pub marked_is : (bytes : List ℕ) → 4 ≤ length bytes → marked bytes ≡ sized (word bytes) (drop 4 bytes)
unfolding marked
marked_is bytes h = rw (le-ltb (length bytes) 4 h) refl

pub frame_newer : (bytes : List ℕ) → 4 ≤ length bytes → word bytes ≡ 0xFFFF_FFFF → frame bytes ≡ marked (drop 4 bytes)
unfolding frame
frame_newer bytes h e = rw (le-ltb (length bytes) 4 h, eq-eqb (word bytes) 0xFFFF_FFFF e) refl

frame_older : (bytes : List ℕ) → 4 ≤ length bytes → word bytes ≢ 0xFFFF_FFFF → frame bytes ≡ sized (word bytes) (drop 4 bytes)
unfolding frame
frame_older bytes h e = rw (le-ltb (length bytes) 4 h, ne_eqb (word bytes) 0xFFFF_FFFF e) refl

-- the two prefixes of a message
newer : List ℕ → List ℕ → List ℕ → Type 0
newer bytes m r = (word bytes ≡ 0xFFFF_FFFF) × (4 ≤ length (drop 4 bytes)) × (sized (word (drop 4 bytes)) (drop 4 (drop 4 bytes)) ≡ message m r)

older : List ℕ → List ℕ → List ℕ → Type 0
older bytes m r = (word bytes ≢ 0xFFFF_FFFF) × (sized (word bytes) (drop 4 bytes) ≡ message m r)

marked_message : (bytes m r : List ℕ) → marked bytes ≡ message m r → (4 ≤ length bytes) × (sized (word bytes) (drop 4 bytes) ≡ message m r)
unfolding marked
marked_message bytes m r h = elim (by_test (nat_lt (length bytes) 4) _ _ _ h) [ inl p ↦ absurd cc | inr p ↦ (ltb-false _ _ p.0, p.1) ]

frame_message : (bytes m r : List ℕ) → frame bytes ≡ message m r → (4 ≤ length bytes) × (newer bytes m r ⊎ older bytes m r)
unfolding frame newer older
frame_message bytes m r h = elim (by_test (nat_lt (length bytes) 4) _ _ _ h) [
  | inl p ↦ absurd cc
  | inr p ↦ (
    ltb-false _ _ p.0,
    elim (by_test (word bytes == 0xFFFF_FFFF) _ _ _ p.1) [
      | inl q ↦ (let k = marked_message (drop 4 bytes) m r q.1 in inl (eqb-true _ _ q.0, k.0, k.1))
      | inr q ↦ inr (eqb-false _ _ q.0, q.1)
    ],
  )
]

-- a message's rest is shorter than all
pub frame_shorter : (bytes m r : List ℕ) → frame bytes ≡ message m r → length r < length bytes
unfolding newer older
frame_shorter bytes m r h =
    let f = frame_message bytes m r h in
    elim f.1 [
      | inl p ↦ let i = sized_message _ _ m r p.2 in omega (arith, i, ap length i.rest, length-drop {A = ℕ})
      | inr p ↦ let i = sized_message _ _ m r p.1 in omega (arith, i, ap length i.rest, length-drop {A = ℕ})
    ]

-- bytes that are added go to the rest
pub frame_append : (bytes m r xs : List ℕ) → frame bytes ≡ message m r → frame (bytes ++ xs) ≡ message m (r ++ xs)
unfolding newer older
frame_append bytes m r xs h =
    let f = frame_message bytes m r h in
    let long : 4 ≤ length (bytes ++ xs) = omega (arith, f.0, length-append bytes xs) in
    let same = word_append bytes xs f.0 in
    let moved = drop-append-le 4 bytes xs f.0 in
    elim f.1 [
      | inl p ↦
          let next = word_append (drop 4 bytes) xs p.1 in
          let again = drop-append-le 4 (drop 4 bytes) xs p.1 in
          let far : 4 ≤ length (drop 4 bytes ++ xs) = omega (arith, p.1, length-append (drop 4 bytes) xs) in
          frame_newer (bytes ++ xs) long (same ∙ p.0) ∙ ap marked moved ∙ marked_is (drop 4 bytes ++ xs) far
          ∙ sized_same _ _ _ _ next again ∙ sized_append (word (drop 4 bytes)) (drop 4 (drop 4 bytes)) m r xs p.2
      | inr p ↦ frame_older (bytes ++ xs) long (λ e. p.0 (sym same ∙ e)) ∙ sized_same _ _ _ _ same moved ∙ sized_append (word bytes) (drop 4 bytes) m r xs p.1
    ]

-- bytes that wait are all that there are
sized_never : (n : ℕ) (bytes b : List ℕ) → sized n bytes ≡ waiting b → ⊥
unfolding sized
sized_never n bytes b h =
    elim (by_test (nat_lt n (2 ^ 31)) _ _ _ h) [
      | inr p ↦ absurd cc
      | inl p ↦ elim (by_test (n == 0) _ _ _ p.1) [
        | inl q ↦ absurd cc
        | inr q ↦ elim (by_test (nat_lt (length bytes) n) _ _ _ q.1) [
          | inl t ↦ absurd cc
          | inr t ↦ absurd cc
        ]
      ]
    ]

marked_never : (bytes b : List ℕ) → marked bytes ≡ waiting b → ⊥
unfolding marked
marked_never bytes b h = elim (by_test (nat_lt (length bytes) 4) _ _ _ h) [ inl p ↦ absurd cc | inr p ↦ sized_never _ _ b p.1 ]

waiting_is : (a b : List ℕ) → waiting a ≡ waiting b → b ≡ a
waiting_is a b e = cc

pub frame_waits : (bytes b : List ℕ) → frame bytes ≡ waiting b → b ≡ bytes
unfolding frame
frame_waits bytes b h = elim (by_test (nat_lt (length bytes) 4) _ _ _ h) [
  | inl p ↦ waiting_is _ _ p.1
  | inr p ↦ elim (by_test (word bytes == 0xFFFF_FFFF) _ _ _ p.1) [
    | inl q ↦ absurd (marked_never _ b q.1)
    | inr q ↦ absurd (sized_never _ _ b q.1)
  ]
]
