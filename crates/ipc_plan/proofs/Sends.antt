-- Sends that follow one another.
use Rattle.std.proofs.Common.{◌≡◌, ℕ, ◌+◌, ◌<◌, ◌≤◌, ◌⊎◌, inl, inr, IsTrue, List, [], ◌∷◌, ◌++◌, length, take, drop, replicate, ◌-◌, refl, sym, ap, ◌∙◌, subst, append_assoc, append-nil, length-append, arith, add-zero, Result, Ok, Err}
use Rattle.std.specs.Prelude.{map}
use Rattle.std.specs.List.{flat_map}
use Rattle.std.proofs.lemmas.List.{drop-drop, length-take-le, take_all, take-append-le, take-append-drop, replicate-append-replicate}
use Rattle.std.proofs.Math.Seq.{take-append-add}
use Rattle.ipc_devices.specs.Acts.{IsIoOf}
use Rattle.ipc_devices.specs.Device.{Device, Memory, Rises, WritesOver, after, before}
use Rattle.ipc_devices.specs.declared.fault.Fault.{Fault}
use Rattle.ipc_plan.specs.Sending.{WritesSome, Sends}

writes_none : (m : Memory) → WritesOver m m []
writes_none m = record {
  added = sym (append-nil (before m));
  rest = refl;
  place = sym (add-zero m.place);
  reaches = λ h. h;
}

writes_both : (m m' m'' : Memory) (a b : List ℕ) → WritesOver m m' a → WritesOver m' m'' b → WritesOver m m'' (a ++ b)
writes_both m m' m'' a b f g = record {
  added = g.added ∙ ap (λ l. l ++ b) f.added ∙ append_assoc (before m) a b;
  rest = g.rest ∙ ap (drop (length b)) f.rest ∙ drop-drop (length b) (length a) (after m) ∙ ap (λ n. drop n (after m)) (sym (length-append a b));
  place = g.place ∙ ap (λ n. n + length b) f.place ∙ omega (arith, length-append a b);
  reaches = λ h. g.reaches (f.reaches h);
}

some_front : (m m' : Memory) (a b : List ℕ) → WritesSome m m' a → WritesSome m m' (a ++ b)
some_front m m' a b f = record {
  count = f.count;
  most = omega (arith, length-append a b, f.most);
  over = rw (take-append-le f.count a b f.most) f.over;
}

some_after : (m m' m'' : Memory) (a b : List ℕ) → WritesOver m m' a → WritesSome m' m'' b → WritesSome m m'' (a ++ b)
some_after m m' m'' a b f g = record {
  count = length a + g.count;
  most = omega (arith, length-append a b, g.most);
  over = rw (take-append-add a b g.count) (writes_both m m' m'' a (take g.count b) f g.over);
}

-- bytes that were sent
abbrev pub Sent : {W : Type 0} (d : Device W) → W → W → List ℕ → Type 0
Sent d w w' bytes = Sends {X = Unit {0}} d bytes w (Ok tt) w'

pub sent_none : {W : Type 0} (d : Device W) (w : W) → Sent d w w []
sent_none d w = record {
  monotone = omega arith;
  failed = tt;
  only = tt;
  done = refl;
  memory = λ k. writes_none (d.memory w);
  part = λ k. record { count = 0; most = omega arith; over = writes_none (d.memory w) };
  room = omega arith;
  names = refl;
}

-- what is sent after other bytes
pub sends_then : {X W : Type 0} (d : Device W) (w w' w'' : W) (r : Result X Fault) (xs ys : List ℕ) → Sent d w w' xs → Sends d ys w' r w'' → Sends d (xs ++ ys) w r w''
sends_then d w w' w'' (Ok u) xs ys f g = record {
  monotone = omega (arith, f.monotone, g.monotone);
  failed = tt;
  only = tt;
  done = g.done ∙ f.done;
  memory = λ k. writes_both (d.memory w) (d.memory w') (d.memory w'') xs ys (f.memory k) (g.memory k);
  part = λ k. some_after (d.memory w) (d.memory w') (d.memory w'') xs ys (f.memory k) (g.part k);
  room = omega (arith, f.room, g.room, length-append xs ys);
  names = g.names ∙ f.names;
}
sends_then d w w' w'' (Err e) xs ys f g = record {
  monotone = omega (arith, f.monotone, g.monotone);
  failed = elim g.failed [
    | inl rises ↦ inl (let a : d.failures w' ≤ d.failures w'' = g.monotone in omega (arith, rises, f.monotone))
    | inr full ↦ inr (full.0, omega (arith, full.1, f.room, length-append xs ys))
  ];
  only = g.only;
  done = tt;
  memory = λ k. tt;
  part = λ k. some_after (d.memory w) (d.memory w') (d.memory w'') xs ys (f.memory k) (g.part k);
  room = tt;
  names = g.names ∙ f.names;
}

-- A failure on the way, before other bytes.
pub sends_stop : {X Y W : Type 0} (d : Device W) (w w' : W) (e : Fault) (xs ys : List ℕ) → Sends {X = X} d xs w (Err e) w' → Sends {X = Y} d (xs ++ ys) w (Err e) w'
sends_stop d w w' e xs ys f = record {
  monotone = f.monotone;
  failed = elim f.failed [ inl rises ↦ inl rises | inr full ↦ inr (full.0, omega (arith, full.1, length-append xs ys)) ];
  only = f.only;
  done = tt;
  memory = λ k. tt;
  part = λ k. some_front (d.memory w) (d.memory w') xs ys (f.part k);
  room = tt;
  names = f.names;
}

-- A loop that sends: the bytes before `left` were sent.
pub record SentBefore {W : Type 0} (d : Device W) (w w' : W) (left bytes : List ℕ) : Type 0 where
  pub front : List ℕ
  pub parts : front ++ left ≡ bytes
  pub sent : Sent d w w' front

pub before_none : {W : Type 0} (d : Device W) (w : W) (left bytes : List ℕ) → left ≡ bytes → SentBefore d w w left bytes
before_none d w left bytes e = record { front = []; parts = e; sent = sent_none d w }

pub before_more : {X W : Type 0} (d : Device W) (w w' w'' : W) (u : X) (left piece left' bytes : List ℕ) → SentBefore d w w' left bytes → left ≡ piece ++ left'
    → Sends d piece w' (Ok u) w'' → SentBefore d w w'' left' bytes
before_more d w w' w'' u left piece left' bytes b e s =
    let all = sends_then d w w' w'' (Ok u) b.front piece b.sent s in
    record {
      front = b.front ++ piece;
      parts = append_assoc b.front piece left' ∙ ap (λ xs. b.front ++ xs) (sym e) ∙ b.parts;
      sent = record { monotone = all.monotone; failed = tt; only = tt; done = all.done; memory = all.memory; part = all.part; room = all.room; names = all.names };
    }

pub before_stop : {X Y W : Type 0} (d : Device W) (w w' w'' : W) (e : Fault) (left piece left' bytes : List ℕ) → SentBefore d w w' left bytes → left ≡ piece ++ left'
    → Sends {X = X} d piece w' (Err e) w'' → Sends {X = Y} d bytes w (Err e) w''
before_stop {X = X} {Y = Y} d w w' w'' e left piece left' bytes b parts s =
    subst (λ (xs : List ℕ). Sends {X = Y} d xs w (Err e) w'') (ap (λ xs. b.front ++ xs) (sym parts) ∙ b.parts)
    (sends_then {X = Y} d w w' w'' (Err e) b.front (piece ++ left') b.sent (sends_stop {X = X} {Y = Y} d w' w'' e piece left' s))

pub before_all : {W : Type 0} (d : Device W) (w w' : W) (left bytes : List ℕ) → SentBefore d w w' left bytes → left ≡ [] → Sent d w w' bytes
before_all d w w' left bytes b e =
    subst (λ (xs : List ℕ). Sent d w w' xs) (sym (append-nil b.front) ∙ ap (λ xs. b.front ++ xs) (sym e) ∙ b.parts) b.sent

-- one write of a device
pub one_write : {W : Type 0} (d : Device W) (w w' : W) (n : ℕ) (xs : List ℕ) → n ≤ length xs → d.failures w' ≡ d.failures w → (IsTrue d.is_memory → WritesOver (d.memory w) (d.memory w') (take n xs)) → d.room w ≤ d.room w' + n
    → d.names w' ≡ d.names w → Sent d w w' (take n xs)
one_write d w w' n xs h same over room names =
    let count : length (take n xs) ≡ n = length-take-le n xs h in
    record {
      monotone = omega (arith, same);
      failed = tt;
      only = tt;
      done = same;
      memory = over;
      part = λ k. record { count = n; most = omega (arith, count); over = subst (λ (ys : List ℕ). WritesOver (d.memory w) (d.memory w') ys) (sym (take_all n (take n xs) (omega (arith, count)))) (over k) };
      room = omega (arith, room, count);
      names = names;
    }

pub no_write : {X W : Type 0} (d : Device W) (w w' : W) (e : Fault) (xs : List ℕ) → IsIoOf d e → d.failures w ≤ d.failures w' → Rises (d.failures w) (d.failures w') ⊎ (IsTrue d.grows × (d.room w < length xs))
    → (IsTrue d.is_memory → d.memory w' ≡ d.memory w) → d.names w' ≡ d.names w → Sends {X = X} d xs w (Err e) w'
no_write d w w' e xs io rises failed same names = record {
  monotone = rises;
  failed = failed;
  only = io;
  done = tt;
  memory = λ k. tt;
  part = λ k. subst (λ (m : Memory). WritesSome (d.memory w) m xs) (sym (same k)) (record { count = 0; most = omega arith; over = writes_none (d.memory w) });
  room = tt;
  names = names;
}

-- n bytes of those that are left
pub split_drop : (at n : ℕ) (bytes part : List ℕ) → part ≡ drop at bytes → drop at bytes ≡ take n part ++ drop (at + n) bytes
split_drop at n bytes part e = subst (λ (xs : List ℕ). drop at bytes ≡ take n xs ++ drop (at + n) bytes) (sym e) (sym (take-append-drop n (drop at bytes)) ∙ ap (λ xs. take n (drop at bytes) ++ xs) (drop-drop n at bytes))

-- n zeros of those that are left
pub zeros_split : (left n : ℕ) → n ≤ left → replicate {A = ℕ} left 0 ≡ replicate {A = ℕ} n 0 ++ replicate {A = ℕ} (left - n) 0
zeros_split left n h = let zero_byte : ℕ = 0 in let e : left ≡ n + (left - n) = omega (arith, h) in ap (λ k. replicate k zero_byte) e ∙ sym (replicate-append-replicate n (left - n) zero_byte)

-- bytes of numbers that a function gives
pub spelt_map : {X Y : Type 0} (f : Y → List ℕ) (g : X → Y) (xs : List X) → flat_map f (map g xs) ≡ flat_map (λ x. f (g x)) xs
spelt_map f g [] = refl
spelt_map f g (x ∷ xs) = ap (λ ys. f (g x) ++ ys) (spelt_map f g xs)
