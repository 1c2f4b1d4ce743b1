-- What is said of a copy between references holds of the devices that they lead to.
use Rattle.std.proofs.Common.{◌≡◌, ℕ, Bool, IsTrue, List, ◌∷◌, ◌++◌, inl, inr, sym, subst}
use Rattle.std.specs.Borrow.{MutBor}
use Rattle.lower.specs.TypeTrees.{Pairs}
use Rattle.ipc_devices.specs.Device as devices
use Rattle.ipc_devices.specs.Device.{Device, Memory, after}
use Rattle.ipc_devices.specs.Faults.{OwnFault}
use Rattle.ipc_devices.specs.Gives.{Gives, gives_behind}
use Rattle.ipc_devices.specs.declared.fault.Fault.{Fault}
use Rattle.ipc_model.specs.Batches.{Chunk, Schema}
use Rattle.ipc_model.specs.Streams.{End}
use Rattle.ipc_convert.proofs.Own.{own}
use Rattle.ipc_convert.specs.Copies.{CopiesFileOf, CopiesStream, TakesStream, WritesFile, WritesStream}
use Rattle.ipc_convert.specs.Refusals.{CopyFileCause, CopyStreamCause, HoldsOfGiven, AppendedStreamCause}

-- ---- references

-- A device behind a reference that has the same names is behind the same reference.
abbrev pub AreSameNames : {W : Type 0} → Device W → MutBor W → MutBor W → Type 0
AreSameNames d v w = (devices.behind d).names w ≡ (devices.behind d).names v

-- The reference that a call gets of one: to the same device, under a name of its own.
abbrev pub renamed : {W : Type 0} → ℕ → MutBor W → MutBor W
renamed name r = record { ref_ptr = r.ref_ptr; ghost_name = name; now = r.now }

pub same_reference : {W : Type 0} (d : Device W) (v w : MutBor W) → AreSameNames d v w → w.ghost_name ≡ v.ghost_name
same_reference d v w h = let both : w.ghost_name ∷ d.names w.now ≡ v.ghost_name ∷ d.names v.now = h in cc

-- The device there has the same names, too.
pub same_behind : {W : Type 0} (d : Device W) (v w : MutBor W) → AreSameNames d v w → d.names w.now ≡ d.names v.now
same_behind d v w h = let both : w.ghost_name ∷ d.names w.now ≡ v.ghost_name ∷ d.names v.now = h in cc

-- ---- what is written

-- From v to w something was written to a device behind a reference: to the one that was `old`,
-- and ends as `new`.
module _ {W : Type 0} (d : Device W) (v w : MutBor W) (old new : W) (same : AreSameNames d v w) (was : v.now ≡ old) (ends : w.ghost_name ≡ v.ghost_name → new ≡ w.now) where
  there : (P : Memory → Memory → Type 0) → P (d.memory v.now) (d.memory w.now) → P (d.memory old) (d.memory new)
  there P h =
      let is : new ≡ w.now = ends (same_reference d v w same) in
      subst (λ (y : W). P (d.memory old) (d.memory y)) (sym is) (subst (λ (x : W). P (d.memory x) (d.memory w.now)) was h)

  pub writes_stream : (order : _) (schema : Schema) (cs : List Chunk) (end : End) → WritesStream order (d.memory v.now) (d.memory w.now) schema cs end
      → WritesStream order (d.memory old) (d.memory new) schema cs end
  writes_stream order schema cs end h = there (λ m n. WritesStream order m n schema cs end) h

  pub writes_file : (order : _) (schema : Schema) (pairs : Pairs) (cs : List Chunk) → WritesFile order (d.memory v.now) (d.memory w.now) schema pairs cs
      → WritesFile order (d.memory old) (d.memory new) schema pairs cs
  writes_file order schema pairs cs h = there (λ m n. WritesFile order m n schema pairs cs) h

-- ---- what is read

pub takes_stream : {R : Type 0} (gives : Gives R) (a b : MutBor R) (old new : R) → TakesStream (gives_behind gives) a b → a.now ≡ old → (b.ghost_name ≡ a.ghost_name → new ≡ b.now)
    → TakesStream gives old new
takes_stream {R = R} gives a b old new h was ends = record {
  bytes = h.bytes;
  stop = h.stop;
  gave =
      let is : new ≡ b.now = ends h.gave.1 in
      subst (λ (y : R). gives old h.bytes h.stop y) (sym is) (subst (λ (x : R). gives x h.bytes h.stop b.now) was h.gave.0);
  stream = h.stream;
  read = h.read;
  whole = h.whole;
}

pub copies_stream : {R : Type 0} (gives : Gives R) (a b : MutBor R) (old new : R) (V W : Schema → List Chunk → End → Type 0) → CopiesStream (gives_behind gives) a b V → a.now ≡ old
    → (b.ghost_name ≡ a.ghost_name → new ≡ b.now) → ((schema : Schema) (cs : List Chunk) (end : End) → V schema cs end → W schema cs end) → CopiesStream gives old new W
unfolding takes_stream
copies_stream gives a b old new V W h was ends each = record {
  takes = takes_stream gives a b old new h.takes was ends;
  written = each h.takes.stream.head.schema h.takes.stream.meant.chunks h.takes.stream.meant.end h.written;
}

pub copies_file : {F : Type 0} (d : Device F) (file : F) (V W : Schema → Pairs → List Chunk → Type 0)
    → ((schema : Schema) (pairs : Pairs) (cs : List Chunk) → V schema pairs cs → W schema pairs cs) → CopiesFileOf d file V → CopiesFileOf d file W
copies_file d file V W each h k at =
    let c = h k at in
    record { metadata = c.metadata; read = c.read; chunks = c.chunks; has = c.has; written = each c.metadata.schema c.metadata.pairs c.chunks c.written }

-- ---- why it isn't

-- What holds of the bytes that a device behind a reference gave, and another fact that follows from
-- the same bytes.
holds_of_given : {R : Type 0} (gives : Gives R) (d : Device R) (a : MutBor R) (P Q : List ℕ → Type 0) → ((bytes : List ℕ) → P bytes → Q bytes)
    → HoldsOfGiven (gives_behind gives) (devices.behind d) a P → HoldsOfGiven gives d a.now Q
holds_of_given gives d a P Q follows h = record {
  bytes = h.bytes;
  stop = h.stop;
  left = h.left.now;
  gave = h.gave.0;
  holds = λ ys f. follows (h.bytes ++ ys) (h.holds ys f);
  ahead = λ k. follows (after (d.memory a.now)) (h.ahead k);
}

-- The same of an error that reports it.
pub given_refused : {R : Type 0} (gives : Gives R) (d : Device R) (a : MutBor R) (e : Fault) (P Q : List ℕ → Type 0) → ((bytes : List ℕ) → P bytes → Q bytes)
    → OwnFault e (HoldsOfGiven (gives_behind gives) (devices.behind d) a P) → OwnFault e (HoldsOfGiven gives d a.now Q)
given_refused gives d a e P Q follows h =
    own e (HoldsOfGiven gives d a.now Q) (λ it. holds_of_given gives d a P Q follows (it (HoldsOfGiven (gives_behind gives) (devices.behind d) a P) h))

-- And of an error of a file at offset 0 of a memory.
pub file_refused : (known : Bool) (m : Memory) (e : Fault) (P Q : Type 0) → (P → Q) → (IsTrue known → m.place ≡ 0 → OwnFault e P) → OwnFault e (IsTrue known → m.place ≡ 0 → Q)
file_refused known m e P Q follows h = own e (IsTrue known → m.place ≡ 0 → Q) (λ it k at. follows (it P (h k at)))

pub refuses_appended : {F R : Type 0} (d : Device F) (file : F) (gives : Gives R) (source : Device R) (a : MutBor R) (e : Fault) → AppendedStreamCause d file (gives_behind gives) (devices.behind source) a e
    → AppendedStreamCause d file gives source a.now e
refuses_appended d file gives source a e h = record {
  metadata = h.metadata;
  is = h.is;
  device = h.device;
  same = h.same;
  refused = holds_of_given gives source a _ _ (λ bytes why. why) h.refused;
}

-- If a stream or a file can't be written for one reason, it can't be
-- for another that follows from it.
pub copies_no_stream : (V W : (List Chunk → Type 0) → Schema → Fault → Type 0) (bytes : List ℕ) (e : Fault) → ((first : List Chunk → Type 0) (schema : Schema) → V first schema e → W first schema e)
    → CopyStreamCause V bytes e → CopyStreamCause W bytes e
copies_no_stream V W bytes e each (inl unread) = inl unread
copies_no_stream V W bytes e each (inr held) = inr (record { stream = held.stream; is = held.is; refused = each _ held.stream.head.schema held.refused })

pub copies_no_file : (V W : (List Chunk → Type 0) → Schema → Pairs → Fault → Type 0) (bytes : List ℕ) (e : Fault) → ((first : List Chunk → Type 0) (schema : Schema) (pairs : Pairs) → V first schema pairs e → W first schema pairs e)
    → CopyFileCause V bytes e → CopyFileCause W bytes e
copies_no_file V W bytes e each (inl unread) = inl unread
copies_no_file V W bytes e each (inr held) = inr (record {
  metadata = held.metadata;
  is = held.is;
  refused = elim held.refused [ inl lacks ↦ inl lacks | inr refused ↦ inr (each _ held.metadata.schema held.metadata.pairs refused) ];
})
