-- What the errors of a column say of the entries that it is read from.
use Rattle.std.proofs.Common.{arith, ◌≡◌, ◌⊎◌, ℕ, ◌<◌, ◌≤◌, ℤ, pos, Bool, length, map, Option, None, Some, IsSome, IsTrue, Result, Ok, Err, IfErr, sym, ap, subst, ◌∙◌, ◌*◌, inl, inr}
use Rattle.std.proofs.lemmas.Grind.{div_ceil_times}
use Rattle.std.proofs.lemmas.List.{length-map}
use Rattle.std.proofs.lemmas.Option.{get_or_from_slice_get}
use Rattle.std.specs.Prelude.{slice_get}
use Rattle.lower.specs.TypeTrees.{TypeTree}
use Rattle.ipc_devices.proofs.Claims.{claims_through}
use Rattle.ipc_devices.specs.Device.{Device}
use Rattle.ipc_devices.specs.Faults.{OwnFault, Answers}
use Rattle.ipc_devices.specs.declared.fault.Fault.{Fault}
use Rattle.ipc_devices.specs.declared.fault.Fault.TheVariants.{Ended, OutOfSpec, NotYetImplemented, Schema, Argument, State, TooManyDictionaries, Io, Memory, Lower}
use Rattle.ipc_devices.specs.declared.fault.OutOfSpecKind.TheVariants.{NegativeFooterLength, InvalidBuffer, InvalidBitmap, InvalidId, InvalidIdDataType}
use Rattle.ipc_table_views.specs.declared.message.FieldNode.{FieldNode}
use Rattle.ipc_table_views.specs.declared.schema.Buffer.{Buffer}
use Rattle.ipc_model.specs.Columns.{values_type}
use Rattle.ipc_model.specs.Entries.{Entries, IsSize, size, Part, part_at, node, buffer, bytes, bytes_for, listed, Need}
use Rattle.ipc_read_flat.specs.Refusals.{IsRuleFault, RefusesValues, SomeNode, SomeBuffer, TellsEntries, TellsShort}
use Rattle.ipc_read_flat.specs.Bodies.{source, entries}
use Rattle.ipc_read_flat.specs.declared.read.body.Body.{Body}
use Rattle.ipc_read_flat.proofs.Fetches.{entry, part_is}

module _ (known : Bool) (s : Entries) where
  rule_says : (e : Fault) → IsRuleFault e → TellsEntries known s e
  rule_says (Lower e) h = tt
  rule_says (OutOfSpec k) h = absurd h
  rule_says Ended h = absurd h
  rule_says (NotYetImplemented n) h = absurd h
  rule_says (Schema x) h = absurd h
  rule_says (Argument a) h = absurd h
  rule_says (State x) h = absurd h
  rule_says TooManyDictionaries h = absurd h
  rule_says (Io e) h = absurd h
  rule_says Memory h = absurd h

  -- a broken rule says nothing of them
  pub rule_tells : (e : Fault) → OwnFault e (IsRuleFault e) → OwnFault e (TellsEntries known s e)
  rule_tells e h = claims_through e (IsRuleFault e) (TellsEntries known s e) (rule_says e) h

  -- A number that is negative.
  told_negative : (e : Fault) (P : Type 0) → e ≡ OutOfSpec NegativeFooterLength → OwnFault e P → (P → TellsEntries known s (OutOfSpec NegativeFooterLength))
      → OwnFault e (TellsEntries known s e)
  told_negative e P is h f = subst (λ (x : Fault). OwnFault x (TellsEntries known s x)) (sym is) (f (subst (λ (x : Fault). OwnFault x P) is h))

  pub negative_length : (a : ℕ) (e : Fault) → a < length s.nodes → e ≡ OutOfSpec NegativeFooterLength → OwnFault e (IsSize (node s a).length → ⊥)
      → OwnFault e (TellsEntries known s e)
  negative_length a e inside is h = told_negative e (IsSize (node s a).length → ⊥) is h (λ d. inl (record { index = a; inside = inside; is = d }))

  pub negative_offset : (i : ℕ) (e : Fault) → i < length s.parts → e ≡ OutOfSpec NegativeFooterLength → OwnFault e (IsSize (buffer s i).offset → ⊥)
      → OwnFault e (TellsEntries known s e)
  negative_offset i e inside is h = told_negative e (IsSize (buffer s i).offset → ⊥) is h (λ d. inr (record { index = i; inside = inside; is = λ z. d z.0 }))

  -- The encoded length is less than the bytes that are needed.
  pub short_tells : (i count needed n : ℕ) (e : Fault) → i < length s.parts → listed s i ≡ n → n < needed → TellsShort count needed n e → OwnFault e (TellsEntries known s e)
  short_tells i count needed n (OutOfSpec (InvalidBuffer c x m l)) inside is less h =
      (omega (arith, less, h.1, h.2), record { index = i; inside = inside; is = omega (arith, is, h.2) })
  short_tells i count needed n (OutOfSpec _) inside is less h = absurd h
  short_tells i count needed n Ended inside is less h = absurd h
  short_tells i count needed n (NotYetImplemented x) inside is less h = absurd h
  short_tells i count needed n (Schema x) inside is less h = absurd h
  short_tells i count needed n (Argument a) inside is less h = absurd h
  short_tells i count needed n (State x) inside is less h = absurd h
  short_tells i count needed n TooManyDictionaries inside is less h = absurd h
  short_tells i count needed n (Io e) inside is less h = tt
  short_tells i count needed n Memory inside is less h = tt
  short_tells i count needed n (Lower e) inside is less h = absurd h

  fewer_there : (i d : ℕ) → IsSize (buffer s i).offset → d ≤ listed s i → (Need s i d → ⊥) → length (bytes s i) < listed s i
  fewer_there i d natural long denied =
      let few : d ≤ length (bytes s i) → ⊥ = λ h. denied (natural, long, h) in
      omega (arith, few, long)

  -- The device ends before the bytes that are needed and encoded.
  ended_says : (i d : ℕ) (e : Fault) → i < length s.parts → IsSize (buffer s i).offset → d ≤ listed s i → OwnFault e (e ≡ Ended) → (IsTrue known → OwnFault e (Need s i d → ⊥))
      → OwnFault e (TellsEntries known s e)
  ended_says i d Ended inside natural long is h = λ k. record { index = i; inside = inside; is = fewer_there i d natural long (h k) }
  ended_says i d (OutOfSpec x) inside natural long is h = absurd cc
  ended_says i d (NotYetImplemented x) inside natural long is h = absurd cc
  ended_says i d (Schema x) inside natural long is h = absurd cc
  ended_says i d (Argument x) inside natural long is h = absurd cc
  ended_says i d (State x) inside natural long is h = absurd cc
  ended_says i d TooManyDictionaries inside natural long is h = absurd cc
  ended_says i d (Io e) inside natural long is h = tt
  ended_says i d Memory inside natural long is h = tt
  ended_says i d (Lower e) inside natural long is h = absurd cc

  pub ended_tells : {X : Type 0} (i d : ℕ) (r : Result X Fault) (q : X → Type 0) → i < length s.parts → IsSize (buffer s i).offset → d ≤ listed s i
      → IfErr r (λ e. OwnFault e (e ≡ Ended)) → (IsTrue known → Answers r (Need s i d) q) → IfErr r (λ e. OwnFault e (TellsEntries known s e))
  ended_tells i d (Ok x) q inside natural long is h = tt
  ended_tells i d (Err e) q inside natural long is h = ended_says i d e inside natural long is h

  untyped : (id : Option ℤ) (i : ℤ) → (id ≡ Some i) ⊎ ((id ≡ None) × (i ≡ pos 0)) → values_type s id ≡ None → (i ≡ pos 0) ⊎ (values_type s (Some i) ≡ None)
  untyped id i h none = elim h [
    | inl is ↦ inr (subst (λ (o : Option ℤ). values_type s o ≡ None) is none)
    | inr is ↦ inl is.1
  ]

  values_say : (id : Option ℤ) (t : TypeTree) (e : Fault) → RefusesValues s id t e → TellsEntries known s e
  values_say id t (OutOfSpec (InvalidId i)) h = untyped id i h.1 h.0
  values_say id t (OutOfSpec (InvalidIdDataType i)) h = subst (λ (o : Option ℤ). IsSome (values_type s o)) h.0 h.1
  values_say id t (OutOfSpec _) h = absurd h
  values_say id t Ended h = absurd h
  values_say id t (NotYetImplemented x) h = absurd h
  values_say id t (Schema x) h = absurd h
  values_say id t (Argument a) h = absurd h
  values_say id t (State x) h = absurd h
  values_say id t TooManyDictionaries h = absurd h
  values_say id t (Io e) h = absurd h
  values_say id t Memory h = absurd h
  values_say id t (Lower e) h = absurd h

  -- values that aren't known, or have another type
  pub values_tell : (id : Option ℤ) (t : TypeTree) (e : Fault) → OwnFault e (RefusesValues s id t e) → OwnFault e (TellsEntries known s e)
  values_tell id t e h = claims_through e (RefusesValues s id t e) (TellsEntries known s e) (values_say id t e) h

-- If there are fewer bytes than some bits take, there are fewer bits.
pub fewer_bits : (n count : ℕ) → n < bytes_for count → n * 8 < count
fewer_bits n count less = omega (arith, less, div_ceil_times count 8 (omega arith))

-- ---- of a buffer that was looked up

module _ {R : Type 0} (d : Device R) (b : Body R) (i : ℕ) (x : Buffer) (inside : i < length b.buffers) (got : slice_get b.buffers i ≡ Some x) where
  there : i < length (entries d b).parts
  unfolding entries
  there = let e = length-map b.buffers (part_at (source d b) b.base) in omega (arith, e, inside)

  found : buffer (entries d b) i ≡ part_at (source d b) b.base x
  found = part_is d b i inside ∙ ap (part_at (source d b) b.base) (get_or_from_slice_get b.buffers i x _ got)

  pub listed_found : listed (entries d b) i ≡ size x.length
  listed_found = ap (λ (p : Part). size p.length) found

  pub offset_fetched : (e : Fault) → e ≡ OutOfSpec NegativeFooterLength → OwnFault e (IsSize x.offset → ⊥) → OwnFault e (TellsEntries d.is_memory (entries d b) e)
  offset_fetched e is h =
      negative_offset d.is_memory (entries d b) i e there is (subst (λ (p : Part). OwnFault e (IsSize p.offset → ⊥)) (sym found) h)

  pub short_fetched : (count needed n : ℕ) (e : Fault) → n ≡ size x.length → n < needed → TellsShort count needed n e → OwnFault e (TellsEntries d.is_memory (entries d b) e)
  short_fetched count needed n e is less h =
      short_tells d.is_memory (entries d b) i count needed n e there (listed_found ∙ sym is) less h

  pub bits_fetched : (count n : ℕ) (e : Fault) → n ≡ size x.length * 8 → n < count → e ≡ OutOfSpec (InvalidBitmap count n) → OwnFault e (TellsEntries d.is_memory (entries d b) e)
  bits_fetched count n e is less h =
      subst (λ (f : Fault). OwnFault f (TellsEntries d.is_memory (entries d b) f)) (sym h)
      (less, record { index = i; inside = there; is = ap (λ (p : Part). size p.length * 8) found ∙ sym is })

  pub ended_fetched : {X : Type 0} (y : ℕ) (r : Result X Fault) (q : X → Type 0) → IsSize x.offset → y ≤ size x.length → IfErr r (λ e. OwnFault e (e ≡ Ended))
      → (IsTrue d.is_memory → Answers r (Need (entries d b) i y) q) → IfErr r (λ e. OwnFault e (TellsEntries d.is_memory (entries d b) e))
  ended_fetched y r q natural long is h =
      ended_tells d.is_memory (entries d b) i y r q there (subst (λ (p : Part). IsSize p.offset) (sym found) natural)
      (omega (arith, long, listed_found)) is h

-- of a node that was looked up
pub node_fetched : {R : Type 0} (d : Device R) (b : Body R) (a : ℕ) (x : FieldNode) → a < length b.nodes → node (entries d b) a ≡ x → (e : Fault)
    → e ≡ OutOfSpec NegativeFooterLength → OwnFault e (IsSize x.length → ⊥) → OwnFault e (TellsEntries d.is_memory (entries d b) e)
unfolding entries
node_fetched d b a x inside found e is h =
    negative_length d.is_memory (entries d b) a e inside is (subst (λ (y : FieldNode). OwnFault e (IsSize y.length → ⊥)) (sym found) h)

pub ruleset reasons = (rule_tells, values_tell)
