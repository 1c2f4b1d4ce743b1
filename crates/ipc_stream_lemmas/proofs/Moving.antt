-- What dictionary messages do to a reader.
use Rattle.std.proofs.Common.{◌≡◌, ℕ, ℤ, ◌+◌, ◌≤◌, cond, Bool, List, [], ◌∷◌, ◌++◌, length, Option, Some, None, refl, sym, ap, ◌∙◌, arith, append_assoc, inl, inr}
use Rattle.std.specs.Ordering.{int_eq}
use Rattle.std.proofs.lemmas.Bool.{cases_Bool}
use Rattle.std.proofs.lemmas.Bool.Decides.{Decides-int_eq}
use Rattle.ipc_model.proofs.Meanings.{meaning_more}
use Rattle.ipc_model.specs.Entries.{Dictionary, Dictionaries, dictionary_at}
use Rattle.ipc_model.specs.Streams.{Head, meaning}
use Rattle.ipc_model.specs.WrittenLaws.{prefix}
use Rattle.ipc_stream_lemmas.specs.Messages.{message_bytes, after_dictionary, MeansValues}
use Rattle.ipc_stream_lemmas.specs.Moves.{Moves}
use Rattle.ipc_stream_lemmas.specs.Remembered.{Remembered, remembering, KnowsRemembered, dictionary_of, Filled, filled_below, Finds}
use Rattle.ipc_stream_lemmas.proofs.Messages.{written_dictionary}

-- ---- what is found

pub finds_known : (m : Remembered) (known : Dictionaries) (ps : List Filled) → KnowsRemembered m known → Finds m ps → Finds (dictionary_at known) ps
finds_known m known [] a f = tt
finds_known m known (p ∷ ps) a f = (a.each p.id ∙ f.0, finds_known m known ps a f.1)

pub finds_both : (m : Remembered) (ps qs : List Filled) → Finds m ps → Finds m qs → Finds m (ps ++ qs)
finds_both m [] qs f g = g
finds_both m (p ∷ ps) qs f g = (f.0, finds_both m ps qs f.1 g)

pub finds_front : (m : Remembered) (ps qs : List Filled) → Finds m (ps ++ qs) → Finds m ps
finds_front m [] qs f = tt
finds_front m (p ∷ ps) qs f = (f.0, finds_front m ps qs f.1)

pub finds_behind : (m : Remembered) (ps qs : List Filled) → Finds m (ps ++ qs) → Finds m qs
finds_behind m [] qs f = f
finds_behind m (p ∷ ps) qs f = finds_behind m ps qs f.1

-- The values at the dictionary fields of the chunk stay once they are remembered.
pub finds_still : (v m after : Remembered) (ps : List Filled) → Finds v ps → Finds m ps → ((i : ℤ) → m i ≡ v i → after i ≡ v i) → Finds after ps
finds_still v m after [] f g keeps = tt
finds_still v m after (p ∷ ps) f g keeps = (keeps p.id (g.0 ∙ sym f.0) ∙ f.0, finds_still v m after ps f.1 g.1 keeps)

-- ---- what is remembered

pub remembered_here : (id : ℤ) (d : Dictionary) (m : Remembered) → remembering id d m id ≡ Some d
remembered_here id d m = ap (λ (b : Bool). cond b (Some d) (m id)) ((Decides-int_eq id id).1 refl)

pub remembered_still : (v m : Remembered) (id : ℤ) (d : Dictionary) → v id ≡ Some d → (i : ℤ) → m i ≡ v i → remembering id d m i ≡ v i
remembered_still v m id d e i h =
    elim (cases_Bool (int_eq id i)) [
      | inl same ↦ ap (λ (b : Bool). cond b (Some d) (m i)) same ∙ sym e ∙ ap v ((Decides-int_eq id i).0 same)
      | inr other ↦ ap (λ (b : Bool). cond b (Some d) (m i)) other ∙ h
    ]

-- ---- messages

pub moves_none : (h : Head) (m after : Remembered) → ((i : ℤ) → after i ≡ m i) → Moves h [] 0 m after
moves_none h m after same = record {
  moves = λ s a room. record { known = s; agrees = record { each = λ i. a.each i ∙ sym (same i) }; few = omega arith; means = λ rest. refl };
}

pub moves_then : (h : Head) (xs ys : List ℕ) (n k : ℕ) (a b c : Remembered) → Moves h xs n a b → Moves h ys k b c → Moves h (xs ++ ys) (n + k) a c
moves_then h xs ys n k a b c f g = record {
  moves = λ s agrees room.
      let x = f.moves s agrees (omega (arith, room)) in
      let y = g.moves x.known x.agrees (omega (arith, room, x.few)) in
      record {
        known = y.known;
        agrees = y.agrees;
        few = omega (arith, x.few, y.few);
        means = λ rest. ap (meaning h s) (append_assoc xs ys rest) ∙ x.means (ys ++ rest) ∙ y.means rest;
      };
}

-- by fewer messages
pub moves_fewer : (h : Head) (xs : List ℕ) (n k : ℕ) (a b : Remembered) → n ≤ k → Moves h xs n a b → Moves h xs k a b
moves_fewer h xs n k a b few f = record {
  moves = λ s agrees room.
      let x = f.moves s agrees (omega (arith, room, few)) in
      record { known = x.known; agrees = x.agrees; few = omega (arith, x.few, few); means = x.means };
}

pub message_then : (metadata body rest : List ℕ) → message_bytes metadata body ++ rest ≡ prefix (length metadata) ++ (metadata ++ (body ++ rest))
message_then metadata body rest =
    append_assoc (prefix (length metadata)) (metadata ++ body) rest ∙ ap (λ (xs : List ℕ). prefix (length metadata) ++ xs) (append_assoc metadata body rest)

-- The values at one dictionary field, if those inside them are remembered.
pub moves_one : (h : Head) (p : Filled) (metadata body : List ℕ) (m : Remembered) → MeansValues h p metadata body → Finds m (filled_below p.values p.ids)
    → Moves h (message_bytes metadata body) 1 m (remembering p.id (dictionary_of p.values) m)
moves_one h p metadata body m means found = record {
  moves = λ s agrees room.
      let d = dictionary_of p.values in
      let w = means.written s (finds_known m s.dictionaries (filled_below p.values p.ids) agrees found) in
      record {
        known = after_dictionary s p.id d;
        agrees = record { each = λ i. ap (λ (o : Option Dictionary). cond (int_eq p.id i) (Some d) o) (agrees.each i) };
        few = omega arith;
        means = λ rest.
            ap (meaning h s) (message_then metadata body rest)
            ∙ meaning_more h s _ None (after_dictionary s p.id d) rest (written_dictionary h s metadata body rest p.id d (omega (arith, room)) w);
      };
}
