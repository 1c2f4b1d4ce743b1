-- By a projection a stream means the chosen columns of its chunks.
use Rattle.std.proofs.Common.{◌≡◌, ◌≢◌, ℕ, zero, suc, ◌==◌, nat_lt, true, false, Bool, cond, List, map, length, take, drop, Option, None, Some, option_map, option_to_list, refl, ap, ◌∙◌}
use Rattle.std.specs.Option.{option_and_then}
use Rattle.ipc_table_views.specs.Spot.{Spot}
use Rattle.ipc_model.proofs.Pruned.{prune_law}
use Rattle.ipc_model.specs.BatchLaws.{pruned}
use Rattle.ipc_model.specs.Batches.{Body, Chunk, IsProjection, Lists, Schema, batch, entries_of, kinds, lists_of, record_meaning, dictionary_meaning, extra_of}
use Rattle.ipc_model.specs.Entries.{Dictionaries}
use Rattle.ipc_model.specs.Frame.{Frame, message, mark, waiting, broken, frame}
use Rattle.ipc_model.specs.Kinds.{count}
use Rattle.ipc_model.specs.Streams.{Head, Header, header_of, Known, marked, waits, faulty, Item, more, done, whole, with_chunk, with_dictionaries, record_item, dictionary_item, most_dictionaries, body_item, message_item, frame_item, item, Meant, with_chunks, from_item, meant_within, meaning}
use Rattle.ipc_readers.specs.ChosenStreams.{Request, PrunedLaw, chosen_record, chosen_body, chosen_frame, chosen_item, chosen_meaning, chosen_message, chosen_within}

-- ---- one message

-- What comes first by a projection is what comes first, with the chosen columns of its chunk.
-- Of a fault nothing is claimed.
abbrev Prunes : Option (List ℕ) → Item → Item → Type 0
Prunes p (more c t rest) j = j ≡ more (option_map (pruned p None) c) t rest
Prunes p (done faulty) j = Unit {0}
Prunes p (done e) j = j ≡ done e

by_test : (p : Option (List ℕ)) (b : Bool) (x y i j : Item) → Prunes p x i → Prunes p y j → Prunes p (cond b x y) (cond b i j)
by_test p true x y i j h k = h
by_test p false x y i j h k = k

record_prunes : (p : Option (List ℕ)) (o q : Option Chunk) (s : Known) (rest : List ℕ) → ((c : Chunk) → o ≡ Some c → q ≡ Some (pruned p None c))
    → Prunes p (with_chunk o s rest) (with_chunk q s rest)
record_prunes p None q s rest h = tt
record_prunes p (Some c) q s rest h = ap (λ (o : Option Chunk). with_chunk o s rest) (h c refl)

values_same : (p : Option (List ℕ)) (o : Option Dictionaries) (s : Known) (rest : List ℕ) → Prunes p (with_dictionaries o s rest) (with_dictionaries o s rest)
values_same p None s rest = tt
values_same p (Some ds) s rest = refl

lists_pruned : (schema : Schema) (extra : ℕ) (known : Dictionaries) (b : Body) (p : Option (List ℕ)) → IsProjection p (count (kinds schema)) → (o : Option Lists) (c : Chunk)
    → option_and_then (λ lists. batch (entries_of lists b schema.order extra known) b.size schema None None) o ≡ Some c
    → option_and_then (λ lists. batch (entries_of lists b schema.order extra known) b.size schema p None) o ≡ Some (pruned p None c)
lists_pruned schema extra known b p is None c e = absurd cc
lists_pruned schema extra known b p is (Some l) c e = prune_law (entries_of l b schema.order extra known) b.size schema p None c is e

batch_pruned : (schema : Schema) (extra : ℕ) (known : Dictionaries) (b : Body) (t : Spot) (p : Option (List ℕ)) → IsProjection p (count (kinds schema)) → (c : Chunk)
    → record_meaning schema extra known b t None None ≡ Some c → record_meaning schema extra known b t p None ≡ Some (pruned p None c)
unfolding record_meaning
batch_pruned schema extra known b t p is c e = lists_pruned schema extra known b p is (lists_of t) c e

module _ (h : Head) (p : Option (List ℕ)) (is : IsProjection p (count (kinds h.schema))) where
  abbrev asks : Request
  asks = record { head = h; projection = p }

  record_here : (s : Known) (m : Header) (rest : List ℕ) → Prunes p (record_item h s m rest) (chosen_record asks s m rest)
  record_here s m rest =
      record_prunes p (record_meaning h.schema (extra_of h.version) s.dictionaries (whole (take m.body rest)) m.table None None)
      (record_meaning h.schema (extra_of h.version) s.dictionaries (whole (take m.body rest)) m.table p None) s (drop m.body rest)
      (batch_pruned h.schema (extra_of h.version) s.dictionaries (whole (take m.body rest)) m.table p is)

  values_here : (s : Known) (m : Header) (rest : List ℕ) → Prunes p (dictionary_item h s m rest) (dictionary_item h s m rest)
  values_here s m rest =
      let values = with_dictionaries (dictionary_meaning h.schema (extra_of h.version) s.dictionaries (whole (take m.body rest)) m.table) s (drop m.body rest) in
      by_test p (nat_lt s.count most_dictionaries) values (done faulty) values (done faulty)
      (values_same p (dictionary_meaning h.schema (extra_of h.version) s.dictionaries (whole (take m.body rest)) m.table) s (drop m.body rest)) tt

  body_prunes : (s : Known) (m : Header) (rest : List ℕ) → Prunes p (body_item h s m rest) (chosen_body asks s m rest)
  unfolding body_item chosen_body
  body_prunes s m rest =
      let dictionary = cond (m.tag == 2) (dictionary_item h s m rest) (done faulty) in
      by_test p (nat_lt (length rest) m.body)
      (done faulty) (cond (m.tag == 3) (record_item h s m rest) dictionary)
      (done faulty) (cond (m.tag == 3) (chosen_record asks s m rest) dictionary)
      tt
      (by_test p (m.tag == 3) (record_item h s m rest) dictionary (chosen_record asks s m rest) dictionary (record_here s m rest)
      (by_test p (m.tag == 2) (dictionary_item h s m rest) (done faulty) (dictionary_item h s m rest) (done faulty) (values_here s m rest) tt))

  message_prunes : (s : Known) (o : Option Header) (rest : List ℕ) → Prunes p (message_item h s o rest) (chosen_message asks s o rest)
  message_prunes s None rest = tt
  message_prunes s (Some m) rest = body_prunes s m rest

  frame_prunes : (s : Known) (f : Frame) → Prunes p (frame_item h s f) (chosen_frame asks s f)
  frame_prunes s (message m rest) = message_prunes s (header_of m) rest
  frame_prunes s (mark rest) = refl
  frame_prunes s (waiting b) = refl
  frame_prunes s broken = tt

  item_prunes : (s : Known) (bytes : List ℕ) → Prunes p (item h s bytes) (chosen_item asks s bytes)
  unfolding item chosen_item
  item_prunes s bytes = frame_prunes s (frame bytes)

-- ---- all messages

-- the chosen columns of each chunk
abbrev prune : Option (List ℕ) → Meant → Meant
prune p m = record { chunks = map (pruned p None) m.chunks; end = m.end }

one_pruned : (p : Option (List ℕ)) (c : Option Chunk) (m n : Meant) → n ≡ prune p m
    → with_chunks (option_to_list (option_map (pruned p None) c)) n ≡ prune p (with_chunks (option_to_list c) m)
one_pruned p None m n e = e
one_pruned p (Some c) m n e = ap (with_chunks (option_to_list (Some (pruned p None c)))) e

from_pruned : (p : Option (List ℕ)) (f g : Known → List ℕ → Meant) → ((t : Known) (r : List ℕ) → (f t r).end ≢ faulty → g t r ≡ prune p (f t r))
    → (i j : Item) → Prunes p i j → (from_item f i).end ≢ faulty → from_item g j ≡ prune p (from_item f i)
from_pruned p f g each (more c t r) j is sound = ap (from_item g) is ∙ one_pruned p c (f t r) (g t r) (each t r sound)
from_pruned p f g each (done marked) j is sound = ap (from_item g) is
from_pruned p f g each (done (waits t b)) j is sound = ap (from_item g) is
from_pruned p f g each (done faulty) j is sound = absurd (sound refl)

within_pruned : (h : Head) (p : Option (List ℕ)) → IsProjection p (count (kinds h.schema)) → (k : ℕ) (s : Known) (bytes : List ℕ) → (meant_within h k s bytes).end ≢ faulty
    → chosen_within (record { head = h; projection = p }) k s bytes ≡ prune p (meant_within h k s bytes)
unfolding meant_within chosen_within
within_pruned h p is zero s bytes sound = absurd (sound refl)
within_pruned h p is (suc k) s bytes sound =
    from_pruned p (meant_within h k) (chosen_within (record { head = h; projection = p }) k) (within_pruned h p is k) (item h s bytes)
    (chosen_item (record { head = h; projection = p }) s bytes) (item_prunes h p is s bytes) sound

pub pruned_law : PrunedLaw
unfolding meaning chosen_meaning
pruned_law h p s bytes is sound = within_pruned h p is (suc (length bytes)) s bytes sound
