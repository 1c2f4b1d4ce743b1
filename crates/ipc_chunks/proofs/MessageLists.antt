-- The messages of a chunk: how long they are, one after another.
use Rattle.std.proofs.Common.{arith, ◌≡◌, ℕ, zero, suc, ◌+◌, ◌-◌, ◌<◌, ◌%◌, ◌^◌, List, [], ◌∷◌, ◌++◌, length, map, replicate, take, get_or, refl, sym, ap, ◌∙◌, subst, inl, inr, append_assoc, length-append}
use Rattle.std.proofs.lemmas.List.{length-replicate}
use Rattle.std.specs.Int.{next_multiple_of}
use Rattle.lower_types.specs.declared.Endianness.{Endianness}
use Rattle.lower_arrays.specs.Layouts.{Layout, len_of}
use Rattle.ipc_devices.specs.declared.fault.Fault.{Fault}
use Rattle.ipc_encode.specs.Encoding.{IsEncoded, metadata_length}
use Rattle.ipc_encode.specs.declared.batches.BatchKind.{BatchKind}
use Rattle.ipc_encode.specs.declared.batches.BatchKind.TheVariants.{Record, Dictionary}
use Rattle.ipc_encode.specs.declared.batches.Encoded.{Encoded}
use Rattle.ipc_encode.specs.declared.common.EncodedData.{EncodedData}
use Rattle.ipc_model.specs.Offers.{FilledPlace}
use Rattle.ipc_model.specs.WrittenBatches as written
use Rattle.ipc_plan.specs.Batches.{body_of_plan}
use Rattle.ipc_plan.specs.Bodies.{PlansColumns}
use Rattle.ipc_plan.specs.Levels.{joined_buffers}
use Rattle.ipc_plan.specs.Pieces.{pieces_bytes}
use Rattle.ipc_plan.specs.Plans.{body}
use Rattle.ipc_plan.specs.declared.plan.Plan.{Plan}
use Rattle.ipc_tracker.specs.Listings.{listed}
use Rattle.ipc_tracker.specs.declared.tracker.NewDictionary.{NewDictionary}
use Rattle.ipc_chunks.proofs.SameMessages.{same_message}
use Rattle.ipc_chunks.proofs.Taken.{map_more, taken_next}
use Rattle.ipc_chunks.specs.Messages.{AreAllValues, AreValueMessages, IsSendable, HasWholeBody, Message, RefusesSome, RefusesValues, data_seen, message_seen}

-- ---- padding

length_padded : (xs : List ℕ) → length (written.padded xs) ≡ next_multiple_of (length xs) 64
length_padded xs =
    let zero_byte : ℕ = 0 in
    let n = next_multiple_of (length xs) 64 - length xs in
    omega (arith, length-append xs (replicate n zero_byte), length-replicate n zero_byte)

-- The buffers of a body, each padded, end at a multiple of 64 bytes.
body_whole : (bs : List (List ℕ)) → length (body bs) % 64 ≡ 0
body_whole [] = refl
body_whole (x ∷ bs) =
    let rest = body_whole bs in
    omega (arith, length-append (written.padded x) (body bs), length_padded x, rest)

-- ---- one message

metadata_whole : (kind : BatchKind) (n nodes buffers : ℕ) → n ≡ metadata_length kind nodes buffers → n % 8 ≡ 0
metadata_whole Record n nodes buffers e = omega (arith, e)
metadata_whole (Dictionary id) n nodes buffers e = omega (arith, e)

planned_whole : (order : Endianness) (ls : List Layout) (p : Plan) (sent : List ℕ) → PlansColumns order ls p → sent ≡ body_of_plan p → length sent % 64 ≡ 0
planned_whole order ls p sent plans e =
    subst (λ (xs : List ℕ). length xs % 64 ≡ 0) (sym (e ∙ ap (λ (o : Endianness). pieces_bytes o p.pieces.items) plans.order_is ∙ plans.body_is)) (body_whole (joined_buffers plans.buffers))

-- The metadata and the body of an encoded message end at their multiples.
pub encoded_whole : (kind : BatchKind) (order : Endianness) (ls : List Layout) (n : ℕ) (metadata sent : List ℕ) → IsEncoded kind order ls n metadata sent → length metadata % 8 ≡ 0
encoded_whole kind order ls n metadata sent h = metadata_whole kind (length metadata) _ _ h.metadata_are.long

pub encoded_ends : (kind : BatchKind) (order : Endianness) (ls : List Layout) (n : ℕ) (metadata sent : List ℕ) → IsEncoded kind order ls n metadata sent → length sent % 64 ≡ 0
encoded_ends kind order ls n metadata sent h = planned_whole order ls h.plan sent h.plans h.body_is

short_padded : (n : ℕ) → n % 8 ≡ 0 → n < 2 ^ 31 → next_multiple_of n 8 < 2 ^ 31
short_padded n whole small = omega (arith, whole, small)

pub sendable : (kind : BatchKind) (order : Endianness) (ls : List Layout) (n : ℕ) (e : Encoded) → IsEncoded kind order ls n (message_seen e).metadata (message_seen e).body → IsSendable e
sendable kind order ls n e h = record {
  short = short_padded (length e.metadata.items) (encoded_whole kind order ls n _ _ h) h.metadata_are.small;
  whole = encoded_ends kind order ls n _ _ h;
}

pub all_sendable : (order : Endianness) (ps : List FilledPlace) (es : List Encoded) → AreAllValues order ps (map message_seen es) → (i : ℕ) (d : Encoded) → i < length es → IsSendable (get_or es i d)
all_sendable order ps [] h i d inside = absurd (omega (arith, inside))
all_sendable order [] (e ∷ es) h i d inside = absurd h
all_sendable order (p ∷ ps) (e ∷ es) h zero d inside = sendable (Dictionary p.id) order (p.values ∷ []) (len_of p.values) e h.0
all_sendable order (p ∷ ps) (e ∷ es) h (suc i) d inside = all_sendable order ps es h.1 i d (omega (arith, inside))

-- A message in pieces.
pub seen_encoded : (kind kind' : BatchKind) (order : Endianness) (ls ls' : List Layout) (n n' : ℕ) (e : Encoded) → IsEncoded kind order ls n e.metadata.items (pieces_bytes order e.body.pieces.items) → e.body.order ≡ order
    → kind ≡ kind' → ls ≡ ls' → n ≡ n' → IsEncoded kind' order ls' n' (message_seen e).metadata (message_seen e).body
seen_encoded kind kind' order ls ls' n n' e h same k l m =
    same_message order kind kind' ls ls' n n' _ _ k l m (subst (λ (o : Endianness). IsEncoded kind order ls n e.metadata.items (pieces_bytes o e.body.pieces.items)) (sym same) h)

pub whole_encoded : (order : Endianness) (e : Encoded) → e.body.end ≡ length (pieces_bytes order e.body.pieces.items) → e.body.order ≡ order → HasWholeBody e
whole_encoded order e long same = record { end = long ∙ ap (λ (o : Endianness). length (pieces_bytes o e.body.pieces.items)) (sym same) }

-- ---- one after another

-- One more encoded message.
values_more : (order : Endianness) (ps : List FilledPlace) (ms : List Message) (p : FilledPlace) (m : Message) → AreAllValues order ps ms → AreValueMessages order p m → AreAllValues order (ps ++ p ∷ []) (ms ++ m ∷ [])
values_more order [] [] p m a h = (h, tt)
values_more order [] (n ∷ ms) p m a h = absurd a
values_more order (q ∷ ps) [] p m a h = absurd a
values_more order (q ∷ ps) (n ∷ ms) p m a h = (a.0, values_more order ps ms p m a.1 h)

pub values_next : (order : Endianness) (list : List NewDictionary) (i : ℕ) (x d : NewDictionary) (es : List Encoded) (e : Encoded) → i < length list → x ≡ get_or list i d
    → AreAllValues order (map listed (take i list)) (map message_seen es) → AreValueMessages order (listed x) (message_seen e)
    → AreAllValues order (map listed (take (i + 1) list)) (map message_seen (es ++ e ∷ []))
values_next order list i x d es e inside is a h =
    subst (λ (ms : List Message). AreAllValues order (map listed (take (i + 1) list)) ms) (sym (map_more message_seen es e))
    (subst (λ (ps : List FilledPlace). AreAllValues order ps (map message_seen es ++ message_seen e ∷ [])) (sym (taken_next listed list i x d inside is))
    (values_more order (map listed (take i list)) (map message_seen es) (listed x) (message_seen e) a h))

-- One of the messages isn't encoded.
pub refused_at : (list : List NewDictionary) (i : ℕ) (x d : NewDictionary) (e : Fault) → i < length list → x ≡ get_or list i d → RefusesValues (listed x) e → RefusesSome (map listed list) e
refused_at [] i x d e inside at h = absurd (omega (arith, inside))
refused_at (y ∷ list) zero x d e inside at h = inl (subst (λ (z : NewDictionary). RefusesValues (listed z) e) at h)
refused_at (y ∷ list) (suc i) x d e inside at h = inr (refused_at list i x d e (omega (arith, inside)) at h)

-- ---- bodies in one piece

-- One more message.
pub joined_next : (es : List EncodedData) (e : EncodedData) (m : Encoded) (xs ys zs : List Encoded) → xs ≡ m ∷ ys → data_seen e ≡ message_seen m → map data_seen es ++ map message_seen xs ≡ map message_seen zs
    → map data_seen (es ++ e ∷ []) ++ map message_seen ys ≡ map message_seen zs
joined_next es e m xs ys zs is same h =
    ap (λ (ns : List Message). ns ++ map message_seen ys) (map_more data_seen es e)
    ∙ append_assoc (map data_seen es) (data_seen e ∷ []) (map message_seen ys)
    ∙ ap (λ (n : Message). map data_seen es ++ n ∷ map message_seen ys) same
    ∙ ap (λ (ns : List Encoded). map data_seen es ++ map message_seen ns) (sym is)
    ∙ h
