-- Messages that are sent, whole or in part.
use Rattle.std.proofs.Common.{arith, ◌≡◌, ℕ, ◌^◌, ◌<◌, ◌≤◌, ◌%◌, Bool, true, false, List, [], ◌∷◌, ◌++◌, length, Result, Ok, Err, IfErr, OnErr, OnOk, MatchResult, refl, sym, ◌∙◌, subst, append-nil}
use Rattle.std.specs.Int.{next_multiple_of}
use Rattle.lower_types.specs.declared.Endianness.{Endianness}
use Rattle.lower_arrays.specs.Layouts.{Layout}
use Rattle.ipc_chunks.proofs.Refusals.{IsOfMessage}
use Rattle.ipc_devices.specs.Acts.{IsIoOf}
use Rattle.ipc_devices.specs.declared.fault.ArgFault.TheVariants.{TooLarge, TooLong}
use Rattle.ipc_devices.specs.declared.fault.Fault.{Fault}
use Rattle.ipc_devices.specs.declared.fault.Fault.TheVariants.{Argument, Io, Memory as NoMemory}
use Rattle.ipc_encode.specs.Appending.{order_of}
use Rattle.ipc_model.specs.Offers.{FilledPlace}
use Rattle.ipc_schema_write.specs.WriterAnswers.{byte_order}
use Rattle.ipc_plan.specs.Sending.{Sends}
use Rattle.ipc_plan.proofs.Sends.{sends_stop}
use Rattle.ipc_write.specs.Framing.{head_bytes, message_bytes}
use Rattle.ipc_write.specs.Messages.{RefusesHanding, messages_bytes}
use Rattle.ipc_chunks.specs.Messages.{AreMessages, Message, RefusesMessages}
use Rattle.ipc_devices.specs.Device.{Device}
use Rattle.ipc_write.specs.Sending.{HandsMessages, SendsOrRefuses}
use Rattle.ipc_write.specs.Writers.{LeavesState}
use Rattle.ipc_write.specs.declared.stream.WriterState.{WriterState}
use Rattle.ipc_write.specs.declared.stream.WriterState.TheVariants.{Failed}
use Rattle.ipc_write.proofs.MessageLists.{bytes_last}
use Rattle.ipc_write.proofs.Messages.{message_whole_body}
use Rattle.ipc_write.proofs.Sends.{both_sent, or_sends}

-- ---- one message

-- The bytes before a body are a message without one.
pub head_is_message : (metadata : List ℕ) → head_bytes metadata ≡ message_bytes metadata []
head_is_message metadata = sym (append-nil (head_bytes metadata)) ∙ message_whole_body metadata [] refl

too_short : (n : ℕ) → n < 2 ^ 31 → 2 ^ 31 ≤ n → ⊥
too_short n h k = omega (arith, h, k)

-- The bytes before its body weren't sent whole.
pub head_unsent : (X Y : Type 0) {W : Type 0} (d : Device W) (w : W) (e : Fault) (w' : W) (metadata body : List ℕ)
    → next_multiple_of (length metadata) 8 < 2 ^ 31 → length body % 64 ≡ 0
    → SendsOrRefuses {X = X} d w (Err e) w' (head_bytes metadata) (2 ^ 31 ≤ next_multiple_of (length metadata) 8)
    → Sends {X = Y} d (message_bytes metadata body) w (Err e) w'
head_unsent X Y d w e w' metadata body short whole h =
    subst (λ (bytes : List ℕ). Sends {X = Y} d bytes w (Err e) w') (message_whole_body metadata body whole)
    (sends_stop {X = X} {Y = Y} d _ _ e (head_bytes metadata) body (or_sends {X = X} d w (Err e) w' (head_bytes metadata) _ h (too_short _ short)))

-- They were, and then the body.
pub body_after : (X Y : Type 0) {W : Type 0} (d : Device W) (w w' w'' : W) (x : X) (r : Result Y Fault) (metadata body : List ℕ)
    → next_multiple_of (length metadata) 8 < 2 ^ 31 → length body % 64 ≡ 0
    → SendsOrRefuses {X = X} d w (Ok x) w' (head_bytes metadata) (2 ^ 31 ≤ next_multiple_of (length metadata) 8)
    → Sends {X = Y} d body w' r w''
    → Sends {X = Y} d (message_bytes metadata body) w r w''
body_after X Y d w w' w'' x r metadata body short whole f g =
    subst (λ (bytes : List ℕ). Sends {X = Y} d bytes w r w'') (message_whole_body metadata body whole)
    (both_sent {X = X} {Y = Y} d _ _ _ x r (head_bytes metadata) body f g)

-- ---- one after another

pub all_unsent : (X Y : Type 0) {W : Type 0} (d : Device W) (w w' : W) (e : Fault) (xs : List Message) (m : Message) → Sends {X = X} d (messages_bytes xs) w (Err e) w'
    → Sends {X = Y} d (messages_bytes (xs ++ m ∷ [])) w (Err e) w'
all_unsent X Y d w w' e xs m h =
    subst (λ (bytes : List ℕ). Sends {X = Y} d bytes w (Err e) w') (sym (bytes_last xs m)) (sends_stop {X = X} {Y = Y} d w w' e (messages_bytes xs) (message_bytes m.metadata m.body) h)

pub last_after : (X Y : Type 0) {W : Type 0} (d : Device W) (w w' w'' : W) (x : X) (r : Result Y Fault) (xs : List Message) (m : Message) → Sends {X = X} d (messages_bytes xs) w (Ok x) w'
    → Sends {X = Y} d (message_bytes m.metadata m.body) w' r w'' → Sends {X = Y} d (messages_bytes (xs ++ m ∷ [])) w r w''
last_after X Y d w w' w'' x r xs m f g =
    subst (λ (bytes : List ℕ). Sends {X = Y} d bytes w r w'') (sym (bytes_last xs m)) (both_sent {X = X} {Y = Y} d w w' w'' x r (messages_bytes xs) (message_bytes m.metadata m.body) f g)

-- ---- a chunk

-- messages that aren't encoded
pub hands_refused : {W : Type 0} (d : Device W) (order : Endianness) (columns : List Layout) (list : List FilledPlace) (w : W) (e : Fault)
    → IsOfMessage e → HandsMessages d order columns list w (Err e) w
hands_refused d order columns list w NoMemory h = record { dictionaries = []; own = record { metadata = []; body = [] }; are = tt; sends = refl }
hands_refused d order columns list w (Argument TooLong) h = record { dictionaries = []; own = record { metadata = []; body = [] }; are = tt; sends = refl }
hands_refused d order columns list w (Argument TooLarge) h = record { dictionaries = []; own = record { metadata = []; body = [] }; are = tt; sends = refl }
hands_refused d order columns list w _ h = absurd h

pub handing_refused : (list : List FilledPlace) (columns : List Layout) (e : Fault) → RefusesMessages list columns e → RefusesHanding list columns e
handing_refused list columns (Io x) h = tt
handing_refused list columns _ h = h

pub leaves_refused : (s : WriterState) (e : Fault) → IsOfMessage e → LeavesState (Err e) s s
leaves_refused s (Io x) h = absurd h
leaves_refused s _ h = refl

-- The result of a device.
pub hands_sent : {W : Type 0} (d : Device W) (order : Endianness) (columns : List Layout) (list : List FilledPlace) (ds : List Message) (own : Message) (w w' : W) (r : Result (Unit {0}) Fault)
    → AreMessages order columns list ds own → Sends {X = Unit {0}} d (messages_bytes (ds ++ own ∷ [])) w r w'
    → HandsMessages d order columns list w r w'
hands_sent d order columns list ds own w w' (Ok x) are h = record { dictionaries = ds; own = own; are = are; sends = h }
hands_sent d order columns list ds own w w' (Err (Io x)) are h = record { dictionaries = ds; own = own; are = are; sends = h }
hands_sent d order columns list ds own w w' (Err _) are h = absurd h.only

pub handing_sent : {W : Type 0} (d : Device W) (list : List FilledPlace) (columns : List Layout) (r : Result (Unit {0}) Fault) (P : Type 0) → IfErr r (IsIoOf d) → P → MatchResult r (λ _. P) (RefusesHanding list columns)
handing_sent d list columns (Ok x) P only p = p
handing_sent d list columns (Err (Io x)) P only p = tt
handing_sent d list columns (Err _) P only p = absurd only

pub leaves_sent : {W : Type 0} (d : Device W) (s s' : WriterState) (r : Result (Unit {0}) Fault) → IfErr r (IsIoOf d) → OnOk r (s' ≡ s) → OnErr r (s' ≡ Failed) → LeavesState r s s'
leaves_sent d s s' (Ok x) only stays failed = stays
leaves_sent d s s' (Err (Io x)) only stays failed = failed
leaves_sent d s s' (Err _) only stays failed = absurd only

-- both byte orders
pub same_order : (b : Bool) → order_of b ≡ byte_order b
same_order true = refl
same_order false = refl
