-- The parts of a message: how long they are, and how they are sent one after another.
use Rattle.ipc_devices.specs.Device.{Device}
use Rattle.std.proofs.Common.{arith, ◌≡◌, ℕ, ℤ, Result, Ok, Err, subst, pos, ◌+◌, ◌-◌, ◌%◌, List, ◌++◌, length, replicate, refl, sym, ap, ◌∙◌, append-nil, append_assoc, length-append}
use Rattle.std.proofs.lemmas.List.{length-replicate}
use Rattle.std.specs.Int.{next_multiple_of}
use Rattle.ipc_model.specs.WrittenBatches as written
use Rattle.ipc_model.specs.WrittenLaws.{prefix}
use Rattle.ipc_devices.specs.declared.fault.Fault.{Fault}
use Rattle.ipc_plan.specs.Sending.{Sends}
use Rattle.ipc_plan.proofs.Sends.{sends_stop}
use Rattle.ipc_write.specs.Framing.{head_bytes, head_len, message_bytes, message_len, padded, prefix_bytes}
use Rattle.ipc_write.proofs.Sends.{both_sent}

-- ---- padding

length_padded_to : (xs : List ℕ) (m n : ℕ) → next_multiple_of (length xs) m ≡ length xs + n → length (padded xs m) ≡ next_multiple_of (length xs) m
unfolding padded
length_padded_to xs m n e =
    let zero_byte : ℕ = 0 in
    let k = next_multiple_of (length xs) m - length xs in
    omega (arith, e, length-append xs (replicate k zero_byte), length-replicate k zero_byte)

-- bytes that end at a multiple need no padding
pub padded_whole : (xs : List ℕ) (m : ℕ) → next_multiple_of (length xs) m ≡ length xs → padded xs m ≡ xs
unfolding padded
padded_whole xs m same =
    let none : next_multiple_of (length xs) m - length xs ≡ 0 = omega (arith, same) in
    ap (λ n. xs ++ replicate n 0) none ∙ append-nil xs

-- ---- messages

pub length_prefix : (n : ℤ) → length (prefix_bytes n) ≡ 8
unfolding prefix_bytes
length_prefix n = refl

length_head : (metadata : List ℕ) → length (head_bytes metadata) ≡ head_len metadata
unfolding head_bytes
length_head metadata =
    let n = next_multiple_of (length metadata) 8 in
    omega (arith, length-append (prefix_bytes (pos n)) (padded metadata 8), length_prefix (pos n), length_padded_to metadata 8 (n - length metadata) (omega arith))

pub length_message : (metadata bytes : List ℕ) → length (message_bytes metadata bytes) ≡ message_len metadata bytes
unfolding message_bytes
length_message metadata bytes =
    let n = next_multiple_of (length bytes) 64 in
    omega (arith, length-append (head_bytes metadata) (padded bytes 64), length_head metadata, length_padded_to bytes 64 (n - length bytes) (omega arith))

-- a message whose body ends at its multiple
pub message_whole_body : (metadata bytes : List ℕ) → length bytes % 64 ≡ 0 → head_bytes metadata ++ bytes ≡ message_bytes metadata bytes
unfolding message_bytes
message_whole_body metadata bytes whole =
    let same : next_multiple_of (length bytes) 64 ≡ length bytes = omega (arith, whole) in
    sym (ap (λ xs. head_bytes metadata ++ xs) (padded_whole bytes 64 same))

-- a message whose metadata and body end at their multiples has no padding
pub message_whole : (metadata bytes : List ℕ) → length metadata % 8 ≡ 0 → length bytes % 64 ≡ 0 → message_bytes metadata bytes ≡ prefix (length metadata) ++ (metadata ++ bytes)
unfolding message_bytes head_bytes prefix_bytes
message_whole metadata bytes whole whole_body =
    let same : next_multiple_of (length metadata) 8 ≡ length metadata = omega (arith, whole) in
    let same_body : next_multiple_of (length bytes) 64 ≡ length bytes = omega (arith, whole_body) in
    ap (λ n. (prefix n ++ padded metadata 8) ++ padded bytes 64) same
    ∙ ap (λ bs. (prefix (length metadata) ++ bs) ++ padded bytes 64) (padded_whole metadata 8 same)
    ∙ ap (λ bs. (prefix (length metadata) ++ metadata) ++ bs) (padded_whole bytes 64 same_body)
    ∙ append_assoc (prefix (length metadata)) metadata bytes

-- ---- sending

-- the prefix wasn't sent whole
pub prefix_stop : {X Y W : Type 0} (d : Device W) (w w' : W) (e : Fault) (metadata : List ℕ) (n : ℤ) → n ≡ pos (next_multiple_of (length metadata) 8)
    → Sends {X = X} d (prefix_bytes n) w (Err e) w' → Sends {X = Y} d (head_bytes metadata) w (Err e) w'
unfolding head_bytes
prefix_stop {X = X} {Y = Y} d w w' e metadata n same f =
    sends_stop {X = X} {Y = Y} d w w' e (prefix_bytes (pos (next_multiple_of (length metadata) 8))) (padded metadata 8)
    (subst (λ (z : ℤ). Sends {X = X} d (prefix_bytes z) w (Err e) w') same f)

-- the prefix was sent, and then the metadata
pub head_sent : {X Y W : Type 0} (d : Device W) (w w' w'' : W) (x : X) (r : Result Y Fault) (metadata : List ℕ) (n : ℤ) → n ≡ pos (next_multiple_of (length metadata) 8)
    → Sends {X = X} d (prefix_bytes n) w (Ok x) w' → Sends {X = Y} d (padded metadata 8) w' r w'' → Sends {X = Y} d (head_bytes metadata) w r w''
unfolding head_bytes
head_sent {X = X} {Y = Y} d w w' w'' x r metadata n same f g =
    both_sent {X = X} {Y = Y} d w w' w'' x r (prefix_bytes (pos (next_multiple_of (length metadata) 8))) (padded metadata 8)
    (subst (λ (z : ℤ). Sends {X = X} d (prefix_bytes z) w (Ok x) w') same f) g
