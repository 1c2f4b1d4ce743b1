-- What reading a frame gives.
-- (Arrow columnar format, "Encapsulated message format".)
use Rattle.std.specs.Prelude.{◌≡◌, ℕ, ◌+◌, ◌^◌, ◌==◌, ◌<◌, ◌≤◌, nat_lt, if◌then◌else◌, List, [], ◌++◌, length, take, drop, Option, None, Some, Result, Ok, Err}
use Rattle.ipc_devices.specs.Faults.{OwnFault}
use Rattle.ipc_devices.specs.Gives.{Stop, going, ended, failed, stop_of, Gives, Gave}
use Rattle.ipc_devices.specs.declared.fault.Fault.{Fault}
use Rattle.ipc_devices.specs.declared.fault.Fault.TheVariants.{Ended, OutOfSpec}
use Rattle.ipc_devices.specs.declared.fault.OutOfSpecKind.TheVariants.{NegativeFooterLength}
use Rattle.ipc_readers.specs.declared.read.begun.Begun.{Begun}
use Rattle.ipc_readers.specs.declared.read.begun.Frame as read
use Rattle.ipc_readers.specs.declared.read.begun.Frame.TheVariants as frames
use Rattle.ipc_model.specs.Frame.{Frame, message, mark, waiting, broken, word, frame, sized, marked}

-- The bytes of a partial prefix that were read earlier.
abbrev pub begun_bytes : Begun → List ℕ
begun_bytes b = take b.count b.bytes

-- 4 bytes were read as a number; or there are fewer, which are kept as a partial prefix.
abbrev pub GivesWord : List ℕ → Option ℕ → (begun rest : List ℕ) → Type 0
GivesWord xs (Some n) begun rest = (4 ≤ length xs) × (n ≡ word xs) × (begun ≡ []) × (rest ≡ drop 4 xs)
GivesWord xs None begun rest = (length xs < 4) × (begun ≡ xs)

-- 4 bytes were read as a number, or there are fewer, which are kept; nothing
-- is claimed if the device failed.
abbrev pub WordGiven : {E : Type 0} → List ℕ → Result (Option ℕ) E → (begun rest : List ℕ) → Type 0
WordGiven xs (Ok w) begun rest = GivesWord xs w begun rest
WordGiven xs (Err e) begun rest = Unit {0}

-- The first frame was read: `metadata` are those of a message, `begun` is the
-- partial prefix that is kept for a later call, and `rest` is left. If the stream
-- waits, the device may have more later.
abbrev pub IsFrame : Frame → read.Frame → (metadata begun rest : List ℕ) → Type 0
IsFrame (message m behind) frames.Message metadata begun rest = (metadata ≡ m) × (begun ≡ []) × (rest ≡ behind)
IsFrame (mark behind) frames.Mark metadata begun rest = (begun ≡ []) × (rest ≡ behind)
IsFrame (waiting bytes) frames.Waiting metadata begun rest = begun ≡ bytes
IsFrame _ _ metadata begun rest = ⊥

-- The first frame was read; or the error, unless it is one of allocation or of the device, is
-- `named`, and the frame is broken.
abbrev pub GivesFrame : Frame → Fault → Result read.Frame Fault → (metadata begun rest : List ℕ) → Type 0
GivesFrame f named (Ok x) metadata begun rest = IsFrame f x metadata begun rest
GivesFrame f named (Err e) metadata begun rest = OwnFault e ((f ≡ broken) × (e ≡ named))

-- The errors of a frame: a negative length, or fewer bytes than stated.
abbrev pub IsFramingFault : Fault → Type 0
IsFramingFault Ended = Unit {0}
IsFramingFault (OutOfSpec NegativeFooterLength) = Unit {0}
IsFramingFault _ = ⊥

-- The error of a broken frame, by the length that it states.
abbrev pub sized_fault : ℕ → Fault
sized_fault n = if nat_lt n (2 ^ 31) then Ended else OutOfSpec NegativeFooterLength

-- The error of a broken frame, from its length on.
unfoldable pub marked_fault : List ℕ → Fault
marked_fault bytes = if nat_lt (length bytes) 4 then Ended else sized_fault (word bytes)

-- The error of a broken frame.
unfoldable pub frame_fault : List ℕ → Fault
frame_fault bytes = if word bytes == 0xFFFF_FFFF then marked_fault (drop 4 bytes) else sized_fault (word bytes)

-- ---- how the device stopped

-- How reading 4 bytes stopped: at the end of the device if there are fewer.

abbrev pub word_stop : {E : Type 0} → Result (Option ℕ) E → Stop
word_stop (Ok (Some n)) = going
word_stop (Ok None) = ended
word_stop (Err e) = failed

-- How reading a frame stopped: at the end of the device if the stream waits.
abbrev pub frame_stop : Result read.Frame Fault → Stop
frame_stop (Ok frames.Waiting) = ended
frame_stop (Ok _) = going
frame_stop (Err e) = stop_of e

-- ---- how many bytes a frame has, as far as its first bytes say

-- A length that a frame states; 0 if it is negative.

abbrev pub due_sized : ℕ → ℕ
due_sized n = if nat_lt n (2 ^ 31) then n else 0

-- How many bytes a frame has after the continuation marker.
unfoldable pub due_marked : List ℕ → ℕ
due_marked bytes = if nat_lt (length bytes) 4 then 4 else 4 + due_sized (word bytes)

-- How many bytes a frame has, up to the end of its metadata.
unfoldable pub due : List ℕ → ℕ
due bytes =
    if nat_lt (length bytes) 4 then 4
    else if word bytes == 0xFFFF_FFFF then 4 + due_marked (drop 4 bytes)
    else 4 + due_sized (word bytes)

-- ---- bytes that a device gave

-- After the partial prefix p, at most the rest of 4 bytes was read.
abbrev pub WordGave : {S E : Type 0} → Gives S → (p : List ℕ) → S → Result (Option ℕ) E → (q : List ℕ) → S → Type 0
WordGave gives p a r q b = Gave gives (λ xs. length (p ++ xs) ≤ 4) (λ all rest. WordGiven (p ++ all) r q rest) a (word_stop r) b

-- At most n bytes were read: a message, or an error.
abbrev pub SizedGave : {S : Type 0} → Gives S → ℕ → S → Result read.Frame Fault → (metadata : List ℕ) → S → Type 0
SizedGave gives n a r m b = Gave gives (λ xs. length xs ≤ due_sized n) (λ all rest. GivesFrame (sized n all) (sized_fault n) r m [] rest) a (frame_stop r) b

-- After the continuation marker and the partial bytes p of its length, at most
-- the rest of the frame was read.
abbrev pub MarkedGave : {S : Type 0} → Gives S → (p : List ℕ) → S → Result read.Frame Fault → (metadata q : List ℕ) → S → Type 0
MarkedGave gives p a r m q b = Gave gives (λ xs. length (p ++ xs) ≤ due_marked (p ++ xs)) (λ all rest. GivesFrame (marked (p ++ all)) (marked_fault (p ++ all)) r m q rest) a (frame_stop r) b

-- After the partial prefix p, at most the rest of a frame was read: all of it if it is a message or
-- the mark. If the stream waits, all bytes that there are were read and kept.
abbrev pub FrameGave : {S : Type 0} → Gives S → (p : List ℕ) → S → Result read.Frame Fault → (metadata q : List ℕ) → S → Type 0
FrameGave gives p a r m q b = Gave gives (λ xs. length (p ++ xs) ≤ due (p ++ xs)) (λ all rest. GivesFrame (frame (p ++ all)) (frame_fault (p ++ all)) r m q rest) a (frame_stop r) b
