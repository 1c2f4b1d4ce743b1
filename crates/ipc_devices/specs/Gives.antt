-- Which bytes the reads of a device gave, from one of its states to another.
use Rattle.std.specs.Prelude.{◌≡◌, ◌⊎◌, ℕ, ◌+◌, ◌<◌, ◌≤◌, min, IsTrue, List, [], ◌++◌, length, take, Result, Ok, Err}
use Rattle.std.specs.Borrow.{MutBor}
use Rattle.ipc_devices.specs.Device.{Device, Memory, Rises, after, most}
use Rattle.ipc_devices.specs.declared.fault.Fault.{Fault}
use Rattle.ipc_devices.specs.declared.fault.Fault.TheVariants.{Ended, Io}

-- How the last of some reads ended. `going`: it gave bytes, or wasn't asked for any, or there was
-- no read. `ended`: no bytes are left. `failed`: the device returned an error.
pub data Stop : Type 0 where
  going : Stop
  ended : Stop
  failed : Stop

-- `gives a xs e b`: the reads from state a to state b gave exactly the bytes xs, in this order, and
-- the last of them ended as e says.
abbrev pub Gives : Type 0 → Type 1
Gives S = S → List ℕ → Stop → S → Type 0

-- ---- theorems

-- No call gives nothing.

abbrev pub GivesNothing : {S : Type 0} → Gives S → Type 0
GivesNothing {S} gives = (a : S) → gives a [] going a

-- The bytes of two runs of reads come one after the other; nothing is
-- read after an end or a failure.
abbrev pub GivesInOrder : {S : Type 0} → Gives S → Type 0
GivesInOrder {S} gives = (a : S) (xs : List ℕ) (b : S) (ys : List ℕ) (e : Stop) (c : S)
    → gives a xs going b → gives b ys e c → gives a (xs ++ ys) e c

-- A count rose by n, up to the greatest count.
abbrev pub Counts : (old n new : ℕ) → Type 0
Counts old n new = min new most ≡ min (old + n) most

-- The count of bytes read rises by what was given.
abbrev pub GivesCounted : {S : Type 0} → Gives S → (S → ℕ) → Type 0
GivesCounted {S} gives given = (a : S) (xs : List ℕ) (e : Stop) (b : S) → gives a xs e b
    → Counts (given a) (length xs) (given b)

-- The count of failures rises exactly if the last read failed.
abbrev pub Fails : Stop → (old new : ℕ) → Type 0
Fails going old new = new ≡ old
Fails ended old new = new ≡ old
Fails failed old new = Rises old new × (old ≤ new)

-- In each run of reads the count of failures rises exactly if the last read failed.
abbrev pub GivesFails : {S : Type 0} → Gives S → (S → ℕ) → Type 0
GivesFails {S} gives failures = (a : S) (xs : List ℕ) (e : Stop) (b : S) → gives a xs e b → Fails e (failures a) (failures b)

-- The bytes given are the first of those ahead; `left` is the rest,
-- and after an end nothing is left.
abbrev pub Takes : Stop → (xs ahead left : List ℕ) → Type 0
Takes going xs ahead left = ahead ≡ xs ++ left
Takes ended xs ahead left = ahead ≡ xs
Takes failed xs ahead left = take (length xs) ahead ≡ xs

-- If the device is memory, the bytes given were ahead of its offset.
abbrev pub GivesAhead : {S : Type 0} → Device S → Gives S → Type 0
GivesAhead {S} d gives = (a : S) (xs : List ℕ) (e : Stop) (b : S) → IsTrue d.is_memory → gives a xs e b
    → Takes e xs (after (d.memory a)) (after (d.memory b))

-- The bytes are the same, and the offset advanced by n.
abbrev pub MovesPlace : (m : Memory) (n : ℕ) (m' : Memory) → Type 0
MovesPlace m n m' = (m'.whole ≡ m.whole) × (m'.place ≡ m.place + n)

-- If reading doesn't change the bytes, they stay, and the offset advances by what was given.
abbrev pub GivesStill : {S : Type 0} → Device S → Gives S → Type 0
GivesStill {S} d gives = (a : S) (xs : List ℕ) (e : Stop) (b : S) → IsTrue d.is_read_only → gives a xs e b
    → MovesPlace (d.memory a) (length xs) (d.memory b)

-- The device is reached through the same references.
abbrev pub GivesNames : {S : Type 0} → Gives S → (S → List ℕ) → Type 0
GivesNames {S} gives names = (a : S) (xs : List ℕ) (e : Stop) (b : S) → gives a xs e b → names b ≡ names a

-- the laws of what the reads of a device give
pub record GivesLaws {S : Type 0} (d : Device S) (gives : Gives S) : Type 0 where
  pub nothing : GivesNothing gives
  pub in_order : GivesInOrder gives
  pub counted : GivesCounted gives d.given
  pub fails : GivesFails gives d.failures
  pub ahead : GivesAhead d gives
  pub still : GivesStill d gives
  pub names : GivesNames gives d.names

-- ---- one call

-- One read put n bytes into the front of `buf`. It gives none only if none are
-- left, or if none were asked for.
pub record ReadGives {S : Type 0} (gives : Gives S) (a : S) (n : ℕ) (buf : List ℕ) (b : S) : Type 0 where
  pub some : 0 < n → gives a (take n buf) going b
  pub none : n ≡ 0 → 0 < length buf → gives a [] ended b
  pub idle : length buf ≡ 0 → gives a [] going b

-- `count` bytes were skipped, or all if there are fewer.
abbrev pub SkipGives : {S E : Type 0} → Gives S → S → ℕ → Result Unit E → S → Type 0
SkipGives gives a count (Ok _) b = (xs : List ℕ)
    × (((length xs ≡ count) × gives a xs going b) ⊎ ((length xs < count) × gives a xs ended b))
SkipGives gives a count (Err e) b = (xs : List ℕ) × (length xs < count) × gives a xs failed b

-- ---- devices

-- The reads of a device that is memory.
pub record MemoryGives (m : Memory) (given : ℕ) (xs : List ℕ) (e : Stop) (m' : Memory) (given' : ℕ) : Type 0 where
  pub moves : MovesPlace m (length xs) m'
  pub counts : Counts given (length xs) given'
  pub takes : Takes e xs (after m) (after m')
  pub succeeds : Fails e 0 0

-- The reads of a device of which only the counts are known.
pub record CountsGive (failures given : ℕ) (xs : List ℕ) (e : Stop) (failures' given' : ℕ) : Type 0 where
  pub counts : Counts given (length xs) given'
  pub fails : Fails e failures failures'

abbrev pub memory_gives : {S : Type 0} → (S → Memory) → (S → ℕ) → Gives S
memory_gives memory given a xs e b = MemoryGives (memory a) (given a) xs e (memory b) (given b)

abbrev pub counts_give : {S : Type 0} → (failures given : S → ℕ) → Gives S
counts_give failures given a xs e b = CountsGive (failures a) (given a) xs e (failures b) (given b)

-- the reads of a device behind a reference, which stays the same
abbrev pub gives_behind : {S : Type 0} → Gives S → Gives (MutBor S)
gives_behind gives a xs e b = gives a.now xs e b.now × (b.ghost_name ≡ a.ghost_name)

-- ---- runs of reads

-- The buffer was filled, or its first n bytes are all that were left.
pub record Fills {S : Type 0} (gives : Gives S) (a : S) (n : ℕ) (buf : List ℕ) (b : S) : Type 0 where
  pub full : n ≡ length buf → gives a buf going b
  pub short : n < length buf → gives a (take n buf) ended b

-- What filling a buffer took from the device, also if it failed.
abbrev pub FillGives : {S E : Type 0} → Gives S → S → Result ℕ E → List ℕ → S → Type 0
FillGives gives a (Ok n) buf b = Fills gives a n buf b
FillGives gives a (Err e) buf b = (xs : List ℕ) × (length xs < length buf) × gives a xs failed b

-- How the last read ended before a fault.
abbrev pub stop_of : Fault → Stop
stop_of Ended = ended
stop_of (Io e) = failed
stop_of _ = going

-- A fault came before `count` bytes were given.
abbrev pub StopsBefore : {S : Type 0} → Gives S → S → ℕ → Fault → S → Type 0
StopsBefore gives a count e b = (xs : List ℕ) × (length xs < count) × gives a xs (stop_of e) b

-- `count` bytes were given and appended to those in `held`; or a fault came before that.
abbrev pub PieceGives : {S : Type 0} → Gives S → S → (held : List ℕ) → ℕ → Result Unit Fault → (held' : List ℕ) → S → Type 0
PieceGives gives a held count (Ok _) held' b = (xs : List ℕ) × (length xs ≡ count) × (held' ≡ held ++ xs) × gives a xs going b
PieceGives gives a held count (Err e) held' b = StopsBefore gives a count e b

-- What reading `count` bytes into a vector took from the device.
abbrev pub IntoGives : {S : Type 0} → Gives S → S → ℕ → Result Unit Fault → List ℕ → S → Type 0
IntoGives gives a count (Ok _) bytes b = (length bytes ≡ count) × gives a bytes going b
IntoGives gives a count (Err e) bytes b = StopsBefore gives a count e b

-- ---- bytes given, whatever comes after them

-- The bytes that may come after those given: none if the device ended.
abbrev pub Follows : Stop → List ℕ → Type 0
Follows going ys = Unit {0}
Follows ended ys = ys ≡ []
Follows failed ys = Unit {0}

-- Bytes were given that W holds of. P holds of them with any bytes that may
-- come after, and of these bytes.
pub record Gave {S : Type 0} (gives : Gives S) (W : List ℕ → Type 0) (P : List ℕ → List ℕ → Type 0) (a : S) (e : Stop) (b : S) : Type 0 where
  pub bytes : List ℕ
  pub gave : gives a bytes e b
  pub within : W bytes
  pub holds : (ys : List ℕ) → Follows e ys → P (bytes ++ ys) ys

-- ---- how reading stopped, by the result

-- The device didn't fail.

abbrev pub HasNotFailed : Stop → Type 0
HasNotFailed failed = ⊥
HasNotFailed _ = Unit {0}

-- A fault is a device's error exactly if the device failed.
abbrev pub FaultStop : Fault → Stop → Type 0
FaultStop (Io e) s = s ≡ failed
FaultStop _ s = HasNotFailed s

-- How reading stopped, by the result: the device failed exactly if the result is its error.
abbrev pub AnswerStop : {X : Type 0} → Result X Fault → Stop → Type 0
AnswerStop (Ok x) s = s ≡ going
AnswerStop (Err e) s = FaultStop e s

-- Bytes were given, and the device stopped as Q says.
pub record GaveTo {S : Type 0} (gives : Gives S) (Q : Stop → Type 0) (W : List ℕ → Type 0) (P : List ℕ → List ℕ → Type 0) (a b : S) : Type 0 where
  pub stop : Stop
  pub stops : Q stop
  pub run : Gave gives W P a stop b
