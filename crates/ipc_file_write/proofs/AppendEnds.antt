-- Where the blocks of a file that is appended to end, and why it is refused.
use Rattle.std.proofs.Common.{◌≡◌, ◌==◌, false, inl, inr, ℕ, pos, ◌+◌, ◌-◌, ◌^◌, ◌<◌, ◌≤◌, min, max, Bool, IsTrue, List, [], ◌∷◌, ◌++◌, length, drop, get_or, None, Err, sym, ap, ◌∙◌, subst, arith}
use Rattle.std.proofs.lemmas.List.{drop_all, drop_more}
use Rattle.ipc_devices.specs.Device.{Rises}
use Rattle.ipc_devices.specs.Faults.{OnIo, OwnFault}
use Rattle.ipc_devices.specs.declared.fault.Fault.{Fault}
use Rattle.ipc_devices.specs.declared.fault.Fault.TheVariants.{Io, Memory as NoMemory, OutOfSpec}
use Rattle.ipc_devices.specs.declared.fault.OutOfSpecKind.TheVariants.{UnexpectedNegativeInteger}
use Rattle.ipc_table_views.specs.declared.file.Block.{Block}
use Rattle.ipc_model.specs.Files.{FileMetadata, file_dictionaries}
use Rattle.ipc_files.specs.Dictionaries.{DictionariesReason, IsDictionaryBlockFault}
use Rattle.ipc_file_lemmas.proofs.Ends.{back-has, ends-both, front-has, none_has}
use Rattle.ipc_file_lemmas.specs.Appending.{HasNegative, HaveNegative, end_of, goes_on, greatest_end}
use Rattle.ipc_file_write.specs.Appends.{CanBeWritten, DeviceFails, MayGoOn, RefusesFile, RefusesToGoOn}

-- ---- block after block

pub next_ends : (bs : List Block) (i : ℕ) (d : Block) (from end e then : ℕ) → i < length bs → e ≡ min (2 ^ 64 - 1) (end_of (get_or bs i d)) → then ≡ max end e
    → max end (min (2 ^ 64 - 1) (greatest_end (drop i bs))) ≡ max from (min (2 ^ 64 - 1) (greatest_end bs))
    → max then (min (2 ^ 64 - 1) (greatest_end (drop (i + 1) bs))) ≡ max from (min (2 ^ 64 - 1) (greatest_end bs))
next_ends bs i d from end e then inside own most so_far =
    let parts : greatest_end (drop i bs) ≡ max (end_of (get_or bs i d)) (greatest_end (drop (i + 1) bs)) = ap greatest_end (drop_more bs i d inside) in
    omega (arith, own, most, so_far, parts)

pub next_left : (bs : List Block) (i : ℕ) (d : Block) → i < length bs → (HasNegative (get_or bs i d) → ⊥) → (HaveNegative bs → HaveNegative (drop i bs)) → HaveNegative bs → HaveNegative (drop (i + 1) bs)
next_left bs i d inside none left h =
    let here : HaveNegative (get_or bs i d ∷ drop (i + 1) bs) = subst HaveNegative (drop_more bs i d inside) (left h) in
    elim here [ inl own ↦ absurd (none own) | inr rest ↦ rest ]

pub next_all : (bs : List Block) (i : ℕ) → i < length bs → (HaveNegative (drop i bs) → HaveNegative bs) → HaveNegative (drop (i + 1) bs) → HaveNegative bs
next_all bs i inside all h =
    let other : Block = record { offset = pos 0; meta_data_length = pos 0; body_length = pos 0 } in
    all (subst HaveNegative (sym (drop_more bs i other inside)) (inr h))

pub here_has : (bs : List Block) (i : ℕ) (d : Block) → i < length bs → (HaveNegative (drop i bs) → HaveNegative bs) → HasNegative (get_or bs i d) → HaveNegative bs
here_has bs i d inside all h = all (subst HaveNegative (sym (drop_more bs i d inside)) (inl h))

pub all_ends : (bs : List Block) (i from end : ℕ) → length bs ≤ i → max end (min (2 ^ 64 - 1) (greatest_end (drop i bs))) ≡ max from (min (2 ^ 64 - 1) (greatest_end bs)) → end ≡ max from (min (2 ^ 64 - 1) (greatest_end bs))
all_ends bs i from end past so_far =
    let none : greatest_end (drop i bs) ≡ 0 = ap greatest_end (drop_all i bs past) in
    omega (arith, so_far, none)

pub none_left : (bs : List Block) (i : ℕ) → length bs ≤ i → (HaveNegative bs → HaveNegative (drop i bs)) → HaveNegative bs → ⊥
none_left bs i past left h = subst HaveNegative (drop_all i bs past) (left h)

-- ---- both lists

pub place_is : (m : FileMetadata) (ds bs : List Block) (first end place : ℕ) → ds ≡ m.dictionaries → bs ≡ m.blocks → m.size < 2 ^ 63 → first ≡ max 0 (min (2 ^ 64 - 1) (greatest_end ds))
    → end ≡ max first (min (2 ^ 64 - 1) (greatest_end bs)) → place ≡ max 8 (min m.size end) → place ≡ goes_on m
place_is m ds bs first end place same_ds same_bs short from to is =
    let both = ends-both m.dictionaries m.blocks in
    omega (arith, short, from, to, is, both, ap greatest_end same_ds, ap greatest_end same_bs)

pub some_of : (bs : List Block) (n : ℕ) → n ≡ length bs → (n == 0) ≡ false → bs ≡ [] → ⊥
some_of bs n same e h =
    let none : n ≡ 0 = same ∙ ap length h in
    let both : (0 == 0) ≡ false = subst (λ (k : ℕ). (k == 0) ≡ false) none e in
    absurd cc

pub may_go : (m : FileMetadata) (ds bs : List Block) → ds ≡ m.dictionaries → bs ≡ m.blocks → (m.blocks ≡ [] → ⊥) → (HaveNegative ds → ⊥) → (HaveNegative bs → ⊥) → CanBeWritten m → MayGoOn m
may_go m ds bs same_ds same_bs some no_ds no_bs can = record {
  some_blocks = some;
  natural =
      none_has m.dictionaries m.blocks (λ h. no_ds (subst HaveNegative (sym same_ds) h)) (λ h. no_bs (subst HaveNegative (sym same_bs) h));
  short = can.short;
  writable = can.writable;
  light = can.light;
}

pub front_refused : (m : FileMetadata) (ds : List Block) (e : Fault) → ds ≡ m.dictionaries → (e ≡ OutOfSpec UnexpectedNegativeInteger) × HaveNegative ds → RefusesToGoOn m e
front_refused m ds e same h =
    let all : HaveNegative (m.dictionaries ++ m.blocks) = front-has m.dictionaries m.blocks (subst HaveNegative same h.1) in
    subst (λ (f : Fault). RefusesToGoOn m f) (sym h.0) all

pub back_refused : (m : FileMetadata) (bs : List Block) (e : Fault) → bs ≡ m.blocks → (e ≡ OutOfSpec UnexpectedNegativeInteger) × HaveNegative bs → RefusesToGoOn m e
back_refused m bs e same h =
    let all : HaveNegative (m.dictionaries ++ m.blocks) = back-has m.dictionaries m.blocks (subst HaveNegative same h.1) in
    subst (λ (f : Fault). RefusesToGoOn m f) (sym h.0) all

-- ---- why a file is refused

pub own_refused : (known : Bool) (m : FileMetadata) (bytes : List ℕ) (e : Fault) → RefusesToGoOn m e → RefusesFile known m bytes e
own_refused known m bytes NoMemory h = tt
own_refused known m bytes (Io x) h = tt
own_refused known m bytes _ h = inl h

pub dictionaries_refused : (known : Bool) (m : FileMetadata) (bytes : List ℕ) (e : Fault) → OwnFault e (IsDictionaryBlockFault e) → (IsTrue known → OwnFault e (file_dictionaries m bytes ≡ None))
    → (IsTrue known → OwnFault e (DictionariesReason m bytes [] m.dictionaries e)) → RefusesFile known m bytes e
dictionaries_refused known m bytes NoMemory h none reason = tt
dictionaries_refused known m bytes (Io x) h none reason = tt
dictionaries_refused known m bytes _ h none reason = inr (record { kind = h; none = none; reason = reason })

-- ---- its device fails

-- A file that can't be appended to isn't refused by a device.
pub own_not_io : (m : FileMetadata) (e : Fault) (P : Type 0) → RefusesToGoOn m e → OnIo {X = Unit {0}} (Err e) P
own_not_io m (Io x) P h = absurd h
own_not_io m _ P h = tt

-- a failure that was counted in some state
pub device_fails : {W : Type 0} (failures : W → ℕ) (device after : W) (e : Fault) → OnIo {X = Unit {0}} (Err e) (Rises (failures device) (failures after)) → OnIo {X = Unit {0}} (Err e) (DeviceFails failures device)
device_fails failures device after (Io x) h = record { after = after; rises = h }
device_fails failures device after _ h = tt
