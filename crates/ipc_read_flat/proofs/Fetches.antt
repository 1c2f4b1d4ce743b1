-- What is read of a buffer.
use Rattle.std.proofs.Common.{◌≡◌, ℕ, ◌+◌, ◌<◌, ◌≤◌, ℤ, pos, negsuc, List, [], Result, Ok, Err, IfErr, sym, subst, arith, take, drop, get_or, length}
use Rattle.std.proofs.lemmas.List.{take-take, length-take, get_or-map}
use Rattle.std.specs.Result.{IsErr, IsErrAnd}
use Rattle.ipc_devices.proofs.Claims.{denies_through}
use Rattle.ipc_devices.specs.Device.{Device}
use Rattle.ipc_devices.specs.Faults.{OwnFault, Answers}
use Rattle.ipc_devices.specs.declared.fault.Fault.{Fault}
use Rattle.ipc_table_views.specs.declared.schema.Buffer.{Buffer}
use Rattle.ipc_model.specs.Entries.{IsSize, size, Part, bytes_from, part_at, buffer, bytes, Need}
use Rattle.ipc_read_flat.specs.Bodies.{source, entries}
use Rattle.ipc_read_flat.specs.declared.read.body.Body.{Body}

-- The same result for equivalent facts.
pub answers_through :
    {X : Type 0} (r : Result X Fault) (P P' : Type 0) (q q' : X → Type 0) → (P → P') → (P' → P) → ((x : X) → q x → q' x)
    → Answers r P q → Answers r P' q'
answers_through (Ok x) P P' q q' f g h a = (f a.0, h x a.1)
answers_through (Err e) P P' q q' f g h a = denies_through e P P' g a

-- q says what is read in the first bytes
entry_fetched :
    {X : Type 0} (q : List ℕ → X → Type 0) (base len : ℕ) (w : List ℕ) (oz lz : ℤ) (r : Result X Fault) → IsSize oz → len ≤ size lz → 0 < len
    → Answers r (len ≤ length (drop (base + size oz) w)) (q (take len (drop (base + size oz) w)))
    → Answers r (IsSize oz × (len ≤ size lz) × (len ≤ length (bytes_from w base oz lz))) (q (take len (bytes_from w base oz lz)))
entry_fetched q base len w (negsuc o) lz r z h some a = absurd (omega arith)
entry_fetched q base len w (pos o) (negsuc l) r z h some a = absurd (omega arith)
entry_fetched q base len w (pos o) (pos l) r z h some a =
    let there = drop (base + o) w in
    let long = length-take l there in
    answers_through r (len ≤ length there) (IsSize (pos o) × (len ≤ l) × (len ≤ length (take l there)))
    (q (take len there)) (q (take len (take l there)))
    (λ x. (z, h, omega (arith, long)))
    (λ x. let y : len ≤ length (take l there) = x.2 in omega (arith, long))
    (λ v e. subst (λ (xs : List ℕ). q xs v) (sym (take-take len l there h)) e)
    a

abbrev pub entry : List Buffer → ℕ → Buffer
entry xs i = get_or xs i (record { offset = pos 0; length = pos 0 })

pub part_is :
    {R : Type 0} (d : Device R) (b : Body R) (i : ℕ) → i < length b.buffers
    → buffer (entries d b) i ≡ part_at (source d b) b.base (entry b.buffers i)
unfolding entries
part_is d b i h =
    get_or-map (part_at (source d b) b.base) b.buffers i (record { offset = pos 0; length = pos 0 })
    (record { offset = pos 0; length = pos 0; bytes = [] }) h

pub fetched :
    {R X : Type 0} (q : List ℕ → X → Type 0) (d : Device R) (b : Body R) (i len place : ℕ) (w : List ℕ) (r : Result X Fault)
    → i < length b.buffers → IsSize (entry b.buffers i).offset → place ≡ b.base + size (entry b.buffers i).offset
    → len ≤ size (entry b.buffers i).length → 0 < len → w ≡ source d b
    → Answers r (len ≤ length (drop place w)) (q (take len (drop place w)))
    → Answers r (Need (entries d b) i len) (q (take len (bytes (entries d b) i)))
fetched q d b i len place w r h z at long some same a =
    let e = entry b.buffers i in
    let a' : Answers r (len ≤ length (drop (b.base + size e.offset) (source d b))) (q (take len (drop (b.base + size e.offset) (source d b)))) =
    rw (← at, ← same) a
    in
    subst (λ (u : Part). Answers r (IsSize u.offset × (len ≤ size u.length) × (len ≤ length u.bytes)) (q (take len u.bytes)))
    (sym (part_is d b i h)) (entry_fetched q b.base len (source d b) e.offset e.length r z long some a')

-- An error that a `?` converted to another one.
pub refused :
    {X : Type 0} (r : Result X Fault) (f : Fault) (P : Type 0) (q : X → Type 0) → IsErr r × IsErrAnd r (λ e. e ≡ f) → OwnFault f (P → ⊥) → Answers r P q
refused (Ok x) f P q is d = let no = is.0 in absurd cc
refused (Err e) f P q is d = subst (λ (u : Fault). OwnFault u (P → ⊥)) (sym is.1) d

-- So is what is known of it.
pub failing : {X : Type 0} (r : Result X Fault) (f : Fault) (P : Fault → Type 0) → IsErr r × IsErrAnd r (λ e. e ≡ f) → P f → IfErr r P
failing (Ok x) f P is h = tt
failing (Err e) f P is h = subst P (sym is.1) h
