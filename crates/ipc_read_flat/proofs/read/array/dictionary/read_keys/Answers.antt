use Rattle.std.proofs.Common.{ℕ, ℤ, pos, refl}
use Rattle.lower.specs.TypeViews.{type_view}
use Rattle.lower.specs.declared.datatypes.IntegerType.TheVariants.{Int8, Int16, Int32, Int64, UInt8, UInt16, UInt32, UInt64}
use Rattle.lower_types.specs.NumberTypes.{whole}
use Rattle.ipc_read_flat.specs.Bodies.{entries, known}
use Rattle.ipc_read_flat.proofs.KeyReads.{keys_answered}
use Rattle.ipc_read_flat.proofs.HeldLevels.{keys_hold}
use Rattle.ipc_read_flat.proofs.read.array.dictionary.read_keys.Goals as goal

pub returns-in_ok-read-in-Int8-clause-memory : goal.returns-in_ok-read-in-Int8-clause-memory
returns-in_ok-read-in-Int8-clause-memory g c = λ k.
    keys_answered c.args.keys Int8 (λ (x : ℤ). whole x) (λ x. x) (entries g.R.Failures.device c.args.body.now) (known c.args.body.now) (type_view c.args.data_type.now) c.args.place.node c.args.place.buffer c.args.limit
    c.in_ok-read-in-Int8.read c.in-Int8.is (λ y. refl) c.requires.typed (c.in_ok-read-in-Int8.ensures.memory k)

pub returns-in_ok-read-in-Int16-clause-memory : goal.returns-in_ok-read-in-Int16-clause-memory
returns-in_ok-read-in-Int16-clause-memory g c = λ k.
    keys_answered c.args.keys Int16 (λ (x : ℤ). whole x) (λ x. x) (entries g.R.Failures.device c.args.body.now) (known c.args.body.now) (type_view c.args.data_type.now) c.args.place.node c.args.place.buffer c.args.limit
    c.in_ok-read-in-Int16.read c.in-Int16.is (λ y. refl) c.requires.typed (c.in_ok-read-in-Int16.ensures.memory k)

pub returns-in_ok-read-in-Int32-clause-memory : goal.returns-in_ok-read-in-Int32-clause-memory
returns-in_ok-read-in-Int32-clause-memory g c = λ k.
    keys_answered c.args.keys Int32 (λ (x : ℤ). whole x) (λ x. x) (entries g.R.Failures.device c.args.body.now) (known c.args.body.now) (type_view c.args.data_type.now) c.args.place.node c.args.place.buffer c.args.limit
    c.in_ok-read-in-Int32.read c.in-Int32.is (λ y. refl) c.requires.typed (c.in_ok-read-in-Int32.ensures.memory k)

pub returns-in_ok-read-in-Int64-clause-memory : goal.returns-in_ok-read-in-Int64-clause-memory
returns-in_ok-read-in-Int64-clause-memory g c = λ k.
    keys_answered c.args.keys Int64 (λ (x : ℤ). whole x) (λ x. x) (entries g.R.Failures.device c.args.body.now) (known c.args.body.now) (type_view c.args.data_type.now) c.args.place.node c.args.place.buffer c.args.limit
    c.in_ok-read-in-Int64.read c.in-Int64.is (λ y. refl) c.requires.typed (c.in_ok-read-in-Int64.ensures.memory k)

pub returns-in_ok-read-in-UInt8-clause-memory : goal.returns-in_ok-read-in-UInt8-clause-memory
returns-in_ok-read-in-UInt8-clause-memory g c = λ k.
    keys_answered c.args.keys UInt8 (λ (x : ℕ). whole (pos x)) (λ x. pos x) (entries g.R.Failures.device c.args.body.now) (known c.args.body.now) (type_view c.args.data_type.now) c.args.place.node c.args.place.buffer c.args.limit
    c.in_ok-read-in-UInt8.read c.in-UInt8.is (λ y. refl) c.requires.typed (c.in_ok-read-in-UInt8.ensures.memory k)

pub returns-in_ok-read-in-UInt16-clause-memory : goal.returns-in_ok-read-in-UInt16-clause-memory
returns-in_ok-read-in-UInt16-clause-memory g c = λ k.
    keys_answered c.args.keys UInt16 (λ (x : ℕ). whole (pos x)) (λ x. pos x) (entries g.R.Failures.device c.args.body.now) (known c.args.body.now) (type_view c.args.data_type.now) c.args.place.node c.args.place.buffer c.args.limit
    c.in_ok-read-in-UInt16.read c.in-UInt16.is (λ y. refl) c.requires.typed (c.in_ok-read-in-UInt16.ensures.memory k)

pub returns-in_ok-read-in-UInt32-clause-memory : goal.returns-in_ok-read-in-UInt32-clause-memory
returns-in_ok-read-in-UInt32-clause-memory g c = λ k.
    keys_answered c.args.keys UInt32 (λ (x : ℕ). whole (pos x)) (λ x. pos x) (entries g.R.Failures.device c.args.body.now) (known c.args.body.now) (type_view c.args.data_type.now) c.args.place.node c.args.place.buffer c.args.limit
    c.in_ok-read-in-UInt32.read c.in-UInt32.is (λ y. refl) c.requires.typed (c.in_ok-read-in-UInt32.ensures.memory k)

pub returns-in_ok-read-in-UInt64-clause-memory : goal.returns-in_ok-read-in-UInt64-clause-memory
returns-in_ok-read-in-UInt64-clause-memory g c = λ k.
    keys_answered c.args.keys UInt64 (λ (x : ℕ). whole (pos x)) (λ x. pos x) (entries g.R.Failures.device c.args.body.now) (known c.args.body.now) (type_view c.args.data_type.now) c.args.place.node c.args.place.buffer c.args.limit
    c.in_ok-read-in-UInt64.read c.in-UInt64.is (λ y. refl) c.requires.typed (c.in_ok-read-in-UInt64.ensures.memory k)

pub returns-in_ok-read-in-Int8-clause-held : goal.returns-in_ok-read-in-Int8-clause-held
returns-in_ok-read-in-Int8-clause-held g c =
    keys_hold (entries g.R.Failures.device c.args.body.now) c.args.body.now.extra c.args.place.buffer Int8 (λ (x : ℤ). whole x) (λ x. x) c.in_ok-read-in-Int8.read c.in_ok-read-in-Int8.ensures.held

pub returns-in_ok-read-in-Int16-clause-held : goal.returns-in_ok-read-in-Int16-clause-held
returns-in_ok-read-in-Int16-clause-held g c =
    keys_hold (entries g.R.Failures.device c.args.body.now) c.args.body.now.extra c.args.place.buffer Int16 (λ (x : ℤ). whole x) (λ x. x) c.in_ok-read-in-Int16.read c.in_ok-read-in-Int16.ensures.held

pub returns-in_ok-read-in-Int32-clause-held : goal.returns-in_ok-read-in-Int32-clause-held
returns-in_ok-read-in-Int32-clause-held g c =
    keys_hold (entries g.R.Failures.device c.args.body.now) c.args.body.now.extra c.args.place.buffer Int32 (λ (x : ℤ). whole x) (λ x. x) c.in_ok-read-in-Int32.read c.in_ok-read-in-Int32.ensures.held

pub returns-in_ok-read-in-Int64-clause-held : goal.returns-in_ok-read-in-Int64-clause-held
returns-in_ok-read-in-Int64-clause-held g c =
    keys_hold (entries g.R.Failures.device c.args.body.now) c.args.body.now.extra c.args.place.buffer Int64 (λ (x : ℤ). whole x) (λ x. x) c.in_ok-read-in-Int64.read c.in_ok-read-in-Int64.ensures.held

pub returns-in_ok-read-in-UInt8-clause-held : goal.returns-in_ok-read-in-UInt8-clause-held
returns-in_ok-read-in-UInt8-clause-held g c =
    keys_hold (entries g.R.Failures.device c.args.body.now) c.args.body.now.extra c.args.place.buffer UInt8 (λ (x : ℕ). whole (pos x)) (λ x. pos x) c.in_ok-read-in-UInt8.read c.in_ok-read-in-UInt8.ensures.held

pub returns-in_ok-read-in-UInt16-clause-held : goal.returns-in_ok-read-in-UInt16-clause-held
returns-in_ok-read-in-UInt16-clause-held g c =
    keys_hold (entries g.R.Failures.device c.args.body.now) c.args.body.now.extra c.args.place.buffer UInt16 (λ (x : ℕ). whole (pos x)) (λ x. pos x) c.in_ok-read-in-UInt16.read c.in_ok-read-in-UInt16.ensures.held

pub returns-in_ok-read-in-UInt32-clause-held : goal.returns-in_ok-read-in-UInt32-clause-held
returns-in_ok-read-in-UInt32-clause-held g c =
    keys_hold (entries g.R.Failures.device c.args.body.now) c.args.body.now.extra c.args.place.buffer UInt32 (λ (x : ℕ). whole (pos x)) (λ x. pos x) c.in_ok-read-in-UInt32.read c.in_ok-read-in-UInt32.ensures.held

pub returns-in_ok-read-in-UInt64-clause-held : goal.returns-in_ok-read-in-UInt64-clause-held
returns-in_ok-read-in-UInt64-clause-held g c =
    keys_hold (entries g.R.Failures.device c.args.body.now) c.args.body.now.extra c.args.place.buffer UInt64 (λ (x : ℕ). whole (pos x)) (λ x. pos x) c.in_ok-read-in-UInt64.read c.in_ok-read-in-UInt64.ensures.held
