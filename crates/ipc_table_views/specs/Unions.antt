-- The tag and the table of a union's value.
-- (Message.fbs and Schema.fbs.)
use Rattle.std.specs.Prelude.{ℕ}
use Rattle.ipc_table_views.specs.Spot.{Spot}
use Rattle.ipc_table_views.specs.declared.message.MessageHeaderRef.{MessageHeaderRef}
use Rattle.ipc_table_views.specs.declared.message.MessageHeaderRef.TheVariants.{Schema, DictionaryBatch, RecordBatch, Tensor, SparseTensor}
use Rattle.ipc_table_views.specs.declared.types.TypeRef.{TypeRef}
use Rattle.ipc_table_views.specs.declared.types.TypeRef.TheVariants.{Null, Int, FloatingPoint, Binary, Utf8, Bool, Decimal, Date, Time, Timestamp, Interval, List, Struct, Union, FixedSizeBinary, FixedSizeList, Map, Duration, LargeBinary, LargeUtf8, LargeList}

-- MessageHeader of Message.fbs.
abbrev pub header_parts : MessageHeaderRef → ℕ × Spot
header_parts (Schema t) = (1, t)
header_parts (DictionaryBatch t) = (2, t)
header_parts (RecordBatch t) = (3, t)
header_parts (Tensor t) = (4, t)
header_parts (SparseTensor t) = (5, t)

-- Type of Schema.fbs.
abbrev pub type_parts : TypeRef → ℕ × Spot
type_parts (Null t) = (1, t)
type_parts (Int t) = (2, t)
type_parts (FloatingPoint t) = (3, t)
type_parts (Binary t) = (4, t)
type_parts (Utf8 t) = (5, t)
type_parts (Bool t) = (6, t)
type_parts (Decimal t) = (7, t)
type_parts (Date t) = (8, t)
type_parts (Time t) = (9, t)
type_parts (Timestamp t) = (10, t)
type_parts (Interval t) = (11, t)
type_parts (List t) = (12, t)
type_parts (Struct t) = (13, t)
type_parts (Union t) = (14, t)
type_parts (FixedSizeBinary t) = (15, t)
type_parts (FixedSizeList t) = (16, t)
type_parts (Map t) = (17, t)
type_parts (Duration t) = (18, t)
type_parts (LargeBinary t) = (19, t)
type_parts (LargeUtf8 t) = (20, t)
type_parts (LargeList t) = (21, t)
