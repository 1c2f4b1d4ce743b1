-- Columns, readers and writers may be sent to other threads and shared with them.
--     crosses      a set for `search`: `search crosses depth 60 fits 20000` proves that a type is
--                  `Send` or `Sync` if it consists of these, of owners and maps of std, and of data
-- Rattle makes lemmas for the types of a ring, as `arrays.both_send-StructArray`. Their premises
-- are the fields of all members, so each field is proved once, before them.
use denote.RattleType.{RattleType}
use denote.Param.Send.{IsSend, IsSync, sendable}
use Rattle.std.proofs.Crossing as owners
use Rattle.std.proofs.MapsCrossing as maps
use Rattle.lower.specs.contracts.datatypes.DataType as DataType
use Rattle.lower.specs.contracts.datatypes.Field as Field
use Rattle.lower.specs.contracts.datatypes.schema.Schema as Schema
use Rattle.lower.proofs.datatypes.DataType.TheLaws.TheKnot as types
use Rattle.lower.proofs.bitmap.Bitmap.TheSendSync as Bitmap
use Rattle.lower.proofs.buffer.Buffer.TheSendSync as Buffer
use Rattle.lower.proofs.offset.OffsetsBuffer.TheSendSync as OffsetsBuffer
use Rattle.lower_flat_arrays.specs.contracts.null.NullArray as NullArray
use Rattle.lower_flat_arrays.specs.contracts.boolean.BooleanArray as BooleanArray
use Rattle.lower_flat_arrays.specs.contracts.fixed_size_binary.FixedSizeBinaryArray as FixedSizeBinaryArray
use Rattle.lower_validation.specs.contracts.keys.DictionaryKeys as DictionaryKeys
use Rattle.lower_validation.specs.contracts.numbers.AnyPrimitive as AnyPrimitive
use Rattle.lower_validation.proofs.offsets.ListOffsets.TheSendSync as ListOffsets
use Rattle.lower_arrays.specs.contracts.array.AnyArray as AnyArray
use Rattle.lower_arrays.specs.contracts.array.dictionary.DictionaryArray as DictionaryArray
use Rattle.lower_arrays.specs.contracts.array.fixed_size_list.FixedSizeListArray as FixedSizeListArray
use Rattle.lower_arrays.specs.contracts.array.list.ListArray as ListArray
use Rattle.lower_arrays.specs.contracts.array.map.MapArray as MapArray
use Rattle.lower_arrays.specs.contracts.array.struct_.StructArray as StructArray
use Rattle.lower_arrays.specs.contracts.array.union.UnionArray as UnionArray
use Rattle.lower_arrays.proofs.array.dictionary.DictionaryArray.TheLaws.TheKnot as arrays
use Rattle.ipc_base.specs.contracts.ipc.IpcField as IpcField
use Rattle.ipc_base.proofs.ipc.IpcField.TheLaws.TheKnot as ids
use Rattle.ipc_readers.specs.contracts.read.stream.metadata.StreamMetadata as StreamMetadata
use Rattle.ipc_readers.specs.contracts.read.stream.reader.StreamReader as StreamReader
use Rattle.ipc_files.specs.contracts.read.file.metadata.FileMetadata as FileMetadata
use Rattle.ipc_file_readers.specs.contracts.read.reader.state.FileReader as FileReader
use Rattle.ipc_tracker.specs.contracts.tracker.DictionaryTracker as DictionaryTracker
use Rattle.ipc_write.specs.contracts.stream.writer.StreamWriter as StreamWriter
use Rattle.ipc_file_write.specs.contracts.file.FileWriter as FileWriter

-- ---- data types
pub ruleset of_types = (types.crosses, types.crosses_both, maps.crosses, owners.crosses, sendable)

pub data_type_send : IsSend (DataType.the_field).row
data_type_send = search of_types depth 60 fits 20000

pub data_type_sync : IsSync (DataType.the_field).row
data_type_sync = search of_types depth 60 fits 20000

pub field_send : IsSend (Field.the_field).row
field_send = search of_types depth 60 fits 20000

pub field_sync : IsSync (Field.the_field).row
field_sync = search of_types depth 60 fits 20000

-- ---- flat columns
pub ruleset flat = (data_type_send, data_type_sync, field_send, field_sync, Bitmap.the_send, Bitmap.the_sync, Buffer.the_send, Buffer.the_sync, OffsetsBuffer.the_send, OffsetsBuffer.the_sync, sendable, owners.crosses)

pub null_send : IsSend (NullArray.the_field).row
null_send = search flat depth 60 fits 20000

pub null_sync : IsSync (NullArray.the_field).row
null_sync = search flat depth 60 fits 20000

pub boolean_send : IsSend (BooleanArray.the_field).row
boolean_send = search flat depth 60 fits 20000

pub boolean_sync : IsSync (BooleanArray.the_field).row
boolean_sync = search flat depth 60 fits 20000

pub fixed_size_binary_send : IsSend (FixedSizeBinaryArray.the_field).row
fixed_size_binary_send = search flat depth 60 fits 20000

pub fixed_size_binary_sync : IsSync (FixedSizeBinaryArray.the_field).row
fixed_size_binary_sync = search flat depth 60 fits 20000

pub keys_send : IsSend (DictionaryKeys.the_field).row
keys_send = search flat depth 60 fits 20000

pub keys_sync : IsSync (DictionaryKeys.the_field).row
keys_sync = search flat depth 60 fits 20000

pub primitive_send : IsSend (AnyPrimitive.the_field).row
primitive_send = search flat depth 60 fits 20000

pub primitive_sync : IsSync (AnyPrimitive.the_field).row
primitive_sync = search flat depth 60 fits 20000

-- ---- columns with children
pub ruleset parts = (
  null_send,
  null_sync,
  boolean_send,
  boolean_sync,
  fixed_size_binary_send,
  fixed_size_binary_sync,
  keys_send,
  keys_sync,
  primitive_send,
  primitive_sync,
  ListOffsets.the_field_send,
  ListOffsets.the_field_sync,
  flat,
)

pub dictionary_send : IsSend DictionaryArray.the_row
dictionary_send = search (arrays.both_send-DictionaryArray, parts) depth 60 fits 20000

pub dictionary_sync : IsSync DictionaryArray.the_row
dictionary_sync = search (arrays.both_sync-DictionaryArray, parts) depth 60 fits 20000

pub fixed_size_list_send : IsSend FixedSizeListArray.the_row
fixed_size_list_send = search (arrays.both_send-FixedSizeListArray, parts) depth 60 fits 20000

pub fixed_size_list_sync : IsSync FixedSizeListArray.the_row
fixed_size_list_sync = search (arrays.both_sync-FixedSizeListArray, parts) depth 60 fits 20000

pub list_send : IsSend ListArray.the_row
list_send = search (arrays.both_send-ListArray, parts) depth 60 fits 20000

pub list_sync : IsSync ListArray.the_row
list_sync = search (arrays.both_sync-ListArray, parts) depth 60 fits 20000

pub map_send : IsSend MapArray.the_row
map_send = search (arrays.both_send-MapArray, parts) depth 60 fits 20000

pub map_sync : IsSync MapArray.the_row
map_sync = search (arrays.both_sync-MapArray, parts) depth 60 fits 20000

pub struct_send : IsSend StructArray.the_row
struct_send = search (arrays.both_send-StructArray, parts) depth 60 fits 20000

pub struct_sync : IsSync StructArray.the_row
struct_sync = search (arrays.both_sync-StructArray, parts) depth 60 fits 20000

pub union_send : IsSend UnionArray.the_row
union_send = search (arrays.both_send-UnionArray, parts) depth 60 fits 20000

pub union_sync : IsSync UnionArray.the_row
union_sync = search (arrays.both_sync-UnionArray, parts) depth 60 fits 20000

pub ruleset children = (dictionary_send, dictionary_sync, fixed_size_list_send, fixed_size_list_sync, list_send, list_sync, map_send, map_sync, struct_send, struct_sync, union_send, union_sync)

pub array_send : IsSend (AnyArray.the_field).row
array_send = search (arrays.both_send-AnyArray, children, parts) depth 60 fits 20000

pub array_sync : IsSync (AnyArray.the_field).row
array_sync = search (arrays.both_sync-AnyArray, children, parts) depth 60 fits 20000

-- ---- readers and writers
pub ruleset of_ids = (ids.crosses, ids.crosses_both, sendable, owners.crosses)

pub ipc_field_send : IsSend (IpcField.the_field).row
ipc_field_send = search of_ids depth 60 fits 20000

pub ipc_field_sync : IsSync (IpcField.the_field).row
ipc_field_sync = search of_ids depth 60 fits 20000

pub ruleset held = (array_send, array_sync, children, ipc_field_send, ipc_field_sync, keys_send, keys_sync, flat, maps.crosses)

pub schema_send : IsSend (Schema.the_field).row
schema_send = search held depth 60 fits 20000

pub schema_sync : IsSync (Schema.the_field).row
schema_sync = search held depth 60 fits 20000

pub stream_metadata_send : IsSend (StreamMetadata.the_field).row
stream_metadata_send = search (schema_send, held) depth 60 fits 20000

pub stream_metadata_sync : IsSync (StreamMetadata.the_field).row
stream_metadata_sync = search (schema_sync, held) depth 60 fits 20000

pub file_metadata_send : IsSend (FileMetadata.the_field).row
file_metadata_send = search (schema_send, held) depth 60 fits 20000

pub file_metadata_sync : IsSync (FileMetadata.the_field).row
file_metadata_sync = search (schema_sync, held) depth 60 fits 20000

pub tracker_send : IsSend (DictionaryTracker.the_field).row
tracker_send = search held depth 60 fits 20000

pub tracker_sync : IsSync (DictionaryTracker.the_field).row
tracker_sync = search held depth 60 fits 20000

pub ruleset state = (schema_send, schema_sync, stream_metadata_send, stream_metadata_sync, file_metadata_send, file_metadata_sync, tracker_send, tracker_sync, held)

pub stream_reader_send : (R : RattleType) → IsSend R → IsSend (StreamReader.the_field R).row
stream_reader_send R s = search state depth 60 fits 20000

pub stream_reader_sync : (R : RattleType) → IsSync R → IsSync (StreamReader.the_field R).row
stream_reader_sync R y = search state depth 60 fits 20000

pub file_reader_send : (R : RattleType) → IsSend R → IsSend (FileReader.the_field R).row
file_reader_send R s = search state depth 60 fits 20000

pub file_reader_sync : (R : RattleType) → IsSync R → IsSync (FileReader.the_field R).row
file_reader_sync R y = search state depth 60 fits 20000

pub stream_writer_send : (W : RattleType) → IsSend W → IsSend (StreamWriter.the_field W).row
stream_writer_send W s = search state depth 60 fits 20000

pub stream_writer_sync : (W : RattleType) → IsSync W → IsSync (StreamWriter.the_field W).row
stream_writer_sync W y = search state depth 60 fits 20000

pub file_writer_send : (W : RattleType) → IsSend W → IsSend (FileWriter.the_field W).row
file_writer_send W s = search state depth 60 fits 20000

pub file_writer_sync : (W : RattleType) → IsSync W → IsSync (FileWriter.the_field W).row
file_writer_sync W y = search state depth 60 fits 20000

pub ruleset crosses = (stream_reader_send, stream_reader_sync, file_reader_send, file_reader_sync, stream_writer_send, stream_writer_sync, file_writer_send, file_writer_sync, state)
