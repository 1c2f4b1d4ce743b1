-- The tables of Message.fbs: what each field must have.
use Rattle.std.specs.Prelude.{ℕ, List, ◌++◌, option_map}
use Rattle.ipc_table_bytes.specs.Pads.{le}
use Rattle.ipc_table_bytes.specs.Tree.{Part, Slots, no_slots, number, offset, table}
use Rattle.ipc_table_views.specs.declared.message.FieldNode.{FieldNode}
use Rattle.ipc_table_views.specs.declared.schema.Buffer.{Buffer}
use Rattle.ipc_tables.specs.declared.message.BodyCompression.{BodyCompression}
use Rattle.ipc_tables.specs.declared.message.BodyCompressionMethod.{BodyCompressionMethod}
use Rattle.ipc_tables.specs.declared.message.BodyCompressionMethod.TheVariants.{Buffer as each_buffer}
use Rattle.ipc_tables.specs.declared.message.CompressionType.{CompressionType}
use Rattle.ipc_tables.specs.declared.message.CompressionType.TheVariants.{Lz4Frame, Zstd}
use Rattle.ipc_tables.specs.declared.message.DictionaryBatch.{DictionaryBatch}
use Rattle.ipc_tables.specs.declared.message.Message.{Message}
use Rattle.ipc_tables.specs.declared.message.MessageHeader.{MessageHeader}
use Rattle.ipc_tables.specs.declared.message.MessageHeader.TheVariants.{Schema as a_schema, DictionaryBatch as a_dictionary_batch, RecordBatch as a_record_batch}
use Rattle.ipc_tables.specs.declared.message.RecordBatch.{RecordBatch}
use Rattle.ipc_tables.specs.Elements.{elements_of}
use Rattle.ipc_tables.specs.Schemas.{pairs_vector, schema_slots, version_number}
use Rattle.ipc_tables.specs.Slots.{bit, bits64, optional}

-- FieldNode: length, null_count.
abbrev pub node_bytes : FieldNode → List ℕ
node_bytes n = le 8 (bits64 n.length) ++ le 8 (bits64 n.null_count)

-- The vector of some nodes.
abbrev pub nodes_part : List FieldNode → Part
nodes_part ns = elements_of 8 16 node_bytes ns

-- Buffer: offset, length.
abbrev pub buffer_bytes : Buffer → List ℕ
buffer_bytes b = le 8 (bits64 b.offset) ++ le 8 (bits64 b.length)

-- The vector of some buffers.
abbrev pub buffers_part : List Buffer → Part
buffers_part bs = elements_of 8 16 buffer_bytes bs

-- The number of a codec in CompressionType.
abbrev pub codec_number : CompressionType → ℕ
codec_number Lz4Frame = 0
codec_number Zstd = 1

-- The number of a method in BodyCompressionMethod.
abbrev pub method_number : BodyCompressionMethod → ℕ
method_number each_buffer = 0

-- BodyCompression: codec, method.
abbrev pub compression_slots : BodyCompression → Slots
compression_slots c = number 1 (codec_number c.codec) (number 1 (method_number c.method) no_slots)

-- RecordBatch: length, nodes, buffers, compression.
abbrev pub record_batch_slots : RecordBatch → Slots
record_batch_slots b =
    number 8 (bits64 b.length) (offset (nodes_part b.nodes.items) (offset (buffers_part b.buffers.items)
    (optional (option_map (λ c. table (compression_slots c)) b.compression) no_slots)))

-- DictionaryBatch: id, data, isDelta.
abbrev pub dictionary_batch_slots : DictionaryBatch → Slots
dictionary_batch_slots b =
    number 8 (bits64 b.id) (optional (option_map (λ d. table (record_batch_slots d)) b.data_) (number 1 (bit b.is_delta) no_slots))

-- The number of a header in the union MessageHeader.
abbrev pub header_tag : MessageHeader → ℕ
header_tag (a_schema s) = 1
header_tag (a_dictionary_batch b) = 2
header_tag (a_record_batch b) = 3

-- The fields of a header's table.
abbrev pub header_slots : MessageHeader → Slots
header_slots (a_schema s) = schema_slots s
header_slots (a_dictionary_batch b) = dictionary_batch_slots b
header_slots (a_record_batch b) = record_batch_slots b

-- Message: version, header (tag and table), bodyLength, custom_metadata.
abbrev pub message_slots : Message → Slots
message_slots m =
    number 2 (version_number m.version) (number 1 (header_tag m.header) (offset (table (header_slots m.header))
    (number 8 (bits64 m.body_length) (optional (option_map (λ v. pairs_vector v.items) m.custom_metadata) no_slots))))
