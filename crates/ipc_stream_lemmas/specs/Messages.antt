-- The messages of a chunk, by what they mean.
-- (Arrow columnar format, "Dictionary messages" and "RecordBatch message".)
use Rattle.std.specs.Prelude.{◌≡◌, ℕ, ℤ, ◌+◌, ◌^◌, ◌<◌, List, ◌∷◌, ◌++◌, length, map, None, Some}
use Rattle.lower.specs.Normal.{norm}
use Rattle.lower_arrays.specs.Layouts.{Layout, layouts, type_of}
use Rattle.lower_arrays.specs.Slots.{slots}
use Rattle.ipc_model.specs.Batches.{Column, Chunk, dictionary_meaning, extra_of}
use Rattle.ipc_model.specs.Entries.{Dictionary, dictionary_at}
use Rattle.ipc_model.specs.Streams.{Head, Known, Header, header_of, whole, most_dictionaries, more, item}
use Rattle.ipc_model.specs.WrittenLaws.{prefix, BeginsWithRecord}
use Rattle.ipc_stream_lemmas.specs.Remembered.{Filled, filled_below, filled_of, Finds, dictionary_of}

-- A message as it is in a stream: prefix, metadata and body.
abbrev pub message_bytes : List ℕ → List ℕ → List ℕ
message_bytes metadata body = prefix (length metadata) ++ (metadata ++ body)

-- A dictionary message that was written has these values. Its header is that of a dictionary, its
-- body is as long as the header says, and the batch sets the values of the id.
pub record IsWrittenDictionary (h : Head) (s : Known) (metadata body : List ℕ) (id : ℤ) (d : Dictionary) : Type 0 where
  pub some : 0 < length metadata
  pub short : length metadata < 2 ^ 31
  pub header : Header
  pub headed : header_of metadata ≡ Some header
  pub tag : header.tag ≡ 2
  pub long : header.body ≡ length body
  pub means : dictionary_meaning h.schema (extra_of h.version) s.dictionaries (whole body) header.table ≡ Some ((id, d) ∷ s.dictionaries)

-- What a reader knows after a dictionary message.
abbrev pub after_dictionary : Known → ℤ → Dictionary → Known
after_dictionary s id d = record { dictionaries = (id, d) ∷ s.dictionaries; count = s.count + 1 }

-- Theorem: a dictionary message that comes first sets the values of its id, and
-- the bytes after it are read next.
abbrev pub WrittenDictionaryLaw : Type 0
WrittenDictionaryLaw = (h : Head) (s : Known) (metadata body rest : List ℕ) (id : ℤ) (d : Dictionary)
    → s.count < most_dictionaries → IsWrittenDictionary h s metadata body id d
    → item h s (prefix (length metadata) ++ (metadata ++ (body ++ rest))) ≡ more None (after_dictionary s id d) rest

-- ---- whatever else is known

-- The message of the values at a dictionary field means them to each reader
-- that has the values inside them.
pub record MeansValues (h : Head) (p : Filled) (metadata body : List ℕ) : Type 0 where
  pub written : (s : Known) → Finds (dictionary_at s.dictionaries) (filled_below p.values p.ids)
      → IsWrittenDictionary h s metadata body p.id (dictionary_of p.values)

-- A column as it is read back, with its type in the normal form.
abbrev pub column_written : Layout → Column
column_written l = record { type = norm (type_of l); slots = slots l }

-- Some columns as they are read back.
abbrev pub chunk_written : List Layout → Chunk
chunk_written columns = map column_written columns

-- The message of some columns means them to each reader that has the
-- values at their dictionary fields.
pub record MeansColumns (h : Head) (columns : List Layout) (metadata body : List ℕ) : Type 0 where
  pub written : (s : Known) → Finds (dictionary_at s.dictionaries) (filled_of (layouts columns) h.schema.ids)
      → BeginsWithRecord h s metadata body (chunk_written columns)
