-- The footer of a file, as it is written, and the file that it ends.
-- (Arrow columnar format, "IPC File Format"; File.fbs; the limits are this project's own.)
use Rattle.std.specs.Prelude.{◌≡◌, ℕ, ◌+◌, ◌^◌, ◌<◌, ◌≤◌, List, [], ◌∷◌, ◌++◌, length, take, Option, Some, None, Result, Ok, Err, Vec}
use Rattle.std.specs.Int.{w32, to_le_bytes}
use Rattle.std.specs.Option.{option_map}
use Rattle.std.specs.declared.alloc.Global.{Global}
use Rattle.lower.specs.TypeTrees.{Pairs, FieldTrees}
use Rattle.lower_types.specs.declared.Endianness.{Endianness}
use Rattle.ipc_base.specs.Fitting.{AllFit}
use Rattle.ipc_base.specs.IdTrees.{IdTrees}
use Rattle.ipc_devices.specs.declared.fault.ArgFault.TheVariants.{FieldsShape, NotWritable, TooLarge}
use Rattle.ipc_devices.specs.declared.fault.Fault.{Fault}
use Rattle.ipc_devices.specs.declared.fault.Fault.TheVariants.{Argument, Memory}
use Rattle.ipc_table_views.specs.Tables.{root_at}
use Rattle.ipc_table_views.specs.declared.file.Block.{Block}
use Rattle.ipc_table_views.specs.declared.schema.MetadataVersion.TheVariants.{V5}
use Rattle.ipc_table_bytes.specs.Encodes.{IsEncoding}
use Rattle.ipc_tables.specs.Files.{footer_slots}
use Rattle.ipc_tables.specs.declared.file.Footer.{Footer}
use Rattle.ipc_model.specs.Accepted.{most_blocks}
use Rattle.ipc_model.specs.Files.{FileMetadata, footer_at, magic, metadata_of}
use Rattle.ipc_model.specs.Schemas.{given, made}
use Rattle.ipc_model.specs.Writable.{IsWritable, IsWritableFile, file_weight}
use Rattle.ipc_schema_write.specs.Meanings.{pairs_in}
use Rattle.ipc_schema_write.specs.WriterAnswers.{max_weight, written_as}

-- ---- what a footer says

-- The metadata of a file of this size: its schema in the normal form with the
-- ids, its pairs, and its blocks.
abbrev pub file_written : Endianness → FieldTrees → Pairs → IdTrees → Pairs → List Block → List Block → ℕ → FileMetadata
file_written order fs es is pairs dictionaries blocks size =
    record { schema = written_as order fs es is; pairs = pairs; dictionaries = dictionaries; blocks = blocks; size = size }

-- These bytes are read as the footer of `file size`, for each size.
pub record MeansFooter (bytes : List ℕ) (file : ℕ → FileMetadata) : Type 0 where
  pub reads : (size : ℕ) → given (made (root_at bytes)) (footer_at size) ≡ Some (file size)

-- No vector of pairs if there is none.
abbrev pub some_pairs : Pairs → Option Pairs
some_pairs [] = None
some_pairs (e ∷ es) = Some (e ∷ es)

-- The bytes are a footer of version V5 with its fields and nothing else. Texts end in a zero byte,
-- sizes in vtables are right, and the parts are aligned and don't overlap. Both vectors of blocks
-- are present, and the pairs are in their order.
pub record IsWrittenFooter (bytes : List ℕ) (pairs : Pairs) (dictionaries blocks : List Block) : Type 0 where
  pub footer : Footer
  pub version : footer.version ≡ V5
  pub dictionaries_are : option_map (λ v. v.items) footer.dictionaries ≡ Some dictionaries
  pub blocks_are : option_map (λ v. v.items) footer.record_batches ≡ Some blocks
  pub pairs_are : option_map (λ v. pairs_in v.items) footer.custom_metadata ≡ some_pairs pairs
  pub encoding : IsEncoding bytes (footer_slots footer)

-- ---- the result of writing a footer

-- There are no more blocks than a footer may have.
abbrev pub AreFew : List Block → List Block → Type 0
AreFew dictionaries blocks = length dictionaries + length blocks ≤ most_blocks

-- Why a footer isn't written, by each error.
abbrev pub RefusesFooter : Fault → FieldTrees → Pairs → IdTrees → Pairs → List Block → List Block → Type 0
RefusesFooter Memory fs es is pairs dictionaries blocks = Unit {0}
RefusesFooter (Argument FieldsShape) fs es is pairs dictionaries blocks = AllFit fs is → ⊥
RefusesFooter (Argument NotWritable) fs es is pairs dictionaries blocks = IsWritable fs es is → ⊥
RefusesFooter (Argument TooLarge) fs es is pairs dictionaries blocks = file_weight fs es pairs ≤ max_weight → AreFew dictionaries blocks → ⊥
RefusesFooter _ fs es is pairs dictionaries blocks = ⊥

-- These bytes are the footer of a file that can be written, with no more blocks than it may have.
pub record WritesFooter (order : Endianness) (bytes : List ℕ) (fs : FieldTrees) (es : Pairs) (is : IdTrees) (pairs : Pairs) (dictionaries blocks : List Block) : Type 0 where
  pub writable : IsWritableFile fs es is pairs
  pub few : AreFew dictionaries blocks
  pub means : MeansFooter bytes (file_written order fs es is pairs dictionaries blocks)
  pub written : IsWrittenFooter bytes pairs dictionaries blocks

-- The result is Ok exactly if there is such a footer, unless an allocation fails. Each error
-- names a condition that isn't met.
abbrev pub AnswersFooter : Endianness → Result (Vec ℕ Global) Fault → FieldTrees → Pairs → IdTrees → Pairs → List Block → List Block → Type 0
AnswersFooter order (Ok bytes) fs es is pairs dictionaries blocks = WritesFooter order bytes.items fs es is pairs dictionaries blocks
AnswersFooter order (Err e) fs es is pairs dictionaries blocks = RefusesFooter e fs es is pairs dictionaries blocks

-- ---- files

-- The bytes after a footer: its length, and ARROW1.
abbrev pub tail_of : List ℕ → List ℕ
tail_of footer = to_le_bytes w32 (length footer) ++ magic

-- A file begins with ARROW1, and ends with its footer, the footer's length and ARROW1.
pub record HasFooter (bytes footer : List ℕ) : Type 0 where
  pub head : take 6 bytes ≡ magic
  pub front : List ℕ
  pub bytes_are : bytes ≡ front ++ (footer ++ tail_of footer)

-- Theorem: the metadata of a file are what its footer means.
abbrev pub FooterLaw : Type 0
FooterLaw = (bytes footer : List ℕ) (file : ℕ → FileMetadata) → HasFooter bytes footer → length footer < 2 ^ 31 → MeansFooter footer file
    → metadata_of bytes ≡ Some (file (length bytes))
