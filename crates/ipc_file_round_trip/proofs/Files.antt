-- What is read of a whole file is what its bytes mean.
use Rattle.std.proofs.Common.{◌≡◌, ℕ, List, length, Option, None, Some, MatchOption, Result, Ok, Err, IfOk, IfErr, sym, ap, ◌∙◌, subst}
use Rattle.std.specs.Borrow.{Bor}
use Rattle.std.specs.Option.{option_map}
use Rattle.lower.specs.TypeViews.{pairs_of, schema_view}
use Rattle.ipc_devices.proofs.Claims.{claims_own, claims_through}
use Rattle.ipc_base.specs.IdTrees.{all_ids_view, ipc_schema_view}
use Rattle.ipc_devices.specs.Device.{Rises}
use Rattle.ipc_devices.specs.Faults.{OnIo, OwnFault}
use Rattle.ipc_devices.specs.declared.fault.Fault.{Fault}
use Rattle.ipc_devices.specs.declared.memory.MemFile.{MemFile}
use Rattle.ipc_model.specs.Batches.{Chunk, IsProjection, kinds}
use Rattle.ipc_model.specs.Entries.{Limit}
use Rattle.ipc_model.specs.Files.{FileMetadata as Meaning, metadata_of, or_no_blocks}
use Rattle.ipc_model.specs.Kinds.{count}
use Rattle.ipc_model.specs.Schemas.{given}
use Rattle.ipc_read.proofs.Fields.{field_count}
use Rattle.ipc_read.specs.Chunks.{order_of}
use Rattle.ipc_readers.proofs.OfMemory.{no_failure}
use Rattle.ipc_files.specs.Files.{FileReason}
use Rattle.ipc_files.specs.Footers.{GivesPart, file_seen, optional_blocks}
use Rattle.ipc_files.specs.declared.read.file.metadata.FileMetadata.{FileMetadata}
use Rattle.ipc_file_round_trip.specs.Reading.{FileChunksCause, HasFirstRows, IsUnreadable, NamesOthers, ReadingCause, ReadsColumns, chunks_of, file_by, file_chunks, file_read}
use Rattle.ipc_file_round_trip.specs.declared.read.WholeFile.{WholeFile}

-- ---- what is read

-- The chunks of a file that has metadata.
pub meant_with : (p : Option (List ℕ)) (limit : Limit) (bytes : List ℕ) (m : Meaning) (o : Option (List Chunk)) → metadata_of bytes ≡ Some m → file_chunks m bytes p limit ≡ o
    → file_by p limit bytes ≡ option_map (λ cs. record { metadata = m; chunks = cs }) o
unfolding file_by
meant_with p limit bytes m o there e =
    ap (λ (x : Option Meaning). given x (λ n. option_map (λ cs. record { metadata = n; chunks = cs }) (file_chunks n bytes p limit))) there
    ∙ ap (option_map (λ cs. record { metadata = m; chunks = cs })) e

pub no_metadata : (p : Option (List ℕ)) (limit : Limit) (bytes : List ℕ) → metadata_of bytes ≡ None → file_by p limit bytes ≡ None
unfolding file_by
no_metadata p limit bytes none = ap (λ (x : Option Meaning). given x (λ n. option_map (λ cs. record { metadata = n; chunks = cs }) (file_chunks n bytes p limit))) none

pub file_given : (p : Option (List ℕ)) (limit : Limit) (bytes : List ℕ) (m : FileMetadata) (r : Result WholeFile Fault) → metadata_of bytes ≡ Some (file_seen m)
    → IfOk r (λ f. file_seen f.metadata ≡ file_seen m) → GivesPart chunks_of r (file_chunks (file_seen m) bytes p limit) → GivesPart file_read r (file_by p limit bytes)
file_given p limit bytes m (Ok f) there same e =
    meant_with p limit bytes (file_seen m) (Some (chunks_of f)) there e ∙ ap (λ (n : Meaning). Some (record { metadata = n; chunks = chunks_of f })) (sym same)
file_given p limit bytes m (Err e) there same h = claims_through e _ _ (λ none. meant_with p limit bytes (file_seen m) None there none) h

-- the same metadata once more
pub file_same : (a b : FileMetadata) → schema_view a.schema ≡ schema_view b.schema → ipc_schema_view a.ipc_schema ≡ ipc_schema_view b.ipc_schema → a.blocks.items ≡ b.blocks.items
    → optional_blocks a.dictionaries ≡ optional_blocks b.dictionaries → a.size ≡ b.size → pairs_of a.custom_metadata.entries ≡ pairs_of b.custom_metadata.entries → file_seen a ≡ file_seen b
file_same a b s d blocks ds size pairs = λ i. record {
  schema = record { fields = (s i).0; metadata = (s i).1; ids = (d i).0; order = order_of (d i).1 };
  pairs = pairs i;
  dictionaries = or_no_blocks (ds i);
  blocks = blocks i;
  size = size i;
}

-- ---- by columns

-- Columns are those of a schema if there are as many fields.
columns_are : (p : Option (List ℕ)) (m : FileMetadata) → IsProjection p (length m.schema.fields.items) → IsProjection p (count (kinds (file_seen m).schema))
columns_are p m is = subst (λ (n : ℕ). IsProjection p n) (sym (field_count m.schema.fields.items (all_ids_view m.ipc_schema.fields.items))) is

pub names_others : (p : Option (List ℕ)) (bytes : List ℕ) (m : FileMetadata) → metadata_of bytes ≡ Some (file_seen m) → (IsProjection p (length m.schema.fields.items) → ⊥) → NamesOthers p bytes
names_others p bytes m there never = record {
  metadata = file_seen m;
  there = there;
  others = λ is. never (subst (λ (n : ℕ). IsProjection p n) (field_count m.schema.fields.items (all_ids_view m.ipc_schema.fields.items)) is);
}

pub columns_given : (p : Option (List ℕ)) (limit : Limit) (bytes : List ℕ) (m : FileMetadata) (f : WholeFile) → IsProjection p (length m.schema.fields.items) → metadata_of bytes ≡ Some (file_seen m)
    → file_seen f.metadata ≡ file_seen m → file_chunks (file_seen m) bytes p limit ≡ Some (chunks_of f) → ReadsColumns p limit bytes (Ok (Some f))
columns_given p limit bytes m f is there same e = record {
  asked = subst (λ (n : Meaning). IsProjection p (count (kinds n.schema))) (sym same) (columns_are p m is);
  means = file_given p limit bytes m (Ok f) there same e;
}

-- A file has at most one footer.
one_metadata : (bytes : List ℕ) (m n : Meaning) → metadata_of bytes ≡ Some m → metadata_of bytes ≡ Some n → m ≡ n
one_metadata bytes m n e f = let same : Some m ≡ Some n = sym e ∙ f in cc

pub columns_refused : (p : Option (List ℕ)) (limit : Limit) (bytes : List ℕ) (m : FileMetadata) (e : Fault) → IsProjection p (length m.schema.fields.items) → metadata_of bytes ≡ Some (file_seen m)
    → OwnFault e (file_chunks (file_seen m) bytes p limit ≡ None) → OwnFault e (IsUnreadable p limit bytes)
columns_refused p limit bytes m e is there h = claims_through e _ _ (λ none. record {
  asked = λ n other. subst (λ (x : Meaning). IsProjection p (count (kinds x.schema))) (one_metadata bytes (file_seen m) n there other) (columns_are p m is);
  none = meant_with p limit bytes (file_seen m) None there none;
}) h

pub metadata_refused : (p : Option (List ℕ)) (limit : Limit) (bytes : List ℕ) (e : Fault) → OwnFault e (metadata_of bytes ≡ None) → OwnFault e (IsUnreadable p limit bytes)
metadata_refused p limit bytes e h = claims_through e _ _ (λ none. record {
  asked = λ n there. let no : None ≡ Some n = sym none ∙ there in absurd cc;
  none = no_metadata p limit bytes none;
}) h

pub rows_same : (p : Option (List ℕ)) (limit : Limit) (bytes : List ℕ) (m n : Meaning) (gs : List Chunk) → n ≡ m → HasFirstRows m bytes p limit gs → HasFirstRows n bytes p limit gs
rows_same p limit bytes m n gs same h = subst (λ (x : Meaning). HasFirstRows x bytes p limit gs) (sym same) h

-- ---- the metadata

-- what is read from the beginning of bytes in memory
module _ (bytes : List ℕ) (input : MemFile (Bor (List ℕ))) (r : Result FileMetadata Fault) (place : input.position ≡ 0) (whole : input.inner.now ≡ bytes) where
  pub metadata_at : (input.position ≡ 0 → GivesPart file_seen r (metadata_of input.inner.now)) → GivesPart file_seen r (metadata_of bytes)
  metadata_at gives = subst (λ (xs : List ℕ). GivesPart file_seen r (metadata_of xs)) whole (gives place)

  abbrev Told : ℕ → List ℕ → Type 0
  Told n xs = IfErr r (λ e. OwnFault e (FileReason n xs e))

  pub reason_at : Told input.position input.inner.now → Told 0 bytes
  reason_at why = subst (λ (n : ℕ). Told n bytes) place (subst (Told input.position) whole why)

-- No call of memory fails.
pub no_device : (r : Result FileMetadata Fault) → OnIo r (Rises 0 0) → OnIo r ⊥
no_device (Ok m) h = tt
no_device (Err e) h = no_failure FileMetadata FileMetadata e h

-- ---- why it isn't read

module _ (p : Option (List ℕ)) (limit : Limit) (bytes : List ℕ) where
  abbrev By : Fault → Option Meaning → Type 0
  By e o = MatchOption o (FileReason 0 bytes e) (λ m. FileChunksCause m bytes p limit e)

  pub metadata_reason : (e : Fault) → OwnFault e (metadata_of bytes ≡ None) → OwnFault e (FileReason 0 bytes e) → OwnFault e (ReadingCause p limit bytes e)
  metadata_reason e none why = claims_own e _ _ (λ is. claims_through e _ _ (λ w. subst (By e) (sym is) w) why) none

  pub chunks_reason : (m : Meaning) (e : Fault) → metadata_of bytes ≡ Some m → OwnFault e (FileChunksCause m bytes p limit e) → OwnFault e (ReadingCause p limit bytes e)
  chunks_reason m e there why = claims_through e _ _ (λ w. subst (By e) (sym there) w) why

  pub answer_reason : (m : Meaning) (r : Result WholeFile Fault) → metadata_of bytes ≡ Some m → IfErr r (λ e. OwnFault e (FileChunksCause m bytes p limit e))
      → IfErr r (λ e. OwnFault e (ReadingCause p limit bytes e))
  answer_reason m (Ok f) there why = tt
  answer_reason m (Err e) there why = chunks_reason m e there why
