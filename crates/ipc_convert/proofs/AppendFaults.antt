-- Why a stream isn't appended to a file, call by call.
use Rattle.std.proofs.Common.{◌≡◌, ◌⊎◌, ℕ, List, None, Some, Ok, Bool, inl, inr, subst}
use Rattle.lower.specs.TypeTrees.{FieldTrees, Pairs}
use Rattle.lower.specs.TypeViews.{schema_view}
use Rattle.ipc_devices.proofs.Claims.{claimed, claims_through}
use Rattle.ipc_base.specs.IdTrees.{IdTrees, all_ids_view}
use Rattle.ipc_devices.specs.Faults.{OwnFault}
use Rattle.ipc_devices.specs.Gives.{Gives, GivesAhead}
use Rattle.ipc_devices.specs.declared.fault.ArgFault.TheVariants.{FieldsDiffer}
use Rattle.ipc_devices.specs.declared.fault.Fault.{Fault}
use Rattle.ipc_devices.specs.declared.fault.Fault.TheVariants.{Argument}
use Rattle.ipc_model.specs.Files.{FileMetadata, metadata_of}
use Rattle.ipc_readers.specs.Metadata.{MetadataGave}
use Rattle.ipc_readers.specs.declared.read.stream.metadata.StreamMetadata.{StreamMetadata}
use Rattle.ipc_files.specs.Files.{FileReason}
use Rattle.ipc_file_write.specs.Appends.{RefusesFile}
use Rattle.ipc_convert.proofs.Own.{own}
use Rattle.ipc_convert.proofs.Refused.{schema_refused}
use Rattle.ipc_convert.specs.Copies.{AreSame}
use Rattle.ipc_convert.specs.Refusals.{CopyStreamCause, AppendedFileCause, HoldsOfGiven, AppendedStreamCause, AppendedCause}
use Rattle.ipc_devices.specs.Device.{Device}

-- A file without metadata.
pub no_metadata : (known : Bool) (bytes : List ℕ) (e : Fault) (Q : Type 0) → OwnFault e (metadata_of bytes ≡ None) → OwnFault e (FileReason 0 bytes e) → OwnFault e (AppendedFileCause known bytes e ⊎ Q)
no_metadata known bytes e Q none reason = own e (AppendedFileCause known bytes e ⊎ Q) (λ it. inl (inl (it (metadata_of bytes ≡ None) none, it (FileReason 0 bytes e) reason)))

module _ {F : Type 0} (d : Device F) (file device : F) (m : FileMetadata) where
  -- A file whose metadata are refused.
  pub file_not_gone_on : (e : Fault) (Q : Type 0) → metadata_of (d.memory file).whole ≡ Some m → (d.memory device).whole ≡ (d.memory file).whole → RefusesFile d.is_memory m (d.memory device).whole e
      → OwnFault e (AppendedFileCause d.is_memory (d.memory file).whole e ⊎ Q)
  file_not_gone_on e Q is same refused = claimed e (AppendedFileCause d.is_memory (d.memory file).whole e ⊎ Q)
      (inl (inr (record { metadata = m; is = λ k. is; refused = subst (λ (bytes : List ℕ). RefusesFile d.is_memory m bytes e) same refused })))

  -- A stream that isn't appended to a file.
  pub appended_refused : {R : Type 0} (gives : Gives R) (source : Device R) (input : R) (e : Fault) (Q : Type 0) → metadata_of (d.memory file).whole ≡ Some m → (d.memory device).whole ≡ (d.memory file).whole
      → OwnFault e (HoldsOfGiven gives source input (λ bytes. CopyStreamCause (AppendedCause d m device) bytes e)) → OwnFault e (Q ⊎ AppendedStreamCause d file gives source input e)
  appended_refused gives source input e Q is same refused = claims_through e _ _ (λ h. inr (record { metadata = m; is = is; device = device; same = same; refused = h })) refused

-- A stream of another schema.
pub other_schema : {F R : Type 0} (d : Device F) (m : FileMetadata) (device : F) (gives : Gives R) (source : Device R) → GivesAhead source gives → (input begun : R) (s : StreamMetadata) (e : Fault)
    → (schema : FieldTrees × Pairs) (ids : IdTrees) → MetadataGave gives input (Ok s) begun → schema ≡ (m.schema.fields, m.schema.metadata) → ids ≡ m.schema.ids
    → OwnFault e (e ≡ Argument FieldsDiffer) → OwnFault e (AreSame (schema_view s.schema) (all_ids_view s.ipc_schema.fields.items) schema ids → ⊥)
    → OwnFault e (HoldsOfGiven gives source input (λ bytes. CopyStreamCause (AppendedCause d m device) bytes e))
other_schema d m device gives source ahead input begun s e schema ids front of_file with_ids only differs =
    own e (HoldsOfGiven gives source input (λ bytes. CopyStreamCause (AppendedCause d m device) bytes e)) (λ it.
    let not : ¬ AreSame (schema_view s.schema) (all_ids_view s.ipc_schema.fields.items) (m.schema.fields, m.schema.metadata) m.schema.ids =
    subst (λ (is : IdTrees). ¬ AreSame (schema_view s.schema) (all_ids_view s.ipc_schema.fields.items) (m.schema.fields, m.schema.metadata) is) with_ids
    (subst (λ (t : FieldTrees × Pairs). ¬ AreSame (schema_view s.schema) (all_ids_view s.ipc_schema.fields.items) t ids) of_file (it _ differs)) in
    schema_refused gives source ahead input begun s e (AppendedCause d m device) front (λ first. inl (it (e ≡ Argument FieldsDiffer) only, not)))
