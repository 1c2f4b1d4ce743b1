-- Why what is requested isn't shown, call by call.
use Rattle.std.proofs.Common.{◌≡◌, ◌≢◌, ◌⊎◌, ℕ, Bool, true, false, IsTrue, List, ◌++◌, length, Option, None, Some, Ok, Err, inl, inr, refl, sym, ap, subst, ◌∙◌, append_assoc, length-append, arith}
use Rattle.ipc_base.specs.IdTrees.{all_ids_view}
use Rattle.ipc_devices.specs.Faults.{OwnFault}
use Rattle.ipc_devices.specs.Gives.{Follows, Gives, GivesAhead, GivesInOrder, Stop, going}
use Rattle.ipc_devices.specs.declared.fault.Fault.{Fault}
use Rattle.ipc_model.specs.Batches.{Chunk, IsProjection, kinds}
use Rattle.ipc_model.specs.Files.{metadata_of}
use Rattle.ipc_model.specs.Frame.{frame}
use Rattle.ipc_model.specs.Kinds.{count}
use Rattle.ipc_model.specs.Streams.{End, Head, Known, Meant, faulty, marked, nothing_known, waits, with_chunks}
use Rattle.ipc_model.specs.WholeStreams.{Stream}
use Rattle.ipc_read.proofs.Fields.{field_count}
use Rattle.ipc_readers.specs.ChosenStreams.{Request, chosen_meaning}
use Rattle.ipc_readers.specs.Metadata.{GivesMetadata, MetadataGave}
use Rattle.ipc_readers.specs.Refusals.{IsStreamFault}
use Rattle.ipc_readers.specs.Streams.{Knows, device_of, head_of, projection_of, request_of}
use Rattle.ipc_readers.specs.declared.read.stream.metadata.StreamMetadata.{StreamMetadata}
use Rattle.ipc_readers.specs.declared.read.stream.reader.StreamReader.{StreamReader}
use Rattle.ipc_files.specs.Files.{FileReason}
use Rattle.ipc_files.specs.Footers.{file_seen}
use Rattle.ipc_files.specs.declared.read.file.metadata.FileMetadata.{FileMetadata}
use Rattle.ipc_file_readers.specs.declared.read.reader.state.FileReader.{FileReader}
use Rattle.ipc_round_trip.proofs.Chosen.{chosen_whole, names_others, none_readable}
use Rattle.ipc_round_trip.proofs.Streams.{blames_front, stream_or}
use Rattle.ipc_round_trip.specs.Choosing.{IsReadableBy, NamesOthers, chosen_stream_of}
use Rattle.ipc_round_trip.specs.Reading.{StreamCause, EndsAs}
use Rattle.ipc_file_round_trip.proofs.Files as files
use Rattle.ipc_file_round_trip.proofs.Readings.{chunks_read, chunks_refused}
use Rattle.ipc_file_round_trip.proofs.Reasons.{all_reason}
use Rattle.ipc_file_round_trip.specs.Reading.{IsUnreadable, ReadingCause, chunks_seen}
use Rattle.ipc_file_round_trip.specs.Steps.{GivesThenFails}
use Rattle.ipc_convert.proofs.Own.{own}
use Rattle.ipc_convert.proofs.ReadStreams.{follows_going}
use Rattle.ipc_convert.proofs.Refused.{given_so}
use Rattle.ipc_convert.specs.Chunks.{AreTooMany, Copied, Moved, StopsCopy}
use Rattle.ipc_convert.specs.Sources.{GaveChunks, GaveFault, NextOfStreamCause, StreamCame, StreamStopped, is_end, last_stop, meant_by}
use Rattle.ipc_convert.specs.declared.chunks.Ending.{Ending}
use Rattle.ipc_devices.specs.Device.{Device}
use Rattle.ipc_programs.specs.CatRefusals.{FileHasOthers, HasTooMany, IsNoStream, OpensFile, OpensStream, ShowFileCause, ShowStreamCause, StreamHasOthers}
use Rattle.ipc_programs.specs.Shown.{GaveBlocks, GivesReadable, ReadsFile}

-- ---- errors

-- An error of a device or of allocation claims nothing.
pub none_own : (e : Fault) (P : Type 0) → OwnFault e ⊥ → OwnFault e P
none_own e P h = own e P (λ it. absurd (it ⊥ h))

-- ---- a stream

not_readable : (p : Option (List ℕ)) (bytes : List ℕ) (head : Head) (meant : Meant) → chosen_stream_of p bytes ≡ Some (record { head = head; meant = meant }) → meant.end ≡ faulty → ¬ IsReadableBy p bytes
not_readable p bytes head meant is ends readable =
    let none : Stream = record { head = head; meant = meant } in
    let there = sym is ∙ readable.stream in
    readable.sound (sym (ap (λ (o : Option Stream). (stream_or o none).meant.end) there) ∙ ends)

sound_end : (over : Bool) (e : End) → EndsAs over e → e ≢ faulty
sound_end true e ends = λ f. let no : marked ≡ faulty = sym ends ∙ f in absurd cc
sound_end false (waits known begun) ends = λ f. absurd cc
sound_end false marked ends = absurd ends
sound_end false faulty ends = absurd ends

module _ {R : Type 0} (gives : Gives R) (source : Device R) (ahead : GivesAhead source gives) (input : R) (p : Option (List ℕ)) where
  -- a schema message that is refused
  pub front_not_shown : (e : Fault) (device : R) → MetadataGave gives input (Err e) device → OwnFault e (ShowStreamCause gives source input p e)
  front_not_shown e device front = own e (ShowStreamCause gives source input p e) (λ it.
      given_so gives source ahead input device front.stop front.run.bytes (IsNoStream p e) front.run.gave (λ ys f.
      let bytes = front.run.bytes ++ ys in
      let said : GivesMetadata bytes (frame bytes) (Err e) ys = front.run.holds ys f in
      inl (it (¬ IsReadableBy p bytes) (none_readable p bytes bytes ys e refl said), it (StreamCause bytes (chosen_stream_of p bytes) p e) (blames_front bytes bytes ys (chosen_stream_of p bytes) p e refl said))))

-- A reader that read the schema message, and then returned some chunks.
module _ {R : Type 0} (gives : Gives R) (law : GivesInOrder gives) (input : R) (p : Option (List ℕ)) (r last : StreamReader R) (cs : List Chunk) (opens : OpensStream gives input p r) (came : StreamCame gives r cs last) where
  abbrev Told : Head
  Told = head_of opens.metadata

  abbrev One : GaveChunks gives r cs last
  One = came.gave opens.unread.unfinished

  -- The bytes that were read up to the last of them.
  abbrev Front : List ℕ
  Front = opens.front.run.bytes ++ One.bytes

  abbrev Asked : Request
  Asked = record { head = Told; projection = p }

  asked : request_of r ≡ Asked
  asked = ap (λ (x : StreamMetadata). record { head = head_of x; projection = projection_of r }) opens.unread.described ∙ ap (λ (q : Option (List ℕ)). record { head = Told; projection = q }) opens.columns

  gave_front : gives input Front going (device_of last)
  gave_front =
      let first : gives input opens.front.run.bytes going (device_of r) =
      subst (λ (x : R). gives input opens.front.run.bytes going x) (sym opens.unread.reader) (subst (λ (y : Stop). gives input opens.front.run.bytes y opens.device) opens.front.stops opens.front.run.gave) in
      law input opens.front.run.bytes (device_of r) One.bytes going (device_of last) first One.gave

  -- The bytes that were read mean these chunks, and then what follows.
  record GoesOn (behind : List ℕ) : Type 0 where
    known : Known
    knows : Knows last known
    is : chosen_stream_of p (Front ++ behind) ≡ Some (record { head = Told; meant = with_chunks cs (meant_by last known behind) })

  goes_on : (behind : List ℕ) → GoesOn behind
  goes_on behind =
      let from = opens.front.run.bytes in
      let all = One.bytes ++ behind in
      let said : GivesMetadata (from ++ all) (frame (from ++ all)) (Ok opens.metadata) all = opens.front.run.holds all (follows_going opens.front.stop all opens.front.stops) in
      let is : chosen_stream_of p (from ++ all) ≡ Some (record { head = Told; meant = chosen_meaning Asked nothing_known all }) = chosen_whole p (from ++ all) (from ++ all) all opens.metadata refl said in
      let same : chosen_meaning Asked nothing_known all ≡ meant_by r nothing_known all =
      λ i. chosen_meaning (sym asked i) nothing_known (sym (ap (λ (xs : List ℕ). xs ++ all) opens.unread.begun) i) in
      let then = One.rest nothing_known behind opens.unread.knows in
      record {
        known = then.0;
        knows = then.1;
        is = ap (chosen_stream_of p) (append_assoc from One.bytes behind) ∙ is ∙ ap (λ (m : Meant). Some (record { head = Told; meant = m })) (same ∙ then.2);
      }

  -- more than are shown
  has_too_many : (e : Fault) → AreTooMany cs e → (behind : List ℕ) → HasTooMany p e (Front ++ behind)
  has_too_many e many behind =
      let on = goes_on behind in
      let rest = (meant_by last on.known behind).chunks in
      record {
        stream = record { head = Told; meant = with_chunks cs (meant_by last on.known behind) };
        is = on.is;
        many = (many.0, let long = length-append cs rest in let most = many.1 in omega (arith, long, most));
      }

  -- An error after them.
  is_refused : (e : Fault) (fault : GaveFault gives last e) (ys : List ℕ) → Follows fault.stop ys → IsNoStream p e ((Front ++ fault.bytes) ++ ys)
  is_refused e fault ys f =
      let behind = fault.bytes ++ ys in
      let on = goes_on behind in
      let meant = with_chunks cs (meant_by last on.known behind) in
      let ends : meant.end ≡ faulty = ap (λ (x : Meant). x.end) (fault.means on.known ys on.knows f) in
      subst (IsNoStream p e) (sym (append_assoc Front fault.bytes ys)) (inl (
        not_readable p (Front ++ behind) Told meant on.is ends,
        inr (record { head = Told; meant = meant; is = on.is; kind = subst (λ (h : Request). IsStreamFault h e) (One.asked ∙ asked) fault.kind }),
      ))

  stops_not_shown : (source : Device R) (ahead : GivesAhead source gives) (e : Fault) → NextOfStreamCause gives last e ⊎ AreTooMany cs e → ShowStreamCause gives source input p e
  stops_not_shown source ahead e (inl breaks) =
      let fault = breaks.1 in
      given_so gives source ahead input fault.left fault.stop (Front ++ fault.bytes) (IsNoStream p e)
      (law input Front (device_of last) fault.bytes fault.stop fault.left gave_front fault.gave) (λ ys f. is_refused e fault ys f)
  stops_not_shown source ahead e (inr many) =
      given_so gives source ahead input (device_of last) going Front (IsNoStream p e) gave_front (λ ys f. inr (has_too_many e many ys))

  -- Nothing after them.
  end_shown : (c : StreamReader R) (ending : Ending) → StreamStopped gives last ending c → GivesReadable gives input p
  end_shown c ending stopped =
      let none = stopped.gave One.unfinished in
      let on = goes_on none.bytes in
      record {
        bytes = Front ++ none.bytes;
        stop = last_stop (is_end ending);
        left = device_of c;
        gave = law input Front (device_of last) none.bytes (last_stop (is_end ending)) (device_of c) gave_front none.gave;
        readable = record {
          head = Told;
          meant = with_chunks cs (meant_by last on.known none.bytes);
          stream = on.is;
          sound = sound_end (is_end ending) (meant_by last on.known none.bytes).end (none.ends on.known on.knows).1;
        };
      }

-- All chunks were read, and taken by a sink of which nothing is known.
pub chunks_shown : {R T : Type 0} (gives : Gives R) (law : GivesInOrder gives) (input : R) (p : Option (List ℕ)) (r c : StreamReader R) (took : Moved T) (v w : T) (ending : Ending) → OpensStream gives input p r
    → Copied (StreamCame gives) (StreamStopped gives) took r v ending c w → GivesReadable gives input p
chunks_shown gives law input p r c took v w ending opens copied = end_shown gives law input p r copied.last copied.handed.chunks opens copied.handed.came_all c ending copied.stops

-- Not all chunks were read.
pub chunks_not_shown : {R T : Type 0} (gives : Gives R) (law : GivesInOrder gives) (input : R) (p : Option (List ℕ)) (r : StreamReader R) (took : Moved T) (v : T) (source : Device R) (ahead : GivesAhead source gives) (e : Fault)
    → OpensStream gives input p r → StopsCopy (StreamCame gives) (NextOfStreamCause gives) took (λ a columns x. ⊥) r v e → ShowStreamCause gives source input p e
chunks_not_shown gives law input p r took v source ahead e opens stops =
    let shown = stops_not_shown gives law input p r stops.last stops.handed.chunks opens stops.handed.came_all source ahead e in
    elim stops.why [
      | inl (inl breaks) ↦ shown (inl breaks)
      | inl (inr comes) ↦ absurd comes.refused
      | inr many ↦ shown (inr many)
    ]

-- A schema that doesn't have the requested columns.
module _ {R : Type 0} (gives : Gives R) (source : Device R) (ahead : GivesAhead source gives) (input device : R) (m : StreamMetadata) (front : MetadataGave gives input (Ok m) device) where
  pub stream_has_others : (p : Option (List ℕ)) → ¬ IsProjection p (length m.schema.fields.items) → StreamHasOthers gives source input p
  stream_has_others None others = others tt
  stream_has_others (Some columns) others =
      given_so gives source ahead input device front.stop front.run.bytes (NamesOthers columns) front.run.gave (λ ys f.
      let bytes = front.run.bytes ++ ys in
      names_others columns bytes bytes ys m refl (front.run.holds ys f) others)

-- ---- a file

module _ {F : Type 0} (contents : Device F) (file : F) (p : Option (List ℕ)) (limit : Option ℕ) where
  abbrev Bytes : List ℕ
  Bytes = (contents.memory file).whole

  -- a footer that is refused
  pub footer_not_shown : (e : Fault) → (IsTrue contents.is_memory → (contents.memory file).place ≡ 0 → OwnFault e (metadata_of Bytes ≡ None)) → (IsTrue contents.is_memory → OwnFault e (FileReason (contents.memory file).place Bytes e))
      → OwnFault e (ShowFileCause contents file p limit e)
  footer_not_shown e none reason = own e (ShowFileCause contents file p limit e) (λ it. λ there front. (
    it (IsUnreadable p limit Bytes) (files.metadata_refused p limit Bytes e (none there front)),
    it (ReadingCause p limit Bytes e) (files.metadata_reason p limit Bytes e (none there front) (subst (λ (n : ℕ). OwnFault e (FileReason n Bytes e)) front (reason there))),
  ))

  -- An error at a block.
  pub blocks_not_shown : (stays : IsTrue contents.is_memory → IsTrue contents.is_read_only) (r : FileReader F) (e : Fault) → OpensFile contents file p limit r
      → OwnFault e (GivesThenFails contents r e) → OwnFault e (ShowFileCause contents file p limit e)
  blocks_not_shown stays r e opens fails = own e (ShowFileCause contents file p limit e) (λ it. λ there front.
      let m = opens.metadata in
      let off = it (GivesThenFails contents r e) fails in
      let is = opens.footer there front in
      let same = opens.same there in (
        it (IsUnreadable p limit Bytes)
            (files.columns_refused p limit Bytes m e opens.columns is (chunks_refused contents stays there r opens.device m p limit Bytes opens.unread same e (inr off))),
        it (ReadingCause p limit Bytes e)
            (files.chunks_reason p limit Bytes (file_seen m) e is (all_reason contents stays there r opens.device m p limit Bytes opens.unread same e (inr off))),
      ))

-- Columns are those of a schema if there are as many fields.
columns_are : (p : Option (List ℕ)) (m : FileMetadata) → IsProjection p (length m.schema.fields.items) → IsProjection p (count (kinds (file_seen m).schema))
columns_are p m is = subst (λ (n : ℕ). IsProjection p n) (sym (field_count m.schema.fields.items (all_ids_view m.ipc_schema.fields.items))) is

-- All blocks were returned.
pub blocks_shown : {F : Type 0} (contents : Device F) (stays : IsTrue contents.is_memory → IsTrue contents.is_read_only) (file : F) (p : Option (List ℕ)) (limit : Option ℕ) (r : FileReader F)
    → OpensFile contents file p limit r → GaveBlocks contents r → ReadsFile contents file p limit
blocks_shown contents stays file p limit r opens gave = λ there front.
    let m = opens.metadata in
    let bytes = (contents.memory file).whole in
    let chunks = chunks_seen gave.chunks in
    record {
      meant = record { metadata = file_seen m; chunks = chunks };
      is = files.meant_with p limit bytes (file_seen m) (Some chunks) (opens.footer there front)
          (chunks_read contents stays there r opens.device m p limit bytes opens.unread (opens.same there) gave.chunks gave.all);
      columns = columns_are p m opens.columns;
    }

-- A schema that doesn't have the requested columns.
pub file_has_others : {F : Type 0} (contents : Device F) (file : F) (p : Option (List ℕ)) (m : FileMetadata) → (IsTrue contents.is_memory → (contents.memory file).place ≡ 0 → metadata_of (contents.memory file).whole ≡ Some (file_seen m))
    → ¬ IsProjection p (length m.schema.fields.items) → FileHasOthers contents file p
file_has_others contents file None m footer others = others tt
file_has_others contents file (Some columns) m footer others = λ there front. files.names_others (Some columns) (contents.memory file).whole m (footer there front) others
