-- What is read of a stream by some columns is what was written of them.
use Rattle.std.proofs.Common.{◌≡◌, ℕ, List, [], map, length, Option, None, Some, Ok, Err, refl, sym, ap, ◌∙◌, subst}
use Rattle.std.specs.Option.{option_map}
use Rattle.ipc_devices.proofs.Claims.{claims_through}
use Rattle.ipc_model.specs.BatchLaws.{pruned}
use Rattle.ipc_model.specs.Batches.{Chunk, IsProjection, kinds}
use Rattle.ipc_model.specs.Frame.{Frame, message, mark, waiting, broken, frame}
use Rattle.ipc_model.specs.Kinds.{count}
use Rattle.ipc_model.specs.Schemas.{head_of as head_at}
use Rattle.ipc_model.specs.Streams.{End, Head, Meant, faulty, marked, waits, meaning, nothing_known}
use Rattle.ipc_model.specs.WholeStreams.{Stream, stream_from, stream_of}
use Rattle.ipc_devices.specs.Device.{Device, after}
use Rattle.ipc_devices.specs.Faults.{OwnFault}
use Rattle.ipc_devices.specs.declared.fault.Fault.{Fault}
use Rattle.ipc_base.specs.IdTrees.{all_ids_view}
use Rattle.ipc_read.proofs.Fields.{field_count}
use Rattle.ipc_readers.proofs.PrunedStreams.{pruned_law}
use Rattle.ipc_readers.specs.ChosenStreams.{chosen_meaning}
use Rattle.ipc_readers.specs.Metadata.{GivesMetadata, RefusesMetadata, metadata_at}
use Rattle.ipc_readers.specs.Streams.{IsUnread, head_of, projection_of}
use Rattle.ipc_readers.specs.declared.read.stream.metadata.StreamMetadata.{StreamMetadata}
use Rattle.ipc_readers.specs.declared.read.stream.reader.StreamReader.{StreamReader}
use Rattle.ipc_round_trip.proofs.Streams.{chosen_ahead, ends_marked, ends_waiting, head_is, no_head, seen_stream, stream_or}
use Rattle.ipc_round_trip.specs.Choosing.{ChosenFinishedLaw, ChosenOpenLaw, ChosenOpenReadableLaw, ChosenReadableLaw, IsReadableBy, NamesOthers, chosen_from, chosen_stream_of}
use Rattle.ipc_round_trip.specs.Reading.{AheadCause}

-- ---- what is read

chosen_at : (p : Option (List ℕ)) (xs : List ℕ) (f : Frame) (rest : List ℕ) (x : StreamMetadata) → GivesMetadata xs f (Ok x) rest
    → chosen_from p f ≡ Some (record { head = head_of x; meant = chosen_meaning (record { head = head_of x; projection = p }) nothing_known rest })
chosen_at p xs (message m behind) rest x h = rw (head_is m x h.0, h.1) refl
chosen_at p xs (mark behind) rest x h = absurd h
chosen_at p xs (waiting begun) rest x h = absurd h
chosen_at p xs broken rest x h = absurd h

pub chosen_whole : (p : Option (List ℕ)) (bytes xs rest : List ℕ) (x : StreamMetadata) → xs ≡ bytes → GivesMetadata xs (frame xs) (Ok x) rest
    → chosen_stream_of p bytes ≡ Some (record { head = head_of x; meant = chosen_meaning (record { head = head_of x; projection = p }) nothing_known rest })
unfolding chosen_stream_of
chosen_whole p bytes xs rest x same h =
    chosen_at p bytes (frame bytes) rest x (subst (λ ys. GivesMetadata ys (frame ys) (Ok x) rest) same h)

-- A schema that doesn't have the requested columns, or of which one is named twice.
pub names_others : (js : List ℕ) (bytes xs rest : List ℕ) (x : StreamMetadata) → xs ≡ bytes → GivesMetadata xs (frame xs) (Ok x) rest
    → (IsProjection (Some js) (length x.schema.fields.items) → ⊥) → NamesOthers js bytes
names_others js bytes xs rest x same h never = record {
  head = head_of x;
  meant = chosen_meaning (record { head = head_of x; projection = Some js }) nothing_known rest;
  stream = chosen_whole (Some js) bytes xs rest x same h;
  others = λ is. never (subst (λ (n : ℕ). IsProjection (Some js) n) (field_count x.schema.fields.items (all_ids_view x.ipc_schema.fields.items)) is);
}

none_chosen : (p : Option (List ℕ)) (xs : List ℕ) (f : Frame) (e : Fault) (rest : List ℕ) → GivesMetadata xs f (Err e) rest → OwnFault e (chosen_from p f ≡ None)
none_chosen p xs (message m behind) e rest h =
    claims_through e ((metadata_at m ≡ None) × RefusesMetadata e m) _
    (λ none. ap (option_map (λ x. record { head = x; meant = chosen_meaning (record { head = x; projection = p }) nothing_known behind })) (no_head m none.0)) h
none_chosen p xs (mark behind) e rest h = claims_through e _ _ (λ x. refl) h
none_chosen p xs (waiting begun) e rest h = claims_through e _ _ (λ x. refl) h
none_chosen p xs broken e rest h = claims_through e _ _ (λ x. refl) h

-- bytes that begin with no schema can't be read
pub none_readable : (p : Option (List ℕ)) (bytes xs rest : List ℕ) (e : Fault) → xs ≡ bytes → GivesMetadata xs (frame xs) (Err e) rest → OwnFault e (¬ (IsReadableBy p bytes))
unfolding chosen_stream_of
none_readable p bytes xs rest e same h =
    claims_through e _ _ (λ none readable. let there = sym none ∙ readable.stream in absurd cc)
    (none_chosen p bytes (frame bytes) e rest (subst (λ ys. GivesMetadata ys (frame ys) (Err e) rest) same h))

-- a stream whose chunks are refused can't be read
pub refused_columns : {R : Type 0} (d : Device R) (device : R) (p : Option (List ℕ)) (bytes xs : List ℕ) (x : StreamMetadata) (r : StreamReader R) (e : Fault) → xs ≡ bytes
    → GivesMetadata xs (frame xs) (Ok x) (after (d.memory device)) → IsUnread device x r → projection_of r ≡ p → AheadCause d r e → OwnFault e (¬ (IsReadableBy p bytes))
refused_columns d device p bytes xs x r e same h begins asked refused =
    claims_through e _ _ (λ ends readable.
    let rest = after (d.memory device) in
    let meant = chosen_meaning (record { head = head_of x; projection = p }) nothing_known rest in
    let none : Stream = record { head = head_of x; meant = meant } in
    let there = sym (chosen_whole p bytes xs rest x same h) ∙ readable.stream in
    let end_is : meant.end ≡ faulty = ends meant (chosen_ahead d device x x r p begins refl asked) in
    readable.sound (sym (ap (λ (o : Option Stream). (stream_or o none).meant.end) there) ∙ end_is)) refused

-- ---- what was written

-- What a stream means by some columns: the chosen columns of its chunks.
abbrev by_columns : Option (List ℕ) → Stream → Stream
by_columns p s = record { head = s.head; meant = record { chunks = map (pruned p None) s.meant.chunks; end = s.meant.end } }

head_pruned : (p : Option (List ℕ)) (rest : List ℕ) (o : Option Head) (s : Stream) → IsProjection p (count (kinds s.head.schema))
    → option_map (λ h. record { head = h; meant = meaning h nothing_known rest }) o ≡ Some s → (s.meant.end ≡ faulty → ⊥)
    → option_map (λ h. record { head = h; meant = chosen_meaning (record { head = h; projection = p }) nothing_known rest }) o ≡ Some (by_columns p s)
head_pruned p rest None s is e sound = absurd cc
head_pruned p rest (Some h) s is e sound =
    let whole : Stream = record { head = h; meant = meaning h nothing_known rest } in
    let same : whole ≡ s = ap (λ (o : Option Stream). stream_or o whole) e in
    let there : IsProjection p (count (kinds h.schema)) = subst (λ (x : Stream). IsProjection p (count (kinds x.head.schema))) (sym same) is in
    let ends : whole.meant.end ≡ faulty → ⊥ = subst (λ (x : Stream). x.meant.end ≡ faulty → ⊥) (sym same) sound in
    ap (λ (m : Meant). Some (record { head = h; meant = m })) (pruned_law h p nothing_known rest there ends) ∙ ap (λ (x : Stream). Some (by_columns p x)) same

frame_pruned : (p : Option (List ℕ)) (f : Frame) (s : Stream) → IsProjection p (count (kinds s.head.schema)) → stream_from f ≡ Some s → (s.meant.end ≡ faulty → ⊥)
    → chosen_from p f ≡ Some (by_columns p s)
frame_pruned p (message m rest) s is e sound = head_pruned p rest (head_at m) s is e sound
frame_pruned p (mark rest) s is e sound = absurd cc
frame_pruned p (waiting begun) s is e sound = absurd cc
frame_pruned p broken s is e sound = absurd cc

stream_pruned : (p : Option (List ℕ)) (bytes : List ℕ) (s : Stream) → IsProjection p (count (kinds s.head.schema)) → stream_of bytes ≡ Some s → (s.meant.end ≡ faulty → ⊥)
    → chosen_stream_of p bytes ≡ Some (by_columns p s)
unfolding stream_of chosen_stream_of
stream_pruned p bytes s is e sound = frame_pruned p (frame bytes) s is e sound

-- a stream of this head and these chunks
abbrev ending : Head → List Chunk → End → Stream
ending head chunks end = record { head = head; meant = record { chunks = chunks; end = end } }

pub chosen_finished : ChosenFinishedLaw
chosen_finished p bytes head chunks s is h w =
    let there = stream_pruned p bytes (ending head chunks marked) is h.stream (λ e. cc) in
    let same = sym w.stream ∙ there in
    let x = seen_stream s w.meant in
    record {
      schema = ap (λ (o : Option Stream). (stream_or o x).head) same;
      same = sym w.chunks ∙ ap (λ (o : Option Stream). (stream_or o x).meant.chunks) same;
      ended = ends_marked s.is_finished w.meant.end (ap (λ (o : Option Stream). (stream_or o x).meant.end) same) w.end;
    }

pub chosen_readable : ChosenReadableLaw
chosen_readable p bytes head chunks is h = record {
  head = head;
  meant = (by_columns p (ending head chunks marked)).meant;
  stream = stream_pruned p bytes (ending head chunks marked) is h.stream (λ e. cc);
  sound = λ e. cc;
}

pub chosen_open_readable : ChosenOpenReadableLaw
chosen_open_readable p bytes head known chunks is h = record {
  head = head;
  meant = (by_columns p (ending head chunks (waits known []))).meant;
  stream = stream_pruned p bytes (ending head chunks (waits known [])) is h.stream (λ e. cc);
  sound = λ e. cc;
}

pub chosen_open : ChosenOpenLaw
chosen_open p bytes head known chunks s is h w =
    let there = stream_pruned p bytes (ending head chunks (waits known [])) is h.stream (λ e. cc) in
    let same = sym w.stream ∙ there in
    let x = seen_stream s w.meant in
    record {
      schema = ap (λ (o : Option Stream). (stream_or o x).head) same;
      same = sym w.chunks ∙ ap (λ (o : Option Stream). (stream_or o x).meant.chunks) same;
      ended = ends_waiting s.is_finished w.meant.end known (ap (λ (o : Option Stream). (stream_or o x).meant.end) same) w.end;
    }
