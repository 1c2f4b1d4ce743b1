-- Theorems: what a sink took in two steps, it took in order.
use Rattle.std.proofs.Common.{◌≡◌, List, ◌++◌, refl, sym, ap, subst, ◌∙◌, append-nil, append_assoc}
use Rattle.std.proofs.lemmas.List.{map-append}
use Rattle.ipc_model.specs.Batches.{Chunk}
use Rattle.ipc_file_lemmas.specs.Appending.{normal_chunk}
use Rattle.ipc_write.specs.Agreement.{Agrees}
use Rattle.ipc_write.specs.Writers.{WriterSeen, seen}
use Rattle.ipc_file_write.specs.FileWriters as files
use Rattle.ipc_sessions.specs.Steps.{TakesChunks}
use Rattle.ipc_sessions.proofs.Writes.{takes_both, takes_none}
use Rattle.ipc_convert.specs.Chunks.{MovedInTurn, Nothing}
use Rattle.ipc_convert.specs.Copies.{normal_chunks}
use Rattle.ipc_convert.specs.Sinks.{FileTook, StreamTook, TookChunks}
use Rattle.ipc_devices.specs.Device.{Device}

more_taken : (so_far xs ys : List Chunk) → (so_far ++ normal_chunks xs) ++ normal_chunks ys ≡ so_far ++ normal_chunks (xs ++ ys)
more_taken so_far xs ys =
    append_assoc so_far (normal_chunks xs) (normal_chunks ys)
    ∙ ap (λ (cs : List Chunk). so_far ++ cs) (sym (map-append normal_chunk xs ys))

took_chunks : {W : Type 0} (d : Device W) (u v w : WriterSeen W) (xs ys : List Chunk) → TookChunks d u xs v → TookChunks d v ys w → TookChunks d u (xs ++ ys) w
took_chunks d u v w xs ys one more = record {
  state = more.state ∙ one.state;
  types = more.types ∙ one.types;
  ids = more.ids ∙ one.ids;
  stream = λ k base head so_far agrees.
      subst (λ (cs : List Chunk). Agrees d w base head cs) (more_taken so_far xs ys)
      (more.stream k base head (so_far ++ normal_chunks xs) (one.stream k base head so_far agrees));
  names = more.names ∙ one.names;
}

pub stream_took_nothing : {W : Type 0} (d : Device W) → Nothing (StreamTook d)
stream_took_nothing d a = record {
  state = refl;
  types = refl;
  ids = refl;
  stream = λ k base head so_far agrees. subst (λ (cs : List Chunk). Agrees d (seen a) base head cs) (sym (append-nil so_far)) agrees;
  names = refl;
}

pub stream_took_in_order : {W : Type 0} (d : Device W) → MovedInTurn (StreamTook d)
stream_took_in_order d a xs b ys c one more = took_chunks d (seen a) (seen b) (seen c) xs ys one more

pub file_took_nothing : {W : Type 0} (d : Device W) → Nothing (FileTook d)
file_took_nothing d a = record { state = refl; takes = takes_none d (files.seen a) }

pub file_took_in_order : {W : Type 0} (d : Device W) → MovedInTurn (FileTook d)
file_took_in_order d a xs b ys c one more = record {
  state = more.state ∙ one.state;
  takes = subst (λ (cs : List Chunk). TakesChunks d (files.seen a) (files.seen c) cs) (sym (map-append normal_chunk xs ys))
      (takes_both d (files.seen a) (files.seen b) (files.seen c) (normal_chunks xs) (normal_chunks ys) one.takes more.takes);
}
