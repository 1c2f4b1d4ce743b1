-- Whole streams and whole files in memory, by the calls of their writers.
use Rattle.std.proofs.Common.{◌≡◌, ℕ, List, [], ◌∷◌, Ok, Err, refl, sym, ap, ◌∙◌, subst}
use Rattle.std.specs.Prelude.{Vec}
use Rattle.std.specs.declared.alloc.Global.{Global}
use Rattle.lower.specs.TypeTrees.{FieldTrees, Pairs}
use Rattle.lower_types.specs.declared.Endianness.{Endianness}
use Rattle.ipc_base.specs.IdTrees.{IdTrees}
use Rattle.ipc_devices.specs.Device.{before}
use Rattle.ipc_model.specs.Batches.{Chunk}
use Rattle.ipc_model.specs.Streams.{Head}
use Rattle.ipc_model.specs.WriterStates.{answered}
use Rattle.ipc_model.specs.Writers.{IsFinished, taken}
use Rattle.ipc_write.specs.Agreement.{Agrees, HasEnded, StreamIs}
use Rattle.ipc_write.specs.Writers.{WriterSeen}
use Rattle.ipc_write.specs.declared.stream.WriterState.{WriterState}
use Rattle.ipc_write.specs.declared.stream.WriterState.TheVariants.{Finished}
use Rattle.ipc_file_write.specs.Calls.{EndsFile, HasChosen, IdsAre, IsWrittenFile, vector}
use Rattle.ipc_file_write.specs.FileWriters.{Agrees as FileAgrees}
use Rattle.ipc_file_write.proofs.CallLists.{finished_before, vector_before}
use Rattle.ipc_calls.specs.StreamCalls as streams
use Rattle.ipc_calls.specs.FileCalls as files
use Rattle.ipc_calls.specs.WholeLaws.{FileOfCallsLaw, OneHeadLaw, StreamOfCallsLaw}
use Rattle.ipc_calls.specs.declared.streams.WriterCall.TheVariants.{Start, Write, Finish}
use Rattle.ipc_calls.proofs.StreamLists as stream
use Rattle.ipc_calls.proofs.FileLists as file
use Rattle.ipc_write.specs.Vectors.{vectors}

-- ---- streams

stream_ended : (b : WriterSeen (Vec ℕ Global)) (head : Head) (chunks : List Chunk) → b.state ≡ Finished → Agrees vectors b [] head chunks → IsFinished b.device.items head chunks
stream_ended b head chunks is at =
    let ended : HasEnded at.bytes head chunks = subst (λ (s : WriterState). StreamIs s b at.bytes head chunks) is at.stream in
    let bytes : at.bytes ≡ b.device.items = sym at.held ∙ vector_before b.device in
    subst (λ (xs : List ℕ). IsFinished xs head chunks) bytes ended.stream

pub whole_stream : StreamOfCallsLaw
whole_stream a b calls answers h f =
    let leads = stream.made_lead vectors a b calls answers f.made in
    let none : before (vector a.device) ≡ [] = vector_before a.device ∙ f.empty in
    let first : Agrees vectors a [] h [] = subst (λ (xs : List ℕ). Agrees vectors a xs h []) none (f.fresh.agrees h) in
    stream_ended b (streams.head_left a.order calls answers h) (taken (answered (streams.ended_as calls answers))) f.finished (leads.followed refl [] h [] first)

-- If each `start` has one head, the stream has it.
pub one_head : OneHeadLaw
one_head order h [] rs all = refl
one_head order h (call ∷ calls) [] all = refl
one_head order h (Start schema ids ∷ calls) (Ok x ∷ rs) all = ap (λ (g : Head). streams.head_left order calls rs g) all.0 ∙ one_head order h calls rs all.1
one_head order h (Start schema ids ∷ calls) (Err e ∷ rs) all = one_head order h calls rs all.1
one_head order h (Write chunk ids ∷ calls) (r ∷ rs) all = one_head order h calls rs all
one_head order h (Finish ∷ calls) (r ∷ rs) all = one_head order h calls rs all

-- ---- files

-- The same by other definitions.
file_as : (bytes : List ℕ) (cs : List Chunk) (o p : Endianness) (fs gs : FieldTrees) (es ds : Pairs) (is js : IdTrees) (ps qs : Pairs) → o ≡ p → fs ≡ gs → es ≡ ds → is ≡ js → ps ≡ qs → IsWrittenFile bytes p gs ds js qs cs
    → IsWrittenFile bytes o fs es is ps cs
file_as bytes cs o p fs gs es ds is js ps qs a b c d e h = rw (a, b, c, d, e) h

pub whole_file : FileOfCallsLaw
whole_file a b calls answers fs es is order of f =
    let chunks = taken (answered (files.ended_as calls answers)) in
    let keeps = file.made_keep vectors a b calls answers f.made in
    let follows = file.made_follow vectors a b calls answers f.made in
    let none : before (vector a.device) ≡ [] = vector_before a.device ∙ f.empty in
    let first : FileAgrees vectors a [] [] = subst (λ (xs : List ℕ). FileAgrees vectors a xs []) none f.nothing.agrees in
    let had : HasChosen a = subst (λ (s : WriterState). IdsAre s a.ids a.chosen) (sym f.new) tt in
    let ends : EndsFile b b.device.items = finished_before b b.device f.finished refl in
    let left : b.pairs ≡ files.last_pairs calls answers [] = keeps.pairs_are ∙ ap (λ (ps : Pairs). files.last_pairs calls answers ps) of.pairs_are in
    file_as b.device.items chunks order b.order fs b.fields es b.metadata is b.chosen (files.last_pairs calls answers []) b.pairs (sym (keeps.order ∙ of.order_is)) (sym (keeps.fields ∙ of.fields_are))
    (sym (keeps.metadata ∙ of.metadata_are)) (sym (keeps.chosen ∙ of.chosen_are)) (sym left) (ends.file chunks (keeps.has_chosen had) (follows.followed refl [] [] first))
