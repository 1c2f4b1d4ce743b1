-- Which dictionary a refused chunk names.
use Rattle.std.proofs.Common.{◌≡◌, ◌⊎◌, inl, inr, ℕ, ◌+◌, List, [], ◌∷◌, length, map, Option, sym, subst}
use Rattle.lower_arrays.specs.AnyLayouts.{layout_of}
use Rattle.lower_arrays.specs.declared.array.AnyArray.{AnyArray}
use Rattle.ipc_base.specs.IdTrees.{IdTrees}
use Rattle.ipc_devices.specs.Faults.{IsIo}
use Rattle.ipc_devices.specs.declared.fault.ArgFault.TheVariants.{DictionaryReplaced, SharedDictionary}
use Rattle.ipc_devices.specs.declared.fault.Fault.{Fault}
use Rattle.ipc_devices.specs.declared.fault.Fault.TheVariants.{Argument, Memory}
use Rattle.ipc_model.specs.Offers.{FilledPlace}
use Rattle.ipc_chunks.proofs.Refusals.{IsOfMessage}
use Rattle.ipc_write.proofs.Refusals.{of_messages}
use Rattle.ipc_file_lemmas.specs.FileBytes.{Sent, sent_bytes}
use Rattle.ipc_file_write.specs.Blocks.{RefusesBlockRoom}
use Rattle.ipc_file_write.specs.FileWriters.{FileSeen}
use Rattle.ipc_file_write.specs.Writes.{NamesOne, RefusesChunk, RefusesBlocks, RefusesSending}

module _ {W : Type 0} (w : FileSeen W) (columns : List AnyArray) where
  -- A refusal before its messages are made.
  pub chunk_names : (ids : Option IdTrees) (e : Fault) → RefusesChunk w columns ids e → NamesOne w columns e
  chunk_names ids (Argument (SharedDictionary j)) (inl h) = h.1
  chunk_names ids (Argument (SharedDictionary j)) (inr h) = absurd h
  chunk_names ids (Argument (DictionaryReplaced j)) (inl h) = absurd h
  chunk_names ids (Argument (DictionaryReplaced j)) (inr h) = h.1
  chunk_names ids _ h = tt

  -- no other refusal names one
  pub room_names : (count added : ℕ) (e : Fault) → RefusesBlocks count added e → NamesOne w columns e
  room_names count added (Argument (SharedDictionary j)) h = absurd h
  room_names count added (Argument (DictionaryReplaced j)) h = absurd h
  room_names count added _ h = tt

  pub memory_names : (e : Fault) → e ≡ Memory → NamesOne w columns e
  memory_names e h = subst (λ (f : Fault). NamesOne w columns f) (sym h) tt

  message-names : (e : Fault) → IsOfMessage e → NamesOne w columns e
  message-names (Argument (SharedDictionary j)) h = absurd h
  message-names (Argument (DictionaryReplaced j)) h = absurd h
  message-names _ h = tt

  io-names : (e : Fault) → IsIo e → NamesOne w columns e
  io-names (Argument (SharedDictionary j)) h = absurd h
  io-names (Argument (DictionaryReplaced j)) h = absurd h
  io-names _ h = tt

  places-name : (place : ℕ) (ws : List Sent) (e : Fault) → RefusesBlockRoom place ws e → NamesOne w columns e
  places-name place [] (Argument (SharedDictionary j)) h = absurd h
  places-name place (s ∷ ws) (Argument (SharedDictionary j)) (inl h) = absurd h
  places-name place (s ∷ ws) (Argument (SharedDictionary j)) (inr h) = places-name (place + length (sent_bytes s)) ws (Argument (SharedDictionary j)) h
  places-name place [] (Argument (DictionaryReplaced j)) h = absurd h
  places-name place (s ∷ ws) (Argument (DictionaryReplaced j)) (inl h) = absurd h
  places-name place (s ∷ ws) (Argument (DictionaryReplaced j)) (inr h) = places-name (place + length (sent_bytes s)) ws (Argument (DictionaryReplaced j)) h
  places-name place ws _ h = tt

  pub sending_names : (list : List FilledPlace) (e : Fault) → IsIo e ⊎ RefusesSending w.order (map layout_of columns) list w.place e → NamesOne w columns e
  sending_names list e (inl h) = io-names e h
  sending_names list e (inr (inl h)) = message-names e (of_messages list (map layout_of columns) e h)
  sending_names list e (inr (inr h)) = places-name w.place _ e h.refused
