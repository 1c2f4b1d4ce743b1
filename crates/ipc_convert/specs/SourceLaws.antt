-- Theorems: what a source gave in two steps, it gave in order.
use Rattle.std.proofs.Common.{◌≡◌, ◌⊎◌, ℕ, List, [], ◌++◌, Some, inl, inr, refl, sym, ap, subst, ◌∙◌, append-nil, append_assoc, length-append, arith}
use Rattle.std.specs.Prelude.{IsSome}
use Rattle.ipc_devices.specs.Gives.{going, Gives, GivesInOrder, GivesNothing}
use Rattle.ipc_model.specs.Batches.{Chunk}
use Rattle.ipc_model.specs.Entries.{Dictionaries}
use Rattle.ipc_model.specs.Files.{FileMetadata, file_dictionaries}
use Rattle.ipc_model.specs.Streams.{Meant, with_chunks}
use Rattle.ipc_readers.specs.Streams.{device_of}
use Rattle.ipc_readers.specs.declared.read.stream.reader.StreamReader.{StreamReader}
use Rattle.ipc_file_readers.specs.Readers as files
use Rattle.ipc_file_readers.specs.declared.read.reader.state.FileReader.{FileReader}
use Rattle.ipc_convert.specs.Chunks.{MovedInTurn, Nothing}
use Rattle.ipc_convert.specs.Sources.{FileCame, FirstAre, GaveBlocks, GaveChunks, StreamCame, bytes_of, meant_by}
use Rattle.ipc_devices.specs.Device.{Device}

-- ---- a stream

pub stream_came_nothing : {R : Type 0} (gives : Gives R) → GivesNothing gives → Nothing (StreamCame gives)
stream_came_nothing gives law a = record {
  over = λ done. (refl, done);
  gave = λ unfinished. record {
    unfinished = unfinished;
    asked = refl;
    begun = λ none. none;
    bytes = [];
    gave = law (device_of a);
    rest = λ s ys at. (s, at, refl);
  };
}

more_left : (xs ys : List Chunk) (n : Meant) → with_chunks xs (with_chunks ys n) ≡ with_chunks (xs ++ ys) n
more_left xs ys n = λ i. record { chunks = sym (append_assoc xs ys n.chunks) i; end = n.end }

gave_chunks : {R : Type 0} (gives : Gives R) → GivesInOrder gives → (a b c : StreamReader R) (xs ys : List Chunk) → GaveChunks gives a xs b → GaveChunks gives b ys c → GaveChunks gives a (xs ++ ys) c
gave_chunks gives law a b c xs ys one more = record {
  unfinished = more.unfinished;
  asked = more.asked ∙ one.asked;
  begun = λ none. more.begun (one.begun none);
  bytes = one.bytes ++ more.bytes;
  gave = law (device_of a) one.bytes (device_of b) more.bytes going (device_of c) one.gave more.gave;
  rest = λ s zs at.
      let p = one.rest s (more.bytes ++ zs) at in
      let q = more.rest p.0 zs p.1 in
      (q.0, q.1, ap (meant_by a s) (append_assoc one.bytes more.bytes zs) ∙ p.2 ∙ ap (with_chunks xs) q.2 ∙ more_left xs ys (meant_by c q.0 zs));
}

pub stream_came_in_order : {R : Type 0} (gives : Gives R) → GivesInOrder gives → MovedInTurn (StreamCame gives)
stream_came_in_order gives law a xs b ys c one more = record {
  over = λ done.
      let none = one.over done in
      let still = more.over none.1 in
      (ap (λ (cs : List Chunk). cs ++ ys) none.0 ∙ still.0, still.1);
  gave = λ unfinished.
      let first = one.gave unfinished in
      gave_chunks gives law a b c xs ys first (more.gave first.unfinished);
}

-- ---- a file

pub file_came_nothing : {R : Type 0} (d : Device R) → Nothing (FileCame d)
file_came_nothing d a = record {
  gave = λ k whole. record {
    file = refl;
    bytes = refl;
    whole = whole;
    block = omega arith;
    some = inl refl;
    chunks = λ ds so_far found first. subst (λ (cs : List Chunk). FirstAre (files.file_of a) ds (bytes_of d a) (files.block_of a) cs) (sym (append-nil so_far)) first;
  };
  names = refl;
}

-- What holds of a file holds of an equal one.
of_same : (m n : FileMetadata) (xs ys : List ℕ) (i j : ℕ) (cs : List Chunk) → n ≡ m → ys ≡ xs
    → ((known : Dictionaries) (so_far : List Chunk) → file_dictionaries n ys ≡ Some known → FirstAre n known ys i so_far → FirstAre n known ys j (so_far ++ cs))
    → (known : Dictionaries) (so_far : List Chunk) → file_dictionaries m xs ≡ Some known → FirstAre m known xs i so_far → FirstAre m known xs j (so_far ++ cs)
of_same m n xs ys i j cs e f h =
    subst (λ (zs : List ℕ). (known : Dictionaries) (so_far : List Chunk) → file_dictionaries m zs ≡ Some known → FirstAre m known zs i so_far → FirstAre m known zs j (so_far ++ cs)) f
    (subst (λ (o : FileMetadata). (known : Dictionaries) (so_far : List Chunk) → file_dictionaries o ys ≡ Some known → FirstAre o known ys i so_far → FirstAre o known ys j (so_far ++ cs)) e h)

still_some : (m n : FileMetadata) (xs ys : List ℕ) → n ≡ m → ys ≡ xs → IsSome (file_dictionaries n ys) → IsSome (file_dictionaries m xs)
still_some m n xs ys e f h =
    subst (λ (zs : List ℕ). IsSome (file_dictionaries m zs)) f (subst (λ (o : FileMetadata). IsSome (file_dictionaries o ys)) e h)

none_or_some : (m n : FileMetadata) (xs ys : List ℕ) (cs ds : List Chunk) → n ≡ m → ys ≡ xs → (cs ≡ []) ⊎ IsSome (file_dictionaries m xs) → (ds ≡ []) ⊎ IsSome (file_dictionaries n ys)
    → (cs ++ ds ≡ []) ⊎ IsSome (file_dictionaries m xs)
none_or_some m n xs ys cs ds e f p q = elim p [
  | inr some ↦ inr some
  | inl none ↦ elim q [
    | inr some ↦ inr (still_some m n xs ys e f some)
    | inl empty ↦ inl (ap (λ (l : List Chunk). l ++ ds) none ∙ empty)
  ]
]

gave_blocks : {R : Type 0} (d : Device R) (a b c : FileReader R) (xs ys : List Chunk) → GaveBlocks d a xs b → GaveBlocks d b ys c → GaveBlocks d a (xs ++ ys) c
gave_blocks d a b c xs ys one more = record {
  file = more.file ∙ one.file;
  bytes = more.bytes ∙ one.bytes;
  whole = more.whole;
  block = let both = length-append xs ys in omega (arith, one.block, more.block, both);
  some = none_or_some (files.file_of a) (files.file_of b) (bytes_of d a) (bytes_of d b) xs ys one.file one.bytes one.some more.some;
  chunks = λ ds so_far found first.
      let then = of_same (files.file_of a) (files.file_of b) (bytes_of d a) (bytes_of d b) (files.block_of b) (files.block_of c) ys one.file one.bytes more.chunks in
      subst (λ (cs : List Chunk). FirstAre (files.file_of a) ds (bytes_of d a) (files.block_of c) cs) (append_assoc so_far xs ys)
      (then ds (so_far ++ xs) found (one.chunks ds so_far found first));
}

pub file_came_in_order : {R : Type 0} (d : Device R) → MovedInTurn (FileCame d)
file_came_in_order d a xs b ys c one more = record {
  gave = λ k whole.
      let first = one.gave k whole in
      gave_blocks d a b c xs ys first (more.gave k first.whole);
  names = more.names ∙ one.names;
}
