-- Files that agree have the same chunks.
use Rattle.std.proofs.Common.{◌≡◌, ℕ, suc, List, [], ◌∷◌, Option, None, Some, refl, ap, ◌∙◌, subst}
use Rattle.std.specs.Option.{option_and_then, option_map}
use Rattle.std.specs.Prelude.{slice_get}
use Rattle.ipc_table_views.specs.declared.file.Block.{Block}
use Rattle.ipc_model.specs.Batches.{Chunk}
use Rattle.ipc_model.specs.Entries.{Dictionaries, Limit}
use Rattle.ipc_model.specs.FileLaws.{FilesAgree}
use Rattle.ipc_model.specs.Files.{FileMetadata as Meaning, chunk_at, file_dictionaries}
use Rattle.ipc_model.specs.Schemas.{given}
use Rattle.ipc_model.proofs.FileAgreement.{file_agree_law}
use Rattle.ipc_read.specs.Chunks.{chunk_seen}
use Rattle.ipc_files.specs.Footers.{GivesPart}
use Rattle.ipc_file_readers.specs.Readers.{less}
use Rattle.ipc_file_round_trip.specs.Laws.{AgreeingAnswersLaw, AgreeingChunksLaw, AgreeingFilesLaw}
use Rattle.ipc_file_round_trip.specs.Reading.{chunks_by, dictionaries_for, rows_of}

-- What follows from an optional value is the same if it is the same for each value.
given_each : {X Y : Type 0} (o : Option X) (f g : X → Option Y) → ((x : X) → f x ≡ g x) → given o f ≡ given o g
given_each None f g h = refl
given_each (Some x) f g h = h x

module _ (m : Meaning) (p : Option (List ℕ)) (xs ys : List ℕ) where
  agree_there : (known : Dictionaries) (limit : Limit) (o : Option Block) → ((b : Block) → o ≡ Some b → FilesAgree m b p xs ys)
      → option_and_then (λ b. chunk_at m known xs b p limit) o ≡ option_and_then (λ b. chunk_at m known ys b p limit) o
  agree_there known limit None agree = refl
  agree_there known limit (Some b) agree = file_agree_law m known b p limit xs ys (agree b refl)

  agree_all : (known : Dictionaries) (bs : List Block) (limit : Limit) → ((i : ℕ) (b : Block) → slice_get bs i ≡ Some b → FilesAgree m b p xs ys)
      → chunks_by m known xs p limit bs ≡ chunks_by m known ys p limit bs
  agree_all known [] limit agree = refl
  agree_all known (b ∷ bs) limit agree =
      ap (λ (o : Option Chunk). given o (λ c. option_map (λ cs. c ∷ cs) (chunks_by m known xs p (less limit (rows_of c)) bs))) (file_agree_law m known b p limit xs ys (agree 0 b refl))
      ∙ given_each (chunk_at m known ys b p limit) _ _ (λ c. ap (option_map (λ cs. c ∷ cs)) (agree_all known bs (less limit (rows_of c)) (λ i. agree (suc i))))

  agree_in : (bs : List Block) (limit : Limit) → file_dictionaries m xs ≡ file_dictionaries m ys → ((i : ℕ) (b : Block) → slice_get bs i ≡ Some b → FilesAgree m b p xs ys)
      → given (dictionaries_for bs m xs) (λ ds. chunks_by m ds xs p limit bs) ≡ given (dictionaries_for bs m ys) (λ ds. chunks_by m ds ys p limit bs)
  agree_in [] limit same agree = refl
  agree_in (b ∷ bs) limit same agree =
      ap (λ (o : Option Dictionaries). given o (λ ds. chunks_by m ds xs p limit (b ∷ bs))) same
      ∙ given_each (file_dictionaries m ys) _ _ (λ ds. agree_all ds (b ∷ bs) limit agree)

pub agreeing_chunks : AgreeingChunksLaw
agreeing_chunks m known p limit xs ys i h = agree_there m p xs ys known limit (slice_get m.blocks i) h.agree

pub agreeing_answers : AgreeingAnswersLaw
agreeing_answers m known p limit xs ys i r h gives = subst (λ (o : Option Chunk). GivesPart chunk_seen r o) (agreeing_chunks m known p limit xs ys i h) gives

pub agreeing_files : AgreeingFilesLaw
agreeing_files m p limit xs ys same agree = agree_in m p xs ys m.blocks limit same (λ i. (agree i).agree)
