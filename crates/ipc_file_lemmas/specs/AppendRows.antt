-- The append positions of files. Beside each is a file that has another one.
-- (Arrow columnar format, "IPC File Format"; File.fbs, Block.)
use Rattle.std.specs.Prelude.{◌≡◌, ℕ, pos, negsuc, ◌-◌, ◌^◌, List, [], ◌∷◌}
use Rattle.lower.specs.TypeTrees.{no_fields}
use Rattle.lower_types.specs.declared.Endianness.TheVariants.{Little}
use Rattle.ipc_base.specs.IdTrees.{no_ids}
use Rattle.ipc_table_views.specs.declared.file.Block.{Block}
use Rattle.ipc_model.specs.Files.{FileMetadata}
use Rattle.ipc_file_lemmas.specs.Appending.{HasNegative, HaveNegative, goes_on}

abbrev pub block : ℕ → ℕ → ℕ → Block
block offset metadata body = record { offset = pos offset; meta_data_length = pos metadata; body_length = pos body }

-- The metadata of a file of so many bytes with these blocks of dictionaries and of records.
abbrev pub file : ℕ → List Block → List Block → FileMetadata
file size ds bs = record {
  schema = record { fields = no_fields; metadata = []; ids = no_ids; order = Little };
  pairs = [];
  dictionaries = ds;
  blocks = bs;
  size = size;
}

-- The append position is the greatest end of a block, which may be one that isn't listed last, or
-- of a dictionary. If a block's end is after the end of the file, also one that doesn't fit in 64
-- bits, it is the end of the file. It is never in the first eight bytes.
pub record PlaceRows : Type 0 where
  pub a_block : goes_on (file 4000 [] (block 200 192 128 ∷ [])) ≡ 520
  pub last_listed : goes_on (file 4000 [] (block 200 192 128 ∷ block 520 192 64 ∷ [])) ≡ 776
  pub first_listed : goes_on (file 4000 [] (block 520 192 64 ∷ block 200 192 128 ∷ [])) ≡ 776
  pub a_dictionary : goes_on (file 4000 (block 600 192 64 ∷ []) (block 200 192 128 ∷ [])) ≡ 856
  pub a_body_alone : goes_on (file 4000 [] (block 200 0 128 ∷ block 200 192 0 ∷ [])) ≡ 392
  pub at_the_size : goes_on (file 520 [] (block 200 192 128 ∷ [])) ≡ 520
  pub behind_the_size : goes_on (file 519 [] (block 200 192 128 ∷ [])) ≡ 519
  pub greatest_body : goes_on (file 4000 [] (block 200 192 (2 ^ 63 - 1) ∷ [])) ≡ 4000
  pub past_64_bits : goes_on (file 4000 [] (block (2 ^ 63 - 1) (2 ^ 31 - 1) (2 ^ 63 - 1) ∷ [])) ≡ 4000
  pub in_the_head : goes_on (file 4000 [] (block 0 7 0 ∷ [])) ≡ 8
  pub behind_the_head : goes_on (file 4000 [] (block 0 9 0 ∷ [])) ≡ 9

-- Each of the three numbers of a block counts, of both kinds of
-- blocks. The number 0 isn't negative.
pub record NegativeRows : Type 0 where
  pub offset : HasNegative (record { offset = negsuc 0; meta_data_length = pos 192; body_length = pos 128 })
  pub metadata : HasNegative (record { offset = pos 200; meta_data_length = negsuc 0; body_length = pos 128 })
  pub body : HasNegative (record { offset = pos 200; meta_data_length = pos 192; body_length = negsuc 0 })
  pub behind_another : HaveNegative (block 200 192 128 ∷ record { offset = pos 200; meta_data_length = pos 192; body_length = negsuc 0 } ∷ [])
  pub none_below : HaveNegative (block 0 0 0 ∷ block 200 192 128 ∷ []) → ⊥
