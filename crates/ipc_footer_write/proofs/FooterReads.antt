-- A footer that is written reads as what it says.
use Rattle.std.proofs.Common.{◌≡◌, ℕ, ℤ, ◌≤◌, zero, suc, List, [], ◌∷◌, length, map, Option, None, Some, Result, Ok, All, refl, ap, subst, ◌∙◌, arith, Vec, Global}
use Rattle.std.specs.Prelude.{option_map}
use Rattle.lower.specs.TypeTrees.{Pairs, FieldTrees}
use Rattle.lower_types.specs.declared.Endianness.{Endianness}
use Rattle.ipc_base.specs.IdTrees.{IdTrees}
use Rattle.ipc_devices.specs.declared.fault.TableFault.{TableFault}
use Rattle.ipc_table_bytes.specs.Encodes.{IsEncoding}
use Rattle.ipc_table_bytes.specs.Holds.{HoldsPart, spot}
use Rattle.ipc_table_bytes.specs.Sizes.{size_of}
use Rattle.ipc_table_bytes.specs.Tree.{table}
use Rattle.ipc_table_bytes.proofs.ReaderLaws.{spot-read, table-read}
use Rattle.ipc_table_views.specs.FileSlots.{footer_custom_metadata, footer_schema}
use Rattle.ipc_table_views.specs.Spot.{Vector}
use Rattle.ipc_table_views.specs.Tables.{and_then, number_at, root_at, spot_at}
use Rattle.ipc_table_views.specs.declared.file.Block.{Block}
use Rattle.ipc_tables.specs.Files.{footer_slots}
use Rattle.ipc_tables.specs.Reads.{AreOptionalPairs, AreTables, IsFooter, IsPairTable, kept_block}
use Rattle.ipc_tables.specs.Slots.{kept_bytes32, kept_bytes64}
use Rattle.ipc_tables.specs.Schemas.{schema_slots}
use Rattle.ipc_tables.specs.declared.schema.KeyValue.{KeyValue}
use Rattle.ipc_tables.specs.declared.schema.Schema.{Schema as SchemaTable}
use Rattle.ipc_tables.proofs.Kept.{BlockFits, kept_bytes32-is, kept_bytes64-is}
use Rattle.ipc_tables.proofs.MessageLaws.{footer-read}
use Rattle.ipc_model.specs.Files.{footer_at}
use Rattle.ipc_model.specs.Schemas.{given, made, pairs_at}
use Rattle.ipc_schema_write.specs.Meanings.{Ascend, pairs_in, put_pairs}
use Rattle.ipc_schema_write.specs.WriterAnswers.{IsSchemaTable, written_as}
use Rattle.ipc_schema_write.proofs.FieldTables.{given-both}
use Rattle.ipc_schema_write.proofs.Pairs.{put-ascending}
use Rattle.ipc_schema_write.proofs.TableReads.{pairs-read}
use Rattle.ipc_footer_write.specs.Footers.{MeansFooter, file_written, some_pairs}
use Rattle.ipc_footer_write.proofs.FooterSizes.{footer_of, some-same}

-- ---- blocks

kept_block-is : (b : Block) → BlockFits b → kept_block b ≡ b
kept_block-is b (f, g, h) =
    ap (λ (z : ℤ). record { offset = z; meta_data_length = kept_bytes32 b.meta_data_length; body_length = kept_bytes64 b.body_length }) (kept_bytes64-is b.offset f)
    ∙ ap (λ (z : ℤ). record { offset = b.offset; meta_data_length = z; body_length = kept_bytes64 b.body_length }) (kept_bytes32-is b.meta_data_length g)
    ∙ ap (λ (z : ℤ). record { offset = b.offset; meta_data_length = b.meta_data_length; body_length = z }) (kept_bytes64-is b.body_length h)

kept-blocks : (bs : List Block) → All BlockFits bs → map kept_block bs ≡ bs
kept-blocks [] ok = refl
kept-blocks (b ∷ bs) ok =
    ap (λ y. y ∷ map kept_block bs) (kept_block-is b (ok zero b (omega arith))) ∙ ap (λ r. b ∷ r) (kept-blocks bs (λ k d h. ok (suc k) d (omega arith)))

-- ---- pairs

pairs-there : (r : Result (Option Vector) TableFault) (ps : List KeyValue) (es : Pairs) → Some (pairs_in ps) ≡ some_pairs es
    → (v : Vector) × (r ≡ Ok (Some v)) × AreTables v IsPairTable ps → given (made r) pairs_at ≡ Some (put_pairs (pairs_in ps) [])
pairs-there r [] [] is h = cc
pairs-there r [] (e ∷ es) is h = cc
pairs-there r (p ∷ ps) es is h = pairs-read r (p ∷ ps) h

-- A vector that is present only if there is a pair.
pairs-mean : (r : Result (Option Vector) TableFault) (o : Option (Vec KeyValue Global)) (es : Pairs) → option_map (λ v. pairs_in v.items) o ≡ some_pairs es → Ascend es
    → AreOptionalPairs r o → given (made r) pairs_at ≡ Some es
pairs-mean r None [] is up read = pairs-read r [] read
pairs-mean r None (e ∷ es) is up read = cc
pairs-mean r (Some ps) es is up read =
    pairs-there r ps.items es is read ∙ ap Some (ap (λ qs. put_pairs qs []) (some-same (pairs_in ps.items) es is) ∙ put-ascending es up)

-- ---- the footer

module _ (order : Endianness) (fs : FieldTrees) (es : Pairs) (is : IdTrees) (pairs : Pairs) (s : SchemaTable) (ds bs : Vec Block Global) (o : Option (Vec KeyValue Global)) (means : IsSchemaTable order s fs es is) (ds_fit : All BlockFits ds.items) (bs_fit : All BlockFits bs.items) (pairs_are : option_map (λ v. pairs_in v.items) o ≡ some_pairs pairs) (up : Ascend pairs) where
  -- the root, as a table of the footer
  at-root : (m : List ℕ) (p : ℕ) → number_at 4 m 0 ≡ Ok p → HoldsPart m p (table (footer_slots (footer_of s ds bs o))) → root_at m ≡ Ok (spot m p)
  at-root m p root held = ap (λ r. and_then r (spot_at m)) root ∙ spot-read m p (footer_slots (footer_of s ds bs o)) held

  read-at : (m : List ℕ) (p : ℕ) (root : number_at 4 m 0 ≡ Ok p) (held : HoldsPart m p (table (footer_slots (footer_of s ds bs o)))) → IsFooter 0 (spot m p) (footer_of s ds bs o)
  read-at m p root held =
      let h = footer-read 0 m (footer_of s ds bs o) (p, root, held) in
      let opened = at-root m p root held in
      let other = h.opened in
      let same : h.root ≡ spot m p = cc in
      subst (λ t. IsFooter 0 t (footer_of s ds bs o)) same h.reads

  -- the table of its schema
  schema-at : (m : List ℕ) (p : ℕ) → HoldsPart m p (table (footer_slots (footer_of s ds bs o))) → (t : ℕ) × (footer_schema (spot m p) ≡ Ok (Some (spot m t))) × HoldsPart m t (table (schema_slots s))
  schema-at m p (v, size, a, b, ((q0, e0, f0, g0), ((q1, t1, e1, f1, g1, h1), rest))) = (t1, table-read m p 1 q1 t1 (schema_slots s) e1 f1 h1, h1)

  reads-footer : (m : List ℕ) → IsEncoding m (footer_slots (footer_of s ds bs o)) → (size : ℕ) → given (made (root_at m)) (footer_at size) ≡ Some (file_written order fs es is pairs ds.items bs.items size)
  unfolding footer_at
  reads-footer m encoded size =
      let (p, root, held) = encoded.holds in
      let footer = read-at m p root held in
      let (t, led, table_held) = schema-at m p held in
      let inside : size_of (table (schema_slots s)) ≤ length m = omega (arith, encoded.size) in
      let schema = means.reads m t table_held inside in
      let blocks = footer.record_batches ∙ ap (λ xs. Ok (Some xs)) (kept-blocks bs.items bs_fit) in
      let dictionaries = footer.dictionaries ∙ ap (λ xs. Ok (Some xs)) (kept-blocks ds.items ds_fit) in
      let read = pairs-mean (footer_custom_metadata (spot m p)) o pairs pairs_are up footer.pairs in
      rw (at-root m p root held, blocks, led, schema, dictionaries)
      (given-both (made (footer_custom_metadata (spot m p))) pairs_at
      (λ es'. Some (record { schema = written_as order fs es is; pairs = es'; dictionaries = ds.items; blocks = bs.items; size = size })) pairs read)

  pub footer-means : (m : List ℕ) → IsEncoding m (footer_slots (footer_of s ds bs o)) → MeansFooter m (file_written order fs es is pairs ds.items bs.items)
  footer-means m encoded = record { reads = reads-footer m encoded }
