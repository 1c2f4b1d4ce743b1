-- The result of writing a footer.
use Rattle.std.proofs.Common.{◌≡◌, ℕ, ◌≤◌, List, Option, Some, Result, Ok, Err, All, refl, ap, subst, sym, arith, Vec, Global, inl, inr}
use Rattle.std.specs.Prelude.{option_map}
use Rattle.lower.specs.TypeTrees.{Pairs, FieldTrees}
use Rattle.lower_types.specs.declared.Endianness.{Endianness}
use Rattle.ipc_base.specs.IdTrees.{IdTrees}
use Rattle.ipc_devices.specs.declared.fault.Fault.{Fault}
use Rattle.ipc_table_bytes.specs.Encodes.{Encodes}
use Rattle.ipc_table_views.specs.declared.file.Block.{Block}
use Rattle.ipc_tables.specs.Files.{footer_slots}
use Rattle.ipc_tables.specs.declared.schema.KeyValue.{KeyValue}
use Rattle.ipc_tables.specs.declared.schema.Schema.{Schema as SchemaTable}
use Rattle.ipc_tables.proofs.Kept.{BlockFits}
use Rattle.ipc_model.specs.Writable.{IsWritable, file_weight}
use Rattle.ipc_schema_write.specs.Meanings.{Ascend, pairs_in}
use Rattle.ipc_schema_write.specs.WriterAnswers.{IsSchemaTable, max_weight}
use Rattle.ipc_footer_write.specs.Footers.{AnswersFooter, AreFew, MeansFooter, file_written, some_pairs}
use Rattle.ipc_footer_write.proofs.FooterReads.{footer-means}
use Rattle.ipc_footer_write.proofs.FooterSizes.{footer_of, footer-short}

module _ (order : Endianness) (fs : FieldTrees) (es : Pairs) (is : IdTrees) (pairs : Pairs) where
  pub footer-answers : (dictionaries blocks : List Block) (s : SchemaTable) (ds bs : Vec Block Global) (o : Option (Vec KeyValue Global)) (r : Result (Vec ℕ Global) Fault)
      → IsWritable fs es is → IsSchemaTable order s fs es is → file_weight fs es pairs ≤ max_weight → AreFew dictionaries blocks
      → ds.items ≡ dictionaries → All BlockFits ds.items → bs.items ≡ blocks → All BlockFits bs.items
      → option_map (λ v. pairs_in v.items) o ≡ some_pairs pairs → Ascend pairs
      → Encodes r (footer_slots (footer_of s ds bs o)) → AnswersFooter order r fs es is pairs dictionaries blocks
  footer-answers dictionaries blocks s ds bs o (Ok bytes) writable means light few ds_are ds_fit bs_are bs_fit pairs_are up encoded = record {
    writable = record { schema = writable; light = light };
    few = few;
    means = subst (λ (xs : List Block). MeansFooter bytes.items (file_written order fs es is pairs xs blocks)) ds_are
        (subst (λ (xs : List Block). MeansFooter bytes.items (file_written order fs es is pairs ds.items xs)) bs_are
        (footer-means order fs es is pairs s ds bs o means ds_fit bs_fit pairs_are up bytes.items encoded));
    written = record { footer = footer_of s ds bs o; version = refl; dictionaries_are = ap Some ds_are; blocks_are = ap Some bs_are; pairs_are = pairs_are; encoding = encoded };
  }
  footer-answers dictionaries blocks s ds bs o (Err e) writable means light few ds_are ds_fit bs_are bs_fit pairs_are up (inl memory) = rw memory tt
  footer-answers dictionaries blocks s ds bs o (Err e) writable means light few ds_are ds_fit bs_are bs_fit pairs_are up (inr (large, long)) = absurd (
      let small = subst (λ (xs : List Block). AreFew xs bs.items) (sym ds_are) (subst (λ (xs : List Block). AreFew dictionaries xs) (sym bs_are) few) in
      let short = footer-short s ds bs o fs es pairs means.weighs pairs_are light small in
      omega (arith, short, long))
