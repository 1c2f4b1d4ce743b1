-- How many bytes a footer takes, by the weight of its schema and its pairs.
use Rattle.std.proofs.Common.{◌≡◌, ℕ, ◌+◌, ◌*◌, ◌^◌, ◌<◌, ◌≤◌, List, [], ◌∷◌, length, map, Option, None, Some, ap, refl, arith, Vec, Global}
use Rattle.std.specs.Prelude.{option_map, pos, string_bytes}
use Rattle.lower.specs.TypeTrees.{Pairs, FieldTrees}
use Rattle.ipc_table_bytes.specs.Readers.{parts_of}
use Rattle.ipc_table_bytes.specs.Sizes.{message_size, parts_size, size_of}
use Rattle.ipc_table_bytes.specs.Tree.{table, text}
use Rattle.ipc_table_bytes.proofs.ReaderLaws.{count-map}
use Rattle.ipc_table_views.specs.declared.file.Block.{Block}
use Rattle.ipc_table_views.specs.declared.schema.MetadataVersion.TheVariants.{V5}
use Rattle.ipc_tables.specs.ElementLaws.{length-block}
use Rattle.ipc_tables.specs.Files.{block_bytes, blocks_part, footer_slots}
use Rattle.ipc_tables.specs.Schemas.{pair_part, pairs_vector, schema_slots}
use Rattle.ipc_tables.specs.Weights.{pairs_weight as tables_weight, schema_weight}
use Rattle.ipc_tables.specs.declared.file.Footer.{Footer}
use Rattle.ipc_tables.specs.declared.message.MessageHeader.TheVariants.{Schema as a_schema}
use Rattle.ipc_tables.specs.declared.schema.KeyValue.{KeyValue}
use Rattle.ipc_tables.specs.declared.schema.Schema.{Schema as SchemaTable}
use Rattle.ipc_tables.proofs.Lengths.{length-elements}
use Rattle.ipc_tables.proofs.WeightLaws.{schema-weighs}
use Rattle.ipc_model.specs.Writable.{file_weight, pairs_weight, weight}
use Rattle.ipc_schema_write.specs.Meanings.{pairs_in}
use Rattle.ipc_schema_write.specs.WriterAnswers.{max_weight}
use Rattle.ipc_schema_write.proofs.Pairs.{tables-weigh}
use Rattle.ipc_footer_write.specs.Footers.{AreFew, some_pairs}

-- the footer of a table, of blocks and of pairs that may be left out
abbrev pub footer_of : SchemaTable → Vec Block Global → Vec Block Global → Option (Vec KeyValue Global) → Footer
footer_of s dictionaries blocks pairs = record { version = V5; schema = Some s; dictionaries = Some dictionaries; record_batches = Some blocks; custom_metadata = pairs }

-- the table of a schema alone
schema-size : (s : SchemaTable) → size_of (table (schema_slots s)) + 72 ≤ schema_weight s
schema-size s = omega (arith, schema-weighs (record { version = V5; header = a_schema s; body_length = pos 0; custom_metadata = None }) s refl refl)

blocks-size : (bs : List Block) → size_of (blocks_part bs) ≡ 8 + 24 * length bs
blocks-size bs = omega (arith, length-elements block_bytes 24 length-block bs)

text-size : (s : List ℕ) → size_of (text s) ≤ length s + 12
text-size s = omega arith

pair-sizes : (ps : List KeyValue) → parts_size (parts_of (map pair_part ps)) + 4 * length ps ≤ tables_weight ps
pair-sizes [] = omega arith
pair-sizes (p ∷ ps) = omega (arith, text-size (string_bytes p.key), text-size (string_bytes p.value), pair-sizes ps)

vector-size : (ps : List KeyValue) → size_of (pairs_vector ps) ≤ 8 + pairs_weight (pairs_in ps)
vector-size ps = omega (arith, count-map pair_part ps, pair-sizes ps, tables-weigh ps)

-- Pairs that are present.
pub some-same : (ps es : Pairs) → Some ps ≡ some_pairs es → ps ≡ es
some-same ps [] is = cc
some-same ps (e ∷ es) is = cc

-- the footer with its pairs
footer-size : (s : SchemaTable) (ds bs : Vec Block Global) (o : Option (Vec KeyValue Global)) (es : Pairs) → option_map (λ v. pairs_in v.items) o ≡ some_pairs es
    → message_size (footer_slots (footer_of s ds bs o)) ≤ schema_weight s + pairs_weight es + 24 * (length ds.items + length bs.items) + 24
footer-size s ds bs None es is = omega (arith, schema-size s, blocks-size ds.items, blocks-size bs.items)
footer-size s ds bs (Some ps) es is = omega (arith, schema-size s, blocks-size ds.items, blocks-size bs.items, vector-size ps.items, ap pairs_weight (some-same (pairs_in ps.items) es is))

-- a footer of a file that can be written is short enough
pub footer-short : (s : SchemaTable) (ds bs : Vec Block Global) (o : Option (Vec KeyValue Global)) (fs : FieldTrees) (es pairs : Pairs)
    → schema_weight s ≡ weight fs es → option_map (λ v. pairs_in v.items) o ≡ some_pairs pairs → file_weight fs es pairs ≤ max_weight → AreFew ds.items bs.items
    → message_size (footer_slots (footer_of s ds bs o)) < 2 ^ 31
footer-short s ds bs o fs es pairs weighs is light few = omega (arith, footer-size s ds bs o pairs is, weighs, light, few)
