-- Messages at the blocks of a file.
use Rattle.std.proofs.Common.{◌≡◌, ℕ, suc, ℤ, pos, negsuc, ◌+◌, ◌^◌, ◌<◌, nat_eq, cond, Bool, true, false, List, [], ◌∷◌, ◌++◌, length, take, drop, Option, None, Some, option_and_then, Result, Ok, Err, refl, sym, ap, ap₂, ◌∙◌, arith, append_assoc, length-append}
use Rattle.std.proofs.lemmas.Bool.{eq-eqb}
use Rattle.std.proofs.lemmas.List.{drop_at}
use Rattle.ipc_devices.specs.declared.fault.TableFault.{TableFault}
use Rattle.ipc_table_views.specs.MessageSlots.{message_header, message_version, message_body_length, dictionary_batch_id, dictionary_batch_is_delta, dictionary_batch_data}
use Rattle.ipc_table_views.specs.Spot.{Spot}
use Rattle.ipc_table_views.specs.Tables.{root_at}
use Rattle.ipc_table_views.specs.declared.file.Block.{Block}
use Rattle.ipc_table_views.specs.declared.schema.Buffer.{Buffer}
use Rattle.ipc_model.proofs.Agreement.{agree_law}
use Rattle.ipc_model.proofs.Followed.{record_follow_law}
use Rattle.ipc_model.proofs.Given.{some-same, then-some}
use Rattle.ipc_model.proofs.Written.{written_frame}
use Rattle.ipc_model.specs.BatchLaws.{own_buffers, Agree}
use Rattle.ipc_model.specs.Batches.{Schema, kinds, Body, Lists, lists_of, entries_of, chosen, batch, record_meaning, Place, places, place_of, values_schema, with_values, values_meaning, batch_meaning, dictionary_meaning, extra_of}
use Rattle.ipc_model.specs.Entries.{bytes_from, part_at, Dictionaries, Limit}
use Rattle.ipc_model.specs.Files.{FileMetadata, front_metadata, Placed, placed_at, placed, metadata_at, BlockHeader, block_header, body_at, chunk_at, dictionaries_at}
use Rattle.ipc_model.specs.Frame.{frame}
use Rattle.ipc_model.specs.Kinds.{Kinds, count}
use Rattle.ipc_model.specs.Schemas.{made, present, given}
use Rattle.ipc_model.specs.Streams.{whole, Header, both_slots, header_at, header_of}
use Rattle.ipc_model.specs.WrittenLaws.{prefix}
use Rattle.ipc_stream_lemmas.specs.Blocks.{BodyStands, PlacedRecordLaw, PlacedDictionaryLaw, StandsAt, IsOfVersion, BlockRecordLaw, BlockDictionaryLaw}
use Rattle.ipc_stream_lemmas.specs.Messages.{message_bytes}
use Rattle.ipc_stream_lemmas.proofs.Agreeing.{map_alike}
use Rattle.ipc_stream_lemmas.proofs.Moving.{message_then}

-- ---- bytes after others

drop_past : (before bytes : List ℕ) (o : ℕ) → drop (length before + o) (before ++ bytes) ≡ drop o bytes
drop_past [] bytes o = let e : 0 + o ≡ o = omega arith in ap (λ (n : ℕ). drop n bytes) e
drop_past (x ∷ before) bytes o =
    let e : length (x ∷ before) + o ≡ suc (length before + o) = omega arith in
    ap (λ (n : ℕ). drop n (x ∷ (before ++ bytes))) e ∙ drop_past before bytes o

bytes_past : (before bytes : List ℕ) (o l : ℤ) → bytes_from bytes 0 o l ≡ bytes_from (before ++ bytes) (length before) o l
bytes_past before bytes (pos o) (pos l) =
    let e : 0 + o ≡ o = omega arith in
    ap (λ (n : ℕ). take l (drop n bytes)) e ∙ ap (take l) (sym (drop_past before bytes o))
bytes_past before bytes (pos o) (negsuc l) = refl
bytes_past before bytes (negsuc o) l = refl

part_past : (before bytes : List ℕ) (b : Buffer) → part_at bytes 0 b ≡ part_at (before ++ bytes) (length before) b
part_past before bytes b = ap (λ (xs : List ℕ). record { offset = b.offset; length = b.length; bytes = xs }) (bytes_past before bytes b.offset b.length)

-- ---- a body after others

abbrev past : List ℕ → List ℕ → Body
past before bytes = record { source = before ++ bytes; base = length before; size = length bytes }

agrees_past : (before bytes : List ℕ) (bs : List Buffer) (extra : ℕ) (ts : Kinds) (js : List ℕ) → Agree bs extra ts (whole bytes) (past before bytes) js
agrees_past before bytes bs extra ts [] = tt
agrees_past before bytes bs extra ts (j ∷ js) = (
  map_alike (part_at bytes 0) (part_at (before ++ bytes) (length before)) (part_past before bytes) (own_buffers bs extra ts j),
  agrees_past before bytes bs extra ts js,
)

lists_past : (schema : Schema) (extra : ℕ) (known : Dictionaries) (before bytes : List ℕ) (projection : Option (List ℕ)) (limit : Limit) (o : Option Lists)
    → option_and_then (λ (lists : Lists). batch (entries_of lists (whole bytes) schema.order extra known) (length bytes) schema projection limit) o
    ≡ option_and_then (λ (lists : Lists). batch (entries_of lists (past before bytes) schema.order extra known) (length bytes) schema projection limit) o
lists_past schema extra known before bytes projection limit None = refl
lists_past schema extra known before bytes projection limit (Some lists) =
    agree_law lists (whole bytes) (past before bytes) schema.order extra known schema projection limit refl
    (agrees_past before bytes lists.buffers extra (kinds schema) (chosen projection (count (kinds schema))))

record_past : (schema : Schema) (extra : ℕ) (known : Dictionaries) (before bytes : List ℕ) (t : Spot) (projection : Option (List ℕ)) (limit : Limit)
    → record_meaning schema extra known (whole bytes) t projection limit ≡ record_meaning schema extra known (past before bytes) t projection limit
unfolding record_meaning
record_past schema extra known before bytes t projection limit = lists_past schema extra known before bytes projection limit (lists_of t)

pub placed_record_law : PlacedRecordLaw
placed_record_law schema extra known y bytes t projection limit c p e =
    record_follow_law schema extra known (past p.before bytes) y t projection limit c
    (record { added = p.behind; source_then = p.source_is ∙ sym (append_assoc p.before bytes p.behind); base_same = p.base_is; size_grows = p.room })
    (sym (record_past schema extra known p.before bytes t projection limit) ∙ e)

-- ---- dictionaries

then_is : {A B : Type 0} (g : A → Option B) (o : Option A) (a : A) (c : B) → o ≡ Some a → g a ≡ Some c → option_and_then g o ≡ Some c
then_is g o a c e h = ap (option_and_then g) e ∙ h

values_placed : (schema : Schema) (extra : ℕ) (known after : Dictionaries) (y : Body) (bytes : List ℕ) (id : ℤ) (t : Spot) (p : Place) → BodyStands y bytes
    → values_meaning schema extra known (whole bytes) id t p ≡ Some after → values_meaning schema extra known y id t p ≡ Some after
values_placed schema extra known after y bytes id t p at e =
    let inner = values_schema p schema.order in
    let found = then-some (with_values known id p) (record_meaning inner extra known (whole bytes) t None None) after e in
    then_is (with_values known id p) (record_meaning inner extra known y t None None) found.0 after
    (placed_record_law inner extra known y bytes t None None found.0 at found.1) found.2

slots_placed : (schema : Schema) (extra : ℕ) (known after : Dictionaries) (y : Body) (bytes : List ℕ) (i : Result ℤ TableFault) (b : Result Bool TableFault) (v : Result (Option Spot) TableFault) → BodyStands y bytes
    → batch_meaning schema extra known (whole bytes) i b v ≡ Some after → batch_meaning schema extra known y i b v ≡ Some after
slots_placed schema extra known after y bytes (Ok id) (Ok false) (Ok (Some t)) at e =
    let found = then-some (values_meaning schema extra known (whole bytes) id t) (place_of (places schema.fields schema.ids) id) after e in
    then_is (values_meaning schema extra known y id t) (place_of (places schema.fields schema.ids) id) found.0 after found.1
    (values_placed schema extra known after y bytes id t found.0 at found.2)
slots_placed schema extra known after y bytes (Ok id) (Ok false) (Ok None) at e = absurd cc
slots_placed schema extra known after y bytes (Ok id) (Ok false) (Err z) at e = absurd cc
slots_placed schema extra known after y bytes (Ok id) (Ok true) v at e = absurd cc
slots_placed schema extra known after y bytes (Ok id) (Err z) v at e = absurd cc
slots_placed schema extra known after y bytes (Err z) b v at e = absurd cc

pub placed_dictionary_law : PlacedDictionaryLaw
unfolding dictionary_meaning
placed_dictionary_law schema extra known after y bytes t at e =
    slots_placed schema extra known after y bytes (dictionary_batch_id t) (dictionary_batch_is_delta t) (dictionary_batch_data t) at e

-- ---- blocks

abbrev place_in : List ℕ → List ℕ → Placed
place_in before metadata = record { message = length before; body = length before + length (prefix (length metadata) ++ metadata) }

block_placed : (m : FileMetadata) (source : List ℕ) (b : Block) (metadata body : List ℕ) → (at : StandsAt m source b metadata body) → placed b ≡ Some (place_in at.before metadata)
block_placed m source b metadata body at = ap₂ placed_at at.offset_is at.metadata_is

block_metadata : (m : FileMetadata) (source : List ℕ) (b : Block) (metadata body : List ℕ) → (at : StandsAt m source b metadata body) → 0 < length metadata → length metadata < 2 ^ 31
    → metadata_at source (place_in at.before metadata) ≡ Some metadata
block_metadata m source b metadata body at some short =
    let here : drop (length at.before) source ≡ prefix (length metadata) ++ (metadata ++ (body ++ at.behind)) =
    ap (drop (length at.before)) at.source_is ∙ drop_at at.before (message_bytes metadata body ++ at.behind) (length at.before) refl ∙ message_then metadata body at.behind in
    ap (λ (xs : List ℕ). front_metadata (frame xs)) here ∙ ap front_metadata (written_frame metadata (body ++ at.behind) some short)

block_body : (m : FileMetadata) (source : List ℕ) (b : Block) (metadata body : List ℕ) → (at : StandsAt m source b metadata body) → BodyStands (body_at m source (place_in at.before metadata)) body
block_body m source b metadata body at = record {
  before = at.before ++ (prefix (length metadata) ++ metadata);
  behind = at.behind;
  source_is =
      at.source_is
      ∙ ap (λ (xs : List ℕ). at.before ++ xs) (message_then metadata body at.behind ∙ sym (append_assoc (prefix (length metadata)) metadata (body ++ at.behind)))
      ∙ sym (append_assoc at.before (prefix (length metadata) ++ metadata) (body ++ at.behind));
  base_is = sym (length-append at.before (prefix (length metadata) ++ metadata));
  room = at.room;
}

given_is : {A B : Type 0} (o : Option A) (f : A → Option B) (x : A) (y : B) → o ≡ Some x → f x ≡ Some y → given o f ≡ Some y
given_is o f x y e h = ap (λ (p : Option _). given p f) e ∙ h

-- a file reads the header as a stream does
both_parts : (a : Result (Option (ℕ × Spot)) TableFault) (b : Result ℤ TableFault) (header : Header) → both_slots a b ≡ Some header → present a ≡ Some (header.tag, header.table)
both_parts (Ok (Some (tag, table))) (Ok (pos n)) header e = ap (λ (x : Header). Some (x.tag, x.table)) (some-same (record { tag = tag; table = table; body = n }) header e)
both_parts (Ok (Some u)) (Ok (negsuc n)) header e = absurd cc
both_parts (Ok (Some u)) (Err z) header e = absurd cc
both_parts (Ok None) b header e = absurd cc
both_parts (Err z) b header e = absurd cc

header_same : (metadata : List ℕ) (header : Header) (extra : ℕ) → header_of metadata ≡ Some header → IsOfVersion metadata extra
    → block_header metadata ≡ Some (record { tag = header.tag; table = header.table; extra = extra })
unfolding header_of block_header
header_same metadata header extra e v =
    let slots : both_slots (message_header v.root) (message_body_length v.root) ≡ Some header = ap header_at (sym v.root_is) ∙ e in
    let u : ℕ × Spot = (header.tag, header.table) in
    let found : BlockHeader = record { tag = header.tag; table = header.table; extra = extra } in
    given_is (made (root_at metadata)) _ v.root found (ap made v.root_is)
    (given_is (present (message_header v.root)) _ u found (both_parts (message_header v.root) (message_body_length v.root) header slots)
    (given_is (made (message_version v.root)) _ v.version found (ap made v.version_is)
    (ap (λ (n : ℕ). Some (record { tag = header.tag; table = header.table; extra = n })) v.extra_is)))

chosen_is : {A : Type 0} (b : Bool) (x y z : A) → b ≡ true → x ≡ z → cond b x y ≡ z
chosen_is b x y z e f = ap (λ (t : Bool). cond t x y) e ∙ f

pub block_record_law : BlockRecordLaw
unfolding chunk_at
block_record_law m h s source b metadata body c same at w v =
    let p = place_in at.before metadata in
    let head : BlockHeader = record { tag = w.header.tag; table = w.header.table; extra = extra_of h.version } in
    given_is (placed b) _ p c (block_placed m source b metadata body at)
    (given_is (metadata_at source p) _ metadata c (block_metadata m source b metadata body at w.some w.short)
    (given_is (block_header metadata) _ head c (header_same metadata w.header (extra_of h.version) w.headed v)
    (chosen_is (nat_eq w.header.tag 3) _ None (Some c) (eq-eqb w.header.tag 3 w.tag)
    (placed_record_law m.schema (extra_of h.version) s.dictionaries (body_at m source p) body w.header.table None None c (block_body m source b metadata body at)
    (ap (λ (x : Schema). record_meaning x (extra_of h.version) s.dictionaries (whole body) w.header.table None None) same ∙ w.means)))))

pub block_dictionary_law : BlockDictionaryLaw
unfolding dictionaries_at
block_dictionary_law m h s source b metadata body id d same at w v =
    let p = place_in at.before metadata in
    let head : BlockHeader = record { tag = w.header.tag; table = w.header.table; extra = extra_of h.version } in
    let after : Dictionaries = (id, d) ∷ s.dictionaries in
    given_is (placed b) _ p after (block_placed m source b metadata body at)
    (given_is (metadata_at source p) _ metadata after (block_metadata m source b metadata body at w.some w.short)
    (given_is (block_header metadata) _ head after (header_same metadata w.header (extra_of h.version) w.headed v)
    (chosen_is (nat_eq w.header.tag 2) _ None (Some after) (eq-eqb w.header.tag 2 w.tag)
    (placed_dictionary_law m.schema (extra_of h.version) s.dictionaries after (body_at m source p) body w.header.table (block_body m source b metadata body at)
    (ap (λ (x : Schema). dictionary_meaning x (extra_of h.version) s.dictionaries (whole body) w.header.table) same ∙ w.means)))))
