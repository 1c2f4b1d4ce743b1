-- The state of a writer that appends to a file.
use Rattle.std.proofs.Common.{◌≡◌, ◌⊎◌, inl, inr, None, ℕ, ℤ, ◌+◌, ◌-◌, ◌^◌, ◌<◌, ◌≤◌, max, Bool, IsTrue, false, List, [], ◌∷◌, ◌++◌, length, map, take, Some, Option, refl, sym, ap, ap₂, ◌∙◌, subst, append-nil, arith, length-append, length-take-le}
use Rattle.std.proofs.lemmas.List.{take-take, take_at}
use Rattle.std.proofs.Math.Seq.{take-append-add}
use Rattle.lower.proofs.Laws.{norm_fields-norm_fields}
use Rattle.lower.specs.Normal.{norm_fields}
use Rattle.lower.specs.TypeTrees.{Pairs}
use Rattle.ipc_devices.specs.Device.{Device, GoesTo, Memory, before}
use Rattle.ipc_model.specs.Batches.{Chunk, Schema}
use Rattle.ipc_model.specs.Entries.{Dictionaries}
use Rattle.ipc_model.proofs.Given.{some-same}
use Rattle.ipc_model.specs.Files.{FileMetadata, all_of, dictionaries_after, file_dictionaries, metadata_of}
use Rattle.ipc_model.specs.Streams.{Head}
use Rattle.ipc_model.specs.Writable.{IsWritable, file_weight}
use Rattle.ipc_schema_write.specs.WriterAnswers.{max_weight}
use Rattle.ipc_devices.specs.Faults.{OwnFault}
use Rattle.ipc_devices.specs.declared.fault.ArgFault.TheVariants.{FieldsShape, NoRecordBlocks, NotWritable, TooLarge}
use Rattle.ipc_devices.specs.declared.fault.Fault.{Fault}
use Rattle.ipc_devices.specs.declared.fault.Fault.TheVariants.{Argument, Io, Memory as NoMemory, OutOfSpec}
use Rattle.ipc_devices.specs.declared.fault.OutOfSpecKind.TheVariants.{UnexpectedNegativeInteger}
use Rattle.ipc_stream_lemmas.specs.Agreement.{AreAlike}
use Rattle.ipc_stream_lemmas.specs.Remembered.{KnowsRemembered, Remembered}
use Rattle.ipc_write.specs.declared.stream.WriterState.TheVariants.{Started}
use Rattle.ipc_file_lemmas.proofs.Appending.{go_on_law, stay_law}
use Rattle.ipc_file_lemmas.proofs.NormalWritable.{file_weight_normal, writable_normal}
use Rattle.ipc_file_lemmas.specs.Appending.{HaveNegative, goes_on, greatest_end, normal_chunk, normal_schema}
use Rattle.ipc_file_lemmas.proofs.FileSteps.{grow_law, size_law}
use Rattle.ipc_file_lemmas.specs.FileBytes.{HoldsFile, HasStreamBehind, file_so_far}
use Rattle.ipc_footer_write.specs.Footers.{file_written}
use Rattle.ipc_table_views.specs.declared.file.Block.{Block}
use Rattle.ipc_file_write.specs.Appends.{GoesOn, GoesOnAgain, GoesOnWith, HasNoDictionaries, MayGoOn, RefusesFile, RefusesNoWhole, RefusesToGoOn, RemembersFile, resumed}
use Rattle.ipc_file_write.specs.declared.prepared.Prepared.{Prepared}
use Rattle.ipc_file_write.specs.FileWriters.{FileSeen, HoldsBytes, IsOpenFile, IsWholeFile, head_of_file}
use Rattle.ipc_file_write.proofs.FileHeads.{IsHeaded, is_headed}
use Rattle.ipc_file_write.proofs.FileStates.{at_state, remembers_same, stream_same}

-- The bytes before an offset that is inside.
before_inside : (m m' : Memory) (p : ℕ) → GoesTo m m' p → p ≤ length m.whole → before m' ≡ take p m.whole
before_inside m m' p at inside =
    let zero_byte : ℕ = 0 in
    let none : p - length m.whole ≡ 0 = omega (arith, inside) in
    rw (at.whole, at.place, none) (append-nil (take p m.whole))

-- The remembered dictionaries are those of the file.
knows : (m : FileMetadata) (bytes : List ℕ) (r : Remembered) (known : Dictionaries) → RemembersFile m bytes r → file_dictionaries m bytes ≡ Some known → KnowsRemembered r known
knows m bytes r known h is =
    let alike : AreAlike (Some known) (Some h.found) = subst (λ (o : Option Dictionaries). AreAlike o (Some h.found)) is h.alike in
    record { each = λ id. alike.each id ∙ sym (h.each id) }

pub inside_file : (m : FileMetadata) (bytes : List ℕ) → IsHeaded bytes m → goes_on m ≤ length bytes
inside_file m bytes h = omega (arith, h.size, h.long)

pub schema_same : {W : Type 0} (m : FileMetadata) (w : FileSeen W) → w.order ≡ m.schema.order → w.fields ≡ m.schema.fields → w.metadata ≡ m.schema.metadata → w.ids ≡ m.schema.ids
    → (head_of_file w).schema ≡ normal_schema m.schema
schema_same m w order fields metadata ids = rw (order, fields, metadata, ids) refl

-- a resumed writer has the device that was prepared
pub same_failures : {W : Type 0} (failures : W → ℕ) (w : FileSeen W) (device : W) (p : Prepared) → w ≡ resumed device p → failures w.device ≡ failures device
same_failures {W = W} failures w device p e = ap (λ (x : FileSeen W). failures x.device) e

-- The same of the names of the device.
pub same_names : {W : Type 0} (names : W → List ℕ) (w : FileSeen W) (device : W) (p : Prepared) → w ≡ resumed device p → names w.device ≡ names device
same_names {W = W} names w device p e = ap (λ (x : FileSeen W). names x.device) e

-- After a file of some chunks, with the schema in the normal form.
pub goes_on_with : {W : Type 0} (d : Device W) (m : FileMetadata) (device : W) (w : FileSeen W) → GoesOn d m device w → GoesOnWith d m device w
goes_on_with d m device w g k is dictionaries cs means =
    let bytes = (d.memory device).whole in
    let p = goes_on m in
    let front = take p bytes in
    let headed = is_headed bytes m is in
    let inside : p ≤ length bytes = inside_file m bytes headed in
    let long : length front ≡ p = length-take-le p bytes inside in
    let whole = stay_law m bytes bytes dictionaries cs refl means in
    let just = knows m bytes w.remembers dictionaries (g.remembers k) whole.dictionaries in
    let file = go_on_law m bytes dictionaries w.remembers cs just means in
    let open_file : IsOpenFile false w front (map normal_chunk cs) = record {
      writable = rw (g.fields, g.metadata, g.ids) g.may.writable;
      light = rw (g.fields, g.metadata, g.pairs) g.may.light;
      begun = take-take 6 p bytes (omega arith) ∙ headed.head;
      long = omega (arith, long);
      file =
          rw (g.dictionaries, g.blocks, g.size)
          (subst (λ (s : Schema). HoldsFile s m.size front m.dictionaries m.blocks w.remembers (map normal_chunk cs)) (sym (schema_same m w g.order g.fields g.metadata g.ids)) file);
      stream = λ is_one. absurd cc;
      place = g.place ∙ sym long;
      natural = rw (g.dictionaries, g.blocks) g.may.natural;
      reached = λ some. rw (g.place, g.dictionaries, g.blocks) (omega arith);
      last = λ is_one. absurd cc;
    } in
    record {
      bytes = front;
      held = before_inside (d.memory device) (d.memory w.device) p (g.stands k) inside;
      file = at_state false Started w.state w front (map normal_chunk cs) (sym g.state) open_file;
    }

-- ---- after a file that another writer finished

pub some-block : (bs : List Block) → (bs ≡ [] → ⊥) → 0 < length bs
some-block [] h = absurd (h refl)
some-block (b ∷ bs) h = omega arith

-- The head is the same, in the normal form.
head_again : {V W : Type 0} (a : FileSeen V) (w : FileSeen W) → w.order ≡ a.order → w.fields ≡ norm_fields a.fields → w.metadata ≡ a.metadata → w.ids ≡ a.ids → head_of_file a ≡ head_of_file w
head_again a w order fields metadata ids = rw (order, fields, metadata, ids, norm_fields-norm_fields a.fields) refl

dictionaries-at : (schema : Schema) (pairs : Pairs) (ds bs : List Block) (n size : ℕ) (xs bytes : List ℕ) (known : Dictionaries) → xs ≡ bytes → n ≡ size
    → dictionaries_after (file_so_far schema pairs ds bs n) (all_of xs) [] ds ≡ Some known → dictionaries_after (file_so_far schema pairs ds bs size) (all_of bytes) [] ds ≡ Some known
dictionaries-at schema pairs ds bs n size xs bytes known e f h =
    subst (λ (ys : List ℕ). dictionaries_after (file_so_far schema pairs ds bs size) (all_of ys) [] ds ≡ Some known) e
    (subst (λ (k : ℕ). dictionaries_after (file_so_far schema pairs ds bs k) (all_of xs) [] ds ≡ Some known) f h)

-- The bytes before an offset that is after the front.
taken : (p : ℕ) (bytes front behind : List ℕ) → bytes ≡ front ++ behind → length front ≤ p → take p bytes ≡ front ++ take (p - length front) behind
taken p bytes front behind parts far =
    let at : p ≡ length front + (p - length front) = omega (arith, far) in
    ap (take p) parts ∙ ap (λ (k : ℕ). take k (front ++ behind)) at ∙ take-append-add front behind (p - length front)

module _ {W : Type 0} (d : Device W) (m : FileMetadata) (device : W) (w : FileSeen W) (a : FileSeen (Unit {0})) (is_stream : Bool) (cs : List Chunk) (g : GoesOn d m device w) (k : IsTrue d.is_memory)
    (is : metadata_of (d.memory device).whole ≡ Some m) (h : IsWholeFile is_stream a (d.memory device).whole cs) where
  abbrev bytes : List ℕ
  bytes = (d.memory device).whole

  open_front : IsOpenFile is_stream a h.front cs
  open_front = h.open_front

  metadata-is : file_written a.order a.fields a.metadata a.ids a.pairs a.dictionaries a.blocks (length bytes) ≡ m
  metadata-is = some-same _ m (sym h.file.means.metadata ∙ is)

  pub same_head : head_of_file a ≡ head_of_file w
  same_head =
      head_again a w (g.order ∙ sym (ap (λ (x : FileMetadata). x.schema.order) metadata-is)) (g.fields ∙ sym (ap (λ (x : FileMetadata). x.schema.fields) metadata-is))
      (g.metadata ∙ sym (ap (λ (x : FileMetadata). x.schema.metadata) metadata-is)) (g.ids ∙ sym (ap (λ (x : FileMetadata). x.schema.ids) metadata-is))

  same-dictionaries : m.dictionaries ≡ a.dictionaries
  same-dictionaries = sym (ap (λ (x : FileMetadata). x.dictionaries) metadata-is)

  same-blocks : m.blocks ≡ a.blocks
  same-blocks = sym (ap (λ (x : FileMetadata). x.blocks) metadata-is)

  same-ends : greatest_end (m.dictionaries ++ m.blocks) ≡ greatest_end (a.dictionaries ++ a.blocks)
  same-ends = ap₂ (λ (ds bs : List Block). greatest_end (ds ++ bs)) same-dictionaries same-blocks

  size-is : m.size ≡ length bytes
  size-is = sym (ap (λ (x : FileMetadata). x.size) metadata-is)

  longer : length bytes ≡ length h.front + length h.behind
  longer = ap length h.bytes_are ∙ length-append h.front h.behind

  far : length h.front ≤ goes_on m
  far =
      let some : 0 < length a.blocks = subst (λ (bs : List Block). 0 < length bs) same-blocks (some-block m.blocks g.may.some_blocks) in
      omega (arith, open_front.reached some, same-ends, open_front.place, open_front.long, size-is, longer)

  inside-bytes : goes_on m ≤ length bytes
  inside-bytes = inside_file m bytes (is_headed bytes m is)

  abbrev more : List ℕ
  more = take (goes_on m - length h.front) h.behind

  front-then : take (goes_on m) bytes ≡ h.front ++ more
  front-then = taken (goes_on m) bytes h.front h.behind h.bytes_are far

  remembers-same : (id : ℤ) → w.remembers id ≡ a.remembers id
  remembers-same id =
      let schema = (head_of_file a).schema in
      let grown = grow_law schema a.size h.front h.behind a.dictionaries a.blocks a.remembers cs open_front.file in
      let has = grown.chunks a.pairs in
      let size : max a.size (length (h.front ++ h.behind)) ≡ length bytes = omega (arith, h.long, ap length h.bytes_are) in
      let means = dictionaries-at schema a.pairs a.dictionaries a.blocks (max a.size (length (h.front ++ h.behind))) (length bytes) (h.front ++ h.behind) bytes has.known (sym h.bytes_are) size has.blocks.dictionaries in
      let found : file_dictionaries m bytes ≡ Some has.known = subst (λ (x : FileMetadata). file_dictionaries x bytes ≡ Some has.known) metadata-is means in
      let just = knows m bytes w.remembers has.known (g.remembers k) found in
      sym (just.each id) ∙ has.agrees.each id

  file-then : HoldsFile (head_of_file w).schema w.size (take (goes_on m) bytes) w.dictionaries w.blocks w.remembers cs
  file-then =
      let schema = (head_of_file a).schema in
      let grown = grow_law schema a.size h.front more a.dictionaries a.blocks a.remembers cs open_front.file in
      let sized = size_law schema a.size (length bytes) (h.front ++ more) a.dictionaries a.blocks a.remembers cs h.long grown in
      let same = remembers_same schema (length bytes) (h.front ++ more) a.dictionaries a.blocks a.remembers w.remembers cs remembers-same sized in
      rw (g.dictionaries ∙ same-dictionaries, g.blocks ∙ same-blocks, g.size ∙ size-is, front-then)
      (subst (λ (x : Head). HoldsFile x.schema (length bytes) (h.front ++ more) a.dictionaries a.blocks w.remembers cs) same_head same)

  stream-then : IsTrue is_stream → HasStreamBehind (take (goes_on m) bytes) (head_of_file w) w.remembers cs
  stream-then is_one =
      let place : goes_on m ≡ length h.front = omega (arith, open_front.last is_one, same-ends, open_front.place, far, size-is, longer) in
      let whole : take (goes_on m) bytes ≡ h.front = ap (take (goes_on m)) h.bytes_are ∙ take_at h.front h.behind (goes_on m) (sym place) in
      stream_same h.front (take (goes_on m) bytes) (head_of_file a) (head_of_file w) a.remembers w.remembers cs cs (sym whole) same_head remembers-same refl (open_front.stream is_one)

  pub goes_on_again : HoldsBytes is_stream (d.memory w.device) w [] cs
  goes_on_again =
      let p = goes_on m in
      let front = take p bytes in
      let long : length front ≡ p = length-take-le p bytes inside-bytes in
      let open_file : IsOpenFile is_stream w front cs = record {
        writable = rw (g.fields, g.metadata, g.ids) g.may.writable;
        light = rw (g.fields, g.metadata, g.pairs) g.may.light;
        begun = take-take 6 p bytes (omega arith) ∙ (is_headed bytes m is).head;
        long = omega (arith, long);
        file = file-then;
        stream = stream-then;
        place = g.place ∙ sym long;
        natural = rw (g.dictionaries, g.blocks) g.may.natural;
        reached = λ some. rw (g.place, g.dictionaries, g.blocks) (omega arith);
        last = λ is_one. rw (g.place, g.dictionaries, g.blocks) (omega (arith, open_front.last is_one, same-ends, open_front.place, size-is, longer));
      } in
      record {
        bytes = front;
        held = before_inside (d.memory device) (d.memory w.device) p (g.stands k) inside-bytes;
        file = at_state is_stream Started w.state w front cs (sym g.state) open_file;
      }

pub goes_on_any : {W : Type 0} (d : Device W) (m : FileMetadata) (device : W) (w : FileSeen W) → GoesOn d m device w → GoesOnAgain d m device w
goes_on_any d m device w g k is is_stream a cs h = goes_on_again d m device w a is_stream cs g k is h

-- ---- files that can be appended to

-- A file that was finished, has a block and isn't too long.
pub may_go_on : {W : Type 0} (m : FileMetadata) (a : FileSeen W) (is_stream : Bool) (bytes : List ℕ) (cs : List Chunk) → metadata_of bytes ≡ Some m → IsWholeFile is_stream a bytes cs → (m.blocks ≡ [] → ⊥) → m.size < 2 ^ 63 → MayGoOn m
may_go_on m a is_stream bytes cs is h some short =
    let same : file_written a.order a.fields a.metadata a.ids a.pairs a.dictionaries a.blocks (length bytes) ≡ m = some-same _ m (sym h.file.means.metadata ∙ is) in
    let open_front : IsOpenFile is_stream a h.front cs = h.open_front in
    let light : file_weight (norm_fields a.fields) a.metadata a.pairs ≤ max_weight = omega (arith, open_front.light, file_weight_normal a.fields a.metadata a.pairs) in
    record {
      some_blocks = some;
      natural = subst (λ (x : FileMetadata). HaveNegative (x.dictionaries ++ x.blocks) → ⊥) same open_front.natural;
      short = short;
      writable = subst (λ (x : FileMetadata). IsWritable x.schema.fields x.schema.metadata x.schema.ids) same (writable_normal a.fields a.metadata a.ids open_front.writable);
      light = subst (λ (x : FileMetadata). file_weight x.schema.fields x.schema.metadata x.pairs ≤ max_weight) same light;
    }

-- Such a file is refused only by errors of allocation and of the device.
refuses_not : (m : FileMetadata) (e : Fault) → OwnFault e (MayGoOn m → RefusesToGoOn m e → ⊥)
refuses_not m (Argument NoRecordBlocks) = λ may h. may.some_blocks h
refuses_not m (OutOfSpec UnexpectedNegativeInteger) = λ may h. may.natural h
refuses_not m (Argument TooLarge) = λ may h. elim h [ inl long ↦ absurd (let short = may.short in omega (arith, long, short)) | inr heavy ↦ heavy may.light ]
refuses_not m (Argument FieldsShape) = λ may h. h may.writable.fits
refuses_not m (Argument NotWritable) = λ may h. h may.writable
refuses_not m NoMemory = tt
refuses_not m (Io x) = tt
refuses_not m _ = λ may h. absurd h

own-two : (e : Fault) (P Q R : Type 0) → (P → Q → R) → OwnFault e P → OwnFault e Q → OwnFault e R
own-two NoMemory P Q R f p q = tt
own-two (Io x) P Q R f p q = tt
own-two _ P Q R f p q = f p q

has-dictionaries : {W : Type 0} (m : FileMetadata) (a : FileSeen W) (is_stream : Bool) (bytes : List ℕ) (cs : List Chunk) → metadata_of bytes ≡ Some m → IsWholeFile is_stream a bytes cs → file_dictionaries m bytes ≡ None → ⊥
has-dictionaries m a is_stream bytes cs is h none =
    let same : file_written a.order a.fields a.metadata a.ids a.pairs a.dictionaries a.blocks (length bytes) ≡ m = some-same _ m (sym h.file.means.metadata ∙ is) in
    let there : file_dictionaries m bytes ≡ Some h.file.known = subst (λ (x : FileMetadata). file_dictionaries x bytes ≡ Some h.file.known) same h.file.means.dictionaries in
    let both : None ≡ Some h.file.known = sym none ∙ there in
    absurd cc

pub never_refused : {W : Type 0} (d : Device W) (m : FileMetadata) (device : W) (e : Fault) → RefusesFile d.is_memory m (d.memory device).whole e → RefusesNoWhole d m device e
never_refused d m device e h =
    own-two e (RefusesToGoOn m e ⊎ HasNoDictionaries d.is_memory m (d.memory device).whole e) (MayGoOn m → RefusesToGoOn m e → ⊥) _
    (λ reason not k is is_stream a cs whole some short.
    elim reason [
      | inl refused ↦ not (may_go_on m a is_stream (d.memory device).whole cs is whole some short) refused
      | inr lacks ↦ has-dictionaries m a is_stream (d.memory device).whole cs is whole (lacks.none k)
    ])
    h (refuses_not m e)
