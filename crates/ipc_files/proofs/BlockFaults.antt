-- Why the message at a block is refused.
use Rattle.std.proofs.Common.{◌≡◌, ℕ, ◌<◌, ◌≤◌, ◌^◌, List, drop, Option, None, Some, Result, Ok, Err, IfErr, refl, sym, ap, subst, ◌∙◌}
use Rattle.std.proofs.lemmas.Bool.{le-ltb, lt-ltb}
use Rattle.std.specs.Option.{IsSomeAnd, ok_or}
use Rattle.ipc_devices.proofs.Claims.{claimed, claims_own, claims_through}
use Rattle.ipc_devices.specs.Faults.{OwnFault}
use Rattle.ipc_devices.specs.declared.fault.Fault.{Fault}
use Rattle.ipc_devices.specs.declared.fault.Fault.TheVariants.{Ended, OutOfSpec}
use Rattle.ipc_devices.specs.declared.fault.OutOfSpecKind.{OutOfSpecKind}
use Rattle.ipc_table_views.specs.Spot.{Spot}
use Rattle.ipc_table_views.specs.Unions.{header_parts}
use Rattle.ipc_table_views.specs.declared.file.Block.{Block}
use Rattle.ipc_table_views.specs.declared.message.MessageHeaderRef.{MessageHeaderRef}
use Rattle.ipc_table_views.specs.declared.message.MessageHeaderRef.TheVariants as headers
use Rattle.ipc_model.specs.Batches.{extra_of, kinds}
use Rattle.ipc_model.specs.Files.{Placed, BlockHeader, FileMetadata, placed}
use Rattle.ipc_model.specs.Frame.{frame}
use Rattle.ipc_files.specs.declared.read.file.block.BlockMessage.{BlockMessage}
use Rattle.ipc_files.specs.Batches.{BlamesRecord, needed_record}
use Rattle.ipc_read.specs.Headers.{answered_as}
use Rattle.ipc_files.specs.Blocks.{MessageReason, block_message, frame_fault, message_seen, needed_kind, opened_message, placed_message, prefix_of, result_and_then, stated_metadata}
use Rattle.ipc_files.specs.Dictionaries.{BlamesValues, needed_dictionary}
use Rattle.ipc_read.specs.DictionaryBatches.{BlamesDictionary, TellsValues}
use Rattle.ipc_read.specs.Refusals.{IsFaultOfBatch, TellsBatch}

-- ---- a message that isn't there

module _ (negative : OutOfSpecKind) (o : Option ℕ) where
  pub no-prefix : (e : Fault) → OwnFault e (e ≡ Ended) → OwnFault e (o ≡ None) → OwnFault e (e ≡ frame_fault negative o)
  no-prefix e ended h =
      claims_own e (e ≡ Ended) (e ≡ frame_fault negative o) (λ is. claims_through e (o ≡ None) (e ≡ frame_fault negative o) (λ none. is ∙ ap (frame_fault negative) (sym none)) h) ended

  pub length-below-0 : (n : ℕ) → o ≡ Some n → 2 ^ 31 ≤ n → OutOfSpec negative ≡ frame_fault negative o
  length-below-0 n is large =
      let below : frame_fault negative (Some n) ≡ OutOfSpec negative = rw (le-ltb n (2 ^ 31) large) refl in
      sym (ap (frame_fault negative) is ∙ below)

  pub less-than-stated : (n : ℕ) (e : Fault) → o ≡ Some n → n < 2 ^ 31 → OwnFault e (e ≡ Ended) → OwnFault e (e ≡ frame_fault negative o)
  less-than-stated n e is small h =
      let ends : frame_fault negative (Some n) ≡ Ended = rw (lt-ltb n (2 ^ 31) small) refl in
      claims_through e (e ≡ Ended) (e ≡ frame_fault negative o) (λ ended. ended ∙ sym (ap (frame_fault negative) is ∙ ends)) h

-- ---- the kind of a message

abbrev header-of : MessageHeaderRef → ℕ → BlockHeader
header-of u extra = record { tag = (header_parts u).0; table = (header_parts u).1; extra = extra }

record-tag : (u : MessageHeaderRef) (extra : ℕ) → needed_kind 3 (header-of u extra) ≡ answered_as (λ (t : Spot). header-of u extra) (needed_record u)
record-tag (headers.Schema t) extra = refl
record-tag (headers.DictionaryBatch t) extra = refl
record-tag (headers.RecordBatch t) extra = refl
record-tag (headers.Tensor t) extra = refl
record-tag (headers.SparseTensor t) extra = refl

dictionary-tag : (u : MessageHeaderRef) (extra : ℕ) → needed_kind 2 (header-of u extra) ≡ answered_as (λ (t : Spot). header-of u extra) (needed_dictionary u)
dictionary-tag (headers.Schema t) extra = refl
dictionary-tag (headers.DictionaryBatch t) extra = refl
dictionary-tag (headers.RecordBatch t) extra = refl
dictionary-tag (headers.Tensor t) extra = refl
dictionary-tag (headers.SparseTensor t) extra = refl

pub record-kind : (x : BlockMessage) (r : Result Spot Fault) → r ≡ needed_record x.header → needed_kind 3 (message_seen x) ≡ answered_as (λ (t : Spot). message_seen x) r
record-kind x r is = record-tag x.header (extra_of x.version) ∙ ap (answered_as (λ (t : Spot). message_seen x)) (sym is)

pub dictionary-kind : (x : BlockMessage) (r : Result Spot Fault) → r ≡ needed_dictionary x.header → needed_kind 2 (message_seen x) ≡ answered_as (λ (t : Spot). message_seen x) r
dictionary-kind x r is = dictionary-tag x.header (extra_of x.version) ∙ ap (answered_as (λ (t : Spot). message_seen x)) (sym is)

-- The table of the header that it must be.
pub record-table : (u : MessageHeaderRef) (t : Spot) → Ok t ≡ needed_record u → t ≡ (header_parts u).1
record-table (headers.Schema s) t is = absurd cc
record-table (headers.DictionaryBatch s) t is = absurd cc
record-table (headers.RecordBatch s) t is = cc
record-table (headers.Tensor s) t is = absurd cc
record-table (headers.SparseTensor s) t is = absurd cc

dictionary-table : (u : MessageHeaderRef) (t : Spot) → Ok t ≡ needed_dictionary u → t ≡ (header_parts u).1
dictionary-table (headers.Schema s) t is = absurd cc
dictionary-table (headers.DictionaryBatch s) t is = cc
dictionary-table (headers.RecordBatch s) t is = absurd cc
dictionary-table (headers.Tensor s) t is = absurd cc
dictionary-table (headers.SparseTensor s) t is = absurd cc

-- ---- the message at a block

module _ (tag : ℕ) (numbers negative : OutOfSpecKind) (source : List ℕ) {o : Option Block} {b : Block} (listed : o ≡ Some b) (P : BlockHeader → Fault → Type 0) where
  abbrev header-at : Result BlockHeader Fault
  header-at = block_message tag numbers negative source b

  abbrev Reason : Option Block → Fault → Type 0
  Reason y e = IsSomeAnd y (λ (x : Block). MessageReason (block_message tag numbers negative source x) P e)

  -- The error in it.
  in-message : (e : Fault) → header-at ≡ Err e → Reason o e
  in-message e is = subst (λ (y : Option Block). Reason y e) (sym listed) (subst (λ (m : Result BlockHeader Fault). MessageReason m P e) (sym is) refl)

  placed-is : (y : Option Placed) → placed b ≡ y → header-at ≡ result_and_then (placed_message tag negative source) (ok_or y (OutOfSpec numbers))
  unfolding block_message
  placed-is y is = ap (λ (x : Option Placed). result_and_then (placed_message tag negative source) (ok_or x (OutOfSpec numbers))) is

  pub unplaced : (e : Fault) → OwnFault e (placed b ≡ None) → e ≡ OutOfSpec numbers → OwnFault e (Reason o e)
  unplaced e h is = claims_through e (placed b ≡ None) (Reason o e) (λ none. in-message e (placed-is None none ∙ ap Err (sym is))) h

  module _ (p : Placed) (stands : placed b ≡ Some p) where
    stated-is : (y : Option (List ℕ)) → stated_metadata (frame (drop p.message source)) ≡ y
        → header-at ≡ result_and_then (λ (metadata : List ℕ). result_and_then (needed_kind tag) (opened_message metadata)) (ok_or y (frame_fault negative (prefix_of (drop p.message source))))
    stated-is y is =
        placed-is (Some p) stands
        ∙ ap (λ (x : Option (List ℕ)). result_and_then (λ (metadata : List ℕ). result_and_then (needed_kind tag) (opened_message metadata)) (ok_or x (frame_fault negative (prefix_of (drop p.message source))))) is

    pub no-message : (e : Fault) → OwnFault e (stated_metadata (frame (drop p.message source)) ≡ None) → OwnFault e (e ≡ frame_fault negative (prefix_of (drop p.message source)))
        → OwnFault e (Reason o e)
    no-message e h why =
        claims_own e (stated_metadata (frame (drop p.message source)) ≡ None) (Reason o e)
        (λ none. claims_through e (e ≡ frame_fault negative (prefix_of (drop p.message source))) (Reason o e) (λ is. in-message e (stated-is None none ∙ ap Err (sym is))) why) h

    module _ (metadata : List ℕ) (framed : stated_metadata (frame (drop p.message source)) ≡ Some metadata) where
      pub ill-made : (e : Fault) → Err e ≡ opened_message metadata → OwnFault e (Reason o e)
      ill-made e is = claimed e (Reason o e) (in-message e (stated-is (Some metadata) framed ∙ ap (result_and_then (needed_kind tag)) (sym is)))

      module _ (h : BlockHeader) (opened : Ok h ≡ opened_message metadata) where
        kind-is : header-at ≡ needed_kind tag h
        kind-is = stated-is (Some metadata) framed ∙ ap (result_and_then (needed_kind tag)) (sym opened)

        pub other-kind : (e : Fault) → needed_kind tag h ≡ Err e → OwnFault e (Reason o e)
        other-kind e is = claimed e (Reason o e) (in-message e (kind-is ∙ is))

        pub in-batch : {X : Type 0} (r : Result X Fault) → needed_kind tag h ≡ Ok h → IfErr r (λ e. OwnFault e (P h e)) → IfErr r (λ e. OwnFault e (Reason o e))
        in-batch (Ok x) is why = tt
        in-batch (Err e) is why =
            subst (λ (y : Option Block). OwnFault e (Reason y e)) (sym listed)
            (subst (λ (m : Result BlockHeader Fault). OwnFault e (MessageReason m P e)) (sym (kind-is ∙ is)) why)

-- ---- the batch at a block

-- An error of the message, and what it says.
and-tells : {X : Type 0} (r : Result X Fault) (P Q : Fault → Type 0) → IfErr r (λ e. OwnFault e (P e)) → IfErr r Q → IfErr r (λ e. OwnFault e (P e × Q e))
and-tells (Ok x) P Q why told = tt
and-tells (Err e) P Q why told = claims_through e (P e) (P e × Q e) (λ is. (is, told)) why

module _ {X : Type 0} (m : FileMetadata) (x : BlockMessage) (t : Spot) (r : Result X Fault) where
  pub blames-record : (js : List ℕ) → Ok t ≡ needed_record x.header → IfErr r (λ e. OwnFault e (IsFaultOfBatch (kinds m.schema) js e)) → IfErr r (TellsBatch m.schema (extra_of x.version) t m.size)
      → IfErr r (λ e. OwnFault e (BlamesRecord m js (message_seen x) e))
  blames-record js is why told =
      let Tells : Spot → Fault → Type 0 = λ s e. TellsBatch m.schema (extra_of x.version) s m.size e in
      subst (λ (s : Spot). IfErr r (λ e. OwnFault e (IsFaultOfBatch (kinds m.schema) js e × Tells s e))) (record-table x.header t is) (and-tells r (IsFaultOfBatch (kinds m.schema) js) (Tells t) why told)

  pub blames-values : Ok t ≡ needed_dictionary x.header → IfErr r (λ e. OwnFault e (BlamesDictionary m.schema t e)) → IfErr r (TellsValues m.schema (extra_of x.version) t m.size)
      → IfErr r (λ e. OwnFault e (BlamesValues m (message_seen x) e))
  blames-values is why told =
      let Tells : Spot → Fault → Type 0 = λ s e. TellsValues m.schema (extra_of x.version) s m.size e in
      subst (λ (s : Spot). IfErr r (λ e. OwnFault e (BlamesDictionary m.schema s e × Tells s e))) (dictionary-table x.header t is) (and-tells r (BlamesDictionary m.schema t) (Tells t) why told)
