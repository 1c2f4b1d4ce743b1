-- How many bytes of a block are read, also if it is refused.
use Rattle.std.proofs.Common.{◌≡◌, ℕ, zero, suc, ◌+◌, ◌<◌, ◌≤◌, Bool, IsTrue, List, [], ◌∷◌, length, take, drop, get_or, Option, None, Some, Result, Ok, Err, sym, ap, subst, ◌∙◌, arith, inl, inr}
use Rattle.std.specs.Prelude.{MatchOption}
use Rattle.std.specs.Option.{option_and_then}
use Rattle.ipc_devices.specs.declared.fault.Fault.{Fault}
use Rattle.ipc_table_views.specs.Spot.{Spot}
use Rattle.ipc_table_views.specs.Unions.{header_parts}
use Rattle.ipc_table_views.specs.declared.file.Block.{Block}
use Rattle.ipc_table_views.specs.declared.message.MessageHeaderRef.{MessageHeaderRef}
use Rattle.ipc_table_views.specs.declared.message.MessageHeaderRef.TheVariants as headers
use Rattle.ipc_model.specs.Batches.{Schema, extra_of, lists_of}
use Rattle.ipc_model.specs.Files.{Placed, BlockHeader, block_header, placed}
use Rattle.ipc_model.specs.Frame.{frame}
use Rattle.ipc_model.specs.Kinds.{Kinds}
use Rattle.ipc_files.specs.declared.read.file.block.BlockMessage.{BlockMessage}
use Rattle.ipc_files.specs.Batches.{BlockGiven, RefusedGiven, block_metadata, header_lists, needed_record}
use Rattle.ipc_files.specs.Blocks.{MessageGiven, PrefixGiven, message_seen, prefix_of, stated_metadata}
use Rattle.ipc_files.specs.Dictionaries.{NeedValues, RefusedValues, header_values, needed_dictionary, needed_values}
use Rattle.ipc_files.proofs.NeededValues.{GivenFor}
use Rattle.ipc_read.specs.DictionaryBatches.{values_listed}
use Rattle.ipc_read.specs.Sizes.{chosen_listed}

-- ---- what the buffers list, by the message that has been opened

abbrev header_with : MessageHeaderRef → ℕ → BlockHeader
header_with u extra = record { tag = (header_parts u).0; table = (header_parts u).1; extra = extra }

record_lists : (ts : Kinds) (js : List ℕ) (u : MessageHeaderRef) (extra : ℕ) (t : Spot) → Ok t ≡ needed_record u
    → header_lists ts js (Some (header_with u extra)) ≡ chosen_listed (lists_of t) extra ts js
record_lists ts js (headers.Schema s) extra t is = absurd cc
record_lists ts js (headers.DictionaryBatch s) extra t is = absurd cc
record_lists ts js (headers.RecordBatch s) extra t is =
    let same : s ≡ t = cc in ap (λ (x : Spot). chosen_listed (lists_of x) extra ts js) same
record_lists ts js (headers.Tensor s) extra t is = absurd cc
record_lists ts js (headers.SparseTensor s) extra t is = absurd cc

dictionary_lists : (schema : Schema) (u : MessageHeaderRef) (extra : ℕ) (t : Spot) → Ok t ≡ needed_dictionary u
    → header_values schema (Some (header_with u extra)) ≡ values_listed schema extra t
dictionary_lists schema (headers.Schema s) extra t is = absurd cc
dictionary_lists schema (headers.DictionaryBatch s) extra t is =
    let same : s ≡ t = cc in ap (λ (x : Spot). values_listed schema extra x) same
dictionary_lists schema (headers.RecordBatch s) extra t is = absurd cc
dictionary_lists schema (headers.Tensor s) extra t is = absurd cc
dictionary_lists schema (headers.SparseTensor s) extra t is = absurd cc

module _ (x : BlockMessage) (t : Spot) (metadata : List ℕ) (opened : block_header metadata ≡ Some (message_seen x)) where
  pub record_needs : (ts : Kinds) (js : List ℕ) → Ok t ≡ needed_record x.header
      → header_lists ts js (block_header metadata) ≡ chosen_listed (lists_of t) (extra_of x.version) ts js
  record_needs ts js is = ap (header_lists ts js) opened ∙ record_lists ts js x.header (extra_of x.version) t is

  pub dictionary_needs : (schema : Schema) → Ok t ≡ needed_dictionary x.header
      → header_values schema (block_header metadata) ≡ values_listed schema (extra_of x.version) t
  dictionary_needs schema is = ap (header_values schema) opened ∙ dictionary_lists schema x.header (extra_of x.version) t is

-- ---- a block

module _ (known : Bool) (needed : List ℕ → ℕ) (source metadata : List ℕ) (old new : ℕ) where
  abbrev PlaceGiven : Option Placed → Type 0
  PlaceGiven o = MatchOption o (new ≤ old) (λ p. MessageGiven known needed (drop p.message source) metadata old new)

  nothing_given : (o : Option Placed) → new ≤ old → PlaceGiven o
  nothing_given None h = h
  nothing_given (Some p) h = inl (inl (omega (arith, h)))

  -- The device wasn't read.
  pub unasked : (o : Option Block) → new ≤ old → RefusedGiven known needed source o metadata old new
  unasked o h = nothing_given (option_and_then placed o) h

  module _ (o : Option Block) (b : Block) (p : Placed) (listed : o ≡ Some b) (stands : placed b ≡ Some p) where
    at_place : MessageGiven known needed (drop p.message source) metadata old new → RefusedGiven known needed source o metadata old new
    at_place h = subst PlaceGiven (sym (ap (option_and_then placed) listed ∙ stands)) h

    -- The block's message wasn't read.
    pub unread : PrefixGiven known (drop p.message source) old new → RefusedGiven known needed source o metadata old new
    unread h = at_place (inl h)

    module _ (framed : IsTrue known → stated_metadata (frame (drop p.message source)) ≡ Some metadata) (most : new ≤ old + needed metadata) where
      -- The block's message was read, and was refused.
      pub misread : RefusedGiven known needed source o metadata old new
      misread = at_place (inr (framed, most))

      pub block_given : {X : Type 0} (r : Result X Fault) → BlockGiven known needed source o metadata r old new
      block_given (Ok x) = most
      block_given (Err e) = misread

-- ---- some blocks

-- The same of other bytes that are equal, with fewer bytes read before.
module _ (known : Bool) (needed : List ℕ → ℕ) (whole source metadata : List ℕ) (old mid new : ℕ) (same : IsTrue known → whole ≡ source) (more : mid ≤ old) where
  message_behind : (place : ℕ) → MessageGiven known needed (drop place whole) metadata mid new → MessageGiven known needed (drop place source) metadata old new
  message_behind place (inl (inl h)) = inl (inl (omega (arith, h, more)))
  message_behind place (inl (inr h)) =
      inl (inr (h.0, h.1, λ k. subst (λ (xs : List ℕ). prefix_of (drop place xs) ≡ Some h.0) (same k) (h.2 k), omega (arith, h.3, more)))
  message_behind place (inr h) =
      inr (λ k. subst (λ (xs : List ℕ). stated_metadata (frame (drop place xs)) ≡ Some metadata) (same k) (h.0 k), omega (arith, h.1, more))

  place_behind : (o : Option Placed) → PlaceGiven known needed whole metadata mid new o → PlaceGiven known needed source metadata old new o
  place_behind None h = omega (arith, h, more)
  place_behind (Some p) h = message_behind p.message h

  refused_behind : (o : Option Block) → RefusedGiven known needed whole o metadata mid new → RefusedGiven known needed source o metadata old new
  refused_behind o h = place_behind (option_and_then placed o) h

module _ (known : Bool) (schema : Schema) (source whole : List ℕ) (same : IsTrue known → whole ≡ source) (d : Block) (mid new : ℕ) (metadata : List ℕ) where
  refused_at : (bs : List Block) (i n old : ℕ) → i < length bs → NeedValues known schema source (take i bs) n → mid ≤ old + n
      → RefusedGiven known (needed_values schema) whole (Some (get_or bs i d)) metadata mid new → RefusedValues known schema source bs old new
  refused_at [] i n old within needs most h = absurd (omega (arith, within))
  refused_at (b ∷ bs) zero n old within needs most h =
      (metadata, inl (refused_behind known (needed_values schema) whole source metadata old mid new same (omega (arith, needs, most)) (Some b) h))
  refused_at (b ∷ bs) (suc i) n old within needs most h =
      (needs.0, inr (needs.2, refused_at bs i needs.1 (old + needed_values schema needs.0) (omega (arith, within)) needs.3 (omega (arith, needs.4, most)) h))

  -- The block at i was refused, after those before it.
  pub refused_values : (bs : List Block) (i old : ℕ) → i < length bs → GivenFor known schema source (take i bs) old mid
      → RefusedGiven known (needed_values schema) whole (Some (get_or bs i d)) metadata mid new → RefusedValues known schema source bs old new
  refused_values bs i old within so_far h = refused_at bs i so_far.bytes old within so_far.needed so_far.most h
