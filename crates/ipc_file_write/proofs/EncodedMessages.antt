-- Encoded messages, as they are sent.
use Rattle.std.proofs.Common.{◌≡◌, ℕ, List, [], ◌∷◌, ◌++◌, map, true, refl, sym, ap, ap₂, subst, ◌∙◌}
use Rattle.lower.specs.TypeTrees.{FieldTrees}
use Rattle.lower_types.specs.declared.Endianness.{Endianness}
use Rattle.lower_arrays.specs.Layouts.{Layout, layouts, len_of}
use Rattle.ipc_base.specs.Chunks.{row_count}
use Rattle.ipc_base.specs.IdTrees.{IdTrees}
use Rattle.ipc_encode.specs.declared.batches.BatchKind.TheVariants.{Record, Dictionary}
use Rattle.ipc_encode.specs.declared.batches.Encoded.{Encoded}
use Rattle.ipc_stream_lemmas.proofs.Fitting.{filled_law}
use Rattle.ipc_stream_lemmas.specs.Remembered.{Remembered, filled_of}
use Rattle.ipc_model.specs.Offers.{FilledPlace, IsAcceptedChunk}
use Rattle.ipc_tracker.specs.Listings.{ListsUnwritten, ListsAll, remembering_all}
use Rattle.ipc_tracker.specs.Trackers.{IsSameMemory}
use Rattle.ipc_table_views.specs.declared.schema.MetadataVersion.TheVariants.{V5}
use Rattle.ipc_chunks.proofs.Meanings.{columns_message, sent_of, values_message}
use Rattle.ipc_write.proofs.MessageLists.{bytes_last, in_stream}
use Rattle.ipc_chunks.specs.Messages.{AreAllValues, AreMessages, AreValueMessages, Message, message_seen}
use Rattle.ipc_write.specs.Messages.{messages_bytes}
use Rattle.ipc_file_lemmas.specs.FileBytes.{AreValueMessages as ValuesSent, IsColumns, IsValues, SendsChunk, Sent, all_bytes, chunk_bytes}
use Rattle.ipc_file_write.specs.Blocks.{sent, sent_seen}

pub seen_sent : (es : List Encoded) → map sent (map message_seen es) ≡ map sent_seen es
seen_sent [] = refl
seen_sent (e ∷ es) = ap (λ (ws : List Sent). sent_seen e ∷ ws) (seen_sent es)

-- ---- what they are

-- the values of a dictionary
values_sent : (order : Endianness) (p : FilledPlace) (m : Message) → AreValueMessages order p m → IsValues order p (sent m)
unfolding values_message
values_sent order p m h =
    let said = h.metadata_are in
    record {
      message = values_message order p m.metadata m.body h;
      metadata_is = refl;
      body_is = refl;
      version = record { root = said.root; root_is = said.opened; version = V5; version_is = said.version; extra_is = refl };
    }

all_sent : (order : Endianness) (ps : List FilledPlace) (ms : List Message) → AreAllValues order ps ms → ValuesSent order ps (map sent ms)
all_sent order [] [] h = tt
all_sent order [] (m ∷ ms) h = absurd h
all_sent order (p ∷ ps) [] h = absurd h
all_sent order (p ∷ ps) (m ∷ ms) h = (values_sent order p m h.0, all_sent order ps ms h.1)

-- some columns
columns_sent : (order : Endianness) (columns : List Layout) (list : List FilledPlace) (ds : List Message) (own : Message) → AreMessages order columns list ds own → IsColumns order columns (sent own)
unfolding columns_message
columns_sent order columns list ds own all =
    let said = all.record_is.metadata_are in
    record {
      message = columns_message order columns own.metadata own.body all.rows all.record_is;
      metadata_is = refl;
      body_is = refl;
      version = record { root = said.root; root_is = said.opened; version = V5; version_is = said.version; extra_is = refl };
    }

-- What is sent for an accepted chunk with these dictionaries to write,
-- if those remembered must stay.
pub sends_chunk : (order : Endianness) (fs : FieldTrees) (is : IdTrees) (m after : Remembered) (columns : List Layout) (list : List FilledPlace) (ds : List Message) (own : Message)
    → IsAcceptedChunk fs is columns → ListsAll m true columns is list → IsSameMemory (remembering_all list m) after → AreMessages order columns list ds own
    → SendsChunk order fs is m after columns (map sent ds) (sent own)
sends_chunk order fs is m after columns list ds own accepted lists same all = record {
  arrays = all.record_is.arrays;
  accepted = accepted;
  kept = lists.kept refl;
  list = list;
  lists = sent_of m (filled_of (layouts columns) is) list after (subst (λ (ps : List FilledPlace). ListsUnwritten m ps list) (sym (filled_law (layouts columns) is)) lists.lists) same;
  values = all_sent order list ds all.values;
  own_is = columns_sent order columns list ds own all;
}

-- ---- their bytes

values_bytes : (order : Endianness) (ps : List FilledPlace) (ms : List Message) → AreAllValues order ps ms → messages_bytes ms ≡ all_bytes (map sent ms)
values_bytes order [] [] h = refl
values_bytes order [] (m ∷ ms) h = absurd h
values_bytes order (p ∷ ps) [] h = absurd h
values_bytes order (p ∷ ps) (m ∷ ms) h =
    ap₂ (λ (xs ys : List ℕ). xs ++ ys) (in_stream (Dictionary p.id) order (p.values ∷ []) (len_of p.values) m h.0) (values_bytes order ps ms h.1)

pub bytes_sent : (order : Endianness) (columns : List Layout) (list : List FilledPlace) (ds : List Message) (own : Message) → AreMessages order columns list ds own
    → messages_bytes (ds ++ own ∷ []) ≡ chunk_bytes (map sent ds) (sent own)
bytes_sent order columns list ds own all =
    bytes_last ds own ∙ ap₂ (λ (xs ys : List ℕ). xs ++ ys) (values_bytes order list ds all.values) (in_stream Record order columns (row_count len_of columns) own all.record_is)
