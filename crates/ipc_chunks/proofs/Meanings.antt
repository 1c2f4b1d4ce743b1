-- The messages that are encoded for a chunk are those that a writer sends.
use Rattle.std.proofs.Common.{ℕ, List, [], ◌∷◌, map, arith, refl, sym, ap, ◌∙◌, subst, inl, inr}
use Rattle.lower_types.specs.declared.Endianness.{Endianness}
use Rattle.lower_arrays.specs.Layouts.{Layout, layouts, len_of}
use Rattle.ipc_base.specs.Chunks.{row_count}
use Rattle.ipc_encode.specs.Encoding.{IsEncoded}
use Rattle.ipc_encode.specs.declared.batches.BatchKind.TheVariants.{Record, Dictionary}
use Rattle.ipc_encode.specs.declared.common.EncodedData.{EncodedData}
use Rattle.ipc_stream_lemmas.proofs.Bodies.{plan_law}
use Rattle.ipc_stream_lemmas.proofs.Chunks.{encoded_chunk_law, listed_law}
use Rattle.ipc_stream_lemmas.proofs.Fitting.{filled_law}
use Rattle.ipc_stream_lemmas.specs.Bodies.{ColumnsMessage, HoldColumns, ValuesMessage}
use Rattle.ipc_stream_lemmas.specs.Chunks.{HasMessages, ListsUnwritten as Sent}
use Rattle.ipc_stream_lemmas.specs.Remembered.{Filled, filled_of, filled_place}
use Rattle.ipc_model.specs.Offers.{FilledPlace}
use Rattle.ipc_plan.specs.Batches.{HaveRows, lists_of_plan}
use Rattle.ipc_tracker.specs.Listings.{ListsUnwritten, remembering_all}
use Rattle.ipc_tracker.specs.Trackers.{IsSameMemory, Remembered, dictionary_of, remembering}
use Rattle.ipc_chunks.specs.Messages.{AreAllValues, data_seen}
use Rattle.ipc_chunks.proofs.Acceptance.{taken_law}
use Rattle.ipc_chunks.specs.Laws.{MeaningLaw, encoded_bytes}

-- ---- which dictionaries are sent

pub sent_of : (m : Remembered) (ps : List Filled) (ws : List FilledPlace) (after : Remembered) → ListsUnwritten m (map filled_place ps) ws → IsSameMemory (remembering_all ws m) after → Sent m ps ws after
sent_of m [] ws after l same = (l, λ i. same i ∙ ap (λ (vs : List FilledPlace). remembering_all vs m i) l)
sent_of m (p ∷ ps) ws after (inl l) same = inl (l.0, sent_of m ps ws after l.1 same)
sent_of m (p ∷ ps) ws after (inr l) same =
    inr (l.1, l.2, sent_of (remembering p.id (dictionary_of p.values) m) ps l.1 after l.3 (λ i. same i ∙ ap (λ (vs : List FilledPlace). remembering_all vs m i) l.2))

-- ---- messages

unfoldable pub values_message : (order : Endianness) (p : FilledPlace) (metadata sent : List ℕ) → IsEncoded (Dictionary p.id) order (p.values ∷ []) (len_of p.values) metadata sent → ValuesMessage order p
values_message order p metadata sent h =
    let said = h.metadata_are in
    let values = said.says.1 in
    record {
      metadata = metadata;
      body = sent;
      lists = lists_of_plan h.plan;
      message = record {
        some = omega (arith, said.long);
        short = said.small;
        header = said.header;
        headed = said.headed;
        tag = said.says.0;
        long = said.body_is;
        id_is = values.id_is;
        whole_values = values.no_delta;
        values = values.values;
        values_are = values.values_are;
        lists_are = values.says.lists_are;
      };
      holds =
          subst (λ (xs : List ℕ). HoldColumns order (lists_of_plan h.plan) xs (p.values ∷ [])) (sym h.body_is) (plan_law order h.plan (p.values ∷ []) h.plans h.arrays);
    }

unfoldable pub columns_message : (order : Endianness) (columns : List Layout) (metadata sent : List ℕ) → HaveRows (row_count len_of columns) columns → IsEncoded Record order columns (row_count len_of columns) metadata sent
    → ColumnsMessage order columns
columns_message order columns metadata sent rows h =
    let said = h.metadata_are in
    record {
      metadata = metadata;
      body = sent;
      lists = lists_of_plan h.plan;
      rows = row_count len_of columns;
      have_rows = rows;
      message = record {
        some = omega (arith, said.long);
        short = said.small;
        header = said.header;
        headed = said.headed;
        tag = said.says.0;
        long = said.body_is;
        lists_are = said.says.1.lists_are;
      };
      holds =
          subst (λ (xs : List ℕ). HoldColumns order (lists_of_plan h.plan) xs columns) (sym h.body_is) (plan_law order h.plan columns h.plans h.arrays);
    }

encodes_all : (order : Endianness) (ps : List FilledPlace) (ds : List EncodedData) → AreAllValues order ps (map data_seen ds) → HasMessages order ps (encoded_bytes ds)
unfolding values_message
encodes_all order [] [] h = refl
encodes_all order [] (d ∷ ds) h = absurd h
encodes_all order (p ∷ ps) [] h = absurd h
encodes_all order (p ∷ ps) (d ∷ ds) h = (values_message order p d.ipc_message.items d.arrow_data.items h.0, encoded_bytes ds, refl, encodes_all order ps ds h.1)

pub meaning_law : MeaningLaw
unfolding columns_message
meaning_law order m after fixed columns is dictionaries encoded e =
    let places = filled_of (layouts columns) is in
    let lists : ListsUnwritten m (map filled_place places) e.list = subst (λ (ps : List FilledPlace). ListsUnwritten m ps e.list) (sym (filled_law (layouts columns) is)) e.lists.lists in
    let taken = taken_law order m after fixed columns is dictionaries encoded e in
    encoded_chunk_law order is columns m after _ e.are.record_is.arrays taken.accepted (record {
      dictionaries = encoded_bytes dictionaries;
      sent = listed_law order m places e.list after (encoded_bytes dictionaries) (sent_of m places e.list after lists e.remembers) (encodes_all order e.list dictionaries e.are.values);
      own = columns_message order columns encoded.ipc_message.items encoded.arrow_data.items e.are.rows e.are.record_is;
      bytes_are = refl;
    })
