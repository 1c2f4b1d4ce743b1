-- Messages mean what is in their bodies.
use Rattle.std.proofs.Common.{◌≡◌, ℕ, ℤ, false, Bool, List, [], ◌∷◌, length, None, Some, Option, Ok, Result, option_and_then, refl, sym, ap, ◌∙◌, subst}
use Rattle.ipc_devices.specs.declared.fault.TableFault.{TableFault}
use Rattle.lower.specs.TypeTrees.{TypeTree}
use Rattle.lower_arrays.specs.Layouts.{Layout, layout, no_layouts, more_layouts, layouts, len_of}
use Rattle.lower_types.specs.declared.Endianness.{Endianness}
use Rattle.lower_arrays.specs.Slots.{slots, AreArrays}
use Rattle.ipc_table_views.specs.MessageSlots.{dictionary_batch_id, dictionary_batch_is_delta, dictionary_batch_data}
use Rattle.ipc_table_views.specs.Spot.{Spot}
use Rattle.ipc_base.specs.IdTrees.{IdTrees}
use Rattle.ipc_model.specs.Batches.{Schema, Body, Lists, lists_of, entries_of, batch, Chunk, record_meaning, Place, places, place_of, values_schema, with_values, values_meaning, batch_meaning, dictionary_meaning, extra_of}
use Rattle.ipc_model.specs.Entries.{Dictionary, Dictionaries, dictionary_at}
use Rattle.ipc_model.specs.Streams.{Head, Known, whole}
use Rattle.ipc_plan.specs.Meaning.{Knows, KnowsAll}
use Rattle.ipc_plan.specs.declared.plan.Plan.{Plan}
use Rattle.ipc_stream_lemmas.specs.Bodies.{HoldColumns, PlanLaw, IsDictionaryMessage, ValuesLaw, ColumnsLaw}
use Rattle.ipc_plan.specs.Batches.{AreLike, HaveRows, chunk_named, lists_of_plan, body_of_plan}
use Rattle.ipc_plan.specs.Bodies.{PlansColumns}
use Rattle.ipc_stream_lemmas.specs.Places.{HasPlace, HasIds}
use Rattle.ipc_stream_lemmas.specs.Remembered.{Filled, dictionary_of, own_filled, filled_below, filled_of, Finds}
use Rattle.ipc_plan.proofs.Batches.{columns_batch_law}
use Rattle.ipc_stream_lemmas.proofs.Knowing.{knows, knows_all}
use Rattle.ipc_stream_lemmas.proofs.Moving.{finds_both}

-- ---- plans

plan_holds : (schema : Schema) (p : Plan) (ls : List Layout) (k : ℕ) (known : Dictionaries) (order : Endianness) → schema.order ≡ order → PlansColumns order ls p → AreArrays (layouts ls)
    → AreLike schema.fields (layouts ls) → HaveRows k ls → KnowsAll (entries_of (lists_of_plan p) (whole (body_of_plan p)) order 0 known) (layouts ls) schema.ids
    → batch (entries_of (lists_of_plan p) (whole (body_of_plan p)) order 0 known) (length (body_of_plan p)) schema None None ≡ Some (chunk_named schema.fields ls)
plan_holds schema p ls k known order e plan arrays =
    subst (λ (o : Endianness). PlansColumns o ls p → AreLike schema.fields (layouts ls) → HaveRows k ls → KnowsAll (entries_of (lists_of_plan p) (whole (body_of_plan p)) o 0 known) (layouts ls) schema.ids
    → batch (entries_of (lists_of_plan p) (whole (body_of_plan p)) o 0 known) (length (body_of_plan p)) schema None None ≡ Some (chunk_named schema.fields ls)) e
    (λ own like same knows. columns_batch_law schema p ls k known own arrays like same knows) plan

pub plan_law : PlanLaw
plan_law order p ls plan arrays = record { means = λ schema k known e like same knows. plan_holds schema p ls k known order e plan arrays like same knows }

-- ---- records

record_is : (schema : Schema) (extra : ℕ) (known : Dictionaries) (body : Body) (t : Spot) (lists : Lists) (o : Option Chunk) → lists_of t ≡ Some lists
    → batch (entries_of lists body schema.order extra known) body.size schema None None ≡ o → record_meaning schema extra known body t None None ≡ o
unfolding record_meaning
record_is schema extra known body t lists o e f =
    ap (λ (l : Option Lists). option_and_then (λ (x : Lists). batch (entries_of x body schema.order extra known) body.size schema None None) l) e ∙ f

found_in : (ls : Lists) (bs : List ℕ) (g : Head) (ds : Dictionaries) (ps : List Filled) → Finds (λ i. dictionary_at ds i) ps
    → Finds (λ i. dictionary_at (entries_of ls (whole bs) g.schema.order 0 ds).dictionaries i) ps
unfolding entries_of
found_in ls bs g ds ps f = f

pub columns_law : ColumnsLaw
columns_law h columns extra ids like named w = record {
  written = λ s found. record {
    some = w.message.some;
    short = w.message.short;
    header = w.message.header;
    headed = w.message.headed;
    tag = w.message.tag;
    long = w.message.long;
    means =
        ap (λ (x : ℕ). record_meaning h.schema x s.dictionaries (whole w.body) w.message.header.table None None) extra
        ∙ record_is h.schema 0 s.dictionaries (whole w.body) w.message.header.table w.lists (Some (chunk_named h.schema.fields columns)) w.message.lists_are
        (w.holds.means h.schema w.rows s.dictionaries refl like w.have_rows
        (knows_all (entries_of w.lists (whole w.body) h.schema.order 0 s.dictionaries) (layouts columns) h.schema.ids ids (found_in w.lists w.body h s.dictionaries (filled_of (layouts columns) h.schema.ids) found)))
        ∙ ap Some named;
  };
}

-- ---- dictionaries

-- The values of an array without keys have no dictionary field of their own.
no_own : (m : ℤ → Option Dictionary) (l : Layout) (is : IdTrees) → Finds m (own_filled l None is)
no_own m (layout k no_layouts) is = tt
no_own m (layout k (more_layouts c cs)) is = tt

values_known : (ls : Lists) (bs : List ℕ) (g : Head) (ds : Dictionaries) (p : Filled) → HasIds p.values None p.ids → Finds (λ i. dictionary_at ds i) (filled_below p.values p.ids)
    → Knows (entries_of ls (whole bs) g.schema.order 0 ds) p.values None p.ids
unfolding entries_of
values_known ls bs g ds p ids found =
    knows (entries_of ls (whole bs) g.schema.order 0 ds) p.values None p.ids ids
    (finds_both (λ i. dictionary_at ds i) (filled_below p.values p.ids) (own_filled p.values None p.ids) found (no_own (λ i. dictionary_at ds i) p.values p.ids))

-- The batch means the values, in the schema of their field.
values_are : (h : Head) (p : Filled) (metadata body : List ℕ) (lists : Lists) (s : Known) → extra_of h.version ≡ 0 → (v : HasPlace h.schema p) → (m : IsDictionaryMessage metadata p.id lists body)
    → HoldColumns h.schema.order lists body (p.values ∷ []) → Finds (λ i. dictionary_at s.dictionaries i) (filled_below p.values p.ids)
    → record_meaning (values_schema v.place h.schema.order) (extra_of h.version) s.dictionaries (whole body) m.values None None ≡ Some (record { type = v.place.type; slots = slots p.values } ∷ [])
values_are h p metadata body lists s extra v m holds found =
    let schema = values_schema v.place h.schema.order in
    let known = values_known lists body h s.dictionaries p v.inner found in
    ap (λ (x : ℕ). record_meaning schema x s.dictionaries (whole body) m.values None None) extra
    ∙ record_is schema 0 s.dictionaries (whole body) m.values lists (Some (chunk_named schema.fields (p.values ∷ []))) m.lists_are
    (holds.means schema (len_of p.values) s.dictionaries refl (sym v.is.type, tt) (refl, tt)
    (subst (λ (is : IdTrees). Knows (entries_of lists (whole body) h.schema.order 0 s.dictionaries) p.values None is) (sym v.is.ids) known, tt))

sets : (schema : Schema) (extra : ℕ) (known : Dictionaries) (body : Body) (i : Result ℤ TableFault) (b : Result Bool TableFault) (d : Result (Option Spot) TableFault) (id : ℤ) (values : Spot) (f : Place) (c : Chunk)
    (o : Option Dictionaries) → i ≡ Ok id → b ≡ Ok false → d ≡ Ok (Some values) → place_of (places schema.fields schema.ids) id ≡ Some f
    → record_meaning (values_schema f schema.order) extra known body values None None ≡ Some c → with_values known id f c ≡ o → batch_meaning schema extra known body i b d ≡ o
sets schema extra known body i b d id values f c o e1 e2 e3 place means then =
    ap (λ (x : Result ℤ TableFault). batch_meaning schema extra known body x b d) e1
    ∙ ap (λ (x : Result Bool TableFault). batch_meaning schema extra known body (Ok id) x d) e2
    ∙ ap (λ (x : Result (Option Spot) TableFault). batch_meaning schema extra known body (Ok id) (Ok false) x) e3
    ∙ ap (λ (x : Option Place). option_and_then (values_meaning schema extra known body id values) x) place
    ∙ ap (λ (x : Option Chunk). option_and_then (with_values known id f) x) means
    ∙ then

meaning_is : (g : Head) (q : Filled) (ms bs : List ℕ) (ls : Lists) (s : Known) (w : HasPlace g.schema q) (n : IsDictionaryMessage ms q.id ls bs)
    → record_meaning (values_schema w.place g.schema.order) (extra_of g.version) s.dictionaries (whole bs) n.values None None ≡ Some (record { type = w.place.type; slots = slots q.values } ∷ [])
    → dictionary_meaning g.schema (extra_of g.version) s.dictionaries (whole bs) n.header.table ≡ Some ((q.id, dictionary_of q.values) ∷ s.dictionaries)
unfolding dictionary_meaning
meaning_is g q ms bs ls s w n e =
    sets g.schema (extra_of g.version) s.dictionaries (whole bs) (dictionary_batch_id n.header.table) (dictionary_batch_is_delta n.header.table) (dictionary_batch_data n.header.table) q.id n.values w.place _ _
    n.id_is n.whole_values n.values_are w.first e (ap (λ (t : TypeTree). Some ((q.id, record { type = t; slots = slots q.values }) ∷ s.dictionaries)) w.is.type)

pub values_law : ValuesLaw
values_law h p extra v w = record {
  written = λ s found. record {
    some = w.message.some;
    short = w.message.short;
    header = w.message.header;
    headed = w.message.headed;
    tag = w.message.tag;
    long = w.message.long;
    means = meaning_is h p w.metadata w.body w.lists s v w.message (values_are h p w.metadata w.body w.lists s extra v w.message w.holds found);
  };
}
