-- What encoded messages of batches mean.
use Rattle.std.proofs.Common.{arith, ◌≡◌, ℕ, ℤ, List, [], ◌∷◌, length, Bool, false, Option, None, Some, Result, Ok, refl, ap, ◌∙◌, subst}
use Rattle.std.specs.Option.{option_and_then}
use Rattle.std.specs.Prelude.{option_map}
use Rattle.lower.specs.Normal.{norm}
use Rattle.lower_arrays.specs.Layouts.{Parts, keys, Layout, layout, Layouts, no_layouts, more_layouts, layouts, len_of, type_of}
use Rattle.lower_arrays.specs.Slots.{AreArrays, slots}
use Rattle.ipc_base.specs.IdTrees.{IdTrees}
use Rattle.ipc_devices.specs.declared.fault.TableFault.{TableFault}
use Rattle.ipc_table_views.specs.MessageSlots.{dictionary_batch_data, dictionary_batch_id, dictionary_batch_is_delta}
use Rattle.ipc_table_views.specs.Spot.{Spot}
use Rattle.ipc_model.specs.Batches.{Place, Schema, batch, batch_meaning, dictionary_meaning, entries_of, place_of, places, record_meaning, values_meaning, values_schema, with_values, extra_of}
use Rattle.ipc_model.specs.Columns.{slots_in}
use Rattle.ipc_model.specs.Entries.{Dictionaries, Entries, dictionary_at}
use Rattle.ipc_model.specs.Offers.{inner_ids, own_id}
use Rattle.ipc_model.specs.Streams.{whole}
use Rattle.ipc_model.specs.TypeKinds.{first_ids, other_ids}
use Rattle.ipc_plan.proofs.Batches.{columns_batch_law}
use Rattle.ipc_plan.specs.Batches.{AreLike, HaveRows, body_of_plan, chunk_named, lists_of_plan}
use Rattle.ipc_plan.specs.Bodies.{PlansColumns}
use Rattle.ipc_plan.specs.Meaning.{Knows, KnowsAll, KnowsValues, WhereKeyed}
use Rattle.ipc_plan.specs.declared.plan.Plan.{Plan}
use Rattle.ipc_encode.specs.EncodedLaws.{EncodedRecordLaw, EncodedValuesLaw, knowing}
use Rattle.ipc_encode.specs.Encoding.{SaysBatch}

-- ---- known values don't depend on the entries of a batch

values_same : (s t : Entries) (cs : Layouts) (id : Option ℤ) → s.dictionaries ≡ t.dictionaries → KnowsValues s cs id → KnowsValues t cs id
values_same s t no_layouts id same known = absurd known
values_same s t (more_layouts c cs) None same known = known
values_same s t (more_layouts c cs) (Some id) same known =
    subst (λ (ds : Dictionaries). (option_map (λ d. d.type) (dictionary_at ds id) ≡ Some (norm (type_of c))) × (slots_in (dictionary_at ds id) ≡ slots c)) same known

where_same : (p : Parts) (P Q R S : Type 0) → (P → R) → (Q → S) → WhereKeyed p P Q → WhereKeyed p R S
where_same (keys k ks) P Q R S f g known = f known
where_same _ P Q R S f g known = g known

mutual
  knows_same : (s t : Entries) (l : Layout) (id : Option ℤ) (is : IdTrees) → s.dictionaries ≡ t.dictionaries → Knows s l id is → Knows t l id is
  knows_same s t (layout h cs) id is same known =
      where_same h.parts (KnowsValues s cs id) (KnowsAll s cs is) (KnowsValues t cs id) (KnowsAll t cs is) (values_same s t cs id same) (λ k. knows_all_same s t cs is same k) known

  knows_all_same : (s t : Entries) (cs : Layouts) (is : IdTrees) → s.dictionaries ≡ t.dictionaries → KnowsAll s cs is → KnowsAll t cs is
  knows_all_same s t no_layouts is same known = tt
  knows_all_same s t (more_layouts c cs) is same known = (
    knows_same s t c (own_id (first_ids is)) (inner_ids (first_ids is)) same known.0,
    knows_all_same s t cs (other_ids is) same known.1,
  )

knows_in_batch : (schema : Schema) (p : Plan) (ls : List Layout) (known : Dictionaries) → KnowsAll (knowing known schema.order) (layouts ls) schema.ids
    → KnowsAll (entries_of (lists_of_plan p) (whole (body_of_plan p)) schema.order 0 known) (layouts ls) schema.ids
unfolding entries_of
knows_in_batch schema p ls known knows =
    knows_all_same (knowing known schema.order) (entries_of (lists_of_plan p) (whole (body_of_plan p)) schema.order 0 known) (layouts ls) schema.ids refl knows

-- ---- batches

-- A table with the nodes and buffers of a plan, and its body, means the columns.
table_means : (schema : Schema) (extra : ℕ) (known : Dictionaries) (t : Spot) (p : Plan) (ls : List Layout) (rows k : ℕ) (sent : List ℕ) → extra ≡ 0 → SaysBatch t rows (lists_of_plan p) → PlansColumns schema.order ls p
    → AreArrays (layouts ls) → sent ≡ body_of_plan p → AreLike schema.fields (layouts ls) → HaveRows k ls → KnowsAll (knowing known schema.order) (layouts ls) schema.ids
    → record_meaning schema extra known (whole sent) t None None ≡ Some (chunk_named schema.fields ls)
unfolding record_meaning
table_means schema extra known t p ls rows k sent none says plans arrays same like have knows =
    ap (λ o. option_and_then (λ lists. batch (entries_of lists (whole sent) schema.order extra known) (length sent) schema None None) o) says.lists_are
    ∙ ap (λ n. batch (entries_of (lists_of_plan p) (whole sent) schema.order n known) (length sent) schema None None) none
    ∙ ap (λ (xs : List ℕ). batch (entries_of (lists_of_plan p) (whole xs) schema.order 0 known) (length xs) schema None None) same
    ∙ columns_batch_law schema p ls k known plans arrays like have (knows_in_batch schema p ls known knows)

pub encoded_record_law : EncodedRecordLaw
encoded_record_law head s ls rows metadata sent e none like have knows =
    let m = e.metadata_are in
    record {
      some = omega (arith, m.long);
      short = m.small;
      header = m.header;
      headed = m.headed;
      tag = m.says.0;
      long = m.body_is;
      means =
          table_means head.schema (extra_of head.version) s.dictionaries m.header.table e.plan ls rows rows sent none m.says.1 e.plans e.arrays e.body_is like have knows;
    }

-- The values come before those known earlier.
values_mean : (schema : Schema) (known : Dictionaries) (id : ℤ) (p : Place) (l : Layout) (sent : List ℕ) (values : Spot)
    → record_meaning (values_schema p schema.order) 0 known (whole sent) values None None ≡ Some (record { type = p.type; slots = slots l } ∷ [])
    → place_of (places schema.fields schema.ids) id ≡ Some p
    → batch_meaning schema 0 known (whole sent) (Ok id) (Ok false) (Ok (Some values)) ≡ Some ((id, record { type = norm p.type; slots = slots l }) ∷ known)
values_mean schema known id p l sent values means place =
    ap (λ o. option_and_then (values_meaning schema 0 known (whole sent) id values) o) place
    ∙ ap (λ o. option_and_then (with_values known id p) o) means

slots_are : (schema : Schema) (known : Dictionaries) (sent : List ℕ) (x : Result ℤ TableFault) (y : Result Bool TableFault) (z : Result (Option Spot) TableFault) (id : ℤ) (values : Spot)
    → x ≡ Ok id → y ≡ Ok false → z ≡ Ok (Some values)
    → batch_meaning schema 0 known (whole sent) x y z ≡ batch_meaning schema 0 known (whole sent) (Ok id) (Ok false) (Ok (Some values))
slots_are schema known sent x y z id values e f g =
    ap (λ (r : Result ℤ TableFault). batch_meaning schema 0 known (whole sent) r y z) e
    ∙ ap (λ (r : Result Bool TableFault). batch_meaning schema 0 known (whole sent) (Ok id) r z) f
    ∙ ap (λ (r : Result (Option Spot) TableFault). batch_meaning schema 0 known (whole sent) (Ok id) (Ok false) r) g

pub encoded_values_law : EncodedValuesLaw
unfolding dictionary_meaning
encoded_values_law schema known id p l rows metadata sent e place same knows =
    let m = e.metadata_are in
    let v = m.says.1 in
    let means = table_means (values_schema p schema.order) 0 known v.values e.plan (l ∷ []) rows (len_of l) sent refl v.says e.plans e.arrays e.body_is (same, tt) (refl, tt) (knows, tt) in
    record {
      some = omega (arith, m.long);
      short = m.small;
      header = m.header;
      headed = m.headed;
      tag = m.says.0;
      long = m.body_is;
      means =
          slots_are schema known sent (dictionary_batch_id m.header.table) (dictionary_batch_is_delta m.header.table) (dictionary_batch_data m.header.table) id v.values v.id_is v.no_delta v.values_are
          ∙ values_mean schema known id p l sent v.values means place;
    }
