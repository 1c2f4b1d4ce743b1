-- How many dictionary fields there are, whatever their ids.
use Rattle.std.proofs.Common.{◌≡◌, ℕ, ℤ, ◌<◌, ◌≤◌, ◌^◌, inl, inr, length, length-append, cond, Option, Result, Ok, Err, IfErr, refl, ◌∙◌, arith}
use Rattle.std.proofs.lemmas.Bool.{cases_lt}
use Rattle.lower.specs.Counts.{fields_places, is_dictionary}
use Rattle.lower.specs.TypeTrees.{Pairs, TypeTree, plain, single, group, dictionary, extension, FieldTree, field, FieldTrees, no_fields, more_fields}
use Rattle.ipc_base.specs.IdTrees.{IdTree, ids, IdTrees}
use Rattle.ipc_base.proofs.FitTests.{all_test}
use Rattle.ipc_devices.specs.declared.fault.ArgFault.TheVariants.{NotWritable, TooLarge}
use Rattle.ipc_devices.specs.declared.fault.Fault.{Fault}
use Rattle.ipc_devices.specs.declared.fault.Fault.TheVariants.{Argument, Memory}
use Rattle.ipc_model.specs.Batches.{field_places, inner_places, own_place, places}
use Rattle.ipc_model.specs.TypeKinds.{first_ids, other_ids}
use Rattle.ipc_model.specs.Writable.{IsWritable, most_places}
use Rattle.ipc_schema_write.specs.DefaultIds.{count_below, count_field, count_all, default_all}
use Rattle.ipc_schema_write.specs.Refusals.{RefusesCount, RefusesMany}
use Rattle.ipc_schema_write.specs.WriterAnswers.{RefusesSchema}
use Rattle.ipc_schema_write.proofs.DefaultsFit.{all_fit-default, count-fields}

pub own-count : (t : TypeTree) (id : Option ℤ) (is : IdTrees) → length (own_place t id is) ≡ cond (is_dictionary t) 1 0
own-count (plain p) id is = refl
own-count (single s f) id is = refl
own-count (group g fs) id is = refl
own-count (dictionary keys t ordered) id is = refl
own-count (extension name t text) id is = own-count t id is

mutual
  places-count : (fs : FieldTrees) (is : IdTrees) → length (places fs is) ≡ count_all fs
  places-count no_fields is = refl
  places-count (more_fields f fs) is = length-append (field_places f (first_ids is)) (places fs (other_ids is)) ∙ rw (field-count f (first_ids is), places-count fs (other_ids is))

  pub field-count : (f : FieldTree) (i : IdTree) → length (field_places f i) ≡ count_field f
  field-count (field name t nullable metadata) (ids id is) = length-append (own_place t id is) (inner_places t is) ∙ rw (own-count t id is, below-count t is)

  below-count : (t : TypeTree) (is : IdTrees) → length (inner_places t is) ≡ count_below t
  below-count (plain p) is = refl
  below-count (single s f) is = field-count f (first_ids is)
  below-count (group g fs) is = places-count fs is
  below-count (dictionary keys t ordered) is = below-count t is
  below-count (extension name t text) is = below-count t is

-- more dictionary fields than can be written
too-many : (fs : FieldTrees) (es : Pairs) (is : IdTrees) → (count_all fs ≤ most_places → ⊥) → IsWritable fs es is → ⊥
too-many fs es is many w = many (let few = w.few_places in omega (arith, few, places-count fs is))

pub many-refuse : (fs : FieldTrees) (es : Pairs) → (count_all fs ≤ most_places → ⊥) → RefusesSchema (Argument NotWritable) fs es (default_all 0 fs)
many-refuse fs es many = ((all_test fs (default_all 0 fs)).0 (all_fit-default 0 fs), too-many fs es (default_all 0 fs) many)

pub many-more : (n most : ℕ) → (n ≤ most → ⊥) → most < n
many-more n most many = elim (cases_lt most n) [ inl more ↦ more | inr few ↦ absurd (many few) ]

-- so few that each gets an id
few-refuse : (X : Type 0) (e : Fault) (fs : FieldTrees) (es : Pairs) (is : IdTrees) → count_all fs ≤ most_places → RefusesCount {X = X} (Err e) (2 ^ 63 ≤ length (fields_places fs)) → RefusesSchema e fs es is
few-refuse X Memory fs es is few h = tt
few-refuse X (Argument TooLarge) fs es is few h = absurd (omega (arith, few, h, count-fields fs))
few-refuse X _ fs es is few h = absurd h

pub few-refuses : (X : Type 0) (r : Result X Fault) (fs : FieldTrees) (is : IdTrees) → count_all fs ≤ most_places → RefusesCount r (2 ^ 63 ≤ length (fields_places fs)) → IfErr r (λ e. (es : Pairs) → RefusesSchema e fs es is)
few-refuses X (Ok x) fs is few h = tt
few-refuses X (Err e) fs is few h = λ es. few-refuse X e fs es is few h

few-one : (X : Type 0) (e : Fault) (fs : FieldTrees) → count_all fs ≤ most_places → RefusesCount {X = X} (Err e) (2 ^ 63 ≤ length (fields_places fs)) → RefusesMany fs e
few-one X Memory fs few h = tt
few-one X (Argument TooLarge) fs few h = absurd (omega (arith, few, h, count-fields fs))
few-one X _ fs few h = absurd h

pub few-many : (X : Type 0) (r : Result X Fault) (fs : FieldTrees) → count_all fs ≤ most_places → RefusesCount r (2 ^ 63 ≤ length (fields_places fs)) → IfErr r (RefusesMany fs)
few-many X (Ok x) fs few h = tt
few-many X (Err e) fs few h = few-one X e fs few h
