-- The one column of a batch of a dictionary's values.
use Rattle.std.proofs.Common.{arith, ◌≡◌, refl, ℕ, zero, suc, ℤ, ◌+◌, ◌<◌, ◌≤◌, [], ◌∷◌, get_or, Option, None, Some, Ok, Err, inl, inr, sym, subst}
use Rattle.lower.specs.TypeTrees.{TypeTree}
use Rattle.lower_types.specs.declared.Endianness.{Endianness}
use Rattle.lower_arrays.specs.AnyLayouts.{layout_of}
use Rattle.lower_arrays.specs.Cases.{HasListCases}
use Rattle.lower_arrays.specs.Layouts.{Layout}
use Rattle.lower_arrays.specs.declared.array.AnyArray.{AnyArray}
use Rattle.ipc_devices.proofs.Claims.{claims_through, denies_through}
use Rattle.ipc_base.specs.IdTrees.{IdTrees}
use Rattle.ipc_devices.specs.Device.{Device}
use Rattle.ipc_devices.specs.Faults.{OwnFault}
use Rattle.ipc_devices.specs.declared.fault.Fault.{Fault}
use Rattle.ipc_table_views.specs.Spot.{Spot}
use Rattle.ipc_model.specs.Batches.{Schema, kinds, Body, Lists, lists_of, entries_of, values_schema}
use Rattle.ipc_model.specs.Columns.{IsWell}
use Rattle.ipc_model.specs.Entries.{Dictionaries}
use Rattle.ipc_model.specs.Kinds.{Kind}
use Rattle.ipc_model.specs.TypeKinds.{kind_of}
use Rattle.ipc_read_flat.specs.Bodies.{entries}
use Rattle.ipc_read_flat.specs.Kinds.{listed_in}
use Rattle.ipc_read_nested.specs.ReadColumns.{IsColumn}
use Rattle.ipc_read_flat.specs.Refusals.{IsFaultOf}
use Rattle.ipc_read_flat.specs.declared.read.body.Body.{Body as Read}
use Rattle.ipc_read.proofs.Listed.{given_total}
use Rattle.ipc_read.proofs.Meanings.{IsListed, any_rows, some_is, equal_rows, fetched_meaning, judged}
use Rattle.ipc_read.proofs.ReadCases.{read_cases}
use Rattle.ipc_read.proofs.Refusals.{counts_tell, entries_in_list, lengths_tell, values_tell}
use Rattle.ipc_read.specs.Chunks.{HasMeaning}
use Rattle.ipc_read.specs.DictionaryBatches.{GivesColumn, IsValuesFault}
use Rattle.ipc_read.specs.Refusals.{IsEntriesFault, IsListFault}
use Rattle.ipc_read.specs.Sizes.{chosen_listed}

-- ---- errors

pub list_in_values : (t : Kind) (e : Fault) → OwnFault e (IsListFault e) → OwnFault e (IsValuesFault t e)
list_in_values t e h = claims_through e (IsListFault e) (IsValuesFault t e) (λ f. inl f) h

pub entries_in_values : (t : Kind) (e : Fault) → OwnFault e (IsEntriesFault e) → OwnFault e (IsValuesFault t e)
entries_in_values t e h = list_in_values t e (entries_in_list e h)

pub column_in_values : (t : Kind) (e : Fault) → OwnFault e (IsFaultOf t e) → OwnFault e (IsValuesFault t e)
column_in_values t e h = claims_through e (IsFaultOf t e) (IsValuesFault t e) (λ f. inr f) h

pub ruleset values_faults = (list_in_values, entries_in_values, column_in_values, lengths_tell, counts_tell, values_tell)

-- ---- the column

-- What the values of a dictionary field are read by.
abbrev pub schema_of : TypeTree → IdTrees → Endianness → Schema
schema_of u is order = values_schema (record { id = None; type = u; ids = is }) order

pub column_refused :
    (e : Fault) (P : Type 0) (schema : Schema) (extra : ℕ) (known : Dictionaries) (b : Body) (t : Spot) (u : TypeTree)
    → OwnFault e (P → ⊥) → (HasMeaning schema extra known b t None None → P) → GivesColumn schema extra known b t u (Err e)
column_refused e P schema extra known b t u denied f = denies_through e P (HasMeaning schema extra known b t None None) f denied

one_row : (x : AnyArray) (i : ℕ) (d : AnyArray) → i < 1 → any_rows (get_or (x ∷ []) i d) ≡ any_rows x
one_row x zero d h = refl
one_row x (suc i) d h = absurd (omega (arith, h))

module _ (extra : ℕ) (known : Dictionaries) (b : Body) (t : Spot) (u : TypeTree) (is : IdTrees) (order : Endianness) (lists : Lists) (listed : lists_of t ≡ Some lists) where
  pub column_judged : HasMeaning (schema_of u is order) extra known b t None None
      → IsListed lists b.size extra (kinds (schema_of u is order)) × IsWell (entries_of lists b order extra known) (kind_of u None is) 0 0 None
  column_judged h = let j = (judged (schema_of u is order) extra known b t None None lists listed h).1 in (j.listed, j.has.0)

  pub column_given : (vs : Option ℤ → Layout) (x : AnyArray) → IsListed lists b.size extra (kinds (schema_of u is order))
      → IsWell (entries_of lists b order extra known) (kind_of u None is) 0 0 None
      → IsColumn (entries_of lists b order extra known) vs (kind_of u None is) u 0 0 None (layout_of x) → GivesColumn (schema_of u is order) extra known b t u (Ok x)
  column_given vs x judged well column =
      let means =
      fetched_meaning (schema_of u is order) extra known vs b t None None lists (x ∷ []) (record { listed = listed; judged = judged; prepared = tt; has = (well, tt); are = (column, tt) })
      (equal_rows (any_rows x) (x ∷ []) (one_row x))
      in (
        some_is _ _ means,
        (means, column.type, subst HasListCases (sym column.array) (read_cases (entries_of lists b order extra known) vs (kind_of u None is) u 0 0 None)),
      )

-- ---- what a device gives

pub values_given :
    {R : Type 0} (d : Device R) (b : Read R) (lists : Lists) (m : Body) (order : Endianness) (extra : ℕ) (known : Dictionaries) (o : Option Lists) (u : TypeTree) (is : IdTrees) (x y : ℕ)
    → entries d b ≡ entries_of lists m order extra known → b.extra ≡ extra → o ≡ Some lists → y ≤ x + listed_in (entries d b) b.extra (kind_of u None is) 0
    → y ≤ x + chosen_listed o extra (kinds (schema_of u is order)) (0 ∷ [])
values_given d b lists m order extra known o u is x y same fronted listed h =
    given_total d b lists m order extra known o (kinds (schema_of u is order)) (0 ∷ []) x y same fronted listed (omega (arith, h))
