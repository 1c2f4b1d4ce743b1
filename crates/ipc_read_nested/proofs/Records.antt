-- An array of structs keeps the rules of its kind.
use Rattle.std.proofs.Common.{◌≡◌, refl, ℕ, ◌+◌, List, sym, ap, subst}
use Rattle.lower.specs.TypeTrees.{TypeTree, FieldTrees, no_fields, more_fields}
use Rattle.lower.specs.Physical.{physical}
use Rattle.lower.specs.declared.datatypes.physical_type.PhysicalType.TheVariants.{Struct}
use Rattle.lower.specs.declared.error.Error.{Error}
use Rattle.lower.specs.declared.error.Error.TheVariants.{OutOfSpec}
use Rattle.lower.specs.declared.error.Rule.TheVariants.{ValidityLength, NoChild, ChildCount, ChildType, ChildLength, PhysicalType as WrongType}
use Rattle.lower_flat_arrays.specs.Validities.{Validity, ValidityFits}
use Rattle.lower_arrays.specs.Layouts.{Layout, Layouts, no_layouts, more_layouts, layouts}
use Rattle.lower_arrays.specs.Children.{child_fields, field_count, child_count, ChildTypes, HasChild, AllHave}
use Rattle.lower_arrays.specs.Structs.{struct_seen, first_len, BreaksStruct}

pub so_many : (fs : FieldTrees) (cs : Layouts) → ChildTypes fs cs → child_count cs ≡ field_count fs
so_many no_fields no_layouts h = refl
so_many no_fields (more_layouts c cs) h = absurd h
so_many (more_fields f fs) no_layouts h = absurd h
so_many (more_fields f fs) (more_layouts c cs) h = ap (λ n. n + 1) (so_many fs cs h.1)

pub struct_keeps :
    (u : TypeTree) (n : ℕ) (cs : List Layout) (v : Validity) (e : Error) → physical u ≡ Struct → first_len cs ≡ n → ValidityFits v n
    → BreaksStruct (struct_seen u cs v) e → HasChild (layouts cs) × ChildTypes (child_fields u) (layouts cs) × AllHave n (layouts cs) → ⊥
struct_keeps u n cs v (OutOfSpec WrongType) lies len fits h w = h lies
struct_keeps u n cs v (OutOfSpec NoChild) lies len fits h w = h w.0
struct_keeps u n cs v (OutOfSpec ChildCount) lies len fits h w = h (so_many (child_fields u) (layouts cs) w.1)
struct_keeps u n cs v (OutOfSpec ChildType) lies len fits h w = h w.1
struct_keeps u n cs v (OutOfSpec ChildLength) lies len fits h w = h (subst (λ k. AllHave k (layouts cs)) (sym len) w.2)
struct_keeps u n cs v (OutOfSpec ValidityLength) lies len fits h w = h (subst (ValidityFits v) (sym len) fits)
struct_keeps u n cs v (OutOfSpec _) lies len fits h w = absurd h

pub ruleset records = (so_many, struct_keeps)
