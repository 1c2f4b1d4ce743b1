use Rattle.std.proofs.Common.{rules, arith, ◌<◌, ◌≤◌, length, map, subst, take, take_all}
use Rattle.std.specs.List.{All}
use Rattle.std.proofs.lemmas.List.Elements.{All-more}
use Rattle.lower.specs.TypeViews.{fields_of, field_view}
use Rattle.lower_validation.specs.Fields.{FieldTypes}
use Rattle.lower_validation.proofs.ChildSteps.{counts_equal, type_at, type_more}
use Rattle.lower_validation.proofs.children.have_types.Goals as goal

pub returns-then-fields-children-clause-same : goal.returns-then-fields-children-clause-same
returns-then-fields-children-clause-same g c =
    (λ h. search rules, λ h. absurd (c.if-fields-children.true (counts_equal g.C.Child.child_type c.args.fields.now c.args.children.now h)))

pub returns-then-not-has_type-clause-same : goal.returns-then-not-has_type-clause-same
returns-then-not-has_type-clause-same g c =
    let xs = c.args.fields.now in
    let ys = c.args.children.now in
    let lx : c.loop-i.i < length xs = omega arith in
    (λ h. search rules, λ h. let e = type_at g.C.Child.child_type xs ys c.loop-i.i _ _ lx c.index-fields-i.is c.index-children-i.is h in search rules)

pub loop-i-preserved : goal.loop-i-preserved
loop-i-preserved g c =
    let f = g.C.Child.child_type in
    let is = g.C.Child.is_child in
    let xs = c.args.fields.now in
    let ys = c.args.children.now in
    let y = c.index-children-i.result in
    let lx : c.loop-i.i < length xs = omega arith in
    let ly : c.loop-i.i < length ys = omega arith in
    record {
      types = type_more f xs ys c.loop-i.i _ _ lx ly c.index-fields-i.is c.index-children-i.is (search rules) c.loop-i.invariant.types;
      valid = All-more is ys c.loop-i.i y ly c.loop-i.invariant.valid (subst is c.index-children-i.is c.data_type.ensures.valid);
    }

pub returns-clause-same : goal.returns-clause-same
returns-clause-same g c =
    let f = g.C.Child.child_type in
    let xs = c.args.fields.now in
    let ys = c.args.children.now in
    let n : length xs ≤ c.loop-i.i = omega arith in
    let m : length ys ≤ c.loop-i.i = omega arith in
    let whole = subst (λ fs. FieldTypes (fields_of (map field_view fs)) (map f (take c.loop-i.i ys))) (take_all c.loop-i.i xs n) c.loop-i.invariant.types in
    let all = subst (λ cs. FieldTypes (fields_of (map field_view xs)) (map f cs)) (take_all c.loop-i.i ys m) whole in
    (λ h. all, λ h. search rules)

pub returns-clause-valid : goal.returns-clause-valid
returns-clause-valid g c =
    let ys = c.args.children.now in
    let m : length ys ≤ c.loop-i.i = omega arith in
    λ h. subst (All g.C.Child.is_child) (take_all c.loop-i.i ys m) c.loop-i.invariant.valid
