use Rattle.std.proofs.Common.{◌≡◌, ℕ, ◌<◌, List, length, map, true, false, arith}
use Rattle.std.specs.Prelude.{nat_eq}
use Rattle.std.specs.List.{list_any}
use Rattle.std.specs.Borrow.{Bor}
use Rattle.std.proofs.lemmas.Grind.{common_steps}
use Rattle.lower.proofs.ColumnSteps.{none_named, text_at, missing_cause, repeated_cause, named_more}
use Rattle.lower.proofs.datatypes.columns.columns_named.Goals as goal

pub loop-i-init : goal.loop-i-init
loop-i-init c = none_named c.args.schema.now.fields.items c.new-columns.result.items c.new-columns.ensures.items

pub returns-in_default-clause-error : goal.returns-in_default-clause-error
returns-in_default-clause-error c =
    let texts : List (List ℕ) = map (λ (n : Bor (List ℕ)). n.now) c.args.names.now in
    let below : c.loop-i.i < length c.args.names.now = omega arith in
    missing_cause c.args.schema.now.fields.items texts c.loop-i.columns.items c.loop-i.i _ c.index_of.result c.index_of.ensures c.in_default.not-Some
    (text_at c.args.names.now c.loop-i.i _ below) c.loop-i.invariant.0 c.loop-i.invariant.1

pub returns-then-contains-clause-error : goal.returns-then-contains-clause-error
returns-then-contains-clause-error c =
    let texts : List (List ℕ) = map (λ (n : Bor (List ℕ)). n.now) c.args.names.now in
    let below : c.loop-i.i < length c.args.names.now = omega arith in
    let again : list_any (λ y. nat_eq y c.in-Some.column) c.loop-i.columns.items ≡ true = grind (arith, common_steps) in
    repeated_cause c.args.schema.now.fields.items texts c.loop-i.columns.items c.loop-i.i _ c.index_of.result c.in-Some.column c.index_of.ensures c.in-Some.is
    (text_at c.args.names.now c.loop-i.i _ below) again c.loop-i.invariant.0 c.loop-i.invariant.1

pub loop-i-preserved : goal.loop-i-preserved
loop-i-preserved c =
    let texts : List (List ℕ) = map (λ (n : Bor (List ℕ)). n.now) c.args.names.now in
    let below : c.loop-i.i < length c.args.names.now = omega arith in
    let new : list_any (λ y. nat_eq y c.in-Some.column) c.loop-i.columns.items ≡ false = grind (arith, common_steps) in
    named_more c.args.schema.now.fields.items texts c.loop-i.columns.items _ c.loop-i.i _ c.index_of.result c.in-Some.column c.index_of.ensures c.in-Some.is
    (text_at c.args.names.now c.loop-i.i _ below) new c.in_ok-push.ensures.items c.loop-i.invariant.0 c.loop-i.invariant.1
