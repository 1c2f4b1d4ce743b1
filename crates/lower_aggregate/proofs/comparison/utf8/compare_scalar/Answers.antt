use Rattle.std.proofs.Common.{arith, ◌≡◌, IfOk, ℕ, List, ap, ap₂, subst, ◌∙◌}
use Rattle.std.specs.Ordering.{nat_cmp}
use Rattle.std.specs.Option.{option_copied}
use Rattle.std.specs.Cmp.Lexicographic.{slice_cmp}
use Rattle.lower.specs.TypeTrees.{plain, boolean}
use Rattle.lower_flat_arrays.specs.Booleans.{BooleanSeen, boolean_seen}
use Rattle.lower_flat_arrays.specs.Spans.{span_count}
use Rattle.lower_aggregate.specs.Compared.{passes}
use Rattle.lower_aggregate.proofs.Steps.{span_more, span_end, span_fits}
use Rattle.lower_aggregate.proofs.comparison.utf8.compare_scalar.Goals as goal

pub loop-index-preserved : goal.loop-index-preserved
loop-index-preserved g c =
    let a = c.args.lhs.now in
    let f = λ (s : List ℕ). passes c.args.operator (slice_cmp nat_cmp s c.args.rhs.now) in
    span_more f a.offsets a.values c.loop-index.index c.loop-index.bits c.loop-index.invariant c.push.new.self c.passes.result c.in_ok-push.ensures
    (c.passes.ensures ∙ ap (passes c.args.operator) c.cmp.ensures ∙ ap f c.value.ensures)

pub booleans-requires : goal.booleans-requires
booleans-requires g c =
    let a = c.args.lhs.now in
    let f = λ (s : List ℕ). passes c.args.operator (slice_cmp nat_cmp s c.args.rhs.now) in
    let all : c.loop-index.index ≡ span_count a.offsets = omega (arith, c.loop-index-test.false, c.len-index-end.ensures.len) in
    span_fits f a.offsets a.values c.loop-index.index c.loop-index.bits c.loop-index.invariant all a.validity (option_copied c.validity.result) c.validity.ensures.bits c.validity.ensures.valid.fits

pub returns : goal.returns
returns g c =
    let a = c.args.lhs.now in
    let f = λ (s : List ℕ). passes c.args.operator (slice_cmp nat_cmp s c.args.rhs.now) in
    let all : c.loop-index.index ≡ span_count a.offsets = omega (arith, c.loop-index-test.false, c.len-index-end.ensures.len) in
    let bits = span_end f a.offsets a.values c.loop-index.index c.loop-index.bits c.loop-index.invariant all in
    subst (λ (s : BooleanSeen). IfOk c.booleans.result (λ r. r ≡ s)) (ap₂ (boolean_seen (plain boolean)) bits c.validity.ensures.bits) c.booleans.ensures
