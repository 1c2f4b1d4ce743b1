use Rattle.std.proofs.Common.{arith, refl, ◌≡◌, ℕ, ◌+◌, ◌<◌, ◌++◌, length, map, sym, ap, subst, ◌∙◌}
use Rattle.std.specs.List.{range_with_len}
use Rattle.std.proofs.lemmas.List.{length-map, length-set, append-nil}
use Rattle.lower_arrays.specs.Layouts.{layouts, len_of}
use Rattle.lower_arrays.specs.Children.{child_count}
use Rattle.lower_arrays.specs.Choices.{child}
use Rattle.lower_arrays.specs.AnyLayouts.{layout_of}
use Rattle.lower_arrays.proofs.Choices.{child_is}
use Rattle.lower_arrays.proofs.Children.{children_counted}
use Rattle.lower_compute.specs.Variants.{AreRecorded}
use Rattle.lower_compute.proofs.LoopSteps.{dense_more, run_more}
use Rattle.lower_compute.proofs.unions.append_dense.Goals as goal

pub bounds-fields-child : goal.bounds-fields-child
bounds-fields-child c =
    let xs = c.fields.result.now in
    let count : child_count (layouts c.args.array.now.children) ≡ length xs = ap (λ ls. child_count (layouts ls)) (sym c.fields.ensures.children) ∙ children_counted xs in
    omega (arith, count, c.index-child.ensures.child)

pub prove-unreachable-requires-in-loop-i : goal.prove-unreachable-requires-in-loop-i
prove-unreachable-requires-in-loop-i c =
    let xs = c.fields.result.now in
    let x = c.index-fields-child.result in
    let k = c.index-child.result.0 in
    let count : child_count (layouts c.args.array.now.children) ≡ length xs = ap (λ ls. child_count (layouts ls)) (sym c.fields.ensures.children) ∙ children_counted xs in
    let at : k < length xs = omega (arith, count, c.index-child.ensures.child) in
    let own : len_of (child (layouts c.args.array.now.children) k) ≡ len_of (layout_of x) =
    ap (λ ls. len_of (child (layouts ls) k)) (sym c.fields.ensures.children) ∙ ap len_of (child_is xs k x at c.index-fields-child.is)
    in
    omega (arith, own, c.index-child.ensures.bound, c.len-in-loop-i.ensures.len, c.if-prove-2.true)

pub loop-i-init : goal.loop-i-init
loop-i-init c = (
  refl,
  refl,
  λ ls ps at lt was.
      subst (λ qs. AreRecorded ls (length c.args.parts.now.items) qs c.args.offsets.now.items (map (λ v. v.items) c.args.parts.now.items) c.args.lens.now.items) (sym (append-nil ps)) was,
)

pub loop-i-preserved : goal.loop-i-preserved
loop-i-preserved c =
    let a = c.args.array.now in
    let o = c.args.offset in
    let i = c.loop-i.i in
    let n = length c.args.parts.now.items in
    let k = c.index-child.result.0 in
    let push = c.in_ok-push_dense.ensures in
    let ps0 = c.loop-i.parts.items in
    let ps1 = c.push_dense.new.parts.items in
    let parts : length ps1 ≡ length ps0 = sym (length-map ps1 (λ v. v.items)) ∙ push.count ∙ length-map ps0 (λ v. v.items) in
    let lens : length c.push_dense.new.lens.items ≡ length c.loop-i.lens.items = ap (λ l. length l) push.more ∙ length-set c.loop-i.lens.items k _ in
    let low : k < n =
    let there = c.requires.counts.0 in
    let child = c.index-child.ensures.child in
    omega (arith, there, child)
    in (
      parts ∙ c.loop-i.invariant.0,
      lens ∙ c.loop-i.invariant.1,
      λ ls ps at first was.
          subst (λ qs. AreRecorded ls n qs c.push_dense.new.offsets.items (map (λ v. v.items) ps1) c.push_dense.new.lens.items) (sym (run_more ps c.args.number o i))
          (dense_more a ls n (ps ++ map {B = ℕ × ℕ} (λ j. (c.args.number, j)) (range_with_len o i)) c.loop-i.offsets.items c.push_dense.new.offsets.items
          (map (λ v. v.items) ps0) (map (λ v. v.items) ps1) c.loop-i.lens.items c.push_dense.new.lens.items c.args.number (o + i) k c.index-child.result.1 at first
          (c.loop-i.invariant.2 ls ps at first was) c.index-child.ensures.number c.index-child.ensures.place low c.index-child.ensures.bound push),
    )

pub returns-clause-recorded : goal.returns-clause-recorded
returns-clause-recorded c =
    let all : c.loop-i.i ≡ c.args.len = omega (arith, c.loop-i-test.false, c.loop-i.auto.i-end) in
    λ ls ps at first was.
    subst (λ m. AreRecorded ls (length c.args.parts.now.items) (ps ++ map {B = ℕ × ℕ} (λ j. (c.args.number, j)) (range_with_len c.args.offset m))
    c.loop-i.offsets.items (map (λ v. v.items) c.loop-i.parts.items) c.loop-i.lens.items) all (c.loop-i.invariant.2 ls ps at first was)
