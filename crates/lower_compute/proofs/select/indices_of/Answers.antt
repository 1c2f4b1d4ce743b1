use Rattle.std.proofs.Common.{arith, ◌≡◌, ◌+◌, ◌<◌, [], ◌∷◌, ◌++◌, true, false, length, take, set, sym, ap, ap₂, ◌∙◌}
use Rattle.std.proofs.lemmas.List.{length-set, take_more_set}
use Rattle.lower_compute.specs.Selections.{is_true_at}
use Rattle.lower_compute.proofs.Selecting.{kept_more, left_out, count_more, count_least}
use Rattle.lower_compute.proofs.select.indices_of.Goals as goal
use Rattle.lower_compute.proofs.select.indices_of.Goals.{then-is_true, else-is_true}

pub index_mut-requires : goal.index_mut-requires
index_mut-requires c =
    let p = is_true_at c.args.mask.now in
    let i = c.loop-index.index in
    let more = count_more p i (sym c.is_true.ensures ∙ c.if-is_true.true) in
    let least = count_least p (length c.args.mask.now.values) (i + 1) (omega (arith, c.loop-index-test.true, c.len-index-end.ensures.len)) in
    let all = c.loop-index.invariant.0 in
    let count = c.loop-index.invariant.1 in
    omega (arith, more, least, all, count)

pub loop-index-preserved : goal.loop-index-preserved
loop-index-preserved c =
    let p = is_true_at c.args.mask.now in
    let i = c.loop-index.index in
    let n = c.loop-index.count in
    let old = c.loop-index.indices.items in
    elim c.if-is_true.branch [
      | then-is_true w ↦
          let on : p i ≡ true = sym c.is_true.ensures ∙ w.if-is_true.true in
          let more = count_more p i on in
          let least = count_least p (length c.args.mask.now.values) (i + 1) (omega (arith, c.loop-index-test.true, c.len-index-end.ensures.len)) in
          let all = c.loop-index.invariant.0 in
          let count = c.loop-index.invariant.1 in
          let lt : n < length old = omega (arith, more, least, all, count) in
          let items : c.if-is_true.indices.items ≡ set old n i = ap (λ v. v.items) w.indices-is in (
            ap (λ l. length l) items ∙ length-set old n i ∙ all,
            w.count-is ∙ ap (λ m. m + 1) count ∙ sym more,
            ap₂ (λ m l. take m l) w.count-is items ∙ take_more_set old n i lt ∙ ap (λ l. l ++ i ∷ []) c.loop-index.invariant.2 ∙ sym (kept_more p i on),
          )
      | else-is_true w ↦
          let off : p i ≡ false = sym c.is_true.ensures ∙ w.if-is_true.false in (
            ap (λ v. length v.items) w.indices-is ∙ c.loop-index.invariant.0,
            w.count-is ∙ c.loop-index.invariant.1 ∙ sym (ap (λ l. length l) (left_out p i off)),
            ap₂ (λ m v. take m v.items) w.count-is w.indices-is ∙ c.loop-index.invariant.2 ∙ sym (left_out p i off),
          )
    ]
