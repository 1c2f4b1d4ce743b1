use Rattle.std.proofs.Common.{refl, ◌≡◌, pos, ◌+◌, [], ◌∷◌, ◌++◌, get_or, set, sym, ap, subst, ◌∙◌}
use mir.Val.{SFits}
use Rattle.std.specs.Int.{w32}
use Rattle.std.proofs.lemmas.Int.{to_z-of_z}
use Rattle.std.proofs.lemmas.List.{get_or_default}
use Rattle.lower_compute.proofs.LoopSteps.{dense_pushed}
use Rattle.lower_compute.proofs.unions.push_dense.Goals as goal

pub returns : goal.returns
returns c =
    let k = c.args.child in
    let os = c.args.offsets.now.items in
    let ps = c.args.parts.now.items in
    let lens = c.args.lens.now.items in
    let len : c.index-len.result.now ≡ get_or lens k 0 = c.index-len.ensures ∙ get_or_default lens k c.index-len.result.now 0 c.requires.1 in
    let fits : SFits w32 c.in-Ok.offset = subst (SFits w32) (sym c.in-Ok.ensures.1) c.in-Ok.ensures.0 in
    dense_pushed (λ v. v.items) k c.args.array c.args.index os c.push.new.self.items ps (set ps k c.push_slot.new.runs) c.index_mut.result.now c.push_slot.new.runs lens
    (set lens k (c.index-len.result.now + 1)) c.requires.0 c.index_mut.ensures.value refl
    c.in_ok-push_slot.ensures.slots c.in_ok-push_slot.ensures.some
    (c.in_ok-push.ensures.items ∙ ap (λ z. os ++ z ∷ []) (to_z-of_z w32 c.in-Ok.offset fits ∙ c.in-Ok.ensures.1 ∙ ap (λ n. pos n) len))
    (ap (λ n. set lens k (n + 1)) len)
