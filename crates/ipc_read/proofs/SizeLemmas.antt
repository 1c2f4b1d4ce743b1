-- Encoded lengths, one after another.
use Rattle.std.proofs.Common.{arith, ◌≡◌, ℕ, ◌+◌, ◌<◌, List, length, take, get_or, Some, ap, sym, subst, ◌∙◌, inl, inr}
use Rattle.std.proofs.lemmas.Bool.{cases_lt}
use Rattle.std.proofs.lemmas.List.{get_or-take, length-take}
use Rattle.std.proofs.lemmas.List.Sums.{sum_by_more}
use Rattle.std.proofs.lemmas.Option.{get_or_from_slice_get}
use Rattle.std.specs.Prelude.{slice_get}
use Rattle.ipc_table_views.specs.declared.schema.Buffer.{Buffer}
use Rattle.ipc_model.specs.Entries.{IsSize, size}
use Rattle.ipc_read.specs.Sizes.{AreSizes, total_of}

pub total_more :
    (bs : List Buffer) (i : ℕ) (x : Buffer) → i < length bs → slice_get bs i ≡ Some x
    → total_of (take (i + 1) bs) ≡ total_of (take i bs) + size x.length
total_more bs i x h e =
    sum_by_more (λ (r : Buffer). size r.length) bs i x h
    ∙ ap (λ (r : Buffer). total_of (take i bs) + size r.length) (get_or_from_slice_get bs i x x e)

pub sizes_more :
    (bs : List Buffer) (i : ℕ) (x : Buffer) → i < length bs → slice_get bs i ≡ Some x → AreSizes (take i bs) → IsSize x.length
    → AreSizes (take (i + 1) bs)
sizes_more bs i x h e sizes here = record {
  each = λ k d l.
      let long = length-take (i + 1) bs in
      elim (cases_lt k i) [
        | inl below ↦
            let same : get_or (take i bs) k d ≡ get_or (take (i + 1) bs) k d =
            get_or-take i bs k d below ∙ sym (get_or-take (i + 1) bs k d (omega (arith, below)))
            in
            subst (λ (r : Buffer). IsSize r.length) same (sizes.each k d (omega (arith, length-take i bs, below, h)))
        | inr past ↦
            let at : k ≡ i = omega (arith, l, long, past) in
            let same : x ≡ get_or (take (i + 1) bs) k d =
            sym (get_or_from_slice_get bs i x d e) ∙ sym (get_or-take (i + 1) bs i d (omega arith)) ∙ ap (λ j. get_or (take (i + 1) bs) j d) (sym at)
            in
            subst (λ (r : Buffer). IsSize r.length) same here
      ];
}
