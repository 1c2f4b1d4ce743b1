use Rattle.std.proofs.Common.{rules, ◌≡◌, ◌<◌, None, pos, get_or, subst, sym, ap, ◌∙◌}
use Rattle.std.specs.Option.{option_copied}
use Rattle.lower_arrays.specs.Layouts.{layouts, len_of}
use Rattle.lower_validation.specs.Ids.{union_ids, child_number}
use Rattle.lower_arrays.specs.Choices.{child, place_in}
use Rattle.lower_arrays.proofs.Unions.{index_bound}
use Rattle.lower_arrays.proofs.array.union.UnionArray.index.Goals as goal

pub returns-in-None-clause-bound : goal.returns-in-None-clause-bound
returns-in-None-clause-bound c =
    let a = c.args.self.now in
    let i = c.args.index in
    let number : c.child_number-number.result ≡ child_number (union_ids a.type) (get_or a.types i (pos 0)) = search rules in
    let none : a.offsets ≡ None = sym c.offsets.ensures.places ∙ ap option_copied c.in-None.is in
    let bound = index_bound a i c.offsets.ensures.valid c.requires in
    subst (λ k. i < len_of (child (layouts a.children) k)) (sym number)
    (subst (λ os. place_in os i < len_of (child (layouts a.children) (child_number (union_ids a.type) (get_or a.types i (pos 0))))) none bound)

pub returns-in-Some-clause-bound : goal.returns-in-Some-clause-bound
returns-in-Some-clause-bound c =
    let a = c.args.self.now in
    let i = c.args.index in
    let number : c.child_number-number.result ≡ child_number (union_ids a.type) (get_or a.types i (pos 0)) = search rules in
    let place : c.cast_unsigned.result ≡ place_in a.offsets i = search rules in
    let bound = index_bound a i c.offsets.ensures.valid c.requires in
    subst (λ k. c.cast_unsigned.result < len_of (child (layouts a.children) k)) (sym number)
    (subst (λ p. p < len_of (child (layouts a.children) (child_number (union_ids a.type) (get_or a.types i (pos 0))))) (sym place) bound)
