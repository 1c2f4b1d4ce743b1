use Rattle.std.proofs.Common.{arith, ◌*◌, ◌≡◌, ap, replicate, ◌∙◌}
use Rattle.std.proofs.lemmas.Result.{err_from_is_err_and}
use Rattle.lower.specs.TypeViews.{type_view}
use Rattle.lower_arrays.specs.AnyLayouts.{layout_of}
use Rattle.lower_nulls.proofs.FlatNulls.{fixed_room, fixed_breaks, fixed_nulls}
use Rattle.lower_nulls.proofs.flat.null_fixed_size_binary.Goals as goal

pub returns-in_default : goal.returns-in_default
returns-in_default c = fixed_room (type_view c.args.data_type) c.args.size c.args.length c.requires (omega (arith, c.in_default.ensures))

pub returns-in_err-array : goal.returns-in_err-array
returns-in_err-array c =
    let count : c.in-Some.count ≡ c.args.length * c.args.size = omega (arith, c.in-Some.ensures.1) in
    let values = c.in_ok-values.ensures ∙ c.in_ok-repeated.ensures ∙ ap (λ n. replicate n 0) count in
    let p = err_from_is_err_and c.from_residual-in_err-array.result c.from_residual-in_err-array.ensures.1 in
    rw (p.1, p.2) (fixed_breaks (type_view c.args.data_type) c.args.size c.args.length c.requires c.in_ok-values.values c.in_ok-validity.validity values c.in_ok-validity.ensures c.in_err-array.field-0.0 c.in_err-array.ensures)

pub returns : goal.returns
returns c =
    let count : c.in-Some.count ≡ c.args.length * c.args.size = omega (arith, c.in-Some.ensures.1) in
    let values = c.in_ok-values.ensures ∙ c.in_ok-repeated.ensures ∙ ap (λ n. replicate n 0) count in
    fixed_nulls (type_view c.args.data_type) c.args.size c.args.length c.requires c.in_ok-values.values c.in_ok-validity.validity values c.in_ok-validity.ensures c.in_ok-array.array (layout_of c.from.result) c.in_ok-array.ensures.0 c.in_ok-array.ensures.1 c.from.ensures
