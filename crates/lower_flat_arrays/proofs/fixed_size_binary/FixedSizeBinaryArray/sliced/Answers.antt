use Rattle.std.proofs.Common.{arith, ◌≡◌, ap}
use Rattle.lower.specs.TypeViews.{type_view}
use Rattle.lower_flat_arrays.specs.FixedBinaries.{FixedBinarySeen}
use Rattle.lower_flat_arrays.proofs.Sizes.{slots_within, cut_fixed_is}
use Rattle.lower_flat_arrays.proofs.fixed_size_binary.FixedSizeBinaryArray.sliced.Goals as goal

pub sliced-requires : goal.sliced-requires
sliced-requires c =
    let all : FixedBinarySeen = record { type = type_view c.self.inside.data_type; size = c.self.inside.size; len = c.self.inside.len; values = c.self.inside.values; validity = c.self.inside.validity } in
    let count : c.self.inside.len ≡ c.args.self.len = ap (λ a. a.len) c.self.view_is in
    slots_within all c.args.offset c.args.len c.self.invariant (omega (arith, count, c.requires))

pub invariant_of-result : goal.invariant_of-result
invariant_of-result c =
    let all : FixedBinarySeen = record { type = type_view c.self.inside.data_type; size = c.self.inside.size; len = c.self.inside.len; values = c.self.inside.values; validity = c.self.inside.validity } in
    let count : c.self.inside.len ≡ c.args.self.len = ap (λ a. a.len) c.self.view_is in
    rw (c.sliced.ensures, c.sliced_validity.ensures) (cut_fixed_is all c.args.offset c.args.len c.self.invariant (omega (arith, count, c.requires)))
