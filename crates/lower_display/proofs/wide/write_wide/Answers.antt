use Rattle.std.proofs.Common.{rules, ◌≡◌, ◌∙◌, ◌++◌}
use Rattle.std.proofs.Output.{has_written_append, has_written_of_eq}
use Rattle.std.specs.Fmt.{sign_text}
use Rattle.std.specs.Int.{is_negative}
use Rattle.lower_display.specs.Wide.{groups_value, size_text, wide_size, wide_text}
use Rattle.lower_display.proofs.wide.write_wide.Goals as goal

pub returns : goal.returns
returns g c plain ok =
    let one = c.write_str.ensures.writes plain (search rules) in
    let two = c.write_size.ensures one.plain ok in
    let sign : c.sign_of.result.now ≡ sign_text (is_negative c.args.number.high) = search rules in
    let size : groups_value c.groups_of-groups.result ≡ wide_size c.args.number.high c.args.number.low =
    c.groups_of-groups.ensures.value ∙ c.size_of.ensures.value
    in
    let text : c.sign_of.result.now ++ size_text c.args.scale (groups_value c.groups_of-groups.result) ≡ wide_text c.args.scale c.args.number.high c.args.number.low =
    λ i. sign i ++ size_text c.args.scale (size i)
    in
    has_written_of_eq _ _ _ _ _ text (has_written_append _ _ _ _ _ _ one two)
