use Rattle.std.proofs.Common.{◌≡◌, ◌-◌, ◌/◌, ◌^◌}
use Rattle.lower_display.specs.Wide.{digit_count, groups_value}
use Rattle.lower_display.proofs.wide.count_digits.Given as goal

-- the digits before are 0
abbrev pub invariant-loop-index : goal.invariant-loop-index
invariant-loop-index l =
    digit_count (76 - l.index) (groups_value l.groups / 10 ^ l.scale) ≡ digit_count 76 (groups_value l.groups / 10 ^ l.scale)
