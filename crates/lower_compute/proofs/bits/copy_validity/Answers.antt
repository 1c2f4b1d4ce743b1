use Rattle.std.proofs.Common.{rules, ◌≡◌, map, ap}
use Rattle.std.specs.Prelude.{None}
use Rattle.std.specs.Option.{option_copied}
use Rattle.std.proofs.lemmas.List.Elements.{All-map, All-weaker}
use Rattle.lower_compute.proofs.RunPlaces.{none-validity}
use Rattle.lower_compute.proofs.bits.copy_validity.Goals as goal

pub returns-then-has_none : goal.returns-then-has_none
returns-then-has_none c =
    let bitmaps = c.args.bitmaps.now in
    none-validity (map option_copied bitmaps) c.args.runs.now c.requires
    (All-map (λ v. v ≡ None) option_copied bitmaps
    (All-weaker (λ b. b ≡ None) (λ b. option_copied b ≡ None) (λ b e. ap option_copied e) bitmaps (c.if-has_none.ensures (search rules))))
