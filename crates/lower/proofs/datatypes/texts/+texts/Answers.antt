use Rattle.std.proofs.Common.{◌≡◌, [], length, get_or, refl, sym, rules, arith}
use Rattle.std.proofs.lemmas.Grind.{common_steps}
use Rattle.std.proofs.Output.{has_written_append, has_written_of_eq}
use Rattle.lower.specs.TypeViews.{ids_of}
use Rattle.lower.proofs.JoinedTexts.{joined_more, joined_end, choices_more, choices_end}
use Rattle.lower.proofs.MapTexts.{map_other, not_struct, not_pair, map_whole}
use Rattle.lower.proofs.datatypes.texts.+texts.Goals as goal

pub write_fields-loop-field-init : goal.write_fields-loop-field-init
write_fields-loop-field-init g t c = λ plain. ([], search rules, refl)

pub write_fields-loop-field-preserved : goal.write_fields-loop-field-preserved
write_fields-loop-field-preserved g t c = λ plain.
    let (done, wrote, left) = c.loop-field.invariant plain in
    let one = c.write_str.ensures.writes wrote.plain (search rules) in
    let two = c.write_field.ensures one.plain (search rules) in (
      _,
      has_written_append _ _ _ _ _ _ (has_written_append _ _ _ _ _ _ wrote one) two,
      joined_more c.args.between.now c.loop-field.is_first c.args.fields.now c.loop-field.field-index _ done _ c.text_before.result.now (omega arith) (search rules) c.text_before.ensures left,
    )

pub write_fields-returns : goal.write_fields-returns
write_fields-returns g t c plain ok =
    let (done, wrote, left) = c.loop-field.invariant plain in
    has_written_of_eq _ _ _ _ _ (joined_end c.args.between.now c.loop-field.is_first c.args.fields.now c.loop-field.field-index done _ (omega arith) left) wrote

pub write_choices-loop-i-init : goal.write_choices-loop-i-init
write_choices-loop-i-init g t c = λ plain. ([], search rules, refl)

pub write_choices-loop-i-preserved : goal.write_choices-loop-i-preserved
write_choices-loop-i-preserved g t c = λ plain.
    let (done, wrote, left) = c.loop-i.invariant plain in
    let one = c.write_str.ensures.writes wrote.plain (search rules) in
    let two = c.write_field.ensures one.plain (search rules) in
    let three = c.write_id.ensures two.plain (search rules) in (
      _,
      has_written_append _ _ _ _ _ _ (has_written_append _ _ _ _ _ _ (has_written_append _ _ _ _ _ _ wrote one) two) three,
      choices_more (ids_of c.args.ids.now) c.args.fields.now c.loop-i.i _ done _ c.text_before.result.now (omega arith) (search rules) c.text_before.ensures left,
    )

pub write_choices-returns : goal.write_choices-returns
write_choices-returns g t c plain ok =
    let (done, wrote, left) = c.loop-i.invariant plain in
    has_written_of_eq _ _ _ _ _ (choices_end (ids_of c.args.ids.now) c.args.fields.now c.loop-i.i done _ (omega arith) left) wrote

pub write_map-returns-in_default : goal.write_map-returns-in_default
write_map-returns-in_default g t c plain ok =
    let p = c.args.pairs.now in
    has_written_of_eq _ _ _ _ _ (sym (map_other p c.args.is_sorted (not_struct p.data_type c.in_default.not-Struct))) (c.write_single.ensures plain ok)

pub write_map-returns-then-len-ne2 : goal.write_map-returns-then-len-ne2
write_map-returns-then-len-ne2 g t c plain ok =
    let p = c.args.pairs.now in
    let fs = c.in-Struct.fields in
    has_written_of_eq _ _ _ _ _
    (sym (map_other p c.args.is_sorted (not_pair p fs c.in-Struct.is (λ (two : length fs.items ≡ 2). first_of (omega (arith, two), grind (arith, common_steps, two))))))
    (c.write_single-then-len-ne2.ensures plain ok)

pub write_map-returns : goal.write_map-returns
write_map-returns g t c plain ok =
    let p = c.args.pairs.now in
    let fs = c.in-Struct.fields in
    let x = c.index.result.now in
    let y = c.index-2.result.now in
    let one = c.write_str.ensures.writes plain (search rules) in
    let two = c.write_member.ensures one.plain (search rules) in
    let three = c.write_str-2.ensures.writes two.plain (search rules) in
    let four = c.write_member-2.ensures three.plain (search rules) in
    let five = c.write_map_end.ensures four.plain ok in
    let length_two : length fs.items ≡ 2 = first_of (omega arith, grind (arith, common_steps)) in
    let first : x ≡ get_or fs.items 0 x = first_of (search rules, grind (arith, common_steps)) in
    let second : y ≡ get_or fs.items 1 y = first_of (search rules, grind (arith, common_steps)) in
    let all = has_written_append _ _ _ _ _ _ (has_written_append _ _ _ _ _ _ (has_written_append _ _ _ _ _ _ (has_written_append _ _ _ _ _ _ one two) three) four) five in
    has_written_of_eq _ _ _ _ _ (map_whole p fs c.args.is_sorted x y c.as_str.result.now c.in-Struct.is length_two first second c.as_str.ensures.value) all
