use Rattle.std.proofs.Common.{◌≡◌, ℕ, List, ◌++◌, true, drop}
use Rattle.std.specs.Fmt.{HasWritten, IsPlainFormatter}
use Rattle.lower.specs.TypeViews.{fields_view, ids_of}
use Rattle.lower.specs.Texts.{joined_text, choices_text}
use Rattle.lower.proofs.datatypes.texts.+texts.Given as goal

-- what is written so far, and the text of the other fields, are the whole text
abbrev pub invariant-write_fields-loop-field : goal.invariant-write_fields-loop-field
invariant-write_fields-loop-field g l =
    IsPlainFormatter l.initial.f → (done : List ℕ) × HasWritten g.W.Write.write_str_gives l.initial.f done l.f
    × (done ++ joined_text l.between l.is_first (fields_view (drop l.field-index l.fields)) ≡ joined_text l.between true (fields_view l.fields))

abbrev pub invariant-write_choices-loop-i : goal.invariant-write_choices-loop-i
invariant-write_choices-loop-i g l =
    IsPlainFormatter l.initial.f → (done : List ℕ) × HasWritten g.W.Write.write_str_gives l.initial.f done l.f
    × (done ++ choices_text (ids_of l.ids) l.i (fields_view (drop l.i l.fields)) ≡ choices_text (ids_of l.ids) 0 (fields_view l.fields))
