use Rattle.std.proofs.Common.{ℕ, ◌≡◌, ◌^◌, ltb, rules, tests, refl, sym, ◌∙◌, List, ap, true, false, Some, Result, Ok, Err}
use Rattle.std.specs.Result.{result_ok}
use Rattle.std.specs.Str.Parse.{digits_value, ParsesUnsigned}
use Rattle.ipc_programs.specs.CatWords.{is_decimal, limit_named}
use Rattle.ipc_programs.proofs.Numbers.{none_read, number_read}
use Rattle.ipc_programs.proofs.cat.forms.limit_in.Goals as goal

named : {E : Type 0} (word : List ℕ) (r : Result ℕ E) → ParsesUnsigned 64 10 word r → is_decimal word ≡ true → result_ok r ≡ limit_named word
named word (Ok n) h decimal =
    let gives = number_read word decimal n h in
    let below = gives.1 in
    let small : ltb (digits_value 10 word) (2 ^ 64) ≡ true = search (rules, tests, below) in
    rw decimal (rw small (ap Some gives.0))
named word (Err e) h decimal =
    let above = none_read word decimal h in
    let large : ltb (digits_value 10 word) (2 ^ 64) ≡ false = search (rules, tests, above) in
    rw decimal (rw large refl)

pub returns-then-is_decimal : goal.returns-then-is_decimal
returns-then-is_decimal c = c.ok.ensures.value ∙ named c.args.word.now c.parse.result c.parse.ensures.value.0 (sym c.is_decimal.ensures ∙ c.if-is_decimal.true)
