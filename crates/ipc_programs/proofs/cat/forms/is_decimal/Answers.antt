use Rattle.std.proofs.Common.{ℕ, ◌≡◌, rules, tests, sym, List, length, Bool, false}
use Rattle.std.specs.Bool.{◌==◌}
use Rattle.std.specs.Char.{is_ascii_digit}
use Rattle.std.specs.List.{list_all}
use Rattle.std.proofs.lemmas.Iterator.Adapters.{YieldsList-from_bytes}
use Rattle.std.proofs.lemmas.Iterator.Search.{all_from_yields_List}
use Rattle.ipc_programs.specs.CatWords.{is_decimal}
use Rattle.ipc_programs.proofs.cat.forms.is_decimal.Goals as goal

filled : (word : List ℕ) (empty digits : Bool) → empty ≡ (length word == 0) → empty ≡ false → digits ≡ list_all is_ascii_digit word → digits ≡ is_decimal word
filled word empty digits e f d = rw (sym e) (rw f d)

pub returns-then-not-is_empty : goal.returns-then-not-is_empty
returns-then-not-is_empty c =
    let word = c.args.word.now in
    filled word c.is_empty.result c.all.result c.is_empty.ensures c.if-not-is_empty.true
    (all_from_yields_List is_ascii_digit _ _ c.all.result c.all.ensures.ran (YieldsList-from_bytes word c.bytes.ensures.rest) (λ x b q k. search (rules, tests)))
