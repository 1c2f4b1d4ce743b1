use Rattle.std.proofs.Common.{ℕ, ◌≡◌, rules, tests, refl, sym, ◌∙◌, List, true, false, bytes_eq, codes, Some, None}
use Rattle.std.specs.List.{list_all}
use Rattle.std.proofs.lemmas.Iterator.Splits.{YieldsList-from_str_split}
use Rattle.std.proofs.lemmas.Iterator.Search.{all_from_yields_List}
use Rattle.ipc_programs.specs.CatWords.{columns_named, is_decimal, pieces, positions_named}
use Rattle.ipc_programs.proofs.cat.forms.columns_in.Goals as goal

some : (word : List ℕ) → false ≡ bytes_eq word (codes "-") → list_all is_decimal (pieces word) ≡ true → Some (Some (positions_named word)) ≡ columns_named word
some word other decimal = rw (sym other) (rw decimal refl)

none : (word : List ℕ) → false ≡ bytes_eq word (codes "-") → list_all is_decimal (pieces word) ≡ false → None ≡ columns_named word
none word other decimal = rw (sym other) (rw decimal refl)

pub returns-then-all : goal.returns-then-all
returns-then-all c =
    let word = c.args.word.now in
    let decimal = all_from_yields_List is_decimal _ _ c.all.result c.all.ensures.ran (YieldsList-from_str_split 44 word (search rules) c.split.ensures.text c.split.ensures.has_more c.split.ensures.pattern) (λ x b q k. search (rules, tests)) in
    let numbers = sym decimal ∙ c.if-all.true in
    record { is = some word (c.if-eq.ensures) numbers; numbers = numbers }

pub returns-clause-is : goal.returns-clause-is
returns-clause-is c =
    let word = c.args.word.now in
    let decimal = all_from_yields_List is_decimal _ _ c.all.result c.all.ensures.ran (YieldsList-from_str_split 44 word (search rules) c.split.ensures.text c.split.ensures.has_more c.split.ensures.pattern) (λ x b q k. search (rules, tests)) in
    none word (c.if-eq.ensures) (sym decimal ∙ c.if-all.false)
