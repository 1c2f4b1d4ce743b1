use Rattle.std.proofs.Common.{rules, ◌≡◌, ℕ, List, [], ◌∷◌, ◌++◌, map, sym, ap, ◌∙◌}
use Rattle.std.specs.Borrow.{Bor}
use Rattle.std.specs.Str.Parse.{digits_value}
use Rattle.std.proofs.lemmas.List.{map-append}
use Rattle.std.proofs.lemmas.Simd.{map-map}
use Rattle.std.proofs.lemmas.Iterator.Consumers.{YieldsList-at, YieldsList-end, YieldsList-turn}
use Rattle.std.proofs.lemmas.Iterator.Splits.{YieldsList-from_str_split}
use Rattle.ipc_programs.specs.CatWords.{pieces}
use Rattle.ipc_programs.proofs.Numbers.{decimal_at, none_read, number_read, one_too_great}
use Rattle.ipc_programs.proofs.cat.chosen.positions_in.Goals as goal

next_number : (yielded : List (Bor (List ℕ))) (piece : Bor (List ℕ)) (n : ℕ) (before after : List ℕ) → before ≡ map (λ (p : Bor (List ℕ)). digits_value 10 p.now) yielded → n ≡ digits_value 10 piece.now
    → after ≡ before ++ n ∷ [] → after ≡ map (λ (p : Bor (List ℕ)). digits_value 10 p.now) (yielded ++ piece ∷ [])
next_number yielded piece n before after so_far is pushed = rw map-append (pushed ∙ (λ i. so_far i ++ is i ∷ []))

pub loop-position-preserved : goal.loop-position-preserved
loop-position-preserved c =
    let word = c.args.word.now in
    let road = YieldsList-at c.into_iter-position-iterator.ensures.into_iter_gives (YieldsList-from_str_split 44 word (search rules) c.split-position-items.ensures.text c.split-position-items.ensures.has_more c.split-position-items.ensures.pattern) in
    let turn = YieldsList-turn road c.loop-position.yielded c.loop-position.position-iterator c.loop-position.yielded_by c.next.result c.next.new.self c.in-Some.position c.in-Some.is c.next.ensures.steps in
    let piece = c.in-Some.position.now in
    let decimal = decimal_at (pieces word) _ piece piece c.requires turn.0 turn.1 in
    let read = number_read piece decimal c.in-Ok.position c.in-Ok.ensures.value.0 in
    next_number c.loop-position.yielded c.in-Some.position c.in-Ok.position _ _ c.loop-position.invariant read.0 c.in_ok-push-in-Ok.ensures.items

pub returns-in-Err : goal.returns-in-Err
returns-in-Err c =
    let word = c.args.word.now in
    let road = YieldsList-at c.into_iter-position-iterator.ensures.into_iter_gives (YieldsList-from_str_split 44 word (search rules) c.split-position-items.ensures.text c.split-position-items.ensures.has_more c.split-position-items.ensures.pattern) in
    let turn = YieldsList-turn road c.loop-position.yielded c.loop-position.position-iterator c.loop-position.yielded_by c.next.result c.next.new.self c.in-Some.position c.in-Some.is c.next.ensures.steps in
    let piece = c.in-Some.position.now in
    let decimal = decimal_at (pieces word) _ piece piece c.requires turn.0 turn.1 in
    one_too_great (pieces word) _ piece piece turn.0 turn.1 (none_read piece decimal c.in-Err.ensures.value.0)

pub returns : goal.returns
returns c =
    let word = c.args.word.now in
    let road = YieldsList-at c.into_iter-position-iterator.ensures.into_iter_gives (YieldsList-from_str_split 44 word (search rules) c.split-position-items.ensures.text c.split-position-items.ensures.has_more c.split-position-items.ensures.pattern) in
    let all = YieldsList-end road c.loop-position.yielded c.loop-position.position-iterator c.loop-position.yielded_by c.next.result c.next.new.self c.in-None.is c.next.ensures.steps in
    c.loop-position.invariant ∙ sym (map-map _ _ _) ∙ ap (map (digits_value 10)) all.0
