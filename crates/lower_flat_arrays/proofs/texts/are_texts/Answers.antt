use Rattle.std.proofs.Common.{rules, tests, take, drop, subst}
use Rattle.std.specs.Str.{IsUtf8}
use Rattle.lower_flat_arrays.proofs.TextRuns.{first_in, ascii_texts, front_texts, front_utf8, front_cut}
use Rattle.lower_flat_arrays.proofs.texts.are_texts.Goals as goal

pub returns-then-are_ascii : goal.returns-then-are_ascii
returns-then-are_ascii g c =
    let t = ascii_texts c.args.offsets.now c.args.values.now c.last.result c.last.ensures.offsets c.last.ensures.value c.requires (search rules) in
    (λ yes. t, λ texts. search rules)

pub is_utf8_from-requires : goal.is_utf8_from-requires
is_utf8_from-requires g c =
    rw c.get.ensures (first_in c.args.offsets.now c.args.values.now c.last.result c.last.ensures.offsets c.last.ensures.value c.requires)

pub returns-then-is_utf8_from : goal.returns-then-is_utf8_from
returns-then-is_utf8_from g c =
    let os = c.args.offsets.now in
    let xs = c.args.values.now in
    let bs = take c.last.result xs in (
      (λ yes. front_texts os xs c.last.result c.last.ensures.offsets c.last.ensures.value c.requires (subst (λ k. IsUtf8 (drop k bs)) c.get.ensures (c.is_utf8_from.ensures.0 (search (rules, tests)))) (c.are_cut.ensures.0 yes)),
      (λ t. c.are_cut.ensures.1 (front_cut os xs c.last.result c.last.ensures.offsets c.last.ensures.value c.requires t)),
    )

pub returns-else-is_utf8_from : goal.returns-else-is_utf8_from
returns-else-is_utf8_from g c =
    let os = c.args.offsets.now in
    let xs = c.args.values.now in (
      (λ yes. search (rules, tests)),
      (λ t. c.is_utf8_from.ensures.1 (rw c.get.ensures (front_utf8 os xs c.last.result c.last.ensures.offsets c.last.ensures.value c.requires t))),
    )
