use Rattle.std.proofs.Common.{◌≡◌, map, string_bytes, None, Global}
use Rattle.ipc_programs.specs.ConvertWords.{asked}
use Rattle.ipc_programs.proofs.Reasons.{of_known}
use Rattle.ipc_programs.proofs.convert.entry.start.Goals as goal

pub returns-clause-usage : goal.returns-clause-usage
returns-clause-usage g c =
    of_known (λ known. asked (map (string_bytes {Z = Global}) known.items) ≡ None → c.run.result ≡ 2) c.args.words c.known_words.result c.in-Ok.words c.known_words.ensures.given c.in-Ok.is
    (λ none. c.run.ensures.causes.usage (rw c.deref-2.ensures.value none))
