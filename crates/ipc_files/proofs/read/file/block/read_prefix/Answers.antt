use Rattle.std.proofs.Common.{rules, ◌≡◌, ◌∙◌, ℕ, List, Err, sym, ap}
use Rattle.ipc_devices.specs.Device.{after}
use Rattle.ipc_model.specs.Frame.{sized}
use Rattle.ipc_files.proofs.BlockFrames.{older-prefix, older-number, refused-number, refused-prefix, second-number, second-word}
use Rattle.ipc_files.proofs.read.file.block.read_prefix.Goals as goal

pub returns-in_err-first-clause-memory : goal.returns-in_err-first-clause-memory
returns-in_err-first-clause-memory g c = λ k.
    let e = c.in_err-first.field-0.0 in
    let is : c.from_residual.result ≡ Err e = search rules in
    rw is (refused-prefix (after (g.R.Failures.device.memory c.args.reader.now)) e (c.in_err-first.ensures.memory k))

pub returns-then-first-clause-memory : goal.returns-then-first-clause-memory
returns-then-first-clause-memory g c = λ k.
    let read = c.in_ok-first.ensures.memory k in
    older-prefix (after (g.R.Failures.device.memory c.args.reader.now)) c.in_ok-first.first read.0 read.1 (λ e. absurd (c.if-first.true e))
    ∙ ap (λ (rest : List ℕ). sized c.in_ok-first.first rest) (sym (c.in_ok-first.ensures.left k))

pub returns-clause-memory : goal.returns-clause-memory
returns-clause-memory g c = λ k.
    let read = c.in_ok-first.ensures.memory k in
    second-word (after (g.R.Failures.device.memory c.args.reader.now)) (after (g.R.Failures.device.memory c.read_word.new.reader)) (after (g.R.Failures.device.memory c.read_word-2.new.reader))
    c.read_word-2.result (c.in_ok-first.ensures.left k) read.0 (sym read.1 ∙ c.if-first.false) (c.read_word-2.ensures.memory k) (c.read_word-2.ensures.left k)

pub returns-in_err-first-clause-number : goal.returns-in_err-first-clause-number
returns-in_err-first-clause-number g c = λ k.
    let e = c.in_err-first.field-0.0 in
    let is : c.from_residual.result ≡ Err e = search rules in
    rw is (refused-number (after (g.R.Failures.device.memory c.args.reader.now)) e (c.in_err-first.ensures.memory k))

pub returns-then-first-clause-number : goal.returns-then-first-clause-number
returns-then-first-clause-number g c = λ k.
    let read = c.in_ok-first.ensures.memory k in
    older-number (after (g.R.Failures.device.memory c.args.reader.now)) c.in_ok-first.first read.0 read.1 (λ e. absurd (c.if-first.true e))

pub returns-clause-number : goal.returns-clause-number
returns-clause-number g c = λ k.
    let read = c.in_ok-first.ensures.memory k in
    second-number (after (g.R.Failures.device.memory c.args.reader.now)) (after (g.R.Failures.device.memory c.read_word.new.reader)) c.read_word-2.result
    (c.in_ok-first.ensures.left k) read.0 (sym read.1 ∙ c.if-first.false) (c.read_word-2.ensures.memory k)
