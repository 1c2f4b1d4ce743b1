use Rattle.std.proofs.Common.{rules, refl, arith, ◌≡◌, ◌∙◌, ℤ, true, false, Option, None, Some, Err, sym, subst}
use Rattle.ipc_read_flat.specs.Bodies.{known_dictionaries, array_under}
use Rattle.ipc_file_readers.proofs.Blocks.{known_already, not_unread, values_already, none_known}
use Rattle.std.specs.Prelude.{option_map}
use Rattle.lower_arrays.specs.Layouts.{Layout}
use Rattle.ipc_model.specs.Entries.{Dictionaries}
use Rattle.ipc_model.specs.Files.{file_dictionaries}
use Rattle.ipc_files.specs.Footers.{file_seen}
use Rattle.ipc_file_readers.specs.Readers.{AreKnown, HoldValues, values_in}
use Rattle.ipc_file_readers.proofs.read.reader.state.FileReader.read_dictionaries.Goals as goal

pub returns-then-is_some : goal.returns-then-is_some
returns-then-is_some g c = record {
  gave = record {
    file = record { described = refl; asked = refl; shown = refl };
    block = refl;
    remaining = refl;
    room = omega arith;
    message = refl;
    asked = record { monotone = omega arith; failed = tt; told = refl; whole = λ _. refl; names = refl; answered = tt };
    are = known_already known_dictionaries c.args.self.now.dictionaries g.R.Failures.device.is_memory _ (search rules);
    holds = values_already c.args.self.now.dictionaries g.R.Failures.device.is_memory _ _ (search rules);
    left_alone = λ ds e. refl;
    bytes = λ e. absurd (not_unread known_dictionaries c.args.self.now.dictionaries (search rules) e);
    some = tt;
    unread = tt;
    stay_unread = tt;
    only = tt;
    refused = λ k. tt;
    reason = λ k. tt;
  };
}

pub returns-in_err-read : goal.returns-in_err-read
returns-in_err-read g c =
    let old = c.args.self.now in
    let e = c.in_err-read.field-0.0 in
    let is : c.from_residual.result ≡ Err e = search rules in
    let read = c.in_err-read.ensures.dictionaries in
    let unread : option_map known_dictionaries old.dictionaries ≡ None = none_known known_dictionaries old.dictionaries (search rules) in
    rw is (record {
      gave = record {
        file = record { described = refl; asked = refl; shown = refl };
        block = refl;
        remaining = refl;
        room = c.in_err-read.ensures.scratch;
        message = refl;
        asked = record { monotone = read.device.monotone; failed = read.device.failed; told = read.device.told; whole = read.device.whole; names = read.device.names; answered = read.device.answered };
        are = tt;
        holds = tt;
        left_alone = λ ds known. let no : None ≡ Some ds = sym unread ∙ known in absurd cc;
        bytes = λ _. read.bounds.given;
        some = λ empty. let no : false ≡ true = read.none empty in absurd cc;
        unread = unread;
        stay_unread = unread;
        only = read.causes.kind;
        refused = read.exact;
        reason = read.causes.reason;
      };
    })

pub returns : goal.returns
returns g c =
    let old = c.args.self.now in
    let d = g.R.Failures.device in
    let read = c.in_ok-read.ensures.dictionaries in
    let source = (d.memory old.reader).whole in
    let m = file_seen old.metadata in
    let unread : option_map known_dictionaries old.dictionaries ≡ None = none_known known_dictionaries old.dictionaries (search rules) in
    let ds = known_dictionaries c.in_ok-read.read in
    let after : Option ℤ → Layout = λ id. array_under c.in_ok-read.read id in
    record {
      gave = record {
        file = record { described = refl; asked = refl; shown = refl };
        block = refl;
        remaining = refl;
        room = c.in_ok-read.ensures.scratch;
        message = refl;
        asked = record { monotone = read.device.monotone; failed = tt; told = read.device.told; whole = read.device.whole; names = read.device.names; answered = tt };
        are = (ds, refl, subst (λ (o : Option Dictionaries). AreKnown d.is_memory o (file_dictionaries m source) ds) (sym unread) read.exact);
        holds = subst (λ (o : Option Dictionaries). HoldValues d.is_memory m source o (λ id. values_in old.dictionaries id) after) (sym unread) read.bounds.held;
        left_alone = λ es known. let no : None ≡ Some es = sym unread ∙ known in absurd cc;
        bytes = λ _. read.bounds.given;
        some = tt;
        unread = tt;
        stay_unread = tt;
        only = tt;
        refused = λ k. tt;
        reason = λ k. tt;
      };
    }
