use Rattle.std.proofs.Common.{rules, ◌≡◌, ◌∙◌, Err, ap}
use Rattle.ipc_model.specs.Entries.{Limit}
use Rattle.ipc_file_readers.proofs.Nexts.{less_nothing}
use Rattle.ipc_file_readers.specs.Readers.{less, remaining_of}
use Rattle.ipc_file_readers.proofs.read.reader.state.FileReader.read_next.Goals as goal

pub returns-in_err-chunk : goal.returns-in_err-chunk
returns-in_err-chunk g c =
    let gave = c.in_err-chunk.ensures.gave in
    let is : c.from_residual.result ≡ Err c.in_err-chunk.field-0.0 = search rules in
    rw is (record {
      next = record {
        file = record { described = gave.file.described; asked = gave.file.asked; shown = gave.file.shown };
        block = gave.block;
        remaining = gave.remaining ∙ less_nothing (remaining_of c.args.self.now);
        held = gave.held;
        values = gave.values;
        room = gave.room;
        asked = record { monotone = gave.asked.monotone; failed = gave.asked.failed; told = gave.asked.told; whole = gave.asked.whole; names = gave.asked.names; answered = gave.asked.answered };
        chunk = gave.chunk;
      };
    })

pub returns : goal.returns
returns g c =
    let gave = c.in_ok-chunk.ensures.gave in
    record {
      next = record {
        file = record { described = gave.file.described; asked = gave.file.asked; shown = gave.file.shown };
        block = gave.block;
        remaining = c.less-self.ensures ∙ ap (λ (l : Limit). less l c.len.result) gave.remaining ∙ ap (less (remaining_of c.args.self.now)) c.len.ensures.rows;
        held = gave.held;
        values = gave.values;
        room = gave.room;
        asked = record { monotone = gave.asked.monotone; failed = tt; told = gave.asked.told; whole = gave.asked.whole; names = gave.asked.names; answered = tt };
        chunk = gave.chunk;
      };
    }
