use Rattle.std.proofs.Common.{rules, ◌≡◌, ℕ, List, length, Option, Err, refl, sym, subst}
use Rattle.ipc_devices.proofs.Acts.{none_answered}
use Rattle.ipc_devices.specs.Device.{IsAnswered}
use Rattle.ipc_read_flat.specs.Bodies.{known_dictionaries}
use Rattle.ipc_read.proofs.AskedColumns.{are_prepared}
use Rattle.ipc_read.specs.Columns.{ArePrepared}
use Rattle.ipc_file_readers.proofs.Blocks.{no_io, read_chunk, refused_chunk, same_known, unless_io}
use Rattle.ipc_file_readers.proofs.read.reader.state.FileReader.read_block.Goals as goal

pub read_batch-requires : goal.read_batch-requires
read_batch-requires g c =
    let old = c.args.self.now in
    let n = length old.metadata.schema.fields.items in
    record {
      index = c.requires.within;
      prepared = subst (λ (p : Option (List ℕ)). ArePrepared p n) (sym c.rising.ensures.columns) (are_prepared n old.projection old.there c.rising.ensures.same);
    }

pub returns-in_err-chunk : goal.returns-in_err-chunk
returns-in_err-chunk g c =
    let fault = c.in_err-chunk.field-0.0 in
    let is : c.from_residual.result ≡ Err fault = search rules in
    record {
      gave = record {
        file = record { described = refl; asked = refl; shown = refl };
        block = refl;
        remaining = refl;
        held = refl;
        values = refl;
        room = c.in_err-chunk.ensures.scratch;
        asked = record {
          monotone = c.in_err-chunk.ensures.batch.device.monotone;
          failed = rw is c.in_err-chunk.ensures.batch.device.failed;
          told = rw is c.in_err-chunk.ensures.batch.device.told;
          whole = c.in_err-chunk.ensures.batch.device.whole;
          names = c.in_err-chunk.ensures.batch.device.names;
          answered = rw is c.in_err-chunk.ensures.batch.device.answered;
        };
        chunk = λ ds e.
            refused_chunk g.R.Failures.device.is_memory c.args.self.now.projection c.args.self.now.metadata c.args.self.now.remaining c.args.block
            (known_dictionaries c.in-Some.dictionaries) ds (g.R.Failures.device.memory c.args.self.now.reader).whole _ _ _ _ c.rising.ensures.same c.rising.ensures.columns
            (same_known known_dictionaries c.args.self.now.dictionaries c.in-Some.dictionaries ds c.in-Some.is e) c.from_residual.result fault is
            c.in_err-chunk.ensures.batch.causes.kind c.in_err-chunk.ensures.batch.causes.reason c.in_err-chunk.ensures.batch.exact;
      };
    }

pub returns : goal.returns
returns g c = record {
  gave = record {
    file = record { described = refl; asked = refl; shown = refl };
    block = refl;
    remaining = refl;
    held = refl;
    values = refl;
    room = c.in_ok-chunk.ensures.scratch;
    asked = record {
      monotone = c.in_ok-chunk.ensures.batch.device.monotone;
      failed = no_io c.in_order.result _ c.in_order.ensures.only;
      told = unless_io c.in_order.result _ c.in_ok-chunk.ensures.batch.device.told;
      whole = c.in_ok-chunk.ensures.batch.device.whole;
      names = c.in_ok-chunk.ensures.batch.device.names;
      answered = none_answered c.in_order.result (IsAnswered g.R.Failures.device) (no_io c.in_order.result ⊥ c.in_order.ensures.only);
    };
    chunk = λ ds e.
        read_chunk g.R.Failures.device.is_memory c.args.self.now.projection c.args.self.now.metadata c.args.self.now.remaining c.args.block
        (known_dictionaries c.in-Some.dictionaries) ds (g.R.Failures.device.memory c.args.self.now.reader).whole _ _ c.read_batch.new.message_scratch.items _ c.rising.ensures.same c.rising.ensures.columns
        (same_known known_dictionaries c.args.self.now.dictionaries c.in-Some.dictionaries ds c.in-Some.is e) c.in_ok-chunk.chunk c.in_order.result
        c.in_ok-chunk.ensures.batch.bounds.many c.in_order.ensures.ordered c.in_order.ensures.only c.in_ok-chunk.ensures.batch.bounds.message
        c.in_ok-chunk.ensures.batch.bounds.given c.in_ok-chunk.ensures.batch.bounds.held c.in_ok-chunk.ensures.batch.exact c.in_ok-chunk.ensures.batch.values;
  };
}
