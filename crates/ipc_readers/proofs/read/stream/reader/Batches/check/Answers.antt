use Rattle.std.proofs.Common.{rules, arith, ◌≡◌, ◌≤◌}
use Rattle.ipc_table_views.specs.Unions.{header_parts}
use Rattle.ipc_model.specs.Streams.{most_dictionaries}
use Rattle.ipc_readers.proofs.Bodies.{full_header, other_refused}
use Rattle.ipc_readers.specs.Streams.{request_in, known_in}
use Rattle.ipc_readers.proofs.read.stream.reader.Batches.check.Goals as goal

pub returns-then-self-eq-MOST_DICTIONARIES-clause-refused : goal.returns-then-self-eq-MOST_DICTIONARIES-clause-refused
returns-then-self-eq-MOST_DICTIONARIES-clause-refused c =
    let tag : (header_parts c.args.header.now).0 ≡ 2 = search rules in
    let full : most_dictionaries ≤ c.args.self.now.count = omega arith in
    full_header (request_in c.args.self.now) (known_in c.args.self.now) c.args.header.now tag full

pub returns-in_default-clause-refused : goal.returns-in_default-clause-refused
returns-in_default-clause-refused c =
    other_refused (request_in c.args.self.now) (known_in c.args.self.now) c.args.header.now c.in_default.not-DictionaryBatch c.in_default.not-RecordBatch
