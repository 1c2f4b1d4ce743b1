use Rattle.std.proofs.Common.{rules, ◌≡◌, bytes_eq, true, sym, drop, take, arith}
use Rattle.std.specs.Int.{w32, from_le_bytes}
use Rattle.ipc_model.specs.Files.{magic}
use Rattle.ipc_files.proofs.Tails.{tail-magic, states, states-below-0}
use Rattle.ipc_files.proofs.read.file.metadata.footer_length.Goals as goal

pub returns-then-length-clause-value : goal.returns-then-length-clause-value
returns-then-length-clause-value c =
    let m : bytes_eq (drop 4 c.args.tail.now) magic ≡ true = tail-magic c.args.tail.now c.ne.result (search rules) c.ne.ensures c.if-ne.false in
    let is : from_le_bytes w32 (take 4 c.args.tail.now) ≡ c.from_le_bytes-length.result = search rules in
    sym (states-below-0 c.args.tail.now c.from_le_bytes-length.result m is (omega (arith, c.if-length.true)))

pub returns-clause-value : goal.returns-clause-value
returns-clause-value c =
    let m : bytes_eq (drop 4 c.args.tail.now) magic ≡ true = tail-magic c.args.tail.now c.ne.result (search rules) c.ne.ensures c.if-ne.false in
    let is : from_le_bytes w32 (take 4 c.args.tail.now) ≡ c.from_le_bytes-length.result = search rules in
    sym (states c.args.tail.now c.from_le_bytes-length.result m is (omega (arith, c.if-length.false)))
