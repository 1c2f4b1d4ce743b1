use Rattle.std.proofs.Common.{rules, ◌≡◌, Err}
use Rattle.ipc_schema.proofs.ReadFits.{message-fits}
use Rattle.ipc_schema.proofs.read.schema.deserialize_schema_counted.Goals as goal

pub returns-clause-fits : goal.returns-clause-fits
returns-clause-fits c = message-fits c.args.message.now _ c.in_ok-read.ensures.meaning

pub returns-in_err-read-clause-counts : goal.returns-in_err-read-clause-counts
returns-in_err-read-clause-counts c =
    let e : c.from_residual.result ≡ Err c.in_err-read.field-0.0 = search rules in
    rw e (record { counted = tt; within = c.in_err-read.ensures.within; refused = c.in_err-read.ensures.refused })

pub returns-clause-counts : goal.returns-clause-counts
returns-clause-counts c = record { counted = c.in_ok-read.ensures.counted; within = c.in_ok-read.ensures.within; refused = tt }
