use Rattle.std.proofs.Common.{refl, inr, arith}
use Rattle.ipc_table_bytes.proofs.Rooted.{IsEncoding-from_part, length-rooted}
use Rattle.ipc_table_bytes.proofs.root.message.Goals as goal

pub returns-then-len-gt-MAX_LEN : goal.returns-then-len-gt-MAX_LEN
returns-then-len-gt-MAX_LEN c = λ slots is.
    let long = length-rooted _ c.args.root.now slots c.in_ok-bytes.ensures is in
    inr (refl, omega (arith, long, c.in_ok-bytes.bytes.ok.0, c.len.ensures, c.if-len-gt-MAX_LEN.true))

pub returns : goal.returns
returns c = λ slots is.
    IsEncoding-from_part _ c.args.root.now slots c.in_ok-bytes.ensures (omega (arith, c.in_ok-bytes.bytes.ok.0, c.len.ensures, c.if-len-gt-MAX_LEN.false)) is
