use Rattle.std.proofs.Common.{◌≡◌, pos, arith, rules, ◌∙◌}
use mir.Val.{to_z, of_z}
use Rattle.std.specs.Int.{w64}
use Rattle.std.proofs.Math.Facts.{to_z-of_z}
use Rattle.std.proofs.lemmas.Grind.{common_steps}
use Rattle.ipc_encode.proofs.Encoded.{plan_message}
use Rattle.ipc_encode.proofs.batches.plan_to_message.Goals as goal

pub returns-clause-value : goal.returns-clause-value
returns-clause-value c =
    let p = c.args.plan.now in
    let signed : c.cast_signed.result ≡ pos p.end = grind (arith, common_steps) in
    let end : to_z w64 (of_z w64 c.cast_signed.result) ≡ pos p.end = to_z-of_z {w = w64} {z = c.cast_signed.result} (search rules) ∙ signed in
    plan_message c.args.kind p c.args.length _ c.replace-nodes.result c.replace-buffers.result c.header.result (search rules) (search rules) (search rules) end
