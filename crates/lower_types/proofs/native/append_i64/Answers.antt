use Rattle.std.proofs.Common.{arith, rules, tests}
use Rattle.std.proofs.lemmas.Grind.{common_steps}
use Rattle.std.proofs.lemmas.Iterator.{YieldsList-from_map, YieldsList-from_slice}
use Rattle.std.proofs.lemmas.Iterator.Consumers.{YieldsList-at}
use Rattle.std.proofs.lemmas.Iterator.Adapters.{items_from_extend}
use Rattle.std.specs.Int.{w64, cast_signed}
use Rattle.lower_types.proofs.native.append_i64.Goals as goal

pub returns : goal.returns
returns g c =
    let h = items_from_extend c.extend.result c.extend.ensures.ran
    (YieldsList-from_map _ (λ xs. cast_signed w64 (g.B.ByteOrder.number_of 8 xs)) (YieldsList-at c.map.ensures.source (YieldsList-from_slice c.as_chunks.result.0.now c.iter.ensures.rest)) c.map.ensures.closure (λ x r q k. search (rules, tests))) in
    record { items = search rules; len = grind (arith, common_steps) }
