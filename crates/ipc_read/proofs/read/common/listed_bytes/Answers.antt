use Rattle.std.proofs.Common.{rules, ◌≡◌, ◌+◌, ◌<◌, length, ap, sym, ◌∙◌}
use Rattle.ipc_model.specs.Entries.{IsSize, size}
use Rattle.ipc_read.proofs.SizeLemmas.{total_more, sizes_more}
use Rattle.ipc_read.proofs.read.common.listed_bytes.Goals as goal

pub loop-index-preserved : goal.loop-index-preserved
loop-index-preserved c =
    let i = c.loop-index.index in
    let bs = c.args.buffers.now in
    let inside : i < length bs = search rules in
    let natural : IsSize c.get.result.length = search rules in
    let told : c.in_ok-total.field-0 ≡ size c.get.result.length = search rules in
    record {
      small = search rules;
      total = ap (λ n. c.loop-index.total + n) told ∙ ap (λ n. n + size c.get.result.length) c.loop-index.invariant.total ∙ sym (total_more bs i c.get.result inside c.get.ensures);
      sizes = sizes_more bs i c.get.result inside c.get.ensures c.loop-index.invariant.sizes natural;
    }
