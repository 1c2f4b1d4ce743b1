use Rattle.std.proofs.Common.{◌≡◌, ◌+◌, ◌*◌, ◌^◌, ◌≤◌, drop, map}
use Rattle.std.specs.List.{sum_by, list_all}
use Rattle.ipc_model.specs.Entries.{Part, size}
use Rattle.ipc_model.specs.Tests.{is_size}
use Rattle.ipc_reference.specs.PlainEntries.{part_view}
use Rattle.ipc_reference.proofs.batch.are_bounded.Given as goal

abbrev pub invariant-loop-part : goal.invariant-loop-part
invariant-loop-part l = record {
  total : l.total + sum_by (λ (p : Part). size p.length) (map part_view (drop l.part-index l.entries.parts.now))
      ≡ sum_by (λ (p : Part). size p.length) (map part_view l.entries.parts.now);
  lengths : list_all (λ (p : Part). is_size p.length) (map part_view (drop l.part-index l.entries.parts.now))
      ≡ list_all (λ (p : Part). is_size p.length) (map part_view l.entries.parts.now);
  small : l.total ≤ l.part-index * 2 ^ 63;
}
