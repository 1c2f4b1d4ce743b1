use Rattle.std.proofs.Common.{refl, ap}
use Rattle.ipc_file_round_trip.proofs.Files.{metadata_at, no_device, reason_at}
use Rattle.ipc_devices.proofs.Acts.{each_err}
use Rattle.ipc_file_round_trip.proofs.read.read_metadata.Goals as goal

pub returns : goal.returns
returns c =
    let input = c.new-input in
    let place = ap (λ f. f.position) input.ensures in
    let whole = ap (λ f. f.inner.now) input.ensures in
    let read = c.read_file_metadata in
    record {
      meaning = metadata_at c.args.bytes.now input.result read.result place whole (read.ensures.from_start refl);
      reason = reason_at c.args.bytes.now input.result read.result place whole (each_err read.result read.ensures.causes (λ e cause. cause.reason refl));
      device = no_device read.result read.ensures.device.failed;
    }
