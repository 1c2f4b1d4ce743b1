use Rattle.ipc_devices.proofs.Acts.{device_after, device_read}
use Rattle.ipc_read_flat.proofs.read.read_basic.read_next_bytes.Goals as goal

pub returns-in-None-clause-device : goal.returns-in-None-clause-device
returns-in-None-clause-device g c =
    let d = g.R.Failures.device in
    let w = c.read_bytes.ensures in
    device_after d c.args.reader.now c.take_shown_bytes.new.reader _ c.read_bytes.result c.read_bytes.new.reader c.in_ok-bytes.ensures.device
    (device_read d c.take_shown_bytes.new.reader c.read_bytes.result c.read_bytes.new.reader w.monotone w.failed w.told w.whole w.names w.answered)
