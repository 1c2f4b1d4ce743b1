use Rattle.std.proofs.Common.{rules, ◌≡◌, ◌∙◌, Some, Err, ap, sym, Result, IfErr, IsTrue, refl}
use Rattle.ipc_files.proofs.BlockRecords.{on-ok}
use Rattle.ipc_files.proofs.Openings.{from-beginning, given-metadata, given-nothing}
use Rattle.ipc_files.proofs.Reasons.{ends_reason, footer_given, footer_reason}
use Rattle.ipc_devices.proofs.Acts.{both_errs, device_refused, each_err, when_err}
use Rattle.ipc_devices.proofs.Claims.{claims_through}
use Rattle.ipc_devices.specs.Faults.{OwnFault}
use Rattle.ipc_devices.specs.declared.fault.Fault.{Fault}
use Rattle.ipc_table_views.specs.Tables.{root_at}
use Rattle.ipc_files.proofs.Causes.{ends-in-file, root-in-file}
use Rattle.ipc_files.specs.Api.{FileCause}
use Rattle.ipc_files.specs.Files.{EndsFault, FileFault, FileReason, metadata_from}
use Rattle.ipc_files.specs.Footers.{GivesPart, RootFault, file_seen}
use Rattle.ipc_files.specs.declared.read.file.metadata.FileMetadata.{FileMetadata}
use Rattle.ipc_files.proofs.read.file.metadata.read_file_metadata.Goals as goal

pub returns-in_err-footer : goal.returns-in_err-footer
returns-in_err-footer g c =
    let m = g.R.Failures.device.memory c.args.reader.now in
    let e = c.in_err-footer.field-0.0 in
    let is : c.from_residual.result ≡ Err e = search rules in
    let exact : IsTrue g.R.Failures.device.is_memory → GivesPart file_seen (Err e) (metadata_from m.place m.whole) =
    λ k. given-nothing (Err e) m.place m.whole e refl (c.in_err-footer.ensures.memory k) in
    rw is (record {
      exact = exact;
      from_start = λ k at. from-beginning (Err e) m.place m.whole at (exact k);
      causes = record {
        kind = claims_through e (EndsFault e) (FileFault e) (ends-in-file e) c.in_err-footer.ensures.only;
        reason = λ k. ends_reason {X = Unit {0}} (Err e) m.place m.whole e refl (c.in_err-footer.ensures.memory k);
      };
      device = record {
        monotone = c.in_err-footer.ensures.device.monotone;
        failed = c.in_err-footer.ensures.device.failed;
        told = c.in_err-footer.ensures.device.told;
        whole = c.in_err-footer.ensures.device.whole;
        names = c.in_err-footer.ensures.device.names;
        answered = c.in_err-footer.ensures.device.answered;
      };
      bounds = record { given = tt; taken = c.in_err-footer.ensures.device.taken };
      fits = tt;
    })

pub returns : goal.returns
returns g c =
    let m = g.R.Failures.device.memory c.args.reader.now in
    let r : Result FileMetadata Fault = c.deserialize_footer.result in
    let exact : IsTrue g.R.Failures.device.is_memory → GivesPart file_seen r (metadata_from m.place m.whole) =
    λ k.
    let x = c.in_ok-footer.ensures.memory k in
    given-metadata r m.place m.whole c.deref.result.now c.in_ok-footer.footer.size (x.0 ∙ ap Some (sym c.deref.ensures.value)) x.1
    c.deserialize_footer.ensures.meaning in
    let only : IfErr r (λ e. OwnFault e (FileFault e)) =
    each_err {P = λ e. RootFault e (root_at c.deref.result.now)} {Q = λ e. OwnFault e (FileFault e)} r c.deserialize_footer.ensures.only
    (λ e h. root-in-file e (root_at c.deref.result.now) h) in
    let reason : IfErr r (λ e. IsTrue g.R.Failures.device.is_memory → OwnFault e (FileReason m.place m.whole e)) =
    when_err (λ e. OwnFault e (FileReason m.place m.whole e)) r (IsTrue g.R.Failures.device.is_memory) (λ k.
    footer_reason r m.place m.whole c.deref.result.now ((c.in_ok-footer.ensures.memory k).0 ∙ ap Some (sym c.deref.ensures.value)) c.deserialize_footer.ensures.only) in
    record {
      exact = exact;
      from_start = λ k at. from-beginning r m.place m.whole at (exact k);
      causes = each_err {Q = FileCause g.R.Failures.device c.args.reader.now} r (both_errs _ _ r only reason) (λ e p. record { kind = p.0; reason = p.1 });
      device = device_refused g.R.Failures.device c.args.reader.now c.read_footer.new.reader r c.in_ok-footer.ensures.device.monotone c.in_ok-footer.ensures.device.told
          c.in_ok-footer.ensures.device.whole c.in_ok-footer.ensures.device.names c.deserialize_footer.ensures.device;
      bounds = record {
        given = on-ok r _ (footer_given g.R.Failures.device.is_memory m.place m.whole c.in_ok-footer.footer.bytes.items _ _
            (λ k. (c.in_ok-footer.ensures.memory k).0) c.in_ok-footer.ensures.device.taken);
        taken = c.in_ok-footer.ensures.device.taken;
      };
      fits = c.deserialize_footer.ensures.fits;
    }
