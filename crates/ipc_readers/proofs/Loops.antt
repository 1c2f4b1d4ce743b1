-- Dictionary messages that were read, one after the other, and what comes after them.
use Rattle.std.proofs.Common.{◌≡◌, ℕ, zero, suc, List, Option, OnErr, Result, Ok, refl, subst}
use Rattle.ipc_devices.specs.Gives.{Gives}
use Rattle.ipc_devices.specs.declared.fault.Fault.{Fault}
use Rattle.ipc_stream_lemmas.specs.Agreement.{AreAt}
use Rattle.ipc_model.specs.Streams.{Known}
use Rattle.ipc_projection.specs.ChosenColumns.{asked_by}
use Rattle.ipc_readers.specs.ChosenStreams.{Request}
use Rattle.ipc_readers.specs.Streams.{ItemGave, NextGave, request_of, begun_of, chosen_of, device_of, head_of, known_of, last_found, metadata_of}
use Rattle.ipc_readers.specs.declared.read.stream.reader.Found.TheVariants as fronts
use Rattle.ipc_readers.specs.declared.read.stream.reader.StreamReader.{StreamReader}
use Rattle.ipc_readers.specs.declared.read.stream.reader.StreamState.{StreamState}

-- From state a to b dictionary messages were read: what is read from b on is what is read from a
-- on.
pub record GoesOn {R : Type 0} (gives : Gives R) (a b : StreamReader R) : Type 0 where
  pub described : metadata_of b ≡ metadata_of a
  pub projected : chosen_of b ≡ chosen_of a
  pub each : (r : Result (Option StreamState) Fault) (l : Known) (q : List ℕ) (c : R)
      → NextGave gives (request_of a) (known_of b) (begun_of b) (device_of b) r l q c
      → NextGave gives (request_of a) (known_of a) (begun_of a) (device_of a) r l q c

-- The request to a reader stays.
pub same_request : {R : Type 0} (a b : StreamReader R) → metadata_of b ≡ metadata_of a → chosen_of b ≡ chosen_of a → request_of b ≡ request_of a
same_request a b described projected = λ i. record { head = head_of (described i); projection = asked_by (projected i) }

module _ {R : Type 0} (gives : Gives R) where
  pub goes_same : (a : StreamReader R) → GoesOn gives a a
  goes_same a = record { described = refl; projected = refl; each = λ r l q c x. x }

  pub goes_past : (a b c : StreamReader R) → metadata_of c ≡ metadata_of a → chosen_of c ≡ chosen_of a → GoesOn gives a b
      → ItemGave gives (request_of b) (known_of b) (begun_of b) (device_of b) (Ok fronts.Dictionary) (known_of c) (begun_of c) (device_of c) → GoesOn gives a c
  goes_past a b c same chosen on item = record {
    described = same;
    projected = chosen;
    each = λ r l q d x. on.each r l q d (record {
      passed = suc x.passed;
      items = (
        known_of c,
        begun_of c,
        device_of c,
        subst (λ (g : Request). ItemGave gives g (known_of b) (begun_of b) (device_of b) (Ok fronts.Dictionary) (known_of c) (begun_of c) (device_of c)) (same_request a b on.described on.projected) item,
        x.items,
      );
    });
  }

  pub goes_out : (a b c : StreamReader R) (r : Result (Option StreamState) Fault) → GoesOn gives a b
      → ItemGave gives (request_of b) (known_of b) (begun_of b) (device_of b) (last_found r) (known_of c) (begun_of c) (device_of c) → OnErr r (AreAt (known_of b) (known_of c))
      → NextGave gives (request_of a) (known_of a) (begun_of a) (device_of a) r (known_of c) (begun_of c) (device_of c)
  goes_out a b c r on item kept = on.each r (known_of c) (begun_of c) (device_of c) (record {
    passed = zero;
    items = (
      subst (λ (g : Request). ItemGave gives g (known_of b) (begun_of b) (device_of b) (last_found r) (known_of c) (begun_of c) (device_of c)) (same_request a b on.described on.projected) item,
      kept,
    );
  })
