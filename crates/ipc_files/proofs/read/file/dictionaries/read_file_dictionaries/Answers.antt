use Rattle.std.proofs.Common.{arith, rules, ◌≡◌, ◌∙◌, ℤ, List, [], length, Option, Some, Err, refl, ap, subst, None}
use Rattle.lower_arrays.specs.Layouts.{Layout}
use Rattle.ipc_stream_lemmas.specs.Agreement.{AreAlike}
use Rattle.ipc_table_views.specs.declared.file.Block.{Block}
use Rattle.ipc_model.specs.Files.{all_of, dictionaries_after}
use Rattle.ipc_files.specs.Dictionaries.{DictionariesReason, RefusedValues}
use Rattle.ipc_files.specs.Footers.{file_seen}
use Rattle.ipc_read_flat.specs.Bodies.{array_under, known_dictionaries}
use Rattle.ipc_files.proofs.FirstRefused.{behind, from-none, refused-first}
use Rattle.ipc_files.proofs.HeldValues.{EachListed, none_listed, more_listed, each_listed}
use Rattle.ipc_files.proofs.NeededValues.{GivenFor, all_given, more_given, none_given}
use Rattle.ipc_files.proofs.TakenBytes.{refused_values}
use Rattle.ipc_files.proofs.KnownAlike.{next-known, all-known, next-refused}
use Rattle.ipc_devices.proofs.Acts.{device_err, device_sought}
use Rattle.ipc_devices.specs.Faults.{OwnFault}
use Rattle.ipc_files.proofs.read.file.dictionaries.read_file_dictionaries.Goals as goal

pub loop-block-init : goal.loop-block-init
loop-block-init g c = record {
  monotone = search rules;
  told = search rules;
  scratch = omega arith;
  whole = search rules;
  names = refl;
  given = none_given g.R.Failures.device.is_memory (file_seen c.args.metadata.now).schema (g.R.Failures.device.memory c.args.reader.now).whole c.dictionary_blocks-blocks.result.now (g.R.Failures.device.given c.args.reader.now);
  held = none_listed g.R.Failures.device.is_memory c.args.metadata.now.size (file_seen c.args.metadata.now).schema (g.R.Failures.device.memory c.args.reader.now).whole c.new-dictionaries.result (search rules) c.dictionary_blocks-blocks.result.now;
  known = search rules;
  reason = λ k e.
      let none : known_dictionaries c.new-dictionaries.result ≡ [] = search rules in
      from-none (file_seen c.args.metadata.now) (g.R.Failures.device.memory c.args.reader.now).whole e c.dictionary_blocks-blocks.result.now (known_dictionaries c.new-dictionaries.result) none;
}

pub loop-block-preserved : goal.loop-block-preserved
loop-block-preserved g c = record {
  monotone = omega (arith, c.loop-block.invariant.monotone, c.in_ok-read_dictionary_block.ensures.device.monotone);
  told = c.in_ok-read_dictionary_block.ensures.device.told ∙ c.loop-block.invariant.told;
  scratch = omega (arith, c.in_ok-read_dictionary_block.ensures.scratch, c.loop-block.invariant.scratch);
  whole = λ k. c.in_ok-read_dictionary_block.ensures.device.whole k ∙ c.loop-block.invariant.whole k;
  names = c.in_ok-read_dictionary_block.ensures.device.names ∙ c.loop-block.invariant.names;
  given = more_given g.R.Failures.device.is_memory (file_seen c.args.metadata.now).schema (g.R.Failures.device.memory c.args.reader.now).whole (g.R.Failures.device.memory c.loop-block.reader).whole
      c.dictionary_blocks-blocks.result.now c.loop-block.block-index _ _ (g.R.Failures.device.given c.loop-block.reader) (g.R.Failures.device.given c.read_dictionary_block.new.reader)
      c.read_dictionary_block.new.message_scratch.items c.loop-block-test.true c.loop-block.invariant.given (λ k. c.loop-block.invariant.whole (g.met.R.Seeks.known_still k))
      c.in_ok-read_dictionary_block.ensures.message c.in_ok-read_dictionary_block.ensures.given;
  held = more_listed g.R.Failures.device.is_memory c.args.metadata.now.size (file_seen c.args.metadata.now).schema (g.R.Failures.device.memory c.args.reader.now).whole (g.R.Failures.device.memory c.loop-block.reader).whole
      c.dictionary_blocks-blocks.result.now c.loop-block.block-index _ c.read_dictionary_block.new.message_scratch.items (λ id. array_under c.loop-block.dictionaries id)
      (λ id. array_under c.read_dictionary_block.new.dictionaries id) c.loop-block-test.true c.loop-block.invariant.held (λ k. c.loop-block.invariant.whole (g.met.R.Seeks.known_still k))
      c.in_ok-read_dictionary_block.ensures.message c.in_ok-read_dictionary_block.ensures.held;
  known = λ k.
      let m = file_seen c.args.metadata.now in
      let source = (g.R.Failures.device.memory c.args.reader.now).whole in
      let bs = c.dictionary_blocks-blocks.result.now in
      next-known m source bs c.loop-block.block-index _ (known_dictionaries c.loop-block.dictionaries) (dictionaries_after m (all_of source) [] bs) c.loop-block-test.true
      (c.loop-block.invariant.known k) (known_dictionaries c.read_dictionary_block.new.dictionaries) (g.R.Failures.device.memory c.loop-block.reader).whole
      (c.loop-block.invariant.whole (g.met.R.Seeks.known_still k)) (c.in_ok-read_dictionary_block.ensures.memory k);
  reason = λ k e h.
      c.loop-block.invariant.reason k e (behind (file_seen c.args.metadata.now) (g.R.Failures.device.memory c.args.reader.now).whole e c.dictionary_blocks-blocks.result.now c.loop-block.block-index _
      (known_dictionaries c.loop-block.dictionaries) c.loop-block-test.true (g.R.Failures.device.memory c.loop-block.reader).whole (c.loop-block.invariant.whole (g.met.R.Seeks.known_still k))
      (known_dictionaries c.read_dictionary_block.new.dictionaries) (c.in_ok-read_dictionary_block.ensures.memory k) h);
}

pub returns-in_err-read_dictionary_block-clause-dictionaries : goal.returns-in_err-read_dictionary_block-clause-dictionaries
returns-in_err-read_dictionary_block-clause-dictionaries g c =
    let m = file_seen c.args.metadata.now in
    let source = (g.R.Failures.device.memory c.args.reader.now).whole in
    let bs = c.dictionary_blocks-blocks.result.now in
    let e = c.in_err-read_dictionary_block.field-0.0 in
    let is : c.from_residual.result ≡ Err e = search rules in
    let old = g.R.Failures.device.given c.args.reader.now in
    let new = g.R.Failures.device.given c.read_dictionary_block.new.reader in
    rw is (record {
      exact = λ k.
          subst (λ (blocks : List Block). OwnFault e (dictionaries_after m (all_of source) [] blocks ≡ None)) c.dictionary_blocks-blocks.ensures
          (next-refused m source bs c.loop-block.block-index _ (known_dictionaries c.loop-block.dictionaries) (dictionaries_after m (all_of source) [] bs) c.loop-block-test.true
          (c.loop-block.invariant.known k) e (g.R.Failures.device.memory c.loop-block.reader).whole (c.loop-block.invariant.whole (g.met.R.Seeks.known_still k))
          (c.in_err-read_dictionary_block.ensures.memory k));
      causes = record {
        kind = c.in_err-read_dictionary_block.ensures.only;
        reason = λ k.
            refused-first m source e bs c.loop-block.block-index _ (known_dictionaries c.loop-block.dictionaries) c.loop-block-test.true
            (g.R.Failures.device.memory c.loop-block.reader).whole (c.loop-block.invariant.whole (g.met.R.Seeks.known_still k))
            (λ h. subst (λ (blocks : List Block). DictionariesReason m source [] blocks e) c.dictionary_blocks-blocks.ensures (c.loop-block.invariant.reason k e h))
            (c.in_err-read_dictionary_block.ensures.memory k) (c.in_err-read_dictionary_block.ensures.reason k);
      };
      none = λ empty. let size = ap length (c.dictionary_blocks-blocks.ensures ∙ empty) in absurd (omega (arith, c.loop-block-test.true, size));
      device = device_sought g.R.Failures.device c.args.reader.now c.loop-block.reader (Err e) c.read_dictionary_block.new.reader
          c.loop-block.invariant.monotone c.loop-block.invariant.told c.loop-block.invariant.whole c.loop-block.invariant.names
          (device_err g.R.Failures.device c.loop-block.reader e c.read_dictionary_block.new.reader c.in_err-read_dictionary_block.ensures.device);
      bounds = record {
        given = subst (λ (blocks : List Block). RefusedValues g.R.Failures.device.is_memory m.schema source blocks old new) c.dictionary_blocks-blocks.ensures
            (refused_values g.R.Failures.device.is_memory m.schema source (g.R.Failures.device.memory c.loop-block.reader).whole (λ k. c.loop-block.invariant.whole (g.met.R.Seeks.known_still k)) _
            (g.R.Failures.device.given c.loop-block.reader) new c.read_dictionary_block.new.message_scratch.items bs c.loop-block.block-index old
            c.loop-block-test.true c.loop-block.invariant.given c.in_err-read_dictionary_block.ensures.given);
        held = tt;
      };
    })

pub returns-clause-dictionaries : goal.returns-clause-dictionaries
returns-clause-dictionaries g c =
    let m = file_seen c.args.metadata.now in
    let source = (g.R.Failures.device.memory c.args.reader.now).whole in
    let bs = c.dictionary_blocks-blocks.result.now in
    let values : Option ℤ → Layout = λ id. array_under c.loop-block.dictionaries id in
    record {
      exact = λ k.
          subst (λ (blocks : List Block). AreAlike (dictionaries_after m (all_of source) [] blocks) (Some (known_dictionaries c.loop-block.dictionaries))) c.dictionary_blocks-blocks.ensures
          (all-known m source bs c.loop-block.block-index (known_dictionaries c.loop-block.dictionaries) (dictionaries_after m (all_of source) [] bs) (omega (arith, c.loop-block-test.false))
          (c.loop-block.invariant.known k));
      causes = tt;
      none = λ _. refl;
      device = record {
        monotone = c.loop-block.invariant.monotone;
        failed = tt;
        told = c.loop-block.invariant.told;
        whole = c.loop-block.invariant.whole;
        names = c.loop-block.invariant.names;
        answered = tt;
      };
      bounds = record {
        given =
            let all = all_given g.R.Failures.device.is_memory m.schema source bs c.loop-block.block-index (g.R.Failures.device.given c.args.reader.now) (g.R.Failures.device.given c.loop-block.reader) (omega (arith, c.loop-block-test.false)) c.loop-block.invariant.given in
            let named = subst (λ (blocks : List Block). GivenFor g.R.Failures.device.is_memory m.schema source blocks (g.R.Failures.device.given c.args.reader.now) (g.R.Failures.device.given c.loop-block.reader)) c.dictionary_blocks-blocks.ensures all in
            record { bytes = named.bytes; needed = named.needed; most = named.most };
        held =
            let all = each_listed g.R.Failures.device.is_memory m.size m.schema source bs c.loop-block.block-index values (omega (arith, c.loop-block-test.false)) c.loop-block.invariant.held in
            let named = subst (λ (blocks : List Block). EachListed g.R.Failures.device.is_memory m.size m.schema source blocks values) c.dictionary_blocks-blocks.ensures all in
            record { each = named.each };
      };
    }

pub returns-in_err-read_dictionary_block-clause-scratch : goal.returns-in_err-read_dictionary_block-clause-scratch
returns-in_err-read_dictionary_block-clause-scratch g c = omega (arith, c.in_err-read_dictionary_block.ensures.scratch, c.loop-block.invariant.scratch)
