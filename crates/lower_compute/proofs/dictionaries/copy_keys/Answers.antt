use Rattle.std.proofs.Common.{arith, ◌≡◌, pos, length, map, sym, ap, subst, ◌∙◌}
use Rattle.lower.specs.TypeTrees.{plain}
use Rattle.lower.specs.Physical.{integer}
use Rattle.lower.specs.TypeViews.{type_view}
use Rattle.lower_flat_arrays.specs.Validities.{ValidityFits}
use Rattle.lower_validation.specs.AnyKeys.{keys_seen}
use Rattle.lower_arrays.specs.Layouts.{level, len_of}
use Rattle.lower_arrays.specs.Dictionaries.{dictionary_seen, dictionary_layout, BreaksDictionary}
use Rattle.lower_arrays.specs.AnyLayouts.{layout_of}
use Rattle.lower_compute.specs.Runs.{IsValidityOf}
use Rattle.lower_compute.specs.Copies.{IsCopy}
use Rattle.lower_compute.proofs.CopySlots.{validities-fit}
use Rattle.lower_compute.proofs.KeyCopies.{keys-fit, places_count, keys_unbroken, keys_copied}
use Rattle.lower_compute.proofs.dictionaries.copy_keys.Goals as goal

pub places_of_runs-requires : goal.places_of_runs-requires
places_of_runs-requires c =
    let ls = map (λ a. layout_of a.now) c.args.arrays.now in
    let vals = layout_of c.args.values.value in
    let len : c.len.result ≡ len_of vals = c.len.ensures.len ∙ ap (λ x. len_of (layout_of x)) c.deref.ensures in
    record {
      fits = keys-fit (λ p. p.0) (λ p. p.1.now) c.args.placed.now c.args.like.now ls c.args.runs.now vals c.requires.alike c.requires.within c.requires.placed.0 c.requires.placed.1;
      small = λ k d lt. let room = (c.requires.placed.1 k d lt).0 in omega (arith, room, len, c.if-prove.false);
    }

pub validity_of_runs-requires : goal.validity_of_runs-requires
validity_of_runs-requires c = validities-fit (map (λ a. layout_of a.now) c.args.arrays.now) c.args.runs.now c.requires.alike.1 c.requires.within

pub keys_of-requires : goal.keys_of-requires
keys_of-requires c =
    let ls = map (λ a. layout_of a.now) c.args.arrays.now in
    let vals = layout_of c.args.values.value in
    let count = places_count (λ p. p.0) (λ p. p.1.now) c.args.placed.now c.args.like.now ls c.args.runs.now vals c.requires.alike c.requires.within c.requires.placed.0 c.requires.placed.1 in
    subst (ValidityFits c.in_ok-validity.validity) (sym (ap (λ l. length l) (c.deref-2.ensures.value ∙ c.in_ok-places.ensures) ∙ count)) c.in_ok-validity.ensures.fits

pub unreachable-requires : goal.unreachable-requires
unreachable-requires c =
    let b = c.args.like.now in
    let ls = map (λ a. layout_of a.now) c.args.arrays.now in
    let vs = map (λ l. (level l).validity) ls in
    let runs = c.args.runs.now in
    let vals = layout_of c.args.values.value in
    let ks = keys_seen c.in_ok-keys.keys in
    let made = c.in_ok-keys.ensures in
    let key : c.key_type.result ≡ b.keys.key = c.key_type.ensures ∙ ap (λ k. k.key) c.keys.ensures.keys in
    let typed : type_view c.in_ok-clone.field-0 ≡ b.type = c.in_ok-clone.ensures ∙ c.data_type.ensures.tree in
    keys_unbroken (λ p. p.0) (λ p. p.1.now) c.args.placed.now b ls runs vals c.requires.alike c.requires.within c.requires.placed.0 c.requires.placed.1
    ks (ap (λ k. k.key) made ∙ key) (ap (λ k. k.type) made ∙ ap (λ k. plain (integer k)) key)
    (ap (λ k. k.integers) made ∙ ap (map (λ n. pos n)) (c.deref-2.ensures.value ∙ c.in_ok-places.ensures))
    (subst (IsValidityOf vs runs) (sym (ap (λ k. k.validity) made)) c.in_ok-validity.ensures)
    c.in-Err.field-0 c.requires.named
    (subst (λ t. BreaksDictionary (dictionary_seen t ks vals) c.in-Err.field-0) typed c.in-Err.ensures)

pub returns : goal.returns
returns c =
    let b = c.args.like.now in
    let ls = map (λ a. layout_of a.now) c.args.arrays.now in
    let vs = map (λ l. (level l).validity) ls in
    let runs = c.args.runs.now in
    let vals = layout_of c.args.values.value in
    let ks = keys_seen c.in_ok-keys.keys in
    let made = c.in_ok-keys.ensures in
    let key : c.key_type.result ≡ b.keys.key = c.key_type.ensures ∙ ap (λ k. k.key) c.keys.ensures.keys in
    let typed : type_view c.in_ok-clone.field-0 ≡ b.type = c.in_ok-clone.ensures ∙ c.data_type.ensures.tree in
    subst (λ a. IsCopy (dictionary_layout b) ls runs (dictionary_layout a)) (sym (c.in-Ok.ensures.0 ∙ ap (λ t. dictionary_seen t ks vals) typed))
    (keys_copied (λ p. p.0) (λ p. p.1.now) c.args.placed.now b ls runs vals c.requires.alike c.requires.within c.requires.placed.0 c.requires.placed.1
    ks (ap (λ k. k.key) made ∙ key) (ap (λ k. k.type) made ∙ ap (λ k. plain (integer k)) key)
    (ap (λ k. k.integers) made ∙ ap (map (λ n. pos n)) (c.deref-2.ensures.value ∙ c.in_ok-places.ensures))
    (subst (IsValidityOf vs runs) (sym (ap (λ k. k.validity) made)) c.in_ok-validity.ensures))
