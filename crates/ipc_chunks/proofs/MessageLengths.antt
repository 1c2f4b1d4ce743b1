-- Which lengths fit in the messages of a chunk.
use Rattle.std.proofs.Common.{◌≡◌, ℕ, ◌^◌, ◌≤◌, List, [], ◌∷◌, map, subst, arith, inl, inr, append-nil}
use Rattle.std.specs.List.{AllByRecursion, flat_map}
use Rattle.lower_arrays.specs.Layouts.{Layout, Level, layout, len_of}
use Rattle.ipc_base.specs.Chunks.{row_count}
use Rattle.ipc_devices.specs.declared.fault.ArgFault.TheVariants.{TooLarge, TooLong}
use Rattle.ipc_devices.specs.declared.fault.Fault.TheVariants.{Argument}
use Rattle.ipc_encode.specs.Encoding.{levels_of}
use Rattle.ipc_encode.specs.ShortMetadata.{AreShortMetadata}
use Rattle.ipc_encode.specs.declared.batches.BatchKind.TheVariants.{Dictionary}
use Rattle.ipc_model.specs.Accepted.{IsSayable, body_length}
use Rattle.ipc_model.specs.Offers.{FilledPlace, body_lengths, messages, whole_levels}
use Rattle.ipc_plan.specs.Taking.{AreShort}
use Rattle.ipc_tracker.proofs.PlaceLists.{all_behind, all_both, all_front}
use Rattle.ipc_chunks.specs.Lengths.{HaveLengths}
use Rattle.ipc_chunks.specs.Messages.{RefusesSome}

-- ---- levels

abbrev lens : List Level → List ℕ
lens hs = map (λ (h : Level). h.len) hs

abbrev IsShort : Level → Type 0
IsShort h = IsSayable h.len

short_of : (hs : List Level) → AllByRecursion IsSayable (lens hs) → AreShort hs
short_of [] s = tt
short_of (h ∷ hs) s = (s.0, short_of hs s.1)

lens_said : (hs : List Level) → AreShort hs → AllByRecursion IsSayable (lens hs)
lens_said [] s = tt
lens_said (h ∷ hs) s = (s.0, lens_said hs s.1)

-- The lengths of the values of one dictionary.
values_short : (l : Layout) → AreShort (levels_of (l ∷ [])) → AreShort (whole_levels l)
values_short l s = all_front IsShort (whole_levels l) [] s

pub nodes_said : (ps : List FilledPlace) (columns : List Layout) → HaveLengths ps → AreShort (levels_of columns) → AllByRecursion IsSayable (flat_map lens (messages columns ps))
nodes_said [] columns h s = all_both IsSayable (lens (levels_of columns)) [] (lens_said (levels_of columns) s) tt
nodes_said (p ∷ ps) columns h s =
    all_both IsSayable (lens (whole_levels p.values)) (flat_map lens (messages columns ps)) (lens_said (whole_levels p.values) (values_short p.values h.0.short)) (nodes_said ps columns h.1 s)

-- The lengths of the first message, and of the others.
first_lens : (hs : List Level) (rest : List (List Level)) → AllByRecursion IsSayable (flat_map lens (hs ∷ rest)) → AllByRecursion IsSayable (lens hs)
first_lens hs rest s = all_front IsSayable (lens hs) (flat_map lens rest) s

other_lens : (hs : List Level) (rest : List (List Level)) → AllByRecursion IsSayable (flat_map lens (hs ∷ rest)) → AllByRecursion IsSayable (flat_map lens rest)
other_lens hs rest s = all_behind IsSayable (lens hs) (flat_map lens rest) s

own_len : (l : Layout) → AreShort (whole_levels l) → IsSayable (len_of l)
own_len (layout h cs) s = s.0

pub some_long : (ps : List FilledPlace) (columns : List Layout) → RefusesSome ps (Argument TooLong) → AllByRecursion IsSayable (flat_map lens (messages columns ps)) → ⊥
some_long [] columns h s = absurd h
some_long (p ∷ ps) columns (inl h) s =
    let short = short_of (whole_levels p.values) (first_lens (whole_levels p.values) (messages columns ps) s) in
    h (own_len p.values short) (all_both IsShort (whole_levels p.values) [] short tt)
some_long (p ∷ ps) columns (inr h) s = some_long ps columns h (other_lens (whole_levels p.values) (messages columns ps) s)

pub last_lens : (ps : List FilledPlace) (columns : List Layout) → AllByRecursion IsSayable (flat_map lens (messages columns ps)) → AreShort (levels_of columns)
last_lens [] columns s = short_of (levels_of columns) (first_lens (levels_of columns) [] s)
last_lens (p ∷ ps) columns s = last_lens ps columns (other_lens (whole_levels p.values) (messages columns ps) s)

pub rows_short : (columns : List Layout) → AreShort (levels_of columns) → IsSayable (row_count len_of columns)
rows_short [] s = omega arith
rows_short (l ∷ ls) s = own_len l (all_front IsShort (whole_levels l) (levels_of ls) s)

-- ---- bodies

abbrev AreSayable : List (List ℕ) → Type 0
AreSayable bodies = AllByRecursion (λ (lengths : List ℕ). IsSayable (body_length lengths)) bodies

pub one_message : (l : Layout) → levels_of (l ∷ []) ≡ whole_levels l
one_message l = append-nil (whole_levels l)

pub bodies_said : (ps : List FilledPlace) (columns : List Layout) → HaveLengths ps → IsSayable (body_length (body_lengths (levels_of columns))) → AreSayable (map body_lengths (messages columns ps))
bodies_said [] columns h s = (s, tt)
bodies_said (p ∷ ps) columns h s =
    (subst (λ (hs : List Level). IsSayable (body_length (body_lengths hs))) (one_message p.values) h.0.body, bodies_said ps columns h.1 s)

-- The metadata of the values at a dictionary field.
abbrev pub HaveShortMetadata : FilledPlace → Type 0
HaveShortMetadata p = AreShortMetadata (Dictionary p.id) (levels_of (p.values ∷ []))

pub some_large : (ps : List FilledPlace) (columns : List Layout) → AllByRecursion HaveShortMetadata ps → RefusesSome ps (Argument TooLarge) → AreSayable (map body_lengths (messages columns ps)) → ⊥
some_large [] columns short h s = absurd h
some_large (p ∷ ps) columns short (inl (inl big)) s =
    let long : 2 ^ 63 ≤ body_length (body_lengths (whole_levels p.values)) = subst (λ (hs : List Level). 2 ^ 63 ≤ body_length (body_lengths hs)) (one_message p.values) big in
    omega (arith, long, s.0)
some_large (p ∷ ps) columns short (inl (inr long)) s = omega (arith, long, short.0)
some_large (p ∷ ps) columns short (inr h) s = some_large ps columns short.1 h s.1

pub last_body : (ps : List FilledPlace) (columns : List Layout) → AreSayable (map body_lengths (messages columns ps)) → IsSayable (body_length (body_lengths (levels_of columns)))
last_body [] columns s = s.0
last_body (p ∷ ps) columns s = last_body ps columns s.1
