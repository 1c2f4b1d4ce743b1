-- A dictionary message that was written sets the values of its id.
use Rattle.std.proofs.Common.{◌≡◌, ℕ, ◌≤◌, ◌==◌, nat_lt, true, false, ◌++◌, length, take, drop, Option, sym, ap, ◌∙◌, arith, length-append}
use Rattle.std.proofs.lemmas.Bool.{le-ltb, lt-ltb, eq-eqb}
use Rattle.std.proofs.lemmas.List.{take_at, drop_at}
use Rattle.ipc_model.proofs.Written.{written_frame}
use Rattle.ipc_model.specs.Batches.{dictionary_meaning, extra_of}
use Rattle.ipc_model.specs.Entries.{Dictionaries}
use Rattle.ipc_model.specs.Streams.{Header, whole, with_dictionaries, most_dictionaries, body_item, message_item, frame_item, item}
use Rattle.ipc_stream_lemmas.specs.Messages.{WrittenDictionaryLaw}

pub written_dictionary : WrittenDictionaryLaw
unfolding item body_item
written_dictionary h s metadata body rest id d room w =
    let n = w.header.body in
    let all : length body ≤ length (body ++ rest) = omega (arith, length-append body rest) in
    let inside : n ≤ length (body ++ rest) = omega (arith, w.long, all) in
    let there : nat_lt (length (body ++ rest)) n ≡ false = le-ltb (length (body ++ rest)) n inside in
    let own : take n (body ++ rest) ≡ body = take_at body rest n (sym w.long) in
    let left : drop n (body ++ rest) ≡ rest = drop_at body rest n (sym w.long) in
    let no_record : (w.header.tag == 3) ≡ false = ap (λ (t : ℕ). t == 3) w.tag in
    let tagged : (w.header.tag == 2) ≡ true = eq-eqb w.header.tag 2 w.tag in
    let counted : nat_lt s.count most_dictionaries ≡ true = lt-ltb s.count most_dictionaries room in
    ap (frame_item h s) (written_frame metadata (body ++ rest) w.some w.short)
    ∙ ap (λ (o : Option Header). message_item h s o (body ++ rest)) w.headed
    ∙ rw (there, no_record, tagged, counted) (
    ap (λ bs. with_dictionaries (dictionary_meaning h.schema (extra_of h.version) s.dictionaries (whole bs) w.header.table) s (drop n (body ++ rest))) own
    ∙ ap (λ r. with_dictionaries (dictionary_meaning h.schema (extra_of h.version) s.dictionaries (whole body) w.header.table) s r) left
    ∙ ap (λ (o : Option Dictionaries). with_dictionaries o s rest) w.means
    )
