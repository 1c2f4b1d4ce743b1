-- What is added to a whole stream goes to its end.
use Rattle.std.proofs.Common.{◌≡◌, ℕ, List, ◌++◌, Option, None, Some, option_map, refl, ap, ◌∙◌}
use Rattle.ipc_model.proofs.Frames.{frame_append}
use Rattle.ipc_model.proofs.Meanings.{resumed}
use Rattle.ipc_model.specs.Frame.{Frame, message, mark, waiting, broken, frame}
use Rattle.ipc_model.specs.Schemas.{head_of}
use Rattle.ipc_model.specs.Streams.{Head, nothing_known, waits, Meant, with_chunks, meaning}
use Rattle.ipc_model.specs.WholeStreams.{Stream, stream_from, stream_of, GrowLaw}

some_is : {X : Type 0} (x y : X) → Some x ≡ Some y → x ≡ y
some_is x y e = cc

abbrev pub stream_with : List ℕ → Head → Stream
stream_with rest h = record { head = h; meant = meaning h nothing_known rest }

with_head : (o : Option Head) (rest : List ℕ) (s : Stream) → option_map (stream_with rest) o ≡ Some s → (h : Head) × (o ≡ Some h) × (stream_with rest h ≡ s)
with_head None rest s e = absurd cc
with_head (Some h) rest s e = (h, refl, some_is _ s e)

-- a stream begins with a message that is its head
pub begins_with : (f : Frame) (s : Stream) → stream_from f ≡ Some s → (m rest : List ℕ) × (f ≡ message m rest) × (h : Head) × (head_of m ≡ Some h) × (stream_with rest h ≡ s)
begins_with (message m rest) s e = let w = with_head (head_of m) rest s e in (m, rest, refl, w.0, w.1, w.2)
begins_with (mark rest) s e = absurd cc
begins_with (waiting b) s e = absurd cc
begins_with broken s e = absurd cc

pub grow_law : GrowLaw
unfolding stream_of
grow_law bytes s t begun added e ends =
    let b = begins_with (frame bytes) s e in
    let h = b.3 in
    let rest = b.1 in
    let waiting' : (meaning h nothing_known rest).end ≡ waits t begun = ap (λ (u : Stream). u.meant.end) b.5 ∙ ends in
    ap stream_from (frame_append bytes b.0 rest added b.2)
    ∙ ap (option_map (stream_with (rest ++ added))) b.4
    ∙ ap (λ (m : Meant). Some (record { head = h; meant = m })) (resumed h nothing_known rest t begun added waiting')
    ∙ ap (λ (u : Stream). Some (record { head = u.head; meant = with_chunks u.meant.chunks (meaning u.head t (begun ++ added)) })) b.5
