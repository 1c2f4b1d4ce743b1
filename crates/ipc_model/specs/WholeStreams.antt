-- What a whole stream means, from its schema message on.
-- (Arrow columnar format, "IPC Streaming Format".)
use Rattle.std.specs.Prelude.{◌≡◌, ℕ, List, ◌++◌, Option, None, Some}
use Rattle.std.specs.Option.{option_map}
use Rattle.ipc_model.specs.Frame.{Frame, message, mark, waiting, broken, frame}
use Rattle.ipc_model.specs.Schemas.{head_of}
use Rattle.ipc_model.specs.Streams.{Head, Known, nothing_known, waits, Meant, with_chunks, meaning}

-- What a stream means: its schema with the version, and its chunks with its end.
pub record Stream : Type 0 where
  pub head : Head
  pub meant : Meant

-- A stream from its first frame, which must be a schema message.
abbrev pub stream_from : Frame → Option Stream
stream_from (message m rest) = option_map (λ h. record { head = h; meant = meaning h nothing_known rest }) (head_of m)
stream_from (mark rest) = None
stream_from (waiting begun) = None
stream_from broken = None

-- What the bytes of a stream mean.
unfoldable pub stream_of : List ℕ → Option Stream
stream_of bytes = stream_from (frame bytes)

-- Bytes that are added to a waiting stream are read from its end on.
abbrev pub GrowLaw : Type 0
GrowLaw = (bytes : List ℕ) (s : Stream) (t : Known) (begun added : List ℕ) → stream_of bytes ≡ Some s → s.meant.end
    ≡ waits t begun
    → stream_of (bytes ++ added)
    ≡ Some (record { head = s.head; meant = with_chunks s.meant.chunks (meaning s.head t (begun ++ added)) })
