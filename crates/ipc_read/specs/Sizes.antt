-- The encoded lengths of a batch's buffers.
-- (Arrow columnar format, "RecordBatch message", "Buffer".)
use Rattle.std.specs.Prelude.{ℕ, ◌+◌, List, [], ◌∷◌, Option, None, Some, All}
use Rattle.std.specs.List.{sum_by}
use Rattle.ipc_table_views.specs.declared.schema.Buffer.{Buffer}
use Rattle.ipc_model.specs.Batches.{Lists}
use Rattle.ipc_model.specs.BatchLaws.{own_buffers}
use Rattle.ipc_model.specs.Entries.{IsSize, size}
use Rattle.ipc_model.specs.Kinds.{Kinds}

-- No length is negative.
pub record AreSizes (bs : List Buffer) : Type 0 where
  pub each : All (λ r. IsSize r.length) bs

-- The sum of the encoded lengths of some buffers.
abbrev pub total_of : List Buffer → ℕ
total_of bs = sum_by (λ r. size r.length) bs

-- The encoded length of all buffers of a batch, if it has a list of them.
abbrev pub batch_listed : Option Lists → ℕ
batch_listed None = 0
batch_listed (Some lists) = total_of lists.buffers

-- The encoded length of these columns' buffers.
abbrev pub chosen_total : List Buffer → ℕ → Kinds → List ℕ → ℕ
chosen_total bs extra ts [] = 0
chosen_total bs extra ts (j ∷ js) = total_of (own_buffers bs extra ts j) + chosen_total bs extra ts js

-- The encoded length of the chosen columns' buffers, if the batch has a list of buffers.
abbrev pub chosen_listed : Option Lists → ℕ → Kinds → List ℕ → ℕ
chosen_listed None extra ts js = 0
chosen_listed (Some lists) extra ts js = chosen_total lists.buffers extra ts js
