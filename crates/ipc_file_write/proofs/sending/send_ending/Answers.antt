use Rattle.std.proofs.Common.{◌≡◌, ℕ, List, [], replicate, ◌++◌, append-nil, append_assoc, ap, sym, ◌∙◌}
use Rattle.ipc_model.specs.WrittenLaws.{prefix}
use Rattle.ipc_file_write.proofs.sending.send_ending.Goals as goal

pub returns : goal.returns
returns g c =
    let ending = c.args.ending.now in
    let bytes = ending.bytes.items in
    let zeros : List ℕ = replicate ending.zeros 0 in
    let same : (prefix 0 ++ zeros) ++ ((bytes ++ []) ++ []) ≡ prefix 0 ++ (zeros ++ bytes) =
    append_assoc (prefix 0) zeros ((bytes ++ []) ++ [])
    ∙ ap (λ xs. prefix 0 ++ (zeros ++ xs)) (append-nil (bytes ++ []) ∙ append-nil bytes) in
    rw (sym same) (rw (c.deref.ensures.value) at c.send_pieces.ensures)
