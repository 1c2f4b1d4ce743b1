use Rattle.std.proofs.Common.{ap, sym, ◌∙◌, ◌++◌, append-nil, Some, string_bytes}
use Rattle.lower.specs.Normal.{data_key, name_key, extension_of, without}
use Rattle.lower.specs.TypeViews.{pairs_of, text_of, type_view}
use Rattle.ipc_schema_write.specs.Meanings.{extension_pairs}
use Rattle.ipc_schema_write.proofs.Pairs.{are_normal}
use Rattle.ipc_schema_write.proofs.metadata.serialize_field_pairs.Goals as goal

pub returns-in_ok-push_extension-in-Some : goal.returns-in_ok-push_extension-in-Some
returns-in_ok-push_extension-in-Some c =
    let es = pairs_of c.args.metadata.now.entries in
    let x = extension_of (type_view c.args.data_type.now) in
    are_normal c.push_extension.new.pairs.items es x c.in_ok-pairs.ensures.ordered
    (c.in_ok-push_extension-in-Some.ensures ∙ ap (λ ps. ps ++ extension_pairs (Some (string_bytes c.in-Some.name.now, text_of c.in-Some.text.now))) c.in_ok-pairs.ensures.own
    ∙ ap (λ y. without name_key (without data_key es) ++ extension_pairs y) c.in-Some.ensures)

pub returns-in-None : goal.returns-in-None
returns-in-None c =
    let es = pairs_of c.args.metadata.now.entries in
    let x = extension_of (type_view c.args.data_type.now) in
    are_normal c.in_ok-pairs.pairs.items es x c.in_ok-pairs.ensures.ordered
    (c.in_ok-pairs.ensures.own ∙ sym (append-nil _) ∙ ap (λ y. without name_key (without data_key es) ++ extension_pairs y) c.in-None.ensures)
