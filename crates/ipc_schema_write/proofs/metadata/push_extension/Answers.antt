use Rattle.std.proofs.Common.{◌++◌, ◌∷◌, [], ap, ◌∙◌, append_assoc, Result, Ok, Err, string_bytes}
use Rattle.std.specs.Prelude.{OnOk}
use Rattle.lower.specs.Normal.{data_key, name_key}
use Rattle.ipc_schema_write.specs.Meanings.{pairs_in}
use Rattle.ipc_schema_write.proofs.metadata.push_extension.Goals as goal

on_ok : {X E : Type 0} (P Q : Type 0) (r : Result X E) → OnOk r P → (P → Q) → OnOk r Q
on_ok P Q (Ok x) h f = f h
on_ok P Q (Err e) h f = tt

pub returns-in_ok-push-in-Some : goal.returns-in_ok-push-in-Some
returns-in_ok-push-in-Some c =
    rw c.in-Some.is (on_ok _ _ c.push-in-Some.result c.push-in-Some.ensures (λ e.
    let first = c.in_ok-push-in-Some.ensures in
    let text = c.as_str.ensures.value in
    let name = c.as_str-in-Some.ensures.value in
    rw (e, first, text, name) (append_assoc (pairs_in c.args.pairs.now.items) ((data_key, string_bytes c.in-Some.text) ∷ []) ((name_key, string_bytes c.args.name.now) ∷ []))))

pub returns-in-None : goal.returns-in-None
returns-in-None c =
    rw c.in-None.is (on_ok _ _ c.push-in-None.result c.push-in-None.ensures (λ e.
    let name = c.as_str-in-None.ensures.value in
    e ∙ ap (λ n. pairs_in c.args.pairs.now.items ++ (name_key, n) ∷ []) name))
