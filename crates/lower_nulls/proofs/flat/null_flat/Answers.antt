use Rattle.std.proofs.Common.{sym, subst, ◌∙◌}
use Rattle.lower.specs.TypeViews.{type_view}
use Rattle.lower_types.specs.declared.PrimitiveType.TheVariants.{Int32, Int64}
use Rattle.lower_nulls.specs.Nulls.{AreNulls}
use Rattle.lower_nulls.proofs.FlatNulls.{bytes_nulls, texts_nulls}
use Rattle.lower_nulls.proofs.flat.null_flat.Goals as goal

pub returns-in_ok-null_binary-in-Binary : goal.returns-in_ok-null_binary-in-Binary
returns-in_ok-null_binary-in-Binary c =
    let t = type_view c.args.data_type in
    let ok = c.in_ok-null_binary-in-Binary in
    subst (AreNulls t c.args.length) (sym c.from-in-Binary.ensures) (bytes_nulls Int32 t c.args.length ok.field-0 (c.requires.lies ∙ c.in-Binary.is) ok.ensures)

pub returns-in_ok-null_binary-in-LargeBinary : goal.returns-in_ok-null_binary-in-LargeBinary
returns-in_ok-null_binary-in-LargeBinary c =
    let t = type_view c.args.data_type in
    let ok = c.in_ok-null_binary-in-LargeBinary in
    subst (AreNulls t c.args.length) (sym c.from-in-LargeBinary.ensures) (bytes_nulls Int64 t c.args.length ok.field-0 (c.requires.lies ∙ c.in-LargeBinary.is) ok.ensures)

pub returns-in_ok-null_utf8-in-Utf8 : goal.returns-in_ok-null_utf8-in-Utf8
returns-in_ok-null_utf8-in-Utf8 c =
    let t = type_view c.args.data_type in
    let ok = c.in_ok-null_utf8-in-Utf8 in
    subst (AreNulls t c.args.length) (sym c.from-in-Utf8.ensures) (texts_nulls Int32 t c.args.length ok.field-0 (c.requires.lies ∙ c.in-Utf8.is) ok.ensures)

pub returns-in_ok-null_utf8-in-LargeUtf8 : goal.returns-in_ok-null_utf8-in-LargeUtf8
returns-in_ok-null_utf8-in-LargeUtf8 c =
    let t = type_view c.args.data_type in
    let ok = c.in_ok-null_utf8-in-LargeUtf8 in
    subst (AreNulls t c.args.length) (sym c.from-in-LargeUtf8.ensures) (texts_nulls Int64 t c.args.length ok.field-0 (c.requires.lies ∙ c.in-LargeUtf8.is) ok.ensures)
