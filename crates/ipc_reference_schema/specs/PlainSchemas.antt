-- What the program's results say of a schema message's meaning.
-- (Arrow columnar format, "Schema message".)
use Rattle.std.specs.Prelude.{◌≡◌, IsFalse, IsTrue, IsSomeAnd, None, Option, Some}
use Rattle.lower.specs.TypeViews.{pairs_of}
use Rattle.ipc_model.specs.Batches.{Schema}
use Rattle.ipc_reference_schema.specs.OtherTypes.{fields_have_other}
use Rattle.ipc_reference_schema.specs.PlainTypes.{fields_view}
use Rattle.ipc_reference_schema.specs.declared.types.PlainSchema.{PlainSchema}
use Rattle.ipc_reference_schema.specs.declared.schema.PlainAnswer.{PlainAnswer}
use Rattle.ipc_reference_schema.specs.declared.schema.PlainAnswer.TheVariants.{NoSchema, Other, Plain}

-- What one of the program's schemas means.
abbrev pub schema_view : PlainSchema → Schema
schema_view s = record {
  fields = (fields_view s.fields.items).0;
  metadata = pairs_of s.metadata.entries;
  ids = (fields_view s.fields.items).1;
  order = s.order;
}

-- NoSchema: there is no meaning. Other: the schema has a type that the program doesn't
-- know. Plain: the meaning is this schema, without such a type. Ids and byte order are part
-- of it. An extension counts as the type that it is stored as, since the metadata give the
-- rest; a dictionary as another type.
abbrev pub FindsPlainly : PlainAnswer → Option Schema → Type 0
FindsPlainly NoSchema meaning = meaning ≡ None
FindsPlainly Other meaning = IsSomeAnd meaning (λ s. IsTrue (fields_have_other s.fields))
FindsPlainly (Plain p) meaning = (meaning ≡ Some (schema_view p)) × IsFalse (fields_have_other (schema_view p).fields)
