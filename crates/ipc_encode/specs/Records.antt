-- A chunk that is passed to a writer, with the ids of its columns'
-- dictionaries if they are passed too.
-- (Arrow columnar format, "RecordBatch message" and "Dictionary messages".)
use Rattle.std.specs.Prelude.{List, Option, None, Some, option_map}
use Rattle.std.specs.Cow.{cow_value, cow_slice_items, IsBorrowed, IsBorrowedSlice}
use Rattle.std.specs.declared.borrow.CowSlice.{CowSlice}
use Rattle.lower_arrays.specs.declared.array.AnyArray.{AnyArray}
use Rattle.ipc_base.specs.declared.ipc.IpcField.{IpcField}
use Rattle.ipc_encode.specs.declared.common.Record.{Record}

-- The columns of a record.
abbrev pub columns_of : Record → List AnyArray
columns_of r = cow_value r.columns

-- The ids of a record, if it has any.
abbrev pub fields_of : Record → Option (List IpcField)
fields_of r = option_map cow_slice_items r.fields

-- The ids are borrowed, if there are any.
abbrev pub AreLent : {Z : Type 0} → Option (CowSlice IpcField Z) → Type 0
AreLent None = Unit {0}
AreLent (Some ids) = IsBorrowedSlice ids

-- What a record borrows, its chunk or its ids, its copy borrows too.
pub record LendsAgain (r copy : Record) : Type 0 where
  pub columns : IsBorrowed r.columns → IsBorrowed copy.columns
  pub fields : AreLent r.fields → AreLent copy.fields
