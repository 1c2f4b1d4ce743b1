-- What the program's types mean as kinds.
-- (Arrow columnar format, "Data Types".)
use Rattle.std.specs.Prelude.{List, [], ◌∷◌, map}
use Rattle.ipc_model.specs.Kinds.{offsets_32, Kind, number_kind, utf8_kind, list_kind, struct_kind, Kinds, no_kinds, more_kinds}
use Rattle.ipc_model.specs.TypeKinds.{key_form}
use Rattle.ipc_reference.specs.declared.kinds.PlainKind.{PlainKind, fold-PlainKind}
use Rattle.ipc_reference.specs.declared.kinds.PlainKind.TheOpen.{PlainKind-F}

-- Some kinds as one value.
abbrev pub kinds_of : List Kind → Kinds
kinds_of [] = no_kinds
kinds_of (t ∷ ts) = more_kinds t (kinds_of ts)

-- One level of a kind, given its children.
abbrev pub kind_step : PlainKind-F Kind → Kind
kind_step (PlainKind-F.Int form) = number_kind (key_form form)
kind_step PlainKind-F.Utf8 = utf8_kind offsets_32
kind_step (PlainKind-F.List item) = list_kind offsets_32 item.value
kind_step (PlainKind-F.Struct fields) = struct_kind (kinds_of fields.items)

-- What one of the program's kinds means.
abbrev pub kind_view : PlainKind → Kind
kind_view = fold-PlainKind Kind kind_step

-- What some of the program's kinds mean.
abbrev pub kinds_view : List PlainKind → Kinds
kinds_view ks = kinds_of (map kind_view ks)
