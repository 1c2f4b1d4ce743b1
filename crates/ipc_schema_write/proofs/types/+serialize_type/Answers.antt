use Rattle.std.proofs.Common.{rules}
use Rattle.lower.specs.declared.datatypes.DataType.{the_lemmas}
use Rattle.ipc_schema_write.proofs.TypeTables.{null-table, bool-table, binary-table, large_binary-table, utf8-table, large_utf8-table, list-table, large_list-table, struct-table, union-short}
use Rattle.ipc_schema_write.proofs.types.+serialize_type.Goals as goal

pub returns-in-Null : goal.returns-in-Null
returns-in-Null t c = search (rules, the_lemmas, null-table)

pub returns-in-Boolean : goal.returns-in-Boolean
returns-in-Boolean t c = search (rules, the_lemmas, bool-table)

pub returns-in-Binary : goal.returns-in-Binary
returns-in-Binary t c = search (rules, the_lemmas, binary-table)

pub returns-in-LargeBinary : goal.returns-in-LargeBinary
returns-in-LargeBinary t c = search (rules, the_lemmas, large_binary-table)

pub returns-in-Utf8 : goal.returns-in-Utf8
returns-in-Utf8 t c = search (rules, the_lemmas, utf8-table)

pub returns-in-LargeUtf8 : goal.returns-in-LargeUtf8
returns-in-LargeUtf8 t c = search (rules, the_lemmas, large_utf8-table)

pub returns-in-List : goal.returns-in-List
returns-in-List t c = search (rules, the_lemmas, list-table)

pub returns-in-LargeList : goal.returns-in-LargeList
returns-in-LargeList t c = search (rules, the_lemmas, large_list-table)

pub returns-in-Struct : goal.returns-in-Struct
returns-in-Struct t c = search (rules, the_lemmas, struct-table)

pub union-requires : goal.union-requires
union-requires t c = search (rules, the_lemmas, union-short)
