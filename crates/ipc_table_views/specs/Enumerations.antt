-- The enumerations of Schema.fbs by their numbers. Any other number is an unknown tag.
use Rattle.std.specs.Prelude.{ℕ, nat_eq, if◌then◌else◌, Result, Ok, Err}
use Rattle.ipc_devices.specs.declared.fault.TableFault.{TableFault}
use Rattle.ipc_devices.specs.declared.fault.TableFault.TheVariants.{UnknownTag}
use Rattle.ipc_table_views.specs.declared.schema.MetadataVersion.{MetadataVersion}
use Rattle.ipc_table_views.specs.declared.schema.MetadataVersion.TheVariants.{V1, V2, V3, V4, V5}
use Rattle.ipc_table_views.specs.declared.schema.Endianness.{Endianness}
use Rattle.ipc_table_views.specs.declared.schema.Endianness.TheVariants.{Little, Big}
use Rattle.ipc_table_views.specs.declared.types.Precision.{Precision}
use Rattle.ipc_table_views.specs.declared.types.Precision.TheVariants.{Half, Single, Double}
use Rattle.ipc_table_views.specs.declared.types.DateUnit.{DateUnit}
use Rattle.ipc_table_views.specs.declared.types.DateUnit.TheVariants.{Day, Millisecond as day_millisecond}
use Rattle.ipc_table_views.specs.declared.types.TimeUnit.{TimeUnit}
use Rattle.ipc_table_views.specs.declared.types.TimeUnit.TheVariants.{Second, Millisecond, Microsecond, Nanosecond}
use Rattle.ipc_table_views.specs.declared.types.IntervalUnit.{IntervalUnit}
use Rattle.ipc_table_views.specs.declared.types.IntervalUnit.TheVariants.{YearMonth, DayTime, MonthDayNano}
use Rattle.ipc_table_views.specs.declared.types.UnionMode.{UnionMode}
use Rattle.ipc_table_views.specs.declared.types.UnionMode.TheVariants.{Sparse, Dense}

-- MetadataVersion.
abbrev pub version_of : ℕ → Result MetadataVersion TableFault
version_of n = if nat_eq n 0 then Ok V1 else if nat_eq n 1 then Ok V2 else if nat_eq n 2 then Ok V3
    else if nat_eq n 3 then Ok V4 else if nat_eq n 4 then Ok V5 else Err UnknownTag

-- Endianness.
abbrev pub endianness_of : ℕ → Result Endianness TableFault
endianness_of n = if nat_eq n 0 then Ok Little else if nat_eq n 1 then Ok Big else Err UnknownTag

-- Precision.
abbrev pub precision_of : ℕ → Result Precision TableFault
precision_of n = if nat_eq n 0 then Ok Half else if nat_eq n 1 then Ok Single else if nat_eq n 2 then Ok Double else Err UnknownTag

-- DateUnit.
abbrev pub date_unit_of : ℕ → Result DateUnit TableFault
date_unit_of n = if nat_eq n 0 then Ok Day else if nat_eq n 1 then Ok day_millisecond else Err UnknownTag

-- TimeUnit.
abbrev pub time_unit_of : ℕ → Result TimeUnit TableFault
time_unit_of n = if nat_eq n 0 then Ok Second else if nat_eq n 1 then Ok Millisecond else if nat_eq n 2 then Ok Microsecond
    else if nat_eq n 3 then Ok Nanosecond else Err UnknownTag

-- IntervalUnit.
abbrev pub interval_unit_of : ℕ → Result IntervalUnit TableFault
interval_unit_of n = if nat_eq n 0 then Ok YearMonth else if nat_eq n 1 then Ok DayTime else if nat_eq n 2 then Ok MonthDayNano else Err UnknownTag

-- UnionMode.
abbrev pub union_mode_of : ℕ → Result UnionMode TableFault
union_mode_of n = if nat_eq n 0 then Ok Sparse else if nat_eq n 1 then Ok Dense else Err UnknownTag
