-- Equality of faults: they have the same variant and the same payload; of a
-- device's error only the kind counts.
use Rattle.std.specs.Prelude.{ℕ, Bool, nat_eq, Option, Some, None}
use Rattle.std.specs.Option.{option_eq}
use Rattle.std.specs.Ordering.{on, eq_of_both}
use Rattle.std.specs.Cmp.{IsPartialEquivalence, IsEquivalence, on_equiv, and_equiv, nat_eq_equiv, partial_equiv_from_equiv}
use Rattle.std.specs.Cmp.Lexicographic.{options_equiv}
use Rattle.std.specs.IoError.{error_kind}
use Rattle.std.specs.declared.io.ErrorKind.{ErrorKind}
use Rattle.std.specs.contracts.impls.ErrorKindPartialEq.TheImpl as DeviceTest
use Rattle.std.specs.contracts.impls.ErrorKindEq.TheImpl as DeviceLaws
use Rattle.ipc_devices.specs.declared.fault.Fault.{Fault}
use Rattle.ipc_devices.specs.declared.fault.Fault.TheVariants as Faults
use Rattle.ipc_devices.specs.declared.fault.OutOfSpecKind.{OutOfSpecKind}
use Rattle.ipc_devices.specs.contracts.fault.OutOfSpecKindPartialEq.TheImpl as OutOfSpecTest
use Rattle.ipc_devices.specs.contracts.fault.OutOfSpecKindEq.TheImpl as OutOfSpecLaws
use Rattle.ipc_devices.specs.declared.fault.Nyi.{Nyi}
use Rattle.ipc_devices.specs.contracts.fault.NyiPartialEq.TheImpl as NotYetImplementedTest
use Rattle.ipc_devices.specs.contracts.fault.NyiEq.TheImpl as NotYetImplementedLaws
use Rattle.ipc_devices.specs.declared.fault.SchemaFault.{SchemaFault}
use Rattle.ipc_devices.specs.contracts.fault.SchemaFaultPartialEq.TheImpl as SchemaTest
use Rattle.ipc_devices.specs.contracts.fault.SchemaFaultEq.TheImpl as SchemaLaws
use Rattle.ipc_devices.specs.declared.fault.ArgFault.{ArgFault}
use Rattle.ipc_devices.specs.contracts.fault.ArgFaultPartialEq.TheImpl as ArgumentTest
use Rattle.ipc_devices.specs.contracts.fault.ArgFaultEq.TheImpl as ArgumentLaws
use Rattle.ipc_devices.specs.declared.fault.StateFault.{StateFault}
use Rattle.ipc_devices.specs.contracts.fault.StateFaultPartialEq.TheImpl as StateTest
use Rattle.ipc_devices.specs.contracts.fault.StateFaultEq.TheImpl as StateLaws
use Rattle.lower.specs.declared.error.Error.{Error}
use Rattle.lower.specs.contracts.error.ErrorPartialEq.TheImpl as LowerTest
use Rattle.lower.specs.contracts.error.ErrorEq.TheImpl as LowerLaws

-- The number of a fault's variant.
abbrev pub case_of : Fault → ℕ
case_of (Faults.OutOfSpec _) = 0
case_of Faults.Ended = 1
case_of (Faults.NotYetImplemented _) = 2
case_of (Faults.Schema _) = 3
case_of (Faults.Argument _) = 4
case_of (Faults.State _) = 5
case_of Faults.TooManyDictionaries = 6
case_of (Faults.Io _) = 7
case_of Faults.Memory = 8
case_of (Faults.Lower _) = 9

-- The kind of an `OutOfSpec` fault.
abbrev pub kind_of : Fault → Option OutOfSpecKind
kind_of (Faults.OutOfSpec x) = Some x
kind_of _ = None

-- The payload of a `NotYetImplemented` fault.
abbrev pub form_of : Fault → Option Nyi
form_of (Faults.NotYetImplemented x) = Some x
form_of _ = None

-- The payload of a `Schema` fault.
abbrev pub schema_of : Fault → Option SchemaFault
schema_of (Faults.Schema x) = Some x
schema_of _ = None

-- The payload of an `Argument` fault.
abbrev pub argument_of : Fault → Option ArgFault
argument_of (Faults.Argument x) = Some x
argument_of _ = None

-- The payload of a `State` fault.
abbrev pub state_of : Fault → Option StateFault
state_of (Faults.State x) = Some x
state_of _ = None

-- The payload of a `Lower` fault.
abbrev pub array_of : Fault → Option Error
array_of (Faults.Lower x) = Some x
array_of _ = None

-- The kind of a device's error.
abbrev pub device_of : Fault → Option ErrorKind
device_of (Faults.Io e) = Some (error_kind e)
device_of _ = None

-- Two faults are equal.
abbrev pub same_fault : Fault → Fault → Bool
same_fault =
    eq_of_both (on case_of nat_eq) (eq_of_both (on device_of (option_eq DeviceTest.ghosts.eq))
    (eq_of_both (on kind_of (option_eq OutOfSpecTest.ghosts.eq))
    (eq_of_both (on form_of (option_eq NotYetImplementedTest.ghosts.eq))
    (eq_of_both (on schema_of (option_eq SchemaTest.ghosts.eq))
    (eq_of_both (on argument_of (option_eq ArgumentTest.ghosts.eq))
    (eq_of_both (on state_of (option_eq StateTest.ghosts.eq))
    (on array_of (option_eq LowerTest.ghosts.eq))))))))

-- Equality of faults is an equivalence.
pub same_fault_equiv : IsEquivalence same_fault
same_fault_equiv =
    and_equiv (on_equiv case_of nat_eq_equiv) (and_equiv (on_equiv device_of (options_equiv DeviceLaws.Laws.laws-law))
    (and_equiv (on_equiv kind_of (options_equiv OutOfSpecLaws.Laws.laws-law))
    (and_equiv (on_equiv form_of (options_equiv NotYetImplementedLaws.Laws.laws-law))
    (and_equiv (on_equiv schema_of (options_equiv SchemaLaws.Laws.laws-law))
    (and_equiv (on_equiv argument_of (options_equiv ArgumentLaws.Laws.laws-law))
    (and_equiv (on_equiv state_of (options_equiv StateLaws.Laws.laws-law))
    (on_equiv array_of (options_equiv LowerLaws.Laws.laws-law))))))))

-- Equality of faults is symmetric and transitive.
pub same_fault_per : IsPartialEquivalence same_fault
same_fault_per = partial_equiv_from_equiv same_fault_equiv
