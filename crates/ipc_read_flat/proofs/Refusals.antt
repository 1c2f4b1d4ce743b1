-- The errors of a part are errors of a column.
use Rattle.std.proofs.Common.{◌≡◌, sym, subst}
use Rattle.ipc_devices.proofs.Claims.{claims_through}
use Rattle.ipc_devices.specs.Faults.{OwnFault}
use Rattle.ipc_devices.specs.declared.fault.Fault.{Fault}
use Rattle.ipc_devices.specs.declared.fault.Fault.TheVariants.{Ended, OutOfSpec, NotYetImplemented, Schema, Argument, State, TooManyDictionaries, Io, Memory, Lower}
use Rattle.ipc_devices.specs.declared.fault.Nyi.TheVariants.{Float}
use Rattle.ipc_devices.specs.declared.fault.OutOfSpecKind.TheVariants.{NegativeFooterLength, InvalidBuffer, InvalidBitmap}
use Rattle.ipc_model.specs.Kinds.{Kind, null_kind, boolean_kind, number_kind, float_kind, fixed_binary_kind, binary_kind, utf8_kind, list_kind, map_kind, fixed_list_kind, struct_kind, union_kind, dictionary_kind, extension_kind}
use Rattle.ipc_read_flat.specs.Refusals.{IsBufferFault, IsColumnFault, IsFaultOf, IsRuleFault}

pub ended_buffer : (e : Fault) → OwnFault e (e ≡ Ended) → OwnFault e (IsBufferFault e)
ended_buffer e h = claims_through e (e ≡ Ended) (IsBufferFault e) (λ q. subst IsBufferFault (sym q) tt) h

pub negative_buffer : (e : Fault) → e ≡ OutOfSpec NegativeFooterLength → OwnFault e (IsBufferFault e)
negative_buffer e q = subst (λ (x : Fault). OwnFault x (IsBufferFault x)) (sym q) tt

pub negative_column : (e : Fault) → e ≡ OutOfSpec NegativeFooterLength → OwnFault e (IsColumnFault e)
negative_column e q = subst (λ (x : Fault). OwnFault x (IsColumnFault x)) (sym q) tt

buffer_in_column : (e : Fault) → IsBufferFault e → IsColumnFault e
buffer_in_column (OutOfSpec NegativeFooterLength) h = tt
buffer_in_column (OutOfSpec (InvalidBuffer a b c d)) h = tt
buffer_in_column (OutOfSpec (InvalidBitmap a b)) h = tt
buffer_in_column (OutOfSpec _) h = absurd h
buffer_in_column Ended h = tt
buffer_in_column (NotYetImplemented n) h = absurd h
buffer_in_column (Schema s) h = absurd h
buffer_in_column (Argument a) h = absurd h
buffer_in_column (State s) h = absurd h
buffer_in_column TooManyDictionaries h = absurd h
buffer_in_column (Io e) h = absurd h
buffer_in_column Memory h = absurd h
buffer_in_column (Lower e) h = absurd h

pub buffer_column : (e : Fault) → OwnFault e (IsBufferFault e) → OwnFault e (IsColumnFault e)
buffer_column e h = claims_through e (IsBufferFault e) (IsColumnFault e) (buffer_in_column e) h

float_in_column : (e : Fault) → IsFaultOf float_kind e → IsColumnFault e
float_in_column (NotYetImplemented Float) h = tt
float_in_column (NotYetImplemented _) h = absurd h
float_in_column (OutOfSpec k) h = absurd h
float_in_column Ended h = absurd h
float_in_column (Schema s) h = absurd h
float_in_column (Argument a) h = absurd h
float_in_column (State s) h = absurd h
float_in_column TooManyDictionaries h = absurd h
float_in_column (Io e) h = absurd h
float_in_column Memory h = absurd h
float_in_column (Lower e) h = absurd h

kind_in_column : (t : Kind) (e : Fault) → IsFaultOf t e → IsColumnFault e
kind_in_column null_kind e h = h
kind_in_column boolean_kind e h = h
kind_in_column (number_kind f) e h = buffer_in_column e h
kind_in_column float_kind e h = float_in_column e h
kind_in_column (fixed_binary_kind n) e h = h
kind_in_column (binary_kind w) e h = h
kind_in_column (utf8_kind w) e h = h
kind_in_column (list_kind w t) e h = h
kind_in_column (map_kind t) e h = h
kind_in_column (fixed_list_kind n t) e h = h
kind_in_column (struct_kind ts) e h = h
kind_in_column (union_kind m ids ts) e h = h
kind_in_column (dictionary_kind f id t) e h = h
kind_in_column (extension_kind t) e h = kind_in_column t e h

pub kind_column : (t : Kind) (e : Fault) → OwnFault e (IsFaultOf t e) → OwnFault e (IsColumnFault e)
kind_column t e h = claims_through e (IsFaultOf t e) (IsColumnFault e) (kind_in_column t e) h

-- A broken rule is an error of a column, and says nothing of the entries.
rule_in_column : (e : Fault) → IsRuleFault e → IsColumnFault e
rule_in_column (Lower e) h = tt
rule_in_column (OutOfSpec k) h = absurd h
rule_in_column Ended h = absurd h
rule_in_column (NotYetImplemented n) h = absurd h
rule_in_column (Schema s) h = absurd h
rule_in_column (Argument a) h = absurd h
rule_in_column (State s) h = absurd h
rule_in_column TooManyDictionaries h = absurd h
rule_in_column (Io e) h = absurd h
rule_in_column Memory h = absurd h

pub rule_column : (e : Fault) → OwnFault e (IsRuleFault e) → OwnFault e (IsColumnFault e)
rule_column e h = claims_through e (IsRuleFault e) (IsColumnFault e) (rule_in_column e) h

-- Equal kinds have the same errors.
pub same_kind : (t u : Kind) (e : Fault) → t ≡ u → OwnFault e (IsFaultOf t e) → OwnFault e (IsFaultOf u e)
same_kind t u e q h = subst (λ z. OwnFault e (IsFaultOf z e)) q h

pub ruleset child_faults = (buffer_column, kind_column, rule_column)
