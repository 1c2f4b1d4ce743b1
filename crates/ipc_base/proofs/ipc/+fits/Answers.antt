use Rattle.std.proofs.Common.{rules, arith, sym}
use Rattle.std.proofs.lemmas.Bool.Decides.{nat_tests}
use Rattle.ipc_base.proofs.IdLists.{is_none-length, all_fit-apart, only_one-many, view-field, view-ids}
use Rattle.lower.specs.declared.datatypes.DataType.{the_lemmas}
use Rattle.ipc_base.specs.Fitting.{field_fits}
use Rattle.lower.specs.TypeViews.{field_view}
use Rattle.ipc_base.proofs.ipc.+fits.Goals as goal

pub fits_all-returns-then-fields-ipc_fields : goal.fits_all-returns-then-fields-ipc_fields
fits_all-returns-then-fields-ipc_fields t c = sym (all_fit-apart c.args.fields.now c.args.ipc_fields.now c.if-fields-ipc_fields.true)

pub fits_children-returns-in_default : goal.fits_children-returns-in_default
fits_children-returns-in_default t c = search (rules, the_lemmas, is_none-length)

pub fits_field-returns-then-is_some-is_dictionary_type :
    goal.fits_field-returns-then-is_some-is_dictionary_type
fits_field-returns-then-is_some-is_dictionary_type t c = rw (view-field c.args.field.now, view-ids c.args.ipc_field.now) (search rules)

pub fits_only-returns-else-ipc_fields-eq1 : goal.fits_only-returns-else-ipc_fields-eq1
fits_only-returns-else-ipc_fields-eq1 t c =
    let none = only_one-many (field_fits (field_view c.args.field.now)) c.args.ipc_fields.now c.if-ipc_fields-eq1.false in
    rw none (let apart = c.if-ipc_fields-eq1.false in grind (arith, nat_tests))
