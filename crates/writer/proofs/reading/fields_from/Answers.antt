-- `writer::reading::fields_from` meets its contract: each field is read where the one before it ends, and each way out has passed the tests that pick its case.
-- Assumes nothing.
use Rattle.std.proofs.Common.{rules}
use Rattle.writer.proofs.Lines.{no_operation, no_object, no_priority, no_word, no_parcel, no_end, all_read}
use Rattle.writer.proofs.reading.fields_from.Goals as goal

pub returns-in_err-uses : goal.returns-in_err-uses
returns-in_err-uses c = rw c.from_residual.ensures (no_operation c.args.operation c.args.rest.now c.in_err-uses.ensures)

pub returns-in_err-object : goal.returns-in_err-object
returns-in_err-object c = rw c.from_residual-in_err-object.ensures (no_object _ c.args.operation c.args.rest.now c.in_ok-uses.uses c.in_ok-uses.ensures c.field_from.ensures c.in_err-object.was)

pub returns-in_err-priority : goal.returns-in_err-priority
returns-in_err-priority c =
    rw c.from_residual-in_err-priority.ensures (no_priority _ c.args.operation c.args.rest.now c.in_ok-uses.uses c.in_ok-uses.ensures c.field_from.ensures c.in_ok-object.was c.field_from-2.ensures c.in_err-priority.was)

pub returns-in_err-number : goal.returns-in_err-number
returns-in_err-number c =
    rw c.from_residual-in_err-number.ensures
    (no_word _ c.args.operation c.args.rest.now c.in_ok-uses.uses c.in_ok-uses.ensures c.field_from.ensures c.in_ok-object.was c.field_from-2.ensures c.in_ok-priority.was c.field_from-3.ensures c.in_err-number.was)

pub returns-in_err-parcel : goal.returns-in_err-parcel
returns-in_err-parcel c =
    rw c.from_residual-in_err-parcel.ensures
    (no_parcel _ c.args.operation c.args.rest.now c.in_ok-uses.uses c.in_ok-uses.ensures c.field_from.ensures c.in_ok-object.was c.field_from-2.ensures c.in_ok-priority.was c.field_from-3.ensures c.in_ok-number.was c.field_from-4.ensures c.in_err-parcel.was)

pub returns-then-not-is_empty : goal.returns-then-not-is_empty
returns-then-not-is_empty c =
    no_end _ c.args.operation c.args.rest.now c.in_ok-uses.uses c.in_ok-uses.ensures c.field_from.ensures c.in_ok-object.was c.field_from-2.ensures c.in_ok-priority.was c.field_from-3.ensures c.in_ok-number.was c.field_from-4.ensures c.in_ok-parcel.was
    (search rules)

pub returns : goal.returns
returns c =
    all_read _ c.args.operation c.args.rest.now c.in_ok-uses.uses c.in_ok-uses.ensures c.field_from.ensures c.in_ok-object.was c.field_from-2.ensures c.in_ok-priority.was c.field_from-3.ensures c.in_ok-number.was c.field_from-4.ensures c.in_ok-parcel.was
    (search rules)
