-- The iterator of a table's fields gives these one after another. Assumes nothing.
use Rattle.form.proofs.TableLaws.{cut-next, cut-none}
use Rattle.form.proofs.table.FieldsIterator.next.Goals as goal

pub returns-in_err-row-clause-steps : goal.returns-in_err-row-clause-steps
returns-in_err-row-clause-steps c =
    let e = cut-none c.args.self.now.rows.now c.args.self.now.full.now c.in_err-row.ensures.cases in rw c.from_residual.ensures (e, e)

pub returns-clause-steps : goal.returns-clause-steps
returns-clause-steps c = cut-next _ _ _ _ _ _ _ c.in_ok-row.ensures.cases.0 c.min.ensures c.split_at.ensures.front c.split_at.ensures.back
