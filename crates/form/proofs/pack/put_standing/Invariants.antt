-- `form::pack::put_standing` meets its contract. Assumes nothing.
use Rattle.form.proofs.Filling.{Filling}
use Rattle.form.specs.Rules.Form.{table_fields, standing}
use Rattle.form.proofs.pack.put_standing.Given as goal

abbrev pub invariant-loop-field : goal.invariant-loop-field
invariant-loop-field l =
    Filling l.out l.initial.out (standing l.map (table_fields l.fn.fields)) l.at (standing l.field-iterator.b.rest (table_fields l.field-iterator.a))
