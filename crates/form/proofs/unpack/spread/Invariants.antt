-- `form::unpack::spread` meets its contract. Assumes nothing.
use Rattle.form.specs.Steps.Form.{standing_sum, fields_in}
use Rattle.form.specs.Rules.Form.{widths, sum, joined}
use Rattle.form.proofs.Filling.{Filling}
use lib.ListN.{length}
use Prim.Native.Nat.{◌+◌, ◌≤◌}
use Rattle.form.proofs.unpack.spread.Given as goal

abbrev pub invariant-loop-row : goal.invariant-loop-row
invariant-loop-row l =
    let ws = widths l.row-iterator.a.rest.now in
    let map = l.row-iterator.b.rest in
    record {
      enough : standing_sum ws map ≤ length l.left;
      room : l.from + sum ws ≤ length l.initial.full;
      filled : Filling l.full l.initial.full (joined (fields_in (widths l.rows) l.map l.bytes)) l.from (joined (fields_in ws map l.left));
    }
