-- `form::table::has_room` meets its contract. Assumes nothing.
use Rattle.form.specs.Rules.Form.{widths, sum}
use lib.ListN.{drop}
use Prim.Native.Nat.{◌+◌}
use mathlib.Core.Path.{◌≡◌}
use Rattle.form.proofs.table.has_room.Given as goal

abbrev pub invariant-loop-row : goal.invariant-loop-row
invariant-loop-row l = l.left + sum (widths l.rows) ≡ l.room + sum (widths (drop l.row-index l.rows))
