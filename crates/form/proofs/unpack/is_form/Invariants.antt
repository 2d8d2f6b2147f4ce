-- `form::unpack::is_form` meets its contract. Assumes nothing.
use Rattle.form.specs.Steps.Form.{whole}
use Rattle.form.specs.Rules.Form.{parse}
use lib.ListN.{length, drop}
use Prim.Native.Nat.{◌-◌}
use mathlib.Core.Path.{◌≡◌}
use Rattle.form.proofs.unpack.is_form.Given as goal

abbrev pub invariant-loop-row : goal.invariant-loop-row
invariant-loop-row l = whole (parse l.rows l.map l.bytes) ≡ whole (parse (drop l.row-index l.rows) l.bits.rest l.left)

abbrev pub decreases-loop-row : goal.decreases-loop-row
decreases-loop-row l = length l.rows - l.row-index
