-- `form::table::has_room` meets its contract. Assumes nothing.
use Rattle.form.proofs.TableLaws.{sum-at, sum-none}
use borrow.Author.Tests.{le-leb, lt-leb}
use mathlib.Core.Path.{sym}
use native.Mathlib.Omega.{arith}
use Rattle.form.proofs.table.has_room.Goals as goal

pub returns-in-None : goal.returns-in-None
returns-in-None c =
    let l = c.loop-row in sym (lt-leb _ _ (omega (arith, l.invariant, c.in-None.ensures, sum-at c.args.rows.now l.row-index c.loop-row-test.true)))

pub loop-row-preserved : goal.loop-row-preserved
loop-row-preserved c =
    let l = c.loop-row in omega (arith, l.invariant, c.in-Some.ensures, sum-at c.args.rows.now l.row-index c.loop-row-test.true)

pub returns : goal.returns
returns c =
    let l = c.loop-row in sym (le-leb _ _ (omega (arith, l.invariant, sum-none c.args.rows.now l.row-index c.loop-row-test.false)))
