-- `run::sheet::share` meets its contract. Assumes nothing.
use native.Mathlib.Omega.{arith}
use Rattle.run.proofs.SheetLaws.{share-lt}
use Rattle.run.proofs.sheet.share.Goals as goal

pub overflow_cast-result : goal.overflow_cast-result
overflow_cast-result c =
    let h = share-lt c.from.result c.from-2.result (omega (arith, c.requires.0, c.from-2.ensures)) (omega (arith, c.requires.1, c.from.ensures, c.from-2.ensures)) in
    omega (arith, h)
