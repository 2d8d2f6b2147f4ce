-- `run::quad::Sided::overlaps` meets its contract. Assumes nothing.
use Rattle.run.proofs.CellLaws.{overlap-by-side}
use mathlib.Core.Path.{sym, ◌∙◌}
use Rattle.run.proofs.quad.Sided.overlaps.Goals as goal

pub returns-then-not-is_beyond : goal.returns-then-not-is_beyond
returns-then-not-is_beyond c = rw (overlap-by-side _ _ _ c.args.self.now.own_side, sym c.is_beyond.ensures ∙ c.if-not-is_beyond.true) c.overlap_past_first.ensures

pub returns-else-not-is_beyond : goal.returns-else-not-is_beyond
returns-else-not-is_beyond c = rw (overlap-by-side _ _ _ c.args.self.now.own_side, sym c.is_beyond.ensures ∙ c.if-not-is_beyond.false, c.if-not-is_beyond.false)
