-- `run::load::seeds_in` meets its contract. Assumes nothing.
use Rattle.run.proofs.LoadLaws.{seeds-read}
use Rattle.run.proofs.load.seeds_in.Goals as goal

pub returns : goal.returns
returns c = seeds-read c.args.full.now _ c.number_at-narrow.ensures.0 c.number_at-wide.ensures.0
