-- `course::track::last_pass` meets its contract. Assumes nothing.
use Rattle.std.proofs.Common.{◌∙◌, sym, refl, rules}
use Rattle.std.proofs.lemmas.Iterator.Search.{find_from_yields_List}
use Rattle.course.specs.Rules.Track.{passes_at}
use Rattle.course.proofs.TrackParts.{yields-down, found-down, same-option}
use Rattle.course.proofs.track.last_pass.Goals as goal

pub returns-clause-value : goal.returns-clause-value
returns-clause-value c =
    let a = c.args.alpha.now in
    sym (same-option c.rfind.result)
    ∙ find_from_yields_List (passes_at a) _ _ c.rfind.result c.rfind.ensures.ran (yields-down c.args.n refl) (λ x b q k. search rules)
    ∙ found-down a c.args.n
