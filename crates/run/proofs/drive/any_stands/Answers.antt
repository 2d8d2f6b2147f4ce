-- `run::drive::any_stands` meets its contract. Assumes nothing.
use mathlib.Core.Path.{◌≡◌, refl, subst}
use borrow.Author.Rules.{rules}
use Rattle.std.proofs.lemmas.Fn.{fold_over, slice_gives, fronts}
use Rattle.run.specs.Steps.Drive.{stands}
use Rattle.std.specs.List.{list_any}
use mathlib.Core.List.{[], ◌∷◌}
use Rattle.std.proofs.lemmas.List.Folds.{list_any-append}
use Rattle.run.proofs.drive.any_stands.Goals as goal

pub returns : goal.returns
unfolding stands
returns c = subst (λ ws. c.fold.result ≡ list_any stands ws) c.iter.ensures.rest
    (fold_over fronts (λ y. y.now) _ (λ ws b. b ≡ list_any stands ws) _ (λ ws a x b g j k. let more = list_any-append stands ws (x.now ∷ []) in search rules)
    _ _ _ _ (slice_gives c.iter.result) refl c.fold.ensures.ran)
