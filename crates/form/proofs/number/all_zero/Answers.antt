-- `form::number::all_zero` meets its contract. Assumes nothing.
use mathlib.Core.Path.{◌≡◌, refl, subst}
use borrow.Author.Rules.{rules}
use lib.Dec.{eqb}
use Rattle.std.proofs.lemmas.Fn.{fold_over, slice_gives, fronts}
use Rattle.form.specs.Rules.Bytes.{all_zero}
use Rattle.form.proofs.ZeroLaws.{zeros_on}
use Rattle.form.proofs.number.all_zero.Goals as goal

pub returns : goal.returns
unfolding all_zero
returns c = subst (λ bs. eqb c.fold.result 0 ≡ all_zero bs) c.iter.ensures.rest
    (fold_over fronts (λ y. y.now) _ (λ bs n. eqb n 0 ≡ all_zero bs) _ (λ bs a x b g j k. let more = zeros_on bs a x.now j in search (rules, more))
    _ _ _ _ (slice_gives c.iter.result) refl c.fold.ensures.ran)
