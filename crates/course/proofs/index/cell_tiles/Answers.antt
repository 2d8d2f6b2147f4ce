-- `course::index::cell_tiles` meets its contract. Assumes nothing.
use Rattle.std.proofs.Common.{◌≡◌, true, false, ℕ, List, [], Bor, Option, None, Some, MatchOption, sym, refl, ap, ◌∙◌}
use Rattle.std.specs.Option.{unwrap_or}
use Rattle.course.specs.Grader.Index.{part_ok, lookup}
use Rattle.course.proofs.IndexLaws.{lookup-none}
use Rattle.course.proofs.index.cell_tiles.Goals as goal

-- the part, or the empty one where there is none
part-or : (o l : List ℕ) (k : ℕ) (r : Option (Bor (List ℕ))) (d : Bor (List ℕ)) → d.now ≡ []
    → MatchOption r (part_ok o l k ≡ false) (λ p. (part_ok o l k ≡ true) × (p.now ≡ lookup o l k)) → (unwrap_or r d).now ≡ lookup o l k
part-or o l k None d e h = e ∙ sym (lookup-none o l k h)
part-or o l k (Some p) d e h = h.1

pub returns : goal.returns
returns c = ap (λ (z : Bor (List ℕ)). z.now) c.unwrap_or.ensures ∙ part-or _ _ _ c.part.result _ refl c.part.ensures
