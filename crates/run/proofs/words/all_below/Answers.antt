-- `run::words::all_below` meets its contract. Assumes nothing.
use Rattle.std.proofs.Common.{ℕ, List, ◌∙◌, ◌+◌, ◌/◌, eqb, drop, sym, ap}
use lib.ListN.{length-drop}
use lib.Seq.{take_all}
use Rattle.std.specs.List.{list_all}
use Rattle.run.proofs.WordBounds.{below-free, above-free, short-set}
use borrow.Author.Tests.{ne_eqb}
use native.Mathlib.Omega.{arith}
use Rattle.run.proofs.words.all_below.Goals as goal

pub returns-then-set-first : goal.returns-then-set-first
returns-then-set-first c = sym (short-set _ _ c.if-set-first.true)

pub returns-then-set-first-eq0 : goal.returns-then-set-first-eq0
returns-then-set-first-eq0 c =
    let all = λ (ws : List ℕ). list_all (λ w. eqb w 0) ws in
    let rest = drop (c.args.n / 64 + 1) c.args.set.now in
    c.is_empty.ensures ∙ ap all (take_all _ rest (omega (arith, length-drop (c.args.n / 64 + 1) c.args.set.now))) ∙ below-free _ _ (λ i. (c.type_inv.set i).fits) c.if-set-first-eq0.true

pub returns-else-set-first-eq0 : goal.returns-else-set-first-eq0
returns-else-set-first-eq0 c = ne_eqb _ _ c.if-set-first-eq0.false ∙ sym (above-free _ _ (λ i. (c.type_inv.set i).fits) c.if-set-first.false c.if-set-first-eq0.false)
