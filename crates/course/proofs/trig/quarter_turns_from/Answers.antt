-- `course::trig::quarter_turns_from` meets its contract: a whole number k with k ≤ v < k + 1 is the one below v. Assumes nothing.
use Rattle.std.proofs.Common.{◌≡◌, true, sym, ap, ◌∙◌}
use lib.Ieee.{Float, binary64, of_bits, of_int, round, le, lt, add}
use lib.Ieee.Fits.{add-fits}
use Rattle.course.specs.Rules.Arithmetic.{◌⊕◌, ◌⊘◌, decimal}
use Rattle.course.specs.Rules.Constants.{half_pi}
use Rattle.course.specs.Rules.Trig.{turns_of}
use Rattle.course.specs.Steps.Numbers.{turns_at}
use Rattle.course.specs.declared.trig.Turns.{Turns}
use Rattle.course.proofs.FloorOrder.{small-whole, whole-only}
use Rattle.course.proofs.trig.quarter_turns_from.Goals as goal

-- the quarter turns t in b are those in a
same : (a b : Float) (t : Turns) → t ≡ turns_at (turns_of b) → le t.k (a ⊘ half_pi ⊕ decimal 1 2) ≡ true → lt (a ⊘ half_pi ⊕ decimal 1 2) (add binary64 t.k (of_bits binary64 0x3ff0000000000000)) ≡ true → t ≡ turns_at (turns_of a)
unfolding turns_of turns_at of_bits
same a b t is low high =
    let at : t.k ≡ of_int binary64 (turns_of b) = ap (λ (x : Turns). x.k) is in
    let v = a ⊘ half_pi ⊕ decimal 1 2 in
    is ∙ ap turns_at (whole-only v (turns_of b) (add-fits binary64 _ _) (small-whole _)
    (ap (λ (f : Float). le f v) (sym at) ∙ low) (ap (λ (f : Float). lt v (add binary64 f (of_bits binary64 0x3ff0000000000000))) (sym at) ∙ high))

pub returns-then-v-k : goal.returns-then-v-k
unfolding of_bits half_pi decimal round
returns-then-v-k c = same c.args.a c.requires.angle c.args.t c.requires.is c.if-k-v.true c.if-v-k.true

pub returns : goal.returns
unfolding of_bits turns_of half_pi decimal round
returns c = c.whole_below.ensures
