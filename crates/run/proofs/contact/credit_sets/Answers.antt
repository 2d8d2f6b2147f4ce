-- `run::contact::credit_sets` meets its contract. Assumes nothing.
use Rattle.run.proofs.ContactLaws.{next-parts, no-parts, no-credit, own-credit, one-credit, few-new, credited-long, four-credits}
use Rattle.std.proofs.lemmas.List.{length_push}
use native.Mathlib.Omega.{arith}
use borrow.Author.Rules.{rules}
use Rattle.run.proofs.contact.credit_sets.Goals as goal

pub loop-last-init : goal.loop-last-init
loop-last-init c = (
  record { bound = omega arith; first-size = search rules; second-size = search rules; first = search rules; second = search rules },
  no-credit _ _ _ (λ j. search rules),
)

pub credit_set-k-requires : goal.credit_set-k-requires
credit_set-k-requires c =
    let h = c.loop-last.invariant in
    let p = next-parts c.next.new.self c.requires h.0 c.next.ensures.steps c.in-Some.is in
    rw (p.before, p.now) (own-credit _ _ _ _ _ h.1 c.requires p.less)

pub overflow_add-fresh : goal.overflow_add-fresh
overflow_add-fresh c =
    let h = c.loop-last.invariant in
    let p = next-parts c.next.new.self c.requires h.0 c.next.ensures.steps c.in-Some.is in
    record { fits = few-new _ _ _ _ _ h.1 c.requires p.less _ (rw (p.before, p.now) at c.credit_set-k.ensures) }

pub loop-last-preserved : goal.loop-last-preserved
loop-last-preserved c =
    let h = c.loop-last.invariant in
    let p = next-parts c.next.new.self c.requires h.0 c.next.ensures.steps c.in-Some.is in
    rw (length_push c.loop-last.yielded (c.in-Some.last, c.in-Some.now)) (p.rest, one-credit _ _ _ _ _ h.1 c.requires p.less _ (rw (p.before, p.now) at c.credit_set-k.ensures))

pub shape_of-credited : goal.shape_of-credited
shape_of-credited c = credited-long _ _ _ _ _ c.loop-last.invariant.1

pub returns : goal.returns
returns c =
    let h = c.loop-last.invariant in
    four-credits _ _ _ _ _ h.1 (no-parts c.next.new.self c.requires h.0 c.next.ensures.steps c.in-None.is)
