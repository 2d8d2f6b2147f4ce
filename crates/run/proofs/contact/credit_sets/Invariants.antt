-- `run::contact::credit_sets` meets its contract. Assumes nothing.
use lib.ListN.{length}
use Rattle.run.proofs.ContactLaws.{Parts, Credited}
use Rattle.run.proofs.contact.credit_sets.Given as goal

abbrev pub invariant-loop-last : goal.invariant-loop-last
invariant-loop-last l =
    let w = length l.yielded in
    Parts l.m l.before l.wheels l.last-iterator w × Credited l.initial.credited l.before l.wheels l.credited l.fresh l.zero w
