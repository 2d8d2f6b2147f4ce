-- `run::words::credit` meets its contract. Assumes nothing.
use Rattle.run.proofs.WordLaws.{how_many-none}
use Rattle.run.proofs.CreditLaws.{New, within, beyond_words, one_more, none_more, rest-credited, all-credited, all-counted, few, ones-few, new-lt}
use Rattle.run.proofs.PairLaws.{no_pair_yet, one_pair, no_pair}
use Rattle.std.specs.Int.{div_ceil}
use Rattle.std.specs.Iterator.Adapters.{enumerate_count}
use lib.ListN.{length, get_or}
use Prim.Native.Nat.{ℕ, ◌*◌, ◌^◌, ◌<◌}
use mathlib.Core.Path.{◌≡◌, refl, sym}
use native.Mathlib.Omega.{arith}
use borrow.Author.Rules.{rules}
use Rattle.run.proofs.words.credit.Goals as goal

pub loop-i-init : goal.loop-i-init
loop-i-init c =
    let none : enumerate_count c.into_iter-i-iterator.result ≡ 0 = search rules in (
      no_pair_yet _ _ _ (search rules) (search rules) none,
      rw none (record { bound = omega arith; long = refl; small = λ j h. absurd (omega arith); done = λ j h. absurd (omega arith); kept = λ j h. refl; count = sym (how_many-none _) }),
    )

pub overflow_add-fresh : goal.overflow_add-fresh
overflow_add-fresh c =
    let a = c.args in
    let p = one_pair (div_ceil a.n 64) a.wheel.now a.before.now c.next.new.self c.loop-i.invariant.0 c.next.ensures.steps c.in-Some.is in
    let n = c.loop-i.invariant.1 in
    let i = enumerate_count c.loop-i.i-iterator in
    let fits : (j : ℕ) → get_or a.credited.now j 0 < 2 ^ 64 = λ j. search rules in
    let fc : get_or c.loop-i.credited i 0 < 2 ^ 64 = omega (arith, n.kept i (omega arith), fits i) in
    rw (p.number, p.here 0, p.beside 0) (record {
      fits = omega (
        arith,
        n.count,
        few (64 * i) (New a.credited.now a.before.now a.wheel.now),
        ones-few _ (new-lt _ _ _ fc (c.type_inv.before i).fits (c.type_inv.wheel i).fits),
        c.requires.small,
        p.within,
        within _ _ c.requires.few,
      );
    })

pub loop-i-preserved-then-entered-ne0 : goal.loop-i-preserved-then-entered-ne0
loop-i-preserved-then-entered-ne0 c =
    let a = c.args in
    let p = one_pair (div_ceil a.n 64) a.wheel.now a.before.now c.next.new.self c.loop-i.invariant.0 c.next.ensures.steps c.in-Some.is in
    let n = c.loop-i.invariant.1 in
    let i = enumerate_count c.loop-i.i-iterator in
    let fits : (j : ℕ) → get_or a.credited.now j 0 < 2 ^ 64 = λ j. search rules in
    let fc : get_or c.loop-i.credited i 0 < 2 ^ 64 = omega (arith, n.kept i (omega arith), fits i) in
    let b : i < length c.loop-i.credited = omega (
      arith,
      p.within,
      within _ _ c.requires.few,
      n.long,
    ) in
    (p.rest, rw (p.number, p.here 0, p.beside 0, p.next) (one_more _ _ _ _ _ _ n b fc (c.type_inv.before i).fits (c.type_inv.wheel i).fits))

pub loop-i-preserved : goal.loop-i-preserved
loop-i-preserved c =
    let a = c.args in
    let p = one_pair (div_ceil a.n 64) a.wheel.now a.before.now c.next.new.self c.loop-i.invariant.0 c.next.ensures.steps c.in-Some.is in
    let n = c.loop-i.invariant.1 in
    let i = enumerate_count c.loop-i.i-iterator in
    let fits : (j : ℕ) → get_or a.credited.now j 0 < 2 ^ 64 = λ j. search rules in
    let fc : get_or c.loop-i.credited i 0 < 2 ^ 64 = omega (arith, n.kept i (omega arith), fits i) in
    let b : i < length c.loop-i.credited = omega (
      arith,
      p.within,
      within _ _ c.requires.few,
      n.long,
    ) in
    (p.rest, rw p.next (none_more _ _ _ _ _ _ n b fc (c.type_inv.before i).fits (c.type_inv.wheel i).fits (rw (p.here 0, p.beside 0) at c.if-entered-ne0.false)))

pub shape_of-credited : goal.shape_of-credited
shape_of-credited c = c.loop-i.invariant.1.long

pub returns : goal.returns
returns c =
    let a = c.args in
    let fits : (j : ℕ) → get_or a.credited.now j 0 < 2 ^ 64 = λ j. search rules in
    let n = c.loop-i.invariant.1 in
    let i = enumerate_count c.loop-i.i-iterator in
    let w = within _ _ c.requires.few in
    let whole = no_pair (div_ceil a.n 64) a.wheel.now a.before.now c.next.new.self c.loop-i.invariant.0 c.next.ensures.steps c.in-None.is (omega (arith, w, c.requires.long)) (omega (arith, w, c.requires.last)) in
    let r = rest-credited _ _ _ _ _ _ fits c.requires.long (λ t b u. c.requires.past t (beyond_words a.n i t whole b) (omega (arith, u, c.requires.long))) n in
    record { credited_after = all-credited _ _ _ _ _ _ refl r; value = all-counted _ _ _ _ _ _ refl r }
