-- `form::eight::put` meets its contract. Assumes nothing.
use Rattle.form.proofs.Filling.{Filling}
use Rattle.form.specs.Rules.Bytes.{each_bytes}
use lib.ListN.{length, drop}
use Prim.Native.Nat.{◌*◌, ◌≤◌}
use Rattle.form.proofs.eight.put.Given as goal

abbrev pub invariant-loop-i : goal.invariant-loop-i
invariant-loop-i g l =
    (8 * length l.values ≤ length l.initial.out)
    × Filling l.out l.initial.out (each_bytes g.E.Eight.number_of l.values) (l.i * 8) (each_bytes g.E.Eight.number_of (drop l.i l.values))
