-- `form::eight::read` meets its contract. Assumes nothing.
use Rattle.form.specs.Rules.Bytes.{each_from}
use lib.ListN.{length, take, drop}
use Prim.Native.Nat.{◌*◌, ◌-◌}
use mathlib.Core.Path.{◌≡◌}
use mathlib.Core.List.{◌++◌}
use Rattle.form.proofs.eight.read.Given as goal

abbrev pub invariant-loop-i : goal.invariant-loop-i
invariant-loop-i g l =
    take l.i l.values ++ each_from g.E.Eight.of_number (length l.initial.values - l.i) (drop (l.i * 8) l.bytes)
    ≡ each_from g.E.Eight.of_number (length l.initial.values) l.bytes
