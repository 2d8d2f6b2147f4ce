-- `form::pack::standing_length` meets its contract. Assumes nothing.
use Rattle.form.specs.Rules.Form.{table_fields, standing}
use lib.ListN.{length}
use Prim.Native.Nat.{◌+◌}
use mathlib.Core.Path.{◌≡◌}
use Rattle.form.proofs.pack.standing_length.Given as goal

abbrev pub invariant-loop-field : goal.invariant-loop-field
invariant-loop-field l =
    l.n + length (standing l.field-iterator.b.rest (table_fields l.field-iterator.a)) ≡ length (standing l.map (table_fields l.fn.fields))
