-- `form::table::map_of` meets its contract. Assumes nothing.
use Rattle.form.specs.Rules.Form.{table_fields, map_of, most_rows}
use Rattle.form.proofs.TableLaws.{Gathered}
use lib.ListN.{take}
use Prim.Native.Nat.{◌+◌}
use mathlib.Core.Path.{◌≡◌}
use Rattle.form.proofs.table.map_of.Given as goal

abbrev pub invariant-loop-k : goal.invariant-loop-k
invariant-loop-k l =
    let it = l.k-iterator in
    record {
      count : it.count + it.iter.n ≡ most_rows;
      bits : Gathered (map_of (take most_rows (table_fields l.fn.fields))) l.map it.count (map_of (take it.iter.n (table_fields it.iter.iter)));
    }
