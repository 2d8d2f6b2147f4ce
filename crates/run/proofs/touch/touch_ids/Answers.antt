-- `run::touch::touch_ids` meets its contract. Assumes nothing.
use Rattle.run.specs.Rules.Overlap.{overlap_of}
use Rattle.run.specs.Grader.Words.{member, set_of}
use Rattle.run.proofs.TouchLaws.{one_id, no_id, all_ids, id_below, tested-is, tested-before, tested-hit, tested-miss}
use lib.Dec.{eqb}
use lib.ListN.{length, get_or}
use Prim.Native.Nat.{ℕ, ◌*◌, ◌<◌}
use mathlib.Core.Bool.{◌||◌}
use mathlib.Core.Path.{◌≡◌, refl, sym, ap, ◌∙◌}
use native.Mathlib.Omega.{arith}
use Rattle.run.proofs.touch.touch_ids.Goals as goal
use Rattle.run.proofs.touch.touch_ids.Goals.{then-overlaps, else-overlaps}

pub loop-id-init : goal.loop-id-init
loop-id-init c = no_id c.args.ids.now

pub has-requires : goal.has-requires
has-requires c = omega (arith, id_below c.args.ids.now c.requires.ids_below c.loop-id-test.true, c.requires.room.words, c.loop-id.auto.tested)

pub put-requires : goal.put-requires
put-requires c = omega (arith, id_below c.args.ids.now c.requires.ids_below c.loop-id-test.true, c.requires.room.words, c.loop-id.auto.tested)

pub tile-requires : goal.tile-requires
tile-requires c = omega (arith, id_below c.args.ids.now c.requires.ids_below c.loop-id-test.true, c.requires.room.tiles)

pub put-requires-then-overlaps : goal.put-requires-then-overlaps
put-requires-then-overlaps c = omega (arith, id_below c.args.ids.now c.requires.ids_below c.loop-id-test.true, c.requires.room.words, c.requires.room.sets, c.loop-id.auto.touched)

pub loop-id-preserved-then-has : goal.loop-id-preserved-then-has
loop-id-preserved-then-has c =
    let b : get_or c.args.ids.now c.loop-id.id-index 0 < 64 * length c.loop-id.tested = omega (arith, id_below c.args.ids.now c.requires.ids_below c.loop-id-test.true, c.requires.room.words, c.loop-id.auto.tested) in
    one_id c.args.ids.now c.loop-id-test.true c.loop-id.invariant (λ L h. tested-before _ _ L _ _ _ b h (sym c.has.ensures ∙ c.if-has.true))

pub loop-id-preserved : goal.loop-id-preserved
loop-id-preserved c =
    let l = c.loop-id in
    let id = get_or c.args.ids.now l.id-index 0 in
    let b : id < 64 * length l.tested = omega (arith, id_below c.args.ids.now c.requires.ids_below c.loop-id-test.true, c.requires.room.words, l.auto.tested) in
    let e : length l.touched ≡ length l.tested = omega (arith, l.auto.touched, l.auto.tested, c.requires.room.sets) in
    let overlap = c.overlaps.ensures ∙ ap (overlap_of c.args.wheel.now.quad) c.tile.ensures in
    elim c.if-overlaps.branch [
      | then-overlaps w ↦
          one_id c.args.ids.now c.loop-id-test.true l.invariant (λ L h. tested-hit _ _ L _ _ _ b h _ _ (sym overlap ∙ w.if-overlaps.true) c.put.ensures
          (w.touched-is ∙ w.put-then-overlaps.ensures ∙ ap (λ (m : ℕ). set_of m (λ t. member l.touched t || eqb t id)) e))
      | else-overlaps w ↦
          one_id c.args.ids.now c.loop-id-test.true l.invariant (λ L h. tested-is refl w.touched-is (tested-miss _ _ L _ _ _ b h _ (sym overlap ∙ w.if-overlaps.false) c.put.ensures))
    ]

pub returns : goal.returns
returns c = all_ids c.args.ids.now c.loop-id-test.false c.loop-id.invariant
