-- `run::contact::full_contact` meets its contract. Assumes nothing.
use Prim.Native.Nat.{◌*◌}
use mathlib.Core.Path.{◌≡◌}
use lib.ListN.{length}
use Rattle.run.specs.Grader.Widths.{full_words}
use native.Mathlib.Omega.{arith}
use lib.Dec.{lit<}
use Rattle.run.proofs.ContactLaws.{touched-creditable, contact-made}
use borrow.Author.Rules.{rules}
use Rattle.run.proofs.contact.full_contact.Goals as goal

pub touch_sets-requires : goal.touch_sets-requires
touch_sets-requires c = record { sound = c.requires; room = record { sets = search rules; words = omega (arith, c.args.course.few); tiles = c.args.course.lent } }

pub credit_sets-requires : goal.credit_sets-requires
credit_sets-requires c =
    let e : length c.args.credited.now ≡ full_words = search rules in
    let w : length c.args.wheels.now ≡ 4 * full_words = search rules in
    touched-creditable full_words _ c.args.course.n _ _ _ _ _ _ c.touch_sets.ensures e w (lit< tt) c.args.course.some (omega (arith, c.args.course.few)) c.requires

pub returns : goal.returns
returns c =
    let e : length c.args.credited.now ≡ full_words = search rules in
    contact-made _ _ _ _ c.touch_sets.ensures _ _ e (lit< tt) c.credit_sets.ensures
