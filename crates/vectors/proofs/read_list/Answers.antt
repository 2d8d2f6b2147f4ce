-- `vectors::read_list` meets its contract: a read fills the part on from where the reads before ended. Assumes nothing.
use Rattle.std.proofs.Common.{◌≡◌, ℕ, ◌+◌, ◌-◌, ◌≤◌, List, ◌++◌, rules, length, take, drop, sym, ap, ◌∙◌, subst, le_refl, drop_at, length-take-le}
use Rattle.std.proofs.lemmas.Slice.{take-put_mid_below}
use Rattle.std.specs.Io.KnownBytes.{Consumes}
use Rattle.std.proofs.KnownBytes.{Consumes-trans}
use borrow.Rule.Slice.PartMut.{put_mid, post_of}
use lib.Seq.{take-add, take-append-le}
use Rattle.vectors.proofs.read_list.Goals as goal

-- the first n bytes that were read into the part from a place on stand there, behind what stood before them
read-behind : (a n : ℕ) (xs ys : List ℕ) → a ≤ length xs → n ≤ length ys → take a xs ++ take n ys ≡ take (a + n) (put_mid a (length xs - a) xs ys)
read-behind a n xs ys within fits =
    let rest = post_of a (length xs - a) xs in
    let new = put_mid a (length xs - a) xs ys in
    let front : take a new ≡ take a xs = take-put_mid_below _ _ _ _ _ (le_refl _) within in
    let back : take n (drop a new) ≡ take n ys = ap (take n) (drop_at (take a xs) (ys ++ rest) a (length-take-le a xs within)) ∙ take-append-le n ys rest fits in
    ap (λ l. l ++ take n ys) (sym front) ∙ ap (λ l. take a new ++ l) (sym back) ∙ sym (take-add a n new)

pub loop-done-preserved : goal.loop-done-preserved
loop-done-preserved g c =
    let l = c.loop-done in
    let read = c.in_ok-n.ensures in
    (search rules, subst (Consumes _ _) (read-behind l.done c.in_ok-n.n l.part c.read.new.buf l.invariant.0 read.bound.0) (Consumes-trans _ _ _ _ _ l.invariant.1 read.bytes.0))
