-- Floats cut to whole numbers: which one, by comparing. Assumes nothing.
use Rattle.std.proofs.Common.{◌≡◌, ℕ, suc, ◌^◌, ◌<◌, ◌≤◌, true, false, pos, sym, ap, ◌∙◌, arith, lit≤, leb-false, leb-true}
use lib.Ieee.{Float, binary64, le, of_int, to_unsigned}
use Rattle.course.specs.Rules.Arithmetic.{natural}
use Rattle.course.specs.Steps.Numbers.{whole_at}
use Rattle.course.specs.declared.trig.Whole.{Whole}
use Rattle.course.proofs.Naturals.{natural-le}

pub cut-between : (v : Float) (n : ℕ) → 0 < n → n < 2 ^ 53 → le (natural n) v ≡ true → le (natural (suc n)) v ≡ false → to_unsigned 64 v ≡ n
cut-between v n low high h g =
    let a : n ≤ to_unsigned 64 v = leb-true n _ (sym (natural-le n low (omega arith) v) ∙ h) in
    let b : to_unsigned 64 v < suc n = leb-false (suc n) _ (sym (natural-le (suc n) (omega arith) (omega arith) v) ∙ g) in
    omega arith

pub cut_below : (v : Float) → le (natural 1) v ≡ false → to_unsigned 64 v ≡ 0
cut_below v g =
    let b : to_unsigned 64 v < 1 = leb-false 1 _ (sym (natural-le 1 (lit≤ tt) (lit≤ tt) v) ∙ g) in
    omega arith

-- the record of a whole number, and what it holds
pub whole_is : (n m : ℕ) (f : Float) → n ≡ m → f ≡ of_int binary64 (pos n) → record { n = n; f = f } ≡ whole_at m
unfolding whole_at
whole_is n m f e h = λ i. record { n = e i; f = (h ∙ ap (λ (z : ℕ). of_int binary64 (pos z)) e) i }

pub whole-n : (r : Whole) (m : ℕ) → r ≡ whole_at m → r.n ≡ m
unfolding whole_at
whole-n r m h = ap (λ (x : Whole). x.n) h

pub whole-f : (r : Whole) (m : ℕ) → r ≡ whole_at m → r.f ≡ of_int binary64 (pos m)
unfolding whole_at
whole-f r m h = ap (λ (x : Whole). x.f) h
