-- Which tiles are in sets of words that hold tiles below n: for every number, also past the words. For any number of words. Assumes nothing.
use mathlib.Core.Bool.{Bool, false}
use mathlib.Core.List.{List}
use mathlib.Core.Path.{◌≡◌, sym, ap, ◌∙◌, subst}
use Prim.Native.Nat.{ℕ, ◌*◌, ◌/◌, ◌%◌, ◌≤◌, ◌<◌}
use native.Mathlib.Nat.{le_trans, le-div_iff_mul-le}
use native.Mathlib.Omega.{arith}
use lib.ListN.{length, get_or-eq_default}
use Rattle.run.specs.Grader.Words.{bit_of, member, set_of}
use Rattle.run.specs.Grader.Contact.{wheel_part}
use Rattle.run.proofs.WordLaws.{member-set_of, length-set_of, bit-none}
use Rattle.run.proofs.BelowLaws.{below, below_out, by_side}
use Rattle.run.proofs.PlainContact.{credited_by, wheels_by}
use Rattle.run.proofs.ContactLaws.{part_of}

-- no tile stands past the words
past_words : (m t : ℕ) (p : ℕ → Bool) → 64 * m ≤ t → member (set_of m p) t ≡ false
unfolding member
past_words m t p h =
    let w : length (set_of m p) ≤ t / 64 = subst (λ (k : ℕ). k ≤ t / 64) (sym (length-set_of m p)) ((le-div_iff_mul-le {k = 64} {x = m} {y = t} (omega arith)).1 (omega (arith, h))) in
    ap (λ (x : ℕ). bit_of x (t % 64)) (get_or-eq_default (set_of m p) 0 {n = t / 64} w) ∙ bit-none (t % 64)

module _ (m n : ℕ) (fits : n ≤ 64 * m) where
  pub in-set : (T : ℕ → Bool) (t : ℕ) → member (credited_by m n fits T) t ≡ below n T t
  in-set T t =
      by_side (λ u. member (credited_by m n fits T) u ≡ below n T u) (64 * m) t (λ l. member-set_of m t (below n T) l)
      (λ l. past_words m t (below n T) l ∙ sym (below_out n T t (le_trans fits l)))

  pub in-wheel : (W : ℕ → ℕ → Bool) (w t : ℕ) → w < 4 → member (wheel_part m (wheels_by m n fits W) w) t ≡ below n (W w) t
  in-wheel W w t h = ap (λ (x : List ℕ). member x t) (part_of m (λ v. below n (W v)) 4 w h) ∙ in-set (W w) t
