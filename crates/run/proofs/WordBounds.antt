-- A set's tiles word by word: how many there are, and whether all are below n. For sets of any number of words. Assumes nothing.
use mathlib.Core.Bool.{Bool, true, false, not, ◌&&◌, ◌||◌}
use mathlib.Core.List.{List, [], ◌∷◌}
use mathlib.Core.Path.{◌≡◌, refl, sym, ap, ap₂, ◌∙◌}
use mathlib.Mathlib.Data.Bool.Basic.{eq-false_of_not-eq-true}
use Prim.Native.Nat.{ℕ, zero, suc, ◌+◌, ◌-◌, ◌*◌, ◌/◌, ◌%◌, ◌^◌, ◌≤◌, ◌<◌}
use native.Mathlib.Nat.{div-eq_of_lt, div-one}
use Rattle.std.proofs.Common.{add-one}
use Rattle.std.proofs.lemmas.List.Sums.{sum_by-cons}
use native.Mathlib.Omega.{arith}
use native.Mathlib.Decide.{dec_lt, ℕ_discrete}
use lib.Count.{ones}
use lib.Dec.{ltb, eqb, lit<}
use lib.ListN.{length, get_or, drop, length-drop}
use lib.Seq.{drop-cons}
use Rattle.std.specs.List.{sum_by, list_all}
use lib.Pow.{shr-shr, shr_le}
use borrow.Author.Tests.{lt-ltb, le-ltb, not-true, eq-eqb, ne_eqb}
use Rattle.run.specs.Rules.Below.{every_below, how_many}
use Rattle.run.specs.Grader.Words.{bit_of, member}
use Rattle.run.specs.Grader.Saved.{all_below}
use Rattle.run.proofs.WordLaws.{Fit, how_many-none, word-ext, member-at, bit-none, how_many-add, how_many-cong}
use Rattle.run.proofs.BelowLaws.{by_side, every-at}
use Rattle.run.proofs.CreditLaws.{ones-bits}

-- ---- a set's tiles are counted word by word
pub all-counted : (ws : List ℕ) → Fit ws → sum_by ones ws ≡ how_many (64 * length ws) (member ws)
all-counted ws f = counted ws (member ws) f (λ i k h. member-at ws i k h)
  where
    counted : (vs : List ℕ) (p : ℕ → Bool) → Fit vs → ((i k : ℕ) → k < 64 → p (64 * i + k) ≡ bit_of (get_or vs i 0) k) → sum_by ones vs ≡ how_many (64 * length vs) p
    counted [] p f e = sym (how_many-none p)
    counted (v ∷ vs) p f e =
        sum_by-cons ones v vs
        ∙ ap₂ ◌+◌ (ones-bits v (f 0) ∙ how_many-cong 64 (bit_of v) p (λ k h. sym (e 0 k h) ∙ ap p (first k)))
        (counted vs (λ t. p (64 + t)) (λ i. f (suc i)) (λ i k h. ap p (next i k) ∙ e (suc i) k h))
        ∙ sym (how_many-add 64 (64 * length vs) p) ∙ ap (λ (x : ℕ). how_many x p) (whole (length vs))
      where
        first : (k : ℕ) → 64 * 0 + k ≡ k
        first k = omega arith

        next : (i k : ℕ) → 64 + (64 * i + k) ≡ 64 * suc i + k
        next i k = omega arith

        whole : (m : ℕ) → 64 + 64 * m ≡ 64 * suc m
        whole m = omega arith

-- ---- tests that all numbers below n pass
every_true : (n : ℕ) (p : ℕ → Bool) → ((t : ℕ) → t < n → p t ≡ true) → every_below n p ≡ true
unfolding every_below
every_true zero p h = refl
every_true (suc n) p h = ap₂ ◌&&◌ (every_true n p (λ t l. h t (omega arith))) (h n (omega arith))

-- the bits of a word moved down
bit_moved : (w r k : ℕ) → bit_of (w / 2 ^ r) k ≡ bit_of w (r + k)
unfolding bit_of
bit_moved w r k = ap (λ (x : ℕ). eqb (x % 2) 1) (shr-shr w r k)

bit_past : (w r k : ℕ) → w / 2 ^ r ≡ 0 → r ≤ k → bit_of w k ≡ false
bit_past w r k e h =
    let s : r + (k - r) ≡ k = omega arith in
    ap (bit_of w) (sym s) ∙ sym (bit_moved w r (k - r)) ∙ ap (λ (x : ℕ). bit_of x (k - r)) e ∙ bit-none (k - r)

-- ---- all tiles are below n
module _ (ws : List ℕ) (n : ℕ) where
  abbrev Passes : ℕ → Bool
  Passes t = ltb t n || not (member ws t)

  passes : (t : ℕ) → (n ≤ t → member ws t ≡ false) → Passes t ≡ true
  passes t h =
      by_side (λ u. (n ≤ u → member ws u ≡ false) → Passes u ≡ true) n t
      (λ l k. ap (λ (b : Bool). b || not (member ws t)) (lt-ltb t n l))
      (λ l k. ap₂ (λ (a b : Bool). a || not b) (le-ltb t n l) (k l)) h

  past-member : (t : ℕ) → n ≤ t → Passes t ≡ true → member ws t ≡ false
  past-member t h e = not-true (member ws t) (ap (λ (b : Bool). b || not (member ws t)) (sym (le-ltb t n h)) ∙ e)

  -- where none is n or more
  pub all-below : ((t : ℕ) → t < 64 * length ws → n ≤ t → member ws t ≡ false) → all_below n ws ≡ true
  unfolding all_below
  all-below h = every_true (64 * length ws) Passes (λ t l. passes t (h t l))

  -- the words before i have none that is n or more; `free` tiles of word i are below n
  pub record Passed (i free : ℕ) : Type 0 where
    pub left : free ≡ n - 64 * i
    pub some : free < 64
    pub pass : (t : ℕ) → t < 64 * i → n ≤ t → member ws t ≡ false

  first-passed : Passed (n / 64) (n % 64)
  first-passed = record { left = omega arith; some = omega arith; pass = λ t h l. absurd (omega arith) }

  next-passed : (i free : ℕ) → Passed i free → get_or ws i 0 / 2 ^ free ≡ 0 → Passed (i + 1) 0
  next-passed i free h e =
      record { left = omega (arith, h.left, h.some); some = lit< tt; pass = λ t l b. elim (dec_lt t (64 * i)) [ yes a ↦ h.pass t a b | no a ↦ here t a l b ] }
    where
      here : (t : ℕ) → (t < 64 * i → ⊥) → t < 64 * (i + 1) → n ≤ t → member ws t ≡ false
      here t a l b =
          let k = t - 64 * i in
          let s : t ≡ 64 * i + k = omega arith in
          ap (member ws) s ∙ member-at ws i k (omega arith) ∙ bit_past (get_or ws i 0) free k e (omega (arith, h.left))

  all-passed : (i free : ℕ) → Passed i free → length ws ≤ i → all_below n ws ≡ true
  all-passed i free h l = all-below (λ t b c. h.pass t (omega arith) c)

  not-passed : (i free : ℕ) → Passed i free → i < length ws → get_or ws i 0 < 2 ^ 64 → (get_or ws i 0 / 2 ^ free ≡ 0 → ⊥) → all_below n ws ≡ false
  unfolding all_below
  not-passed i free h l f e =
      eq-false_of_not-eq-true {b = every_below (64 * length ws) Passes}
      (λ a. e (word-ext 64 (get_or ws i 0 / 2 ^ free) 0 (omega (arith, f, shr_le (get_or ws i 0) free)) (lit< tt)
      (λ k b. bit_moved (get_or ws i 0) free k ∙ none a (free + k) (omega arith) ∙ sym (bit-none k))))
    where
      none : every_below (64 * length ws) Passes ≡ true → (k : ℕ) → free ≤ k → bit_of (get_or ws i 0) k ≡ false
      none a k b =
          elim (dec_lt k 64) [
            | yes c ↦
                sym (member-at ws i k c)
                ∙ past-member (64 * i + k) (omega (arith, h.left)) (every-at (64 * length ws) (64 * i + k) Passes a (omega arith))
            | no c ↦ bit_past (get_or ws i 0) 64 k (div-eq_of_lt f) (omega arith)
          ]

  -- no word from i on has a tile
  rest-passed : (vs : List ℕ) (i : ℕ) → Passed i 0 → drop i ws ≡ vs → Fit ws → list_all (λ w. eqb w 0) vs ≡ all_below n ws
  rest-passed [] i h e f = sym (all-passed i 0 h (omega (arith, length-drop i ws, ap length e)))
  rest-passed (x ∷ vs) i h e f =
      let b : i < length ws = omega (arith, length-drop i ws, ap length e) in
      let parts : ◌≡◌ {A = List ℕ} (get_or ws i 0 ∷ drop (suc i) ws) (x ∷ vs) = sym (drop-cons ws i 0 b) ∙ e in
      let here : get_or ws i 0 ≡ x = cc in
      let rest : drop (suc i) ws ≡ vs = cc in
      elim (ℕ_discrete x 0) [
        | yes z ↦
            ap (λ (t : Bool). t && list_all (λ w. eqb w 0) vs) (eq-eqb x 0 z)
            ∙ rest-passed vs (i + 1) (next-passed i 0 h (div-one (get_or ws i 0) ∙ here ∙ z)) (rw add-one rest) f
        | no z ↦
            ap (λ (t : Bool). t && list_all (λ w. eqb w 0) vs) (ne_eqb x 0 z)
            ∙ sym (not-passed i 0 h b (f i) (λ q. z (sym here ∙ sym (div-one (get_or ws i 0)) ∙ q)))
      ]

  -- where the word of tile n has none from it on
  pub below-free : Fit ws → get_or ws (n / 64) 0 / 2 ^ (n % 64) ≡ 0 → list_all (λ w. eqb w 0) (drop (n / 64 + 1) ws) ≡ all_below n ws
  below-free f e = rest-passed (drop (n / 64 + 1) ws) (n / 64 + 1) (next-passed (n / 64) (n % 64) first-passed e) refl f

  -- where it has one
  pub above-free : Fit ws → n / 64 < length ws → (get_or ws (n / 64) 0 / 2 ^ (n % 64) ≡ 0 → ⊥) → all_below n ws ≡ false
  above-free f b e = not-passed (n / 64) (n % 64) first-passed b (f (n / 64)) e

  -- where there is no such word
  pub short-set : length ws ≤ n / 64 → all_below n ws ≡ true
  short-set l = all-passed (n / 64) (n % 64) first-passed l
