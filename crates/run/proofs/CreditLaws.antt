-- One turn of the loop that credits what was entered, a word at a time, and what the loop leaves. Assumes nothing.
use mathlib.Core.Bool.{Bool, true, false, not, ◌&&◌, ◌||◌, or-false}
use mathlib.Core.List.{List}
use mathlib.Core.Path.{◌≡◌, refl, sym, ap, ap₂, ◌∙◌, subst}
use Prim.Native.Nat.{ℕ, zero, suc, ◌+◌, ◌-◌, ◌*◌, ◌/◌, ◌%◌, ◌^◌, ◌≤◌, ◌<◌}
use native.Mathlib.Nat.{lt_of_le_of_lt}
use native.Mathlib.Omega.{arith}
use native.Mathlib.Decide.{dec_lt}
use lib.ListN.{length, get_or, set, replicate, length-replicate, length-set, get_or-eq_default}
use lib.Seq.{get_or-set_same, get_or-set_other, set-get_or}
use lib.Bits.{bit_or, bit_and, and_le_l, or_lt, or_zero_r, and_zero_l}
use lib.Count.{ones}
use Rattle.std.specs.Int.{div_ceil}
use Rattle.std.proofs.lemmas.Grind.{div_ceil_times}
use lib.Dec.{lit<}
use borrow.Author.Count.{below_more}
use Rattle.run.specs.Grader.Words.{bit_of, member, word_of, set_of}
use Rattle.course.specs.Rules.Counting.{digit, how_many}
use Rattle.run.proofs.WordLaws.{Fit, word-bit, word_lt, word-ext, ones-word, member-at, is-set_of, get_d-zeros, bit-none, bit-or, bit-and, bit_not, how_many-add, how_many-cong}

-- the bits of the other value
abbrev pub flipped : ℕ → ℕ
flipped w = 2 ^ 64 - 1 - w

-- a word has as many ones as numbers below 64 are its bits
pub ones-bits : (w : ℕ) → w < 2 ^ 64 → ones w ≡ how_many 64 (bit_of w)
ones-bits w h = ap ones (word-ext 64 w (word_of 64 (bit_of w)) h (word_lt 64 (bit_of w)) (λ i l. sym (word-bit 64 i (bit_of w) l))) ∙ ones-word 64 (bit_of w)

-- the words of the tiles below n are among the set's
pub within : (n m : ℕ) → n ≤ 64 * m → div_ceil n 64 ≤ m
within n m h = omega (arith, (div_ceil_times n 64 (omega arith)).1)

-- and have them all
pub beyond_words : (n i t : ℕ) → div_ceil n 64 ≤ i → 64 * i ≤ t → n ≤ t
beyond_words n i t h b = omega (arith, (div_ceil_times n 64 (omega arith)).0)

pub few : (n : ℕ) (p : ℕ → Bool) → how_many n p ≤ n
unfolding how_many
few zero p = omega arith
few (suc n) p = one (p n) (how_many n p) n (few n p)
  where
    one : (b : Bool) (a k : ℕ) → a ≤ k → a + digit b ≤ suc k
    one true a k h = omega arith
    one false a k h = omega arith

-- words that are all 0 hold nothing
pub empty-words : (m : ℕ) (ws : List ℕ) → length ws ≡ m → ((j : ℕ) → j < m → get_or ws j 0 ≡ 0) → ws ≡ set_of m (λ t. false)
unfolding member
empty-words m ws el h = is-set_of m ws (λ t. false) el fit (λ t b. ap (λ (w : ℕ). bit_of w (t % 64)) (h (t / 64) (omega arith)) ∙ bit-none (t % 64))
  where
    fit : Fit ws
    fit j =
        elim (dec_lt j m) [
          | yes b ↦ subst (λ (x : ℕ). x < 2 ^ 64) (sym (h j b)) (lit< tt)
          | no b ↦ subst (λ (x : ℕ). x < 2 ^ 64) (sym (get_or-eq_default ws 0 {n = j} (omega (arith, el)))) (lit< tt)
        ]

-- zeros hold nothing
pub zeros_empty : (m : ℕ) → replicate m 0 ≡ set_of m (λ t. false)
zeros_empty m = empty-words m (replicate m 0) (length-replicate m 0) (λ j h. get_d-zeros m j)

pub ones-few : (w : ℕ) → w < 2 ^ 64 → ones w ≤ 64
ones-few w h = subst (λ (x : ℕ). x ≤ 64) (sym (ones-bits w h)) (few 64 (bit_of w))

pub how_many-false : (n : ℕ) → how_many n (λ t. false) ≡ 0
unfolding how_many
how_many-false zero = refl
how_many-false (suc n) = ap (λ (x : ℕ). x + 0) (how_many-false n)

-- ---- word j of three sets: credited before, touched last, touched now
module _ (c l e : ℕ) (fc : c < 2 ^ 64) (fl : l < 2 ^ 64) (fe : e < 2 ^ 64) where
  entered-bit : (k : ℕ) → k < 64 → bit_of (bit_and e (flipped l)) k ≡ (bit_of e k && not (bit_of l k))
  entered-bit k h = bit-and e (flipped l) k ∙ ap (λ (b : Bool). bit_of e k && b) (bit_not 64 l k fl h)

  pub entered-lt : bit_and e (flipped l) < 2 ^ 64
  entered-lt = lt_of_le_of_lt (and_le_l e (flipped l)) fe

  pub new-lt : bit_and (bit_and e (flipped l)) (flipped c) < 2 ^ 64
  new-lt = lt_of_le_of_lt (and_le_l (bit_and e (flipped l)) (flipped c)) entered-lt

  pub new-bit : (k : ℕ) → k < 64 → bit_of (bit_and (bit_and e (flipped l)) (flipped c)) k ≡ ((bit_of e k && not (bit_of l k)) && not (bit_of c k))
  new-bit k h = bit-and (bit_and e (flipped l)) (flipped c) k ∙ ap₂ ◌&&◌ (entered-bit k h) (bit_not 64 c k fc h)

  pub credited-bit : (k : ℕ) → k < 64 → bit_of (bit_or c (bit_and e (flipped l))) k ≡ (bit_of c k || (bit_of e k && not (bit_of l k)))
  credited-bit k h = bit-or c (bit_and e (flipped l)) k ∙ ap (λ (b : Bool). bit_of c k || b) (entered-bit k h)

  pub credited-lt : bit_or c (bit_and e (flipped l)) < 2 ^ 64
  credited-lt = or_lt 64 c (bit_and e (flipped l)) fc entered-lt

-- ---- the loop
module _ (c₀ l e : List ℕ) where
  abbrev pub Enters : ℕ → Bool
  Enters t = member e t && not (member l t)

  abbrev pub New : ℕ → Bool
  New t = Enters t && not (member c₀ t)

  -- after i words: c holds the credited words, `fresh` counts the new tiles
  pub record Credited (c : List ℕ) (fresh i : ℕ) : Type 0 where
    pub bound : i ≤ length c₀
    pub long : length c ≡ length c₀
    pub small : (j : ℕ) → j < i → get_or c j 0 < 2 ^ 64
    pub done : (j : ℕ) → j < i → (k : ℕ) → k < 64 → bit_of (get_or c j 0) k ≡ (bit_of (get_or c₀ j 0) k || (bit_of (get_or e j 0) k && not (bit_of (get_or l j 0) k)))
    pub kept : (j : ℕ) → i ≤ j → get_or c j 0 ≡ get_or c₀ j 0
    pub count : fresh ≡ how_many (64 * i) New

  step : (i : ℕ) → 64 * i + 64 ≡ 64 * (i + 1)
  step i = omega arith

  new_word : (j : ℕ) → get_or c₀ j 0 < 2 ^ 64 → get_or l j 0 < 2 ^ 64 → get_or e j 0 < 2 ^ 64
      → ones (bit_and (bit_and (get_or e j 0) (flipped (get_or l j 0))) (flipped (get_or c₀ j 0))) ≡ how_many 64 (λ k. New (64 * j + k))
  new_word j fc fl fe =
      ones-bits (bit_and (bit_and (get_or e j 0) (flipped (get_or l j 0))) (flipped (get_or c₀ j 0))) (new-lt (get_or c₀ j 0) (get_or l j 0) (get_or e j 0) fc fl fe)
      ∙ how_many-cong 64 (bit_of (bit_and (bit_and (get_or e j 0) (flipped (get_or l j 0))) (flipped (get_or c₀ j 0)))) (λ k. New (64 * j + k))
      (λ k h. new-bit (get_or c₀ j 0) (get_or l j 0) (get_or e j 0) fc fl fe k h
      ∙ sym (ap₂ (λ (a b : Bool). a && not b) (ap₂ (λ (a b : Bool). a && not b) (member-at e j k h) (member-at l j k h)) (member-at c₀ j k h)))

  pub one_more : (c : List ℕ) (fresh i : ℕ) → Credited c fresh i → i < length c → get_or c i 0 < 2 ^ 64 → get_or l i 0 < 2 ^ 64 → get_or e i 0 < 2 ^ 64
      → Credited (set c i (bit_or (get_or c i 0) (bit_and (get_or e i 0) (flipped (get_or l i 0)))))
      (fresh + ones (bit_and (bit_and (get_or e i 0) (flipped (get_or l i 0))) (flipped (get_or c i 0)))) (i + 1)
  one_more c fresh i h b fc fl fe =
      let v = bit_or (get_or c i 0) (bit_and (get_or e i 0) (flipped (get_or l i 0))) in
      let same : get_or c i 0 ≡ get_or c₀ i 0 = h.kept i (omega arith) in
      let at : get_or (set c i v) i 0 ≡ v = get_or-set_same c i v 0 b in
      let other : (j : ℕ) → (j ≡ i → ⊥) → get_or (set c i v) j 0 ≡ get_or c j 0 = λ j n. get_or-set_other c i j v 0 n in
      record {
        bound = omega (arith, h.long);
        long = length-set c i v ∙ h.long;
        small = below_more (λ j. get_or (set c i v) j 0 < 2 ^ 64) i
            (λ j m. subst (λ (x : ℕ). x < 2 ^ 64) (sym (other j (λ q. omega arith))) (h.small j m))
            (subst (λ (x : ℕ). x < 2 ^ 64) (sym at) (credited-lt (get_or c i 0) (get_or l i 0) (get_or e i 0) fc fl fe));
        done = below_more (λ j. (k : ℕ) → k < 64 → bit_of (get_or (set c i v) j 0) k ≡ (bit_of (get_or c₀ j 0) k || (bit_of (get_or e j 0) k && not (bit_of (get_or l j 0) k)))) i
            (λ j m k n. ap (λ (x : ℕ). bit_of x k) (other j (λ q. omega arith)) ∙ h.done j m k n)
            (λ k n. ap (λ (x : ℕ). bit_of x k) at ∙ credited-bit (get_or c i 0) (get_or l i 0) (get_or e i 0) fc fl fe k n
            ∙ ap (λ (x : ℕ). bit_of x k || (bit_of (get_or e i 0) k && not (bit_of (get_or l i 0) k))) same);
        kept = λ j m. other j (λ q. omega arith) ∙ h.kept j (omega arith);
        count =
            ap₂ ◌+◌ h.count
            (ap (λ (x : ℕ). ones (bit_and (bit_and (get_or e i 0) (flipped (get_or l i 0))) (flipped x))) same
            ∙ new_word i (subst (λ (x : ℕ). x < 2 ^ 64) same fc) fl fe)
            ∙ sym (how_many-add (64 * i) 64 New) ∙ ap (λ (x : ℕ). how_many x New) (step i);
      }

  -- a word of which nothing was entered stays as it is
  pub none_more : (c : List ℕ) (fresh i : ℕ) → Credited c fresh i → i < length c → get_or c i 0 < 2 ^ 64 → get_or l i 0 < 2 ^ 64 → get_or e i 0 < 2 ^ 64
      → bit_and (get_or e i 0) (flipped (get_or l i 0)) ≡ 0 → Credited c fresh (i + 1)
  unfolding ones
  none_more c fresh i h b fc fl fe z =
      let w = get_or c i 0 in
      let same : set c i (bit_or w 0) ≡ c = ap (set c i) (or_zero_r w) ∙ set-get_or c i 0 in
      let zero_more : fresh + 0 ≡ fresh = omega arith in
      let count : fresh + ones (bit_and 0 (flipped w)) ≡ fresh = ap (λ (x : ℕ). fresh + ones x) (and_zero_l (flipped w)) ∙ zero_more in
      subst (λ (x : ℕ). Credited c x (i + 1)) count
      (subst (λ (x : List ℕ). Credited x (fresh + ones (bit_and 0 (flipped w))) (i + 1)) same
      (subst (λ (x : ℕ). Credited (set c i (bit_or w x)) (fresh + ones (bit_and x (flipped w))) (i + 1)) z (one_more c fresh i h b fc fl fe)))

  -- the same of values that are equal
  pub credited-is : {c c' : List ℕ} {fresh fresh' i : ℕ} → c' ≡ c → fresh' ≡ fresh → Credited c fresh i → Credited c' fresh' i
  credited-is {c' = c'} {fresh = fresh} {i = i} p q h = subst (λ (y : ℕ). Credited c' y i) (sym q) (subst (λ (x : List ℕ). Credited x fresh i) (sym p) h)

  -- the words from i on, of which nothing was entered, stay as they are
  pub rest-credited : (c : List ℕ) (fresh i : ℕ) → Fit c₀ → length e ≡ length c₀ → ((t : ℕ) → 64 * i ≤ t → t < 64 * length e → member e t ≡ false) → Credited c fresh i
      → Credited c fresh (length c₀)
  rest-credited c fresh i fit el none h =
      let m = length c₀ in
      let d = m - i in
      let empty : (j k : ℕ) → i ≤ j → j < m → k < 64 → bit_of (get_or e j 0) k ≡ false = λ j k a b u. sym (member-at e j k u) ∙ none (64 * j + k) (omega arith) (omega (arith, el)) in
      let none-new : (t : ℕ) → t < 64 * d → New (64 * i + t) ≡ false = λ t b. ap (λ (x : Bool). (x && not (member l (64 * i + t))) && not (member c₀ (64 * i + t))) (none (64 * i + t) (omega arith) (omega (arith, el, h.bound))) in
      let whole : 64 * i + 64 * d ≡ 64 * m = omega (arith, h.bound) in
      let same : how_many (64 * i) New + 0 ≡ how_many (64 * i) New = omega arith in
      record {
        bound = omega arith;
        long = h.long;
        small = λ j b. elim (dec_lt j i) [ yes a ↦ h.small j a | no a ↦ subst (λ (x : ℕ). x < 2 ^ 64) (sym (h.kept j (omega arith))) (fit j) ];
        done = λ j b k u. elim (dec_lt j i) [
          | yes a ↦ h.done j a k u
          | no a ↦ ap (λ (x : ℕ). bit_of x k) (h.kept j (omega arith)) ∙ sym (or-false (bit_of (get_or c₀ j 0) k)) ∙ ap (λ (x : Bool). bit_of (get_or c₀ j 0) k || (x && not (bit_of (get_or l j 0) k))) (sym (empty j k (omega arith) b u))
        ];
        kept = λ j b. h.kept j (omega (arith, h.bound));
        count =
            h.count ∙ sym same
            ∙ ap (λ (x : ℕ). how_many (64 * i) New + x) (sym (how_many-cong (64 * d) (λ t. New (64 * i + t)) (λ t. false) none-new ∙ how_many-false (64 * d)))
            ∙ sym (how_many-add (64 * i) (64 * d) New) ∙ ap (λ (x : ℕ). how_many x New) whole;
      }

  pub all-credited : (c : List ℕ) (fresh i : ℕ) → i ≡ length c₀ → Credited c fresh i → c ≡ set_of (length c₀) (λ t. member c₀ t || Enters t)
  unfolding member
  all-credited c fresh i ei h =
      is-set_of (length c₀) c (λ t. member c₀ t || Enters t) h.long fit (λ t b. h.done (t / 64) (omega arith) (t % 64) (omega arith))
    where
      fit : Fit c
      fit j =
          elim (dec_lt j i) [
            | yes b ↦ h.small j b
            | no b ↦ subst (λ (x : ℕ). x < 2 ^ 64) (sym (get_or-eq_default c 0 {n = j} (omega (arith, h.long)))) (lit< tt)
          ]

  pub all-counted : (c : List ℕ) (fresh i : ℕ) → i ≡ length c₀ → Credited c fresh i → fresh ≡ how_many (64 * length c₀) New
  all-counted c fresh i ei h = h.count ∙ ap (λ (x : ℕ). how_many (64 * x) New) ei
