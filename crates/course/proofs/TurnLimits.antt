-- The turns of beta, for a beta within ±16 and an alpha within ±6.3: at most three are made, and beta is then within ±12. Assumes nothing.
use Rattle.std.proofs.Common.{◌≡◌, ℕ, zero, suc, Bool, true, false, ◌&&◌, T, ◌⊎◌, Option, Some, None, sym, refl, ◌∙◌, subst, inl, inr, true≢false}
use lib.Ieee.{Float, neg, lt, le, round, of_int, add, sub, mul}
use Rattle.course.specs.Rules.Arithmetic.{◌⊕◌, ◌⊖◌, natural, decimal}
use Rattle.course.specs.Rules.Constants.{pi, tau}
use Rattle.course.specs.Rules.Step.{far_above, far_below, turn_down, turn_up, then_up, turn_of}
use Rattle.course.proofs.Intervals.{In, Near, finites, finites3, wider, add-in, sub_in, split-in, not-above, not-below, not_beyond, not_short}

-- bounds in tenths, and below 0
abbrev tenths : ℕ → Float
tenths n = decimal n 10

abbrev minus : ℕ → Float
minus n = neg (decimal n 10)

pub tau-in : In (decimal 628 100) (decimal 629 100) tau
unfolding tau pi natural of_int decimal round mul le
tau-in = record { low = tt; high = tt }

-- ---- a turn down is not undone by a turn up
-- For alpha from lo to hi: beta up to `pivot` wants no turn down, and beta from there on wants no turn up after one. All tests on constants.
record Pivot (lo hi pivot : Float) : Type 0 where
  between : T (finites3 (neg (natural 16)) (natural 16) pivot)
  none : T (finites (neg (natural 16)) pivot (neg hi) (neg lo) && (le (minus 300) (neg (natural 16) ⊖ hi) && le (pivot ⊖ lo) far_above))
  turned : T (finites pivot (natural 16) (neg (decimal 629 100)) (neg (decimal 628 100)) && (le (pivot ⊖ decimal 629 100) (pivot ⊖ decimal 629 100) && le (natural 16 ⊖ decimal 628 100) (natural 16)))
  after : T (finites (pivot ⊖ decimal 629 100) (natural 16) (neg hi) (neg lo) && (le far_below (pivot ⊖ decimal 629 100 ⊖ hi) && le (natural 16 ⊖ lo) (tenths 300)))

not-undone-at : {lo hi : Float} (pivot b a : Float) → Pivot lo hi pivot → In lo hi a → Near (natural 16) b → lt far_above (b ⊖ a) ≡ true → lt (b ⊖ tau ⊖ a) far_below ≡ false
not-undone-at {lo} {hi} pivot b a t ha hb e = go (split-in pivot hb t.between)
  where
    go : In (neg (natural 16)) pivot b ⊎ In pivot (natural 16) b → lt (b ⊖ tau ⊖ a) far_below ≡ false
    go (inl i) =
        let d : In (minus 300) far_above (b ⊖ a) = sub_in i ha t.none in
        absurd (true≢false (sym e ∙ not-above far_above d (unfold far_above pi neg mul decimal round le in tt)))
    go (inr i) =
        let r : In (pivot ⊖ decimal 629 100) (natural 16) (b ⊖ tau) = sub_in i tau-in t.turned in
        let d : In far_below (tenths 300) (b ⊖ tau ⊖ a) = sub_in r ha t.after in
        not-below far_below d (unfold far_below pi neg mul decimal round le in tt)

pivot1 : Pivot (minus 63) (minus 45) (minus 16)
unfolding far_above far_below pi natural of_int decimal round neg sub mul le
pivot1 = record { between = tt; none = tt; turned = tt; after = tt }

pivot2 : Pivot (minus 45) (minus 15) (tenths 2)
unfolding far_above far_below pi natural of_int decimal round neg sub mul le
pivot2 = record { between = tt; none = tt; turned = tt; after = tt }

pivot3 : Pivot (minus 15) (tenths 15) (tenths 32)
unfolding far_above far_below pi natural of_int decimal round neg sub mul le
pivot3 = record { between = tt; none = tt; turned = tt; after = tt }

pivot4 : Pivot (tenths 15) (tenths 45) (tenths 62)
unfolding far_above far_below pi natural of_int decimal round neg sub mul le
pivot4 = record { between = tt; none = tt; turned = tt; after = tt }

pivot5 : Pivot (tenths 45) (tenths 63) (tenths 92)
unfolding far_above far_below pi natural of_int decimal round neg sub mul le
pivot5 = record { between = tt; none = tt; turned = tt; after = tt }

-- no fifth turn, and beta within ±12 after the turns
abbrev pub Fine : Option (Float × ℕ) → Type 0
Fine None = ⊥
Fine (Some t) = Near (natural 12) t.0

-- beta from lo on has room for a turn up, and is from lo' on after it
record Rise (lo lo' : Float) : Type 0 where
  inside : T (le (neg (natural 16)) lo && le (natural 12) (natural 12))
  between : T (finites3 lo (natural 12) (natural 2))
  turned : T (finites lo (natural 2) (decimal 628 100) (decimal 629 100) && (le lo' (lo ⊕ decimal 628 100) && le (natural 2 ⊕ decimal 629 100) (natural 12)))

-- beta up to hi has room for a turn down, and is up to hi' after it
record Fall (hi hi' : Float) : Type 0 where
  inside : T (le (neg (natural 16)) (neg (natural 16)) && le hi (natural 16))
  between : T (finites3 (neg (natural 16)) hi (neg (natural 2)))
  turned : T (finites (neg (natural 2)) hi (neg (decimal 629 100)) (neg (decimal 628 100)) && (le (neg (natural 16)) (neg (natural 2) ⊖ decimal 629 100) && le (hi ⊖ decimal 628 100) hi'))

rise1 : Rise (neg (natural 16)) (minus 98)
unfolding natural of_int decimal round neg add le
rise1 = record { inside = tt; between = tt; turned = tt }

rise2 : Rise (minus 98) (minus 36)
unfolding natural of_int decimal round neg add le
rise2 = record { inside = tt; between = tt; turned = tt }

rise3 : Rise (minus 36) (tenths 26)
unfolding natural of_int decimal round neg add le
rise3 = record { inside = tt; between = tt; turned = tt }

fall1 : Fall (natural 16) (tenths 98)
unfolding natural of_int decimal round neg sub le
fall1 = record { inside = tt; between = tt; turned = tt }

fall2 : Fall (tenths 98) (tenths 36)
unfolding natural of_int decimal round neg sub le
fall2 = record { inside = tt; between = tt; turned = tt }

fall3 : Fall (tenths 36) (minus 26)
unfolding natural of_int decimal round neg sub le
fall3 = record { inside = tt; between = tt; turned = tt }

module _ (a : Float) (ha : Near (tenths 63) a) where
  not-undone : (b : Float) → Near (natural 16) b → lt far_above (b ⊖ a) ≡ true → lt (b ⊖ tau ⊖ a) far_below ≡ false
  not-undone b hb e = elim (split-in (minus 45) ha (unfold neg decimal round in tt)) [
    | inl i ↦ not-undone-at (minus 16) b a pivot1 i hb e
    | inr i ↦ elim (split-in (minus 15) i (unfold neg decimal round in tt)) [
      | inl i ↦ not-undone-at (tenths 2) b a pivot2 i hb e
      | inr i ↦ elim (split-in (tenths 15) i (unfold neg decimal round in tt)) [
        | inl i ↦ not-undone-at (tenths 32) b a pivot3 i hb e
        | inr i ↦ elim (split-in (tenths 45) i (unfold neg decimal round in tt)) [ inl i ↦ not-undone-at (tenths 62) b a pivot4 i hb e | inr i ↦ not-undone-at (tenths 92) b a pivot5 i hb e ]
      ]
    ]
  ]

  -- ---- beta after the turns
  -- where no turn is wanted, beta is near alpha
  not_low : (b : Float) → In (neg (natural 16)) (natural 12) b → lt (b ⊖ a) far_below ≡ false → Near (natural 12) b
  not_low b hb e = elim (split-in (neg (natural 12)) hb (unfold natural of_int neg in tt)) [
    | inl i ↦
        let d : In (minus 300) (minus 56) (b ⊖ a) = sub_in i ha (unfold natural of_int decimal round neg sub le in tt) in
        absurd (not_short far_below d e (unfold far_below pi natural of_int decimal round neg mul lt in tt))
    | inr i ↦ i
  ]

  not-high : (b : Float) → Near (natural 16) b → lt far_above (b ⊖ a) ≡ false → In (neg (natural 16)) (natural 12) b
  not-high b hb e = elim (split-in (natural 12) hb (unfold natural of_int neg in tt)) [
    | inl i ↦ i
    | inr i ↦
        let d : In (tenths 56) (tenths 300) (b ⊖ a) = sub_in i ha (unfold natural of_int decimal round neg sub le in tt) in
        absurd (not_beyond far_above d e (unfold far_above pi natural of_int decimal round neg mul lt in tt))
  ]

  -- ---- turns up
  up_none : (n : ℕ) (b : Float) → lt (b ⊖ a) far_below ≡ false → turn_up n b a ≡ Some (b, n)
  unfolding turn_up
  up_none zero b e = rw e
  up_none (suc n) b e = rw e

  up_rest : (n : ℕ) (b : Float) → In (neg (natural 16)) (natural 12) b → lt (b ⊖ a) far_below ≡ false → Fine (turn_up n b a)
  up_rest n b hb e = subst Fine (sym (up_none n b e)) (not_low b hb e)

  up_turn : (n : ℕ) (b : Float) → lt (b ⊖ a) far_below ≡ true → turn_up (suc n) b a ≡ turn_up n (b ⊕ tau) a
  unfolding turn_up
  up_turn n b e = rw e

  up-last : (n : ℕ) (b : Float) → In (tenths 26) (natural 12) b → Fine (turn_up n b a)
  up-last n b hb =
      let d : In (minus 37) (tenths 300) (b ⊖ a) = sub_in hb ha (unfold natural of_int decimal round neg sub le in tt) in
      up_rest n b (wider hb (unfold natural of_int decimal round neg le in tt)) (not-below far_below d (unfold far_below pi decimal round neg mul le in tt))

  up_more : (lo lo' : Float) → Rise lo lo' → (n : ℕ) → ((b : Float) → In lo' (natural 12) b → Fine (turn_up n b a)) → (b : Float) → In lo (natural 12) b → Fine (turn_up (suc n) b a)
  up_more lo lo' r n rest b hb = go (lt (b ⊖ a) far_below) refl
    where
      turn : lt (b ⊖ a) far_below ≡ true → In lo (natural 2) b ⊎ In (natural 2) (natural 12) b → Fine (turn_up n (b ⊕ tau) a)
      turn e (inl i) = rest (b ⊕ tau) (add-in i tau-in r.turned)
      turn e (inr i) =
          let d : In (minus 43) (tenths 300) (b ⊖ a) = sub_in i ha (unfold natural of_int decimal round neg sub le in tt) in
          absurd (true≢false (sym e ∙ not-below far_below d (unfold far_below pi decimal round neg mul le in tt)))

      go : (x : Bool) → lt (b ⊖ a) far_below ≡ x → Fine (turn_up (suc n) b a)
      go true e = subst Fine (sym (up_turn n b e)) (turn e (split-in (natural 2) hb r.between))
      go false e = up_rest (suc n) b (wider hb r.inside) e

  -- ---- turns down, where beta is not far below alpha
  down-none : (n : ℕ) (b : Float) → lt far_above (b ⊖ a) ≡ false → turn_down n b a ≡ Some (b, n)
  unfolding turn_down
  down-none zero b e = rw e
  down-none (suc n) b e = rw e

  down_turn : (n : ℕ) (b : Float) → lt far_above (b ⊖ a) ≡ true → turn_down (suc n) b a ≡ turn_down n (b ⊖ tau) a
  unfolding turn_down
  down_turn n b e = rw e

  abbrev Down : ℕ → Float → Type 0
  Down n b = Fine (then_up a (turn_down n b a))

  down-rest : (n : ℕ) (b : Float) → lt far_above (b ⊖ a) ≡ false → Fine (turn_up n b a) → Down n b
  unfolding then_up
  down-rest n b e h = subst (λ (t : Option (Float × ℕ)). Fine (then_up a t)) (sym (down-none n b e)) h

  down-last : (n : ℕ) (b : Float) → In (neg (natural 16)) (minus 26) b → lt (b ⊖ a) far_below ≡ false → Down n b
  down-last n b hb l =
      let d : In (minus 300) (tenths 37) (b ⊖ a) = sub_in hb ha (unfold natural of_int decimal round neg sub le in tt) in
      down-rest n b (not-above far_above d (unfold far_above pi decimal round neg mul le in tt)) (up_rest n b (wider hb (unfold natural of_int decimal round neg le in tt)) l)

  turned-down : (hi hi' : Float) → Fall hi hi' → (b : Float) → In (neg (natural 16)) hi b → lt far_above (b ⊖ a) ≡ true → In (neg (natural 16)) hi' (b ⊖ tau)
  turned-down hi hi' r b hb e = elim (split-in (neg (natural 2)) hb r.between) [
    | inl i ↦
        let d : In (minus 300) (tenths 43) (b ⊖ a) = sub_in i ha (unfold natural of_int decimal round neg sub le in tt) in
        absurd (true≢false (sym e ∙ not-above far_above d (unfold far_above pi decimal round neg mul le in tt)))
    | inr i ↦ sub_in i tau-in r.turned
  ]

  -- one turn more, or what `none` says where it is not wanted
  down-more : (hi hi' : Float) → Fall hi hi' → (n : ℕ) → ((b : Float) → In (neg (natural 16)) hi' b → lt (b ⊖ a) far_below ≡ false → Down n b)
      → (b : Float) → In (neg (natural 16)) hi b → (In (neg (natural 16)) (natural 12) b → Fine (turn_up (suc n) b a)) → Down (suc n) b
  down-more hi hi' r n rest b hb none = go (lt far_above (b ⊖ a)) refl
    where
      go : (x : Bool) → lt far_above (b ⊖ a) ≡ x → Down (suc n) b
      go true e = subst (λ (t : Option (Float × ℕ)). Fine (then_up a t)) (sym (down_turn n b e)) (rest (b ⊖ tau) (turned-down hi hi' r b hb e) (not-undone b (wider hb r.inside) e))
      go false e = down-rest (suc n) b e (none (not-high b (wider hb r.inside) e))

  down-further : (hi hi' : Float) → Fall hi hi' → (n : ℕ) → ((b : Float) → In (neg (natural 16)) hi' b → lt (b ⊖ a) far_below ≡ false → Down n b)
      → (b : Float) → In (neg (natural 16)) hi b → lt (b ⊖ a) far_below ≡ false → Down (suc n) b
  down-further hi hi' r n rest b hb l = down-more hi hi' r n rest b hb (λ (i : In (neg (natural 16)) (natural 12) b). up_rest (suc n) b i l)

  -- three turns up, or three turns down, and none is wanted after them
  pub turn-fine : (b : Float) → Near (natural 16) b → Fine (turn_of b a)
  unfolding turn_of
  turn-fine b hb =
      let ups = up_more (neg (natural 16)) (minus 98) rise1 3 (up_more (minus 98) (minus 36) rise2 2 (up_more (minus 36) (tenths 26) rise3 1 (up-last 1))) in
      let downs = down-further (tenths 98) (tenths 36) fall2 2 (down-further (tenths 36) (minus 26) fall3 1 (down-last 1)) in
      down-more (natural 16) (tenths 98) fall1 3 downs b hb (ups b)
