-- The sets of the four wheels one after the other: what each touches now, and then the credit of what it entered. Assumes nothing.
use mathlib.Core.Bool.{Bool, true, false, not, ◌&&◌, ◌||◌, or-false, or_assoc, and-or_distrib_right}
use mathlib.Core.List.{List, ◌++◌, append-nil, append_assoc}
use mathlib.Core.Path.{◌≡◌, refl, sym, ap, ap₂, ◌∙◌, subst}
use Prim.Native.Nat.{ℕ, zero, suc, ◌+◌, ◌-◌, ◌*◌, ◌^◌, ◌≤◌, ◌<◌}
use native.Mathlib.Omega.{arith}
use native.Mathlib.Nat.{zero-mul, suc-mul, le_of_eq, le_trans, mul-le-mul_right}
use native.Mathlib.Numerals.{add-one}
use native.Mathlib.Decide.{ℕ_discrete}
use lib.ListN.{length, take, drop, length-append, length-drop, drop_of_length-le}
use lib.Seq.{take_at, drop_at, drop-drop, take_all, length-take-le, take-append-le, drop-append-le}
use lib.Ieee.{Float}
use denote.Ref.{Bor}
use mathlib.Core.Logic.{inl, inr}
use Rattle.std.specs.Prelude.{Option, Some, None}
use Rattle.std.specs.declared.iter.Zip.{Zip}
use Rattle.std.specs.declared.slice.ChunksExact.{ChunksExact}
use Rattle.std.specs.Iterator.Adapters.{zip_first, zip_second}
use Rattle.std.specs.Slice.Iter.{chunks_exact_rest, chunks_exact_size, chunks_exact_steps}
use Rattle.std.proofs.lemmas.Iterator.{zips}
use Rattle.run.specs.Rules.Below.{any_below, how_many}
use Rattle.run.specs.Rules.Arguments.{pose_at}
use Rattle.run.specs.Rules.Wheel.{wheel_quad, quad_of}
use Rattle.run.specs.Grader.Touch.{touched_by, sound_poses}
use Rattle.run.specs.Steps.Touch.{Room, Creditable, AllCreditable, in_sets, entered_since, Credits, credits, credits_of}
use Rattle.run.specs.declared.state.Pose.{Pose}
use Rattle.run.specs.Grader.Words.{member, set_of}
use Rattle.run.specs.Grader.Contact.{wheel_part, enters, entered, wheel_sets, contacted, contact_of}
use Rattle.run.proofs.WordLaws.{Fit, member-set_of, set_of-cong, length-set_of, is-set_of, how_many-cong, how_many-or, or-chain}
use Rattle.run.proofs.CreditLaws.{few, how_many-false}
use Rattle.run.proofs.BelowLaws.{any-cong}
use Rattle.run.proofs.TouchLaws.{untouched}
use Rattle.run.proofs.CellLaws.{own-sound}

-- ---- the sets of k wheels, and that of wheel w among them
size : (a m : ℕ) → a + m - a ≡ m
size a m = omega arith

next : (w m : ℕ) → w * m + m ≡ (w + 1) * m
next w m = sym (suc-mul w m) ∙ ap (λ (k : ℕ). k * m) (sym (add-one w))

pub end-within : (w k m : ℕ) → w < k → w * m + m ≤ k * m
end-within w k m h = le_trans (le_of_eq (sym (suc-mul w m))) (mul-le-mul_right m h)

-- a wheel's words end within those of the four wheels
part-ends : (w m : ℕ) {d : ℕ} → d ≡ 4 * m → w < 4 → w * m + m ≤ d
part-ends w m e h = subst (λ (x : ℕ). w * m + m ≤ x) (sym e) (end-within w 4 m h)

sets-long : (m : ℕ) (P : ℕ → ℕ → Bool) (w : ℕ) → length (wheel_sets m P w) ≡ w * m
unfolding wheel_sets
sets-long m P zero = sym (zero-mul m)
sets-long m P (suc w) = length-append (wheel_sets m P w) (set_of m (P w)) ∙ ap₂ ◌+◌ (sets-long m P w) (length-set_of m (P w)) ∙ sym (suc-mul w m)

drop-long : (a d m : ℕ) → a + m ≤ d → m ≤ d - a
drop-long a d m h = omega arith

part-before : (m w : ℕ) (a b : List ℕ) → w * m + m ≤ length a → take m (drop (w * m) (a ++ b)) ≡ take m (drop (w * m) a)
part-before m w a b h =
    ap (take m) (drop-append-le (w * m) a b (omega arith))
    ∙ take-append-le m (drop (w * m) a) b (subst (λ (x : ℕ). m ≤ x) (sym (length-drop (w * m) a)) (drop-long (w * m) (length a) m h))

pub part_of : (m : ℕ) (P : ℕ → ℕ → Bool) (k w : ℕ) → w < k → wheel_part m (wheel_sets m P k) w ≡ set_of m (P w)
unfolding wheel_part wheel_sets
part_of m P zero w h = absurd (omega arith)
part_of m P (suc k) w h =
    elim (ℕ_discrete w k) [
      | yes e ↦
          ap (λ (x : ℕ). take m (drop (x * m) (wheel_sets m P k ++ set_of m (P k)))) e
          ∙ ap (take m) (drop_at (wheel_sets m P k) (set_of m (P k)) (k * m) (sets-long m P k))
          ∙ take_all m (set_of m (P k)) (le_of_eq (length-set_of m (P k)))
          ∙ ap (λ (x : ℕ). set_of m (P x)) (sym e)
      | no n ↦
          part-before m w (wheel_sets m P k) (set_of m (P k)) (subst (λ (x : ℕ). w * m + m ≤ x) (sym (sets-long m P k)) (end-within w k m (omega arith)))
          ∙ part_of m P k w (omega arith)
    ]

-- a wheel's part has the words of one set
pub part-long : (m w : ℕ) (W : List ℕ) → length W ≡ 4 * m → w < 4 → length (wheel_part m W w) ≡ m
unfolding wheel_part
part-long m w W l h =
    length-take-le m (drop (w * m) W) (subst (λ (x : ℕ). m ≤ x) (sym (length-drop (w * m) W)) (drop-long (w * m) (length W) m (part-ends w m l h)))

-- the same part by its first word and the word after its last
lent-part : (m w : ℕ) (W : List ℕ) → wheel_part m W w ≡ take (w * m + m - w * m) (drop (w * m) W)
unfolding wheel_part
lent-part m w W = ap (λ (k : ℕ). take k (drop (w * m) W)) (sym (size (w * m) m))

-- ---- touch: after w wheels
pub record Touched (m : ℕ) (W₀ : List ℕ) (P : ℕ → ℕ → Bool) (W : List ℕ) (w : ℕ) : Type 0 where
  pub long : length W ≡ 4 * m
  pub wheels : W ≡ wheel_sets m P w ++ drop (w * m) W₀

pub wheel-ends : {m w : ℕ} {W₀ W : List ℕ} {P : ℕ → ℕ → Bool} → Touched m W₀ P W w → w < 4 → w * m + m ≤ length W
wheel-ends {m = m} {w = w} h b = part-ends w m h.long b

-- the quad of a wheel by its pose
pub wheel-is : (ps : List Pose) (w : ℕ) {q : List (List Float)} → q ≡ wheel_quad (pose_at ps w) → q ≡ quad_of ps w
unfolding quad_of
wheel-is ps w e = e

module _ {m : ℕ} {W₀ : List ℕ} {P : ℕ → ℕ → Bool} (l : length W₀ ≡ 4 * m) where
  pub no-set : Touched m W₀ P W₀ 0
  unfolding wheel_sets
  no-set = record { long = l; wheels = sym (ap (λ (k : ℕ). drop k W₀) (zero-mul m)) }

  module _ {W : List ℕ} {w : ℕ} (h : Touched m W₀ P W w) (b : w < 4) where
    -- the lent part has room for what the wheel touches
    pub own_room : {n : ℕ} {ts : List Float} {tested : List ℕ} → length tested ≡ m → n ≤ 64 * m → n * 8 ≤ length ts → Room 1 n ts tested (take (w * m + m - w * m) (drop (w * m) W))
    own_room s a d = let k = ap length (sym (lent-part m w W)) ∙ part-long m w W h.long b in record { sets = omega (arith, k, s); words = omega (arith, a, s); tiles = d }

    rest : drop (w * m + m - w * m) (drop (w * m) W) ≡ drop ((w + 1) * m) W₀
    rest =
        ap₂ (λ (k : ℕ) (x : List ℕ). drop k x) (size (w * m) m) (ap (drop (w * m)) h.wheels ∙ drop_at (wheel_sets m P w) (drop (w * m) W₀) (w * m) (sets-long m P w))
        ∙ drop-drop m (w * m) W₀ ∙ ap (λ (k : ℕ). drop k W₀) (next w m)

    pub one_set : {part : List ℕ} → part ≡ set_of m (P w) → Touched m W₀ P (take (w * m) W ++ (part ++ drop (w * m + m - w * m) (drop (w * m) W))) (w + 1)
    unfolding wheel_sets
    one_set {part} e =
        let whole : take (w * m) W ++ (part ++ drop (w * m + m - w * m) (drop (w * m) W)) ≡ wheel_sets m P (w + 1) ++ drop ((w + 1) * m) W₀ =
        ap₂ (λ (x y : List ℕ). x ++ y) (ap (take (w * m)) h.wheels ∙ take_at (wheel_sets m P w) (drop (w * m) W₀) (w * m) (sets-long m P w))
        (ap₂ (λ (x y : List ℕ). x ++ y) e rest)
        ∙ sym (append_assoc (wheel_sets m P w) (set_of m (P w)) (drop ((w + 1) * m) W₀))
        ∙ ap (λ (k : ℕ). wheel_sets m P k ++ drop ((w + 1) * m) W₀) (sym (add-one w)) in
        let long =
        ap length whole ∙ length-append (wheel_sets m P (w + 1)) (drop ((w + 1) * m) W₀)
        ∙ ap₂ ◌+◌ (sets-long m P (w + 1)) (length-drop ((w + 1) * m) W₀) ∙ omega (arith, part-ends w m l b, next w m, l) in
        record { long = long; wheels = whole }

  pub four-sets : {W : List ℕ} {w : ℕ} → w ≡ 4 → Touched m W₀ P W w → W ≡ wheel_sets m P 4
  four-sets four h =
      h.wheels ∙ ap (λ (k : ℕ). wheel_sets m P k ++ drop (k * m) W₀) four ∙ ap (λ (x : List ℕ). wheel_sets m P 4 ++ x) (drop_of_length-le W₀ (le_of_eq l)) ∙ append-nil (wheel_sets m P 4)

-- ---- credit: what is entered, a part of it after the other
-- the new tiles of two parts, one after the other
apart : (A N C : Bool) → (N && not (C || A)) ≡ ((N && not C) && not (A && not C))
apart A true true = refl
apart true true false = refl
apart false true false = refl
apart A false C = refl

module _ (c₀ c : List ℕ) (E : ℕ → Bool) {new : ℕ} {first : Bool} (h : credits c new first ≡ credits_of c₀ E) where
  credited-is : c ≡ set_of (length c₀) (λ t. member c₀ t || E t)
  unfolding credits_of
  credited-is = ap (λ (r : Credits). r.credited) h

  credits-long : length c ≡ length c₀
  credits-long = ap length credited-is ∙ length-set_of (length c₀) (λ t. member c₀ t || E t)

  fresh-is : new ≡ how_many (64 * length c₀) (λ t. E t && not (member c₀ t))
  unfolding credits_of
  fresh-is = ap (λ (r : Credits). r.fresh) h

  -- no more new tiles than the words have bits
  few-credits : new ≤ 64 * length c₀
  few-credits = subst (λ (x : ℕ). x ≤ 64 * length c₀) (sym fresh-is) (few (64 * length c₀) (λ t. E t && not (member c₀ t)))

  more-credit : (c' : List ℕ) (N : ℕ → Bool) {f : ℕ} {z : Bool} → credits c' f z ≡ credits_of c N → credits c' (new + f) (first || z) ≡ credits_of c₀ (λ t. E t || N t)
  unfolding credits_of
  more-credit c' N k =
      let m = length c₀ in
      let k' = k ∙ ap (λ (x : ℕ). credits (set_of x (λ t. member c t || N t)) (how_many (64 * x) (λ t. N t && not (member c t))) (N 0)) credits-long in
      let inside : (t : ℕ) → t < 64 * m → member c t ≡ (member c₀ t || E t) = λ t b. ap (λ (x : List ℕ). member x t) credited-is ∙ member-set_of m t (λ u. member c₀ u || E u) b in
      let all = or-chain m c c' (λ t. member c₀ t || E t) N credited-is (ap (λ (r : Credits). r.credited) k')
      ∙ set_of-cong m (λ t. (member c₀ t || E t) || N t) (λ t. member c₀ t || (E t || N t)) (λ t _. or_assoc (member c₀ t) (E t) (N t)) in
      let count =
      ap₂ ◌+◌ fresh-is
      (ap (λ (r : Credits). r.fresh) k'
      ∙ how_many-cong (64 * m) (λ t. N t && not (member c t)) (λ t. (N t && not (member c₀ t)) && not (E t && not (member c₀ t)))
      (λ t b. ap (λ (x : Bool). N t && not x) (inside t b) ∙ apart (E t) (N t) (member c₀ t)))
      ∙ sym (how_many-or (64 * m) (λ t. E t && not (member c₀ t)) (λ t. N t && not (member c₀ t)))
      ∙ how_many-cong (64 * m) (λ t. (E t && not (member c₀ t)) || (N t && not (member c₀ t))) (λ t. (E t || N t) && not (member c₀ t))
      (λ t _. sym (and-or_distrib_right (E t) (N t) (not (member c₀ t)))) in
      λ i. credits (all i) (count i) ((h i).zero || (k' i).zero)

-- what the first w wheels enter
abbrev by_wheels : List ℕ → List ℕ → List ℕ → ℕ → ℕ → Bool
by_wheels c₀ B W w t = any_below w (λ v. enters (length c₀) B (in_sets (length c₀) W) v t)

-- what is left of the sets before and now after w wheels, m words to a wheel
pub record Parts (m : ℕ) (B W : List ℕ) (it : Zip (ChunksExact ℕ) (ChunksExact ℕ)) (w : ℕ) : Type 0 where
  pub bound : w ≤ 4
  pub first-size : chunks_exact_size (zip_first it) ≡ m
  pub second-size : chunks_exact_size (zip_second it) ≡ m
  pub first : chunks_exact_rest (zip_first it) ≡ drop (w * m) B
  pub second : chunks_exact_rest (zip_second it) ≡ drop (w * m) W

-- the next of them
part-next : (m w : ℕ) (B x r s : List ℕ) → s ≡ drop (w * m) B → s ≡ x ++ r → length x ≡ m → (x ≡ wheel_part m B w) × (r ≡ drop ((w + 1) * m) B)
unfolding wheel_part
part-next m w B x r s d e l =
    let a = sym e ∙ d in (
      sym (take_at x r m l) ∙ ap (take m) a,
      sym (drop_at x r m l) ∙ ap (drop m) a ∙ drop-drop m (w * m) B ∙ ap (λ k. drop k B) (next w m),
    )

-- x and y are the parts of wheel w
pub record NextParts (m : ℕ) (B W : List ℕ) (jt : Zip (ChunksExact ℕ) (ChunksExact ℕ)) (w : ℕ) (x y : List ℕ) : Type 0 where
  pub less : w < 4
  pub before : x ≡ wheel_part m B w
  pub now : y ≡ wheel_part m W w
  pub rest : Parts m B W jt (w + 1)

some_words : {m n : ℕ} {B W : List ℕ} → AllCreditable m n B W → 0 < m
some_words a = let k = a.each 0 (omega arith) in omega (arith, k.some, k.few)

module _ {m n : ℕ} {B W : List ℕ} {it : Zip (ChunksExact ℕ) (ChunksExact ℕ)} (jt : Zip (ChunksExact ℕ) (ChunksExact ℕ)) {r : Option (Bor (List ℕ) × Bor (List ℕ))} {w : ℕ} (all : AllCreditable m n B W) (h : Parts m B W it w)
    (step : zips chunks_exact_steps chunks_exact_steps it r jt) where
  pub next-parts : {p q : Bor (List ℕ)} → r ≡ Some (p, q) → NextParts m B W jt w p.now q.now
  next-parts {p} {q} e =
      let s = subst (λ o. zips chunks_exact_steps chunks_exact_steps it o jt) e step in
      let a = part-next m w B p.now _ _ h.first s.0.1.0 (s.0.1.1 ∙ h.first-size) in
      let b = part-next m w W q.now _ _ h.second s.1.1.0 (s.1.1.1 ∙ h.second-size) in
      let less : w < 4 =
      elim (ℕ_discrete w 4) [
        | yes four ↦ absurd (omega (arith, ap (λ (x : ℕ). x * m) four, ap length (sym h.first ∙ s.0.1.0), length-drop (w * m) B, length-append p.now (chunks_exact_rest (zip_first jt)), s.0.1.1, h.first-size, all.last, some_words all))
        | no more ↦ omega (arith, h.bound)
      ] in
      record { less = less; before = a.0; now = b.0; rest = record { bound = omega (arith, less); first-size = s.0.0 ∙ h.first-size; second-size = s.1.0 ∙ h.second-size; first = a.1; second = b.1 } }

  pub no-parts : r ≡ None → w ≡ 4
  no-parts e =
      elim (ℕ_discrete w 4) [
        | yes four ↦ four
        | no more ↦
            let ends = end-within w 4 m (omega (arith, h.bound)) in
            elim (subst (λ o. zips chunks_exact_steps chunks_exact_steps it o jt) e step) [
              | inl u ↦ absurd (omega (arith, u.1.1.0, h.first-size, ap length h.first, length-drop (w * m) B, all.last, ends))
              | inr u ↦ absurd (omega (arith, u.1.1.0, h.second-size, ap length h.second, length-drop (w * m) W, all.long, ends))
            ]
      ]

-- after w wheels
abbrev pub Credited : List ℕ → List ℕ → List ℕ → List ℕ → ℕ → Bool → ℕ → Type 0
Credited c₀ B W c new first w = credits c new first ≡ credits_of c₀ (by_wheels c₀ B W w)

pub no-credit : (c B W : List ℕ) → Fit c → Credited c B W c 0 false 0
unfolding credits_of any_below
no-credit c B W f =
    λ i. credits (is-set_of (length c) c (λ t. member c t || false) refl f (λ t _. sym (or-false (member c t))) i) (sym (how_many-false (64 * length c)) i) false

module _ (c₀ B W c : List ℕ) {new : ℕ} {first : Bool} (w : ℕ) (h : Credited c₀ B W c new first w) where
  abbrev m : ℕ
  m = length c₀

  pub credited-long : length c ≡ m
  credited-long = credits-long c₀ c (by_wheels c₀ B W w) h

  -- one wheel more
  module _ {n : ℕ} (a : AllCreditable m n B W) (b : w < 4) where
    pub own-credit : Creditable (length c) n (wheel_part m B w) (wheel_part m W w)
    own-credit = subst (λ (x : ℕ). Creditable x n (wheel_part m B w) (wheel_part m W w)) (sym credited-long) (a.each w b)

    module _ (c' : List ℕ) {f : ℕ} {z : Bool} (k : credits c' f z ≡ credits_of c (λ t. member (wheel_part m W w) t && not (member (wheel_part m B w) t))) where
      pub one-credit : Credited c₀ B W c' (new + f) (first || z) (w + 1)
      unfolding any_below enters
      one-credit = more-credit c₀ c (by_wheels c₀ B W w) h c' (λ t. enters m B (in_sets m W) w t) k ∙ ap (λ (j : ℕ). credits_of c₀ (by_wheels c₀ B W j)) (sym (add-one w))

      pub few-new : new + f < 2 ^ 32
      few-new = omega (arith, few-credits c₀ c' (by_wheels c₀ B W (w + 1)) one-credit, (a.each w b).small)

  pub four-credits : w ≡ 4 → credits c new first ≡ credits_of c₀ (entered_since m B W)
  unfolding entered
  four-credits four = h ∙ ap (λ (k : ℕ). credits_of c₀ (by_wheels c₀ B W k)) four

-- ---- the contact: touch, then credit
module _ (m : ℕ) (W₀ : List ℕ) (P : ℕ → ℕ → Bool) (W : List ℕ) (e : W ≡ wheel_sets m P 4) where
  -- wheel w's set holds what it touches
  in-set : (w t : ℕ) → w < 4 → t < 64 * m → in_sets m W w t ≡ P w t
  in-set w t b l = ap (λ (x : List ℕ). member (wheel_part m x w) t) e ∙ ap (λ (x : List ℕ). member x t) (part_of m P 4 w b) ∙ member-set_of m t (P w) l

  entered-is : (t : ℕ) → t < 64 * m → entered_since m W₀ W t ≡ entered m W₀ P t
  unfolding entered enters
  entered-is t l = any-cong 4 _ _ (λ w b. ap (λ (x : Bool). x && not (member (wheel_part m W₀ w) t)) (in-set w t b l))

  pub contact-made : (c₀ c : List ℕ) {new : ℕ} {first : Bool} → length c₀ ≡ m → 0 < 64 * m → credits c new first ≡ credits_of c₀ (entered_since (length c₀) W₀ W)
      → contacted c W new first ≡ contact_of m c₀ W₀ P
  unfolding contact_of credits_of
  contact-made c₀ c {new} {first} s b k =
      let E = entered_since m W₀ W in
      let h : credits c new first ≡ credits (set_of m (λ t. member c₀ t || E t)) (how_many (64 * m) (λ t. E t && not (member c₀ t))) (E 0) =
      k ∙ ap (λ (x : ℕ). credits (set_of x (λ t. member c₀ t || entered_since x W₀ W t)) (how_many (64 * x) (λ t. entered_since x W₀ W t && not (member c₀ t))) (entered_since x W₀ W 0)) s in
      λ i. contacted ((ap (λ (r : Credits). r.credited) h ∙ set_of-cong m _ _ (λ t l. ap (λ (x : Bool). member c₀ t || x) (entered-is t l))) i) (e i)
      ((ap (λ (r : Credits). r.fresh) h ∙ how_many-cong (64 * m) _ _ (λ t l. ap (λ (x : Bool). x && not (member c₀ t)) (entered-is t l))) i)
      ((ap (λ (r : Credits). r.zero) h ∙ entered-is 0 b) i)

-- what four wheels touch by sound look-ups may be credited
pub touched-creditable : (m m' n : ℕ) (W₀ W : List ℕ) (ts : List Float) (offs l : List ℕ) (ps : List Pose) → W ≡ wheel_sets m (λ w. touched_by ts offs l (quad_of ps w)) 4 → m' ≡ m → length W₀ ≡ 4 * m
    → 64 * m < 2 ^ 32 → 0 < n → n ≤ 64 * m → sound_poses offs l n ps ≡ true → AllCreditable m' n W₀ W
touched-creditable m m' n W₀ W ts offs l ps e s lb small some few look =
    let P : ℕ → ℕ → Bool = λ w. touched_by ts offs l (quad_of ps w) in
    let lw : length W ≡ 4 * m = ap length e ∙ sets-long m P 4 in
    subst (λ (x : ℕ). AllCreditable x n W₀ W) (sym s) (record {
      last = lb;
      long = lw;
      each = λ w b. record {
        last = part-long m w W₀ lb b;
        long = part-long m w W lw b;
        small = small;
        some = some;
        few = few;
        past = λ t a u. in-set m W₀ P W e w t b u ∙ untouched ts offs l n (quad_of ps w) t (own-sound offs l n ps w look b) a;
      };
    })
