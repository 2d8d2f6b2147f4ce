-- Whether a wheel's set has a tile, by the words that are not 0. For any number of words. Assumes nothing.
use mathlib.Core.Bool.{Bool, true, false, not, ◌||◌, true≢false}
use mathlib.Core.List.{List, [], ◌∷◌, ◌++◌}
use mathlib.Core.Path.{◌≡◌, refl, sym, ap, ap₂, ◌∙◌}
use Prim.Native.Nat.{ℕ, zero, suc, ◌*◌, ◌<◌}
use native.Mathlib.Omega.{arith}
use native.Mathlib.Decide.{ℕ_discrete}
use lib.Dec.{eqb}
use lib.ListN.{get_or, take, drop, length}
use borrow.Author.Tests.{eqb-true, not-false}
use native.Mathlib.Nat.{suc-mul}
use lib.Seq.{drop-drop}
use Rattle.run.proofs.ContactLaws.{part-long}
use Rattle.std.specs.Simd.{first_chunks}
use Rattle.std.specs.List.{list_any}
use Rattle.std.proofs.lemmas.List.Elements.{All-from_get_or}
use Rattle.std.proofs.lemmas.List.Folds.{list_any-append, list_any_at, list_any_none}
use Rattle.run.specs.Rules.Below.{any_below}
use Rattle.run.specs.Grader.Words.{member}
use Rattle.run.specs.Grader.Contact.{wheel_part}
use Rattle.run.specs.Grader.Grip.{on_road, roads_of}
use Rattle.run.specs.Steps.Drive.{stands}
use Rattle.course.proofs.BoolLaws.{both_ways}
use Rattle.run.proofs.WordLaws.{Fit}
use Rattle.run.proofs.AnyLaws.{any_found, none_found}

-- a word that does not stand is 0
falls : (w : ℕ) → stands w ≡ false → w ≡ 0
unfolding stands
falls w h = eqb-true w 0 (not-false (eqb w 0) h)

nought : (w : ℕ) → w ≡ 0 → stands w ≡ false
unfolding stands
nought w q = ap (λ (x : ℕ). not (eqb x 0)) q

is-false : (b : Bool) → (b ≡ true → ⊥) → b ≡ false
is-false true h = absurd (h refl)
is-false false h = refl

-- a word of a set stands where the set has a tile
pub set_stands : (ws : List ℕ) → Fit ws → list_any stands ws ≡ any_below (64 * length ws) (member ws)
set_stands ws fit =
    both_ways (list_any stands ws) (any_below (64 * length ws) (member ws))
    (λ n. none_found ws (length ws) (λ j h. falls (get_or ws j 0) (is-false _ (λ t. true≢false (sym (list_any_at stands ws j 0 h t) ∙ n)))))
    (λ n. list_any_none stands ws (All-from_get_or (λ w. stands w ≡ false) ws 0 (λ j h. nought (get_or ws j 0) (zero-at n j h))))
  where
    zero-at : any_below (64 * length ws) (member ws) ≡ false → (j : ℕ) → j < length ws → get_or ws j 0 ≡ 0
    zero-at n j h =
        elim (ℕ_discrete (get_or ws j 0) 0) [
          | yes q ↦ q
          | no q ↦ absurd (true≢false (sym (any_found ws (length ws) j h (fit j) q) ∙ n))
        ]

-- by the first words, which have a tile or leave it to the others
module _ (ws vs us : List ℕ) (fit : Fit ws) (e : ws ≡ vs ++ us) (a : Bool) (first : a ≡ list_any stands vs) where
  either : (list_any stands vs || list_any stands us) ≡ any_below (64 * length ws) (member ws)
  either = sym (ap (list_any stands) e ∙ list_any-append stands vs us) ∙ set_stands ws fit

  pub first_stands : a ≡ true → a ≡ any_below (64 * length ws) (member ws)
  first_stands t = t ∙ ap (λ (b : Bool). b || list_any stands us) (sym t ∙ first) ∙ either

  pub others_stand : (b : Bool) → b ≡ list_any stands us → a ≡ false → b ≡ any_below (64 * length ws) (member ws)
  others_stand b h n = h ∙ ap (λ (c : Bool). c || list_any stands us) (sym n ∙ first) ∙ either

-- ---- wheel by wheel
chunk_at : (m n i : ℕ) (ws d : List ℕ) → i < n → get_or (first_chunks m n ws) i d ≡ wheel_part m ws i
unfolding wheel_part
chunk_at m zero i ws d h = absurd (omega (arith, h))
chunk_at m (suc n) zero ws d h =
    let none : 0 ≡ 0 * m = omega arith in
    ap (λ (j : ℕ). take m (drop j ws)) none
chunk_at m (suc n) (suc i) ws d h =
    chunk_at m n i (drop m ws) d (omega (arith, h)) ∙ ap (take m) (drop-drop (i * m) m ws ∙ ap (λ (j : ℕ). drop j ws) (omega (arith, suc-mul i m)))

-- the four wheels by the sets that their words are cut into
module _ (m : ℕ) (ws : List ℕ) (long : length ws ≡ 4 * m) (sets : List (List ℕ)) (cut : sets ≡ first_chunks m 4 ws) where
  road : (i : ℕ) (b : Bool) (d : List ℕ) → i < 4 → b ≡ any_below (64 * length (get_or sets i d)) (member (get_or sets i d)) → b ≡ on_road m ws i
  unfolding on_road
  road i b d h is =
      let part : get_or sets i d ≡ wheel_part m ws i = ap (λ (parts : List (List ℕ)). get_or parts i d) cut ∙ chunk_at m 4 i ws d h in
      let size : length (get_or sets i d) ≡ m = ap length part ∙ part-long m i ws long h in
      is ∙ ap₂ (λ (k : ℕ) (vs : List ℕ). any_below (64 * k) (member vs)) size part

  pub four_roads : (a b c e : Bool) (d : List ℕ) → a ≡ any_below (64 * length (get_or sets 0 d)) (member (get_or sets 0 d)) → b ≡ any_below (64 * length (get_or sets 1 d)) (member (get_or sets 1 d))
      → c ≡ any_below (64 * length (get_or sets 2 d)) (member (get_or sets 2 d)) → e ≡ any_below (64 * length (get_or sets 3 d)) (member (get_or sets 3 d)) → a ∷ b ∷ c ∷ e ∷ [] ≡ roads_of m ws
  unfolding roads_of
  four_roads a b c e d p q r s =
      λ i. road 0 a d (omega arith) p i ∷ road 1 b d (omega arith) q i ∷ road 2 c d (omega arith) r i ∷ road 3 e d (omega arith) s i ∷ []
