-- A column that is written from the front: the entries so far, and the rest as it was. Assumes nothing.
use Rattle.std.proofs.Common.{◌≡◌, ℕ, suc, ◌+◌, ◌-◌, ◌<◌, ◌≤◌, List, [], ◌∷◌, ◌++◌, length, get_or, take, drop, set, replicate, sym, refl, ap, ap₂, ◌∙◌, append_assoc, add-one, arith, length-append, length-drop, length-set, length-take, length-take-le, take_at, drop-cons, drop-drop}
use Rattle.std.specs.Prelude.{Option, Some, MatchOption}
use Rattle.std.specs.Array.{IsFirstChunk}
use Rattle.std.proofs.lemmas.Option.{MatchOption-at_some}
use lib.Seq.{drop-append-add, set_at, append_snoc, take_all}
use lib.Ieee.{Float}
use Rattle.course.specs.Steps.Tiles.{puts}

module _ {A : Type 0} where
  -- c is l with its first i entries replaced by p
  pub record Grown (p c l : List A) (i : ℕ) : Type 0 where
    pub is : c ≡ p ++ drop i l
    pub long : length p ≡ i
    pub bound : i ≤ length l
    pub same : length c ≡ length l

  pub grown-none : (l : List A) → Grown [] l l 0
  grown-none l = record { is = refl; long = refl; bound = omega arith; same = refl }

  put_next : (p l : List A) (i : ℕ) (v : A) → length p ≡ i → i < length l → set (p ++ drop i l) i v ≡ (p ++ (v ∷ [])) ++ drop (i + 1) l
  put_next p l i v e h = rw (drop-cons l i v h, set_at p (get_or l i v) (drop (suc i) l) v i e, add-one) (sym (append_snoc p v (drop (suc i) l)))

  pub grown-more : (p q c l : List A) (i : ℕ) (v : A) → Grown p c l i → i < length l → p ++ (v ∷ []) ≡ q → Grown q (set c i v) l (i + 1)
  grown-more p q c l i v g h e = record {
    is = ap (λ (y : List A). set y i v) g.is ∙ put_next p l i v g.long h ∙ ap (λ (y : List A). y ++ drop (i + 1) l) e;
    long = sym (ap length e) ∙ length-append p (v ∷ []) ∙ ap (λ (n : ℕ). n + 1) g.long;
    bound = omega arith;
    same = length-set c i v ∙ g.same;
  }

  -- ---- a part from n up to m
  pub part-put : (l r vs : List A) (n m : ℕ) → n ≤ m → r ≡ vs → take n l ++ (r ++ drop (m - n) (drop n l)) ≡ take n l ++ (vs ++ drop m l)
  part-put l r vs n m few e =
      let rest : n + (m - n) ≡ m = omega arith in
      ap₂ (λ (y z : List A). take n l ++ (y ++ z)) e (drop-drop (m - n) n l ∙ ap (λ (k : ℕ). drop k l) rest)

  pub part-filled : (l r : List A) (n m : ℕ) (v : A) → n ≤ m → m ≤ length l → r ≡ replicate (length (take (m - n) (drop n l))) v
      → take n l ++ (r ++ drop (m - n) (drop n l)) ≡ take n l ++ (replicate (m - n) v ++ drop m l)
  part-filled l r n m v few room e =
      let long : length (take (m - n) (drop n l)) ≡ m - n = length-take-le (m - n) (drop n l) (omega (arith, length-drop n l)) in
      part-put l r _ n m few (e ∙ ap (λ (k : ℕ). replicate k v) long)

-- k entries of a column from a on, as an array of that length
pub part-cut : {A X : Type 0} (now : X → List A) (a k : ℕ) (l : List A) (N : Type 0) {o : Option X} {y : X} → MatchOption o N (λ x. IsFirstChunk (take (a + k - a) (drop a l)) (now x) k) → o ≡ Some y
    → now y ≡ take k (drop a l)
part-cut now a k l N m e =
    let size : a + k - a ≡ k = omega arith in
    (MatchOption-at_some N _ _ e m).same ∙ ap (λ (j : ℕ). take k (take j (drop a l))) size ∙ take_all k (take k (drop a l)) (omega (arith, length-take k (drop a l)))

-- what stands beyond is not touched by what is in front
pub drop_past : {A : Type 0} (p l : List A) (i m : ℕ) → length p ≡ i → i ≤ m → drop m (p ++ drop i l) ≡ drop m l
drop_past p l i m e h =
    ap (λ (z : ℕ). drop z (p ++ drop i l)) (sym (ap (λ (z : ℕ). z + (m - i)) e ∙ back i m h))
    ∙ drop-append-add p (drop i l) (m - i) ∙ drop-drop (m - i) i l ∙ ap (λ (z : ℕ). drop z l) (back i m h)
  where
    back : (i m : ℕ) → i ≤ m → i + (m - i) ≡ m
    back i m h = omega arith

-- ---- several numbers in a row
pub puts-grown : (vs p c l : List Float) (i : ℕ) → Grown p c l i → i + length vs ≤ length l → Grown (p ++ vs) (puts vs i c) l (i + length vs)
unfolding puts
puts-grown vs p c l i g h =
    let is : take i c ++ (vs ++ drop (i + length vs) c) ≡ (p ++ vs) ++ drop (i + length vs) l =
    ap₂ (λ (y z : List Float). y ++ (vs ++ z)) (ap (take i) g.is ∙ take_at p (drop i l) i g.long) (ap (drop (i + length vs)) g.is ∙ drop_past p l i (i + length vs) g.long (omega arith))
    ∙ sym (append_assoc p vs (drop (i + length vs) l))
    in
    let long : length (p ++ vs) ≡ i + length vs = length-append p vs ∙ ap (λ (n : ℕ). n + length vs) g.long in
    record {
      is = is;
      long = long;
      bound = h;
      same = ap length is ∙ length-append (p ++ vs) (drop (i + length vs) l) ∙ omega (arith, long, length-drop (i + length vs) l);
    }
