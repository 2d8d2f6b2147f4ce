-- A loop over the first m of one slice and over another side by side, with the number of the pair. Assumes nothing.
use mathlib.Core.List.{List, ◌∷◌}
use mathlib.Core.Logic.{inl, inr}
use mathlib.Core.Path.{◌≡◌, refl, sym, ap, subst, ◌∙◌}
use Prim.Native.Nat.{ℕ, ◌+◌, ◌≤◌, ◌<◌}
use native.Mathlib.Omega.{arith}
use lib.ListN.{length, get_or, take, drop, length-drop}
use lib.Seq.{get_or-take, get_or-drop, drop-drop}
use denote.Ref.{Bor}
use Rattle.std.proofs.Common.{length-take}
use Rattle.std.specs.Prelude.{Option, Some, None}
use Rattle.std.specs.declared.iter.Zip.{Zip}
use Rattle.std.specs.declared.iter.Enumerate.{Enumerate}
use Rattle.std.specs.declared.slice.Iter.{Iter}
use Rattle.std.specs.Iterator.Adapters.{zip_first, zip_second, enumerate_source, enumerate_count, enumerate_steps}
use Rattle.std.specs.Slice.Iter.{iter_rest}
use Rattle.std.proofs.iter.Yields.{fronts}
use Rattle.std.proofs.lemmas.Iterator.{zips}
use Rattle.std.proofs.lemmas.Slice.Zip.{Zip-more, either_empty_from_Zip}

module _ {A B : Type 0} (m : ℕ) (xs : List A) (ys : List B) where
  -- what is left of the first m of the one, and of the other, as many as were counted being done
  pub record Paired (it : Enumerate (Zip (Iter A) (Iter B))) : Type 0 where
    pub first : iter_rest (zip_first (enumerate_source it)) ≡ drop (enumerate_count it) (take m xs)
    pub second : iter_rest (zip_second (enumerate_source it)) ≡ drop (enumerate_count it) ys

  -- at first all of both is left
  pub no_pair_yet : {it : Enumerate (Zip (Iter A) (Iter B))} → iter_rest (zip_first (enumerate_source it)) ≡ take m xs → iter_rest (zip_second (enumerate_source it)) ≡ ys → enumerate_count it ≡ 0 → Paired it
  no_pair_yet a b e = record { first = a ∙ ap (λ k. drop k (take m xs)) (sym e); second = b ∙ ap (λ k. drop k ys) (sym e) }

  -- one pair more, x and y with the number i
  pub record Pair (it jt : Enumerate (Zip (Iter A) (Iter B))) (i : ℕ) (x : A) (y : B) : Type 0 where
    pub number : i ≡ enumerate_count it
    pub next : enumerate_count jt ≡ enumerate_count it + 1
    pub within : enumerate_count it < m
    pub here : (d : A) → x ≡ get_or xs (enumerate_count it) d
    pub beside : (d : B) → y ≡ get_or ys (enumerate_count it) d
    pub rest : Paired jt

  module _ {it : Enumerate (Zip (Iter A) (Iter B))} (jt : Enumerate (Zip (Iter A) (Iter B))) {r : Option (ℕ × (Bor A × Bor B))} (h : Paired it) (step : enumerate_steps (zips fronts fronts) it r jt) where
    pub one_pair : {i : ℕ} {p : Bor A} {q : Bor B} → r ≡ Some (i, (p, q)) → Pair it jt i p.now q.now
    one_pair {i} {p} {q} e =
        let k = enumerate_count it in
        let s = subst (λ o. enumerate_steps (zips fronts fronts) it o jt) e step in
        let t = Zip-more (enumerate_source it) (enumerate_source jt) (Some (p, q)) (p, q) refl s.0 in
        let a : p.now ∷ iter_rest (zip_first (enumerate_source jt)) ≡ drop k (take m xs) = sym t.0 ∙ h.first in
        let b : q.now ∷ iter_rest (zip_second (enumerate_source jt)) ≡ drop k ys = sym t.1 ∙ h.second in
        let w : k < m = omega (arith, ap length a, length-drop k (take m xs), length-take m xs) in
        record {
          number = s.1;
          next = s.2;
          within = w;
          here = λ d. ap (λ z. get_or z 0 d) a ∙ get_or-drop k (take m xs) 0 d ∙ ap (λ n. get_or (take m xs) n d) (none k) ∙ get_or-take m xs k d w;
          beside = λ d. ap (λ z. get_or z 0 d) b ∙ get_or-drop k ys 0 d ∙ ap (λ n. get_or ys n d) (none k);
          rest = record { first = ap (drop 1) a ∙ drop-drop 1 k (take m xs) ∙ ap (λ n. drop n (take m xs)) (sym s.2); second = ap (drop 1) b ∙ drop-drop 1 k ys ∙ ap (λ n. drop n ys) (sym s.2) };
        }
      where
        none : (k : ℕ) → k + 0 ≡ k
        none k = omega arith

    -- where both have as many, all were gone through
    pub no_pair : r ≡ None → m ≤ length xs → m ≤ length ys → m ≤ enumerate_count it
    no_pair e a b =
        let k = enumerate_count it in
        let s = subst (λ o. enumerate_steps (zips fronts fronts) it o jt) e step in
        elim (either_empty_from_Zip (enumerate_source it) (enumerate_source jt) None refl s.0) [
          | inl n ↦ omega (arith, ap length (sym n ∙ h.first), length-drop k (take m xs), length-take m xs, a)
          | inr n ↦ omega (arith, ap length (sym n ∙ h.second), length-drop k ys, b)
        ]
