-- A list of four items, as the arrays of the four wheels are. Assumes nothing.
use mathlib.Core.Bool.{Bool, ◌&&◌, and-true, and_assoc}
use mathlib.Core.List.{List, [], ◌∷◌}
use mathlib.Core.Path.{◌≡◌, refl, sym, ap, ◌∙◌}
use native.Mathlib.Omega.{arith}
use lib.ListN.{length, get_or}
use Rattle.std.specs.List.{list_all}

-- it is its items
pub four-items : {A : Type 0} (xs : List A) (d : A) → length xs ≡ 4 → xs ≡ get_or xs 0 d ∷ get_or xs 1 d ∷ get_or xs 2 d ∷ get_or xs 3 d ∷ []
four-items (a ∷ b ∷ c ∷ e ∷ []) d h = refl
four-items [] d h = absurd (omega (arith, h))
four-items (a ∷ []) d h = absurd (omega (arith, h))
four-items (a ∷ b ∷ []) d h = absurd (omega (arith, h))
four-items (a ∷ b ∷ c ∷ []) d h = absurd (omega (arith, h))
four-items (a ∷ b ∷ c ∷ e ∷ f ∷ r) d h = absurd (omega (arith, h))

-- a test of all of them is one of each
pub all_four : {A : Type 0} (p : A → Bool) (xs : List A) (d : A) → length xs ≡ 4
    → list_all p xs ≡ (((p (get_or xs 0 d) && p (get_or xs 1 d)) && p (get_or xs 2 d)) && p (get_or xs 3 d))
all_four p xs d h =
    let a = p (get_or xs 0 d) in
    let b = p (get_or xs 1 d) in
    let c = p (get_or xs 2 d) in
    let e = p (get_or xs 3 d) in
    ap (list_all p) (four-items xs d h) ∙ ap (λ (x : Bool). a && (b && (c && x))) (and-true e) ∙ sym (and_assoc a b (c && e)) ∙ sym (and_assoc (a && b) c e)
