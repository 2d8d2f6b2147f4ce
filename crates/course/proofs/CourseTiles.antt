-- The points and tiles of columns. Assumes nothing.
use Rattle.std.proofs.Common.{◌≡◌, ℕ, zero, suc, ◌+◌, ◌-◌, ◌*◌, ◌<◌, ◌≤◌, Bool, ◌&&◌, List, [], ◌∷◌, ◌++◌, map, length, get_or, take, sym, refl, ap, ◌∙◌, subst, ap₂, add-one, zero-add, arith, length-append, length-take-le, get_or-take, take-suc, ext_get_or}
use Rattle.std.specs.List.{list_all, range_with_len}
use Rattle.std.proofs.lemmas.List.FromFn.{map-range_with_len_more}
use mathlib.Core.List.{map-append}
use lib.ListN.{get_or-append}
use lib.Seq.{get_or_at}
use lib.Ieee.{Float, nan}
use native.Mathlib.Decide.{dec_lt}
use Rattle.course.specs.Rules.Tiles.{betas, xs, ys, point_at, points_of, tile_quad, eight, before_of, no_point, tile_at, tiles_to}
use Rattle.course.specs.Steps.Tiles.{puts, edges_at, quad_between}
use Rattle.course.specs.Grader.Points.{good_point, all_good}
use Rattle.course.specs.declared.tiles.TrackPoint.{TrackPoint}
use Rattle.course.specs.declared.tiles.Edges.{Edges}
use Rattle.course.proofs.ColumnLaws.{Grown, grown-none, puts-grown}

module _ (b e n : List Float) where
  pub points-long : (k : ℕ) → length (points_of b e n k) ≡ k
  unfolding points_of
  points-long zero = refl
  points-long (suc k) = length-append (points_of b e n k) _ ∙ ap (λ (m : ℕ). m + 1) (points-long k) ∙ add-one k

  pub point-read : (k i : ℕ) → i < k → get_or (points_of b e n k) i no_point ≡ point_at b e n i
  unfolding points_of
  point-read zero i h = absurd (omega arith)
  point-read (suc k) i h =
      elim (dec_lt i k) [
        | yes l ↦ get_or-append (points_of b e n k) _ no_point i (subst (λ (m : ℕ). i < m) (sym (points-long k)) l) ∙ point-read k i l
        | no l ↦
            let s : i ≡ k = omega (arith, h, below i k l) in
            get_or_at (points_of b e n k) _ [] no_point i (points-long k ∙ sym s) ∙ ap (point_at b e n) (sym s)
      ]
    where
      below : (i k : ℕ) → (i < k → ⊥) → k ≤ i
      below i k l = elim (dec_lt i k) [ yes r ↦ absurd (l r) | no r ↦ omega arith ]

-- ---- the columns of points
module _ (b e n : List Float) where
  pub betas-taken : (k : ℕ) → k ≤ length b → betas (points_of b e n k) ≡ take k b
  unfolding points_of point_at
  betas-taken zero h = refl
  betas-taken (suc k) h = map-append (λ (p : TrackPoint). p.beta) (points_of b e n k) _ ∙ ap (λ (z : List Float). z ++ (get_or b k nan ∷ [])) (betas-taken k (omega arith)) ∙ sym (take-suc b k nan h)

  pub xs-taken : (k : ℕ) → k ≤ length e → xs (points_of b e n k) ≡ take k e
  unfolding points_of point_at
  xs-taken zero h = refl
  xs-taken (suc k) h = map-append (λ (p : TrackPoint). p.x) (points_of b e n k) _ ∙ ap (λ (z : List Float). z ++ (get_or e k nan ∷ [])) (xs-taken k (omega arith)) ∙ sym (take-suc e k nan h)

  pub ys-taken : (k : ℕ) → k ≤ length n → ys (points_of b e n k) ≡ take k n
  unfolding points_of point_at
  ys-taken zero h = refl
  ys-taken (suc k) h = map-append (λ (p : TrackPoint). p.y) (points_of b e n k) _ ∙ ap (λ (z : List Float). z ++ (get_or n k nan ∷ [])) (ys-taken k (omega arith)) ∙ sym (take-suc n k nan h)

-- columns that agree in front have the same points
front_read : (c r : List Float) (k i : ℕ) → k ≤ length c → i < k → get_or (take k c ++ r) i nan ≡ get_or c i nan
front_read c r k i h l =
    get_or-append (take k c) r nan i (subst (λ (m : ℕ). i < m) (sym (length-take-le k c h)) l) ∙ get_or-take k c i nan l

pub points-front : (b e n p q r : List Float) (m k : ℕ) → m ≤ length b → m ≤ length e → m ≤ length n → k ≤ m
    → points_of (take m b ++ p) (take m e ++ q) (take m n ++ r) k ≡ points_of b e n k
unfolding points_of point_at
points-front b e n p q r m zero hb he hn h = refl
points-front b e n p q r m (suc k) hb he hn h =
    rw (points-front b e n p q r m k hb he hn (omega arith), front_read b p m k hb h, front_read e q m k he h, front_read n r m k hn h)

-- ---- refusals
points-each : (b e n : List Float) (k : ℕ) → points_of b e n k ≡ map (point_at b e n) (range_with_len 0 k)
unfolding points_of
points-each b e n zero = refl
points-each b e n (suc k) =
    ap (λ (ps : List TrackPoint). ps ++ (point_at b e n k ∷ [])) (points-each b e n k)
    ∙ sym (map-range_with_len_more (point_at b e n) 0 k k (zero-add k))
    ∙ ap (λ (m : ℕ). map (point_at b e n) (range_with_len 0 m)) (add-one k)

good-list : (f : ℕ → TrackPoint) (is : List ℕ) → list_all (λ i. good_point (f i)) is ≡ all_good (map f is)
unfolding all_good
good-list f [] = refl
good-list f (i ∷ is) = ap (λ (z : Bool). good_point (f i) && z) (good-list f is)

-- each number's point passes
pub good-each : (b e n : List Float) (k : ℕ) → list_all (λ i. good_point (point_at b e n i)) (range_with_len 0 k) ≡ all_good (points_of b e n k)
good-each b e n k = good-list (point_at b e n) (range_with_len 0 k) ∙ sym (ap all_good (points-each b e n k))

-- ---- tiles
pub tiles-long : (ps : List TrackPoint) (k : ℕ) → length (tiles_to ps k) ≡ k * 8
unfolding tiles_to eight
tiles-long ps zero = refl
tiles-long ps (suc k) = length-append (tiles_to ps k) _ ∙ omega (arith, tiles-long ps k)

before_small : (n i : ℕ) → i < n → before_of n i < n
unfolding before_of
before_small n zero h = omega arith
before_small n (suc i) h = omega arith

-- tile i of the columns' points
pub tile-read : (b e n : List Float) (k i : ℕ) → i < k → tile_at (points_of b e n k) i ≡ tile_quad (point_at b e n i) (point_at b e n (before_of k i))
unfolding tile_at
tile-read b e n k i h =
    rw (points-long b e n k, point-read b e n k i h, point-read b e n k (before_of k i) (before_small k i h))

pub tiles-none : (ps : List TrackPoint) (l : List Float) → Grown (tiles_to ps 0) l l (0 * 8)
unfolding tiles_to
tiles-none ps l = grown-none l

tiles-next : (ps : List TrackPoint) (q : List (List Float)) (c l : List Float) (i : ℕ) → i * 8 + 8 ≤ length l → q ≡ tile_at ps i → Grown (tiles_to ps i) c l (i * 8)
    → Grown (tiles_to ps (i + 1)) (puts (eight q) (i * 8) c) l ((i + 1) * 8)
unfolding tiles_to eight
tiles-next ps q c l i h is g =
    subst (λ (m : ℕ). Grown (tiles_to ps m) (puts (eight q) (i * 8) c) l ((i + 1) * 8)) (sym (add-one i))
    (subst (λ (m : ℕ). Grown (tiles_to ps i ++ eight (tile_at ps i)) (puts (eight q) (i * 8) c) l m) (along i)
    (subst (λ (z : List (List Float)). Grown (tiles_to ps i ++ eight z) (puts (eight q) (i * 8) c) l (i * 8 + 8)) is
    (puts-grown (eight q) (tiles_to ps i) c l (i * 8) g h)))
  where
    along : (m : ℕ) → m * 8 + 8 ≡ (m + 1) * 8
    along m = omega arith

pub tiles_more : (ps : List TrackPoint) (q : List (List Float)) (c c' l : List Float) (i : ℕ) → i * 8 + 8 ≤ length l → q ≡ tile_at ps i → c' ≡ puts (eight q) (i * 8) c → Grown (tiles_to ps i) c l (i * 8)
    → Grown (tiles_to ps (i + 1)) c' l ((i + 1) * 8)
tiles_more ps q c c' l i h is e g = subst (λ (z : List Float). Grown (tiles_to ps (i + 1)) z l ((i + 1) * 8)) (sym e) (tiles-next ps q c l i h is g)

-- the quad of the edges of two points
between : (p q : TrackPoint) → quad_between (edges_at p) (edges_at q) ≡ tile_quad p q
unfolding quad_between edges_at tile_quad
between p q = refl

-- the tile that the code works out
pub tile-given : (b e n : List Float) (k i : ℕ) (q : List (List Float)) (f g : Edges) → i < k → q ≡ quad_between f g → f ≡ edges_at (point_at b e n i) → g ≡ edges_at (point_at b e n (before_of k i))
    → q ≡ tile_at (points_of b e n k) i
tile-given b e n k i q f g h eq ef eg = eq ∙ ap₂ quad_between ef eg ∙ between _ _ ∙ sym (tile-read b e n k i h)

-- the edges that stand for the next tile
pub edges-kept : (b e n : List Float) (k i : ℕ) (f : Edges) (p : TrackPoint) → f ≡ edges_at p → p ≡ point_at b e n i → f ≡ edges_at (point_at b e n (before_of k (i + 1)))
unfolding before_of
edges-kept b e n k i f p ef ep = rw add-one (ef ∙ ap edges_at ep)

pub edges-first : (b e n : List Float) (k : ℕ) (f : Edges) (p : TrackPoint) → f ≡ edges_at p → p ≡ point_at b e n (k - 1) → f ≡ edges_at (point_at b e n (before_of k 0))
unfolding before_of
edges-first b e n k f p ef ep = ef ∙ ap edges_at ep

-- ---- what lay needs: columns that begin with the points of a list have these points
beta-read : (ps : List TrackPoint) (p : List Float) (i : ℕ) → i < length ps → get_or (betas ps ++ p) i nan ≡ (get_or ps i no_point).beta
beta-read [] p i h = absurd (omega (arith, h))
beta-read (q ∷ ps) p zero h = refl
beta-read (q ∷ ps) p (suc i) h = beta-read ps p i (omega (arith, h))

x-read : (ps : List TrackPoint) (p : List Float) (i : ℕ) → i < length ps → get_or (xs ps ++ p) i nan ≡ (get_or ps i no_point).x
x-read [] p i h = absurd (omega (arith, h))
x-read (q ∷ ps) p zero h = refl
x-read (q ∷ ps) p (suc i) h = x-read ps p i (omega (arith, h))

y-read : (ps : List TrackPoint) (p : List Float) (i : ℕ) → i < length ps → get_or (ys ps ++ p) i nan ≡ (get_or ps i no_point).y
y-read [] p i h = absurd (omega (arith, h))
y-read (q ∷ ps) p zero h = refl
y-read (q ∷ ps) p (suc i) h = y-read ps p i (omega (arith, h))

pub points-are : (ps : List TrackPoint) (p q r : List Float) → points_of (betas ps ++ p) (xs ps ++ q) (ys ps ++ r) (length ps) ≡ ps
unfolding point_at
points-are ps p q r =
    ext_get_or no_point (points_of (betas ps ++ p) (xs ps ++ q) (ys ps ++ r) (length ps)) ps (points-long _ _ _ (length ps))
    (λ i h. let l : i < length ps = omega (arith, h, points-long (betas ps ++ p) (xs ps ++ q) (ys ps ++ r) (length ps)) in
    point-read _ _ _ (length ps) i l ∙ same (beta-read ps p i l) (x-read ps q i l) (y-read ps r i l))
  where
    same : {a b c a' b' c' : Float} → a ≡ a' → b ≡ b' → c ≡ c' → ◌≡◌ {A = TrackPoint} (record { beta = a; x = b; y = c }) (record { beta = a'; x = b'; y = c' })
    same pa pb pc = λ i. record { beta = pa i; x = pb i; y = pc i }
