-- The wedgelet list (document 01: the edge list).
use Rattle.std.specs.Prelude.{ℕ, zero, suc, ◌-◌, ◌*◌, Bool, false, cond, ◌||◌, List, [], ◌∷◌, ◌++◌, eqb, ltb, pos, ◌-ℤ◌, ◌*ℤ◌}
use Rattle.std.specs.Int.Signed.{lt_z}
use Rattle.pattern.specs.Pattern.{mark, pattern, complement}

-- the number of border points, the outer samples of the block
abbrev pub points : ℕ → ℕ
points n = 4 * (n - 1)

-- column and row of border point k, numbered clockwise from (0,0): top row, right column, bottom row, left column up to (0,1)
abbrev pub point_x : ℕ → ℕ → ℕ
point_x n k = cond (ltb k (n - 1)) k (cond (ltb k (2 * (n - 1))) (n - 1) (cond (ltb k (3 * (n - 1))) (3 * (n - 1) - k) 0))

abbrev pub point_y : ℕ → ℕ → ℕ
point_y n k =
    cond (ltb k (n - 1)) 0 (cond (ltb k (2 * (n - 1))) (k - (n - 1)) (cond (ltb k (3 * (n - 1))) (n - 1) (4 * (n - 1) - k)))

-- (x, y) lies strictly beside the line from (xs, ys) to (xe, ye): (xe - xs)(y - ys) - (ye - ys)(x - xs) > 0
abbrev pub beside : ℕ → ℕ → ℕ → ℕ → ℕ → ℕ → Bool
beside xs ys xe ye x y =
    lt_z (pos 0) ((pos xe -ℤ pos xs) *ℤ (pos y -ℤ pos ys) -ℤ (pos ye -ℤ pos ys) *ℤ (pos x -ℤ pos xs))

-- the marks of the candidate (s, e), a pair of border points
unfoldable pub candidate : ℕ → ℕ → ℕ → ℕ
candidate n s e = pattern n (beside (point_x n s) (point_y n s) (point_x n e) (point_y n e))

-- a pattern, or its complement if (0,0) is marked
abbrev pub unmarked : ℕ → ℕ → ℕ
unmarked n w = cond (mark n w 0 0) (complement n w) w

-- the pattern of the candidate (s, e)
unfoldable pub wedgelet : ℕ → ℕ → ℕ → ℕ
wedgelet n s e = unmarked n (candidate n s e)

-- whether w stands in the list
unfoldable pub holds : List ℕ → ℕ → Bool
holds [] w = false
holds (a ∷ l) w = eqb a w || holds l w

-- a pattern is added at the end, unless it is zero or in the list already
unfoldable pub keep : List ℕ → ℕ → List ℕ
keep l w = cond (eqb w 0 || holds l w) l (l ++ (w ∷ []))

-- the list l after the candidates (s, 0) to (s, e - 1); the points of a candidate differ
unfoldable pub ends : ℕ → List ℕ → ℕ → ℕ → List ℕ
ends n l s zero = l
ends n l s (suc e) = let k = ends n l s e in cond (eqb e s) k (keep k (wedgelet n s e))

-- the list after the candidates that start at the points 0 to s - 1
unfoldable pub starts : ℕ → ℕ → List ℕ
starts n zero = []
starts n (suc s) = ends n (starts n s) s (points n)

-- the wedgelet list of n by n blocks
unfoldable pub wedgelet_list : ℕ → List ℕ
wedgelet_list n = starts n (points n)
