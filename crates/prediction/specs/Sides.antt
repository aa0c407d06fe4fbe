-- Document 01, "Side depths": the depths of the two partitions of a pattern.
use Rattle.std.specs.Prelude.{ℕ, ◌+◌, ◌-◌, ◌*◌, ◌/◌, Bool, true, false, not, cond, List, get_or, ltb}
use Rattle.arith.specs.Distance.{dist}
use Rattle.pattern.specs.Pattern.{mark}

-- The neighbours (document 01: the border) of an n by n block are 4n samples: the left run L0 to L(2n-1), downward,
-- then the top run T0 to T(2n-1), rightward.
abbrev pub left_at : List ℕ → ℕ → ℕ
left_at s i = get_or s i 0

abbrev pub top_at : ℕ → List ℕ → ℕ → ℕ
top_at n s i = get_or s (2 * n + i) 0

-- how much each run differs from end to end: |L0 - L(2n-1)| and |T0 - T(2n-1)|
abbrev pub left_change : ℕ → List ℕ → ℕ
left_change n s = dist (left_at s 0) (left_at s (2 * n - 1))

abbrev pub top_change : ℕ → List ℕ → ℕ
top_change n s = dist (top_at n s 0) (top_at n s (2 * n - 1))

abbrev pub differ : Bool → Bool → Bool
differ a b = cond a (not b) b

-- document 01's v: the marks of (0,0) and (n-1,0) differ
unfoldable pub vert_edge : ℕ → ℕ → Bool
vert_edge n w = differ (mark n w 0 0) (mark n w (n - 1) 0)

-- document 01's h: the marks of (0,0) and (0,n-1) differ
unfoldable pub hor_edge : ℕ → ℕ → Bool
hor_edge n w = differ (mark n w 0 0) (mark n w 0 (n - 1))

-- of two samples, halves rounded down
abbrev pub mean : ℕ → ℕ → ℕ
mean a b = (a + b) / 2

-- lt by v and h
unfoldable pub lt_by : ℕ → List ℕ → Bool → Bool → ℕ
lt_by n s true true = mean (left_at s 0) (top_at n s 0)
lt_by n s false false = mean (left_at s 0) (top_at n s 0)
lt_by n s false true = top_at n s ((n - 1) / 2)
lt_by n s true false = left_at s ((n - 1) / 2)

-- br by v and h
unfoldable pub br_by : ℕ → List ℕ → Bool → Bool → ℕ
br_by n s true true = mean (left_at s (n - 1)) (top_at n s (n - 1))
br_by n s false false = cond (ltb (top_change n s) (left_change n s)) (left_at s (2 * n - 1)) (top_at n s (2 * n - 1))
br_by n s false true = left_at s (n - 1)
br_by n s true false = top_at n s (n - 1)

-- document 01's A: the depth of the side that holds (0,0)
unfoldable pub lt : ℕ → ℕ → List ℕ → ℕ
lt n w s = lt_by n s (vert_edge n w) (hor_edge n w)

-- document 01's B: the depth of the other side
unfoldable pub br : ℕ → ℕ → List ℕ → ℕ
br n w s = br_by n s (vert_edge n w) (hor_edge n w)

-- the depth of the samples whose mark is m
unfoldable pub side_depth : ℕ → ℕ → List ℕ → Bool → ℕ
side_depth n w s m = cond (differ m (mark n w 0 0)) (br n w s) (lt n w s)
