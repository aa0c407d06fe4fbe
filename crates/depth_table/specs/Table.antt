-- A depth table is a list of depth values: its soundness, and the index of a depth.
use Rattle.std.specs.Prelude.{ℕ, zero, suc, ◌-◌, Bool, true, cond, ◌&&◌, List, [], ◌∷◌, length, get_or, leb, ltb}
use Rattle.arith.specs.Distance.{dist}

-- each value is 0 to 255
unfoldable pub bytes : List ℕ → Bool
bytes [] = true
bytes (a ∷ t) = ltb a 256 && bytes t

-- the values rise strictly, and the first is at least low
unfoldable pub rising : ℕ → List ℕ → Bool
rising low [] = true
rising low (a ∷ t) = leb low a && rising (suc a) t

-- the most values of a table
abbrev pub most_values : ℕ
most_values = 256

-- whether there is a value at all
abbrev pub some_value : List ℕ → Bool
some_value t = ltb 0 (length t)

-- a sound table: 1 to 256 values, each 0 to 255, strictly rising
unfoldable pub table_ok : List ℕ → Bool
table_ok t = some_value t && (leb (length t) most_values && (bytes t && rising 0 t))

-- of the values at 0 .. k, the index of the one nearest to d; of two equally near, the later
unfoldable pub nearest_to : List ℕ → ℕ → ℕ → ℕ
nearest_to t d zero = zero
nearest_to t d (suc k) =
    let r = nearest_to t d k in
    cond (leb (dist d (get_or t (suc k) 0)) (dist d (get_or t r 0))) (suc k) r

-- the index of a depth d: that of the nearest value; of two equally near, the greater, which in a rising table is the later
unfoldable pub index_of : List ℕ → ℕ → ℕ
index_of t d = nearest_to t d (length t - 1)
