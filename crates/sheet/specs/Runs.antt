-- The neighbours of a block by its two runs, as the code has them.
use Rattle.std.specs.Prelude.{ℕ, ◌+◌, ◌-◌, ◌*◌, ◌≡◌, min, cond, ltb, List, get_or, Option, Some, None}
use Rattle.sheet.specs.declared.spot.Run.{Run}

-- sample i of a run, and past its last that one
abbrev pub sample_of : Run → ℕ → ℕ
sample_of r i = get_or r.samples.now (r.first + min i r.last * r.step) 0

-- place i beside a run; where there is none the first sample of the other run stands, or 128
abbrev pub beside : Option Run → Option Run → ℕ → ℕ
beside (Some r) other i = sample_of r i
beside None (Some r) i = sample_of r 0
beside None None i = 128

-- neighbour i of a block of size n: the left run, then the top run
abbrev pub neighbour_of : ℕ → Option Run → Option Run → ℕ → ℕ
neighbour_of n left top i = cond (ltb i (2 * n)) (beside left top i) (beside top left (i - 2 * n))

-- whether a run has so many samples of s, `step` places apart from the place `first` on; none is a run of 0
abbrev pub Is : Option Run → List ℕ → ℕ → ℕ → ℕ → Type 0
Is (Some r) s count first step = (r.samples.now ≡ s) × ((r.last + 1 ≡ count) × ((r.first ≡ first) × (r.step ≡ step)))
Is None s count first step = count ≡ 0
