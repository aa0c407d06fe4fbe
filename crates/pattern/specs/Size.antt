-- The allowed block sizes, and what a block of the greatest size has. Of the three lists that reading is lent, `each_size` judges each, and
-- `for_size` chooses one; `aids_alone` of `show_text` names the sizes a second time. That up to n = 8 a pattern is one word is said in
-- Words.
use Rattle.std.specs.Prelude.{ℕ, ◌*◌, ◌^◌, Bool, cond, ◌&&◌, ◌||◌, eqb, ltb}

-- the greatest size, and the samples (256) and the neighbours (64) of a block of that size
abbrev pub greatest_size : ℕ
greatest_size = 16

abbrev pub greatest_samples : ℕ
greatest_samples = greatest_size * greatest_size

abbrev pub greatest_neighbours : ℕ
greatest_neighbours = 4 * greatest_size

-- refusal 1 is given where this does not hold
abbrev pub size_ok : ℕ → Bool
size_ok n = eqb n 4 || (eqb n 8 || eqb n greatest_size)

-- a test that holds for each allowed size
abbrev pub each_size : (ℕ → Bool) → Bool
each_size ok = ok 4 && (ok 8 && ok greatest_size)

-- of three things, one for each allowed size, the one for n
abbrev pub for_size : {X : Type 0} → ℕ → X → X → X → X
for_size n a b c = cond (eqb n 4) a (cond (eqb n 8) b c)

-- the pattern marks samples of an n by n block only: it has no bit from n * n up (refusal 5 where it has one; one word has none for n = 8,
-- and four words have none for n = 16)
abbrev pub word_ok : ℕ → ℕ → Bool
word_ok n w = ltb w (2 ^ (n * n))
