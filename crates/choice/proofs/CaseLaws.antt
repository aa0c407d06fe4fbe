-- A partition's depth is that of its case.
use Prim.Native.Nat.{ℕ, suc, ◌+◌, ◌-◌, ◌*◌, ◌/◌, ◌%◌, ◌^◌, ◌≤◌, ◌<◌}
use mathlib.Core.Path.{◌≡◌, refl, sym, ap, ap₂, ◌∙◌}
use mathlib.Core.Bool.{Bool, true, false, cond, not, beq}
use mir.Val.{bool_byte}
use mathlib.Core.List.{List}
use native.Mathlib.Nat.{mul-le-mul, pow-suc, mod-eq_of_lt}
use native.Mathlib.Omega.{arith}
use lib.Dec.{eqb}
use lib.ListN.{get_or, length}
use lib.Pow.{pow_mono}
use borrow.Author.Tests.{lt-ltb, le-leb, lt-leb}
use Rattle.arith.specs.Bits.{bit, test_bit}
use Rattle.arith.specs.Checks.{Answer, given, answer}
use Rattle.arith.proofs.BitLaws.{digit-le, low_bit, high_bit, bit_past}
use Rattle.arith.proofs.CheckLaws.{answer-given}
use Rattle.pattern.specs.Pattern.{mark}
use Rattle.pattern.specs.Size.{greatest_size, size_ok}
use Rattle.pattern.specs.Words.{pattern_number, used_number}
use Rattle.pattern.specs.declared.words.Pattern.{Pattern}
use Rattle.pattern.proofs.WordLaws.{used-is}
use Rattle.pattern.proofs.SizeLaws.{size-bounds}
use Rattle.prediction.specs.Sides.{differ, vert_edge, hor_edge, lt_by, br_by, lt, br, side_depth}
use Rattle.prediction.specs.SideAnswer.{sides_refusal, sides_answer}
use Rattle.prediction.proofs.SideCallLaws.{sides-pass}
use Rattle.prediction.proofs.SideLaws.{origin-bit, vert-edge-bits, hor-edge-bits}
use Rattle.choice.specs.Cases.{side_case, row_word, corner_word, depth_in}

-- ---- the pattern of a case

digit_lt : (b : Bool) → bit b < 2
digit_lt true = omega arith
digit_lt false = omega arith

digit-bit : (b : Bool) → test_bit (bit b) 0 ≡ b
digit-bit true = refl
digit-bit false = refl

none_differ : (b : Bool) → differ b false ≡ b
none_differ true = refl
none_differ false = refl

differ_back : (a b : Bool) → differ b (differ a b) ≡ a
differ_back true true = refl
differ_back true false = refl
differ_back false true = refl
differ_back false false = refl

module _ (n : ℕ) (low : 4 ≤ n) (v h : Bool) where
  abbrev d : Bool
  d = differ v h

  abbrev w : ℕ
  w = row_word n v h

  two-le : 2 ≤ 2 ^ (n - 1)
  two-le = pow_mono {i = 1} {j = n - 1} (omega arith)

  digit-in : bit h < 2 ^ (n - 1)
  digit-in = let l = digit_lt h in let m = two-le in omega arith

  -- its marks are samples of the block
  row_lt : w < 2 ^ (n * n)
  row_lt =
      let l = mul-le-mul {n₁ = 1} {m₁ = n} {n₂ = n} {m₂ = n} (omega arith) (omega arith) in
      let e : 2 ^ n ≡ 2 ^ (n - 1) * 2 = ap (λ (x : ℕ). 2 ^ x) (let e : n ≡ suc (n - 1) = omega arith in e) ∙ pow-suc 2 (n - 1) in
      let m = pow_mono {i = n} {j = n * n} (omega arith) in
      omega (arith, digit-le d (2 ^ (n - 1)), digit-in, e)

  row-origin : test_bit w 0 ≡ h
  row-origin = low_bit (n - 1) (bit d) (bit h) 0 (omega arith) ∙ digit-bit h

  row-end : test_bit w (n - 1) ≡ d
  row-end =
      high_bit (n - 1) (bit d) (bit h) (n - 1) digit-in (omega arith)
      ∙ ap (test_bit (bit d)) (let e : n - 1 - (n - 1) ≡ 0 = omega arith in e)
      ∙ digit-bit d

  row_below : test_bit w ((n - 1) * n) ≡ false
  row_below =
      let l = mul-le-mul {n₁ = n - 1} {m₁ = 2} {n₂ = n - 1} {m₂ = n} (omega arith) (omega arith) in
      high_bit (n - 1) (bit d) (bit h) ((n - 1) * n) digit-in (omega arith)
      ∙ bit_past 1 (bit d) ((n - 1) * n - (n - 1)) (digit_lt d) (omega arith)

  row-vert : vert_edge n w ≡ v
  row-vert = vert-edge-bits n w ∙ ap₂ differ row-origin row-end ∙ differ_back v h

  row-hor : hor_edge n w ≡ h
  row-hor = hor-edge-bits n w ∙ ap₂ differ row-origin row_below ∙ none_differ h

  -- its depths: of the side that holds (0,0), and of the other
  row-depth : (s : List ℕ) (b : Bool) → cond b (br n w s) (lt n w s) ≡ cond b (br_by n s v h) (lt_by n s v h)
  unfolding lt br
  row-depth s b = λ i. cond b (br_by n s (row-vert i) (row-hor i)) (lt_by n s (row-vert i) (row-hor i))

-- the depths of a case's pattern are not refused
pub corner-passes : (n : ℕ) (s : List ℕ) (k : ℕ) → size_ok n ≡ true → length s ≡ 4 * n → sides_refusal n (corner_word n k) s ≡ 0
corner-passes n s k ok e =
    sides-pass n (corner_word n k) s ok e (lt-ltb _ _ (row_lt n (size-bounds n ok).0 (eqb (k / 2 % 2) 1) (eqb (k % 2) 1)))

-- the depth in each case
in-case :
    (n : ℕ) (s : List ℕ) → 4 ≤ n → (b v h : Bool) → cond b (br_by n s v h) (lt_by n s v h) ≡ depth_in n s (4 * bit b + (2 * bit v + bit h))
unfolding depth_in
in-case n s l true true true = sym (row-depth n l true true s true)
in-case n s l true true false = sym (row-depth n l true false s true)
in-case n s l true false true = sym (row-depth n l false true s true)
in-case n s l true false false = sym (row-depth n l false false s true)
in-case n s l false true true = sym (row-depth n l true true s false)
in-case n s l false true false = sym (row-depth n l true false s false)
in-case n s l false false true = sym (row-depth n l false true s false)
in-case n s l false false false = sym (row-depth n l false false s false)

-- the depth of a partition is that of its case
pub depth-case : (n w : ℕ) (s : List ℕ) (m : Bool) → size_ok n ≡ true → side_depth n w s m ≡ depth_in n s (side_case n w m)
unfolding side_depth side_case lt br
depth-case n w s m ok = in-case n s (size-bounds n ok).0 (differ m (mark n w 0 0)) (vert_edge n w) (hor_edge n w)

-- the number as the code makes it, from the marks of three corners
unequal : (a b : Bool) → bool_byte (not (beq a b)) ≡ bit (differ a b)
unequal true true = refl
unequal true false = refl
unequal false true = refl
unequal false false = refl

pub case-by :
    (n w : ℕ) (m : Bool) {a b d : ℕ} {x y z : Bool} → x ≡ test_bit w 0 → y ≡ test_bit w (n - 1) → z ≡ test_bit w ((n - 1) * n)
    → a ≡ bool_byte (not (beq m x)) → b ≡ bool_byte (not (beq x y)) → d ≡ bool_byte (not (beq x z))
    → 4 * a + (2 * b + d) ≡ side_case n w m
unfolding side_case
case-by n w m {x = x} {y = y} {z = z} ex ey ez ea eb ed =
    omega (
      arith,
      ea ∙ unequal m x ∙ ap (λ (t : Bool). bit (differ m t)) (ex ∙ sym (origin-bit n w)),
      eb ∙ unequal x y ∙ ap bit (ap₂ differ ex ey ∙ sym (vert-edge-bits n w)),
      ed ∙ unequal x z ∙ ap bit (ap₂ differ ex ez ∙ sym (hor-edge-bits n w)),
    )

pub case_lt : (n w : ℕ) (m : Bool) → side_case n w m < 8
unfolding side_case
case_lt n w m = omega (arith, digit_lt (differ m (mark n w 0 0)), digit_lt (vert_edge n w), digit_lt (hor_edge n w))

-- the other partition has the case four numbers on
other-by : (b v h : Bool) → (4 * bit (differ false b) + (2 * bit v + bit h) + 4) % 8 ≡ 4 * bit (differ true b) + (2 * bit v + bit h)
other-by true true true = refl
other-by true true false = refl
other-by true false true = refl
other-by true false false = refl
other-by false true true = refl
other-by false true false = refl
other-by false false true = refl
other-by false false false = refl

pub other-case : (n w : ℕ) {k : ℕ} → k ≡ side_case n w false → (k + 4) % 8 ≡ side_case n w true
unfolding side_case
other-case n w e = ap (λ (x : ℕ). (x + 4) % 8) e ∙ other-by (mark n w 0 0) (vert_edge n w) (hor_edge n w)

-- the depths as the code looks them up, by a pattern p of the case
pub corner-depths :
    (n : ℕ) (s : List ℕ) (k : ℕ) (p : Pattern) {x : Answer (ℕ × ℕ)} → size_ok n ≡ true → length s ≡ 4 * n → get_or p.words 0 0 < 2 ^ 64
    → pattern_number p ≡ corner_word n k → x ≡ sides_answer n (used_number n p) s → x ≡ given (lt n (corner_word n k) s, br n (corner_word n k) s)
unfolding sides_answer
corner-depths n s k p ok e narrow ew ex =
    let l = row_lt n (size-bounds n ok).0 (eqb (k / 2 % 2) 1) (eqb (k % 2) 1) in
    let u = used-is n p narrow (rw ew l) ∙ ew in
    ex ∙ ap (λ (w : ℕ). answer (sides_refusal n w s) (lt n w s, br n w s)) u ∙ sym (answer-given _ _ (corner-passes n s k ok e))

pub depth-far : (n : ℕ) (s : List ℕ) (k : ℕ) {d : ℕ} → 4 ≤ k → d ≡ br n (corner_word n k) s → d ≡ depth_in n s k
unfolding depth_in
depth-far n s k h e = rw (le-leb 4 k h) e

pub depth-near : (n : ℕ) (s : List ℕ) (k : ℕ) {d : ℕ} → k < 4 → d ≡ lt n (corner_word n k) s → d ≡ depth_in n s k
unfolding depth_in
depth-near n s k h e = rw (lt-leb 4 k h) e

-- the first row as the code makes it, from two digits
row_small : (n : ℕ) → n ≤ greatest_size → 2 ^ (n - 1) ≤ 32768
row_small n h = pow_mono {i = n - 1} {j = 15} (omega arith)

module _ (n : ℕ) (high : n ≤ greatest_size) (v h : Bool) {o e : ℕ} (eo : o ≡ bit (differ h false)) (ee : e ≡ bit (differ v h)) where
  shifted : e * 2 ^ (n - 1) % 2 ^ 64 ≡ bit (differ v h) * 2 ^ (n - 1)
  shifted =
      ap (λ (x : ℕ). x * 2 ^ (n - 1) % 2 ^ 64) ee
      ∙ mod-eq_of_lt (let l : bit (differ v h) * 2 ^ (n - 1) < 2 ^ 64 = omega (arith, digit-le (differ v h) (2 ^ (n - 1)), row_small n high) in l)

  pub row_fits : e * 2 ^ (n - 1) % 2 ^ 64 + o < 2 ^ 64
  row_fits = omega (arith, shifted, digit-le (differ v h) (2 ^ (n - 1)), row_small n high, eo, digit_lt (differ h false))

  pub row_by : e * 2 ^ (n - 1) % 2 ^ 64 + o ≡ row_word n v h
  row_by = ap₂ ◌+◌ shifted (eo ∙ ap bit (none_differ h))
