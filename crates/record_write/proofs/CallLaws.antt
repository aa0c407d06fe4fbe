-- The call that writes: the records of the blocks, a refusal before them, a refusal of a record, and what the text asks for.
use Rattle.std.proofs.Common.{ℕ, ◌≤◌, ◌<◌, ◌≡◌, refl, sym, ◌∙◌, ap, List, length, take}
use Rattle.std.proofs.Common.{ℤ}
use Rattle.std.proofs.lemmas.List.{get_or-take}
use Rattle.std.proofs.Math.Seq.{length-take-le}
use Rattle.arith.specs.Checks.{refusal}
use Rattle.arith.specs.Lists.{list_of}
use Rattle.arith.proofs.ListLaws.{list_of-ext}
use Rattle.pattern.specs.Refusal.{number_of}
use Rattle.pattern.specs.declared.refusals.Refusal.{Refusal}
use Rattle.pattern.specs.Words.{whole_patterns, patterns_of}
use Rattle.pattern.proofs.AnswerLaws.{number-some}
use Rattle.pattern.proofs.WordLaws.{length-patterns}
use Rattle.record.specs.declared.Record.{Record}
use Rattle.record.specs.Lent.{record_in, record_at}
use Rattle.sheet.specs.declared.Sheet.{Sheet}
use Rattle.sheet.specs.State.{blocks_of}
use Rattle.record_file.specs.Writing.{Source, source_of, Small, HeadFits, space_for, first_to, written_refusal, write_checks, write_refusal}
use Rattle.record_file.proofs.RefusalLaws.{Accepted, first-lengths, write-first, write-next, accepted-parts, accepted-head, accepted-small}
use Rattle.record_write.proofs.FirstLaws.{first_ext}

-- ---- the first m records, where there are as many

module _ {p : List (List ℤ)} (rs : List (List ℤ)) (m : ℕ) (e : p ≡ take m rs) (enough : m ≤ length rs) where
  pub placed-number : length p ≡ m
  placed-number = ap length e ∙ length-take-le m rs enough

  placed-same : (i : ℕ) → i < m → record_at p i ≡ record_at rs i
  placed-same i h = ap (λ (l : List (List ℤ)). record_at l i) e ∙ ap record_in (get_or-take m rs i _ h)

  placed-first : (f : Record → ℕ) → first_to (λ i. f (record_at p i)) (length p) ≡ first_to (λ i. f (record_at rs i)) m
  placed-first f =
      ap (first_to (λ i. f (record_at p i))) placed-number
      ∙ first_ext (λ i. f (record_at p i)) (λ i. f (record_at rs i)) m (λ i h. ap f (placed-same i h))

  pub placed-list : list_of (record_at p) (length p) ≡ list_of (record_at rs) m
  placed-list = ap (list_of (record_at p)) placed-number ∙ list_of-ext (record_at p) (record_at rs) m placed-same

-- ---- what is refused

module _ (S : Sheet) (words : List ℕ) (count : ℕ) (t : List ℕ) (rs : List (List ℤ)) (space : ℕ) where
  abbrev W : Source
  W = source_of S t (record_at rs)

  abbrev L : List ℕ
  L = patterns_of S.n words

  -- what is checked before the records, as the code checks it
  abbrev before : ℕ
  before = refusal (write_checks S t (whole_patterns S.n (length words)) count (length rs) space) 0

  before-is : before ≡ refusal (write_checks S t (length L) count (length rs) space) 0
  before-is = rw (length-patterns S.n words) refl

  pub sheet-refused : (r : Refusal) → number_of r ≡ before → number_of r ≡ write_refusal W L count (length rs) space
  sheet-refused r e = write-first W L count (length rs) space (e ∙ before-is) (number-some r)

  -- where nothing is refused before the records
  module _ (none : 0 ≡ before) where
    none-is : refusal (write_checks S t (length L) count (length rs) space) 0 ≡ 0
    none-is = sym (none ∙ before-is)

    pub records-enough : blocks_of S ≤ length rs
    records-enough = (first-lengths W L count (length rs) space none-is).enough

    pub records-refused :
        {p : List (List ℤ)} {x : ℕ} → p ≡ take (blocks_of S) rs → x ≡ first_to (λ i. written_refusal S.n L count (length t) (record_at p i)) (length p)
        → x ≡ write_refusal W L count (length rs) space
    records-refused e q =
        q ∙ placed-first rs (blocks_of S) e records-enough (written_refusal S.n L count (length t)) ∙ sym (write-next W L count (length rs) space none-is)

-- ---- what writing the text asks for, where nothing is refused

module _ (S : Sheet) (t : List ℕ) (at : ℕ → Record) (l : List ℕ) (count records space : ℕ) (good : 0 ≡ write_refusal (source_of S t at) l count records space) where
  parts : Accepted (source_of S t at) l count records space
  parts = accepted-parts (source_of S t at) l count records space (sym good)

  pub text-needs :
      (HeadFits S (length t)) × (space_for (length t) (blocks_of S) ≤ space) × (blocks_of S ≤ records) × ((i : ℕ) → i < blocks_of S → Small (at i))
  text-needs = (
    accepted-head (source_of S t at) l count records space parts,
    parts.lengths.room,
    parts.lengths.enough,
    accepted-small (source_of S t at) l count records space parts,
  )

-- what checking and writing cite
pub ruleset in_turn = (sheet-refused, records-enough, records-refused)

pub ruleset needs = (text-needs)
