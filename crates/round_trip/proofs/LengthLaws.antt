-- A written text fits the space, and a record that is not refused can be lent.
use Prim.Native.Nat.{ℕ, ◌≤◌, ◌<◌}
use native.Mathlib.Omega.{arith}
use lib.ListN.{length, get_or, length-append}
use Rattle.sheet.specs.State.{blocks_of}
use Rattle.record.specs.declared.Record.{Record}
use Rattle.record.specs.Lent.{Lendable}
use Rattle.record_text.specs.Line.{record_text}
use Rattle.record_text.proofs.LinesLaws.{texts-length}
use Rattle.record_file.specs.Text.{file_text}
use Rattle.record_file.specs.Writing.{Source, HeadFits, Small, space_for, written_text}
use Rattle.record_write.proofs.WriteLaws.{header-length, values_length, record-short}

-- the text needs no more than the space that writing asks for
pub text-fits :
    (W : Source) → HeadFits W.sheet (length W.table) → ((i : ℕ) → get_or W.table i 0 < 256)
    → ((i : ℕ) → i < blocks_of W.sheet → Small (W.record-at i))
    → length (written_text W) ≤ space_for (length W.table) (blocks_of W.sheet)
unfolding file_text
text-fits W fits byte small =
    simp length-append
    (omega (
      arith,
      header-length W.sheet (length W.table) fits,
      values_length W.table byte,
      texts-length record_text W.record-at 32 (blocks_of W.sheet) (λ i h. record-short (W.record-at i) (small i h)),
    ))

pub small-lendable : (r : Record) → Small r → Lendable r
small-lendable r s = record { kind = omega (arith, s.kind); entry = omega (arith, s.entry) }
