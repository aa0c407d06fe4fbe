-- What C gets of a refusal: an array's default is zeros.
use Rattle.std.proofs.Common.{arith, ◌≡◌, ◌∙◌, sym, List, ℕ}
use Rattle.std.specs.Array.{AllOfLen}
use Rattle.std.proofs.Math.ListN.{replicate}
use Rattle.std.proofs.lemmas.List.{ext_get_or, length-replicate, get_or-replicate}
use Rattle.file_calls.proofs.FileReadFromResultFileBackLineRefusal.from.Goals as goal

-- n numbers that are 0
zeros : (l : List ℕ) (n : ℕ) → AllOfLen (λ v. v ≡ 0) l n → l ≡ replicate n 0
zeros l n h =
    ext_get_or 0 l (replicate n 0) (h.long ∙ sym (length-replicate n 0))
    (λ i k. h.at i 0 (omega (arith, k, h.long)) ∙ sym (get_or-replicate n i 0 0 (omega (arith, k, h.long))))

pub returns-in-Err : goal.returns-in-Err
returns-in-Err c =
    let d = c.default.ensures in
    let z = zeros c.default.result.table 256 d.1.1.1.1.1.1.1 in
    rw (c.in-Err.is, c.from.ensures, d.1.1.0, d.1.1.1.0, d.1.1.1.1.0, d.1.1.1.1.1.0, d.1.1.1.1.1.1.0, z)
