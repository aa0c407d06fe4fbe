-- What the code's answers say: what a line holds and the bytes that remain, or a refused line.
use Rattle.std.specs.Prelude.{ℕ, List, [], Result, Ok, Err}
use Rattle.std.specs.Borrow.{Bor}
use Rattle.pattern.specs.Refusal.{number_of}
use Rattle.pattern.specs.declared.refusals.Refusal.{Refusal}
use Rattle.record_text.specs.declared.fields.SizeFields.{SizeFields}
use Rattle.record_text.specs.Lines.{Lined, refused_at, read}
use Rattle.record_file.specs.Text.{size_fields_of}
use Rattle.record_read.specs.declared.head.Head.{Head}
use Rattle.record_read.specs.declared.lines.LineRefusal.{LineRefusal}

-- the value of an answer and the bytes that it leaves, by two functions of it, or the number of a refusal and its line
abbrev pub lined_by : {A X : Type 0} → (A → X) → (A → List ℕ) → Result A LineRefusal → Lined X
lined_by value rest (Ok a) = read (value a) (rest a)
lined_by value rest (Err e) = refused_at (number_of e.refusal) e.line

-- an answer whose refusal is given for line k
abbrev pub at_line : {A : Type 0} → ℕ → Result A Refusal → Result A LineRefusal
at_line k (Ok a) = Ok a
at_line k (Err e) = Err (record { refusal = e; line = k })

-- a value with the bytes after it
abbrev pub lined : {A : Type 0} → Result (A × Bor (List ℕ)) LineRefusal → Lined A
lined r = lined_by (λ p. p.0) (λ p. p.1.now) r

-- the numbers of a size line, and what is said of them with the bytes after it
abbrev pub head_fields : Head → SizeFields
head_fields h = size_fields_of h.sheet.n h.sheet.width h.sheet.height h.values

abbrev pub head_lined : Result (Head × Bor (List ℕ)) LineRefusal → Lined SizeFields
head_lined r = lined_by (λ p. head_fields p.0) (λ p. p.1.now) r

-- a given text with the bytes after it, and the end of the bytes
abbrev pub text_lined : Result (Bor (List ℕ)) LineRefusal → Lined (Unit {0})
text_lined r = lined_by (λ _. tt) (λ rest. rest.now) r

abbrev pub end_lined : Result Unit LineRefusal → Lined (Unit {0})
end_lined r = lined_by (λ _. tt) (λ _. []) r
