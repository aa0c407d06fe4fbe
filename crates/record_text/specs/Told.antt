-- What the code's answers say: what is read, and the bytes that remain.
use Rattle.std.specs.Prelude.{ℕ, List, Option, Some, None}
use Rattle.std.specs.Borrow.{Bor}
use Rattle.record_text.specs.declared.title.Title.{Title}
use Rattle.record_text.specs.declared.title.Title.TheVariants as title
use Rattle.record_text.specs.Parsed.{Parsed, bad_form, found}
use Rattle.record_text.specs.Line.{size_title, depth_title, record_title}

-- the text of a title line
abbrev pub title_text : Title → List ℕ
title_text title.Size = size_title
title_text title.Depth = depth_title
title_text title.Record = record_title

-- a value and the bytes after it
abbrev pub parsed : {A : Type 0} → Option (A × Bor (List ℕ)) → Parsed A
parsed (Some p) = found p.0 p.1.now
parsed None = bad_form

-- a given text, and the bytes after it
abbrev pub text_parsed : Option (Bor (List ℕ)) → Parsed (Unit {0})
text_parsed (Some rest) = found tt rest.now
text_parsed None = bad_form
