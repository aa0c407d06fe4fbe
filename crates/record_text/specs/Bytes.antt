-- The bytes of a quoted text.
use Rattle.std.specs.Prelude.{ℕ, List}
use Prim.Native.Char.{code}
use Prim.Native.String.{String, [], ◌∷◌}
use mathlib.Core.List as list

-- the bytes of a text of ASCII characters
abbrev pub bytes_of : String → List ℕ
bytes_of [] = list.[]
bytes_of (c ∷ s) = list.◌∷◌ (code c) (bytes_of s)
