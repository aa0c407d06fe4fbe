-- Worked examples of the definitions.
use Rattle.std.specs.Prelude.{◌≡◌, refl, true, [], ◌∷◌, pos, negsuc}
use Rattle.record_text.specs.Bytes.{bytes_of}
use Rattle.record_text.specs.Numeral.{digits_of, further_digits, numeral, signed_numeral}
use Rattle.record_text.specs.Parsed.{bad_form, found, exactly}
use Rattle.record_text.specs.Field.{more_digits, number, signed, signed_text}
use Rattle.record_text.specs.Line.{depth_title, size_line, size_text, value_line, record_line, record_text}
use Rattle.record_text.specs.Lines.{refused_at, read, many_lines, no_meaning}

zero_numeral : numeral 0 ≡ bytes_of "0"
unfolding numeral digits_of further_digits
zero_numeral = refl

table_numeral : numeral 140 ≡ bytes_of "140"
unfolding numeral digits_of further_digits
table_numeral = refl

-- of another form: a leading zero, -0, six digits, a carriage return, no line end
leading_zero : number 10 (bytes_of "01\n") ≡ bad_form
unfolding number more_digits
leading_zero = refl

minus_zero : signed true 10 (bytes_of "-0\n") ≡ bad_form
unfolding signed number more_digits
minus_zero = refl

six_digits : number 10 (bytes_of "100000\n") ≡ bad_form
unfolding number more_digits
six_digits = refl

carriage_return : number 10 (bytes_of "4\r\n") ≡ bad_form
unfolding number more_digits
carriage_return = refl

no_line_end : number 10 (bytes_of "4") ≡ bad_form
unfolding number more_digits
no_line_end = refl

-- document 01's size line
size_example : size_text (record { n = 4; width = 4; height = 4; values = 3 }) ≡ bytes_of "4 4 4 3\n"
unfolding size_text signed_text signed_numeral numeral digits_of further_digits
size_example = refl

-- document 01's record line
record-example : record_text (record { kind = 0; entry = 0; off0 = negsuc 0; off1 = pos 1 }) ≡ bytes_of "0 0 -1 1\n"
unfolding record_text signed_text signed_numeral numeral digits_of further_digits
record-example = refl

record-example-read :
    record_line (bytes_of "0 0 -1 1\nx") ≡ found (record { kind = 0; entry = 0; off0 = negsuc 0; off1 = pos 1 }) (bytes_of "x")
unfolding record_line number signed more_digits
record-example-read = refl

-- of another form: two spaces, a title without its line end
two_spaces : size_line (bytes_of "4  4 4 3\n") ≡ bad_form
unfolding size_line number signed more_digits
two_spaces = refl

title_no_line_end : exactly depth_title (bytes_of "depth") ≡ bad_form
unfolding exactly depth_title
title_no_line_end = refl

-- two table lines from line 4 on
two_lines :
    many_lines value_line (λ (c : Unit {0}). no_meaning) (λ c v. c) 2 4 tt (bytes_of "100\n128\nx") ≡ read (100 ∷ 128 ∷ []) (bytes_of "x")
unfolding many_lines value_line number more_digits
two_lines = refl

-- the second is missing, and is refused at its place
missing_line : many_lines value_line (λ (c : Unit {0}). no_meaning) (λ c v. c) 2 4 tt (bytes_of "100\n") ≡ refused_at 9 5
unfolding many_lines value_line number more_digits
missing_line = refl

-- each line's form is judged before its meaning, and the first bad line is reported
form_first : many_lines value_line (λ (c : Unit {0}) v. 3) (λ c v. c) 2 4 tt (bytes_of "01\n1\n") ≡ refused_at 9 4
unfolding many_lines value_line number more_digits
form_first = refl
