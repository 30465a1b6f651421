-- Classes of bytes, as the code names them: for the functions between.
use Rattle.std.specs.Prelude.{ℕ, Bool}
use Rattle.vg_num.specs.Number.{is_digit}
use Rattle.vg_scan.specs.Lines.{is_blank}
use Rattle.ver_text.specs.Bytes.{is_in_line, is_word_byte, is_printable, is_digit_of}
use Rattle.ver_text.specs.declared.class.Class.{Class}
use Rattle.ver_text.specs.declared.class.Class.TheVariants.{Blank, InLine, Word, Printable, Digit, DigitOf}

-- a byte is of a class
abbrev pub is_of : Class → ℕ → Bool
is_of Blank b = is_blank b
is_of InLine b = is_in_line b
is_of Word b = is_word_byte b
is_of Printable b = is_printable b
is_of Digit b = is_digit b
is_of (DigitOf base) b = is_digit_of base b
