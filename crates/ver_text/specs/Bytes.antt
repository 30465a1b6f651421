-- Classes of bytes. Source: IEEE Std 1364-2005, clause 3.
use Rattle.std.specs.Prelude.{ℕ, ◌==◌, nat_le, Bool, not, ◌&&◌, ◌||◌, Option, Some, None, if◌then◌else◌}
use Rattle.vg_num.specs.Number.{is_digit}
use Rattle.vg_scan.specs.Lines.{is_newline}
use Rattle.ver_text.specs.declared.class.Base.{Base}
use Rattle.ver_text.specs.declared.class.Base.TheVariants.{Binary, Octal, Decimal, Hexadecimal}

-- a letter or `_`, with which a simple identifier begins
abbrev pub is_letter : ℕ → Bool
is_letter b = (nat_le 97 b && nat_le b 122) || ((nat_le 65 b && nat_le b 90) || (b == 95))

-- a byte of a simple identifier after its first: a letter, a digit, `_` or `$`
abbrev pub is_word_byte : ℕ → Bool
is_word_byte b = is_letter b || (is_digit b || (b == 36))

-- a byte of an escaped identifier after its first: any of ASCII that is printed, and no space
abbrev pub is_printable : ℕ → Bool
is_printable b = nat_le 33 b && nat_le b 126

-- a byte that ends no line
abbrev pub is_in_line : ℕ → Bool
is_in_line b = not (is_newline b)

-- the base that a letter of either case stands for
abbrev pub base_of : ℕ → Option Base
base_of b =
    if (b == 98) || (b == 66) then Some Binary
    else (if (b == 111) || (b == 79) then Some Octal
    else (if (b == 100) || (b == 68) then Some Decimal
    else (if (b == 104) || (b == 72) then Some Hexadecimal else None)))

-- a digit of a base, in lower case
abbrev pub is_known_digit : Base → ℕ → Bool
is_known_digit Binary b = nat_le 48 b && nat_le b 49
is_known_digit Octal b = nat_le 48 b && nat_le b 55
is_known_digit Decimal b = is_digit b
is_known_digit Hexadecimal b = is_digit b || (nat_le 97 b && nat_le b 102)

-- `x`, `z`, `?` for a digit that is not known or of high impedance, or `_` between digits
abbrev pub is_unknown_digit : ℕ → Bool
is_unknown_digit b = (b == 120) || ((b == 122) || ((b == 63) || (b == 95)))

-- what may stand among the digits of a number with a base
abbrev pub is_digit_of : Base → ℕ → Bool
is_digit_of base b = is_known_digit base b || is_unknown_digit b

-- one of the bytes `( ) [ ] { } , ; . : = #`
abbrev pub is_mark : ℕ → Bool
is_mark b =
    (b == 40) || ((b == 41) || ((b == 91) || ((b == 93) || ((b == 123) || ((b == 125)
    || ((b == 44) || ((b == 59) || ((b == 46) || ((b == 58) || ((b == 61) || (b == 35)))))))))))
