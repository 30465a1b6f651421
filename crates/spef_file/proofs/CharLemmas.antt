-- The bytes of a header with one of them changed.
use Rattle.std.proofs.Common.{◌≡◌, ℕ, Bool, true, false, Some, None, refl}
use Rattle.std.proofs.Math.Bool.{Bool-set}
use Rattle.vg_scan.specs.Separators.{is_separator, is_bus_pair}
use Rattle.vg_scan.specs.declared.chars.Chars.{Chars}
use Rattle.spef_file.specs.HeaderChars.{divided, delimited, enclosed, with_divider, with_delimiter, with_bus}

once : (x : Bool) (p q : x ≡ true) → p ≡ q
once x p q = Bool-set x true p q

divided_yes : (chars : Chars) (b : ℕ) (p : is_separator b ≡ true) (q : is_separator chars.delimiter ≡ true) (r : is_bus_pair chars.bus_left chars.bus_right ≡ true) (t : Bool) (e : is_separator b ≡ t) → t ≡ true
    → Some (record { divider = b; delimiter = chars.delimiter; bus_left = chars.bus_left; bus_right = chars.bus_right; divides = p; delimits = q; encloses = r }) ≡ divided chars b t e
divided_yes chars b p q r true e h = λ i. Some (record {
  divider = b;
  delimiter = chars.delimiter;
  bus_left = chars.bus_left;
  bus_right = chars.bus_right;
  divides = once (is_separator b) p e i;
  delimits = once (is_separator chars.delimiter) q chars.delimits i;
  encloses = once (is_bus_pair chars.bus_left chars.bus_right) r chars.encloses i;
})
divided_yes chars b p q r false e h = absurd (cc)

pub divider_yes : (chars : Chars) (b : ℕ) (p : is_separator b ≡ true) (q : is_separator chars.delimiter ≡ true) (r : is_bus_pair chars.bus_left chars.bus_right ≡ true)
    → Some (record { divider = b; delimiter = chars.delimiter; bus_left = chars.bus_left; bus_right = chars.bus_right; divides = p; delimits = q; encloses = r }) ≡ with_divider chars b
unfolding with_divider
divider_yes chars b p q r = divided_yes chars b p q r (is_separator b) refl p

divided_no : (chars : Chars) (b : ℕ) (t : Bool) (e : is_separator b ≡ t) → t ≡ false → None ≡ divided chars b t e
divided_no chars b true e h = absurd (cc)
divided_no chars b false e h = refl

pub divider_no : (chars : Chars) (b : ℕ) → is_separator b ≡ false → None ≡ with_divider chars b
unfolding with_divider
divider_no chars b h = divided_no chars b (is_separator b) refl h

delimited_yes : (chars : Chars) (b : ℕ) (p : is_separator chars.divider ≡ true) (q : is_separator b ≡ true) (r : is_bus_pair chars.bus_left chars.bus_right ≡ true) (t : Bool) (e : is_separator b ≡ t) → t ≡ true
    → Some (record { divider = chars.divider; delimiter = b; bus_left = chars.bus_left; bus_right = chars.bus_right; divides = p; delimits = q; encloses = r }) ≡ delimited chars b t e
delimited_yes chars b p q r true e h = λ i. Some (record {
  divider = chars.divider;
  delimiter = b;
  bus_left = chars.bus_left;
  bus_right = chars.bus_right;
  divides = once (is_separator chars.divider) p chars.divides i;
  delimits = once (is_separator b) q e i;
  encloses = once (is_bus_pair chars.bus_left chars.bus_right) r chars.encloses i;
})
delimited_yes chars b p q r false e h = absurd (cc)

pub delimiter_yes : (chars : Chars) (b : ℕ) (p : is_separator chars.divider ≡ true) (q : is_separator b ≡ true) (r : is_bus_pair chars.bus_left chars.bus_right ≡ true)
    → Some (record { divider = chars.divider; delimiter = b; bus_left = chars.bus_left; bus_right = chars.bus_right; divides = p; delimits = q; encloses = r }) ≡ with_delimiter chars b
unfolding with_delimiter
delimiter_yes chars b p q r = delimited_yes chars b p q r (is_separator b) refl q

delimited_no : (chars : Chars) (b : ℕ) (t : Bool) (e : is_separator b ≡ t) → t ≡ false → None ≡ delimited chars b t e
delimited_no chars b true e h = absurd (cc)
delimited_no chars b false e h = refl

pub delimiter_no : (chars : Chars) (b : ℕ) → is_separator b ≡ false → None ≡ with_delimiter chars b
unfolding with_delimiter
delimiter_no chars b h = delimited_no chars b (is_separator b) refl h

enclosed_yes : (chars : Chars) (left right : ℕ) (p : is_separator chars.divider ≡ true) (q : is_separator chars.delimiter ≡ true) (r : is_bus_pair left right ≡ true) (t : Bool) (e : is_bus_pair left right ≡ t) → t ≡ true
    → Some (record { divider = chars.divider; delimiter = chars.delimiter; bus_left = left; bus_right = right; divides = p; delimits = q; encloses = r }) ≡ enclosed chars left right t e
enclosed_yes chars left right p q r true e h = λ i. Some (record {
  divider = chars.divider;
  delimiter = chars.delimiter;
  bus_left = left;
  bus_right = right;
  divides = once (is_separator chars.divider) p chars.divides i;
  delimits = once (is_separator chars.delimiter) q chars.delimits i;
  encloses = once (is_bus_pair left right) r e i;
})
enclosed_yes chars left right p q r false e h = absurd (cc)

pub bus_yes : (chars : Chars) (pair : ℕ × ℕ) (p : is_separator chars.divider ≡ true) (q : is_separator chars.delimiter ≡ true) (r : is_bus_pair pair.0 pair.1 ≡ true)
    → Some (record { divider = chars.divider; delimiter = chars.delimiter; bus_left = pair.0; bus_right = pair.1; divides = p; delimits = q; encloses = r }) ≡ with_bus chars pair
unfolding with_bus
bus_yes chars pair p q r = enclosed_yes chars pair.0 pair.1 p q r (is_bus_pair pair.0 pair.1) refl r

enclosed_no : (chars : Chars) (left right : ℕ) (t : Bool) (e : is_bus_pair left right ≡ t) → t ≡ false → None ≡ enclosed chars left right t e
enclosed_no chars left right true e h = absurd (cc)
enclosed_no chars left right false e h = refl

pub bus_no : (chars : Chars) (pair : ℕ × ℕ) → is_bus_pair pair.0 pair.1 ≡ false → None ≡ with_bus chars pair
unfolding with_bus
bus_no chars pair h = enclosed_no chars pair.0 pair.1 (is_bus_pair pair.0 pair.1) refl h
