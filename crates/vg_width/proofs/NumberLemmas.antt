-- Numbers of few digits, as they are read.
use Rattle.std.proofs.Common.{◌≡◌, ℕ, ◌<◌, ◌≤◌, ◌^◌, nat_lt, Bool, true, false, List, [], length, refl, ◌∙◌, arith, le-leb, ltb-true, ℤ, pos, Some, None, Result, Ok, Err, if◌then◌else◌}
use Rattle.std.proofs.lemmas.Bool.Decides.{nat_tests}
use Rattle.std.proofs.lemmas.List.{append-nil}
use Rattle.std.specs.List.{list_all}
use Rattle.std.specs.Str.Parse.{starts_with_minus}
use Rattle.vg_num.specs.Number.{are_digits, is_digit, value_of, whole_of}
use Rattle.vg_num.specs.declared.fault.NumFault.{NumFault}
use Rattle.vg_num.specs.declared.fault.NumFault.TheVariants.{TooLarge}
use Rattle.std.proofs.lemmas.Bool.{and_parts}
use Rattle.vg_num.proofs.ReadingLemmas.{unsigned_text}
use Rattle.vg_width.specs.Lines.{number_in}

-- digits begin with no minus
no_minus : (word : List ℕ) → are_digits word ≡ true → starts_with_minus word ≡ false
no_minus word e =
    let (some, all) = and_parts (nat_lt 0 (length word)) (list_all is_digit word) e in
    (rw append-nil at (unsigned_text word [] (ltb-true 0 (length word) some) all)).0

abbrev capped : ℕ → Result ℤ NumFault
capped n = if nat_lt (10 ^ 26) n then Err TooLarge else Ok (pos n)

read_is : (word : List ℕ) → are_digits word ≡ true → whole_of word ≡ capped (value_of word)
unfolding whole_of
read_is word e = rw (no_minus word e, e) refl

-- what is read is the number, and what is not is large
pub value_read : (word : List ℕ) (z : ℤ) → are_digits word ≡ true → Ok z ≡ whole_of word → z ≡ pos (value_of word)
value_read word z e read = go (nat_lt (10 ^ 26) (value_of word)) (read ∙ read_is word e)
  where
    go : (b : Bool) → Ok z ≡ (if b then Err TooLarge else Ok (pos (value_of word))) → z ≡ pos (value_of word)
    go true is = absurd (cc)
    go false is = cc

value_large : (word : List ℕ) (fault : NumFault) → are_digits word ≡ true → Err fault ≡ whole_of word → 10 ^ 26 < value_of word
value_large word fault e read = go (nat_lt (10 ^ 26) (value_of word)) refl (read ∙ read_is word e)
  where
    go : (b : Bool) → nat_lt (10 ^ 26) (value_of word) ≡ b → Err fault ≡ (if nat_lt (10 ^ 26) (value_of word) then Err TooLarge else Ok (pos (value_of word))) → 10 ^ 26 < value_of word
    go true large is = ltb-true (10 ^ 26) (value_of word) large
    go false small is = let no : Err fault ≡ Ok (pos (value_of word)) = rw small at is in absurd (cc)

-- so it is the number of a word, or the word has none
pub number_is : (digits most : ℕ) (word : List ℕ) → length word ≤ digits → are_digits word ≡ true → value_of word ≤ most → Some (value_of word) ≡ number_in digits most word
number_is digits most word short e low = rw (le-leb (length word) digits short, e, le-leb (value_of word) most low) refl

pub number_over : (digits most : ℕ) (word : List ℕ) → are_digits word ≡ true → most < value_of word → None ≡ number_in digits most word
number_over digits most word e high = grind (arith, nat_tests)

pub number_refused : (digits most : ℕ) (word : List ℕ) (fault : NumFault) → are_digits word ≡ true → most < 2 ^ 32 → Err fault ≡ whole_of word
    → None ≡ number_in digits most word
number_refused digits most word fault e few read = number_over digits most word e (omega (arith, value_large word fault e read))
