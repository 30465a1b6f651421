-- Hashes of texts.
use Rattle.std.specs.Prelude.{ℕ, Bool, ◌==◌, ◌||◌, slice_index, if◌then◌else◌, ◌+◌, ◌-◌, ◌*◌, ◌/◌, ◌%◌, ◌^◌, List, bit_xor, length, take, drop}
use Rattle.std.specs.Int.{w64, from_le_bytes}
use Rattle.std.specs.List.{fold, suffix_len}
use Rattle.std.specs.Simd.{first_chunks}
use Rattle.vg_num.specs.Number.{is_digit}

-- a hash of digits, with one digit more
abbrev pub number_with : ℕ → ℕ → ℕ
number_with hash digit = (hash * 10 % 2 ^ 32 + digit) % 2 ^ 32

-- a hash of digits, which rises by one from a number to the next
abbrev pub number_hash : List ℕ → ℕ
number_hash digits = fold number_with 0 digits

-- a number whose products mix well
abbrev pub multiplier : ℕ
multiplier = 0xF1357AEA2E62A9C5

-- a hash of 64 bits, with one word more
abbrev pub hash_with : ℕ → ℕ → ℕ
hash_with hash word =
    let product = bit_xor hash word * multiplier % 2 ^ 64 in
    bit_xor product (product / 2 ^ 32)

-- the hash of words of eight bytes
abbrev pub words_hash : List (List ℕ) → ℕ
words_hash words = fold (λ hash word. hash_with hash (from_le_bytes w64 word)) 0 words

-- a word, with one byte more
abbrev pub byte_with : ℕ → ℕ → ℕ
byte_with word byte = (word * 256 % 2 ^ 64 + byte) % 2 ^ 64

-- fewer than eight bytes as one word
abbrev pub word_of : List ℕ → ℕ
word_of bytes = fold byte_with 0 bytes

-- the upper half of a hash that is multiplied once more
abbrev pub upper_half : ℕ → ℕ
upper_half hash = hash * multiplier % 2 ^ 64 / 2 ^ 32

-- a hash of 32 bits of any text: of its words of eight bytes, and of the bytes after these
unfoldable pub mixed_hash : List ℕ → ℕ
mixed_hash text =
    let words = length text / 8 in
    upper_half (hash_with (words_hash (first_chunks 8 words text)) (word_of (drop (words * 8) text)))

-- where the digits begin that a text ends with
abbrev pub digits_start : List ℕ → ℕ
digits_start text = length text - suffix_len is_digit text

-- a bracket or an underscore, which stands after an index
abbrev pub is_close : ℕ → Bool
is_close byte = (byte == 93) || (byte == 95)

-- a text without such a byte at its end
abbrev pub without_close : List ℕ → List ℕ
without_close text = if is_close (slice_index text (length text - 1)) then take (length text - 1) text else text

-- the hash of a text, of 32 bits: that of what stands before the number at its end, and as many more as this number
unfoldable pub hash_of : List ℕ → ℕ
hash_of text =
    let name = without_close text in
    let start = digits_start name in
    (mixed_hash (take start name) + number_hash (drop start name)) % 2 ^ 32
