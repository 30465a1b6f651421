-- Where the pieces of a text end.
use Rattle.std.proofs.Common.{◌≡◌, ℕ, suc, ◌+◌, ◌-◌, ◌<◌, ◌≤◌, Bool, true, false, cond, not, ◌&&◌, ◌==◌, List, [], ◌∷◌, length, drop, get_or, refl, sym, ap, ◌∙◌, arith, length-drop, drop-drop, Option, Some, None, unwrap_or, if◌then◌else◌, min}
use Rattle.std.specs.List.{position, position_or_len}
use Rattle.memchr.specs.Find.{IsFirstByte}
use Rattle.vg_scan.specs.Comments.{through_block, through_string, ends_string, piece_length}
use Rattle.vg_scan.specs.Lines.{is_newline}
use Rattle.vg_scan.specs.Pieces.{is_star}
use Rattle.vg_scan.proofs.ClearedLemmas.{one, two, eq_of, ne_test}
use Rattle.vg_scan.proofs.FirstLemmas.{first_is}
use Rattle.vg_scan.proofs.FoundLemmas.{next_there}
use Rattle.vg_scan.proofs.LineLemmas.{first_at, first_none}

-- ---- a byte

-- where a search of a text found a byte, or the text's end
first_or_end : (test : ℕ → Bool) (text : List ℕ) (found : Option ℕ) → found ≡ position test text
    → unwrap_or found (length text) ≡ position_or_len test text
first_or_end test text None e = sym (first_none test text (sym e))
first_or_end test text (Some k) e = sym (first_at test text k (sym e)).0

pub found_at : (test : ℕ → Bool) (text rest : List ℕ) (at : ℕ) (found : Option ℕ) → rest ≡ drop at text → IsFirstByte test rest found
    → at + unwrap_or found (length rest) ≡ at + position_or_len test (drop at text)
found_at test text rest at found e h = ap (λ n. at + n) (first_or_end test rest found (first_is test rest found h) ∙ ap (position_or_len test) e)

-- ---- a string

pub string_ends : (text rest : List ℕ) (at offset : ℕ) → rest ≡ drop at text → at ≤ length text → IsFirstByte ends_string rest (Some offset)
    → at + offset + 1 ≡ min (at + through_string (drop at text)) (length text)
string_ends text rest at offset e l h =
    let f = first_at ends_string rest offset (sym (first_is ends_string rest (Some offset) h)) in
    let g : position_or_len ends_string (drop at text) ≡ offset = ap (position_or_len ends_string) (sym e) ∙ f.0 in
    let k : length rest ≡ length text - at = ap length e ∙ length-drop at text in
    omega (arith, f.1, g, k)

pub string_open : (text rest : List ℕ) (at : ℕ) → rest ≡ drop at text → at ≤ length text → IsFirstByte ends_string rest None
    → length text ≡ min (at + through_string (drop at text)) (length text)
string_open text rest at e l h =
    let f = first_none ends_string rest (sym (first_is ends_string rest None h)) in
    let g : position_or_len ends_string (drop at text) ≡ length rest = ap (position_or_len ends_string) (sym e) ∙ f in
    let k : length rest ≡ length text - at = ap length e ∙ length-drop at text in
    omega (arith, g, k)

-- ---- a comment that its line's end ends

pub line_ends : (text : List ℕ) (at to : ℕ) → at + 1 < length text → get_or text at 0 ≡ 47 → get_or text (at + 1) 0 ≡ 47 → to ≤ length text
    → to ≡ at + 2 + position_or_len is_newline (drop (at + 2) text) → to ≡ min (at + piece_length (drop at text)) (length text)
line_ends text at to h e f l is =
    let p : piece_length (drop at text) ≡ 2 + position_or_len is_newline (drop (at + 2) text) = ap piece_length (two text at h) ∙ rw (e, f) refl in
    omega (arith, p)

-- ---- a comment that `*/` ends

star_step : (t : Bool) (b c p : ℕ) (bs : List ℕ) → (b == 42) ≡ t → through_block (c ∷ bs) ≡ p + through_block (drop p (c ∷ bs))
    → (if t && (c == 47) then 2 else through_block (c ∷ bs) + 1) ≡ cond (not t) (1 + p) 0 + through_block (drop (cond (not t) (1 + p) 0) (b ∷ c ∷ bs))
star_step true b c p bs s e = rw s (omega arith)
star_step false b c p bs s e =
    let k : 1 + p ≡ suc p = omega arith in
    rw k (omega (arith, e))

star_last : (t : Bool) (b : ℕ) → 1 ≡ cond (not t) 1 0 + through_block (drop (cond (not t) 1 0) (b ∷ []))
star_last true b = refl
star_last false b = refl

-- its bytes up to a star are passed
passed : (text : List ℕ)
    → through_block text ≡ position_or_len is_star text + through_block (drop (position_or_len is_star text) text)
passed [] = refl
passed (b ∷ []) = star_last (b == 42) b
passed (b ∷ c ∷ bs) = star_step (b == 42) b c (position_or_len is_star (c ∷ bs)) bs refl (passed (c ∷ bs))

pub to_star : (text : List ℕ) (at star : ℕ)
    → star ≡ at + position_or_len is_star (drop at text) → at + through_block (drop at text) ≡ star + through_block (drop star text)
to_star text at star e =
    let n = position_or_len is_star (drop at text) in
    let p = passed (drop at text) in
    let d : through_block (drop n (drop at text)) ≡ through_block (drop star text) =
    ap through_block (drop-drop n at text ∙ ap (λ k. drop k text) (sym e)) in
    omega (arith, p, d)

pub star_there : (text : List ℕ) (at star : ℕ) → at ≤ length text → star ≡ at + position_or_len is_star (drop at text)
    → star < length text → get_or text star 0 ≡ 42
star_there text at star l e h = eq_of _ 42 (next_there is_star text at star l e h)

one_more : (text : List ℕ) (star : ℕ) → star + 1 < length text → drop (star + 1) text ≡ get_or text (star + 1) 0 ∷ drop (star + 2) text
one_more text star h = one text (star + 1) h ∙ ap (λ m. get_or text (star + 1) 0 ∷ drop m text) (let e : star + 1 + 1 ≡ star + 2 = omega arith in e)

-- it goes on behind a star that ends nothing
pub block_goes : (text : List ℕ) (star : ℕ) → star + 1 < length text → (get_or text (star + 1) 0 ≡ 47 → ⊥)
    → through_block (drop star text) ≡ through_block (drop (star + 1) text) + 1
block_goes text star h f =
    ap through_block (two text star h)
    ∙ goes (get_or text star 0) (get_or text (star + 1) 0) (drop (star + 2) text) (ne_test _ 47 f)
    ∙ sym (ap (λ xs. through_block xs + 1) (one_more text star h))
  where
    goes : (b c : ℕ) (bs : List ℕ) → (c == 47) ≡ false → through_block (b ∷ c ∷ bs) ≡ through_block (c ∷ bs) + 1
    goes b c bs t = rw t (by_test (b == 42))
      where
        by_test : (t : Bool) → (if t && false then 2 else through_block (c ∷ bs) + 1) ≡ through_block (c ∷ bs) + 1
        by_test true = refl
        by_test false = refl
