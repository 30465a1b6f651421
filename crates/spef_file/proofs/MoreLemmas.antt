-- What one line more adds to what the lines before it say.
use Rattle.std.proofs.Common.{◌≡◌, ℕ, zero, suc, ◌<◌, ◌≤◌, ◌⊎◌, inl, inr, Bool, true, false, not, ◌&&◌, cond, eqb, List, [], ◌∷◌, ◌++◌, length, get_or, refl, sym, ap, ◌∙◌, arith, append_assoc, Option, length-append}
use Rattle.std.specs.Prelude.{nat_lt}
use Rattle.std.specs.List.{filter, list_all}
use Rattle.std.proofs.Math.ListN.{get_or-append}
use Rattle.std.proofs.Math.Seq.{get_or-append_seam}
use Rattle.std.proofs.lemmas.List.{append-nil}
use Rattle.std.proofs.lemmas.List.Elements.{filter-append}
use Rattle.std.proofs.lemmas.List.Sums.{fold-append}
use Rattle.std.proofs.lemmas.Bool.{cases_lt, eqb-true}
use Rattle.std.proofs.lemmas.Bool.Decides.{nat_tests}
use Rattle.std.proofs.lemmas.Slice.Eq.{bytes_eq-Decides}
use Rattle.vg_scan.specs.Lines.{Line}
use Rattle.vg_scan.proofs.ClearedLemmas.{first_of, second_of}
use Rattle.spef_file.specs.declared.keyword.Keyword.{Keyword}
use Rattle.spef_file.specs.declared.keyword.Keyword.TheVariants.{Map, Passed, Net, Foreign, Nothing}
use Rattle.spef_file.specs.Words.{first_word, has_words, is_quoted, starts_quoted}
use Rattle.spef_file.specs.Keywords.{keyword_of}
use Rattle.spef_file.specs.Headers.{header_words, is_header_word, is_idle}
use Rattle.spef_file.specs.HeaderLines.{without_texts, spoken, header_at}
use Rattle.spef_file.specs.Regions.{outside, place_after, place_of, opens_nothing}
use Rattle.spef_file.specs.Statements.{listed, gathered, row_in, rows_of, net_in, nets_of}

pub truth : (b : Bool) → (b ≡ true) ⊎ (b ≡ false)
truth true = inl refl
truth false = inr refl

-- two numbers are the same, or the test says no
pub decide : (n k : ℕ) → (n ≡ k) ⊎ (eqb n k ≡ false)
decide n k = elim (truth (eqb n k)) [ inl t ↦ inl (eqb-true n k t) | inr f ↦ inr f ]

-- header lines

some_more : (n : ℕ) → nat_lt 0 (suc n) ≡ true
some_more n = grind (arith, nat_tests)

texts_next : (q : Bool) (x line : Line) (f : List Line) → x ∷ (f ++ cond (not q) (line ∷ []) []) ≡ cond q (x ∷ f) (x ∷ (f ++ line ∷ []))
texts_next true x line f = ap (λ xs. x ∷ xs) (append-nil f)
texts_next false x line f = refl

texts_more : (f : List Line) (line : Line) → without_texts (f ++ filter has_words (line ∷ [])) ≡ cond (is_idle (length (without_texts f)) line) (without_texts f) (without_texts f ++ line ∷ [])
texts_more f [] = ap without_texts (append-nil f)
texts_more [] (w ∷ ws) = refl
texts_more (x ∷ f) (w ∷ ws) =
    ap (λ xs. x ∷ xs) (filter-append (λ line. not (is_quoted line)) f ((w ∷ ws) ∷ []))
    ∙ texts_next (starts_quoted w) x (w ∷ ws) (filter (λ line. not (is_quoted line)) f)
    ∙ ap (λ b. cond (b && starts_quoted w) (x ∷ filter (λ line. not (is_quoted line)) f) (x ∷ (filter (λ line. not (is_quoted line)) f ++ (w ∷ ws) ∷ []))) (sym (some_more (length (filter (λ line. not (is_quoted line)) f))))

pub spoken_more : (lines : List Line) (line : Line) → spoken (lines ++ line ∷ []) ≡ cond (is_idle (length (spoken lines)) line) (spoken lines) (spoken lines ++ line ∷ [])
unfolding spoken
spoken_more lines line = ap without_texts (filter-append has_words lines (line ∷ [])) ∙ texts_more (filter has_words lines) line

get_past : (xs : List Line) (n : ℕ) → length xs ≤ n → get_or xs n [] ≡ []
get_past [] n l = refl
get_past (x ∷ xs) zero l = absurd (omega arith)
get_past (x ∷ xs) (suc n) l = get_past xs n (omega arith)

-- at another place than the last
get_other : (xs : List Line) (x : Line) (n : ℕ) → (n ≡ length xs → ⊥) → get_or (xs ++ x ∷ []) n [] ≡ get_or xs n []
get_other xs x n other =
    elim (cases_lt n (length xs)) [
      | inl low ↦ get_or-append xs (x ∷ []) [] n low
      | inr high ↦ elim (cases_lt (length xs) n) [
        | inl past ↦ get_past (xs ++ x ∷ []) n (omega (arith, length-append xs (x ∷ []))) ∙ sym (get_past xs n high)
        | inr same ↦ absurd (other (omega arith))
      ]
    ]

pub header_past : (lines : List Line) (n : ℕ) → length (spoken lines) ≤ n → header_at lines n ≡ []
header_past lines n l = get_past (spoken lines) n l

pub header_here : (all before : List Line) (line : Line) → spoken all ≡ spoken before ++ line ∷ [] → header_at all (length (spoken before)) ≡ line
header_here all before line e = ap (λ xs. get_or xs (length (spoken before)) []) e ∙ get_or-append_seam (spoken before) line [] []

pub header_other : (all before : List Line) (line : Line) (k : ℕ) → spoken all ≡ spoken before ++ line ∷ [] → (k ≡ length (spoken before) → ⊥) → header_at all k ≡ header_at before k
header_other all before line k e other = ap (λ xs. get_or xs k []) e ∙ get_other (spoken before) line k other

-- a line after so many header lines changes none of the first fourteen
pub header_kept : (before : List Line) (line : Line) (k : ℕ) → 14 ≤ length (spoken before) → k < 14 → header_at (before ++ line ∷ []) k ≡ header_at before k
header_kept before line k high low =
    elim (truth (is_idle (length (spoken before)) line)) [
      | inl t ↦ ap (λ xs. get_or xs k []) (spoken_more before line ∙ ap (λ b. cond b (spoken before) (spoken before ++ line ∷ [])) t)
      | inr f ↦ header_other (before ++ line ∷ []) before line k (spoken_more before line ∙ ap (λ b. cond b (spoken before) (spoken before ++ line ∷ [])) f) (λ e. omega arith)
    ]

-- places

pub place_more : (lines : List Line) (line : Line) → place_of (lines ++ line ∷ []) ≡ place_after (place_of lines) line
unfolding place_of
place_more lines line = fold-append place_after outside lines (line ∷ [])

-- no header line opens anything

each_opens : (words : List (List ℕ)) → list_all (λ word. opens_nothing (keyword_of word)) words ≡ true → (n : ℕ) → opens_nothing (keyword_of (get_or words n [])) ≡ true
unfolding keyword_of
each_opens [] e n = refl
each_opens (word ∷ words) e zero = first_of (opens_nothing (keyword_of word)) (list_all (λ word. opens_nothing (keyword_of word)) words) e
each_opens (word ∷ words) e (suc n) = each_opens words (second_of (opens_nothing (keyword_of word)) (list_all (λ word. opens_nothing (keyword_of word)) words) e) n

header_opens : list_all (λ word. opens_nothing (keyword_of word)) header_words ≡ true
unfolding keyword_of
header_opens = refl

nothing_of : (o : Keyword) → opens_nothing o ≡ true → o ≡ Nothing
nothing_of Map e = absurd (cc)
nothing_of Passed e = absurd (cc)
nothing_of Net e = absurd (cc)
nothing_of Foreign e = absurd (cc)
nothing_of Nothing e = refl

pub word_opens : (n : ℕ) (word : List ℕ) → is_header_word n word ≡ true → keyword_of word ≡ Nothing
unfolding is_header_word
word_opens n word e = ap keyword_of ((bytes_eq-Decides word (get_or header_words n [])).0 e) ∙ nothing_of (keyword_of (get_or header_words n [])) (each_opens header_words header_opens n)

quoted_opens : (word : List ℕ) → starts_quoted word ≡ true → keyword_of word ≡ Nothing
unfolding keyword_of
quoted_opens [] e = absurd (cc)
quoted_opens (b ∷ bs) e = ap (λ x. keyword_of (x ∷ bs)) (eqb-true b 34 e)

pub idle_opens : (n : ℕ) (line : Line) → is_idle n line ≡ true → keyword_of (first_word line) ≡ Nothing
unfolding keyword_of
idle_opens n [] e = refl
idle_opens n (w ∷ ws) e = quoted_opens w (second_of (nat_lt 0 n) (starts_quoted w) e)

-- rows and nets

gathered_more : {A : Type 0} (add : List Line → Line → Option A) (before lines : List Line) (line : Line) → gathered add before (lines ++ line ∷ []) ≡ gathered add before lines ++ listed (add (before ++ lines) line)
gathered_more add before [] line = append-nil (listed (add before line)) ∙ ap (λ ls. listed (add ls line)) (sym (append-nil before))
gathered_more add before (x ∷ lines) line =
    ap (λ rest. listed (add before x) ++ rest) (gathered_more add (before ++ x ∷ []) lines line ∙ ap (λ ls. gathered add (before ++ x ∷ []) lines ++ listed (add ls line)) (append_assoc before (x ∷ []) lines))
    ∙ sym (append_assoc (listed (add before x)) (gathered add (before ++ x ∷ []) lines) (listed (add (before ++ (x ∷ lines)) line)))

pub rows_more : (lines : List Line) (line : Line) → rows_of (lines ++ line ∷ []) ≡ rows_of lines ++ listed (row_in lines line)
unfolding rows_of
rows_more lines line = gathered_more row_in [] lines line

pub nets_more : (lines : List Line) (line : Line) → nets_of (lines ++ line ∷ []) ≡ nets_of lines ++ listed (net_in lines line)
unfolding nets_of
nets_more lines line = gathered_more net_in [] lines line
