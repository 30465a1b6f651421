-- A library's text without comments stays as it is where its comments are made blank again.
use Rattle.std.proofs.Common.{◌≡◌, ℕ, zero, suc, ◌+◌, ◌<◌, ◌≤◌, Bool, true, false, cond, ◌==◌, ◌||◌, ◌&&◌, ◌⊎◌, inl, inr, List, [], ◌∷◌, ◌++◌, map, length, take, drop, refl, ap, ◌∙◌, arith, length-drop, if◌then◌else◌}
use Rattle.std.specs.List.{AllZip}
use Rattle.vg_scan.specs.Pieces.{is_mark}
use Rattle.vg_scan.specs.Comments.{is_block_mark, through_block, blanked, StaysOrBlanks}
use Rattle.vg_scan.specs.LibertyComments.{begins_newline, continues, ends_string_in, through_string_in, liberty_piece_length, unblocked, without_liberty_comments}
use Rattle.vg_scan.proofs.LibertyLemmas.{some, first_piece, plain_length, nothing, no_block, eq_of}
use Rattle.vg_scan.proofs.LibertyLawLemmas.{comments_blank_alone}

-- a text that stays as it is
abbrev Stays : List ℕ → Type 0
Stays text = without_liberty_comments text ≡ text

blanked_none : (b : ℕ) → is_mark (blanked b) ≡ false
blanked_none b = elim (b == 10) as (λ t. is_mark (cond t 10 32) ≡ false) [ true ↦ refl | false ↦ refl ]

-- a comment that is blank
after_blanks : (piece rest : List ℕ) → Stays rest → Stays (map blanked piece ++ rest)
after_blanks [] rest h = h
after_blanks (b ∷ bs) rest h =
    first_piece (blanked b) (map blanked bs ++ rest) 1 (plain_length (blanked b) (map blanked bs ++ rest) (blanked_none b))
    ∙ ap (λ (xs : List ℕ). blanked b ∷ xs) (after_blanks bs rest h)

-- a string
string_by : (continued : Bool) (b : ℕ) (bs : List ℕ) → through_string_in continued (b ∷ bs)
    ≡ (if ends_string_in continued b then 1 else suc (through_string_in (continues continued b bs) bs))
unfolding through_string_in
string_by continued b bs = refl

string_nothing : (continued : Bool) → through_string_in continued [] ≡ 0
unfolding through_string_in
string_nothing continued = refl

some_string : (continued : Bool) (b : ℕ) (bs : List ℕ) → 0 < through_string_in continued (b ∷ bs)
some_string continued b bs = rw (string_by continued b bs) (by_test (ends_string_in continued b))
  where
    by_test : (t : Bool) → 0 < (if t then 1 else suc (through_string_in (continues continued b bs) bs))
    by_test true = omega arith
    by_test false = omega arith

same_begin : (bs rest : List ℕ) (n : ℕ) (q : Bool) → n ≡ through_string_in q bs → (drop n bs ≡ [] → rest ≡ []) → begins_newline (take n bs ++ rest) ≡ begins_newline bs
same_begin [] rest n q e h = let k : n ≡ 0 = e ∙ string_nothing q in rw (h (rw k refl), k) refl
same_begin (b ∷ bs) rest zero q e h = let s = some_string q b bs in absurd (omega (arith, e, s))
same_begin (b ∷ bs) rest (suc n) q e h = refl

-- the bytes of a string are the string, whatever comes after its end
same_string : (q : Bool) (bs rest : List ℕ) (n : ℕ) → n ≡ through_string_in q bs → (drop n bs ≡ [] → rest ≡ []) → through_string_in q (take n bs ++ rest) ≡ n
same_string q [] rest n e h = let k : n ≡ 0 = e ∙ string_nothing q in rw (h (rw k refl), k) (string_nothing q)
same_string q (b ∷ bs) rest n e h = by_test (ends_string_in q b) refl (same_string (continues q b bs) bs rest (through_string_in (continues q b bs) bs) refl)
  where
    by_test : (t : Bool) → ends_string_in q b ≡ t
        → ((drop (through_string_in (continues q b bs) bs) bs ≡ [] → rest ≡ []) → through_string_in (continues q b bs) (take (through_string_in (continues q b bs) bs) bs ++ rest) ≡ through_string_in (continues q b bs) bs)
        → through_string_in q (take n (b ∷ bs) ++ rest) ≡ n
    by_test true t ih =
        let k : n ≡ 1 = rw (string_by q b bs, t) at e in
        rw (k, string_by q b rest, t) refl
    by_test false t ih =
        let m = through_string_in (continues q b bs) bs in
        let k : n ≡ suc m = rw (string_by q b bs, t) at e in
        let more : drop m bs ≡ [] → rest ≡ [] = rw k at h in
        let s : continues q b (take m bs ++ rest) ≡ continues q b bs =
        ap (λ x. (b == 92) || (q && ((b == 13) && x))) (same_begin bs rest m (continues q b bs) refl more) in
        rw (k, string_by q b (take m bs ++ rest), t, s) (ap suc (ih more))

within : (q : Bool) (bs : List ℕ) → through_string_in q bs ≤ length bs
within q [] = rw (string_nothing q) (omega arith)
within q (b ∷ bs) = by_test (ends_string_in q b) refl (within (continues q b bs) bs)
  where
    by_test : (t : Bool) → ends_string_in q b ≡ t → through_string_in (continues q b bs) bs ≤ length bs → through_string_in q (b ∷ bs) ≤ suc (length bs)
    by_test true t ih = rw (string_by q b bs, t) (omega arith)
    by_test false t ih = rw (string_by q b bs, t) (omega (arith, ih))

take_front : {X : Type 0} (n : ℕ) (xs ys : List X) → n ≤ length xs → (take n (take n xs ++ ys) ≡ take n xs) × (drop n (take n xs ++ ys) ≡ ys)
take_front zero xs ys h = (refl, refl)
take_front (suc n) [] ys h = absurd (omega arith)
take_front (suc n) (x ∷ xs) ys h = let (e, f) = take_front n xs ys (omega arith) in (ap (λ zs. x ∷ zs) e, f)

-- ---- the first piece and what comes after it

string_stays : (b c : ℕ) (bs rest : List ℕ) (n : ℕ) → b ≡ 34 → n ≡ through_string_in false (c ∷ bs) → (drop n (c ∷ bs) ≡ [] → rest ≡ []) → Stays rest
    → Stays (b ∷ (take n (c ∷ bs) ++ rest))
string_stays b c bs rest zero e f g h = let s = some_string false c bs in absurd (omega (arith, f, s))
string_stays b c bs rest (suc m) e f g h =
    let n = suc m in
    let s : through_string_in false (take n (c ∷ bs) ++ rest) ≡ n = same_string false (c ∷ bs) rest n f g in
    let w = within false (c ∷ bs) in
    let (x, y) = take_front n (c ∷ bs) rest (omega (arith, f, w)) in
    let k : suc n ≡ liberty_piece_length (b ∷ (take n (c ∷ bs) ++ rest)) = rw (e, s) (omega arith) in
    first_piece b (take n (c ∷ bs) ++ rest) (suc n) k
    ∙ ap (λ (xs : List ℕ). unblocked (b ∷ xs) ++ without_liberty_comments (drop n (take n (c ∷ bs) ++ rest))) x
    ∙ ap (λ (xs : List ℕ). unblocked (b ∷ take n (c ∷ bs)) ++ without_liberty_comments xs) y
    ∙ rw (no_block b (take n (c ∷ bs)) e) (ap (λ (xs : List ℕ). b ∷ (take n (c ∷ bs) ++ xs)) h)

hidden_stays : (b c : ℕ) (rest : List ℕ) → b ≡ 92 → Stays rest → Stays (b ∷ c ∷ rest)
hidden_stays b c rest e h =
    first_piece b (c ∷ rest) 2 (rw e refl) ∙ rw e (ap (λ (xs : List ℕ). 92 ∷ c ∷ xs) h)

no_mark_after : (b c x : ℕ) → is_block_mark b c ≡ false → (x ≡ c) ⊎ ((c ≡ 10 → ⊥) × (x ≡ 32)) → is_block_mark b x ≡ false
no_mark_after b c x e (inl f) = rw f e
no_mark_after b c x e (inr (n, f)) = rw f (by_test (b == 47))
  where
    by_test : (t : Bool) → (t && (32 == 42)) ≡ false
    by_test true = refl
    by_test false = refl

-- one byte
alone_stays : (b c : ℕ) (bs rest : List ℕ) → (b == 92) ≡ false → (b == 34) ≡ false → is_block_mark b c ≡ false
    → AllZip StaysOrBlanks (c ∷ bs) rest → Stays rest → Stays (b ∷ rest)
alone_stays b c bs [] e f g z h = absurd z
alone_stays b c bs (x ∷ rest) e f g z h =
    let m = no_mark_after b c x g z.0 in
    let k : 1 ≡ liberty_piece_length (b ∷ x ∷ rest) = rw (e, f, m) refl in
    first_piece b (x ∷ rest) 1 k ∙ ap (λ (xs : List ℕ). b ∷ xs) h

pick : (t : Bool) (P : ℕ → Type 0) (x y : ℕ) → (t ≡ true → P x) → (t ≡ false → P y) → P (cond t x y)
pick true P x y f g = f refl
pick false P x y f g = g refl

-- a text whose first piece is shown, before a rest that is shown
abbrev ShownStays : ℕ → List ℕ → Type 0
ShownStays k text = Stays (without_liberty_comments (drop k text)) → Stays (unblocked (take k text) ++ without_liberty_comments (drop k text))

block_stays : (b c k : ℕ) (bs : List ℕ) → is_block_mark b c ≡ true → ShownStays (suc (suc k)) (b ∷ c ∷ bs)
block_stays b c k bs e h = rw e (after_blanks (b ∷ c ∷ take k bs) (without_liberty_comments (drop k bs)) h)

string_shown : (b c : ℕ) (bs : List ℕ) → b ≡ 34 → ShownStays (1 + through_string_in false (c ∷ bs)) (b ∷ c ∷ bs)
string_shown b c bs e =
    let n = through_string_in false (c ∷ bs) in
    let k : 1 + n ≡ suc n = omega arith in
    rw k (λ h.
    rw (no_block b (take n (c ∷ bs)) e)
    (string_stays b c bs (without_liberty_comments (drop n (c ∷ bs))) n e refl (λ o. ap without_liberty_comments o ∙ nothing) h))

first_shown : (b : ℕ) (bs : List ℕ) → ShownStays (liberty_piece_length (b ∷ bs)) (b ∷ bs)
first_shown b [] = λ h. rw nothing (first_piece b [] 1 refl ∙ rw nothing refl)
first_shown b (c ∷ bs) =
    let P : ℕ → Type 0 = λ k. ShownStays k (b ∷ c ∷ bs) in
    pick (b == 92) P _ _ (λ e. λ h. rw (eq_of b 92 e) (hidden_stays 92 c (without_liberty_comments bs) refl h)) (λ e.
    pick (b == 34) P _ _ (λ f. string_shown b c bs (eq_of b 34 f)) (λ f.
    pick (is_block_mark b c) P _ _
    (λ g. let k : 2 + through_block bs ≡ suc (suc (through_block bs)) = omega arith in rw k (block_stays b c (through_block bs) bs g))
    (λ g. λ h. alone_stays b c bs (without_liberty_comments (c ∷ bs)) e f g (comments_blank_alone (c ∷ bs)) h)))

again_in : (n : ℕ) (text : List ℕ) → length text ≤ n → Stays (without_liberty_comments text)
again_in n [] l = ap without_liberty_comments nothing
again_in zero (b ∷ bs) l = absurd (omega arith)
again_in (suc n) (b ∷ bs) l =
    let k = liberty_piece_length (b ∷ bs) in
    let f = first_piece b bs k refl in
    let one_at_least = some b bs in
    let shorter = length-drop k (b ∷ bs) in
    rw f (first_shown b bs (again_in n (drop k (b ∷ bs)) (omega (arith, shorter, one_at_least))))

pub without_liberty_again : (text : List ℕ) → without_liberty_comments (without_liberty_comments text) ≡ without_liberty_comments text
without_liberty_again text = again_in (length text) text (omega arith)
