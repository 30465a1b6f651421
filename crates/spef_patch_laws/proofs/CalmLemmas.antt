-- Texts in which no comment begins, by their bytes.
use Rattle.std.proofs.Common.{◌≡◌, ℕ, zero, suc, ◌+◌, ◌<◌, ◌≤◌, ◌⊎◌, inl, inr, Bool, true, false, ◌&&◌, ◌||◌, not, cond, eqb, List, [], ◌∷◌, ◌++◌, length, take, drop, get_or, refl, sym, ap, ◌∙◌, arith, append_assoc, length-append}
use Rattle.std.proofs.lemmas.List.{append-nil, take_at, drop_at}
use Rattle.std.specs.List.{list_all, position_or_len}
use Rattle.vg_scan.specs.Comments.{without_comments, pieces, some_pieces, piece_length, uncommented, is_line_mark, is_block_mark, ends_string}
use Rattle.vg_scan.specs.declared.comments.Comments.TheVariants.{Spef}
use Rattle.vg_scan.proofs.ClearedLemmas.{eq_of, eq_test, ne_of_false, ne_test, plain, escape, line_mark, block_mark}
use Rattle.vg_scan.proofs.PieceLemmas.{cleared_is}
use Rattle.spef_write.specs.Texts.{IsQuietLine}
use Rattle.spef_write.proofs.SpliceLemmas.{first_piece}
use Rattle.spef_write.proofs.WordLemmas.{both_true}
use Rattle.spef_patch_laws.proofs.SpliceLemmas.{cancel}

abbrev clear : List ℕ → List ℕ
clear text = without_comments Spef text

-- no comment begins in a text, inside a string or outside
unfoldable pub calm : Bool → List ℕ → Bool
calm inside [] = true
calm true (b ∷ bs) = calm (not (ends_string b)) bs
calm false (b ∷ []) = true
calm false (b ∷ c ∷ bs) =
    cond (eqb b 92) (calm false bs) (cond (eqb b 34) (calm true (c ∷ bs)) (cond (is_line_mark b c || is_block_mark b c) false (calm false (c ∷ bs))))

-- what a byte is, before another one
pub data Kind (b c : ℕ) : Type 0 where
  escapes : b ≡ 92 → Kind b c
  quotes : b ≡ 34 → Kind b c
  line : b ≡ 47 → c ≡ 47 → Kind b c
  block : b ≡ 47 → c ≡ 42 → Kind b c
  other : (b ≡ 92 → ⊥) → (b ≡ 34 → ⊥) → (b ≡ 47 → c ≡ 47 → ⊥) → (b ≡ 47 → c ≡ 42 → ⊥) → Kind b c

kind_by : (b c : ℕ) (p q r s t : Bool) → eqb b 92 ≡ p → eqb b 34 ≡ q → eqb b 47 ≡ r → eqb c 47 ≡ s → eqb c 42 ≡ t → Kind b c
kind_by b c true q r s t e f g h i = escapes (eq_of b 92 e)
kind_by b c false true r s t e f g h i = quotes (eq_of b 34 f)
kind_by b c false false false s t e f g h i = other (ne_of_false b 92 e) (ne_of_false b 34 f) (λ x y. ne_of_false b 47 g x) (λ x y. ne_of_false b 47 g x)
kind_by b c false false true true t e f g h i = line (eq_of b 47 g) (eq_of c 47 h)
kind_by b c false false true false true e f g h i = block (eq_of b 47 g) (eq_of c 42 i)
kind_by b c false false true false false e f g h i = other (ne_of_false b 92 e) (ne_of_false b 34 f) (λ x y. ne_of_false c 47 h y) (λ x y. ne_of_false c 42 i y)

pub kind_of : (b c : ℕ) → Kind b c
kind_of b c = kind_by b c (eqb b 92) (eqb b 34) (eqb b 47) (eqb c 47) (eqb c 42) refl refl refl refl refl

no_mark : (b c m : ℕ) (s t : Bool) → eqb b 47 ≡ s → eqb c m ≡ t → (b ≡ 47 → c ≡ m → ⊥) → (eqb b 47 && eqb c m) ≡ false
no_mark b c m false t e f h = ap (λ x. x && eqb c m) e
no_mark b c m true false e f h = ap (λ x. x && eqb c m) e ∙ f
no_mark b c m true true e f h = absurd (h (eq_of b 47 e) (eq_of c m f))

-- a byte that begins nothing
pub calm_plain : (b c : ℕ) (bs : List ℕ) → (b ≡ 92 → ⊥) → (b ≡ 34 → ⊥) → (b ≡ 47 → c ≡ 47 → ⊥) → (b ≡ 47 → c ≡ 42 → ⊥) → calm false (b ∷ c ∷ bs) ≡ calm false (c ∷ bs)
unfolding calm
calm_plain b c bs e f g h =
    ap (λ t. cond t (calm false bs) (cond (eqb b 34) (calm true (c ∷ bs)) (cond (is_line_mark b c || is_block_mark b c) false (calm false (c ∷ bs))))) (ne_test b 92 e)
    ∙ ap (λ t. cond t (calm true (c ∷ bs)) (cond (is_line_mark b c || is_block_mark b c) false (calm false (c ∷ bs)))) (ne_test b 34 f)
    ∙ ap (λ t. cond (t || is_block_mark b c) false (calm false (c ∷ bs))) (no_mark b c 47 (eqb b 47) (eqb c 47) refl refl g)
    ∙ ap (λ t. cond t false (calm false (c ∷ bs))) (no_mark b c 42 (eqb b 47) (eqb c 42) refl refl h)

pub calm_escape : (b c : ℕ) (bs : List ℕ) → b ≡ 92 → calm false (b ∷ c ∷ bs) ≡ calm false bs
unfolding calm
calm_escape b c bs e = ap (λ t. cond t (calm false bs) (cond (eqb b 34) (calm true (c ∷ bs)) (cond (is_line_mark b c || is_block_mark b c) false (calm false (c ∷ bs))))) (eq_test b 92 e)

pub calm_quote : (b c : ℕ) (bs : List ℕ) → b ≡ 34 → calm false (b ∷ c ∷ bs) ≡ calm true (c ∷ bs)
unfolding calm
calm_quote b c bs e = ap (λ x. calm false (x ∷ c ∷ bs)) e

pub calm_line : (b c : ℕ) (bs : List ℕ) → b ≡ 47 → c ≡ 47 → calm false (b ∷ c ∷ bs) ≡ false
unfolding calm
calm_line b c bs e f = λ i. calm false (e i ∷ f i ∷ bs)

pub calm_block : (b c : ℕ) (bs : List ℕ) → b ≡ 47 → c ≡ 42 → calm false (b ∷ c ∷ bs) ≡ false
unfolding calm
calm_block b c bs e f = λ i. calm false (e i ∷ f i ∷ bs)

-- a front of such a text is one
pub never : {A : Type 0} → true ≡ false → A
never e = absurd (cc)

pub calm_front : (inside : Bool) (xs ys : List ℕ) → calm inside (xs ++ ys) ≡ true → calm inside xs ≡ true
unfolding calm
calm_front inside [] ys h = refl
calm_front true (b ∷ xs) ys h = calm_front (not (ends_string b)) xs ys h
calm_front false (b ∷ []) ys h = refl
calm_front false (b ∷ c ∷ xs) ys h = elim (kind_of b c) as (λ _. calm false (b ∷ c ∷ xs) ≡ true) [
  | escapes e ↦ calm_escape b c xs e ∙ calm_front false xs ys (sym (calm_escape b c (xs ++ ys) e) ∙ h)
  | quotes e ↦ calm_quote b c xs e ∙ calm_front true (c ∷ xs) ys (sym (calm_quote b c (xs ++ ys) e) ∙ h)
  | line e f ↦ never (sym h ∙ calm_line b c (xs ++ ys) e f)
  | block e f ↦ never (sym h ∙ calm_block b c (xs ++ ys) e f)
  | other e f g i ↦ calm_plain b c xs e f g i ∙ calm_front false (c ∷ xs) ys (sym (calm_plain b c (xs ++ ys) e f g i) ∙ h)
]

-- ---- strings

-- a text that goes on in a string: where the string ends, if it does
record EndsString (xs : List ℕ) : Type 0 where
  front : List ℕ
  end : ℕ
  rest : List ℕ
  is : xs ≡ front ++ end ∷ rest
  open_front : list_all (λ b. not (ends_string b)) front ≡ true
  ended : ends_string end ≡ true

string_step : (b : ℕ) (bs : List ℕ) (t : Bool) → ends_string b ≡ t → (list_all (λ x. not (ends_string x)) bs ≡ true) ⊎ EndsString bs
    → (list_all (λ x. not (ends_string x)) (b ∷ bs) ≡ true) ⊎ EndsString (b ∷ bs)
string_step b bs true e more = inr (record { front = []; end = b; rest = bs; is = refl; open_front = refl; ended = e })
string_step b bs false e (inl none) = inl (ap (λ t. not t && list_all (λ x. not (ends_string x)) bs) e ∙ none)
string_step b bs false e (inr h) = inr (record {
  front = b ∷ h.front;
  end = h.end;
  rest = h.rest;
  is = ap (λ xs. b ∷ xs) h.is;
  open_front = ap (λ t. not t && list_all (λ x. not (ends_string x)) h.front) e ∙ h.open_front;
  ended = h.ended;
})

string_end : (xs : List ℕ) → (list_all (λ b. not (ends_string b)) xs ≡ true) ⊎ EndsString xs
string_end [] = inl refl
string_end (b ∷ bs) = string_step b bs (ends_string b) refl (string_end bs)

calm_string : (front : List ℕ) (end : ℕ) (rest : List ℕ) → list_all (λ b. not (ends_string b)) front ≡ true → ends_string end ≡ true
    → calm true (front ++ end ∷ rest) ≡ calm false rest
unfolding calm
calm_string [] end rest e f = ap (λ t. calm (not t) rest) f
calm_string (b ∷ front) end rest e f =
    let h = both_true (not (ends_string b)) (list_all (λ x. not (ends_string x)) front) e in
    ap (λ t. calm t (front ++ end ∷ rest)) h.0 ∙ calm_string front end rest h.1 f

calm_open : (xs : List ℕ) → list_all (λ b. not (ends_string b)) xs ≡ true → calm true xs ≡ true
unfolding calm
calm_open [] e = refl
calm_open (b ∷ xs) e =
    let h = both_true (not (ends_string b)) (list_all (λ x. not (ends_string x)) xs) e in
    ap (λ t. calm t xs) h.0 ∙ calm_open xs h.1

place_end : (front : List ℕ) (end : ℕ) (rest : List ℕ) → list_all (λ b. not (ends_string b)) front ≡ true → ends_string end ≡ true
    → position_or_len ends_string (front ++ end ∷ rest) ≡ length front
place_end [] end rest e f = ap (λ t. cond (not t) (1 + position_or_len ends_string rest) 0) f
place_end (b ∷ front) end rest e f =
    let h = both_true (not (ends_string b)) (list_all (λ x. not (ends_string x)) front) e in
    ap (λ t. cond t (1 + position_or_len ends_string (front ++ end ∷ rest)) 0) h.0 ∙ (let p = place_end front end rest h.1 f in omega (arith, p))

quoted_piece : (xs : List ℕ) (n : ℕ) → 0 < length xs → position_or_len ends_string xs ≡ n → piece_length (34 ∷ xs) ≡ n + 2
quoted_piece [] n l e = absurd (omega arith)
quoted_piece (c ∷ xs) n l e = omega (arith, e)

quoted_stays : (xs : List ℕ) → uncommented (34 ∷ xs) ≡ 34 ∷ xs
quoted_stays [] = refl
quoted_stays (c ∷ xs) = refl

take_through : (front : List ℕ) (end : ℕ) (rest : List ℕ) → take (length front + 2) (34 ∷ (front ++ end ∷ rest)) ≡ 34 ∷ (front ++ end ∷ [])
take_through front end rest =
    ap (λ xs. take (length front + 2) (34 ∷ xs)) (sym (append_assoc front (end ∷ []) rest))
    ∙ take_at (34 ∷ (front ++ end ∷ [])) rest (length front + 2) (omega (arith, length-append front (end ∷ [])))

drop_through : (front : List ℕ) (end : ℕ) (rest : List ℕ) → drop (length front + 2) (34 ∷ (front ++ end ∷ rest)) ≡ rest
drop_through front end rest =
    ap (λ xs. drop (length front + 2) (34 ∷ xs)) (sym (append_assoc front (end ∷ []) rest))
    ∙ drop_at (34 ∷ (front ++ end ∷ [])) rest (length front + 2) (omega (arith, length-append front (end ∷ [])))

-- a string stays, up to its end
clear_string : (front : List ℕ) (end : ℕ) (rest : List ℕ) → list_all (λ b. not (ends_string b)) front ≡ true → ends_string end ≡ true
    → clear (34 ∷ (front ++ end ∷ rest)) ≡ 34 ∷ (front ++ end ∷ clear rest)
clear_string front end rest e f =
    let xs = front ++ end ∷ rest in
    let n = quoted_piece xs (length front) (omega (arith, length-append front (end ∷ rest))) (place_end front end rest e f) in
    first_piece 34 xs
    ∙ ap (λ k. uncommented (take k (34 ∷ xs)) ++ clear (drop k (34 ∷ xs))) n
    ∙ (λ i. uncommented (take_through front end rest i) ++ clear (drop_through front end rest i))
    ∙ ap (λ ys. ys ++ clear rest) (quoted_stays (front ++ end ∷ []))
    ∙ ap (λ ys. 34 ∷ ys) (append_assoc front (end ∷ []) (clear rest))

-- ---- the first byte of a text outside strings

clear_plain : (b c : ℕ) (bs : List ℕ) → (b ≡ 92 → ⊥) → (b ≡ 34 → ⊥) → (b ≡ 47 → c ≡ 47 → ⊥) → (b ≡ 47 → c ≡ 42 → ⊥) → clear (b ∷ c ∷ bs) ≡ b ∷ clear (c ∷ bs)
clear_plain b c bs e f g h = sym (cleared_is (b ∷ c ∷ bs)) ∙ plain b c bs e f g h ∙ ap (λ z. b ∷ z) (cleared_is (c ∷ bs))

clear_escape : (b c : ℕ) (bs : List ℕ) → b ≡ 92 → clear (b ∷ c ∷ bs) ≡ b ∷ c ∷ clear bs
clear_escape b c bs e = sym (cleared_is (b ∷ c ∷ bs)) ∙ escape b c bs e ∙ ap (λ z. b ∷ c ∷ z) (cleared_is bs)

line_blank : (b c : ℕ) (bs : List ℕ) → b ≡ 47 → c ≡ 47 → get_or (clear (b ∷ c ∷ bs)) 0 0 ≡ 32
line_blank b c bs e f = ap (λ l. get_or l 0 0) (sym (cleared_is (b ∷ c ∷ bs)) ∙ line_mark b c bs e f)

block_blank : (b c : ℕ) (bs : List ℕ) → b ≡ 47 → c ≡ 42 → get_or (clear (b ∷ c ∷ bs)) 0 0 ≡ 32
block_blank b c bs e f = ap (λ l. get_or l 0 0) (sym (cleared_is (b ∷ c ∷ bs)) ∙ block_mark b c bs e f)

-- ---- texts that stay

-- a text that stays is calm
pub stays_calm : (n : ℕ) (text : List ℕ) → length text ≤ n → clear text ≡ text → calm false text ≡ true
unfolding calm
stays_calm n [] l e = refl
stays_calm n (b ∷ []) l e = refl
stays_calm zero (b ∷ c ∷ bs) l e = absurd (omega arith)
stays_calm (suc n) (b ∷ c ∷ bs) l e = elim (kind_of b c) as (λ _. calm false (b ∷ c ∷ bs) ≡ true) [
  | escapes k ↦ calm_escape b c bs k ∙ stays_calm n bs (omega (arith, l)) (cancel (b ∷ c ∷ []) (clear bs) bs (sym (clear_escape b c bs k) ∙ e))
  | quotes k ↦ calm_quote b c bs k ∙ elim (string_end (c ∷ bs)) as (λ _. calm true (c ∷ bs) ≡ true) [
    | inl none ↦ calm_open (c ∷ bs) none
    | inr h ↦ (
        let whole : clear (34 ∷ (h.front ++ h.end ∷ h.rest)) ≡ 34 ∷ (h.front ++ h.end ∷ h.rest) = (λ i. clear (sym k i ∷ sym h.is i)) ∙ e ∙ (λ i. k i ∷ h.is i) in
        let rest : clear h.rest ≡ h.rest =
        cancel (h.end ∷ []) (clear h.rest) h.rest
        (cancel h.front (h.end ∷ clear h.rest) (h.end ∷ h.rest) (ap (drop 1) (sym (clear_string h.front h.end h.rest h.open_front h.ended) ∙ whole))) in
        let len : length (c ∷ bs) ≡ length h.front + suc (length h.rest) = ap length h.is ∙ length-append h.front (h.end ∷ h.rest) in
        ap (calm true) h.is ∙ calm_string h.front h.end h.rest h.open_front h.ended ∙ stays_calm n h.rest (omega (arith, l, len)) rest)
  ]
  | line k m ↦ absurd (let z : b ≡ 32 = sym (ap (λ t. get_or t 0 0) e) ∙ line_blank b c bs k m in omega (arith, z, k))
  | block k m ↦ absurd (let z : b ≡ 32 = sym (ap (λ t. get_or t 0 0) e) ∙ block_blank b c bs k m in omega (arith, z, k))
  | other k m o p ↦ calm_plain b c bs k m o p ∙ stays_calm n (c ∷ bs) (omega (arith, l)) (cancel (b ∷ []) (clear (c ∷ bs)) (c ∷ bs) (sym (clear_plain b c bs k m o p) ∙ e))
]

ten_rest : (rest : List ℕ) → clear (10 ∷ rest) ≡ 10 ∷ clear rest
unfolding without_comments pieces some_pieces
ten_rest [] = refl
ten_rest (c ∷ rest) = clear_plain 10 c rest (λ e. omega (arith, e)) (λ e. omega (arith, e)) (λ e f. omega (arith, e)) (λ e f. omega (arith, e))

-- and a calm text stays, with a newline behind it, whatever follows
calm_stays : (n : ℕ) (text rest : List ℕ) → length text ≤ n → calm false text ≡ true → clear (text ++ 10 ∷ rest) ≡ text ++ 10 ∷ clear rest
calm_stays n [] rest l h = ten_rest rest
calm_stays n (b ∷ []) rest l h = elim (kind_of b 10) as (λ _. clear (b ∷ 10 ∷ rest) ≡ b ∷ 10 ∷ clear rest) [
  | escapes k ↦ clear_escape b 10 rest k
  | quotes k ↦ ap (λ x. clear (x ∷ 10 ∷ rest)) k ∙ clear_string [] 10 rest refl refl ∙ ap (λ x. x ∷ 10 ∷ clear rest) (sym k)
  | line k m ↦ absurd (omega (arith, m))
  | block k m ↦ absurd (omega (arith, m))
  | other k m o p ↦ clear_plain b 10 rest k m o p ∙ ap (λ z. b ∷ z) (ten_rest rest)
]
calm_stays zero (b ∷ c ∷ bs) rest l h = absurd (omega arith)
calm_stays (suc n) (b ∷ c ∷ bs) rest l h = elim (kind_of b c) as (λ _. clear (b ∷ c ∷ (bs ++ 10 ∷ rest)) ≡ b ∷ c ∷ (bs ++ 10 ∷ clear rest)) [
  | escapes k ↦ clear_escape b c (bs ++ 10 ∷ rest) k ∙ ap (λ z. b ∷ c ∷ z) (calm_stays n bs rest (omega (arith, l)) (sym (calm_escape b c bs k) ∙ h))
  | quotes k ↦ elim (string_end (c ∷ bs)) as (λ _. clear (b ∷ c ∷ (bs ++ 10 ∷ rest)) ≡ b ∷ c ∷ (bs ++ 10 ∷ clear rest)) [
    | inl none ↦ ap (λ x. clear (x ∷ c ∷ (bs ++ 10 ∷ rest))) k ∙ clear_string (c ∷ bs) 10 rest none refl ∙ ap (λ x. x ∷ c ∷ (bs ++ 10 ∷ clear rest)) (sym k)
    | inr s ↦ (
        let len : length (c ∷ bs) ≡ length s.front + suc (length s.rest) = ap length s.is ∙ length-append s.front (s.end ∷ s.rest) in
        let calm_rest : calm false s.rest ≡ true = sym (calm_string s.front s.end s.rest s.open_front s.ended) ∙ ap (calm true) (sym s.is) ∙ sym (calm_quote b c bs k) ∙ h in
        let more = calm_stays n s.rest rest (omega (arith, l, len)) calm_rest in
        ap (λ x. clear (x ∷ c ∷ (bs ++ 10 ∷ rest))) k
        ∙ ap (λ xs. clear (34 ∷ (xs ++ 10 ∷ rest))) s.is
        ∙ ap (λ xs. clear (34 ∷ xs)) (append_assoc s.front (s.end ∷ s.rest) (10 ∷ rest))
        ∙ clear_string s.front s.end (s.rest ++ 10 ∷ rest) s.open_front s.ended
        ∙ ap (λ z. 34 ∷ (s.front ++ s.end ∷ z)) more
        ∙ ap (λ xs. 34 ∷ xs) (sym (append_assoc s.front (s.end ∷ s.rest) (10 ∷ clear rest)))
        ∙ ap (λ xs. 34 ∷ (xs ++ 10 ∷ clear rest)) (sym s.is)
        ∙ ap (λ x. x ∷ c ∷ (bs ++ 10 ∷ clear rest)) (sym k))
  ]
  | line k m ↦ never (sym h ∙ calm_line b c bs k m)
  | block k m ↦ never (sym h ∙ calm_block b c bs k m)
  | other k m o p ↦ clear_plain b c (bs ++ 10 ∷ rest) k m o p ∙ ap (λ z. b ∷ z) (calm_stays n (c ∷ bs) rest (omega (arith, l)) (sym (calm_plain b c bs k m o p) ∙ h))
]

pub calm_line_stays : (text : List ℕ) → calm false text ≡ true → IsQuietLine text
calm_line_stays text h rest =
    ap clear (append_assoc text (10 ∷ []) rest) ∙ calm_stays (length text) text rest (omega arith) h ∙ sym (append_assoc text (10 ∷ []) (clear rest))

pub quiet_line_calm : (text : List ℕ) → IsQuietLine text → calm false text ≡ true
unfolding without_comments pieces some_pieces
quiet_line_calm text q =
    let line = text ++ 10 ∷ [] in
    let stays : clear line ≡ line = ap clear (sym (append-nil line)) ∙ q [] ∙ append-nil line in
    calm_front false text (10 ∷ []) (stays_calm (length line) line (omega arith) stays)

-- ---- bytes and lists, one after another

-- a byte that is nothing, inside a string and outside
pub record IsBare (b : ℕ) : Type 0 where
  pub escape : b ≡ 92 → ⊥
  pub quote : b ≡ 34 → ⊥
  pub slash : b ≡ 47 → ⊥
  pub newline : b ≡ 10 → ⊥

no_end : (b : ℕ) → IsBare b → ends_string b ≡ false
no_end b h = ap (λ t. t || eqb b 10) (ne_test b 34 h.quote) ∙ ne_test b 10 h.newline

pub calm_byte : (inside : Bool) (b : ℕ) (bs : List ℕ) → IsBare b → calm inside (b ∷ bs) ≡ calm inside bs
unfolding calm
calm_byte true b bs h = ap (λ t. calm (not t) bs) (no_end b h)
calm_byte false b [] h = refl
calm_byte false b (c ∷ bs) h = calm_plain b c bs h.escape h.quote (λ e _. h.slash e) (λ e _. h.slash e)

-- a text that is calm inside a string and outside
abbrev pub IsCalm : List ℕ → Type 0
IsCalm text = (inside : Bool) → calm inside text ≡ true

pub calm_nothing : IsCalm []
unfolding calm
calm_nothing true = refl
calm_nothing false = refl

pub calm_bare : (b : ℕ) (bs : List ℕ) → IsBare b → IsCalm bs → IsCalm (b ∷ bs)
calm_bare b bs h more inside = calm_byte inside b bs h ∙ more inside

pub calm_hidden : (b : ℕ) (bs : List ℕ) → IsCalm bs → IsCalm (92 ∷ b ∷ bs)
unfolding calm
calm_hidden b bs more true = more (not (ends_string b))
calm_hidden b bs more false = more false

-- such a text behind a blank
pub calm_more : (inside : Bool) (text more : List ℕ) → calm inside text ≡ true → IsCalm more → calm inside (text ++ 32 ∷ more) ≡ true
unfolding calm
calm_more inside [] more h m = calm_byte inside 32 more (record { escape = λ e. omega (arith, e); quote = λ e. omega (arith, e); slash = λ e. omega (arith, e); newline = λ e. omega (arith, e) }) ∙ m inside
calm_more true (b ∷ text) more h m = calm_more (not (ends_string b)) text more h m
calm_more false (b ∷ []) more h m = elim (kind_of b 32) as (λ _. calm false (b ∷ 32 ∷ more) ≡ true) [
  | escapes k ↦ calm_escape b 32 more k ∙ m false
  | quotes k ↦ calm_quote b 32 more k ∙ m true
  | line k e ↦ absurd (omega (arith, e))
  | block k e ↦ absurd (omega (arith, e))
  | other k e f g ↦ calm_plain b 32 more k e f g ∙ calm_more false [] more refl m
]
calm_more false (b ∷ c ∷ text) more h m = elim (kind_of b c) as (λ _. calm false (b ∷ c ∷ (text ++ 32 ∷ more)) ≡ true) [
  | escapes k ↦ calm_escape b c (text ++ 32 ∷ more) k ∙ calm_more false text more (sym (calm_escape b c text k) ∙ h) m
  | quotes k ↦ calm_quote b c (text ++ 32 ∷ more) k ∙ calm_more true (c ∷ text) more (sym (calm_quote b c text k) ∙ h) m
  | line k e ↦ never (sym h ∙ calm_line b c text k e)
  | block k e ↦ never (sym h ∙ calm_block b c text k e)
  | other k e f g ↦ calm_plain b c (text ++ 32 ∷ more) k e f g ∙ calm_more false (c ∷ text) more (sym (calm_plain b c text k e f g) ∙ h) m
]
