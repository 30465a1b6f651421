-- The pieces of a library's text.
use Rattle.std.proofs.Common.{◌≡◌, ℕ, zero, suc, ◌+◌, ◌-◌, ◌<◌, ◌≤◌, Bool, true, false, cond, ◌||◌, ◌==◌, List, [], ◌∷◌, ◌++◌, length, take, take_all, drop, get_or, refl, sym, ap, ◌∙◌, arith, length-drop, add-one, drop-cons, if◌then◌else◌}
use Rattle.std.specs.List.{flat_map}
use Rattle.std.proofs.lemmas.List.{drop_all}
use Rattle.std.proofs.lemmas.Bool.Decides.{nat_tests}
use Rattle.vg_scan.specs.Pieces.{is_mark}
use Rattle.vg_scan.specs.Comments.{is_block_mark, through_block}
use Rattle.vg_scan.specs.LibertyComments.{continues, ends_string_in, through_string_in, liberty_piece_length, some_liberty_pieces, liberty_pieces, is_block, unblocked, without_liberty_comments}

-- ---- strings, byte by byte

module _ (continued : Bool) where
  string_at : (bs : List ℕ) (i : ℕ) → i < length bs
      → through_string_in continued (drop i bs)
      ≡ (if ends_string_in continued (get_or bs i 0) then 1 else suc (through_string_in (continues continued (get_or bs i 0) (drop (i + 1) bs)) (drop (i + 1) bs)))
  unfolding through_string_in
  string_at bs i h = rw (drop-cons bs i 0 h, add-one) refl

  string_nil : through_string_in continued [] ≡ 0
  unfolding through_string_in
  string_nil = refl

  pub string_over : (bs : List ℕ) (i n : ℕ) → i < length bs → ends_string_in continued (get_or bs i 0) ≡ true
      → n ≡ i + through_string_in continued (drop i bs) → i + 1 ≡ n
  string_over bs i n h t e = let f = string_at bs i h in omega (arith, rw t at f)

  pub string_more : (bs : List ℕ) (i n : ℕ) → i < length bs → ends_string_in continued (get_or bs i 0) ≡ false
      → n ≡ i + through_string_in continued (drop i bs) → n ≡ (i + 1) + through_string_in (continues continued (get_or bs i 0) (drop (i + 1) bs)) (drop (i + 1) bs)
  string_more bs i n h t e = let f = string_at bs i h in omega (arith, rw t at f)

  pub string_end : (bs : List ℕ) (i n : ℕ) → length bs ≤ i → n ≡ i + through_string_in continued (drop i bs) → i ≡ n
  string_end bs i n h e = omega (arith, rw (drop_all i bs h, string_nil) at e)

pub all_after : (bs : List ℕ) (i : ℕ) → take (length bs - i) (drop i bs) ≡ drop i bs
all_after bs i = take_all (length bs - i) (drop i bs) (omega (arith, length-drop i bs))

-- ---- pieces

pub eq_of : (a b : ℕ) → (a == b) ≡ true → a ≡ b
eq_of a b e = grind (arith, nat_tests)

pub choose : (P : ℕ → Type 0) (t : Bool) (x y : ℕ) → (t ≡ true → P x) → (t ≡ false → P y) → P (cond t x y)
choose P true x y f g = f refl
choose P false x y f g = g refl

pub some : (b : ℕ) (bs : List ℕ) → 0 < liberty_piece_length (b ∷ bs)
some b [] = omega arith
some b (c ∷ bs) =
    choose (λ k. 0 < k) (b == 92) _ _ (λ _. omega arith) (λ _.
    choose (λ k. 0 < k) (b == 34) _ _ (λ _. omega arith) (λ _.
    choose (λ k. 0 < k) (is_block_mark b c) _ _ (λ _. omega arith) (λ _. omega arith)))

pub no_block : (b : ℕ) (xs : List ℕ) → b ≡ 34 → is_block (b ∷ xs) ≡ false
no_block b [] e = refl
no_block b (c ∷ xs) e = rw e refl

-- a piece is a comment where the text begins with one
pub by_mark : (b : ℕ) (bs : List ℕ) → is_block (take (liberty_piece_length (b ∷ bs)) (b ∷ bs)) ≡ is_block (b ∷ bs)
by_mark b [] = refl
by_mark b (c ∷ bs) =
    let P : ℕ → Type 0 = λ k. is_block (take k (b ∷ c ∷ bs)) ≡ is_block_mark b c in
    choose P (b == 92) _ _ (λ _. refl) (λ _.
    choose P (b == 34) _ _
    (λ e.
    let n = through_string_in false (c ∷ bs) in
    let k : 1 + n ≡ suc n = omega arith in
    rw k (no_block b (take n (c ∷ bs)) (eq_of b 34 e) ∙ sym (no_block b (c ∷ bs) (eq_of b 34 e)))) (λ _.
    choose P (is_block_mark b c) _ _
    (λ e. let k : 2 + through_block bs ≡ suc (suc (through_block bs)) = omega arith in rw k refl) (λ e. sym e)))

enough : (n m : ℕ) (text : List ℕ) → length text ≤ n → length text ≤ m → some_liberty_pieces n text ≡ some_liberty_pieces m text
unfolding some_liberty_pieces
enough zero zero [] h l = refl
enough zero (suc m) [] h l = refl
enough (suc n) zero [] h l = refl
enough (suc n) (suc m) [] h l = refl
enough zero m (b ∷ bs) h l = absurd (omega arith)
enough (suc n) zero (b ∷ bs) h l = absurd (omega arith)
enough (suc n) (suc m) (b ∷ bs) h l =
    let k = liberty_piece_length (b ∷ bs) in
    let shorter = length-drop k (b ∷ bs) in
    let one_at_least = some b bs in
    ap (λ xs. take k (b ∷ bs) ∷ xs) (enough n m (drop k (b ∷ bs)) (omega (arith, shorter, one_at_least)) (omega (arith, shorter, one_at_least)))

pub nothing : without_liberty_comments [] ≡ []
unfolding without_liberty_comments liberty_pieces some_liberty_pieces
nothing = refl

-- the first piece of a text, and its rest
pub first_piece : (b : ℕ) (bs : List ℕ) (k : ℕ) → k ≡ liberty_piece_length (b ∷ bs)
    → without_liberty_comments (b ∷ bs) ≡ unblocked (take k (b ∷ bs)) ++ without_liberty_comments (drop k (b ∷ bs))
unfolding without_liberty_comments liberty_pieces some_liberty_pieces
first_piece b bs k e =
    let shorter = length-drop k (b ∷ bs) in
    let one_at_least = some b bs in
    rw (← e) (ap (λ xs. unblocked (take k (b ∷ bs)) ++ flat_map unblocked xs) (enough (length bs) (length (drop k (b ∷ bs))) (drop k (b ∷ bs)) (omega (arith, shorter, one_at_least, e)) (omega arith)))

pub neither : (x y : Bool) → (x || y) ≡ false → (x ≡ false) × (y ≡ false)
neither true y e = absurd (cc)
neither false y e = (refl, e)

pub plain_length : (b : ℕ) (bs : List ℕ) → is_mark b ≡ false → 1 ≡ liberty_piece_length (b ∷ bs)
plain_length b [] e = refl
plain_length b (c ∷ bs) e =
    let (g, k) = neither ((b == 92) || (b == 34)) (b == 47) e in
    let (f, h) = neither (b == 92) (b == 34) g in
    rw (f, h, k) refl
