-- A text of which the end is replaced, and what is found in its front.
use Rattle.std.proofs.Common.{◌≡◌, ℕ, zero, suc, ◌+◌, ◌-◌, ◌<◌, ◌≤◌, Bool, true, false, not, cond, ◌==◌, ◌&&◌, List, [], ◌∷◌, ◌++◌, map, length, take, drop, get_or, refl, ap, ◌∙◌, arith}
use Rattle.std.proofs.lemmas.Bool.Decides.{nat_tests}
use Rattle.std.specs.List.{position_or_len}
use Rattle.vg_scan.specs.Comments.{through_block, blanked}
use Rattle.vg_scan.specs.Printed.{is_solid}

pub take_front : (k at : ℕ) (text xs : List ℕ) → k ≤ at → at ≤ length text → take k (take at text ++ xs) ≡ take k text
take_front zero at text xs l m = refl
take_front (suc k) zero text xs l m = absurd (omega arith)
take_front (suc k) (suc at) [] xs l m = absurd (omega arith)
take_front (suc k) (suc at) (b ∷ bs) xs l m = ap (λ ys. b ∷ ys) (take_front k at bs xs (omega arith) (omega arith))

pub drop_front : (k at : ℕ) (text xs : List ℕ) → k ≤ at → at ≤ length text → drop k (take at text ++ xs) ≡ take (at - k) (drop k text) ++ xs
drop_front zero at text xs l m = let e : at ≡ at - 0 = omega arith in ap (λ n. take n text ++ xs) e
drop_front (suc k) zero text xs l m = absurd (omega arith)
drop_front (suc k) (suc at) [] xs l m = absurd (omega arith)
drop_front (suc k) (suc at) (b ∷ bs) xs l m =
    let e : at - k ≡ suc at - suc k = omega arith in
    drop_front k at bs xs (omega arith) (omega arith) ∙ ap (λ n. take n (drop k bs) ++ xs) e

pub get_front : (m : ℕ) (xs ys : List ℕ) (j : ℕ) → j < m → j < length xs → get_or (take m xs ++ ys) j 0 ≡ get_or xs j 0
get_front zero xs ys j l h = absurd (omega arith)
get_front (suc m) [] ys j l h = absurd (omega arith)
get_front (suc m) (b ∷ bs) ys zero l h = refl
get_front (suc m) (b ∷ bs) ys (suc j) l h = get_front m bs ys j (omega arith) (omega arith)

-- the first place that passes stays where the text goes on otherwise behind it
pub position_front : (p : ℕ → Bool) (n : ℕ) (xs ys : List ℕ) → position_or_len p xs < n → n ≤ length xs
    → position_or_len p (take n xs ++ ys) ≡ position_or_len p xs
position_front p zero xs ys l m = absurd (omega arith)
position_front p (suc n) [] ys l m = absurd (omega arith)
position_front p (suc n) (x ∷ xs) ys l m = step (p x) (position_front p n xs ys) l (omega arith)
  where
    step : (t : Bool) → (position_or_len p xs < n → n ≤ length xs → position_or_len p (take n xs ++ ys) ≡ position_or_len p xs)
        → cond (not t) (1 + position_or_len p xs) 0 < suc n → n ≤ length xs
        → cond (not t) (1 + position_or_len p (take n xs ++ ys)) 0 ≡ cond (not t) (1 + position_or_len p xs) 0
    step true more l m = refl
    step false more l m = (let e = more (omega arith) m in omega (arith, e))

-- so does the end of a comment
pub block_front : (n : ℕ) (xs ys : List ℕ) → through_block xs ≤ n → n < length xs → through_block (take n xs ++ ys) ≡ through_block xs
block_front n [] ys l m = absurd (omega arith)
block_front zero (b ∷ []) ys l m = absurd (omega arith)
block_front (suc n) (b ∷ []) ys l m = absurd (omega arith)
block_front zero (b ∷ c ∷ xs) ys l m = absurd (some ((b == 42) && (c == 47)) (through_block (c ∷ xs)) l)
  where
    some : (t : Bool) (n : ℕ) → cond t 2 (n + 1) ≤ 0 → ⊥
    some true n l = absurd (omega arith)
    some false n l = absurd (omega arith)
block_front (suc zero) (b ∷ c ∷ xs) ys l m = absurd (more ((b == 42) && (c == 47)) (through_block (c ∷ xs)) (block_some c xs) l)
  where
    more : (t : Bool) (n : ℕ) → 0 < n → cond t 2 (n + 1) ≤ 1 → ⊥
    more true n h l = absurd (omega arith)
    more false n h l = absurd (omega arith)

    block_some : (c : ℕ) (xs : List ℕ) → 0 < through_block (c ∷ xs)
    block_some c [] = omega arith
    block_some c (d ∷ xs) = either ((c == 42) && (d == 47)) (through_block (d ∷ xs))
      where
        either : (t : Bool) (n : ℕ) → 0 < cond t 2 (n + 1)
        either true n = omega arith
        either false n = omega arith
block_front (suc (suc n)) (b ∷ c ∷ xs) ys l m = step ((b == 42) && (c == 47)) (block_front (suc n) (c ∷ xs) ys) l (omega arith)
  where
    step : (t : Bool) → (through_block (c ∷ xs) ≤ suc n → suc n < length (c ∷ xs) → through_block (take (suc n) (c ∷ xs) ++ ys) ≡ through_block (c ∷ xs))
        → cond t 2 (through_block (c ∷ xs) + 1) ≤ suc (suc n) → suc n < length (c ∷ xs)
        → cond t 2 (through_block (take (suc n) (c ∷ xs) ++ ys) + 1) ≡ cond t 2 (through_block (c ∷ xs) + 1)
    step true more l m = refl
    step false more l m = (let e = more (omega arith) m in omega (arith, e))

blanked_solid : (b : ℕ) → is_solid (blanked b) ≡ false
blanked_solid b = grind (arith, nat_tests)

-- nothing is solid in a comment
pub blanked_front : (m : ℕ) (xs ys : List ℕ) (j : ℕ) → j < m → j < length xs → is_solid (get_or (map blanked (take m xs) ++ ys) j 0) ≡ false
blanked_front zero xs ys j l h = absurd (omega arith)
blanked_front (suc m) [] ys j l h = absurd (omega arith)
blanked_front (suc m) (b ∷ bs) ys zero l h = blanked_solid b
blanked_front (suc m) (b ∷ bs) ys (suc j) l h = blanked_front m bs ys j (omega arith) (omega arith)

-- behind the bytes before the first byte that passes stands this byte
pub passing_at : (p : ℕ → Bool) (xs : List ℕ) → position_or_len p xs < length xs
    → (b : ℕ) × (rest : List ℕ) × (drop (position_or_len p xs) xs ≡ b ∷ rest) × (p b ≡ true)
passing_at p [] l = absurd (omega arith)
passing_at p (x ∷ xs) l = step (p x) refl (passing_at p xs) l
  where
    step : (t : Bool) → p x ≡ t → (position_or_len p xs < length xs → (b : ℕ) × (rest : List ℕ) × (drop (position_or_len p xs) xs ≡ b ∷ rest) × (p b ≡ true))
        → cond (not t) (1 + position_or_len p xs) 0 < suc (length xs)
        → (b : ℕ) × (rest : List ℕ) × (drop (cond (not t) (1 + position_or_len p xs) 0) (x ∷ xs) ≡ b ∷ rest) × (p b ≡ true)
    step true e more l = (x, xs, refl, e)
    step false e more l =
        let (b, rest, is, passes) = more (omega arith) in
        let k : 1 + position_or_len p xs ≡ suc (position_or_len p xs) = omega arith in
        (b, rest, ap (λ n. drop n (x ∷ xs)) k ∙ is, passes)
