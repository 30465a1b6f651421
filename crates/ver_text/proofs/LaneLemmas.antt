-- From the mask of one load to the bytes that pass a test.
use Rattle.std.proofs.Common.{◌≡◌, ◌≢◌, ℕ, zero, suc, ◌+◌, ◌%◌, ◌^◌, ◌<◌, ◌≤◌, Bool, true, not, List, [], ◌∷◌, ◌++◌, map, length, get_or, take, drop, Fits, w8, refl, sym, ap, ap₂, ◌∙◌, arith, inl, inr}
use Rattle.std.proofs.lemmas.Bool.{agree_below, agree_below_at, cases_eq, eq-eqb, ne_eqb, cond-true, cond-false}
use Rattle.std.proofs.lemmas.Simd.{map-map, mask_l-mod, length-chunk, chunk-drop, leading_from_mask_l, trailing_mask_l}
use Rattle.std.proofs.lemmas.List.{length-map, get_or-drop}
use Rattle.std.proofs.lemmas.List.Folds.{prefix_len-append}
use Rattle.std.proofs.lemmas.List.Sums.{prefix_len-le-length}
use Rattle.std.specs.List.{prefix_len}
use lib.Lanes.{chunk, zip2, mask_l, top}
use Rattle.ver_text.specs.Found.{first_set}

zip2-map : (h : ℕ → ℕ → ℕ) (f g : ℕ → ℕ) (xs : List ℕ) → zip2 h (map f xs) (map g xs) ≡ map (λ x. h (f x) (g x)) xs
zip2-map h f g [] = refl
zip2-map h f g (x ∷ xs) = ap (λ r. h (f x) (g x) ∷ r) (zip2-map h f g xs)

-- an operation on two vectors that were computed lane by lane from v
pub joined : (h : ℕ → ℕ → ℕ) (f g : ℕ → ℕ) (v : List ℕ) {a b : List ℕ} → a ≡ map f v → b ≡ map g v → zip2 h a b ≡ map (λ x. h (f x) (g x)) v
joined h f g v p q = ap₂ (zip2 h) p q ∙ zip2-map h f g v

pub itself : (v : List ℕ) → v ≡ map (λ x. x) v
itself [] = refl
itself (x ∷ xs) = ap (λ r. x ∷ r) (itself xs)

run_is : (p : ℕ → Bool) (v : List ℕ) → length v ≡ 16 → first_set (mask_l (map p v)) ≡ prefix_len (λ x. not (p x)) v
run_is p v long =
    elim (cases_eq (mask_l (map p v)) 0) [
      | inl none ↦ cond-true _ _ _ (eq-eqb _ _ none) ∙ sym (leading_from_mask_l p v none ∙ long)
      | inr some ↦ cond-false _ _ _ (ne_eqb _ _ some) ∙ trailing_mask_l p 64 v (omega arith) (omega arith)
    ]

-- tests that agree on bytes
same_run : (f g : ℕ → Bool) (v : List ℕ) → agree_below f g 256 ≡ true → ((k : ℕ) → get_or v k 0 < 256) → prefix_len f v ≡ prefix_len g v
same_run f g [] all small = refl
same_run f g (x ∷ xs) all small =
    let here : f x ≡ g x = agree_below_at f g 256 x all (small 0) in
    let rest : prefix_len f xs ≡ prefix_len g xs = same_run f g xs all (λ k. small (suc k)) in
    rw (here, rest) refl

none_small : (k : ℕ) → get_or [] k 0 < 256
none_small zero = omega arith
none_small (suc k) = omega arith

take_small : (n : ℕ) (v : List ℕ) → ((k : ℕ) → get_or v k 0 < 256) → (k : ℕ) → get_or (take n v) k 0 < 256
take_small zero v small k = none_small k
take_small (suc n) [] small k = none_small k
take_small (suc n) (x ∷ xs) small zero = small 0
take_small (suc n) (x ∷ xs) small (suc k) = take_small n xs (λ j. small (suc j)) k

module _ (q : ℕ → Bool) (d : List ℕ) (i r : ℕ) (z : List ℕ) (room : i + 16 ≤ length d)
    (fits : (k : ℕ) → Fits w8 (get_or d k 0)) (found : r ≡ first_set (mask_l (map (top 7) z) % 2 ^ 64))
    (f : ℕ → ℕ) (lanes : z ≡ map f (chunk i 16 d)) where
  abbrev stops : ℕ → Bool
  stops x = top 7 (f x)

  small : (k : ℕ) → get_or (chunk i 16 d) k 0 < 256
  small = take_small 16 (drop i d) (λ k. let e = get_or-drop i d k 0 in rw e (fits (i + k)).fits)

  -- a lane stops just where q fails
  pub run_in : agree_below (λ x. not (stops x)) q 256 ≡ true → r ≡ prefix_len q (chunk i 16 d)
  run_in all =
      let v = chunk i 16 d in
      let long : length v ≡ 16 = length-chunk i 16 d room in
      let mask = ap (λ l. mask_l l % 2 ^ 64) (ap (map (top 7)) lanes ∙ map-map (top 7) f v) ∙ mask_l-mod (map stops v) 64 (omega (arith, length-map v stops, long)) in
      found ∙ ap (λ m. first_set m) mask ∙ run_is stops v long ∙ same_run (λ x. not (stops x)) q v all small

module _ (q : ℕ → Bool) (d : List ℕ) (i r : ℕ) (room : i + 16 ≤ length d) (run : r ≡ prefix_len q (chunk i 16 d)) where
  whole : prefix_len q (drop i d) ≡ prefix_len q (chunk i 16 d ++ drop (i + 16) d)
  whole = ap (prefix_len q) (chunk-drop i 16 d)

  long : length (chunk i 16 d) ≡ 16
  long = length-chunk i 16 d room

  -- the run ends in the load
  pub ends_in : r < 16 → i + r ≡ i + prefix_len q (drop i d)
  ends_in short =
      let other : prefix_len q (chunk i 16 d) ≢ length (chunk i 16 d) = omega (arith, long, run) in
      let e : prefix_len q (drop i d) ≡ prefix_len q (chunk i 16 d) =
      whole ∙ prefix_len-append q (chunk i 16 d) (drop (i + 16) d) ∙ cond-false _ _ _ (ne_eqb _ _ other) in
      omega (arith, e, run)

  -- the run goes on after it
  pub goes_past : 16 ≤ r → prefix_len q (drop i d) ≡ 16 + prefix_len q (drop (i + 16) d)
  goes_past far =
      let near : prefix_len q (chunk i 16 d) ≤ length (chunk i 16 d) = prefix_len-le-length q (chunk i 16 d) in
      let same : prefix_len q (chunk i 16 d) ≡ length (chunk i 16 d) = omega (arith, long, run, near) in
      let e : prefix_len q (drop i d) ≡ length (chunk i 16 d) + prefix_len q (drop (i + 16) d) =
      whole ∙ prefix_len-append q (chunk i 16 d) (drop (i + 16) d) ∙ cond-true _ _ _ (eq-eqb _ _ same) in
      omega (arith, e, long)
