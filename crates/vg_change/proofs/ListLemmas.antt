-- Lists that are made one after another.
use Rattle.std.proofs.Common.{◌≡◌, ℕ, ◌+◌, ◌-◌, ◌≤◌, List, [], ◌∷◌, ◌++◌, map, refl, sym, ap, ◌∙◌, arith}
use Rattle.std.specs.List.{flat_map, range_with_len}
use Rattle.std.proofs.lemmas.Grind.{flat_map-append}
use Rattle.std.proofs.lemmas.List.{append-nil, append_assoc}
use Rattle.std.proofs.lemmas.List.FromFn.{map-range_with_len_more}

-- what is made of the numbers from 1 on, with one number more
pub made_more : {X : Type 0} (f : ℕ → X) (old : List X) (x : X) (n : ℕ) → 1 ≤ n → x ≡ f n
    → (old ++ map f (range_with_len 1 (n - 1))) ++ x ∷ [] ≡ old ++ map f (range_with_len 1 (n + 1 - 1))
made_more f old x n some is =
    append_assoc old (map f (range_with_len 1 (n - 1))) (x ∷ [])
    ∙ ap (λ xs. old ++ xs)
    (ap (λ y. map f (range_with_len 1 (n - 1)) ++ y ∷ []) is ∙ sym (map-range_with_len_more f 1 (n - 1) n (omega (arith, some)))
    ∙ ap (λ k. map f (range_with_len 1 k)) (let e : n - 1 + 1 ≡ n + 1 - 1 = omega (arith, some) in e))

mapped_itself : (xs : List ℕ) → map (λ (k : ℕ). k) xs ≡ xs
mapped_itself [] = refl
mapped_itself (x ∷ xs) = ap (λ ys. x ∷ ys) (mapped_itself xs)

numbers_more : (n : ℕ) → range_with_len 0 (n + 1) ≡ range_with_len 0 n ++ n ∷ []
numbers_more n =
    sym (mapped_itself (range_with_len 0 (n + 1))) ∙ map-range_with_len_more (λ (k : ℕ). k) 0 n n (omega arith)
    ∙ ap (λ xs. xs ++ n ∷ []) (mapped_itself (range_with_len 0 n))

-- what each of the numbers from 0 on gives, with one number more
pub flat_more : {X : Type 0} (f : ℕ → List X) (old : List X) (n : ℕ)
    → (old ++ flat_map f (range_with_len 0 n)) ++ f n ≡ old ++ flat_map f (range_with_len 0 (n + 1))
flat_more f old n =
    append_assoc old (flat_map f (range_with_len 0 n)) (f n)
    ∙ ap (λ xs. old ++ xs) (sym (ap (flat_map f) (numbers_more n) ∙ flat_map-append f (range_with_len 0 n) (n ∷ []) ∙ ap (λ ys. flat_map f (range_with_len 0 n) ++ ys) (append-nil (f n))))
