-- A sum over numbers, by what each of them belongs to.
use Rattle.std.proofs.Common.{◌≡◌, ℕ, ◌<◌, sym, ◌∙◌, eqb, cond, arith}
use Rattle.std.specs.List.{sum_by}
use Rattle.elmore.specs.Path.{nodes}
use Rattle.elmore.proofs.SumLemmas.{sum_of_sums, sum_of_alike, sum_at}

-- each x below m belongs to one number below n
pub sum_by_owner : (owner : ℕ → ℕ) (m n : ℕ) → ((x : ℕ) → x < m → owner x < n) → (f : ℕ → ℕ)
    → sum_by f (nodes m) ≡ sum_by (λ u. sum_by (λ x. cond (eqb u (owner x)) (f x) 0) (nodes m)) (nodes n)
sum_by_owner owner m n within f =
    sum_of_alike f (λ x. sum_by (λ u. cond (eqb u (owner x)) (f x) 0) (nodes n)) m
    (λ x x_m. sym (sum_at (λ _. f x) (owner x) 0 n (omega arith) (omega (arith, within x x_m))))
    ∙ sum_of_sums (λ x u. cond (eqb u (owner x)) (f x) 0) (nodes m) (nodes n)
