-- Sums over the way down from a node.
use Rattle.std.proofs.Common.{◌≡◌, ◌≢◌, ℕ, ◌+◌, true, ap, ◌∙◌, arith}
use Rattle.std.proofs.lemmas.List.Sums.{sum_by-cons}
use Rattle.std.specs.List.{sum_by}
use Rattle.elmore.specs.Path.{Falls, is_over, way}
use Rattle.elmore.proofs.PathLemmas.{under, over_le, way_self, way_below}

pub way_sum_self : (parent : ℕ → ℕ) → Falls parent → (f : ℕ → ℕ) (v : ℕ) → sum_by f (way parent v v) ≡ 0
way_sum_self parent falls f v = ap (sum_by f) (way_self parent falls v)

pub way_sum_below : (parent : ℕ → ℕ) → Falls parent → (f : ℕ → ℕ) (v w : ℕ) → parent w ≢ w → w ≢ v
    → sum_by f (way parent v w) ≡ f w + sum_by f (way parent v (parent w))
way_sum_below parent falls f v w below other =
    ap (sum_by f) (way_below parent falls v w below other) ∙ sum_by-cons f w (way parent v (parent w))

-- by way of a node between
pub way_sum_through : (parent : ℕ → ℕ) → Falls parent → (f : ℕ → ℕ) (v u w : ℕ) → is_over parent v u ≡ true → is_over parent u w ≡ true
    → sum_by f (way parent v w) ≡ sum_by f (way parent u w) + sum_by f (way parent v u)
way_sum_through parent falls f v u w v_u =
    under parent falls (λ x. sum_by f (way parent v x) ≡ sum_by f (way parent u x) + sum_by f (way parent v u)) u
    (omega (arith, way_sum_self parent falls f u))
    (λ x x_u b under_u _ more.
    let x_v : x ≢ v = λ e. x_u (omega (arith, over_le parent falls v u v_u, over_le parent falls u x under_u)) in
    omega (arith, more, way_sum_below parent falls f v x b x_v, way_sum_below parent falls f u x b x_u))
    w

-- two functions that are alike at the nodes below v
pub way_sum_alike : (parent : ℕ → ℕ) → Falls parent → (v : ℕ) (f g : ℕ → ℕ) → ((u : ℕ) → is_over parent v u ≡ true → u ≢ v → f u ≡ g u)
    → (w : ℕ) → is_over parent v w ≡ true → sum_by f (way parent v w) ≡ sum_by g (way parent v w)
way_sum_alike parent falls v f g same =
    under parent falls (λ w. sum_by f (way parent v w) ≡ sum_by g (way parent v w)) v
    (omega (arith, way_sum_self parent falls f v, way_sum_self parent falls g v))
    (λ w w_v b over _ more.
    omega (arith, more, same w over w_v, way_sum_below parent falls f v w b w_v, way_sum_below parent falls g v w b w_v))
