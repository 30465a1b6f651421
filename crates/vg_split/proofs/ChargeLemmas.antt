-- The capacitances of a stage are no more than those of the net.
use Rattle.std.proofs.Common.{◌≡◌, ◌≢◌, ℕ, suc, ◌+◌, ◌<◌, ◌≤◌, ◌^◌, ◌==◌, ◌&&◌, ◌||◌, not, Bool, true, false, cond, List, [], ◌∷◌, length, map, slice_index, take, refl, sym, ap, ◌∙◌, arith}
use Rattle.std.specs.List.{filter, sum_by, AllPairs, Contains}
use Rattle.std.proofs.lemmas.Bool.{ne_eqb}
use Rattle.std.proofs.lemmas.Bool.Decides.{nat_tests}
use Rattle.std.proofs.lemmas.List.{take_more}
use Rattle.std.proofs.lemmas.List.Sums.{sum_by-append, sum_by-cons, sum_by_more_le}
use Rattle.vg_split.specs.Stages.{members}
use Rattle.spef_write.specs.Sections.{total, total_at}
use Rattle.vg_split.specs.Conditions.{IsSplit}
use Rattle.vg_split.specs.Splits.{Split, cap_in, forest, head, is_celled}
use Rattle.vg_split.specs.Steps.{cap_row, is_own}
use Rattle.vg_split.proofs.MemberLemmas.{members_low, members_rise}
use Rattle.vg_split.proofs.PlaceLemmas.{later}

-- capacitors at a number, the first one apart
pub total_at_cons : (cap : ℕ × ℕ) (caps : List (ℕ × ℕ)) (k : ℕ) → total_at (cap ∷ caps) k ≡ cond (cap.0 == k) cap.1 0 + total_at caps k
total_at_cons cap caps k = either (cap.0 == k)
  where
    either : (t : Bool) → total (cond t (cap ∷ filter (λ c. c.0 == k) caps) (filter (λ c. c.0 == k) caps)) ≡ cond t cap.1 0 + total_at caps k
    either true = sum_by-cons (λ (c : ℕ × ℕ). c.1) cap (filter (λ c. c.0 == k) caps)
    either false = let z : total_at caps k ≡ 0 + total_at caps k = omega arith in z

module _ (own : ℕ → Bool) (key : ℕ → ℕ) where
  -- what is there of the nodes that count
  weigh : (ℕ → ℕ) → List ℕ → ℕ
  weigh f [] = 0
  weigh f (w ∷ ws) = cond (own w) (f w) 0 + weigh f ws

  both : (f g h : ℕ → ℕ) → ((w : ℕ) → f w ≡ g w + h w) → (ws : List ℕ) → weigh f ws ≡ weigh g ws + weigh h ws
  unfolding weigh
  both f g h e [] = refl
  both f g h e (w ∷ ws) = either (own w) (both f g h e ws)
    where
      either : (t : Bool) → weigh f ws ≡ weigh g ws + weigh h ws → cond t (f w) 0 + weigh f ws ≡ (cond t (g w) 0 + weigh g ws) + (cond t (h w) 0 + weigh h ws)
      either true i = omega (arith, i, e w)
      either false i = omega (arith, i)

  nowhere : (n : ℕ → ℕ) (ws : List ℕ) → ((w : ℕ) → Contains ws w → n w ≡ 0) → weigh n ws ≡ 0
  unfolding weigh
  nowhere n [] none = refl
  nowhere n (w ∷ ws) none = either (own w) (nowhere n ws (λ v there. none v (later w v ws there))) (none w (0, omega arith, refl))
    where
      either : (t : Bool) → weigh n ws ≡ 0 → n w ≡ 0 → cond t (n w) 0 + weigh n ws ≡ 0
      either true i z = omega (arith, i, z)
      either false i z = omega (arith, i)

  -- one capacitor is at one node at most
  once : (cap : ℕ × ℕ) (ws : List ℕ) → AllPairs (λ a b. key a ≢ key b) ws → weigh (λ w. cond (cap.0 == key w) cap.1 0) ws ≤ cap.1
  unfolding weigh
  once cap [] apart = omega arith
  once cap (w ∷ ws) apart =
      either (own w) (cap.0 == key w) refl (once cap ws (λ i j d less low. apart (suc i) (suc j) d (omega (arith, less)) (omega (arith, low))))
    where
      none : cap.0 ≡ key w → weigh (λ v. cond (cap.0 == key v) cap.1 0) ws ≡ 0
      none e =
          nowhere (λ v. cond (cap.0 == key v) cap.1 0) ws
          (λ v (j, low, is). ap (λ t. cond t cap.1 0) (ne_eqb cap.0 (key v) (λ same. apart 0 (suc j) v (omega arith) (omega (arith, low)) (sym e ∙ same ∙ ap key (sym is)))))

      either : (o t : Bool) → (cap.0 == key w) ≡ t → weigh (λ v. cond (cap.0 == key v) cap.1 0) ws ≤ cap.1
          → cond o (cond t cap.1 0) 0 + weigh (λ v. cond (cap.0 == key v) cap.1 0) ws ≤ cap.1
      either true true e rest = let z = none (grind (arith, nat_tests)) in omega (arith, z)
      either true false e rest = omega (arith, rest)
      either false t e rest = omega (arith, rest)

  most : (ws : List ℕ) → AllPairs (λ a b. key a ≢ key b) ws → (caps : List (ℕ × ℕ)) → weigh (λ w. total_at caps (key w)) ws ≤ total caps
  most ws apart [] = omega (arith, nowhere (λ w. 0) ws (λ w there. refl))
  most ws apart (cap ∷ caps) =
      omega (
        arith,
        both (λ w. total_at (cap ∷ caps) (key w)) (λ w. cond (cap.0 == key w) cap.1 0) (λ w. total_at caps (key w)) (λ w. total_at_cons cap caps (key w)) ws,
        once cap ws apart,
        most ws apart caps,
        sum_by-cons (λ (c : ℕ × ℕ). c.1) cap caps,
      )

-- the capacitances of a stage are those of the nodes that are its own
own_weighed : (x : Split) (k : ℕ) (ws : List ℕ)
    → sum_by (cap_in x k) ws ≡ weigh (is_own x k) (λ w. slice_index x.order w) (λ w. total_at x.par.caps (slice_index x.order w)) ws
unfolding weigh
own_weighed x k [] = refl
own_weighed x k (w ∷ ws) = sum_by-cons (cap_in x k) w ws ∙ either (is_celled x w) (w == head x k) (own_weighed x k ws)
  where
    here : ℕ
    here = total_at x.par.caps (slice_index x.order w)

    rest : ℕ
    rest = weigh (is_own x k) (λ v. slice_index x.order v) (λ v. total_at x.par.caps (slice_index x.order v)) ws

    either : (a b : Bool) → sum_by (cap_in x k) ws ≡ rest → cond (a && not b) 0 here + sum_by (cap_in x k) ws ≡ cond (not a || b) here 0 + rest
    either true true e = omega (arith, e)
    either true false e = omega (arith, e)
    either false b e = omega (arith, e)

pub own_sum : (x : Split) (k : ℕ) (ws : List ℕ) → sum_by (cap_in x k) ws ≡ total (map (cap_row x k) ws)
own_sum x k [] = refl
own_sum x k (w ∷ ws) =
    omega (arith, sum_by-cons (cap_in x k) w ws, own_sum x k ws, sum_by-cons (λ (c : ℕ × ℕ). c.1) (cap_row x k w) (map (cap_row x k) ws))

pub small_charge : (x : Split) (k : ℕ) → IsSplit x → total (map (cap_row x k) (members (forest x) (head x k))) ≤ total x.par.caps
small_charge x k is =
    let ws = members (forest x) (head x k) in
    omega (
      arith,
      own_sum x k ws,
      own_weighed x k ws,
      most (is_own x k) (λ w. slice_index x.order w) ws apart x.par.caps,
    )
  where
    apart : AllPairs (λ a b. slice_index x.order a ≢ slice_index x.order b) (members (forest x) (head x k))
    apart i j d less low = is.order.once _ _ (members_rise x k i j d less low) (omega (arith, members_low x k j d low, is.tree))

-- those of the stage's first nodes, with one more, come to few
pub few_summed : (x : Split) (k i : ℕ) → IsSplit x → i < length (members (forest x) (head x k))
    → sum_by (cap_in x k) (take i (members (forest x) (head x k))) + cap_in x k (slice_index (members (forest x) (head x k)) i) ≤ 10 ^ 15
few_summed x k i is low =
    let ws = members (forest x) (head x k) in
    omega (arith, sum_by_more_le (cap_in x k) ws i 0 low, own_sum x k ws, small_charge x k is, is.charge)

-- one more
pub one_summed : (f : ℕ → ℕ) (ws : List ℕ) (i : ℕ) → i < length ws → sum_by f (take i ws) + f (slice_index ws i) ≡ sum_by f (take (i + 1) ws)
one_summed f ws i low =
    let w = slice_index ws i in
    let one : sum_by f (w ∷ []) ≡ f w = omega (arith, sum_by-cons f w []) in
    sym (ap (sum_by f) (take_more ws i 0 low) ∙ sum_by-append f (take i ws) (w ∷ []) ∙ ap (λ n. sum_by f (take i ws) + n) one)
