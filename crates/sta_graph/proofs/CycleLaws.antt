-- Where peeling stops, the nets left are just those on a cycle and those that are reached from one.
use Rattle.std.proofs.Common.{◌≡◌, ◌≢◌, ℕ, zero, suc, ◌+◌, ◌<◌, ◌≤◌, ◌⊎◌, List, [], ◌∷◌, length, get_or, add-one, ◌-◌, refl, sym, ap, ◌∙◌, subst, arith, inl, inr}
use Rattle.std.proofs.lemmas.Bool.{cases_eq, cases_lt}
use Rattle.sta_graph.specs.declared.graph.Graph.{Graph}
use Rattle.sta_graph.specs.Paths.{owner, lead_at, from_of, to_of, LeadsTo, IsTrail, IsOnCycle, IsAfterCycle}
use Rattle.sta_graph.specs.Orders.{IsReadyBy, IsLeadOrder, IsLeft, IsLeftNet, IsPeeled, IsWholeOrder}
use Rattle.rc_tree.proofs.PigeonholeLemmas.{each_hit}
use Rattle.sta_graph.proofs.TrailLaws.{trail_from, trail_to}

-- the sink of a lead stands at the lead's first net
from_owner : (g : Graph) (j x : ℕ) (l : LeadsTo g j x) → from_of g l.lead ≡ owner g j
from_owner g j x l = ap (owner g) l.by

-- a net that is ready is reached only from nets that were ready before
earlier : (g : Graph) (order : List ℕ) (u w m j : ℕ) (trail : List ℕ) → IsLeadOrder g order → m ≤ length order
    → IsTrail g u (j ∷ trail) w → IsReadyBy g order m w → (n : ℕ) × (n < m) × IsReadyBy g order n u
earlier g order u w m j [] o fits (own, x, l, at) ready =
    let (k, k_m, is) = ready l.lead l.number (l.to ∙ at) in
    let from : from_of g (get_or order k 0) ≡ u = ap (from_of g) is ∙ from_owner g j x l ∙ own in
    (k, k_m, subst (IsReadyBy g order k) from (o.ready k (omega arith)))
earlier g order u w m j (i ∷ trail) o fits (own, x, l, more) ready =
    let (n, n_m, ready_x) = earlier g order x w m i trail o fits more ready in
    let (k, k_n, is) = ready_x l.lead l.number l.to in
    let from : from_of g (get_or order k 0) ≡ u = ap (from_of g) is ∙ from_owner g j x l ∙ own in
    (k, omega arith, subst (IsReadyBy g order k) from (o.ready k (omega arith)))

none_around : (g : Graph) (order : List ℕ) (u m bound : ℕ) → IsLeadOrder g order → m ≤ length order → m < bound
    → IsOnCycle g u → IsReadyBy g order m u → ⊥
none_around g order u m zero o fits low c ready = absurd (omega arith)
none_around g order u m (suc bound) o fits low c ready =
    let (n, n_m, before) = earlier g order u u m c.first c.more o fits c.around ready in
    none_around g order u n bound o (omega arith) (omega arith) c before

-- a net whose leads are all listed is not after a cycle
pub ready_no_cycle : (g : Graph) (order : List ℕ) (v : ℕ) → IsLeadOrder g order → IsReadyBy g order (length order) v → IsAfterCycle g v → ⊥
ready_no_cycle g order v o ready after =
    back after.trail after.reached
  where
    back : (trail : List ℕ) → IsTrail g after.net trail v → ⊥
    back [] at = none_around g order after.net (length order) (suc (length order)) o (omega arith) (omega arith) after.cycle
        (subst (IsReadyBy g order (length order)) (sym at) ready)
    back (j ∷ trail) t =
        let (n, n_m, before) = earlier g order after.net v (length order) j trail o (omega arith) t ready in
        none_around g order after.net n (suc n) o (omega arith) (omega arith) after.cycle before

pub whole_no_cycle : (g : Graph) (order : List ℕ) (v : ℕ) → IsWholeOrder g order → IsAfterCycle g v → ⊥
whole_no_cycle g order v w after = ready_no_cycle g order v w.in_order (λ i h _. w.all i h) after

-- a lead that is left
record Left (g : Graph) (order : List ℕ) : Type 0 where
  lead : ℕ
  number : lead < length g.leads
  left : IsLeft order lead

back_one : (g : Graph) (order : List ℕ) → IsPeeled g order → Left g order → Left g order
back_one g order p l =
    let n = p.stops l.lead l.number l.left in
    record { lead = n.lead; number = n.number; left = n.left }

-- the lead that is n steps back
walk : (g : Graph) (order : List ℕ) → IsPeeled g order → Left g order → ℕ → Left g order
walk g order p l zero = l
walk g order p l (suc n) = back_one g order p (walk g order p l n)

back_to : (g : Graph) (order : List ℕ) (p : IsPeeled g order) (l : Left g order) → to_of g (back_one g order p l).lead ≡ from_of g l.lead
unfolding back_one
back_to g order p l = (p.stops l.lead l.number l.left).to

walk_to : (g : Graph) (order : List ℕ) (p : IsPeeled g order) (l : Left g order) (n : ℕ)
    → to_of g (walk g order p l (n + 1)).lead ≡ from_of g (walk g order p l n).lead
unfolding walk
walk_to g order p l n = rw add-one (back_to g order p (walk g order p l n))

-- d steps further back a trail begins that leads here
walk_trail : (g : Graph) (order : List ℕ) (p : IsPeeled g order) (l : Left g order) (a d b : ℕ) → b ≡ a + d
    → (trail : List ℕ) × IsTrail g (to_of g (walk g order p l b).lead) trail (to_of g (walk g order p l a).lead) × (length trail ≡ d)
walk_trail g order p l a zero b is = ([], ap (λ (n : ℕ). to_of g (walk g order p l n).lead) (omega arith), refl)
walk_trail g order p l a (suc d) b is =
    let (trail, leads, long) = walk_trail g order p l a d (a + d) refl in
    let here = walk g order p l (a + d) in
    let back : to_of g (walk g order p l b).lead ≡ from_of g here.lead =
    ap (λ (n : ℕ). to_of g (walk g order p l n).lead) (omega arith) ∙ walk_to g order p l (a + d) in (
      (lead_at g here.lead).sink ∷ trail,
      (sym back, to_of g here.lead, record { lead = here.lead; number = here.number; by = refl; to = refl }, leads),
      omega (arith, long),
    )

-- numbers below m, one more than m of them: two are the same
find_in : (f : ℕ → ℕ) (k n : ℕ) → ((i : ℕ) × (i < n) × (f i ≡ k)) ⊎ ((i : ℕ) → i < n → f i ≢ k)
find_in f k zero = inr (λ i h. absurd (omega arith))
find_in f k (suc n) =
    elim (cases_eq (f n) k) [
      | inl e ↦ inl (n, omega arith, e)
      | inr other ↦ elim (find_in f k n) [
        | inl (i, h, e) ↦ inl (i, omega arith, e)
        | inr none ↦ inr (λ i h. elim (cases_eq i n) [
          | inl e ↦ λ same. other (ap f (sym e) ∙ same)
          | inr else_i ↦ none i (omega arith)
        ])
      ]
    ]

find_same : (f : ℕ → ℕ) (n : ℕ) → ((a : ℕ) × (b : ℕ) × (a < b) × (b < n) × (f a ≡ f b)) ⊎ ((a b : ℕ) → a < b → b < n → f a ≢ f b)
find_same f zero = inr (λ a b low h. absurd (omega arith))
find_same f (suc n) =
    elim (find_same f n) [
      | inl (a, b, low, h, e) ↦ inl (a, b, low, omega arith, e)
      | inr apart ↦ elim (find_in f (f n) n) [
        | inl (a, h, e) ↦ inl (a, n, h, omega arith, e)
        | inr none ↦ inr (λ a b low h. elim (cases_eq b n) [
          | inl e ↦ λ same. none a (omega arith) (same ∙ ap f e)
          | inr else_b ↦ apart a b low (omega arith)
        ])
      ]
    ]

pub two_same : (m : ℕ) (f : ℕ → ℕ) → ((i : ℕ) → i < suc m → f i < m) → (a : ℕ) × (b : ℕ) × (a < b) × (b < suc m) × (f a ≡ f b)
two_same m f within =
    elim (find_same f m) [
      | inl (a, b, low, h, e) ↦ (a, b, low, omega arith, e)
      | inr apart ↦
          let (a, h, e) = each_hit m f (λ i i_m. within i (omega arith)) apart (f m) (within m (omega arith)) in
          (a, m, h, omega arith, e)
    ]

-- a lead that is left goes to a net after a cycle
pub left_after_cycle : (g : Graph) (order : List ℕ) (v : ℕ) → IsPeeled g order → IsLeftNet g order v → IsAfterCycle g v
unfolding walk
left_after_cycle g order v p n =
    let l : Left g order = record { lead = n.lead; number = n.number; left = n.left } in
    let f : ℕ → ℕ = λ i. (walk g order p l i).lead in
    let (a, b, low, _, e) = two_same (length g.leads) f (λ i h. (walk g order p l i).number) in
    let (reach, reached, _) = walk_trail g order p l 0 a a (omega arith) in
    let (trail, leads, long) = walk_trail g order p l a (b - a) b (omega arith) in
    let there : to_of g (walk g order p l b).lead ≡ to_of g (walk g order p l a).lead = ap (to_of g) (sym e) in
    record {
      net = to_of g (walk g order p l a).lead;
      cycle = around (to_of g (walk g order p l a).lead) trail (trail_from g _ _ _ trail there leads) (omega (arith, long));
      trail = reach;
      reached = trail_to g _ _ _ reach n.to reached;
    }
  where
    around : (u : ℕ) (trail : List ℕ) → IsTrail g u trail u → 0 < length trail → IsOnCycle g u
    around u [] t some = absurd (omega arith)
    around u (j ∷ trail) t some = record { first = j; more = trail; around = t }

-- there are no more places than leads
pub order_count : (g : Graph) (order : List ℕ) → IsLeadOrder g order → length order ≤ length g.leads
order_count g order o =
    elim (cases_lt (length g.leads) (length order)) [
      | inl more ↦
          let (a, b, low, b_m, e) = two_same (length g.leads) (λ k. get_or order k 0) (λ k h. o.within k (omega arith)) in
          absurd (o.once a b low (omega arith) e)
      | inr few ↦ few
    ]
