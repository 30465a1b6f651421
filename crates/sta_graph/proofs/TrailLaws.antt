-- Trails, put together and taken apart.
use Rattle.std.proofs.Common.{◌≡◌, ℕ, ◌<◌, List, [], ◌∷◌, ◌++◌, length, ◌+ℤ◌, refl, sym, ap, ◌∙◌, subst, arith, inl, inr}
use Rattle.std.proofs.lemmas.Int.{ints}
use Rattle.sta_graph.specs.declared.graph.Graph.{Graph}
use Rattle.sta_graph.specs.Paths.{owner, lead_at, lead_delay, from_of, to_of, IsTrail, delay_along, PassesThrough}

pub trail_from : (g : Graph) (u v w : ℕ) (trail : List ℕ) → u ≡ v → IsTrail g u trail w → IsTrail g v trail w
trail_from g u v w trail e t = subst (λ (x : ℕ). IsTrail g x trail w) e t

pub trail_to : (g : Graph) (u v w : ℕ) (trail : List ℕ) → v ≡ w → IsTrail g u trail v → IsTrail g u trail w
trail_to g u v w trail e t = subst (λ (x : ℕ). IsTrail g u trail x) e t

pub trail_append : (g : Graph) (u v w : ℕ) (a b : List ℕ) → IsTrail g u a v → IsTrail g v b w → IsTrail g u (a ++ b) w
trail_append g u v w [] b e t = trail_from g v u w b (sym e) t
trail_append g u v w (j ∷ a) b (own, x, leads, more) t = (own, x, leads, trail_append g x v w a b more t)

pub delay_append : (g : Graph) (a b : List ℕ) → delay_along g (a ++ b) ≡ delay_along g a +ℤ delay_along g b
delay_append g [] b = omega (arith, ints)
delay_append g (j ∷ a) b = let e = delay_append g a b in omega (arith, ints)

-- the trail of one lead
pub lead_trail : (g : Graph) (i : ℕ) → i < length g.leads → IsTrail g (from_of g i) ((lead_at g i).sink ∷ []) (to_of g i)
lead_trail g i h = (refl, to_of g i, record { lead = i; number = h; by = refl; to = refl }, refl)

pub lead_delay_along : (g : Graph) (i : ℕ) → delay_along g ((lead_at g i).sink ∷ []) ≡ lead_delay g i
lead_delay_along g i = omega (arith, ints)

-- a path is cut in two at each net that it passes through
pub split : (g : Graph) (s v e : ℕ) (trail : List ℕ) → IsTrail g s trail (owner g e) → PassesThrough g trail e v
    → (a : List ℕ) × (b : List ℕ) × IsTrail g s a v × IsTrail g v b (owner g e) × (trail ≡ a ++ b)
split g s v e [] at here = ([], [], at ∙ here, sym here, refl)
split g s v e (j ∷ trail) (own, x, leads, more) (inl here) =
    ([], j ∷ trail, sym own ∙ here, (here, x, leads, more), refl)
split g s v e (j ∷ trail) (own, x, leads, more) (inr later) =
    let (a, b, to, on, is) = split g x v e trail more later in
    (j ∷ a, b, (own, x, leads, to), on, ap (λ (js : List ℕ). j ∷ js) is)

-- and two trails put together pass through the net between
pub passes : (g : Graph) (s v e : ℕ) (a b : List ℕ) → IsTrail g s a v → IsTrail g v b (owner g e) → PassesThrough g (a ++ b) e v
passes g s v e [] [] at here = sym here
passes g s v e [] (j ∷ b) at (own, x, leads, more) = inl own
passes g s v e (j ∷ a) b (own, x, leads, more) on = inr (passes g x v e a b more on)

pub passes_last : (g : Graph) (e : ℕ) (trail : List ℕ) → PassesThrough g trail e (owner g e)
passes_last g e [] = refl
passes_last g e (j ∷ trail) = inr (passes_last g e trail)
