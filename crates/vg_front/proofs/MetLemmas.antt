-- What two branches come to where they meet.
use Rattle.std.proofs.Common.{◌≡◌, ℕ, ◌+◌, ◌≤◌, List, map, refl, sym, ap, ◌∙◌, subst, arith, Option}
use Rattle.std.proofs.lemmas.Int.{ints, clamps}
use Rattle.elmore.specs.Trees.{resistance}
use Rattle.elmore.specs.declared.problem.Problem.{Problem}
use Rattle.sol_arena.specs.declared.slot.Made.{Made}
use Rattle.cand_pairs.specs.Priced.{Priced, Beats, IsPricedPart, PricedMeets, meet_priced}
use Rattle.cand_pairs.proofs.StepLemmas.{within_less}
use Rattle.vg_front.specs.declared.offer.Candidate.{Candidate}
use Rattle.vg_front.specs.declared.offer.Proposal.{Proposal}
use Rattle.vg_front.specs.Offers.{priced, offers_of, IsBeaten, IsPartOf}
use Rattle.vg_front.specs.Held.{IsPruned, carried_by}
use Rattle.vg_front.specs.Making.{AreMadeOf}
use Rattle.vg_front.specs.Meeting.{IsMet, met_of}
use Rattle.vg_front.specs.Fronts.{In}
use Rattle.vg_front.proofs.FrontLemmas.{in_list, of_list, made_beats, made_in}
use Rattle.vg_front.proofs.OfferLemmas.{in_map, of_map}
use Rattle.vg_front.proofs.SeenLemmas.{beaten_over}

-- candidates xs of the upper branch, and of the lower one those of hs above the wire of u, but what others beat
module _ (p : Problem) (cap : Option ℕ) (u : ℕ) (xs hs ys : List Candidate) (pruned : IsPruned (map (carried_by (resistance p.tree.nodes u) 0) hs) ys) where
  abbrev up : Candidate → Candidate
  up = carried_by (resistance p.tree.nodes u) 0

  -- both together, as it is proposed
  met_is : (x h : Candidate) → priced (met_of x (up h)).offer ≡ meet_priced p u (priced x.offer) (priced h.offer)
  met_is x h = let e : x.offer.c + (h.offer.c + 0) ≡ x.offer.c + h.offer.c = omega arith in
      λ i. record { cost = x.offer.cost + h.offer.cost; pair = record { q = (priced (met_of x (up h)).offer).pair.q; c = e i } }

  pub met_part : (ms ms' : List Made) (ps : List Proposal) (zs : List Candidate) → IsPartOf (IsMet cap xs ys) ps → AreMadeOf ms ms' ps zs
      → IsPricedPart cap (In zs) (PricedMeets p u (In xs) (In hs))
  met_part ms ms' ps zs is made = record {
    part = λ a found.
        let (q, q_in, a_is) = made_in ms ms' ps zs a made found in
        let (x, y, x_in, y_in, within, q_is) = is.part q q_in in
        let (h, h_in, y_is) = of_map up hs y (pruned.part y y_in) in (
          priced x.offer,
          priced h.offer,
          in_list xs x x_in,
          in_list hs h h_in,
          a_is ∙ ap (λ (t : Proposal). priced t.offer) q_is ∙ ap (λ (t : Candidate). priced (met_of x t).offer) y_is ∙ met_is x h,
        );
    covers = λ a (x', h', x_in', h_in', a_is) within.
        let (x, x_in, x_is) = of_list xs x' x_in' in
        let (h, h_in, h_is) = of_list hs h' h_in' in
        let (y', y_in', y_h) = pruned.covers (up h) (in_map up hs h h_in) in
        let (y, y_in, y_is) = of_list ys y' y_in' in
        let beats : Beats (priced y.offer) (priced (up h).offer) = subst (λ (t : Priced). Beats t (priced (up h).offer)) y_is y_h in
        let same : a ≡ priced (met_of x (up h)).offer =
        a_is ∙ ap (λ (t : Priced). meet_priced p u t h') x_is ∙ ap (λ (t : Priced). meet_priced p u (priced x.offer) t) h_is ∙ sym (met_is x h) in
        let less : x.offer.cost + y.offer.cost ≤ a.cost = omega (arith, beats.cost, ap (λ (t : Priced). t.cost) same) in
        let found = is.covers (met_of x y) (x, y, x_in, y_in, within_less cap (x.offer.cost + y.offer.cost) a.cost less within, refl) in
        subst (IsBeaten (offers_of zs)) (sym same)
        (beaten_over (offers_of zs) (priced (met_of x y).offer) (priced (met_of x (up h)).offer)
        (made_beats ms ms' ps zs (priced (met_of x y).offer) made found) (record {
          cost = omega (arith, beats.cost);
          pair = record { time = omega (arith, ints, clamps, beats.pair.time); room = omega (arith, beats.pair.room) };
        }));
  }
