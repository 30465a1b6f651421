-- From lists of candidates to parts of what placements come to.
use Rattle.std.proofs.Common.{◌≡◌, ℕ, ◌+◌, Bool, true, false, List, slice_index_or, refl, sym, ap, ◌∙◌, subst, arith, inl, inr, Option, Some, None}
use Rattle.std.specs.List.{Contains}
use Rattle.elmore.specs.Allowances.{allowed_at}
use Rattle.elmore.specs.Cells.{rep_of, rep_at}
use Rattle.elmore.specs.Legal.{IsWithin, IsFit, MayHave}
use Rattle.elmore.specs.declared.problem.Problem.{Problem}
use Rattle.sol_arena.specs.declared.slot.Made.{Made}
use Rattle.cand_pairs.specs.Candidates.{past_cell}
use Rattle.cand_pairs.specs.Priced.{Priced, IsPricedPart, PricedOwns, with_price}
use Rattle.cand_pairs.proofs.PricedLemmas.{one_priced}
use Rattle.vg_front.specs.declared.offer.Candidate.{Candidate}
use Rattle.vg_front.specs.declared.offer.Proposal.{Proposal}
use Rattle.vg_front.specs.Offers.{priced, offers_of, proposed_by, IsBeaten, IsPartOf}
use Rattle.vg_front.specs.Held.{IsBlend}
use Rattle.vg_front.specs.Making.{AreMadeOf}
use Rattle.vg_front.specs.Driving.{IsCelled, stand_of, driven_at, behind}
use Rattle.vg_front.specs.Fronts.{In, AreCells}
use Rattle.vg_front.proofs.OfferLemmas.{in_map, of_map, beaten_parts}
use Rattle.vg_front.proofs.SeenLemmas.{beaten_over}

pub in_list : (xs : List Candidate) (x : Candidate) → Contains xs x → In xs (priced x.offer)
in_list xs x found = in_map (λ (y : Candidate). priced y.offer) xs x found

pub of_list : (xs : List Candidate) (z : Priced) → In xs z → (x : Candidate) × Contains xs x × (z ≡ priced x.offer)
of_list xs z found = of_map (λ (y : Candidate). priced y.offer) xs z found

-- what beats proposals, beats with their candidates
pub made_beats : (ms ms' : List Made) (ps : List Proposal) (zs : List Candidate) (z : Priced) → AreMadeOf ms ms' ps zs → IsBeaten (proposed_by ps) z →
    IsBeaten (offers_of zs) z
made_beats ms ms' ps zs z made beaten = let (q, q_in, q_z) = beaten_parts ps z beaten in (priced q.offer, made.all q q_in, q_z)

pub made_in : (ms ms' : List Made) (ps : List Proposal) (zs : List Candidate) (z : Priced) → AreMadeOf ms ms' ps zs → In zs z → (q : Proposal) ×
    Contains ps q × (z ≡ priced q.offer)
made_in ms ms' ps zs z made found =
    let (x, x_in, z_is) = of_list zs z found in
    let (q, q_in, is) = made.part x x_in in
    (q, q_in, z_is ∙ ap priced is.offer)

-- CELLS
module _ (p : Problem) (cap : Option ℕ) (v : ℕ) (odd : Bool) (classes : Bool → List Candidate) (place : slice_index_or p.places v false ≡ true)
    (ms ms' : List Made) (ps : List Proposal) (zs : List Candidate) (is : IsPartOf (IsCelled p v odd cap classes) ps)
    (made : AreMadeOf ms ms' ps zs) where
  pub cells_are : AreCells p cap v odd (λ o. In (classes o)) zs
  cells_are = record {
    part = λ a found.
        let (q, q_in, a_is) = made_in ms ms' ps zs a made found in
        let (b, named, allows, driven) = is.part q q_in in
        let (x, x_in, may, q_is) = driven in (
          Some b,
          priced x.offer,
          (λ n e. subst (λ (m : ℕ). IsFit (slice_index_or p.places v false) (allowed_at p.allowed v) p.reps m x.offer.c) (one b n e)
              (record { at_place = place; named = named; allows = allows; limit = may.limit })),
          in_list (classes (behind (rep_at p.reps b) odd)) x x_in,
          a_is ∙ ap (λ (t : Proposal). priced t.offer) q_is,
        );
    covers = λ b y may y_in within.
        let fit = may b refl in
        let (x, x_in, y_is) = of_list (classes (behind (rep_at p.reps b) odd)) y y_in in
        let limit : IsWithin (rep_at p.reps b).limit x.offer.c = subst (λ (t : Priced). IsWithin (rep_at p.reps b).limit t.pair.c) y_is fit.limit in
        let costs : IsWithin cap (x.offer.cost + (rep_at p.reps b).cost) = subst (λ (t : Priced). IsWithin cap (t.cost + (rep_at p.reps b).cost)) y_is
        within in
        let q : Proposal = driven_at (stand_of p v b) x in
        let beaten = is.covers q (b, fit.named, fit.allows, (x, x_in, record { limit = limit; costs = costs }, refl)) in
        subst (λ (t : Priced). IsBeaten (offers_of zs) (with_price (rep_of p.reps (Some b)) t)) (sym y_is)
        (made_beats ms ms' ps zs (priced q.offer) made beaten);
  }
    where
      one : (b n : ℕ) → Some b ≡ Some n → b ≡ n
      one b n e = cc

-- with those without a cell, but what others beat
pub owns_part : (p : Problem) (cap : Option ℕ) (v : ℕ) (odd : Bool) (classes : Bool → List Candidate) (zs kept : List Candidate)
    → AreCells p cap v odd (λ o. In (classes o)) zs → IsBlend (classes odd) zs kept → IsPricedPart cap (In kept) (PricedOwns p v odd (λ o. In (classes o)))
owns_part p cap v odd classes zs kept cells blend = record {
  part = λ a found.
      let (x, x_in, a_is) = of_list kept a found in
      elim (blend.part x x_in) [
        | inl bare ↦ (
          None,
          a,
          (λ b e. absurd (cc)),
          subst (In (classes odd)) (sym a_is) (in_list (classes odd) x bare),
          one_priced a
              (with_price None a) (omega arith) refl,
        )
        | inr cell ↦ subst (PricedOwns p v odd (λ o. In (classes o))) (sym a_is) (cells.part (priced x.offer) (in_list zs x cell))
      ];
  covers = λ a (own, y, may, y_in, a_is) within. go a own y may y_in a_is within;
}
  where
    still : (z : Priced) → IsBeaten (offers_of zs) z → IsBeaten (offers_of kept) z
    still z (y, y_in, y_z) =
        let (x, x_in, y_is) = of_list zs y y_in in
        beaten_over (offers_of kept) y z (subst (IsBeaten (offers_of kept)) (sym y_is) (blend.second x x_in)) y_z

    go : (a : Priced) (own : Option ℕ) (y : Priced) → MayHave p v own y.pair.c → In (classes (past_cell (rep_of p.reps own) odd)) y → a ≡ with_price
        (rep_of p.reps own) y
        → IsWithin cap a.cost → IsBeaten (offers_of kept) a
    go a None y may y_in a_is within =
        let (x, x_in, y_is) = of_list (classes odd) y y_in in
        let same : a ≡ priced x.offer = a_is ∙ one_priced (with_price None y) y (omega arith) refl ∙ y_is in
        subst (IsBeaten (offers_of kept)) (sym same) (blend.first x x_in)
    go a (Some b) y may y_in a_is within =
        subst (IsBeaten (offers_of kept)) (sym a_is)
        (still (with_price (rep_of p.reps (Some b)) y) (cells.covers b y may y_in (subst (λ (t : Priced). IsWithin cap t.cost) a_is within)))
