-- Two branches that meet at a node, the lower one above its wire.
use Rattle.std.proofs.Common.{◌≡◌, ℕ, ◌+◌, ◌<◌, Bool, true, List, ◌∷◌, ◌++◌, length, refl, sym, ap, ◌∙◌, subst, arith, inl, Option}
use Rattle.std.proofs.lemmas.List.Elements.{Contains-append_left, Contains-append_right}
use Rattle.std.specs.List.{Contains}
use Rattle.elmore.specs.Problems.{is_live}
use Rattle.elmore.specs.Trees.{parent_of, resistance}
use Rattle.elmore.specs.declared.pair.Pair.{Pair}
use Rattle.elmore.specs.declared.problem.Problem.{Problem}
use Rattle.sol_arena.specs.declared.slot.Made.{Made}
use Rattle.sol_arena.specs.Meanings.{cells_of, AreApart, joined}
use Rattle.cand_pairs.specs.Candidates.{carried, fork_of}
use Rattle.cand_pairs.specs.Merging.{meet, live_from, own_from, fork_from, HasEnd}
use Rattle.cand_pairs.specs.Priced.{IsBeatenBy, IsPricedPart, IsPricedAt, IsPricedOpenWith, PricedMeets}
use Rattle.cand_pairs.specs.Solutions.{IsOpenSolutionOf}
use Rattle.cand_pairs.proofs.ChildLemmas.{one_child}
use Rattle.cand_pairs.proofs.FromLemmas.{live_here, live_own, not_yet}
use Rattle.cand_pairs.proofs.JoinLemmas.{is_child_of}
use Rattle.cand_pairs.proofs.PairPartLemmas.{live_child_parts}
use Rattle.cand_pairs.proofs.PricedMergeLemmas.{part_trans, priced_meets}
use Rattle.cand_pairs.proofs.SmallPairLemmas.{live_from_in}
use Rattle.cand_pairs.proofs.SolutionLemmas.{solution_more}
use Rattle.vg_front.specs.declared.offer.Candidate.{Candidate}
use Rattle.vg_front.specs.declared.offer.Offer.{Offer}
use Rattle.vg_front.specs.declared.offer.Proposal.{Proposal}
use Rattle.vg_front.specs.Offers.{priced, IsPartOf}
use Rattle.vg_front.specs.Held.{MeanTheSame, IsPruned, carried_by, carried_offer}
use Rattle.vg_front.specs.Making.{cells_from, IsFrom, AreFrom}
use Rattle.vg_front.specs.Meeting.{IsMet, met_offer}
use Rattle.vg_front.specs.Fronts.{In, cost_by, AreSolved, IsOpenAt}
use Rattle.vg_front.specs.Joining.{AreAllApart, AreMet, IsCarriedAt}
use Rattle.vg_front.proofs.CostLemmas.{joined_cost}
use Rattle.vg_front.proofs.FrontLemmas.{in_list, of_list}
use Rattle.vg_front.proofs.MetLemmas.{met_part}
use Rattle.vg_front.proofs.OfferLemmas.{of_map}

-- TWO LISTS
-- they are to be made of candidates that are apart
pub met_from : (cap : Option ℕ) (ms : List Made) (xs ys : List Candidate) (ps : List Proposal) → AreAllApart ms xs ys → IsPartOf (IsMet cap xs ys) ps
    → AreFrom ms (xs ++ ys) ps
met_from cap ms xs ys ps apart is q q_in =
    let (x, y, x_in, y_in, within, q_is) = is.part q q_in in
    subst (λ (t : Proposal). IsFrom ms (xs ++ ys) t.origin) (sym q_is)
    (x, y, Contains-append_left xs ys x x_in, Contains-append_right xs ys y y_in, refl, refl, apart x y x_in y_in)

-- what was made means the same later
pub met_later : (cap : Option ℕ) (old mid new : List Made) (xs ys zs : List Candidate) → MeanTheSame mid new zs → AreMet cap old mid xs ys zs
    → AreMet cap old new xs ys zs
met_later cap old mid new xs ys zs same is = record {
  proposals = is.proposals;
  part = is.part;
  made = record {
    part = λ z found.
        let (q, q_in, z_is) = is.made.part z found in
        (q, q_in, record { offer = z_is.offer; means = same z found ∙ z_is.means });
    all = is.made.all;
  };
}

-- and so did what it was made of before
pub met_sooner : (cap : Option ℕ) (old mid new : List Made) (xs ys zs : List Candidate) → MeanTheSame old mid xs → MeanTheSame old mid ys
    → AreMet cap mid new xs ys zs
    → AreMet cap old new xs ys zs
met_sooner cap old mid new xs ys zs first second is = record {
  proposals = is.proposals;
  part = is.part;
  made = record {
    part = λ z found.
        let (q, q_in, z_is) = is.made.part z found in
        let (x, y, x_in, y_in, within, q_is) = is.part.part q q_in in
        let same : cells_from q.origin (cells_of mid) ≡ cells_from q.origin (cells_of old)
        = subst (λ (t : Proposal). cells_from t.origin (cells_of mid) ≡ cells_from t.origin (cells_of old)) (sym q_is)
        (λ i. joined (first x x_in i) (second y y_in i)) in
        (q, q_in, record { offer = z_is.offer; means = z_is.means ∙ same });
    all = is.made.all;
  };
}

pub apart_later : (old new : List Made) (xs ys : List Candidate) → MeanTheSame old new xs → MeanTheSame old new ys → AreAllApart old xs ys
    → AreAllApart new xs ys
apart_later old new xs ys first second apart x y x_in y_in v m n e f =
    apart x y x_in y_in v m n (sym (ap (λ (h : ℕ → Option ℕ). h v) (first x x_in)) ∙ e) (sym (ap (λ (h : ℕ → Option ℕ). h v) (second y y_in)) ∙ f)

pub apart_within : (ms : List Made) (xs ys xs' ys' : List Candidate) → ((x : Candidate) → Contains xs' x → Contains xs x)
    → ((y : Candidate) → Contains ys' y → Contains ys y)
    → AreAllApart ms xs ys → AreAllApart ms xs' ys'
apart_within ms xs ys xs' ys' first second apart x y x_in y_in = apart x y (first x x_in) (second y y_in)

pub pruned_part : (cap : Option ℕ) (xs zs : List Candidate) → IsPruned xs zs → IsPricedPart cap (In zs) (In xs)
pruned_part cap xs zs pruned = record {
  part = λ a found. let (x, x_in, a_is) = of_list zs a found in subst (In xs) (sym a_is) (in_list xs x (pruned.part x x_in));
  covers = λ a found within. let (x, x_in, a_is) = of_list xs a found in subst (IsBeatenBy (In zs)) (sym a_is) (pruned.covers x x_in);
}

-- TWO BRANCHES
-- two offers together, the second above a wire
met_pair : (p : Problem) (i : ℕ) (x h : Offer)
    → (priced (met_offer x (carried_offer (resistance p.tree.nodes i) 0 h))).pair ≡ meet (priced x).pair (carried p i (priced h).pair)
met_pair p i x h =
    let e : x.c + (h.c + 0) ≡ x.c + h.c = omega arith in
    λ k. record { q = (meet (priced x).pair (carried p i (priced h).pair)).q; c = e k }

module _ (p : Problem) (cap : Option ℕ) (i : ℕ) (some : 0 < i) (i_n : i < length p.tree.nodes) (live : is_live p.tree.nodes p.sinks i ≡ true)
    (ms : List Made) (upper lower : Bool → List Candidate) (opens : IsOpenAt p cap (i + 1) (parent_of p.tree.nodes i) ms upper)
    (lowers : IsCarriedAt p cap i 0 ms lower) where
  abbrev v : ℕ
  v = parent_of p.tree.nodes i

  abbrev up : Candidate → Candidate
  up = carried_by (resistance p.tree.nodes i) 0

  lives : live_from p v i ≡ i ∷ live_from p v (i + 1)
  lives = live_here p v i (is_child_of p i some i_n) live

  own_is : own_from p v i ≡ own_from p v (i + 1)
  own_is = live_own p v i (is_child_of p i some i_n) live

  of_lower : (odd : Bool) (y : Candidate) → Contains (lower odd) y → (h : Candidate) × Contains (lowers.below odd) h × (y ≡ up h)
  of_lower odd y found = of_map up (lowers.below odd) y (subst (λ (l : List Candidate). Contains l y) (lowers.above odd) found)

  -- solutions of one child and of the others share no node
  pub classes_apart : (odd : Bool) → AreAllApart ms (upper odd) (lower odd)
  classes_apart odd x y x_in y_in u b b' at_x at_y =
      let (z, z_in, y_is) = of_lower odd y y_in in
      let (h, h_in, over_h) = (opens.solved odd x x_in).pair.inside u b at_x in
      let over_i = (lowers.closed.solved odd z z_in).pair.inside u b' (ap (λ (t : Candidate). cells_of ms t.sol.0 u) (sym y_is) ∙ at_y) in
      let h_child = (live_child_parts p v h (live_from_in p v (i + 1) h h_in)).child in
      not_yet p v i (subst (λ (k : ℕ). Contains (live_from p v (i + 1)) k)
      (one_child p.tree.nodes p.tree.a_tree v h i u h_child (is_child_of p i some i_n) over_h over_i) h_in)

  pub met_end : HasEnd p v (live_from p v i)
  met_end = inl (i, subst (λ (us : List ℕ). Contains us i) (sym lives) (0, omega arith, refl))

  module _ (odd : Bool) (mid new : List Made) (xs ys zs : List Candidate) (first : IsPruned (upper odd) xs) (second : IsPruned (lower odd) ys)
      (met : AreMet cap mid new xs ys zs) where
    pub met_priced : IsPricedPart cap (In zs) (IsPricedOpenWith p (IsPricedAt p) odd (fork_from p v i))
    met_priced =
        subst (λ (us : List ℕ). IsPricedPart cap (In zs) (IsPricedOpenWith p (IsPricedAt p) odd (fork_of v (own_from p v i) us))) (sym lives)
        (subst (λ (own : ℕ). IsPricedPart cap (In zs) (IsPricedOpenWith p (IsPricedAt p) odd (fork_of v own (i ∷ live_from p v (i + 1))))) (sym own_is)
        (part_trans cap (In zs) (PricedMeets p i (In xs) (In (lowers.below odd)))
        (IsPricedOpenWith p (IsPricedAt p) odd (fork_of v (own_from p v (i + 1)) (i ∷ live_from p v (i + 1))))
        (met_part p cap i xs (lowers.below odd) ys (subst (λ (l : List Candidate). IsPruned l ys) (lowers.above odd) second) mid new met.proposals zs
        met.part met.made)
        (priced_meets p cap (IsPricedAt p) v odd (own_from p v (i + 1)) (live_from p v (i + 1)) i (In xs) (In (lowers.below odd)) (not_yet p v i) opens.end
        (part_trans cap (In xs) (In (upper odd)) (IsPricedOpenWith p (IsPricedAt p) odd (fork_from p v (i + 1))) (pruned_part cap (upper odd) xs first)
        (opens.part odd))
        (lowers.closed.part odd))))

    pub met_solved : MeanTheSame ms mid xs → MeanTheSame ms mid ys → AreSolved p (IsOpenSolutionOf p odd (fork_from p v i)) new zs
    met_solved same_x same_y z found =
        let (q, q_in, z_is) = met.made.part z found in
        let (x, y, x_in, y_in, within, q_is) = met.part.part q q_in in
        let (h, h_in, y_is) = of_lower odd y (second.part y y_in) in
        let f : ℕ → Option ℕ = cells_of ms x.sol.0 in
        let g : ℕ → Option ℕ = cells_of ms h.sol.0 in
        let x_is = opens.solved odd x (first.part x x_in) in
        let h_is = lowers.closed.solved odd h h_in in
        let y_cells : cells_of ms y.sol.0 ≡ g = ap (λ (t : Candidate). cells_of ms t.sol.0) y_is in
        let apart : AreApart f g = subst (AreApart f) y_cells (classes_apart odd x y (first.part x x_in) (second.part y y_in)) in
        let means : cells_of new z.sol.0 ≡ joined f g
        = z_is.means ∙ ap (λ (t : Proposal). cells_from t.origin (cells_of mid)) q_is ∙ (λ k. joined (same_x x x_in k) ((same_y y y_in ∙ y_cells) k)) in
        let offer_is : z.offer ≡ met_offer x.offer (up h).offer
        = z_is.offer ∙ ap (λ (t : Proposal). t.offer) q_is ∙ ap (λ (t : Candidate). met_offer x.offer t.offer) y_is in
        let pair_is : (priced z.offer).pair ≡ meet (priced x.offer).pair (carried p i (priced h.offer).pair)
        = ap (λ (o : Offer). (priced o).pair) offer_is ∙ met_pair p i x.offer h.offer in
        let more : IsOpenSolutionOf p odd (fork_of v (own_from p v (i + 1)) (i ∷ live_from p v (i + 1))) (joined f g)
        (meet (priced x.offer).pair (carried p i (priced h.offer).pair))
        = solution_more p v odd (own_from p v (i + 1)) (live_from p v (i + 1)) i f g (priced x.offer).pair (priced h.offer).pair
        (λ u u_in. (live_child_parts p v u (live_from_in p v (i + 1) u u_in)).child) (is_child_of p i some i_n) (not_yet p v i) x_is.pair h_is.pair in
        let whole : IsOpenSolutionOf p odd (fork_from p v i) (joined f g) (meet (priced x.offer).pair (carried p i (priced h.offer).pair))
        = subst (λ (us : List ℕ). IsOpenSolutionOf p odd (fork_of v (own_from p v i) us) (joined f g)
        (meet (priced x.offer).pair (carried p i (priced h.offer).pair))) (sym lives)
        (subst (λ (own : ℕ). IsOpenSolutionOf p odd (fork_of v own (i ∷ live_from p v (i + 1))) (joined f g)
        (meet (priced x.offer).pair (carried p i (priced h.offer).pair))) (sym own_is) more) in
        record {
          pair = subst (λ (a : Pair). IsOpenSolutionOf p odd (fork_from p v i) (cells_of new z.sol.0) a) (sym pair_is)
              (subst (λ (k : ℕ → Option ℕ). IsOpenSolutionOf p odd (fork_from p v i) k (meet (priced x.offer).pair (carried p i (priced h.offer).pair)))
              (sym means) whole);
          cost = omega (arith, ap (λ (o : Offer). o.cost) offer_is, x_is.cost, h_is.cost, joined_cost p f g apart, ap (cost_by p) means);
        }

  pub met_open : (mid new : List Made) (xs ys zs : Bool → List Candidate) → ((odd : Bool) → IsPruned (upper odd) (xs odd))
      → ((odd : Bool) → IsPruned (lower odd) (ys odd)) → ((odd : Bool) → AreMet cap mid new (xs odd) (ys odd) (zs odd))
      → ((odd : Bool) → MeanTheSame ms mid (xs odd)) → ((odd : Bool) → MeanTheSame ms mid (ys odd))
      → IsOpenAt p cap i v new zs
  met_open mid new xs ys zs first second met same_x same_y = record {
    end = met_end;
    part = λ odd. met_priced odd mid new (xs odd) (ys odd) (zs odd) (first odd) (second odd) (met odd);
    solved = λ odd. met_solved odd mid new (xs odd) (ys odd) (zs odd) (first odd) (second odd) (met odd) (same_x odd) (same_y odd);
  }
