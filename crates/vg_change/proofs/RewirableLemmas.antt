-- The pins of a net that are linked anew differ, and each is linked to the net.
use Rattle.std.proofs.Common.{◌≡◌, ◌≢◌, ℕ, zero, suc, ◌+◌, ◌<◌, ◌==◌, ◌&&◌, not, Bool, true, false, List, [], ◌++◌, length, get_or, slice_index, refl, sym, ap, ◌∙◌, subst, arith, inl, inr, Option, Some, None}
use Rattle.std.specs.Prelude.{if◌then◌else◌}
use Rattle.std.specs.List.{All, AllPairs, Contains, range_with_len}
use Rattle.std.proofs.lemmas.Bool.{cases_lt, cases_eq, false≢true}
use Rattle.std.proofs.lemmas.List.{get_or_default}
use Rattle.std.proofs.lemmas.List.Elements.{All-append}
use Rattle.std.proofs.lemmas.List.FromFn.{get_or-range_with_len, length-range_with_len}
use Rattle.elmore.specs.Stage.{in_stage}
use Rattle.elmore.proofs.HeadLemmas.{one_stage}
use Rattle.elmore.proofs.StageThroughLemmas.{end_inner}
use Rattle.spef_nodes.proofs.NodeListLemmas.{same_is}
use Rattle.ver_module.specs.declared.link.Link.TheVariants.{One}
use Rattle.ver_module.specs.Netlists.{Netlist}
use Rattle.ver_net.specs.Connections.{pins_on}
use Rattle.ver_net.specs.Laws.{HasLink}
use Rattle.ver_net.specs.declared.pin_ref.PinRef.{PinRef}
use Rattle.ver_net.proofs.LawLemmas.{pins_are_linked}
use Rattle.ver_patch.specs.Pins.{AreRewirable, IsOnOneNet}
use Rattle.ver_patch.specs.Rewires.{Rewire}
use Rattle.cut_laws.proofs.PieceLemmas.{piece_cases}
use Rattle.vg_design.specs.Designs.{Joined, NO_NODE, name_of, pin_name, pin_on}
use Rattle.vg_scan.specs.Nodes.{same_node}
use Rattle.vg_split.specs.Conditions.{IsSplit}
use Rattle.vg_split.specs.Splits.{Split, forest, head, is_celled, is_end, net_of}
use Rattle.vg_split.proofs.MemberLemmas.{members_in, members_low, members_rise}
use Rattle.vg_split.proofs.SplitLemmas.{falls}
use Rattle.vg_split.specs.Stages.{heads, members}
use Rattle.vg_split.proofs.StageLists.{head_is, heads_differ}
use Rattle.vg_change.specs.Placed.{is_old_end, linked, rewires_at, rewires_in, rewires_of}
use Rattle.vg_change.specs.Steps.{placed_by}
use Rattle.vg_change.proofs.NameLemmas.{found_in}
use Rattle.vg_change.proofs.PairLemmas.{all_flat, of_all, pairs_both, pairs_flat}

abbrev Differ : Rewire → Rewire → Type 0
Differ a b = a.at ≢ b.at

-- ---- a pin that is linked anew, if there is one

-- it is the pin
at_linked : (b : Bool) (o : Option PinRef) (net : List ℕ) (r : Rewire) → Contains (if b then linked net o else []) r → (b ≡ true) × (o ≡ Some r.at)
at_linked true None net r (i, low, at) = absurd (omega (arith, low))
at_linked true (Some p) net r (zero, low, at) = (refl, ap (λ (q : Rewire). Some q.at) at)
at_linked true (Some p) net r (suc i, low, at) = absurd (omega (arith, low))
at_linked false o net r (i, low, at) = absurd (omega (arith, low))

one_linked : (b : Bool) (o : Option PinRef) (net : List ℕ) → AllPairs Differ (if b then linked net o else [])
one_linked true None net = λ i j d less low. absurd (omega (arith, low))
one_linked true (Some p) net = λ i j d less low. absurd (omega (arith, less, low))
one_linked false o net = λ i j d less low. absurd (omega (arith, low))

module _ (netlist : Netlist) (n : Joined) (x : Split) (is : IsSplit x) (par : x.par ≡ n.par) where
  abbrev pin_at : ℕ → Option PinRef
  pin_at w = pin_on netlist n.id (name_of n.par (slice_index x.order w))

  -- ---- pins and nodes

  pub pin_links : (w : ℕ) (at : PinRef) → pin_at w ≡ Some at → HasLink netlist at (One n.id)
  pin_links w at found =
      (pins_are_linked netlist n.id at).0 (found_in (λ pin. same_node (name_of n.par (slice_index x.order w)) (pin_name netlist pin)) (pins_on netlist n.id) at found).0

  pin_named : (w : ℕ) (at : PinRef) → pin_at w ≡ Some at → name_of n.par (slice_index x.order w) ≡ pin_name netlist at
  pin_named w at found =
      same_is (name_of n.par (slice_index x.order w)) (pin_name netlist at)
      (found_in (λ pin. same_node (name_of n.par (slice_index x.order w)) (pin_name netlist pin)) (pins_on netlist n.id) at found).1

  -- two nodes with one pin are one
  same_pin : (v w : ℕ) (at : PinRef) → v < length x.problem.tree.nodes → w < length x.problem.tree.nodes → pin_at v ≡ Some at → pin_at w ≡ Some at → v ≡ w
  same_pin v w at v_low w_low v_at w_at =
      let size = ap (λ (p : Rattle.spef_net.specs.declared.net.ParNet.ParNet). length p.nodes) par in
      let v_in = is.order.within v (omega (arith, v_low, is.tree)) in
      let w_in = is.order.within w (omega (arith, w_low, is.tree)) in
      let names = pin_named v at v_at ∙ sym (pin_named w at w_at) in
      let at_one : slice_index x.order v ≡ slice_index x.order w =
      elim (cases_lt (slice_index x.order v) (slice_index x.order w)) [
        | inl less ↦ absurd (n.par.sound.distinct (slice_index x.order v) (slice_index x.order w) NO_NODE less (omega (arith, w_in, size)) names)
        | inr more ↦ elim (cases_lt (slice_index x.order w) (slice_index x.order v)) [
          | inl less ↦ absurd (n.par.sound.distinct (slice_index x.order w) (slice_index x.order v) NO_NODE less (omega (arith, v_in, size)) (sym names))
          | inr no_more ↦ omega (arith, more, no_more)
        ]
      ] in
      elim (cases_lt v w) [
        | inl less ↦ absurd (is.order.once v w less (omega (arith, w_low, is.tree)) at_one)
        | inr more ↦ elim (cases_lt w v) [
          | inl less ↦ absurd (is.order.once w v less (omega (arith, v_low, is.tree)) (sym at_one))
          | inr no_more ↦ omega (arith, more, no_more)
        ]
      ]

  -- ---- a stage

  -- a rewire is of a node of a stage
  record IsOf (k : ℕ) (r : Rewire) : Type 0 where
    w : ℕ
    low : w < length x.problem.tree.nodes
    end : is_old_end x w ≡ true
    inside : Contains (members (forest x) (head x k)) w
    pin : pin_at w ≡ Some r.at

  at_node : (k w : ℕ) → Contains (members (forest x) (head x k)) w → All (IsOf k) (rewires_at netlist (placed_by n x) x k w)
  at_node k w there i d low =
      let r = get_or (rewires_at netlist (placed_by n x) x k w) i d in
      let here = at_linked (is_old_end x w) (pin_at w) (net_of x k) r (i, low, get_or_default (rewires_at netlist (placed_by n x) x k w) i r d low) in
      record { w = w; low = of_all (λ v. v < length x.problem.tree.nodes) (members (forest x) (head x k)) w (members_low x k) there; end = here.0; inside = there; pin = here.1 }

  abbrev all_in : ℕ → List Rewire
  all_in k = Rattle.std.specs.List.flat_map (rewires_at netlist (placed_by n x) x k) (members (forest x) (head x k))

  in_stage_all : (k : ℕ) → All (IsOf k) (rewires_in netlist (placed_by n x) x k)
  in_stage_all k = either (k == x.keeper)
    where
      either : (b : Bool) → All (IsOf k) (if b then [] else all_in k)
      either true = λ i d low. absurd (omega (arith, low))
      either false = all_flat (IsOf k) (rewires_at netlist (placed_by n x) x k) (members (forest x) (head x k)) (at_node k)

  in_stage_differ : (k : ℕ) → AllPairs Differ (rewires_in netlist (placed_by n x) x k)
  in_stage_differ k = either (k == x.keeper)
    where
      apart : AllPairs (λ v w. (a : Rewire) → Contains (rewires_at netlist (placed_by n x) x k v) a → All (Differ a) (rewires_at netlist (placed_by n x) x k w)) (members (forest x) (head x k))
      apart i j d less low = λ a here m e m_low same.
          let all = members (forest x) (head x k) in
          let v = get_or all i d in
          let w = get_or all j d in
          let b = get_or (rewires_at netlist (placed_by n x) x k w) m e in
          let of_a = at_linked (is_old_end x v) (pin_at v) (net_of x k) a here in
          let of_b = at_linked (is_old_end x w) (pin_at w) (net_of x k) b (m, m_low, get_or_default (rewires_at netlist (placed_by n x) x k w) m b e m_low) in
          let v_low = members_low x k i d (omega (arith, less, low)) in
          let w_low = members_low x k j d low in
          let at_one = same_pin v w a.at v_low w_low of_a.1 (of_b.1 ∙ ap Some (sym same)) in
          let rise = members_rise x k i j d less low in
          absurd (omega (arith, rise, at_one))

      either : (b : Bool) → AllPairs Differ (if b then [] else all_in k)
      either true = λ i j d less low. absurd (omega (arith, low))
      either false =
          pairs_flat Differ (rewires_at netlist (placed_by n x) x k) (members (forest x) (head x k))
          (λ w there. one_linked (is_old_end x w) (pin_at w) (net_of x k)) apart

  -- ---- all stages

  -- a node that is no cell's is in one stage alone
  one_of : (k u w : ℕ) → k < length (heads (forest x)) → u < length (heads (forest x)) → is_old_end x w ≡ true
      → Contains (members (forest x) (head x k)) w → Contains (members (forest x) (head x u)) w → k ≡ u
  one_of k u w k_low u_low end in_k in_u =
      elim (cases_eq k u) [
        | inl e ↦ e
        | inr other ↦
            absurd (heads_differ (forest x) (forest x).n k u k_low u_low other
            (one_stage (forest x).parent (forest x).cell (falls x) (head x k) (head x u) (head_is (forest x) (forest x).n k k_low) (head_is (forest x) (forest x).n u u_low) w
            (inside k in_k) (inside u in_u)))
      ]
    where
      bare : (c e : Bool) → ((e) && not c) ≡ true → c ≡ false
      bare true true h = absurd (cc)
      bare true false h = absurd (cc)
      bare false e h = refl

      inside : (j : ℕ) → Contains (members (forest x) (head x j)) w → in_stage (forest x).parent (forest x).cell (head x j) w ≡ true
      inside j there =
          elim (piece_cases (forest x) (head x j) w (of_all (λ v. Rattle.cut_laws.specs.Pieces.in_piece (forest x) (head x j) v ≡ true) (members (forest x) (head x j)) w (members_in x j) there)) [
            | inl i ↦ i
            | inr ends ↦ absurd (false≢true (sym (bare (is_celled x w) (is_end x w) end) ∙ (end_inner (forest x).parent (forest x).cell (falls x) (head x j) w ends).here))
          ]

  pub rewires_linked : All (λ r. HasLink netlist r.at (One n.id)) (rewires_of netlist (placed_by n x) x)
  rewires_linked =
      all_flat (λ r. HasLink netlist r.at (One n.id)) (rewires_in netlist (placed_by n x) x) (range_with_len 0 (length (heads (forest x))))
      (λ k there i d low. let o = in_stage_all k i d low in pin_links o.w _ o.pin)

  rewires_differ : AllPairs Differ (rewires_of netlist (placed_by n x) x)
  rewires_differ = pairs_flat Differ (rewires_in netlist (placed_by n x) x) (range_with_len 0 (length (heads (forest x)))) (λ k there. in_stage_differ k) apart
    where
      apart : AllPairs (λ k u. (a : Rewire) → Contains (rewires_in netlist (placed_by n x) x k) a → All (Differ a) (rewires_in netlist (placed_by n x) x u)) (range_with_len 0 (length (heads (forest x))))
      apart i j d less low = λ a here m e m_low same.
          let all = range_with_len 0 (length (heads (forest x))) in
          let size = length-range_with_len 0 (length (heads (forest x))) in
          let k = get_or all i d in
          let u = get_or all j d in
          let k_is : k ≡ 0 + i = get_or-range_with_len 0 (length (heads (forest x))) i d (omega (arith, less, low, size)) in
          let u_is : u ≡ 0 + j = get_or-range_with_len 0 (length (heads (forest x))) j d (omega (arith, low, size)) in
          let of_a = of_all (IsOf k) (rewires_in netlist (placed_by n x) x k) a (in_stage_all k) here in
          let of_b = in_stage_all u m e m_low in
          let at_one = same_pin of_a.w of_b.w a.at of_a.low of_b.low of_a.pin (of_b.pin ∙ ap Some (sym same)) in
          let one = one_of k u of_a.w (omega (arith, k_is, less, low, size)) (omega (arith, u_is, low, size)) of_a.end of_a.inside
          (subst (Contains (members (forest x) (head x u))) (sym at_one) of_b.inside) in
          absurd (omega (arith, one, k_is, u_is, less))

  -- so they may be linked anew, besides others that are not linked to the net
  pub rewirable_more : (old : List Rewire) → AreRewirable netlist old → All (λ r. HasLink netlist r.at (One n.id) → ⊥) old
      → AreRewirable netlist (old ++ rewires_of netlist (placed_by n x) x)
  rewirable_more old are fresh =
      let new = rewires_of netlist (placed_by n x) x in
      record {
        linked = All-append (λ (r : Rewire). IsOnOneNet netlist r.at) old new are.linked (λ i d low. (n.id, rewires_linked i d low));
        once =
            pairs_both Differ old new are.once rewires_differ
            (λ a there j d low same. of_all (λ (r : Rewire). HasLink netlist r.at (One n.id) → ⊥) old a fresh there (subst (λ at. HasLink netlist at (One n.id)) (sym same) (rewires_linked j d low)));
      }
