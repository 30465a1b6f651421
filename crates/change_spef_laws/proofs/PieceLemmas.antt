-- Each net is split by its placement.
use Rattle.std.proofs.Common.{◌≡◌, ℕ, ◌+◌, false, List, [], ◌∷◌, length, refl, sym, arith, subst, inl, inr, All}
use Rattle.std.specs.List.{AllZip, list_any}
use Rattle.std.proofs.lemmas.Bool.{cases_Bool}
use Rattle.std.proofs.lemmas.List.Elements.{All-head, All-tail}
use Rattle.vg_change.specs.Placed.{PlacedNet, cell_stages, split_of}
use Rattle.vg_change.specs.Steps.{placed_net}
use Rattle.vg_design.specs.Designs.{Design}
use Rattle.split_laws.specs.StagePieces.{IsSplitOf}
use Rattle.vg_split.specs.Conditions.{IsSplit}
use Rattle.spef_wire.specs.Refusals.{goes_both_ways}
use Rattle.spef_wire.specs.declared.refusal.Refusal.TheVariants.{Bidirectional}
use Rattle.change_spef_laws.specs.Laws.{NetsAreSplit}
use Rattle.change_spef_laws.specs.Nets.{IsPlacedNet, splits}
use Rattle.change_spef_laws.proofs.FewLemmas.{IsOwnSplit}
use Rattle.change_spef_laws.proofs.ReplacedLemmas.{all_own}

module _ (d : Design) (prefix : List ℕ) where
  net_split : (p : PlacedNet) (first : ℕ) → IsPlacedNet d p → IsSplit (split_of d prefix first p) → IsSplitOf d p.net (split_of d prefix first p)
  net_split p first is = subst (λ (q : PlacedNet). IsSplit (split_of d prefix first q) → IsSplitOf d q.net (split_of d prefix first q)) (sym is.is) here
    where
      one_way : list_any goes_both_ways is.posed.ready.pinned.net.par.conns ≡ false
      one_way = elim (cases_Bool (list_any goes_both_ways is.posed.ready.pinned.net.par.conns)) [
        | inl both ↦ absurd (is.net.accepted Bidirectional (omega arith) (record { net = is.posed.ready.pinned.net; joined = is.net.joined; holds = inl both }))
        | inr none ↦ none
      ]

      here : IsSplit (split_of d prefix first (placed_net is.posed p.cells)) → IsSplitOf d is.posed.ready.pinned.net (split_of d prefix first (placed_net is.posed p.cells))
      here split = record {
        split = split;
        par = refl;
        tree = is.posed.ready.tree.nodes;
        a_tree = is.net.ready.a_tree;
        problem = is.net.problem;
        placed = is.placed;
        repeaters = refl;
        one_way = one_way;
      }

  all_split : (first : ℕ) (nets : List PlacedNet) → All (IsPlacedNet d) nets → All (IsOwnSplit prefix) (splits d prefix first nets)
      → AllZip (λ p x. IsSplitOf d p.net x) nets (splits d prefix first nets)
  all_split first [] each own = tt
  all_split first (p ∷ nets) each own =
      let x = split_of d prefix first p in
      let next = first + length (cell_stages x) in (
        net_split p first (All-head (IsPlacedNet d) p nets each) (All-head (IsOwnSplit prefix) x (splits d prefix next nets) own).split,
        all_split next nets (All-tail (IsPlacedNet d) p nets each) (All-tail (IsOwnSplit prefix) x (splits d prefix next nets) own),
      )

pub nets_split : NetsAreSplit
nets_split d prefix nets c by = all_split d prefix 0 nets by.each (all_own d prefix nets c by)
