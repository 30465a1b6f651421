use Rattle.std.proofs.Common.{◌≡◌, ℕ, ◌≤◌, List, Option, None, Some, length, slice_index_or, sym, ◌∙◌, subst, arith, inl, inr}
use Rattle.std.proofs.lemmas.Bool.{cases_lt, cases_eq}
use Rattle.std.proofs.lemmas.List.{get_or_past}
use Rattle.elmore.specs.Legal.{IsLegalWith, IsLegalAt}
use Rattle.elmore.specs.Placements.{IsPlacement, load_of}
use Rattle.elmore.specs.declared.problem.Problem.{Problem}
use Rattle.elmore.proofs.FitLemmas.{is_sum, same_sum}
use Rattle.elmore.proofs.ProblemLemmas.{load_fits}
use Rattle.elmore.proofs.legal.first_past.Goals as goal

-- past the last node there is no cell
legal_past : (p : Problem) (cells : List (Option ℕ)) → IsPlacement p cells → (v : ℕ) → length cells ≤ v → IsLegalAt p cells (load_of p cells) v
legal_past p cells placement v past = record {
  cell = λ b here. absurd (let clash : None ≡ Some b = sym (get_or_past cells v None past) ∙ here in cc);
  driver = λ first. absurd (omega (arith, placement.one_each, p.tree.a_tree.some_node));
}

pub sum_at-requires-clause-sum : goal.sum_at-requires-clause-sum
sum_at-requires-clause-sum c =
    is_sum _ (load_of c.args.p.now c.args.cells.now c.nodes.v) (load_fits c.args.p.now c.args.cells.now c.requires.placement c.nodes.v)
    (c.requires.loads c.nodes.v (omega (arith, c.requires.placement.one_each)))

pub nodes-preserved : goal.nodes-preserved
nodes-preserved c = λ k low.
    let here : IsLegalAt c.args.p.now c.args.cells.now (load_of c.args.p.now c.args.cells.now) c.nodes.v =
    subst (IsLegalWith c.args.p.now c.nodes.v (slice_index_or c.args.cells.now c.nodes.v None)) (same_sum _ _ _ c.sum_at.ensures (c.requires.loads c.nodes.v (omega (arith, c.requires.placement.one_each))))
    (c.is_legal_with.ensures.0 c.if-not-is_legal_with.false) in
    elim (cases_eq k c.nodes.v) [
      | inl e ↦ subst (IsLegalAt c.args.p.now c.args.cells.now (load_of c.args.p.now c.args.cells.now)) (sym e) here
      | inr other ↦ c.nodes.invariant k (omega arith)
    ]

pub returns : goal.returns
returns c = λ v.
    elim (cases_lt v (length c.args.cells.now)) [
      | inl low ↦ c.nodes.invariant v (omega arith)
      | inr past ↦ legal_past c.args.p.now c.args.cells.now c.requires.placement v past
    ]
