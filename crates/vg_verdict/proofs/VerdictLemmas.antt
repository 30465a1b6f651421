-- Which nodes a verdict names, and that it rests on the slack, the placement and the lists alone.
use Rattle.std.proofs.Common.{◌≡◌, ℕ, ◌<◌, ◌≤◌, List, length, slice_index_or, sym, subst, arith, inl, inr, ℤ, Option, Some, None}
use Rattle.std.specs.Prelude.{IsSome}
use Rattle.std.proofs.lemmas.Bool.{cases_lt}
use Rattle.std.proofs.lemmas.List.{get_or_past}
use Rattle.elmore.specs.Legal.{IsFirstIllegal, IsLegalAt}
use Rattle.elmore.specs.Placements.{IsFirstWrong, IsPlacement, IsSlack, load_of}
use Rattle.elmore.specs.Trees.{parent_of}
use Rattle.elmore.specs.declared.problem.Problem.{Problem}
use Rattle.elmore.proofs.LeastLemmas.{within_sinks}
use Rattle.elmore.proofs.PathLemmas.{over_le}
use Rattle.elmore.proofs.TreeLemmas.{tree_falls}
use Rattle.cand_pairs.specs.Candidates.{IsLive, NodeLists, at_root, of_lists}
use Rattle.cand_pairs.proofs.LiveChildLemmas.{live_sees}
use Rattle.vg_cert.specs.Fits.{Fits, lists_of}
use Rattle.vg_cert.specs.declared.certificate.Certificate.{Certificate}
use Rattle.vg_check.specs.Verdicts.{Finds, IsLastUncovered, IsRootBound, IsVerdict}
use Rattle.vg_check.specs.declared.verdict.Verdict.{Verdict}
use Rattle.vg_check.specs.declared.verdict.Verdict.TheVariants.{Yes, Illegal, WrongPolarity, WrongSlack, Uncovered, NotBest}
use Rattle.vg_check.proofs.OneLemmas.{one_verdict}
use Rattle.vg_verdict.specs.Steps.{NamesWithin}

-- ---- the node that a verdict names is one of the net's

-- past the last node every placement is legal
past_legal : (p : Problem) (cells : List (Option ℕ)) → IsPlacement p cells → (v : ℕ) → length p.tree.nodes ≤ v → IsLegalAt p cells (load_of p cells) v
past_legal p cells placement v high = record {
  cell = λ b has. absurd (let none : slice_index_or cells v None ≡ None = get_or_past cells v None (omega (arith, high, placement.one_each)) in cc (none, has));
  driver = λ root. absurd (omega (arith, high, root, p.tree.a_tree.some_node));
}

illegal_within : (p : Problem) (cells : List (Option ℕ)) (v : ℕ) → IsPlacement p cells → IsFirstIllegal p cells v → v < length p.tree.nodes
illegal_within p cells v placement is = elim (cases_lt v (length p.tree.nodes)) [
  | inl low ↦ low
  | inr high ↦ absurd (is.illegal (past_legal p cells placement v high))
]

wrong_within : (p : Problem) (cells : List (Option ℕ)) (w : ℕ) → IsFirstWrong p cells w → w < length p.tree.nodes
wrong_within p cells w is = let (sink, there, other) = is.wrong in omega (arith, within_sinks p.sinks w sink there, p.sinks_each)

live_within : (p : Problem) (v : ℕ) → IsLive p v → v < length p.tree.nodes
live_within p v live =
    let (w, seen) = live_sees p.tree.nodes p.sinks v live in
    omega (arith, seen.node, over_le (parent_of p.tree.nodes) (tree_falls p.tree.nodes p.tree.a_tree) v w seen.over)

names_within : (p : Problem) (cert : Certificate) (verdict : Verdict) → Fits p cert → Finds p cert verdict → NamesWithin (length p.tree.nodes) verdict
names_within p cert Yes fits found = tt
names_within p cert (Illegal v) fits (some, is) = illegal_within p cert.placement.cells v fits.placement is
names_within p cert (WrongPolarity w) fits (some, is) = wrong_within p cert.placement.cells w is
names_within p cert (WrongSlack written real) fits found = tt
names_within p cert (Uncovered v) fits is = live_within p v is.live
names_within p cert (NotBest written bound) fits found = tt

-- so of some names of its nodes it names one
pub one_named : (p : Problem) (cert : Certificate) (verdict : Verdict) (n : ℕ) → Fits p cert → IsVerdict p cert verdict → n ≡ length p.tree.nodes
    → NamesWithin n verdict
one_named p cert verdict n fits is same = subst (λ (k : ℕ). NamesWithin k verdict) (sym same) (names_within p cert verdict fits is.found)

-- ---- certificates that are alike have one verdict

-- of the same slack, placement and lists
pub record AreAlike (a b : Certificate) : Type 0 where
  pub slack : a.slack ≡ b.slack
  pub cells : a.placement.cells ≡ b.placement.cells
  pub lists : lists_of a ≡ lists_of b

turned : (a b : Certificate) → AreAlike a b → AreAlike b a
turned a b same = record { slack = sym same.slack; cells = sym same.cells; lists = sym same.lists }

finds_alike : (p : Problem) (a b : Certificate) → AreAlike a b → (verdict : Verdict) → Finds p a verdict → Finds p b verdict
finds_alike p a b same Yes found = tt
finds_alike p a b same (Illegal v) (some, is) = (
  subst (λ (slack : Option ℤ). IsSome slack) same.slack some,
  subst (λ (cells : List (Option ℕ)). IsFirstIllegal p cells v) same.cells is,
)
finds_alike p a b same (WrongPolarity w) (some, is) = (
  subst (λ (slack : Option ℤ). IsSome slack) same.slack some,
  subst (λ (cells : List (Option ℕ)). IsFirstWrong p cells w) same.cells is,
)
finds_alike p a b same (WrongSlack written real) (has, is, other) = (
  subst (λ (slack : Option ℤ). slack ≡ Some written) same.slack has,
  subst (λ (cells : List (Option ℕ)). IsSlack p cells real) same.cells is,
  other,
)
finds_alike p a b same (Uncovered v) is = subst (λ (lists : NodeLists). IsLastUncovered p lists v) same.lists is
finds_alike p a b same (NotBest written bound) (has, is, over) = (
  subst (λ (slack : Option ℤ). slack ≡ written) same.slack has,
  subst (λ (lists : NodeLists). IsRootBound p (at_root (of_lists lists)) bound) same.lists is,
  over,
)

verdict_alike : (p : Problem) (a b : Certificate) → AreAlike a b → (verdict : Verdict) → IsVerdict p a verdict → IsVerdict p b verdict
verdict_alike p a b same verdict is = record {
  found = finds_alike p a b same verdict is.found;
  first = λ other less found. is.first other less (finds_alike p b a (turned a b same) other found);
}

pub verdicts_alike : (p : Problem) (a b : Certificate) → AreAlike a b → (x y : Verdict) → IsVerdict p a x → IsVerdict p b y → x ≡ y
verdicts_alike p a b same x y is js = one_verdict p b x y (verdict_alike p a b same x is) js
