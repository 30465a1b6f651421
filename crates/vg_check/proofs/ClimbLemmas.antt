-- The parts of nodes, while they come in to one another.
use Rattle.std.proofs.Common.{◌≡◌, ◌≢◌, ◌↔◌, ℕ, ◌+◌, ◌<◌, Bool, List, [], ◌∷◌, ◌++◌, length, get_or, set, sym, ap, ◌∙◌, subst, arith, inl, inr}
use Rattle.std.proofs.Math.ListN.{get_or-append}
use Rattle.std.proofs.Math.Seq.{get_or-append_seam}
use Rattle.std.proofs.lemmas.Bool.{cases_Bool, cases_eq, cases_lt, false≢true}
use Rattle.std.specs.Prelude.{IsTrue}
use Rattle.std.proofs.lemmas.List.{length-append, length-set, get_or-set_same, get_or-set_other, get_or_default}
use Rattle.elmore.specs.Problems.{is_live}
use Rattle.elmore.specs.Trees.{parent_of}
use Rattle.elmore.specs.declared.problem.Problem.{Problem}
use Rattle.elmore.specs.declared.tree.Node.{Node}
use Rattle.elmore.proofs.PathLemmas.{over_le}
use Rattle.elmore.proofs.TreeLemmas.{tree_falls}
use Rattle.cand_pairs.specs.Candidates.{NodeLists, IsLive, IsCoveredAt, of_lists}
use Rattle.cand_pairs.specs.Parts.{IsDeadPart, IsLivePart, list_of}
use Rattle.cand_pairs.proofs.CertificateLemmas.{joins_decide}
use Rattle.cand_pairs.proofs.ChildLemmas.{IsChild}
use Rattle.cand_pairs.proofs.LiveChildLemmas.{live_sees}
use Rattle.cand_pairs.proofs.TurnLemmas.{dead_stays, live_stays, part_is_dead, part_is_live, part_open}
use Rattle.vg_check.specs.Covers.{ClassLists, CoversOwns}
use Rattle.vg_check.specs.Parts.{AreCoveredFrom, AreParts, IsPart, part_at}
use Rattle.vg_check.specs.Verdicts.{IsLastUncovered}
use Rattle.vg_check.specs.declared.part.Part.{Part}
use Rattle.vg_check.specs.declared.part.Part.TheVariants.{Dead, Live}

-- node i is no child of the part's node
part_stays : (p : Problem) (lists : NodeLists) (i v : ℕ) (x : Part) → i < length p.tree.nodes → (IsChild p.tree.nodes v i → ⊥)
    → IsPart p lists (i + 1) v x → IsPart p lists i v x
part_stays p lists i v (Dead c) i_n no_child part = dead_stays p v i c i_n no_child part
part_stays p lists i v (Live joins) i_n no_child part = live_stays p (of_lists lists) v i (list_of joins) i_n no_child part

-- THE START: one part more, of the node after them
pub parts_more : (p : Problem) (lists : NodeLists) (parts : List Part) (part : Part)
    → ((v : ℕ) → v < length parts → IsPart p lists (length p.tree.nodes) v (part_at parts v))
    → IsPart p lists (length p.tree.nodes) (length parts) part
    → (v : ℕ) → v < length (parts ++ part ∷ []) → IsPart p lists (length p.tree.nodes) v (part_at (parts ++ part ∷ []) v)
parts_more p lists parts part are is v v_n =
    elim (cases_lt v (length parts)) [
      | inl low ↦ subst (IsPart p lists (length p.tree.nodes) v) (sym (get_or-append parts (part ∷ []) (Dead 0) v low)) (are v low)
      | inr high ↦
          let last : v ≡ length parts = omega (arith, high, v_n, length-append parts (part ∷ [])) in
          subst (λ (u : ℕ). IsPart p lists (length p.tree.nodes) u (part_at (parts ++ part ∷ []) u)) (sym last)
          (subst (IsPart p lists (length p.tree.nodes) (length parts)) (sym (get_or-append_seam parts part [] (Dead 0))) is)
    ]

-- THE LAST PART is taken away
module _ (p : Problem) (lists : NodeLists) (all rest : List Part) (last : Part) (all_are : all ≡ rest ++ last ∷ [])
    (are : AreParts p lists (length all) all) where
  pub longer : length all ≡ length rest + 1
  longer = ap (λ (xs : List Part). length xs) all_are ∙ length-append rest (last ∷ [])

  part_of : (v : ℕ) → v < length all → IsPart p lists (length rest + 1) v (part_at (rest ++ last ∷ []) v)
  part_of v v_n =
      subst (λ (xs : List Part). IsPart p lists (length rest + 1) v (part_at xs v)) all_are
      (subst (λ (k : ℕ). IsPart p lists k v (part_at all v)) longer (are v v_n))

  pub last_part : IsPart p lists (length rest + 1) (length rest) last
  last_part =
      subst (IsPart p lists (length rest + 1) (length rest)) (get_or-append_seam rest last [] (Dead 0)) (part_of (length rest) (omega (arith, longer)))

  pub rest_parts : AreParts p lists (length rest + 1) rest
  rest_parts v v_n =
      subst (IsPart p lists (length rest + 1) v) (get_or-append rest (last ∷ []) (Dead 0) v v_n) (part_of v (omega (arith, longer, v_n)))

-- IT COMES IN to that of its parent
module _ (p : Problem) (lists : NodeLists) (rest : List Part) (i : ℕ) (number : i ≡ length rest) (some : 0 < length rest)
    (within : length rest < length p.tree.nodes)
    (are : AreParts p lists (length rest + 1) rest) (nodes : List Node) (d : Node) (nodes_are : nodes ≡ p.tree.nodes) where
  up : ℕ
  up = (get_or nodes i d).parent

  up_is : up ≡ parent_of p.tree.nodes i
  unfolding up
  up_is =
      ap (λ (xs : List Node). (get_or xs i d).parent) nodes_are
      ∙ ap (λ (x : Node). x.parent) (get_or_default p.tree.nodes i d _ (omega (arith, number, within)))

  up_n : up < length rest
  up_n = omega (arith, up_is, p.tree.a_tree.smaller i (omega (arith, number, some)) (omega (arith, number, within)), number)

  before : (v : ℕ) → v < length rest → IsPart p lists (i + 1) v (part_at rest v)
  before v v_n = subst (λ (k : ℕ). IsPart p lists (k + 1) v (part_at rest v)) (sym number) (are v v_n)

  pub upper_part : (upper now : Part) → upper ≡ now → now ≡ get_or rest (get_or nodes i d).parent now
      → IsPart p lists (i + 1) (parent_of p.tree.nodes i) upper
  unfolding up
  upper_part upper now upper_is now_is =
      subst (λ (u : ℕ). IsPart p lists (i + 1) u upper) up_is
      (subst (IsPart p lists (i + 1) up) (sym (upper_is ∙ now_is ∙ get_or_default rest up now (Dead 0) up_n)) (before up up_n))

  module _ (none x : Part) where
    stays : (v : ℕ) → v < length rest → v ≢ up → IsPart p lists i v (part_at (set (set rest up none) up x) v)
    stays v v_n other =
        subst (IsPart p lists i v)
        (sym (get_or-set_other (set rest up none) up v x (Dead 0) other ∙ get_or-set_other rest up v none (Dead 0) other))
        (part_stays p lists i v (part_at rest v) (omega (arith, number, within)) (λ child. other (sym child.parent ∙ sym up_is)) (before v v_n))

    each : IsPart p lists i (parent_of p.tree.nodes i) x → (v : ℕ) → v < length rest
        → IsPart p lists i v (part_at (set (set rest up none) up x) v)
    each is v v_n = elim (cases_eq v up) [
      | inl e ↦
          subst (λ (u : ℕ). IsPart p lists i u (part_at (set (set rest up none) up x) u)) (sym e)
          (subst (IsPart p lists i up) (sym (get_or-set_same (set rest up none) up x (Dead 0) (omega (arith, up_n, length-set rest up none))))
          (subst (λ (u : ℕ). IsPart p lists i u x) (sym up_is) is))
      | inr other ↦ stays v v_n other
    ]

    pub parts_on : IsPart p lists i (parent_of p.tree.nodes i) x
        → AreParts p lists (length rest) (set (set rest (get_or nodes i d).parent none) (get_or nodes i d).parent x)
    unfolding up
    parts_on is v v_in =
        subst (λ (k : ℕ). IsPart p lists k v (part_at (set (set rest up none) up x) v)) number
        (each is v (omega (arith, v_in, length-set (set rest up none) up x, length-set rest up none)))

-- WHAT IS COVERED
live_within : (p : Problem) (v : ℕ) → IsLive p v → v < length p.tree.nodes
live_within p v live =
    let (w, seen) = live_sees p.tree.nodes p.sinks v live in
    omega (arith, seen.node, over_le (parent_of p.tree.nodes) (tree_falls p.tree.nodes p.tree.a_tree) v w seen.over)

pub none_covered : (p : Problem) (lists : NodeLists) (i : ℕ) → i ≡ length p.tree.nodes → AreCoveredFrom p lists i
none_covered p lists i i_is w high live = absurd (omega (arith, high, i_is, live_within p w live))

pub one_covered : (p : Problem) (lists : NodeLists) (i : ℕ) → (IsLive p i → IsCoveredAt p (of_lists lists) i) → AreCoveredFrom p lists (i + 1)
    → AreCoveredFrom p lists i
one_covered p lists i here after w high live = elim (cases_eq w i) [
  | inl e ↦ subst (λ (v : ℕ). IsCoveredAt p (of_lists lists) v) (sym e) (here (subst (λ (v : ℕ). IsLive p v) e live))
  | inr ne ↦ after w (omega (arith, high)) live
]

-- THE JUDGEMENT of a node
pub dead_covered : (p : Problem) (lists : NodeLists) (i c : ℕ) → i < length p.tree.nodes → IsDeadPart p (i + 1) i c
    → IsLive p i → IsCoveredAt p (of_lists lists) i
dead_covered p lists i c i_n part live = absurd (false≢true (sym (part_is_dead p i c i_n part) ∙ live))

pub live_covered : (p : Problem) (lists : NodeLists) (i : ℕ) (joins entries : ClassLists) (r : Bool) → i < length p.tree.nodes
    → IsLivePart p (of_lists lists) (i + 1) i joins → lists i ≡ entries → IsTrue r ↔ CoversOwns p i joins entries
    → IsTrue r ↔ (IsLive p i → IsCoveredAt p (of_lists lists) i)
live_covered p lists i joins entries r i_n part here decides =
    let (to, from) = joins_decide p lists i joins (part_open p (of_lists lists) i joins i_n part) in (
      λ is live. from (subst (λ (ls : ClassLists). CoversOwns p i joins ls) (sym here) (decides.0 is)),
      λ covered. decides.1 (subst (λ (ls : ClassLists). CoversOwns p i joins ls) here (to (covered (part_is_live p (of_lists lists) i joins i_n part)))),
    )

pub not_covered : (p : Problem) (lists : NodeLists) (i : ℕ) → ((IsLive p i → IsCoveredAt p (of_lists lists) i) → ⊥) → AreCoveredFrom p lists (i + 1)
    → IsLastUncovered p lists i
not_covered p lists i not after = elim (cases_Bool (is_live p.tree.nodes p.sinks i)) [
  | inl live ↦ record { live = live; uncovered = λ covered. not (λ _. covered); after = λ w high w_live. after w (omega (arith, high)) w_live }
  | inr dead ↦ absurd (not (λ live. absurd (false≢true (sym dead ∙ live))))
]
