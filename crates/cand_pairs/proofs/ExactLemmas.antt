-- Lists that are undominated for what comes from them.
use Rattle.std.proofs.Common.{ℕ, zero, suc, ◌+◌, ◌≤◌, Bool, length, arith}
use Rattle.std.proofs.lemmas.List.Elements.{All-contains, Contains-get_or}
use Rattle.std.specs.List.{Contains}
use Rattle.elmore.specs.Pairs.{IsPairAt}
use Rattle.cand_pairs.specs.Candidates.{IsStep, IsCover, of_lists, AreStepLists, IsLive, NodeLists, AreExact}
use Rattle.elmore.specs.declared.pair.Pair.{Pair}
use Rattle.elmore.specs.declared.problem.Problem.{Problem}
use Rattle.cand_pairs.proofs.ChildLemmas.{child_above}
use Rattle.cand_pairs.proofs.PairPartLemmas.{IsLiveChild, live_child_parts}
use Rattle.cand_pairs.proofs.StepLemmas.{IsPart, step_part}
use Rattle.cand_pairs.proofs.CoverLemmas.{cover_over}
use Rattle.cand_pairs.proofs.SpliceLemmas.{step_pair}

step_lists_cover : (p : Problem) (lists : NodeLists) → AreStepLists p lists → IsCover p (of_lists lists)
step_lists_cover p lists steps v live odd x is = (steps v live odd).covers x is

pub step_lists_sound : (p : Problem) (lists : NodeLists) → AreStepLists p lists
    → (v : ℕ) → IsLive p v → (odd : Bool) (x : Pair) → Contains (lists v odd) x → IsPairAt p v odd x
step_lists_sound p lists steps v live odd x found = up_to (length p.tree.nodes) v (omega arith) live odd x found
  where
    up_to : (k v : ℕ) → length p.tree.nodes ≤ v + k → IsLive p v → (odd : Bool) (x : Pair) → Contains (lists v odd) x → IsPairAt p v odd x
    up_to zero v low live odd x found =
        let part : IsPart p v (of_lists lists) (IsPairAt p) = λ u o z u_in z_in.
        let child : IsLiveChild p v u = live_child_parts p v u u_in in
        absurd (omega (arith, child_above p.tree.nodes p.tree.a_tree v u child.child, child.child.node)) in
        step_pair p v odd x (step_part p (of_lists lists) (IsPairAt p) v odd x part (All-contains (IsStep p (of_lists lists) v odd) (lists v odd) x (steps v live odd).taken found))
    up_to (suc k) v low live odd x found =
        let part : IsPart p v (of_lists lists) (IsPairAt p) = λ u o z u_in z_in.
        let child : IsLiveChild p v u = live_child_parts p v u u_in in
        up_to k u (omega (arith, child_above p.tree.nodes p.tree.a_tree v u child.child)) child.live o z z_in in
        step_pair p v odd x (step_part p (of_lists lists) (IsPairAt p) v odd x part (All-contains (IsStep p (of_lists lists) v odd) (lists v odd) x (steps v live odd).taken found))

pub step_lists_exact : (p : Problem) (lists : NodeLists) → AreStepLists p lists → AreExact p lists
step_lists_exact p lists steps v live odd = record {
  rising = (steps v live odd).rising;
  taken = λ k d k_n. step_lists_sound p lists steps v live odd _ (Contains-get_or (lists v odd) k d k_n);
  covers = λ y y_in. cover_over p (of_lists lists) (step_lists_cover p lists steps) v odd y y_in;
}

pub exact_lists_cover : (p : Problem) (lists : NodeLists) → AreExact p lists → IsCover p (of_lists lists)
exact_lists_cover p lists exact v live odd x is =
    let part : IsPart p v (of_lists lists) (IsPairAt p) = λ u o z u_in z_in.
    All-contains (IsPairAt p u o) (lists u o) z (exact u (live_child_parts p v u u_in).live o).taken z_in in
    (exact v live odd).covers x (step_pair p v odd x (step_part p (of_lists lists) (IsPairAt p) v odd x part is))
