use Rattle.std.proofs.Common.{◌≡◌, ◌<◌, ◌≤◌, ◌-◌, ◌+◌, List, ℕ, length, slice_index, sym, ap, subst, arith, rules, drop, take}
use Rattle.std.proofs.lemmas.List.{get_or-drop, length-drop, take_all}
use Rattle.vg_split.proofs.MemberLemmas.{some_member}
use Rattle.vg_split.proofs.split.Split.below.Goals as goal

pub slice_bounds-result-count : goal.slice_bounds-result-count
slice_bounds-result-count c =
    omega (arith, ap (λ (ws : List ℕ). length ws) c.members-members.ensures.are, some_member c.args.self.now c.args.stage c.requires)

pub slice_bounds-result-start : goal.slice_bounds-result-start
slice_bounds-result-start c =
    let some : 1 ≤ length c.members-members.result.now
    = omega (arith, ap (λ (ws : List ℕ). length ws) c.members-members.ensures.are, some_member c.args.self.now c.args.stage c.requires) in
    search rules

pub returns-clause-within : goal.returns-clause-within
returns-clause-within c =
    let ws = c.members-members.result.now in
    let all : take (length ws - 1) (drop 1 ws) ≡ drop 1 ws = take_all (length ws - 1) (drop 1 ws) (omega (arith, length-drop 1 ws)) in
    subst (λ (l : List ℕ). (i : ℕ) → i < length l → slice_index l i < length c.args.self.now.problem.tree.nodes) (sym all)
    (λ i low. rw get_or-drop (c.members-members.ensures.within (1 + i) (omega (arith, low, length-drop 1 ws))))
