use Rattle.std.proofs.Common.{◌≡◌, ◌==◌, List, ℕ, length, slice_index, ap, ◌∙◌, arith}
use Rattle.std.proofs.lemmas.Bool.Decides.{nat_tests}
use Rattle.vg_split.proofs.MemberLemmas.{first_is, some_member}
use Rattle.vg_split.proofs.split.Split.is_head.Goals as goal

pub bounds-members-0 : goal.bounds-members-0
bounds-members-0 c =
    omega (arith, ap (λ (ws : List ℕ). length ws) c.members.ensures.are, some_member c.args.self.now c.args.stage c.requires)

turned : (a b v : ℕ) → a ≡ v → (a == b) ≡ (b == v)
turned a b v e = grind (arith, nat_tests)

pub returns : goal.returns
returns c =
    turned (slice_index c.members.result.now 0) c.args.node _
    (ap (λ (ws : List ℕ). slice_index ws 0) c.members.ensures.are ∙ first_is c.args.self.now c.args.stage c.requires)
