use Rattle.std.proofs.Common.{◌≡◌, List, ℕ, length, slice_index, sym, ap, ◌∙◌, arith}
use Rattle.std.proofs.lemmas.Bool.{false≢true}
use Rattle.vg_split.specs.Splits.{head, is_celled, repeater_at}
use Rattle.vg_split.proofs.MemberLemmas.{first_is, some_member}
use Rattle.vg_split.proofs.SplitLemmas.{head_celled}
use Rattle.vg_split.proofs.split.Split.repeater_of.Goals as goal

pub bounds-members-0 : goal.bounds-members-0
bounds-members-0 c = omega (arith, ap (λ (ws : List ℕ). length ws) c.members.ensures.are, some_member c.args.self.now c.args.stage c.requires.stage)

pub unreachable-requires : goal.unreachable-requires
unreachable-requires c =
    let at : slice_index c.members.result.now 0 ≡ head c.args.self.now c.args.stage
    = ap (λ (ws : List ℕ). slice_index ws 0) c.members.ensures.are ∙ first_is c.args.self.now c.args.stage c.requires.stage in
    false≢true (sym (rw c.in_default.is at c.repeater_at.ensures.some) ∙ ap (is_celled c.args.self.now) at ∙ head_celled c.args.self.now c.args.stage c.requires.some c.requires.stage)

pub returns : goal.returns
returns c =
    let at : slice_index c.members.result.now 0 ≡ head c.args.self.now c.args.stage
    = ap (λ (ws : List ℕ). slice_index ws 0) c.members.ensures.are ∙ first_is c.args.self.now c.args.stage c.requires.stage in
    (rw c.in-Some.is at c.repeater_at.ensures.some).1 ∙ ap (repeater_at c.args.self.now) at
