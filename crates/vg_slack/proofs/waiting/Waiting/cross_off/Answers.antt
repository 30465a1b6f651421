use Rattle.std.proofs.Common.{◌≡◌, ℕ, ◌<◌, length, get_or, set, ap, ◌∙◌, refl, arith}
use Rattle.std.proofs.lemmas.List.{get_or_default}
use Rattle.std.specs.Vec.{with_item}
use Rattle.vg_slack.specs.Waits.{before_at}
use Rattle.vg_slack.specs.declared.waiting.Waiting.{Waiting}
use Rattle.vg_slack.proofs.WaitLemmas.{crossed_off, still_waiting, fewer}
use Rattle.vg_slack.proofs.waiting.Waiting.cross_off.Goals as goal

-- what the code writes
written : (w : Waiting) (i u up b : ℕ) → u ≡ up → b ≡ get_or w.before.items i b → i < length w.before.items
    → set w.last.items u b ≡ set w.last.items up (before_at w i)
written w i u up b u_is b_is i_n =
    ap (λ (k : ℕ). set w.last.items k b) u_is ∙ ap (λ (k : ℕ). set w.last.items up k) (b_is ∙ get_or_default w.before.items i b 0 i_n)

pub returns-clause-waiting : goal.returns-clause-waiting
returns-clause-waiting c =
    still_waiting c.args.p.now c.args.self.now _ c.args.node c.requires.waiting c.requires.whole c.requires.below_root
    (written c.args.self.now c.args.node c.parent_of-parent.result _ c.index.result.now c.parent_of-parent.ensures.parent c.index.ensures
    (omega (arith, c.requires.waiting.node, c.requires.waiting.linked.befores))) refl

pub returns-clause-crossed : goal.returns-clause-crossed
returns-clause-crossed c =
    crossed_off c.args.p.now c.args.self.now _ c.args.node c.requires.waiting c.requires.whole c.requires.below_root
    (written c.args.self.now c.args.node c.parent_of-parent.result _ c.index.result.now c.parent_of-parent.ensures.parent c.index.ensures
    (omega (arith, c.requires.waiting.node, c.requires.waiting.linked.befores))) refl

pub returns-clause-fewer : goal.returns-clause-fewer
returns-clause-fewer c =
    fewer c.args.p.now c.args.self.now
    (record { last = with_item c.args.self.now.last c.parent_of-parent.result c.index.result.now; before = c.args.self.now.before })
    c.args.node c.requires.waiting c.requires.whole c.requires.below_root
    (written c.args.self.now c.args.node c.parent_of-parent.result _ c.index.result.now c.parent_of-parent.ensures.parent c.index.ensures
    (omega (arith, c.requires.waiting.node, c.requires.waiting.linked.befores))) refl
