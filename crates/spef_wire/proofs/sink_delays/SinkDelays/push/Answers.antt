use Rattle.std.proofs.Common.{ℤ, List, ◌≡◌, [], ◌∷◌, ◌++◌, ap, ◌∙◌, arith, length, refl, rules}
use Rattle.std.proofs.lemmas.Int.{to_z-of_z}
use mir.Syntax.{w128}
use mir.Val.{SFits}
use Rattle.vg_scan.specs.declared.name.NodeName.{NodeName}
use Rattle.spef_wire.proofs.SinkLemmas.{rows_more, rows_are, owner_more, leaf_more}
use Rattle.spef_wire.proofs.sink_delays.SinkDelays.push.Goals as goal

pub returns-clause-last : goal.returns-clause-last
returns-clause-last c =
    let s = c.self.inside in
    let fits : SFits w128 c.args.delay = search rules in
    let owners : length s.owners ≡ length s.delays.items = omega (arith, c.if-len-count.false, c.len-count.ensures, c.len.ensures) in
    let leaves : length s.leaves ≡ length s.delays.items = omega (arith, c.if-len-count-2.false, c.len-count.ensures, c.len-else-len-count.ensures) in
    rows_are _ _ _ _ _ _ c.in-Ok.ensures.last c.in-Ok-push.ensures.last (c.in-Ok-push-2.ensures.items ∙ ap (λ (d : ℤ). s.delays.items ++ d ∷ []) (to_z-of_z w128 c.args.delay fits))
    ∙ rows_more s.owners s.leaves s.delays.items c.args.owner.now c.args.leaf.now c.args.delay owners leaves
    ∙ ap (λ (rows : List (NodeName × ℤ)). rows ++ (record { owner = c.args.owner.now; leaf = c.args.leaf.now }, c.args.delay) ∷ []) c.self.view_is

pub returns-in_default-push-clause-unchanged : goal.returns-in_default-push-clause-unchanged
returns-in_default-push-clause-unchanged c =
    let s = c.self.inside in
    rows_are _ _ _ _ s.delays.items s.delays.items c.in-Ok.ensures.last c.in_default-push.ensures.unchanged refl ∙ owner_more s.owners s.leaves s.delays.items c.args.owner.now c.self.invariant.0 ∙ c.self.view_is

pub returns-in_default-push-2-clause-unchanged : goal.returns-in_default-push-2-clause-unchanged
returns-in_default-push-2-clause-unchanged c =
    let s = c.self.inside in
    rows_are _ _ _ _ c.push-3.new.self.items s.delays.items c.in-Ok.ensures.last c.in-Ok-push.ensures.last c.in_default-push-2.ensures.items
    ∙ leaf_more (s.owners ++ c.args.owner.now ∷ []) s.leaves s.delays.items c.args.leaf.now c.self.invariant.1
    ∙ owner_more s.owners s.leaves s.delays.items c.args.owner.now c.self.invariant.0
    ∙ c.self.view_is
