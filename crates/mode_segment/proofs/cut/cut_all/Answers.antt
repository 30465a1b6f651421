use Rattle.std.proofs.Common.{◌+◌, ◌≤◌, ℕ, List, length, sym, subst, arith}
use Rattle.vg_design.specs.Designs.{net_names}
use Rattle.vg_answer.specs.declared.kind.AnswerKind.{AnswerKind}
use Rattle.vg_answer.proofs.VerdictLemmas.{take_next}
use Rattle.mode_segment.specs.Steps.{AreCut}
use Rattle.mode_segment.proofs.CutLemmas.{AreCutBefore, all_names, cut_next, name_at, next_before, none_before}
use Rattle.mode_segment.proofs.cut.cut_all.Goals as goal

pub net-init : goal.net-init
net-init c = none_before c.args.spef.now c.args.index.now c.args.parts c.new-text.result.items c.new-patch.result c.new-text.ensures.items c.new-patch.ensures

pub cut_net-requires-clause-before : goal.cut_net-requires-clause-before
cut_net-requires-clause-before c =
    let text = c.args.spef.now in
    let index = c.args.index.now in
    let there = name_at text index c.args.parts c.requires.index c.net.at c.name-name.result.now c.name-name.ensures in
    next_before text index c.args.parts c.requires.index c.net.at c.name-name.result.now c.net.kind c.net.text.items c.net.patch there c.net.invariant

pub net-preserved : goal.net-preserved
net-preserved c =
    let text = c.args.spef.now in
    let index = c.args.index.now in
    let there = name_at text index c.args.parts c.requires.index c.net.at c.name-name.result.now c.name-name.ensures in
    subst (λ (kind : AnswerKind). AreCutBefore text index c.args.parts (c.net.at + 1) kind c.cut_net.new.text.items c.cut_net.new.patch) (sym c.worse-kind.ensures)
    (cut_next text index c.args.parts c.requires.index c.net.at c.name-name.result.now c.net.kind c.in_ok-one.one c.net.text.items c.cut_net.new.text.items
    c.net.patch c.cut_net.new.patch there (take_next (net_names text) c.net.at c.name-name.result.now there) c.net.invariant c.in_ok-one.ensures)

pub returns : goal.returns
returns c =
    let text = c.args.spef.now in
    let index = c.args.index.now in
    let past : length index.sections ≤ c.net.at = omega (arith, c.net-test.false, c.net.auto.at-end) in
    subst (λ (names : List (List ℕ)). AreCut text index c.args.parts names c.net.kind c.net.text.items c.net.patch)
    (all_names text index c.args.parts c.requires.index c.net.at past) c.net.invariant.cut
