use Rattle.std.proofs.Common.{ℕ, List, ap, sym, subst}
use Rattle.vg_answer.specs.Nets.{named}
use Rattle.mode_segment.specs.Answers.{nets_in}
use Rattle.mode_segment.specs.Steps.{AreCut}
use Rattle.mode_segment.proofs.CutLemmas.{cut_one}
use Rattle.mode_segment.proofs.cut.cut_nets.Goals as goal

pub returns : goal.returns
returns c =
    let text = c.args.spef.now in
    let index = c.args.index.now in
    subst (λ (names : List (List ℕ)). AreCut text index c.args.parts names c.in_ok-kind.kind c.cut_net.new.text.items c.cut_net.new.patch)
    (sym (ap (λ net. nets_in text (named net)) c.in-Some.is))
    (cut_one text index c.args.parts c.requires.index c.in-Some.name.now c.in_ok-kind.kind c.new-text.result.items c.cut_net.new.text.items c.new-patch.result
    c.cut_net.new.patch c.new-text.ensures.items c.new-patch.ensures c.in_ok-kind.ensures)
