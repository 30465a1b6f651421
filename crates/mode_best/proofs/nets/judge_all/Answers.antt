use Rattle.std.proofs.Common.{ℕ, List, Some, ◌≡◌, ◌∙◌, arith, subst, sym, take}
use Rattle.std.specs.List.{slice_get}
use Rattle.std.proofs.lemmas.List.{take_all}
use Rattle.vg_design.specs.Designs.{Design, net_names}
use Rattle.mode_best.specs.Steps.{AreBestJudged}
use Rattle.vg_place.proofs.JudgedLemmas.{judged_more}
use Rattle.vg_place.proofs.PutLemmas.{open_more, put_stays}
use Rattle.mode_best.proofs.BestLemmas.{best_put}
use Rattle.mode_best.specs.Answers.{IsBestSaid}
use Rattle.vg_answer.proofs.VerdictLemmas.{take_next}
use Rattle.mode_best.proofs.nets.judge_all.Goals as goal

pub judge_net-requires-clause-free : goal.judge_net-requires-clause-free
judge_net-requires-clause-free c = λ n joined.
    let name = c.net_name-name.result.now in
    let here = subst (λ (d : Design). slice_get (net_names d.spef) c.net.at ≡ Some name) (sym c.net.invariant.design) c.net_name-name.ensures in
    c.net.invariant.free c.net.at name (omega arith) here n joined

pub net-preserved : goal.net-preserved
net-preserved c =
    let d = c.args.design.now in
    let prefix = c.args.judging.changes.prefix in
    let names = net_names d.spef in
    let at = c.net.at in
    let name = c.net_name-name.result.now in
    let old = c.net.judging in
    let made = c.in_ok-judged.judged in
    let one = c.in_ok-judged.ensures in
    let before = c.net.invariant in
    record {
      judged =
          subst (λ (some : List (List ℕ)). AreBestJudged d prefix some made.judging) (sym (take_next names at name c.net_name-name.ensures))
          (judged_more (IsBestSaid d) d prefix (take at names) old made.judging name one.verdict before.judged one.says one.more);
      design = (put_stays old.changes one.verdict.put made.judging.changes one.more.put).0 ∙ before.design;
      free = open_more d old.changes made.judging.changes at name one.verdict before.design before.free c.net_name-name.ensures (best_put d name one.verdict one.says) one.more.put;
    }

pub returns : goal.returns
returns c =
    let names = net_names c.args.design.now.spef in
    subst (λ (some : List (List ℕ)). AreBestJudged c.args.design.now c.args.judging.changes.prefix some c.net.judging)
    (take_all c.net.at names (omega (arith, c.net-test.false, c.net_count-at-end.ensures))) c.net.invariant.judged
