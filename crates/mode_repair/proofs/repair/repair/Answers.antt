use Rattle.std.proofs.Common.{ℕ, List, ap, refl, subst, sym}
use Rattle.std.specs.List.{flat_map}
use Rattle.ver_file.specs.Modules.{Denotes}
use Rattle.vg_change.specs.Changes.{Changes, nothing}
use Rattle.vg_design.specs.Designs.{Design}
use Rattle.vg_answer.specs.Nets.{named, nets_for}
use Rattle.vg_answer.specs.Verdicts.{put_in}
use Rattle.vg_place.proofs.PutLemmas.{put_stays}
use Rattle.mode_repair.specs.Answers.{Asked}
use Rattle.mode_repair.specs.Steps.{AreRepaired}
use Rattle.mode_repair.proofs.AnswerLemmas.{finished}
use Rattle.mode_repair.proofs.repair.repair.Goals as goal

pub finish-requires : goal.finish-requires
finish-requires c =
    let d = c.args.design.now in
    let all = c.in_ok-judging-in-Ok.field-0 in
    let are = c.in_ok-judging-in-Ok.ensures.judged in
    let stays = put_stays (nothing d c.in-Ok.changes.prefix) (flat_map put_in are.nets.verdicts) all.judging.changes are.put.put in
    record { read = (c.requires.read.0, subst (λ (e : Design). Denotes c.requires.read.0 e.netlist) (sym stays.0) c.requires.read.1) }

pub returns-in_ok-print-in-Ok : goal.returns-in_ok-print-in-Ok
returns-in_ok-print-in-Ok c =
    let d = c.args.design.now in
    let asked : Asked = record { net = named c.args.net; goal = c.args.goal; prefix = c.args.prefix.now } in
    let all = c.in_ok-judging-in-Ok.field-0 in
    let are = subst (λ (prefix : List ℕ). AreRepaired d asked.goal prefix (nets_for d asked.net) all) (ap (λ (changes : Changes). changes.prefix) c.in-Ok.ensures.made)
    c.in_ok-judging-in-Ok.ensures in
    (c.in-Ok.ensures.free, finished d asked all c.in_ok-judged-in-Ok.judged _ are c.in_ok-judged-in-Ok.ensures refl c.in_ok-print-in-Ok.ensures refl)
