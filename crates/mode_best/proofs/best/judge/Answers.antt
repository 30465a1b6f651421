use Rattle.std.proofs.Common.{ℕ, List, ap, refl, subst, sym}
use Rattle.std.specs.List.{flat_map}
use Rattle.ver_file.specs.Modules.{Denotes}
use Rattle.vg_change.specs.Changes.{Changes, nothing}
use Rattle.vg_design.specs.Designs.{Design}
use Rattle.vg_answer.specs.Nets.{named}
use Rattle.vg_answer.specs.Verdicts.{put_in}
use Rattle.mode_best.specs.Answers.{Asked}
use Rattle.mode_best.specs.Steps.{AreCertified}
use Rattle.vg_place.proofs.PutLemmas.{put_stays}
use Rattle.mode_best.proofs.BestLemmas.{finished}
use Rattle.mode_best.proofs.best.judge.Goals as goal

pub finish-requires : goal.finish-requires
finish-requires c =
    let d = c.args.design.now in
    let asked : Asked = record { net = named c.args.net; prefix = c.args.prefix.now; certified = c.args.is_certified } in
    let are = (c.in_ok-all-in-Ok.ensures asked refl refl).nets in
    let stays = put_stays (nothing d c.in-Ok.changes.prefix) (flat_map put_in are.nets.verdicts) c.in_ok-all-in-Ok.all.judging.changes are.put.put in
    record { read = (c.requires.read.0, subst (λ (e : Design). Denotes c.requires.read.0 e.netlist) (sym stays.0) c.requires.read.1) }

pub returns-in_ok-judged-in-Ok : goal.returns-in_ok-judged-in-Ok
returns-in_ok-judged-in-Ok c =
    let d = c.args.design.now in
    let asked : Asked = record { net = named c.args.net; prefix = c.args.prefix.now; certified = c.args.is_certified } in
    let all = c.in_ok-all-in-Ok.all in
    let are = subst (λ (prefix : List ℕ). AreCertified d prefix asked all) (ap (λ (changes : Changes). changes.prefix) c.in-Ok.ensures.made)
    (c.in_ok-all-in-Ok.ensures asked refl refl) in
    (c.in-Ok.ensures.free, finished d asked all c.in_ok-judged-in-Ok.judged are c.in_ok-judged-in-Ok.ensures)
