-- The written files re-time to the slacks that are printed.
use Rattle.std.proofs.Common.{ℕ, List}
use Rattle.vg_slack.specs.declared.answer.Best.{Best}
use Rattle.vg_words.specs.Request.{IsRequest, prefix_of}
use Rattle.vg_words.specs.declared.ask.Ask.{Ask}
use Rattle.design_read.specs.Designs.{Texts}
use Rattle.vg_answer.specs.Answers.{Said}
use Rattle.vg_answer.specs.Nets.{nets_for}
use Rattle.vg_answer.specs.declared.kind.AnswerKind.{AnswerKind}
use Rattle.vg_answer.specs.declared.kind.AnswerKind.TheVariants.{Report}
use Rattle.place_laws.proofs.PutLemmas.{each_puts}
use Rattle.place_laws.proofs.RetimeLemmas.{written_placements_retime}
use Rattle.place_laws.specs.Laws.{AreWrittenWith, TellsPlacement}
use Rattle.mode_best.proofs.BestLemmas.{best_put}
use Rattle.mode_best.specs.Answers.{IsBestAnswer, IsBestSaid}
use Rattle.vg_run.specs.Modes.{best_asked}
use Rattle.vg_run.proofs.RequestLemmas.{prefix_is}
use Rattle.run_laws.specs.Laws.{TellsBest, WrittenFilesRetime}

module _ (words : List (List ℕ)) (ask : Ask) (texts : Texts) (kind : AnswerKind) (said : Said) (is : IsRequest words ask)
    (answer : IsBestAnswer texts (best_asked ask) kind said) where
  written_with : AreWrittenWith texts answer.design (prefix_of ask) ask.net answer.best_of.nets.verdicts answer.best_of.files
  written_with = record {
    design_of = answer.design_of;
    prefix_is = prefix_is words ask is;
    each =
        each_puts answer.design (IsBestSaid answer.design) (best_put answer.design) (nets_for answer.design ask.net) answer.best_of.nets.verdicts
        answer.best_of.nets.each;
    files_of = answer.best_of.files_of;
  }

  tells_placement : (name : List ℕ) (best : Best) → TellsBest answer name best → TellsPlacement answer.design ask.net answer.best_of.nets.verdicts name best
  tells_placement name best tells = record {
    place = tells.place;
    named = tells.named;
    net = tells.net;
    net_of = tells.net_of;
    is_good = record { good = tells.found.best.good; slack = tells.found.best.slack };
    kind = Report;
    told = tells.told;
  }

pub written_files_retime : WrittenFilesRetime
written_files_retime words ask texts kind said is answer name best tells =
    written_placements_retime texts answer.design (prefix_of ask) ask.net answer.best_of.nets.verdicts answer.best_of.files
    (written_with words ask texts kind said is answer) name best (tells_placement words ask texts kind said is answer name best tells)
