use Rattle.std.proofs.Common.{ap, refl, sym}
use Rattle.vg_answer.specs.Nets.{named, nets_for}
use Rattle.vg_answer.specs.Verdicts.{AreSaid}
use Rattle.vg_answer.proofs.VerdictLemmas.{first_net, said_as}
use Rattle.mode_frontier.specs.Answers.{IsFrontSaid}
use Rattle.mode_frontier.proofs.front.front_nets.Goals.{in-Some+in_ok-kind-in-Some, in-None+in_ok-kind-in-None}
use Rattle.mode_frontier.proofs.front.front_nets.Goals as goal

pub returns : goal.returns
returns c =
    let d = c.args.design.now in
    let Says = IsFrontSaid d c.args.cap in
    let said : AreSaid Says (nets_for d (named c.args.net)) c.match-net.kind c.match-net.text.items =
    elim c.match-net.branch [
      | in-Some+in_ok-kind-in-Some w ↦
          said_as Says (sym (ap (λ net. nets_for d (named net)) w.in-Some.is)) (sym w.kind-is) (sym (ap (λ to. to.items) w.text-is))
          (first_net Says w.in-Some.name.now _ c.new-text.result.items w.front_net.new.to.items c.new-text.ensures.items w.in_ok-kind-in-Some.ensures)
      | in-None+in_ok-kind-in-None w ↦
          said_as Says (sym (ap (λ net. nets_for d (named net)) w.in-None.is)) (sym w.kind-is) (sym (ap (λ to. to.items) w.text-is))
          w.in_ok-kind-in-None.ensures
    ] in
    record {
      nets = said_as Says refl (sym c.answer_text.ensures.kind_is) (sym c.answer_text.ensures.text_is) said;
      no_files = c.answer_text.ensures.no_files;
    }
