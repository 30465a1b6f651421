use Rattle.std.proofs.Common.{arith, map, subst}
use Rattle.std.proofs.lemmas.List.{length-map, take_all}
use Rattle.vg_answer.specs.Answers.{written_by}
use Rattle.vg_run.specs.Run.{AreHeld, OthersStay}
use Rattle.vg_run.proofs.PublishLemmas.{failed_here, fails_at_it, published_here, waits_here}
use Rattle.vg_run.proofs.publish.publish_files.Goals as goal

pub publish_output-requires : goal.publish_output-requires
publish_output-requires g c = record {
  shut = c.file.invariant.shut;
  one_waits = waits_here c.args.written.now c.file.file-index c.file-item.result c.file-test.true c.file-item.is c.args.ask.now
      (g.F.Files.state c.args.files.now) (g.F.Files.state c.file.files) (g.F.Files.state c.file.files) c.file.invariant.waiting;
}

pub returns-in_default-clause-failed : goal.returns-in_default-clause-failed
returns-in_default-clause-failed g c =
    failed_here c.args.written.now c.file.file-index c.file-item.result c.file-test.true c.file-item.is c.args.ask.now (g.F.Files.state c.args.files.now)
    (g.F.Files.state c.file.files) (g.F.Files.state c.publish_output.new.files) c.requires.apart c.file.invariant.held c.file.invariant.others c.in_default.ensures.kept

pub returns-in_default-clause-cause : goal.returns-in_default-clause-cause
returns-in_default-clause-cause g c =
    fails_at_it c.args.written.now c.file.file-index c.file-item.result c.file-test.true c.file-item.is c.args.ask.now (g.F.Files.state c.args.files.now)
    (g.F.Files.state c.file.files) (g.F.Files.state c.publish_output.new.files) c.file.invariant.waiting c.file.invariant.later c.in_default.ensures.named c.in_default.ensures.failed

pub returns-in_default-clause-others : goal.returns-in_default-clause-others
returns-in_default-clause-others g c = (returns-in_default-clause-failed g c).others

pub file-preserved : goal.file-preserved
file-preserved g c =
    let (held, others, waiting) =
    published_here c.args.written.now c.file.file-index c.file-item.result c.file-test.true c.file-item.is c.args.ask.now (g.F.Files.state c.args.files.now)
    (g.F.Files.state c.file.files) (g.F.Files.state c.publish_output.new.files) c.requires.apart c.file.invariant.held c.file.invariant.others c.file.invariant.waiting c.in-Ok.ensures.published in
    record {
      held = held;
      others = others;
      waiting = waiting;
      shut = c.in-Ok.ensures.shut;
      later = omega (arith, c.file.invariant.later, c.in-Ok.ensures.never_falls);
    }

pub returns-clause-held : goal.returns-clause-held
returns-clause-held g c =
    let said = map written_by c.args.written.now in
    let all = take_all c.file.file-index said (omega (arith, c.file-test.false, length-map c.args.written.now written_by)) in
    subst (AreHeld (g.F.Files.state c.args.files.now, g.F.Files.state c.file.files) c.args.ask.now) all c.file.invariant.held

pub returns-clause-others : goal.returns-clause-others
returns-clause-others g c =
    let said = map written_by c.args.written.now in
    let all = take_all c.file.file-index said (omega (arith, c.file-test.false, length-map c.args.written.now written_by)) in
    subst (OthersStay (g.F.Files.state c.args.files.now, g.F.Files.state c.file.files) c.args.ask.now) all c.file.invariant.others
