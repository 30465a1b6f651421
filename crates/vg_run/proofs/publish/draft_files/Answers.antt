use Rattle.std.proofs.Common.{◌∙◌, List, arith, map, subst}
use Rattle.std.proofs.lemmas.List.{length-map, take_all}
use Rattle.vg_answer.specs.Answers.{Written, written_by}
use Rattle.vg_run.specs.Drafts.{AreDrafts}
use Rattle.vg_run.proofs.DraftLemmas.{still_drafts}
use Rattle.vg_run.proofs.PublishLemmas.{drafted_here, is_among}
use Rattle.vg_run.proofs.publish.draft_files.Goals as goal

pub returns-in_default-clause-one_of : goal.returns-in_default-clause-one_of
returns-in_default-clause-one_of g c = is_among c.args.written.now c.file.file-index c.file-item.result c.file-test.true c.file-item.is

pub file-preserved : goal.file-preserved
file-preserved g c =
    let start = g.F.Files.state c.args.files.now in
    let mid = g.F.Files.state c.file.files in
    let new = g.F.Files.state c.draft_output.new.files in
    record {
      drafted = drafted_here c.args.written.now c.file.file-index c.file-item.result c.file-test.true c.file-item.is c.args.ask.now start mid new
          c.file.invariant.kept c.file.invariant.drafted c.in-Ok.ensures.drafted;
      shut = c.in-Ok.ensures.shut;
      kept = λ file. c.in-Ok.ensures.kept file ∙ c.file.invariant.kept file;
      later = omega (arith, c.file.invariant.later, c.in-Ok.ensures.never_falls);
    }

pub returns-clause-drafted : goal.returns-clause-drafted
returns-clause-drafted g c =
    let said = map written_by c.args.written.now in
    let start = g.F.Files.state c.args.files.now in
    let new = g.F.Files.state c.file.files in
    let all = take_all c.file.file-index said (omega (arith, c.file-test.false, length-map c.args.written.now written_by)) in
    still_drafts start new c.args.ask.now said new.drafts c.file.invariant.kept (subst (λ (list : List Written). AreDrafts start c.args.ask.now list new.drafts) all c.file.invariant.drafted)
