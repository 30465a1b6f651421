use Rattle.std.proofs.Common.{◌∙◌, map}
use Rattle.vg_answer.specs.Answers.{said_by, written_by}
use Rattle.vg_run.specs.Inputs.{texts_read}
use Rattle.vg_run.proofs.DeliverLemmas.{delivered}
use Rattle.vg_run.proofs.FileLemmas.{files_apart, spared}
use Rattle.vg_run.proofs.request.execute.Goals as goal

pub deliver-requires : goal.deliver-requires
deliver-requires g c =
    let ask = c.args.ask.now in
    let answer = c.in-Ok-answer.answer in
    record { apart = files_apart ask c.requires.apart ask.mode (texts_read c.in-Ok.texts) answer.kind (said_by answer) c.in-Ok-answer.ensures }

pub returns-in-Ok-answer-clause-ends : goal.returns-in-Ok-answer-clause-ends
returns-in-Ok-answer-clause-ends g c =
    let answer = c.in-Ok-answer.answer in
    delivered (g.F.Files.state c.args.files.now) (g.F.Files.state c.read_inputs.new.files) (g.F.Files.state c.deliver.new.files) c.in-Ok.ensures.kept c.in-Ok.ensures.writing c.args.ask.now
    (g.O.Out.state c.args.out.now, g.O.Out.state c.deliver.new.out) (texts_read c.in-Ok.texts) answer c.deliver.result c.in-Ok.ensures.read c.in-Ok-answer.ensures
    c.deliver.ensures.delivered

pub returns-in-Ok-answer-clause-kept : goal.returns-in-Ok-answer-clause-kept
returns-in-Ok-answer-clause-kept g c = λ file none.
    c.deliver.ensures.others file (spared c.args.ask.now file none (map written_by c.in-Ok-answer.answer.files.items)) ∙ c.in-Ok.ensures.kept file
