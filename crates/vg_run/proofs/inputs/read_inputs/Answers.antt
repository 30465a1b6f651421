use Rattle.std.proofs.Common.{◌<◌, ◌≤◌, ◌^◌, ◌∙◌, List, length, ap, subst, arith}
use Rattle.std.specs.List.{All}
use Rattle.std.proofs.Math.ListN.{get_or}
use Rattle.std.proofs.lemmas.List.{take_all}
use Rattle.vg_run.specs.Inputs.{texts_read}
use Rattle.vg_run.specs.Inputs.{told, IsRead}
use Rattle.vg_answer.specs.declared.input.Input.{Input}
use Rattle.vg_answer.specs.declared.input.Input.TheVariants.{Spef}
use Rattle.vg_run.proofs.InputLemmas.{reads_next, read_as, unread_is, writing_kept}
use Rattle.vg_run.proofs.inputs.read_inputs.Goals as goal

pub returns-in-Err-clause-unread : goal.returns-in-Err-clause-unread
returns-in-Err-clause-unread g c =
    let low : c.input.input-index < length c.inputs-order.result.now = omega (arith, c.input-test.true) in
    let named = c.name_of.ensures in
    unread_is c.args.ask.now (g.F.Files.state c.args.files.now) (g.F.Files.state c.input.files) (g.F.Files.state c.read_all.new.files) (texts_read c.input.texts) c.inputs-order.result.now c.input.input-index Spef c.in-Err.cause c.name_of.result.now
    c.inputs-order.ensures low c.input.invariant.read c.input.invariant.kept c.input.invariant.later named c.in-Err.ensures.failed
    (λ is. (c.in-Err.ensures.too_long is).1)

pub input-preserved : goal.input-preserved
input-preserved g c =
    let ask = c.args.ask.now in
    let before = g.F.Files.state c.args.files.now in
    let order = c.inputs-order.result.now in
    let i = c.input.input-index in
    let low : i < length order = omega (arith, c.input-test.true) in
    let named = c.name_of.ensures in
    let held = c.input.invariant.kept c.name_of.result.now ∙ ap before.holds named in
    let short : length c.in-Ok.bytes.items ≤ 2 ^ 28 = omega (arith, c.in-Ok.ensures.all_taken.0, c.in-Ok.ensures.all_taken.1) in
    record {
      read = reads_next (told before ask) (texts_read c.input.texts) (texts_read c.set.new.self) order i Spef c.in-Ok.bytes.items low c.input.invariant.read
          (read_as ((g.F.Files.state c.input.files).holds c.name_of.result.now) (told before ask (get_or order i Spef)) c.in-Ok.bytes.items held c.in-Ok.ensures.whole short) c.set.ensures.own c.set.ensures.each;
      kept = λ file. c.in-Ok.ensures.kept file ∙ c.input.invariant.kept file;
      writing = writing_kept before (g.F.Files.state c.input.files) (g.F.Files.state c.read_all.new.files) c.input.invariant.writing c.in-Ok.ensures.writing;
      later = omega (arith, c.input.invariant.later, c.in-Ok.ensures.never_falls);
    }

pub returns-clause-read : goal.returns-clause-read
returns-clause-read g c =
    subst (λ (list : List Input). All (λ x. IsRead (told (g.F.Files.state c.args.files.now) c.args.ask.now x) (texts_read c.input.texts x)) list)
    (take_all c.input.input-index c.inputs-order.result.now c.input-test.false ∙ c.inputs-order.ensures) c.input.invariant.read

pub returns-in-Err-clause-writing : goal.returns-in-Err-clause-writing
returns-in-Err-clause-writing g c =
    writing_kept (g.F.Files.state c.args.files.now) (g.F.Files.state c.input.files) (g.F.Files.state c.read_all.new.files) c.input.invariant.writing
    c.in-Err.ensures.writing
