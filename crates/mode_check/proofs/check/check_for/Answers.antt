use Rattle.std.proofs.Common.{ℕ, List, ap, map, subst}
use Rattle.vg_answer.specs.Answers.{texts_in, written_by}
use Rattle.vg_verdict.proofs.NameLemmas.{names_fit}
use Rattle.mode_check.specs.Steps.{ChecksNet}
use Rattle.mode_check.proofs.check.check_for.Goals as goal

pub check_net-requires-clause-names : goal.check_net-requires-clause-names
check_net-requires-clause-names c = λ name net posed. names_fit (texts_in c.args.texts) c.in_ok-design.design name net c.in_ok-design.ensures.design posed

pub returns : goal.returns
returns c =
    let answer = c.in_ok-check_net.field-0 in
    let is =
    subst (λ (cert : List ℕ). ChecksNet c.in_ok-design.design c.args.name.now cert answer) c.deref.ensures.value c.in_ok-check_net.ensures in
    record {
      design = c.in_ok-design.design;
      design_of = c.in_ok-design.ensures.design;
      says = is.says;
      no_files = ap (map written_by) is.no_files;
    }
