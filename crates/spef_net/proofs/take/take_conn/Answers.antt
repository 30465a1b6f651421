use Rattle.std.proofs.Common.{◌∷◌, subst, ap, ◌∙◌}
use Rattle.spef_net.specs.Builders.{PartialNet}
use Rattle.spef_file.specs.Files.{File}
use Rattle.spef_net.specs.Statements.{conn_line}
use Rattle.spef_net.specs.Views.{IsFaultOrMemory, fault_in}
use Rattle.spef_net.proofs.LineLemmas.{bad_line}
use Rattle.spef_net.proofs.take.take_conn.Goals as goal

pub returns-in-Err-clause-taken : goal.returns-in-Err-clause-taken
returns-in-Err-clause-taken c =
    bad_line c.args.builder.now.net c.args.builder.now c.args.builder.now _ c.in-Err.kind
    (subst (λ (file : File). IsFaultOrMemory (fault_in (conn_line file c.args.line.now (c.args.tag.now ∷ c.args.words))) c.in-Err.kind) (c.index.ensures ∙ ap (λ (s : PartialNet). s.file) c.builder.view_is) c.in-Err.ensures)
