use Rattle.std.proofs.Common.{◌∷◌, refl, sym, subst, Ok, Err}
use Rattle.spef_net.specs.Statements.{statement_in}
use Rattle.spef_net.specs.Builders.{Takes}
use Rattle.spef_net.proofs.LineLemmas.{bad_line}
use Rattle.spef_net.specs.declared.part.Part.{Part}
use Rattle.spef_net.specs.declared.fault.NetKind.TheVariants.{Conn}
use Rattle.spef_net.proofs.TakeLemmas.{takes_nothing}
use Rattle.spef_net.proofs.take.take_in.Goals as goal

pub returns-in-Nowhere-clause-taken : goal.returns-in-Nowhere-clause-taken
returns-in-Nowhere-clause-taken c =
    subst (λ (p : Part). Takes (Err Conn) c.args.builder.now.net c.args.builder.now (statement_in p (c.args.builder.now.file) c.args.line.now (c.args.first.now ∷ c.args.words)) c.args.builder.now) (sym c.in-Nowhere.is)
    (bad_line c.args.builder.now.net c.args.builder.now c.args.builder.now (Err Conn) Conn refl)

pub returns-in-Inducs-clause-taken : goal.returns-in-Inducs-clause-taken
returns-in-Inducs-clause-taken c =
    subst (λ (p : Part). Takes (Ok tt) c.args.builder.now.net c.args.builder.now (statement_in p (c.args.builder.now.file) c.args.line.now (c.args.first.now ∷ c.args.words)) c.args.builder.now) (sym c.in-Inducs.is)
    (takes_nothing c.args.builder.now.net c.args.builder.now tt)
