use Rattle.std.proofs.Common.{◌∙◌, ap, subst}
use Rattle.ver_module.specs.Netlists.{NetTable}
use Rattle.ver_items.specs.Declarations.{declared_of}
use Rattle.ver_file.specs.Tables.{DeclareOnly}
use Rattle.ver_file.proofs.nets.nets_of.Goals as goal

pub returns-clause-nets : goal.returns-clause-nets
returns-clause-nets c = record {
  names = ap (λ (t : NetTable). t.names) c.in_ok-nets.ensures ∙ c.requires.names;
  identifiers = ap (λ (t : NetTable). t.identifiers) c.in_ok-nets.ensures ∙ c.shrink_to_fit.ensures.items ∙ c.requires.all;
  only = subst (λ names. DeclareOnly (declared_of c.args.text.now) names) c.requires.names c.requires.only;
}
