use Rattle.std.proofs.Common.{refl}
use Rattle.ver_text.specs.declared.kind.Kind.TheVariants.{Identifier, Open}
use Rattle.ver_syntax.specs.declared.state.At.TheVariants.{Item as AtItem, Instance as AtInstance}
use Rattle.ver_syntax.specs.declared.state.Instance.TheVariants.{Pins}
use Rattle.ver_syntax.specs.declared.state.Item.TheVariants.{Start as ItemStart}
use Rattle.ver_syntax.proofs.PhraseLemmas.{phrase_of_3}
use Rattle.ver_syntax.proofs.phrase.past_name.Goals as goal

pub returns-in-Identifier-Identifier-Open : goal.returns-in-Identifier-Identifier-Open
returns-in-Identifier-Identifier-Open c =
    phrase_of_3 (AtItem ItemStart) (AtInstance Pins) c.args.rows.now Identifier Identifier Open c.in-len3-up.len_at_least
    c.in-Identifier-Identifier-Open.is-0 c.in-Identifier-Identifier-Open.is-1 c.in-Identifier-Identifier-Open.is-2 (λ bs. refl)
