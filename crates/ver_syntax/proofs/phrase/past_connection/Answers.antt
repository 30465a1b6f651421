use Rattle.std.proofs.Common.{refl}
use Rattle.ver_text.specs.declared.kind.Kind.TheVariants.{Dot, Identifier, Open, Close}
use Rattle.ver_syntax.specs.declared.state.At.TheVariants.{Instance as AtInstance}
use Rattle.ver_syntax.specs.declared.state.Instance.TheVariants.{Pins, PinEnd}
use Rattle.ver_syntax.proofs.PhraseLemmas.{phrase_of_5}
use Rattle.ver_syntax.proofs.phrase.past_connection.Goals as goal

pub returns-in-Dot-Identifier-Open-Identifier-Close : goal.returns-in-Dot-Identifier-Open-Identifier-Close
returns-in-Dot-Identifier-Open-Identifier-Close c =
    phrase_of_5 (AtInstance Pins) (AtInstance PinEnd) c.args.rows.now Dot Identifier Open Identifier Close c.in-len5-up.len_at_least
    c.in-Dot-Identifier-Open-Identifier-Close.is-0 c.in-Dot-Identifier-Open-Identifier-Close.is-1 c.in-Dot-Identifier-Open-Identifier-Close.is-2 c.in-Dot-Identifier-Open-Identifier-Close.is-3 c.in-Dot-Identifier-Open-Identifier-Close.is-4 (λ bs. refl)
