use Rattle.std.proofs.Common.{refl}
use Rattle.ver_text.specs.declared.kind.Kind.TheVariants.{Comma, Dot, Identifier, Open, Close}
use Rattle.ver_syntax.specs.declared.state.At.TheVariants.{Instance as AtInstance}
use Rattle.ver_syntax.specs.declared.state.Instance.TheVariants.{PinEnd}
use Rattle.ver_syntax.proofs.PhraseLemmas.{phrase_of_6}
use Rattle.ver_syntax.proofs.phrase.past_next_connection.Goals as goal

pub returns-in-Comma-Dot-Identifier-Open-Identifier-Close : goal.returns-in-Comma-Dot-Identifier-Open-Identifier-Close
returns-in-Comma-Dot-Identifier-Open-Identifier-Close c =
    phrase_of_6 (AtInstance PinEnd) (AtInstance PinEnd) c.args.rows.now Comma Dot Identifier Open Identifier Close c.in-len6-up.len_at_least
    c.in-Comma-Dot-Identifier-Open-Identifier-Close.is-0 c.in-Comma-Dot-Identifier-Open-Identifier-Close.is-1 c.in-Comma-Dot-Identifier-Open-Identifier-Close.is-2 c.in-Comma-Dot-Identifier-Open-Identifier-Close.is-3 c.in-Comma-Dot-Identifier-Open-Identifier-Close.is-4 c.in-Comma-Dot-Identifier-Open-Identifier-Close.is-5 (λ bs. refl)
