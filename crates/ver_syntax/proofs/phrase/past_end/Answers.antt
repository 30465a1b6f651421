use Rattle.std.proofs.Common.{refl}
use Rattle.ver_text.specs.declared.kind.Kind.TheVariants.{Close, Semicolon}
use Rattle.ver_syntax.specs.declared.state.At.TheVariants.{Instance as AtInstance, Item as AtItem}
use Rattle.ver_syntax.specs.declared.state.Instance.TheVariants.{PinEnd}
use Rattle.ver_syntax.specs.declared.state.Item.TheVariants.{Start as ItemStart}
use Rattle.ver_syntax.proofs.PhraseLemmas.{phrase_of_2}
use Rattle.ver_syntax.proofs.phrase.past_end.Goals as goal

pub returns-in-Close-Semicolon : goal.returns-in-Close-Semicolon
returns-in-Close-Semicolon c =
    phrase_of_2 (AtInstance PinEnd) (AtItem ItemStart) c.args.rows.now Close Semicolon c.in-len2-up.len_at_least
    c.in-Close-Semicolon.is-0 c.in-Close-Semicolon.is-1 (λ bs. refl)
