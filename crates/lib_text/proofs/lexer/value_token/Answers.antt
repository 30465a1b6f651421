use Rattle.std.proofs.Common.{◌≡◌, ◌-◌, drop, arith}
use Rattle.lib_text.specs.declared.token.Content.TheVariants.{Value as OfValue}
use Rattle.lib_text.specs.declared.quoting.Quoting.TheVariants.{Outside}
use Rattle.lib_text.specs.Tokens.{end_of}
use Rattle.lib_text.proofs.TokenLemmas.{no_value, value_first}
use Rattle.lib_text.proofs.lexer.value_token.Goals as goal

pub returns-then-from-text : goal.returns-then-from-text
returns-then-from-text c = no_value c.args.text.now c.args.at c.blank_end-from.result c.requires c.blank_end-from.ensures.place c.if-from-text.true

pub returns : goal.returns
returns c =
    value_first c.args.text.now c.args.at c.blank_end-from.result c.content_end-to.result.0 c.value_kind.result c.requires c.blank_end-from.ensures.place
    (omega arith) c.content_end-to.ensures.place c.content_end-to.ensures.within
    (let n : c.content_end-to.result.0 - c.blank_end-from.result ≡ end_of OfValue Outside (drop c.blank_end-from.result c.args.text.now) = omega (arith, c.content_end-to.ensures.place) in
    rw (n, c.content_end-to.ensures.sound) at c.value_kind.ensures)
