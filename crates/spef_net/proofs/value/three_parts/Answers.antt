use Rattle.std.proofs.Common.{sym, ◌∙◌}
use Rattle.spef_net.specs.Statements.{is_colon}
use Rattle.spef_net.proofs.PlaceLemmas.{no_value, three_parts, many_parts}
use Rattle.spef_net.proofs.value.three_parts.Goals as goal

pub returns-in-None : goal.returns-in-None
returns-in-None c = λ places.
    no_value places is_colon c.args.text.now c.text_from-rest.result.now c.args.at c.requires.first c.text_from-rest.ensures (sym c.colon_at.ensures.place ∙ c.in-None.is)

pub returns-in-None-colon_at : goal.returns-in-None-colon_at
returns-in-None-colon_at c =
    three_parts is_colon c.args.text.now c.text_from-rest.result.now c.text_from-high.result.now c.args.at c.in-Some.end
    c.requires.first c.text_from-rest.ensures (sym c.colon_at.ensures.place ∙ c.in-Some.is) c.text_from-high.ensures (sym c.colon_at-in-Some.ensures.place ∙ c.in-None-colon_at.is)

pub returns-in-Some-colon_at : goal.returns-in-Some-colon_at
returns-in-Some-colon_at c = λ places.
    many_parts places is_colon c.args.text.now c.text_from-rest.result.now c.text_from-high.result.now c.args.at c.in-Some.end c.in-Some-colon_at.field-0
    c.requires.first c.text_from-rest.ensures (sym c.colon_at.ensures.place ∙ c.in-Some.is) c.text_from-high.ensures (sym c.colon_at-in-Some.ensures.place ∙ c.in-Some-colon_at.is)
