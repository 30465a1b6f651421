use Rattle.std.proofs.Common.{ap, ◌∙◌}
use Rattle.vg_num.specs.Number.{value_of}
use Rattle.ver_text.specs.Kinds.{number_kind, digits_kind}
use Rattle.ver_text.proofs.KindLemmas.{kind_capped}
use Rattle.ver_text.proofs.words.digits_kind.Goals as goal

pub returns : goal.returns
unfolding digits_kind
returns c = c.number_kind.ensures ∙ ap number_kind c.number_of.ensures ∙ kind_capped (value_of c.args.digits.now)
