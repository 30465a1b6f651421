use Rattle.std.proofs.Common.{sym, ◌∙◌}
use Rattle.spef_nodes.proofs.SpellLemmas.{canonical_plain}
use Rattle.spef_nodes.proofs.node.plain_name.Goals as goal

pub returns : goal.returns
returns c = canonical_plain c.args.chars.now c.args.text.now c.requires (sym c.is_empty.ensures ∙ c.if-is_empty.false)
