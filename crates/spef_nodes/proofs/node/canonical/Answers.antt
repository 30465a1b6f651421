use Rattle.std.proofs.Common.{sym, ◌∙◌}
use Rattle.spef_nodes.proofs.SpellLemmas.{canonical_plain}
use Rattle.spef_nodes.proofs.node.canonical.Goals as goal

pub returns-then-is_plain : goal.returns-then-is_plain
returns-then-is_plain c = canonical_plain c.args.chars.now c.args.text.now (sym c.is_plain.ensures ∙ c.if-is_plain.true) (sym c.is_empty.ensures ∙ c.if-is_empty.false)
