use Rattle.std.proofs.Common.{sym, ◌∙◌}
use Rattle.vg_scan.specs.Lines.{part}
use Rattle.lib_text.proofs.ReadLemmas.{list_move}
use Rattle.lib_text.proofs.syntax.kind_for.Goals as goal

pub returns-else-wants_names : goal.returns-else-wants_names
returns-else-wants_names c =
    rw c.in-List.is (list_move c.args.state (part c.args.text.now c.args.token.from c.args.token.to) (sym c.wants_names.ensures ∙ c.if-wants_names.false))
