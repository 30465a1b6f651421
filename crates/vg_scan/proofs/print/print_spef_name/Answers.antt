use Rattle.std.proofs.Common.{◌∙◌, ap, ◌++◌, sym}
use Rattle.vg_scan.proofs.PrintedLemmas.{all_own_as_is}
use Rattle.vg_scan.proofs.print.print_spef_name.Goals as goal

pub returns-then-are_own-clause-printed : goal.returns-then-are_own-clause-printed
returns-then-are_own-clause-printed c =
    c.in_ok-extend_from_slice.ensures.items
    ∙ ap (λ text. c.args.to.now.items ++ text) (sym (all_own_as_is c.args.chars.now c.args.name.now (sym c.are_own.ensures ∙ c.if-are_own.true)))
