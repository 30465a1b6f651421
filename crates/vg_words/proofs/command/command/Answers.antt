use Rattle.std.proofs.Common.{◌∙◌, sym, ap₂, arith}
use Rattle.std.proofs.lemmas.List.Sums.{fold_more}
use Rattle.clap.specs.Words.{with_rule}
use Rattle.vg_words.specs.Command.{bare, with_option}
use Rattle.vg_words.specs.Options.{options}
use Rattle.vg_words.specs.declared.option.Opt.TheVariants.{Mode}
use Rattle.vg_words.proofs.command.command.Goals as goal

pub option-preserved : goal.option-preserved
option-preserved c =
    c.in_ok-command.ensures.shape c.argument.ensures.local
    ∙ ap₂ with_rule c.option.invariant c.argument.ensures.rule
    ∙ sym (fold_more with_option bare options c.option.option-index Mode (omega (arith, c.option-test.true)))
