use Rattle.std.proofs.Common.{◌≡◌, take}
use Rattle.clap.specs.Words.{app_of}
use Rattle.vg_words.specs.Command.{with_options}
use Rattle.vg_words.specs.Options.{options}
use Rattle.vg_words.proofs.command.command.Given as goal

abbrev pub invariant-option : goal.invariant-option
invariant-option l = app_of l.command ≡ with_options (take l.option-index options)
