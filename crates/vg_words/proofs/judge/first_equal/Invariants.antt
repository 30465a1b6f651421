use Rattle.std.proofs.Common.{◌≡◌, drop}
use Rattle.vg_words.specs.Options.{file_options}
use Rattle.vg_words.specs.Request.{first_equal}
use Rattle.vg_words.specs.Views.{given_by}
use Rattle.vg_words.proofs.judge.first_equal.Given as goal

abbrev pub invariant-file : goal.invariant-file
invariant-file l = first_equal (given_by l.given) file_options ≡ first_equal (given_by l.given) (drop l.at file_options)
