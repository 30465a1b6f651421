use Rattle.std.proofs.Common.{◌<◌, length, sym, ap, ◌∙◌, arith}
use Rattle.vg_words.specs.Options.{file_options}
use Rattle.vg_words.specs.Request.{with_one, first_equal}
use Rattle.vg_words.specs.Views.{given_by}
use Rattle.vg_words.specs.declared.option.Opt.TheVariants.{Mode}
use Rattle.std.proofs.Common.{drop, get_or, ◌+◌}
use Rattle.vg_words.proofs.EqualLemmas.{equal_at, equal_end}
use Rattle.vg_words.proofs.judge.first_equal.Goals as goal

pub returns-in-Some : goal.returns-in-Some
returns-in-Some c =
    let values = given_by c.args.given.now in
    let files = c.as_slice-files.result.now in
    let low : c.file.at < length files = omega (arith, c.file-test.true) in
    sym (c.file.invariant ∙ equal_at values files file_options c.file.at Mode c.first_equal_to.result c.as_slice-files.ensures low c.first_equal_to.ensures
    ∙ ap (λ o. with_one (get_or files c.file.at Mode) o (first_equal values (drop (c.file.at + 1) file_options))) c.in-Some.is)

pub file-preserved : goal.file-preserved
file-preserved c =
    let values = given_by c.args.given.now in
    let files = c.as_slice-files.result.now in
    let low : c.file.at < length files = omega (arith, c.file-test.true) in
    c.file.invariant ∙ equal_at values files file_options c.file.at Mode c.first_equal_to.result c.as_slice-files.ensures low c.first_equal_to.ensures
    ∙ ap (λ o. with_one (get_or files c.file.at Mode) o (first_equal values (drop (c.file.at + 1) file_options))) c.in_default.is

pub returns : goal.returns
returns c = sym (c.file.invariant ∙ equal_end (given_by c.args.given.now) file_options c.file.at (omega (arith, ap length c.as_slice-files.ensures, c.file-test.false)))
