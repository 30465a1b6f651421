use Rattle.std.proofs.Common.{◌∙◌, sym, ap, arith, take}
use Rattle.vg_cert.specs.Readings.{put_before}
use Rattle.vg_cert.specs.Lines.{words}
use Rattle.vg_cert.proofs.PlaceLemmas.{rest_is}
use Rattle.vg_cert.proofs.WordLemmas.{words_few, words_none, words_blank_first, words_at}
use Rattle.vg_cert.proofs.words.first_word.Goals as goal

pub returns-in-None : goal.returns-in-None
returns-in-None c = words_few c.args.line.now (sym c.blank_at.ensures ∙ c.in-None.is)

pub returns-then-at-eq0 : goal.returns-then-at-eq0
returns-then-at-eq0 c = words_none c.args.line.now (words_blank_first c.args.line.now c.in-Some.at (sym c.blank_at.ensures ∙ c.in-Some.is) (omega (arith, c.if-at-eq0.true)))

pub returns : goal.returns
returns c =
    words_at c.args.line.now c.in-Some.at (sym c.blank_at.ensures ∙ c.in-Some.is) (omega (arith, c.if-at-eq0.false))
    ∙ ap (λ l. put_before (take c.in-Some.at c.args.line.now) (words l)) (sym (rest_is c.args.line.now _))
