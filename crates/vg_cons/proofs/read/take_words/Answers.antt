use Rattle.std.proofs.Common.{sym, ◌∙◌}
use Rattle.vg_scan.specs.Spans.{part_at, words_at}
use Rattle.vg_cons.proofs.WordLemmas.{no_words, some_words, takes_empty, takes_first, takes_words}
use Rattle.vg_cons.proofs.read.take_words.Goals as goal

pub returns-then-is_empty : goal.returns-then-is_empty
returns-then-is_empty c =
    takes_empty c.args.cons.now (words_at c.args.bytes.now c.args.words.now)
    (no_words (part_at c.args.bytes.now) c.args.words.now (sym c.is_empty.ensures ∙ c.if-is_empty.true))

pub returns-in-None : goal.returns-in-None
returns-in-None c =
    takes_first c.begin.result c.heading_of.result c.args.cons.now c.begin.new.self (words_at c.args.bytes.now c.args.words.now) c.heading_of.ensures
    (sym c.format.ensures ∙ c.in-None.is) (some_words (part_at c.args.bytes.now) c.args.words.now (sym c.is_empty.ensures ∙ c.if-is_empty.false)) c.begin.ensures

pub returns-in-Some : goal.returns-in-Some
returns-in-Some c =
    takes_words c.take_row.result c.in-Some.format c.args.cons.now c.take_row.new.cons (words_at c.args.bytes.now c.args.words.now)
    (sym c.format.ensures ∙ c.in-Some.is) (some_words (part_at c.args.bytes.now) c.args.words.now (sym c.is_empty.ensures ∙ c.if-is_empty.false)) c.take_row.ensures
