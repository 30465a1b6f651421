use Rattle.std.proofs.Common.{◌+◌, ◌∙◌, arith, sym}
use Rattle.vg_scan.specs.Lines.{is_low}
use Rattle.vg_scan.proofs.FoundLemmas.{next_within, one_later, high_passed}
use Rattle.vg_scan.specs.Lines.{is_blank}
use Rattle.vg_scan.proofs.words.blank_from.Goals as goal

pub ink-init : goal.ink-init
ink-init c = record {
  within = next_within is_low c.args.line.now c.args.start c.low_from-at.result c.requires c.low_from-at.ensures;
  first = high_passed c.args.line.now c.args.start c.low_from-at.result c.low_from-at.ensures;
}

pub ink-preserved : goal.ink-preserved
ink-preserved c =
    let line = c.args.line.now in
    let at = c.ink.at in
    record {
      within = next_within is_low line (at + 1) c.low_from-at-in-ink.result (omega (arith, c.ink-test.true)) c.low_from-at-in-ink.ensures;
      first = high_passed line (at + 1) c.low_from-at-in-ink.result c.low_from-at-in-ink.ensures ∙ one_later is_blank line at (omega (arith, c.ink-test.true)) (sym c.is_blank.ensures ∙ c.if-not-is_blank.true) ∙ c.ink.invariant.first;
    }
