use Rattle.std.proofs.Common.{map, subst, sym}
use Rattle.tests_pages.specs.Manual.{listed}
use Rattle.tests_pages.proofs.ManualLemmas.{IsNext, listed_all, listed_more}
use Rattle.tests_pages.proofs.manual.listed.Goals as goal

pub line-preserved : goal.line-preserved
line-preserved c =
    let (_, _, _, _, within) = c.in-Some.ensures.place in
    let told = c.in_ok-is_open.ensures in
    record {
      within = within;
      more = listed_more c.args.page.now c.line.at c.in-Some.next c.text_at.result.now c.line.is_open c.in_ok-is_open.is_open
          (map (λ option. option.now) c.line.found.items) (map (λ option. option.now) c.take_line.new.found.items) (listed c.args.page.now)
          (subst (λ text. IsNext c.args.page.now c.line.at text c.in-Some.next) (sym c.text_at.ensures) c.in-Some.ensures.words)
          c.line.invariant.more told.found told.after;
    }

pub returns : goal.returns
returns c =
    listed_all c.args.page.now c.line.at c.line.is_open (map (λ option. option.now) c.line.found.items) (listed c.args.page.now)
    c.in_default.ensures.words c.line.invariant.more
