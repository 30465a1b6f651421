use Rattle.std.proofs.Common.{refl, arith}
use Rattle.std.proofs.lemmas.Bool.{false≢true}
use Rattle.std.proofs.lemmas.Int.{ints}
use Rattle.vg_check.proofs.CoverLemmas.{walk_passes, walk_goes_on, walk_ends, walk_fails}
use Rattle.vg_check.proofs.cover.covers.Goals as goal

pub returns-then-at-entries : goal.returns-then-at-entries
returns-then-at-entries c = (
  λ e. absurd (false≢true e),
  λ covered. absurd (walk_fails c.args.entries.now c.args.pairs.now c.walk.at c.walk.next c.requires.entries (omega arith) (λ more. absurd (omega arith))
      c.walk.invariant covered),
)

pub walk-preserved-then-entry-pair : goal.walk-preserved-then-entry-pair
walk-preserved-then-entry-pair c =
    walk_passes c.args.entries.now c.args.pairs.now c.walk.at c.walk.next c.requires.pairs (omega (arith, c.walk.invariant.inside)) (omega (arith, ints))
    c.walk.invariant

pub walk-preserved : goal.walk-preserved
walk-preserved c =
    walk_goes_on c.args.entries.now c.args.pairs.now c.walk.at c.walk.next (omega (arith, c.walk.invariant.inside)) (omega (arith, ints)) (omega arith)
    c.walk.invariant

pub returns-else-entry-pair-2 : goal.returns-else-entry-pair-2
returns-else-entry-pair-2 c = (
  λ e. absurd (false≢true e),
  λ covered. absurd (walk_fails c.args.entries.now c.args.pairs.now c.walk.at c.walk.next c.requires.entries (omega arith) (λ more. omega arith)
      c.walk.invariant covered),
)

pub returns : goal.returns
returns c = (
  λ _. walk_ends c.args.entries.now c.args.pairs.now c.walk.at c.walk.next (omega arith) c.walk.invariant,
  λ _. refl,
)
