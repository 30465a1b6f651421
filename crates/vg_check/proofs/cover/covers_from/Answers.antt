use Rattle.std.proofs.Common.{◌∙◌, refl, sym, arith}
use Rattle.std.proofs.lemmas.Bool.{false≢true}
use Rattle.vg_cert.specs.Fits.{list_of as entries_of}
use Rattle.vg_check.specs.Hulls.{pair_at}
use Rattle.vg_check.specs.Orders.{rank_at}
use Rattle.vg_check.proofs.CoverLemmas.{all_before, one_more}
use Rattle.vg_check.proofs.cover.covers_from.Goals as goal

pub returns-then-not-branch : goal.returns-then-not-branch
returns-then-not-branch c = (
  λ is. absurd (false≢true is),
  λ covers. absurd (false≢true (sym c.if-not-branch.true ∙ c.in_ok-covers_rep.ensures.covers.1 (λ allows. covers (rank_at c.args.order.now c.reps.at).rep (record {
    at_place = c.requires.place;
    named = c.requires.order.each c.reps.at c.reps-test.true;
    allows = allows;
  })))),
)

pub reps-preserved : goal.reps-preserved
reps-preserved c = record {
  hull = c.in_ok-covers_rep.ensures.hull;
  within = λ k at_k k_n i i_n.
      c.requires.order.rising c.reps.at k (pair_at c.args.pairs.now i).c (omega (arith, at_k)) k_n (c.in_ok-covers_rep.ensures.within i i_n);
  covers =
      one_more c.args.p.now c.args.node c.args.odd c.args.pairs.now (entries_of c.args.lists.now) c.args.order.now c.reps.at
      (λ choice. c.in_ok-covers_rep.ensures.covers.0 c.if-not-branch.false choice.allows) c.reps.invariant.covers;
}

pub returns : goal.returns
returns c = (
  λ _. all_before c.args.p.now c.args.node c.args.odd c.args.pairs.now (entries_of c.args.lists.now) c.args.order.now c.reps.at c.requires.order
      (omega (arith, c.reps-test.false)) c.reps.invariant.covers,
  λ _. refl,
)
