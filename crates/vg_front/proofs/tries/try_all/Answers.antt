use Rattle.std.proofs.Common.{rules, [], List, arith, subst}
use Rattle.std.proofs.lemmas.List.{take_all}
use Rattle.vg_front.specs.declared.offer.Candidate.{Candidate}
use Rattle.vg_front.specs.Offers.{Adds, OfSome}
use Rattle.vg_front.specs.Tries.{IsTriedBy}
use Rattle.vg_front.proofs.OfferLemmas.{adds_none}
use Rattle.vg_front.proofs.RunLemmas.{run_alone}
use Rattle.vg_front.proofs.TakenLemmas.{between_in}
use Rattle.vg_front.proofs.TryLemmas.{runs_tried}
use Rattle.vg_front.proofs.tries.try_all.Goals as goal

pub runs-init : goal.runs-init
runs-init c = record {
  within = omega arith;
  tried =
      adds_none (OfSome c.args.numbers.now (IsTriedBy c.args.site c.args.reps.now [])) c.args.made.now.items
      (λ q (b, b_in, (x, (k, k_n, e), may, is)). absurd (omega arith));
  bests = c.requires.bests;
}

pub try_run-requires-clause-run : goal.try_run-requires-clause-run
try_run-requires-clause-run c = run_alone c.args.xs.now c.runs.from c.run_end-end.result c.run_end-end.ensures

pub try_run-requires-clause-bounded : goal.try_run-requires-clause-bounded
try_run-requires-clause-bounded c = λ x found.
    c.requires.bounded x (between_in c.args.xs.now c.runs.from c.run_end-end.result x c.run_end-end.ensures.within found)

pub runs-preserved : goal.runs-preserved
runs-preserved c = record {
  within = c.run_end-end.ensures.within;
  tried =
      runs_tried c.args.site c.args.reps.now c.args.numbers.now c.args.xs.now c.runs.from c.run_end-end.result c.args.made.now.items c.runs.made.items
      c.try_run.new.made.items (omega (arith, c.run_end-end.ensures.some)) c.run_end-end.ensures.within c.runs.invariant.tried
      c.in_ok-try_run.ensures.tried;
  bests = c.in_ok-try_run.ensures.bests;
}

pub returns : goal.returns
returns c =
    subst (λ (l : List Candidate). Adds (OfSome c.args.numbers.now (IsTriedBy c.args.site c.args.reps.now l)) c.args.made.now.items c.runs.made.items)
    (take_all c.runs.from c.args.xs.now (search rules)) c.runs.invariant.tried
