use Rattle.std.proofs.Common.{rules, refl, List, subst, sym, take}
use Rattle.vg_front.specs.declared.runs.Run.{Run}
use Rattle.vg_front.specs.Runs.{AreRunsOf}
use Rattle.vg_front.proofs.RunLemmas.{runs_more, runs_all}
use Rattle.vg_front.proofs.runs.runs_of.Goals as goal

pub runs-preserved : goal.runs-preserved
runs-preserved c = record {
  within = c.run_end-end.ensures.within;
  so_far =
      subst (λ (l : List Run). AreRunsOf c.args.xs.now (take c.run_end-end.result c.args.xs.now) l) (sym c.in_ok-push.ensures.items)
      (runs_more c.args.xs.now c.runs.runs.items c.runs.from c.run_end-end.result _ _ c.requires.bounded c.run_end-end.ensures refl
      c.runs.invariant.so_far);
}

pub returns : goal.returns
returns c = runs_all c.args.xs.now c.runs.from c.runs.runs.items (search rules) c.runs.invariant.so_far
