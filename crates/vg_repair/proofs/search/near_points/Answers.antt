use Rattle.std.proofs.Common.{rules, ℤ, subst}
use Rattle.std.proofs.lemmas.Int.{to_z-of_z}
use Rattle.std.proofs.lemmas.Nat.{shr_le}
use Rattle.std.specs.Int.{w128}
use mir.Val.{SFits}
use Rattle.vg_repair.specs.Picks.{HasEnough, IsSearched}
use Rattle.vg_repair.proofs.RestoredLemmas.{restored_twice}
use Rattle.vg_repair.proofs.search.near_points.Goals as goal

pub returns-then-has_enough-clause-searched : goal.returns-then-has_enough-clause-searched
returns-then-has_enough-clause-searched c =
    let fits : SFits w128 c.args.target = search rules in
    let passed = subst (λ (target : ℤ). HasEnough target c.deref.result.now) (to_z-of_z w128 c.args.target fits) c.if-has_enough.ensures in
    IsSearched.first _ (shr_le c.args.last _) c.in_ok-points.ensures.frontier (subst (HasEnough c.args.target) c.deref.ensures.value passed)

pub returns-then-has_enough-clause-restored : goal.returns-then-has_enough-clause-restored
returns-then-has_enough-clause-restored c = restored_twice _ _ _ c.halvings.invariant.restored c.frontier_in.ensures.restored

pub halvings-preserved : goal.halvings-preserved
halvings-preserved c = record { restored = restored_twice _ _ _ c.halvings.invariant.restored c.frontier_in.ensures.restored }
