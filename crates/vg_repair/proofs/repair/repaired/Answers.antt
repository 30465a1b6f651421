use Rattle.std.proofs.Common.{rules, ℤ, subst, to_z, of_z}
use Rattle.std.proofs.lemmas.Int.{to_z-of_z}
use Rattle.std.specs.Int.{w128}
use mir.Val.{SFits}
use Rattle.vg_repair.specs.Repairs.{NeedsCells, IsRepairAnswer}
use Rattle.vg_repair.proofs.RepairLemmas.{needs_cells}
use Rattle.vg_repair.proofs.repair.repaired.Goals as goal

pub returns-clause-repair : goal.returns-clause-repair
returns-clause-repair c =
    let fits : SFits w128 c.args.target = search rules in
    let needs : NeedsCells c.args.p.now (to_z w128 (of_z w128 c.args.target)) =
    needs_cells c.args.p.now (to_z w128 (of_z w128 c.args.target)) c.in_ok-bare.bare c.in_ok-bare.ensures c.if-is_enough.ensures in
    subst (λ (target : ℤ). IsRepairAnswer c.args.p.now c.args.cap target c.repair_by.result) (to_z-of_z w128 c.args.target fits)
    (c.repair_by.ensures c.args.p.now c.args.cap c.in_ok-points.ensures.searched c.in_ok-bare.ensures needs)
