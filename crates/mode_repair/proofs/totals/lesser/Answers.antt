use Rattle.std.proofs.Common.{ℤ, [], ◌∷◌, ◌++◌, false, ◌≡◌, Some, rules, sym, subst, of_z, to_z, to_z-of_z}
use Rattle.std.specs.Int.Signed.{le_z}
use Rattle.mode_repair.specs.Outcomes.{IsWorst}
use Rattle.mode_repair.proofs.TotalLemmas.{worst_lost}
use Rattle.mode_repair.proofs.totals.lesser.Goals as goal
use mir.Syntax.{w128}

pub returns-else-worst-slack : goal.returns-else-worst-slack
returns-else-worst-slack c = λ slacks is.
    let worst = c.in-Some.worst in
    let slack = c.args.slack in
    let same = to_z-of_z {w = w128} {z = slack} (search rules) in
    let also = to_z-of_z {w = w128} {z = worst} (search rules) in
    let before : IsWorst slacks (Some worst) = subst (IsWorst slacks) c.in-Some.is is in
    subst (λ (s : ℤ). IsWorst (slacks ++ slack ∷ []) (Some s)) (sym same)
    (worst_lost slacks worst slack before (subst (λ (w : ℤ). le_z w slack ≡ false) also (subst (λ (s : ℤ). le_z (to_z w128 (of_z w128 worst)) s ≡ false) same c.if-worst-slack.false)))
