use Rattle.std.proofs.Common.{ℤ, [], ◌∷◌, ◌++◌, Some, rules, sym, subst, to_z-of_z}
use Rattle.std.specs.List.{flat_map}
use Rattle.mode_repair.specs.Outcomes.{IsWorst, slacks_in}
use Rattle.mode_repair.proofs.TotalLemmas.{met_more, none_good_more, refused_more, short_more}
use Rattle.mode_repair.proofs.totals.Totals.with.Goals as goal
use mir.Syntax.{w128}

pub returns-in-Met : goal.returns-in-Met
returns-in-Met c = λ before are.
    let slack = c.in-Met.slack in
    let worst = c.lesser.result in
    let slacks = flat_map slacks_in before in
    let passed = to_z-of_z {w = w128} {z = slack} (search rules) in
    let same = to_z-of_z {w = w128} {z = worst} (search rules) in
    let least : IsWorst (slacks ++ slack ∷ []) (Some worst)
    = subst (λ (s : ℤ). IsWorst (slacks ++ s ∷ []) (Some worst)) passed (c.lesser.ensures slacks are.worst) in
    met_more before c.args.self are slack _ c.args.outcome c.in-Met.is
    (subst (λ (s : ℤ). IsWorst (slacks ++ slack ∷ []) (Some s)) (sym same) least)

pub returns-in-Short : goal.returns-in-Short
returns-in-Short c = λ before are.
    let slack = c.in-Short.slack in
    let worst = c.lesser-in-Short.result in
    let slacks = flat_map slacks_in before in
    let passed = to_z-of_z {w = w128} {z = slack} (search rules) in
    let same = to_z-of_z {w = w128} {z = worst} (search rules) in
    let least : IsWorst (slacks ++ slack ∷ []) (Some worst)
    = subst (λ (s : ℤ). IsWorst (slacks ++ s ∷ []) (Some worst)) passed (c.lesser-in-Short.ensures slacks are.worst) in
    short_more before c.args.self are slack _ c.args.outcome c.in-Short.is
    (subst (λ (s : ℤ). IsWorst (slacks ++ slack ∷ []) (Some s)) (sym same) least)

pub returns-in-NoneGood : goal.returns-in-NoneGood
returns-in-NoneGood c = λ before are. none_good_more before c.args.self are c.args.outcome c.in-NoneGood.is

pub returns-in-Refused : goal.returns-in-Refused
returns-in-Refused c = λ before are. refused_more before c.args.self are c.args.outcome c.in-Refused.is
