use Rattle.std.proofs.Common.{rules, ℕ, ℤ, Some, subst}
use Rattle.std.proofs.lemmas.Int.{to_z-of_z}
use Rattle.std.specs.Int.{w128}
use mir.Val.{SFits}
use Rattle.vg_front.specs.Points.{IsFrontierOf}
use Rattle.vg_repair.specs.Picks.{IsLastCap, IsSearched}
use Rattle.vg_repair.proofs.SearchLemmas.{if_searched, searched_widens}
use Rattle.vg_repair.proofs.search.search_below.Goals as goal

pub returns-then-best-target-clause-searched : goal.returns-then-best-target-clause-searched
returns-then-best-target-clause-searched c =
    let p = c.args.p.now in
    let cap = c.args.cap in
    let target = c.args.target in
    let best = c.args.best.now in
    let last = c.last_cap-last.result in
    let is = subst (λ (cost : ℕ). IsLastCap cap cost last) c.cost.ensures c.last_cap-last.ensures in
    if_searched (λ points. IsFrontierOf p (Some last) points.items) (λ points. IsSearched p cap target points.items) c.frontier_in.result
    (λ points front. searched_widens p cap target best.placement.cells best.slack last points.items c.requires.best.best is (IsSearched.whole front))
    c.frontier_in.ensures.frontier

pub returns-clause-searched : goal.returns-clause-searched
returns-clause-searched c =
    let p = c.args.p.now in
    let cap = c.args.cap in
    let target = c.args.target in
    let best = c.args.best.now in
    let last = c.last_cap-last.result in
    let fits : SFits w128 target = search rules in
    let is = subst (λ (cost : ℕ). IsLastCap cap cost last) c.cost.ensures c.last_cap-last.ensures in
    if_searched (λ points. IsSearched p (Some last) _ points.items) (λ points. IsSearched p cap target points.items) c.near_points.result
    (λ points searched.
    searched_widens p cap target best.placement.cells best.slack last points.items c.requires.best.best is
    (subst (λ (x : ℤ). IsSearched p (Some last) x points.items) (to_z-of_z w128 target fits) searched))
    c.near_points.ensures.searched
