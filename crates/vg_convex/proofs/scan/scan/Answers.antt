use Rattle.std.proofs.Common.{rules, ◌+◌, ◌<◌, drop, sym, ◌∙◌, subst, arith, Option, pos, to_z, of_z}
use Rattle.std.specs.Int.{w128}
use mir.Val.{SFits}
use Rattle.std.proofs.lemmas.Bool.{false≢true}
use Rattle.std.proofs.lemmas.Int.{to_z-of_z}
use Rattle.cand_pool.specs.declared.ends.Cand.{Cand}
use Rattle.vg_convex.specs.Places.{candidate_at}
use Rattle.vg_convex.proofs.Numbers.{inside, at_place, modest_at}
use Rattle.vg_convex.proofs.Scans.{IsScan, scan_begins, scan_more, scan_to, scan_ends}
use Rattle.vg_convex.proofs.Walks.{left_from, fewer_left}
use Rattle.vg_convex.proofs.scan.scan.Goals as goal

pub scan-init : goal.scan-init
scan-init g c =
    let (_, (list, _)) = c.requires in
    scan_begins c.args.pool.now g.xs c.args.rep.now c.first-next.result c.args.steps.now (c.first-next.ensures g.xs list)

pub time_before-time-requires-clause-low : goal.time_before-time-requires-clause-low
time_before-time-requires-clause-low g c =
    let at = subst (λ (o : Option Cand). IsScan c.args.pool.now g.xs c.args.rep.now o c.scan.found c.args.steps.now c.scan.steps) c.in-Some.is c.scan.invariant in
    let told = c.tell-q.ensures.told (candidate_at g.xs at.seen) (drop (at.seen + 1) g.xs) (at_place c.args.pool.now g.xs c.in-Some.place at.seen at.more) in
    let (_, (list, (rise, modest))) = c.requires in
    let small = modest_at g.xs at.seen (record { q = pos 0; c = 0; tag = 0 }) modest (inside c.args.pool.now g.xs c.in-Some.place at.seen at.more) in
    let fits : SFits w128 c.tell-q.result.0 = search rules in
    rw (to_z-of_z w128 c.tell-q.result.0 fits, told.0) small.low

pub time_before-time-requires-clause-high : goal.time_before-time-requires-clause-high
time_before-time-requires-clause-high g c =
    let at = subst (λ (o : Option Cand). IsScan c.args.pool.now g.xs c.args.rep.now o c.scan.found c.args.steps.now c.scan.steps) c.in-Some.is c.scan.invariant in
    let told = c.tell-q.ensures.told (candidate_at g.xs at.seen) (drop (at.seen + 1) g.xs) (at_place c.args.pool.now g.xs c.in-Some.place at.seen at.more) in
    let (_, (list, (rise, modest))) = c.requires in
    let small = modest_at g.xs at.seen (record { q = pos 0; c = 0; tag = 0 }) modest (inside c.args.pool.now g.xs c.in-Some.place at.seen at.more) in
    let fits : SFits w128 c.tell-q.result.0 = search rules in
    rw (to_z-of_z w128 c.tell-q.result.0 fits, told.0) small.high

pub time_before-time-requires-clause-load : goal.time_before-time-requires-clause-load
time_before-time-requires-clause-load g c =
    let at = subst (λ (o : Option Cand). IsScan c.args.pool.now g.xs c.args.rep.now o c.scan.found c.args.steps.now c.scan.steps) c.in-Some.is c.scan.invariant in
    let told = c.tell-q.ensures.told (candidate_at g.xs at.seen) (drop (at.seen + 1) g.xs) (at_place c.args.pool.now g.xs c.in-Some.place at.seen at.more) in
    let (_, (list, (rise, modest))) = c.requires in
    let small = modest_at g.xs at.seen (record { q = pos 0; c = 0; tag = 0 }) modest (inside c.args.pool.now g.xs c.in-Some.place at.seen at.more) in
    rw told.1 small.load

pub scan-smaller : goal.scan-smaller
scan-smaller g c =
    let at = subst (λ (o : Option Cand). IsScan c.args.pool.now g.xs c.args.rep.now o c.scan.found c.args.steps.now c.scan.steps) c.in-Some.is c.scan.invariant in
    subst (λ (o : Option Cand). left_from c.args.pool.now c.next-next.result < left_from c.args.pool.now o) (sym c.in-Some.is)
    (fewer_left c.args.pool.now g.xs at.seen c.in-Some.place c.next-next.result at.more c.next-next.ensures)

pub scan-preserved : goal.scan-preserved
scan-preserved g c =
    let at = subst (λ (o : Option Cand). IsScan c.args.pool.now g.xs c.args.rep.now o c.scan.found c.args.steps.now c.scan.steps) c.in-Some.is c.scan.invariant in
    let told = c.tell-q.ensures.told (candidate_at g.xs at.seen) (drop (at.seen + 1) g.xs) (at_place c.args.pool.now g.xs c.in-Some.place at.seen at.more) in
    let fits : SFits w128 c.time_before-time.result = search rules in
    let fits_q : SFits w128 c.tell-q.result.0 = search rules in
    scan_more c.args.pool.now g.xs c.args.rep.now c.in-Some.place c.next-next.result c.scan.found
    (record { time = to_z w128 (of_z w128 c.time_before-time.result); tag = c.tell-q.result.2 }) c.better.result c.args.steps.now c.scan.steps c.tell-q.new.steps
    c.tell-q.result.1 at told.1 (c.if-not-is_within.ensures.0 (search rules))
    (record {
      tag = told.2;
      time = to_z-of_z w128 c.time_before-time.result fits ∙ (rw (to_z-of_z w128 c.tell-q.result.0 fits_q, told.0, told.1) at c.time_before-time.ensures);
    }) c.better.ensures c.next-next.ensures (omega (arith, c.tell-q.ensures.step))

pub returns-then-not-is_within-clause-found : goal.returns-then-not-is_within-clause-found
returns-then-not-is_within-clause-found g c =
    let (_, (list, (rise, modest))) = c.requires in
    let at = subst (λ (o : Option Cand). IsScan c.args.pool.now g.xs c.args.rep.now o c.scan.found c.args.steps.now c.scan.steps) c.in-Some.is c.scan.invariant in
    let told = c.tell-q.ensures.told (candidate_at g.xs at.seen) (drop (at.seen + 1) g.xs) (at_place c.args.pool.now g.xs c.in-Some.place at.seen at.more) in
    scan_to c.args.pool.now g.xs c.args.rep.now c.in-Some.place c.scan.found c.args.steps.now c.scan.steps c.tell-q.result.1 rise at told.1
    (λ within. false≢true (c.if-not-is_within.ensures.1 within))

pub returns-then-not-is_within-clause-cost : goal.returns-then-not-is_within-clause-cost
returns-then-not-is_within-clause-cost g c =
    let at = subst (λ (o : Option Cand). IsScan c.args.pool.now g.xs c.args.rep.now o c.scan.found c.args.steps.now c.scan.steps) c.in-Some.is c.scan.invariant in
    omega (arith, at.cost, c.tell-q.ensures.step, inside c.args.pool.now g.xs c.in-Some.place at.seen at.more)

pub returns-in_default-clause-found : goal.returns-in_default-clause-found
returns-in_default-clause-found g c =
    let (_, (list, (rise, modest))) = c.requires in
    scan_ends c.args.pool.now g.xs c.args.rep.now c.scan.next c.scan.found c.args.steps.now c.scan.steps rise c.in_default.is c.scan.invariant
