use Rattle.std.proofs.Common.{rules, ◌+◌, ◌<◌, length, drop, sym, ◌∙◌, subst, arith, Option, to_z, of_z}
use Rattle.std.specs.Int.{w128}
use mir.Val.{SFits}
use Rattle.std.proofs.lemmas.Bool.{false≢true}
use Rattle.std.proofs.lemmas.Int.{to_z-of_z}
use Rattle.cand_pool.specs.declared.ends.Cand.{Cand}
use Rattle.vg_convex.specs.Places.{candidate_at}
use Rattle.vg_convex.proofs.Numbers.{inside, at_place, point_told}
use Rattle.vg_convex.proofs.Walks.{IsGrowing, left_from, fewer_left, grown_one, grown_to, grown_all, grown_begins}
use Rattle.vg_convex.proofs.search.grow.Goals as goal

pub grow-smaller : goal.grow-smaller
grow-smaller g c =
    let (n, w) = c.requires.1 in
    let at = subst (λ (o : Option Cand). IsGrowing c.args.pool.now g.xs c.args.limit n c.grow.stack.items o (c.args.steps.now + length c.args.stack.now.items) c.grow.steps) c.in-Some.is (c.grow.invariant n w) in
    subst (λ (o : Option Cand). left_from c.args.pool.now c.next-next.result < left_from c.args.pool.now o) (sym c.in-Some.is)
    (fewer_left c.args.pool.now g.xs at.far.seen c.in-Some.place c.next-next.result at.far.walk.more c.next-next.ensures)

pub put_on-requires : goal.put_on-requires
put_on-requires g c κs within =
    let (n, w) = c.requires.1 in
    let at = subst (λ (o : Option Cand). IsGrowing c.args.pool.now g.xs c.args.limit n c.grow.stack.items o (c.args.steps.now + length c.args.stack.now.items) c.grow.steps) c.in-Some.is (c.grow.invariant n w) in
    let told = c.tell-q.ensures.told (candidate_at g.xs at.far.seen) (drop (at.far.seen + 1) g.xs) (at_place c.args.pool.now g.xs c.in-Some.place at.far.seen at.far.walk.more) in
    let fits : SFits w128 c.tell-q.result.0 = search rules in (
      within,
      (
        at.far.seen,
        at.far.walk.hull,
        point_told g.xs at.far.seen (to_z w128 (of_z w128 c.tell-q.result.0)) c.tell-q.result.1 c.tell-q.result.2
            (inside c.args.pool.now g.xs c.in-Some.place at.far.seen at.far.walk.more) (to_z-of_z w128 c.tell-q.result.0 fits ∙ told.0) told.1 told.2,
      ),
    )

pub grow-preserved : goal.grow-preserved
grow-preserved g c = λ n w.
    let at = subst (λ (o : Option Cand). IsGrowing c.args.pool.now g.xs c.args.limit n c.grow.stack.items o (c.args.steps.now + length c.args.stack.now.items) c.grow.steps) c.in-Some.is (c.grow.invariant n w) in
    let told = c.tell-q.ensures.told (candidate_at g.xs at.far.seen) (drop (at.far.seen + 1) g.xs) (at_place c.args.pool.now g.xs c.in-Some.place at.far.seen at.far.walk.more) in
    let fits : SFits w128 c.tell-q.result.0 = search rules in
    grown_one c.args.pool.now g.xs c.args.limit n c.grow.stack.items c.in-Some.place (c.args.steps.now + length c.args.stack.now.items) c.grow.steps
    c.put_on.new.stack.items c.next-next.result c.put_on.new.steps c.tell-q.result.1 at told.1 (c.if-not-is_within.ensures.0 (search rules))
    (c.in_ok-put_on.ensures.hull at.far.seen at.far.walk.hull
    (point_told g.xs at.far.seen (to_z w128 (of_z w128 c.tell-q.result.0)) c.tell-q.result.1 c.tell-q.result.2
    (inside c.args.pool.now g.xs c.in-Some.place at.far.seen at.far.walk.more) (to_z-of_z w128 c.tell-q.result.0 fits ∙ told.0) told.1 told.2)) c.next-next.ensures
    (omega (arith, c.in_ok-put_on.ensures.cost, c.tell-q.ensures.step))

pub returns-then-not-is_within-clause-grown : goal.returns-then-not-is_within-clause-grown
returns-then-not-is_within-clause-grown g c = λ n w.
    let at = subst (λ (o : Option Cand). IsGrowing c.args.pool.now g.xs c.args.limit n c.grow.stack.items o (c.args.steps.now + length c.args.stack.now.items) c.grow.steps) c.in-Some.is (c.grow.invariant n w) in
    let told = c.tell-q.ensures.told (candidate_at g.xs at.far.seen) (drop (at.far.seen + 1) g.xs) (at_place c.args.pool.now g.xs c.in-Some.place at.far.seen at.far.walk.more) in
    grown_to c.args.pool.now g.xs c.args.limit n c.grow.stack.items c.in-Some.place (c.args.steps.now + length c.args.stack.now.items) c.grow.steps c.tell-q.new.steps
    c.tell-q.result.1 at told.1 (λ within. false≢true (c.if-not-is_within.ensures.1 within)) (omega (arith, c.tell-q.ensures.step))

pub grow-init : goal.grow-init
grow-init g c = λ n w. grown_begins c.args.pool.now g.xs c.args.limit n c.args.stack.now.items c.args.next c.args.steps.now w

pub returns-in_default-clause-grown : goal.returns-in_default-clause-grown
returns-in_default-clause-grown g c = λ n w.
    let at = c.grow.invariant n w in
    grown_all c.args.pool.now g.xs c.args.limit n c.grow.stack.items c.grow.next (c.args.steps.now + length c.args.stack.now.items) c.grow.steps c.in_default.is at
