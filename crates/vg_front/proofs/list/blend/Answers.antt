use Rattle.std.proofs.Common.{◌++◌, List, drop, sym, subst}
use Rattle.std.specs.Vec.{vec_capacity}
use Rattle.vg_front.specs.Seen.{stairs_of}
use Rattle.vg_front.specs.declared.offer.Candidate.{Candidate}
use Rattle.vg_front.specs.Offers.{offers_of}
use Rattle.vg_front.proofs.HeldLemmas.{one_live, one_held}
use Rattle.vg_front.proofs.ListLemmas.{IsBlending, blend_in, blend_kept, blend_gone, blend_ends}
use Rattle.vg_front.proofs.list.blend.Goals as goal

pub turns-preserved-in-Ok-1 : goal.turns-preserved-in-Ok-1
turns-preserved-in-Ok-1 c =
    subst (λ (out : List Candidate). IsBlending c.args.arena.now c.args.xs.now c.args.ys.now c.next_of.new.i c.next_of.new.j c.admits.new.self.cost
    (stairs_of c.admits.new.self) out (vec_capacity c.push.new.self) c.turns.arena) (sym c.in-Ok.ensures.items)
    (blend_kept c.args.arena.now c.turns.arena c.args.xs.now c.args.ys.now c.turns.i c.turns.j c.next_of.new.i c.next_of.new.j c.turns.stairs.cost
    c.admits.new.self.cost
    (stairs_of c.turns.stairs) (stairs_of c.admits.new.self) c.turns.all.items (vec_capacity c.turns.all) c.in-Some.x c.turns.invariant c.in-Some.ensures
    (vec_capacity c.push.new.self) c.in-Ok.ensures.capacity (c.if-admits.ensures (offers_of c.turns.all.items) c.turns.invariant.reached))

pub release-requires-clause-live : goal.release-requires-clause-live
release-requires-clause-live c =
    one_live c.turns.arena (c.turns.all.items ++ (drop c.turns.i c.args.xs.now ++ drop c.turns.j c.args.ys.now)) c.in-Some.x c.turns.invariant.held
    (blend_in c.args.arena.now c.turns.arena c.args.xs.now c.args.ys.now c.turns.i c.turns.j c.next_of.new.i c.next_of.new.j c.turns.stairs.cost
    c.admits.new.self.cost
    (stairs_of c.turns.stairs) (stairs_of c.admits.new.self) c.turns.all.items (vec_capacity c.turns.all) c.in-Some.x c.turns.invariant c.in-Some.ensures)

pub release-requires-clause-held : goal.release-requires-clause-held
release-requires-clause-held c =
    one_held _ (c.turns.all.items ++ (drop c.turns.i c.args.xs.now ++ drop c.turns.j c.args.ys.now)) c.in-Some.x c.turns.invariant.held
    (blend_in c.args.arena.now c.turns.arena c.args.xs.now c.args.ys.now c.turns.i c.turns.j c.next_of.new.i c.next_of.new.j c.turns.stairs.cost
    c.admits.new.self.cost
    (stairs_of c.turns.stairs) (stairs_of c.admits.new.self) c.turns.all.items (vec_capacity c.turns.all) c.in-Some.x c.turns.invariant c.in-Some.ensures)

pub turns-preserved : goal.turns-preserved
turns-preserved c =
    let told = c.if-admits.ensures (offers_of c.turns.all.items) c.turns.invariant.reached in
    blend_gone c.args.arena.now c.turns.arena c.args.xs.now c.args.ys.now c.turns.i c.turns.j c.next_of.new.i c.next_of.new.j c.turns.stairs.cost
    c.admits.new.self.cost
    (stairs_of c.turns.stairs) (stairs_of c.admits.new.self) c.turns.all.items (vec_capacity c.turns.all) c.in-Some.x c.turns.invariant c.in-Some.ensures
    c.release.new.self told.0 told.1 c.release.ensures

pub returns-clause-blend : goal.returns-clause-blend
returns-clause-blend c =
    (blend_ends c.args.arena.now c.turns.arena c.args.xs.now c.args.ys.now c.turns.i c.turns.j c.turns.stairs.cost (stairs_of c.turns.stairs)
    c.turns.all.items
    (vec_capacity c.turns.all) c.turns.invariant c.in_default.ensures.0 c.in_default.ensures.1).0

pub returns-clause-given : goal.returns-clause-given
returns-clause-given c =
    (blend_ends c.args.arena.now c.turns.arena c.args.xs.now c.args.ys.now c.turns.i c.turns.j c.turns.stairs.cost (stairs_of c.turns.stairs)
    c.turns.all.items
    (vec_capacity c.turns.all) c.turns.invariant c.in_default.ensures.0 c.in_default.ensures.1).1

pub returns-clause-same : goal.returns-clause-same
returns-clause-same c =
    (blend_ends c.args.arena.now c.turns.arena c.args.xs.now c.args.ys.now c.turns.i c.turns.j c.turns.stairs.cost (stairs_of c.turns.stairs)
    c.turns.all.items
    (vec_capacity c.turns.all) c.turns.invariant c.in_default.ensures.0 c.in_default.ensures.1).2
