use Rattle.std.proofs.Common.{rules, ◌+◌, ◌++◌, ◌<◌, take, drop, set, length, sym, ap, subst}
use Rattle.sol_arena.specs.Arenas.{slots_of, made_of}
use Rattle.vg_front.specs.Seen.{stairs_of}
use Rattle.vg_front.specs.Offers.{offers_of}
use Rattle.vg_front.specs.Held.{IsPruned, IsGiven, MeanTheSame}
use Rattle.vg_front.proofs.HeldLemmas.{one_live, one_held}
use Rattle.vg_front.proofs.ListLemmas.{prune_keeps, prune_drops, prune_holds, pruned_all, pruning_as}
use Rattle.vg_front.proofs.list.prune.Goals as goal
use Rattle.vg_front.proofs.list.prune.Goals.{then-admits, else-admits}

pub release-requires-clause-live : goal.release-requires-clause-live
release-requires-clause-live c =
    let inside : c.candidates.at < length c.args.list.now.items = search rules in
    one_live c.candidates.arena (take c.candidates.kept c.candidates.list.items ++ drop c.candidates.at c.args.list.now.items) c.index-x.result.now
    c.candidates.invariant.so_far.held
    (prune_holds c.args.arena.now c.candidates.arena c.args.list.now.items c.candidates.list.items c.candidates.at c.candidates.kept
    c.candidates.stairs.cost
    c.candidates.stairs.cost (stairs_of c.candidates.stairs) (stairs_of c.candidates.stairs) c.index-x.result.now c.candidates.invariant inside
    c.index-x.ensures)

pub release-requires-clause-held : goal.release-requires-clause-held
release-requires-clause-held c =
    let inside : c.candidates.at < length c.args.list.now.items = search rules in
    one_held (slots_of c.candidates.arena) (take c.candidates.kept c.candidates.list.items ++ drop c.candidates.at c.args.list.now.items)
    c.index-x.result.now
    c.candidates.invariant.so_far.held
    (prune_holds c.args.arena.now c.candidates.arena c.args.list.now.items c.candidates.list.items c.candidates.at c.candidates.kept
    c.candidates.stairs.cost
    c.candidates.stairs.cost (stairs_of c.candidates.stairs) (stairs_of c.candidates.stairs) c.index-x.result.now c.candidates.invariant inside
    c.index-x.ensures)

pub candidates-preserved : goal.candidates-preserved
candidates-preserved c =
    let inside : c.candidates.at < length c.args.list.now.items = search rules in
    elim c.if-admits.branch [
      | then-admits w ↦
          pruning_as c.args.arena.now c.args.list.now.items (c.candidates.at + 1) c.admits.new.self.cost (stairs_of c.admits.new.self)
          (set c.candidates.list.items c.candidates.kept c.index-x.result.now) c.if-admits.list.items (c.candidates.kept + 1) c.if-admits.kept
          c.candidates.arena c.if-admits.arena
          (ap (λ v. v.items) w.list-is) w.kept-is w.arena-is
          (prune_keeps c.args.arena.now c.candidates.arena c.args.list.now.items c.candidates.list.items c.candidates.at c.candidates.kept
          c.candidates.stairs.cost
          c.admits.new.self.cost (stairs_of c.candidates.stairs) (stairs_of c.admits.new.self) c.index-x.result.now c.candidates.invariant inside
          c.index-x.ensures
          (w.if-admits.ensures (offers_of (take c.candidates.kept c.candidates.list.items)) c.candidates.invariant.so_far.reached))
      | else-admits w ↦
          let told = w.if-admits.ensures (offers_of (take c.candidates.kept c.candidates.list.items)) c.candidates.invariant.so_far.reached in
          pruning_as c.args.arena.now c.args.list.now.items (c.candidates.at + 1) c.admits.new.self.cost (stairs_of c.admits.new.self)
          c.candidates.list.items c.if-admits.list.items c.candidates.kept c.if-admits.kept w.release.new.self c.if-admits.arena
          (ap (λ v. v.items) w.list-is) w.kept-is w.arena-is
          (prune_drops c.args.arena.now c.candidates.arena c.args.list.now.items c.candidates.list.items c.candidates.at c.candidates.kept
          c.candidates.stairs.cost
          c.admits.new.self.cost (stairs_of c.candidates.stairs) (stairs_of c.admits.new.self) c.index-x.result.now c.candidates.invariant inside
          c.index-x.ensures
          w.release.new.self told.0 told.1 w.release.ensures)
    ]

pub returns-clause-pruned : goal.returns-clause-pruned
returns-clause-pruned c =
    let all = pruned_all c.args.arena.now c.candidates.arena c.args.list.now.items c.candidates.list.items c.candidates.at c.candidates.kept
    c.candidates.stairs.cost
    (stairs_of c.candidates.stairs) c.candidates.invariant (search rules) in
    subst (IsPruned c.args.list.now.items) (sym c.truncate.ensures.items) all.0

pub returns-clause-uses : goal.returns-clause-uses
returns-clause-uses c =
    let all = pruned_all c.args.arena.now c.candidates.arena c.args.list.now.items c.candidates.list.items c.candidates.at c.candidates.kept
    c.candidates.stairs.cost
    (stairs_of c.candidates.stairs) c.candidates.invariant (search rules) in
    subst (IsGiven (slots_of c.args.arena.now) c.args.list.now.items (slots_of c.candidates.arena)) (sym c.truncate.ensures.items) all.1

pub returns-clause-same : goal.returns-clause-same
returns-clause-same c =
    let all = pruned_all c.args.arena.now c.candidates.arena c.args.list.now.items c.candidates.list.items c.candidates.at c.candidates.kept
    c.candidates.stairs.cost
    (stairs_of c.candidates.stairs) c.candidates.invariant (search rules) in
    subst (MeanTheSame (made_of c.args.arena.now) (made_of c.candidates.arena)) (sym c.truncate.ensures.items) all.2
