use Rattle.std.proofs.Common.{◌+◌, ◌++◌}
use Rattle.elmore.specs.Trees.{parent_of}
use Rattle.sol_arena.specs.Arenas.{made_of}
use Rattle.cand_pairs.proofs.JoinLemmas.{parent_within}
use Rattle.vg_front.specs.Branches.{list_of, all_of}
use Rattle.vg_front.proofs.BoundLemmas.{open_bounded, carried_bounded, pruned_bounded}
use Rattle.vg_front.proofs.GoneLemmas.{ArePruned, both_pruned, upper_same, lower_same, ups_held, lows_held, gone_for, gone_same, gone_open}
use Rattle.vg_front.proofs.JoinLemmas.{classes_apart, apart_within, apart_later}
use Rattle.vg_front.proofs.TwoLemmas.{second_held}
use Rattle.vg_front.proofs.branch.Branch.meet.Goals as goal

pub prune-requires-2 : goal.prune-requires-2
prune-requires-2 c = record {
  held = second_held c.args.arena.now c.prune.new.arena (all_of c.args.self) (all_of c.prune.new.self) (all_of c.args.lower) c.requires.held
      c.prune.ensures.given;
}

pub met_with-met-requires-clause-bounded_upper : goal.met_with-met-requires-clause-bounded_upper
met_with-met-requires-clause-bounded_upper c = λ odd.
    pruned_bounded (list_of c.args.self odd) (list_of c.prune.new.self odd) (c.prune.ensures.pruned odd)
    (open_bounded c.args.p.now c.args.cap (c.args.node + 1) (parent_of c.args.p.now.tree.nodes c.args.node) (made_of c.args.arena.now)
    (list_of c.args.self) (parent_within c.args.p.now c.args.node c.requires.below_root c.requires.node) c.requires.upper odd)

pub met_with-met-requires-clause-bounded_lower : goal.met_with-met-requires-clause-bounded_lower
met_with-met-requires-clause-bounded_lower c = λ odd.
    pruned_bounded (list_of c.args.lower odd) (list_of c.prune-2.new.self odd) (c.prune-2.ensures.pruned odd)
    (carried_bounded c.args.p.now c.args.cap c.args.node (made_of c.args.arena.now) (list_of c.args.lower) c.requires.node c.requires.lower odd)

pub met_with-met-requires-clause-held : goal.met_with-met-requires-clause-held
met_with-met-requires-clause-held c =
    let now : ArePruned c.args.arena.now c.prune-2.new.arena c.args.self c.args.lower c.prune.new.self c.prune-2.new.self
    = both_pruned c.args.arena.now c.prune.new.arena c.prune-2.new.arena c.args.self c.args.lower c.prune.new.self c.prune-2.new.self c.requires.held
    c.prune.ensures.given c.prune.ensures.same c.prune-2.ensures.given c.prune-2.ensures.same c.prune-2.ensures.pruned in
    now.held

pub met_with-met-requires-clause-apart : goal.met_with-met-requires-clause-apart
met_with-met-requires-clause-apart c = λ odd.
    let now : ArePruned c.args.arena.now c.prune-2.new.arena c.args.self c.args.lower c.prune.new.self c.prune-2.new.self
    = both_pruned c.args.arena.now c.prune.new.arena c.prune-2.new.arena c.args.self c.args.lower c.prune.new.self c.prune-2.new.self c.requires.held
    c.prune.ensures.given c.prune.ensures.same c.prune-2.ensures.given c.prune-2.ensures.same c.prune-2.ensures.pruned in
    apart_later (made_of c.args.arena.now) (made_of c.prune-2.new.arena) (list_of c.prune.new.self odd) (list_of c.prune-2.new.self odd)
    (upper_same (made_of c.args.arena.now) (made_of c.prune-2.new.arena) c.prune.new.self c.prune-2.new.self odd now.same)
    (lower_same (made_of c.args.arena.now) (made_of c.prune-2.new.arena) c.prune.new.self c.prune-2.new.self odd now.same)
    (apart_within (made_of c.args.arena.now) (list_of c.args.self odd) (list_of c.args.lower odd) (list_of c.prune.new.self odd)
    (list_of c.prune-2.new.self odd) (c.prune.ensures.pruned odd).part (c.prune-2.ensures.pruned odd).part
    (classes_apart c.args.p.now c.args.cap c.args.node c.requires.below_root c.requires.node c.requires.live (made_of c.args.arena.now)
    (list_of c.args.self) (list_of c.args.lower) c.requires.upper c.requires.lower odd))

pub give_up-requires : goal.give_up-requires
give_up-requires c =
    let now : ArePruned c.args.arena.now c.prune-2.new.arena c.args.self c.args.lower c.prune.new.self c.prune-2.new.self
    = both_pruned c.args.arena.now c.prune.new.arena c.prune-2.new.arena c.args.self c.args.lower c.prune.new.self c.prune-2.new.self c.requires.held
    c.prune.ensures.given c.prune.ensures.same c.prune-2.ensures.given c.prune-2.ensures.same c.prune-2.ensures.pruned in
    record {
      held = ups_held c.prune-2.new.arena c.met_with-met.new.arena c.prune.new.self c.prune-2.new.self c.met_with-met.result now.held
          c.met_with-met.ensures.given;
    }

pub give_up-requires-2 : goal.give_up-requires-2
give_up-requires-2 c =
    let now : ArePruned c.args.arena.now c.prune-2.new.arena c.args.self c.args.lower c.prune.new.self c.prune-2.new.self
    = both_pruned c.args.arena.now c.prune.new.arena c.prune-2.new.arena c.args.self c.args.lower c.prune.new.self c.prune-2.new.self c.requires.held
    c.prune.ensures.given c.prune.ensures.same c.prune-2.ensures.given c.prune-2.ensures.same c.prune-2.ensures.pruned in
    record {
      held = lows_held c.prune-2.new.arena c.met_with-met.new.arena c.prune.new.self c.prune-2.new.self c.met_with-met.result now.held
          c.met_with-met.ensures.given c.give_up.new.arena c.give_up.ensures.given;
    }

pub returns-clause-given : goal.returns-clause-given
returns-clause-given c =
    let now : ArePruned c.args.arena.now c.prune-2.new.arena c.args.self c.args.lower c.prune.new.self c.prune-2.new.self
    = both_pruned c.args.arena.now c.prune.new.arena c.prune-2.new.arena c.args.self c.args.lower c.prune.new.self c.prune-2.new.self c.requires.held
    c.prune.ensures.given c.prune.ensures.same c.prune-2.ensures.given c.prune-2.ensures.same c.prune-2.ensures.pruned in
    gone_for c.prune-2.new.arena c.met_with-met.new.arena c.prune.new.self c.prune-2.new.self c.met_with-met.result now.held c.met_with-met.ensures.given
    c.give_up.new.arena c.give_up.ensures.given c.give_up-2.new.arena c.give_up-2.ensures.given c.args.arena.now (all_of c.args.self ++ all_of c.args.lower)
    now.given

pub returns-clause-opened : goal.returns-clause-opened
returns-clause-opened c =
    let now : ArePruned c.args.arena.now c.prune-2.new.arena c.args.self c.args.lower c.prune.new.self c.prune-2.new.self
    = both_pruned c.args.arena.now c.prune.new.arena c.prune-2.new.arena c.args.self c.args.lower c.prune.new.self c.prune-2.new.self c.requires.held
    c.prune.ensures.given c.prune.ensures.same c.prune-2.ensures.given c.prune-2.ensures.same c.prune-2.ensures.pruned in
    gone_open c.args.p.now c.args.cap c.args.node (made_of c.args.arena.now) (made_of c.prune-2.new.arena) (made_of c.met_with-met.new.arena)
    (made_of c.give_up-2.new.arena) c.args.self c.args.lower c.prune.new.self c.prune-2.new.self c.met_with-met.result c.requires.below_root
    c.requires.node c.requires.live c.requires.upper c.requires.lower c.prune.ensures.pruned c.prune-2.ensures.pruned now.same c.met_with-met.ensures.met
    (gone_same c.prune-2.new.arena c.met_with-met.new.arena c.prune.new.self c.prune-2.new.self c.met_with-met.result now.held
    c.met_with-met.ensures.given c.give_up.new.arena c.give_up.ensures.given c.give_up-2.new.arena c.give_up-2.ensures.given)
