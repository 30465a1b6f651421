use Rattle.std.proofs.Common.{true, false}
use Rattle.cand_turns.specs.Swaps.{search}
use Rattle.cand_turns.proofs.AbsorbLemmas.{branches_are, branches_mean, branches_turn, odds_two, odd_rises, other_rises}
use Rattle.cand_turns.proofs.MeetLemmas.{evens_two}
use Rattle.cand_turns.proofs.branch.Branch.absorb.Goals as goal

pub absorb-requires-clause-differ : goal.absorb-requires-clause-differ
absorb-requires-clause-differ g c =
    (evens_two (search c.args.pool.now c.args.arena.now) c.args.self.now.even c.args.self.now.odd c.args.other.even c.args.other.odd c.requires.held).apart

pub absorb-requires-clause-rising_list : goal.absorb-requires-clause-rising_list
absorb-requires-clause-rising_list g c = c.requires.rising false

pub absorb-requires-clause-rising_other : goal.absorb-requires-clause-rising_other
absorb-requires-clause-rising_other g c = c.requires.rising_other false

pub absorb-requires-2-clause-rising_list : goal.absorb-requires-2-clause-rising_list
absorb-requires-2-clause-rising_list g c =
    odd_rises c.args.arena.now c.absorb.new.arena c.args.pool.now c.absorb.new.pool c.args.self.now c.args.other c.absorb.new.list c.requires.held
    (record { list_is = c.absorb.ensures.list; uses = c.absorb.ensures.uses; same = c.absorb.ensures.same; others = c.absorb.ensures.others; free = c.absorb.ensures.spare }) (c.requires.rising true)

pub absorb-requires-2-clause-rising_other : goal.absorb-requires-2-clause-rising_other
absorb-requires-2-clause-rising_other g c =
    other_rises c.args.arena.now c.absorb.new.arena c.args.pool.now c.absorb.new.pool c.args.self.now c.args.other c.absorb.new.list c.requires.held
    (record { list_is = c.absorb.ensures.list; uses = c.absorb.ensures.uses; same = c.absorb.ensures.same; others = c.absorb.ensures.others; free = c.absorb.ensures.spare }) (c.requires.rising_other true)

pub absorb-requires-2-clause-live : goal.absorb-requires-2-clause-live
absorb-requires-2-clause-live g c =
    (odds_two c.args.arena.now c.absorb.new.arena c.args.pool.now c.absorb.new.pool c.args.self.now c.args.other c.absorb.new.list c.requires.held
    (record { list_is = c.absorb.ensures.list; uses = c.absorb.ensures.uses; same = c.absorb.ensures.same; others = c.absorb.ensures.others; free = c.absorb.ensures.spare })).one

pub absorb-requires-2-clause-other : goal.absorb-requires-2-clause-other
absorb-requires-2-clause-other g c =
    (odds_two c.args.arena.now c.absorb.new.arena c.args.pool.now c.absorb.new.pool c.args.self.now c.args.other c.absorb.new.list c.requires.held
    (record { list_is = c.absorb.ensures.list; uses = c.absorb.ensures.uses; same = c.absorb.ensures.same; others = c.absorb.ensures.others; free = c.absorb.ensures.spare })).two

pub absorb-requires-2-clause-differ : goal.absorb-requires-2-clause-differ
absorb-requires-2-clause-differ g c =
    (odds_two c.args.arena.now c.absorb.new.arena c.args.pool.now c.absorb.new.pool c.args.self.now c.args.other c.absorb.new.list c.requires.held
    (record { list_is = c.absorb.ensures.list; uses = c.absorb.ensures.uses; same = c.absorb.ensures.same; others = c.absorb.ensures.others; free = c.absorb.ensures.spare })).apart

pub absorb-requires-2-clause-held : goal.absorb-requires-2-clause-held
absorb-requires-2-clause-held g c =
    (odds_two c.args.arena.now c.absorb.new.arena c.args.pool.now c.absorb.new.pool c.args.self.now c.args.other c.absorb.new.list c.requires.held
    (record { list_is = c.absorb.ensures.list; uses = c.absorb.ensures.uses; same = c.absorb.ensures.same; others = c.absorb.ensures.others; free = c.absorb.ensures.spare })).both

pub returns-clause-classes : goal.returns-clause-classes
returns-clause-classes g c =
    branches_are c.args.arena.now c.absorb.new.arena c.args.pool.now c.absorb.new.pool c.args.self.now c.args.other c.absorb.new.list c.requires.held
    (record { list_is = c.absorb.ensures.list; uses = c.absorb.ensures.uses; same = c.absorb.ensures.same; others = c.absorb.ensures.others; free = c.absorb.ensures.spare })
    c.absorb-2.new.arena c.absorb-2.new.pool c.absorb-2.new.list
    (record { list_is = c.absorb-2.ensures.list; uses = c.absorb-2.ensures.uses; same = c.absorb-2.ensures.same; others = c.absorb-2.ensures.others; free = c.absorb-2.ensures.spare })

pub returns-clause-same : goal.returns-clause-same
returns-clause-same g c =
    branches_mean c.args.arena.now c.absorb.new.arena c.args.pool.now c.absorb.new.pool c.args.self.now c.args.other c.absorb.new.list c.requires.held
    (record { list_is = c.absorb.ensures.list; uses = c.absorb.ensures.uses; same = c.absorb.ensures.same; others = c.absorb.ensures.others; free = c.absorb.ensures.spare })
    c.absorb-2.new.arena c.absorb-2.new.pool c.absorb-2.new.list
    (record { list_is = c.absorb-2.ensures.list; uses = c.absorb-2.ensures.uses; same = c.absorb-2.ensures.same; others = c.absorb-2.ensures.others; free = c.absorb-2.ensures.spare })

pub returns-clause-turn : goal.returns-clause-turn
returns-clause-turn g c =
    branches_turn c.args.arena.now c.absorb.new.arena c.args.pool.now c.absorb.new.pool c.args.self.now c.args.other c.absorb.new.list c.requires.held
    (record { list_is = c.absorb.ensures.list; uses = c.absorb.ensures.uses; same = c.absorb.ensures.same; others = c.absorb.ensures.others; free = c.absorb.ensures.spare })
    c.absorb-2.new.arena c.absorb-2.new.pool c.absorb-2.new.list
    (record { list_is = c.absorb-2.ensures.list; uses = c.absorb-2.ensures.uses; same = c.absorb-2.ensures.same; others = c.absorb-2.ensures.others; free = c.absorb-2.ensures.spare })
