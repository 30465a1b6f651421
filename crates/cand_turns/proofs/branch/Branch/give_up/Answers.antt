use Rattle.std.proofs.Common.{◌∷◌, []}
use Rattle.cand_turns.specs.Swaps.{search}
use Rattle.cand_turns.proofs.SwapLemmas.{turn_then, beside}
use Rattle.cand_turns.proofs.BranchLemmas.{two_held, one_held, end_turn}
use Rattle.cand_turns.proofs.branch.Branch.give_up.Goals as goal

pub end_list-requires-clause-live : goal.end_list-requires-clause-live
end_list-requires-clause-live c = (two_held (search c.args.pool.now c.args.arena.now) c.args.self.even c.args.self.odd c.requires.held).one

pub end_list-requires-clause-held : goal.end_list-requires-clause-held
end_list-requires-clause-held c = (two_held (search c.args.pool.now c.args.arena.now) c.args.self.even c.args.self.odd c.requires.held).first

pub end_list-requires-2-clause-live : goal.end_list-requires-2-clause-live
end_list-requires-2-clause-live c =
    let two = two_held (search c.args.pool.now c.args.arena.now) c.args.self.even c.args.self.odd c.requires.held in
    let one = end_turn (search c.args.pool.now c.args.arena.now) (search c.end_list.new.pool c.end_list.new.arena) c.args.self.even c.end_list.ensures.uses c.end_list.ensures.others c.end_list.ensures.spare in
    let turn = beside (search c.args.pool.now c.args.arena.now) (search c.end_list.new.pool c.end_list.new.arena) (c.args.self.even ∷ []) [] (c.args.self.odd ∷ []) c.requires.held one in
    (one_held (search c.end_list.new.pool c.end_list.new.arena) c.args.self.odd turn.held).0

pub end_list-requires-2-clause-held : goal.end_list-requires-2-clause-held
end_list-requires-2-clause-held c =
    let two = two_held (search c.args.pool.now c.args.arena.now) c.args.self.even c.args.self.odd c.requires.held in
    let one = end_turn (search c.args.pool.now c.args.arena.now) (search c.end_list.new.pool c.end_list.new.arena) c.args.self.even c.end_list.ensures.uses c.end_list.ensures.others c.end_list.ensures.spare in
    let turn = beside (search c.args.pool.now c.args.arena.now) (search c.end_list.new.pool c.end_list.new.arena) (c.args.self.even ∷ []) [] (c.args.self.odd ∷ []) c.requires.held one in
    (one_held (search c.end_list.new.pool c.end_list.new.arena) c.args.self.odd turn.held).1

pub returns : goal.returns
returns c =
    let two = two_held (search c.args.pool.now c.args.arena.now) c.args.self.even c.args.self.odd c.requires.held in
    let one = end_turn (search c.args.pool.now c.args.arena.now) (search c.end_list.new.pool c.end_list.new.arena) c.args.self.even c.end_list.ensures.uses c.end_list.ensures.others c.end_list.ensures.spare in
    let turn = beside (search c.args.pool.now c.args.arena.now) (search c.end_list.new.pool c.end_list.new.arena) (c.args.self.even ∷ []) [] (c.args.self.odd ∷ []) c.requires.held one in
    let last = end_turn (search c.end_list.new.pool c.end_list.new.arena) (search c.end_list-2.new.pool c.end_list-2.new.arena) c.args.self.odd c.end_list-2.ensures.uses c.end_list-2.ensures.others c.end_list-2.ensures.spare in
    record { swap = (turn_then (search c.args.pool.now c.args.arena.now) (search c.end_list.new.pool c.end_list.new.arena) (search c.end_list-2.new.pool c.end_list-2.new.arena) _ _ _ turn last).swap }
