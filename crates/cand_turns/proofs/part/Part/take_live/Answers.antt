use Rattle.std.proofs.Common.{◌+◌, ◌++◌, [], ℕ, subst, arith}
use Rattle.std.proofs.lemmas.List.Sorted.{IsPermutation-refl, IsPermutation-append_comm}
use Rattle.elmore.specs.Trees.{parent_of}
use Rattle.sol_arena.specs.Arenas.{made_of}
use Rattle.cand_pairs.proofs.JoinLemmas.{parent_within}
use Rattle.cand_turns.specs.Swaps.{search}
use Rattle.cand_turns.specs.Branches.{classes_in, lists_of}
use Rattle.cand_turns.specs.Parts.{lists_in}
use Rattle.cand_turns.specs.Solved.{IsCarriedAt}
use Rattle.cand_turns.proofs.AddLemmas.{none_turn}
use Rattle.cand_turns.proofs.SwapLemmas.{turn_then, turn_among, swap_then, order_held, front_held}
use Rattle.cand_turns.proofs.PartLemmas.{err_answers, beside_small, part_beside, size_beside}
use Rattle.cand_turns.proofs.part.Part.take_live.Goals as goal

pub carry-requires-clause-held : goal.carry-requires-clause-held
carry-requires-clause-held g c =
    front_held (search c.args.pool.now c.args.arena.now) (lists_of c.args.branch) (lists_in c.args.self) (order_held (search c.args.pool.now c.args.arena.now) (lists_in c.args.self ++ lists_of c.args.branch) (lists_of c.args.branch ++ lists_in c.args.self) (IsPermutation-append_comm (lists_in c.args.self) (lists_of c.args.branch)) c.requires.held)

pub carry-requires-clause-load : goal.carry-requires-clause-load
carry-requires-clause-load g c =
    let small = beside_small c.args.p.now c.args.widths.now (c.args.node + 1) (parent_of c.args.p.now.tree.nodes c.args.node) (made_of c.args.arena.now) c.args.pool.now c.args.self
    (parent_within c.args.p.now c.args.node c.requires.below_root c.requires.node) c.requires.part in
    omega (arith, small, c.load_beside-load.ensures)

pub meet-requires-clause-held : goal.meet-requires-clause-held
meet-requires-clause-held g c =
    let whole = turn_among (search c.args.pool.now c.args.arena.now) (search c.carry.new.pool c.carry.new.arena) (lists_of c.args.branch) (lists_of c.in-Ok.carried) (lists_in c.args.self) (lists_in c.args.self ++ lists_of c.args.branch) (lists_in c.args.self ++ lists_of c.in-Ok.carried) c.requires.held
    (IsPermutation-append_comm (lists_of c.args.branch) (lists_in c.args.self)) (IsPermutation-append_comm (lists_of c.in-Ok.carried) (lists_in c.args.self)) c.in-Ok.ensures.turn in
    whole.held

pub meet-requires-clause-part : goal.meet-requires-clause-part
meet-requires-clause-part g c =
    part_beside c.args.p.now c.args.widths.now (c.args.node + 1) (parent_of c.args.p.now.tree.nodes c.args.node) c.args.arena.now c.carry.new.arena c.args.pool.now c.carry.new.pool
    (lists_of c.args.branch) (lists_of c.in-Ok.carried) c.args.self (order_held (search c.args.pool.now c.args.arena.now) (lists_in c.args.self ++ lists_of c.args.branch) (lists_of c.args.branch ++ lists_in c.args.self) (IsPermutation-append_comm (lists_in c.args.self) (lists_of c.args.branch)) c.requires.held) c.in-Ok.ensures.turn c.requires.part

pub meet-requires-clause-carried : goal.meet-requires-clause-carried
meet-requires-clause-carried g c =
    subst (λ (k : ℕ). IsCarriedAt c.args.p.now c.args.widths.now c.args.node k (made_of c.carry.new.arena) (classes_in c.carry.new.pool c.in-Ok.carried)) c.load_beside-load.ensures c.in-Ok.ensures.carried

pub give_up-requires : goal.give_up-requires
give_up-requires g c =
    let lost = turn_among (search c.args.pool.now c.args.arena.now) (search c.carry.new.pool c.carry.new.arena) (lists_of c.args.branch) [] (lists_in c.args.self) (lists_in c.args.self ++ lists_of c.args.branch) (lists_in c.args.self) c.requires.held
    (IsPermutation-append_comm (lists_of c.args.branch) (lists_in c.args.self)) (IsPermutation-refl (lists_in c.args.self)) (none_turn (search c.args.pool.now c.args.arena.now) (search c.carry.new.pool c.carry.new.arena) (lists_of c.args.branch) c.in-Err.ensures.turn) in
    record { held = lost.held }

pub returns-in_err-part-in-Ok-clause-turn : goal.returns-in_err-part-in-Ok-clause-turn
returns-in_err-part-in-Ok-clause-turn g c =
    let whole = turn_among (search c.args.pool.now c.args.arena.now) (search c.carry.new.pool c.carry.new.arena) (lists_of c.args.branch) (lists_of c.in-Ok.carried) (lists_in c.args.self) (lists_in c.args.self ++ lists_of c.args.branch) (lists_in c.args.self ++ lists_of c.in-Ok.carried) c.requires.held
    (IsPermutation-append_comm (lists_of c.args.branch) (lists_in c.args.self)) (IsPermutation-append_comm (lists_of c.in-Ok.carried) (lists_in c.args.self)) c.in-Ok.ensures.turn in
    err_answers c.from_residual.result _ _ c.from_residual.ensures.0
    (swap_then (search c.args.pool.now c.args.arena.now) (search c.carry.new.pool c.carry.new.arena) (search c.meet.new.pool c.meet.new.arena) (lists_in c.args.self ++ lists_of c.args.branch) (lists_in c.args.self ++ lists_of c.in-Ok.carried) [] whole.swap c.in_err-part-in-Ok.ensures.turn)

pub returns-in_ok-part-in-Ok-clause-turn : goal.returns-in_ok-part-in-Ok-clause-turn
returns-in_ok-part-in-Ok-clause-turn g c =
    let whole = turn_among (search c.args.pool.now c.args.arena.now) (search c.carry.new.pool c.carry.new.arena) (lists_of c.args.branch) (lists_of c.in-Ok.carried) (lists_in c.args.self) (lists_in c.args.self ++ lists_of c.args.branch) (lists_in c.args.self ++ lists_of c.in-Ok.carried) c.requires.held
    (IsPermutation-append_comm (lists_of c.args.branch) (lists_in c.args.self)) (IsPermutation-append_comm (lists_of c.in-Ok.carried) (lists_in c.args.self)) c.in-Ok.ensures.turn in
    turn_then (search c.args.pool.now c.args.arena.now) (search c.carry.new.pool c.carry.new.arena) (search c.meet.new.pool c.meet.new.arena) (lists_in c.args.self ++ lists_of c.args.branch) (lists_in c.args.self ++ lists_of c.in-Ok.carried) (lists_in c.in_ok-part-in-Ok.part) whole c.in_ok-part-in-Ok.ensures.turn

pub returns-in_ok-part-in-Ok-clause-few : goal.returns-in_ok-part-in-Ok-clause-few
returns-in_ok-part-in-Ok-clause-few g c = λ odd.
    omega (
      arith,
      c.in_ok-part-in-Ok.ensures.few odd,
      c.in-Ok.ensures.few odd,
      size_beside (search c.args.pool.now c.args.arena.now) (search c.carry.new.pool c.carry.new.arena) (lists_of c.args.branch) (lists_of c.in-Ok.carried) c.args.self (order_held (search c.args.pool.now c.args.arena.now) (lists_in c.args.self ++ lists_of c.args.branch) (lists_of c.args.branch ++ lists_in c.args.self) (IsPermutation-append_comm (lists_in c.args.self) (lists_of c.args.branch)) c.requires.held) c.in-Ok.ensures.turn odd,
    )

pub returns-in-Err-clause-turn : goal.returns-in-Err-clause-turn
returns-in-Err-clause-turn g c =
    let lost = turn_among (search c.args.pool.now c.args.arena.now) (search c.carry.new.pool c.carry.new.arena) (lists_of c.args.branch) [] (lists_in c.args.self) (lists_in c.args.self ++ lists_of c.args.branch) (lists_in c.args.self) c.requires.held
    (IsPermutation-append_comm (lists_of c.args.branch) (lists_in c.args.self)) (IsPermutation-refl (lists_in c.args.self)) (none_turn (search c.args.pool.now c.args.arena.now) (search c.carry.new.pool c.carry.new.arena) (lists_of c.args.branch) c.in-Err.ensures.turn) in
    swap_then (search c.args.pool.now c.args.arena.now) (search c.carry.new.pool c.carry.new.arena) (search c.give_up.new.pool c.give_up.new.arena) (lists_in c.args.self ++ lists_of c.args.branch) (lists_in c.args.self) [] lost.swap c.give_up.ensures.swap
