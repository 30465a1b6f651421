use Rattle.std.proofs.Common.{◌*◌, ◌∷◌, [], true, false, length, refl, ap, subst, arith, inl, inr}
use Rattle.std.proofs.lemmas.Bool.{cases_Bool}
use Rattle.std.proofs.lemmas.List.Sorted.{IsPermutation-append_comm}
use Rattle.sol_arena.specs.Arenas.{made_of}
use Rattle.cand_pool.specs.Candidates.{Candidates}
use Rattle.cand_pool.specs.Pools.{items_of}
use Rattle.cand_uses.specs.Pairs.{pairs_of}
use Rattle.cand_turns.specs.Swaps.{search}
use Rattle.cand_turns.specs.Solved.{IsCarriedClass}
use Rattle.cand_turns.proofs.SwapLemmas.{turn_then, front_held, other_items, order_held}
use Rattle.cand_turns.proofs.BranchLemmas.{one_held, even_turn, odd_turn, end_turn}
use Rattle.cand_turns.proofs.AddLemmas.{rest_held}
use Rattle.cand_turns.proofs.MeetLemmas.{carried_beside}
use Rattle.cand_turns.proofs.RowLemmas.{closed_beside, pair_lost, second_lost, both_carried}
use Rattle.cand_turns.proofs.branch.Branch.carry.Goals as goal

pub carry-requires-clause-held : goal.carry-requires-clause-held
carry-requires-clause-held g c =
    front_held (search c.args.pool.now c.args.arena.now) (c.args.self.even ∷ []) (c.args.self.odd ∷ []) c.requires.held

pub carry-requires-clause-closed : goal.carry-requires-clause-closed
carry-requires-clause-closed g c =
    (false, (record { exact = c.requires.closed.exact false; solved = c.requires.closed.solved false }))

pub end_list-requires-clause-live : goal.end_list-requires-clause-live
end_list-requires-clause-live g c =
    let lost = pair_lost (search c.args.pool.now c.args.arena.now) (search c.carry.new.pool c.carry.new.arena) c.args.self.even c.args.self.odd c.requires.held c.in-Err.ensures.turn in
    (one_held (search c.carry.new.pool c.carry.new.arena) c.args.self.odd lost.held).0

pub end_list-requires-clause-held : goal.end_list-requires-clause-held
end_list-requires-clause-held g c =
    let lost = pair_lost (search c.args.pool.now c.args.arena.now) (search c.carry.new.pool c.carry.new.arena) c.args.self.even c.args.self.odd c.requires.held c.in-Err.ensures.turn in
    (one_held (search c.carry.new.pool c.carry.new.arena) c.args.self.odd lost.held).1

pub returns-in-Err-clause-turn : goal.returns-in-Err-clause-turn
returns-in-Err-clause-turn g c =
    let lost = pair_lost (search c.args.pool.now c.args.arena.now) (search c.carry.new.pool c.carry.new.arena) c.args.self.even c.args.self.odd c.requires.held c.in-Err.ensures.turn in
    (turn_then (search c.args.pool.now c.args.arena.now) (search c.carry.new.pool c.carry.new.arena) (search c.end_list.new.pool c.end_list.new.arena) (c.args.self.even ∷ c.args.self.odd ∷ []) (c.args.self.odd ∷ []) [] lost
    (end_turn (search c.carry.new.pool c.carry.new.arena) (search c.end_list.new.pool c.end_list.new.arena) c.args.self.odd c.end_list.ensures.uses c.end_list.ensures.others c.end_list.ensures.spare)).swap

pub carry-requires-2-clause-held : goal.carry-requires-2-clause-held
carry-requires-2-clause-held g c =
    let first = even_turn (search c.args.pool.now c.args.arena.now) (search c.carry.new.pool c.carry.new.arena) c.args.self c.in-Ok.even c.requires.held c.in-Ok.ensures.turn in
    rest_held (search c.carry.new.pool c.carry.new.arena) (c.in-Ok.even ∷ []) (c.args.self.odd ∷ []) first.held

pub carry-requires-2-clause-closed : goal.carry-requires-2-clause-closed
carry-requires-2-clause-closed g c =
    let class = closed_beside c.args.p.now c.args.widths.now c.args.node true c.args.arena.now c.carry.new.arena c.args.pool.now c.carry.new.pool (c.args.self.even ∷ []) (c.in-Ok.even ∷ []) (c.args.self.odd ∷ []) c.requires.held
    c.in-Ok.ensures.turn c.args.self.odd (0, omega arith, refl) (record { exact = c.requires.closed.exact true; solved = c.requires.closed.solved true }) in
    (true, class)

pub end_list-requires-in-Err-carry-clause-live : goal.end_list-requires-in-Err-carry-clause-live
end_list-requires-in-Err-carry-clause-live g c =
    let first = even_turn (search c.args.pool.now c.args.arena.now) (search c.carry.new.pool c.carry.new.arena) c.args.self c.in-Ok.even c.requires.held c.in-Ok.ensures.turn in
    let last = second_lost (search c.carry.new.pool c.carry.new.arena) (search c.carry-2.new.pool c.carry-2.new.arena) c.in-Ok.even c.args.self.odd first.held c.in-Err-carry.ensures.turn in
    (one_held (search c.carry-2.new.pool c.carry-2.new.arena) c.in-Ok.even last.held).0

pub end_list-requires-in-Err-carry-clause-held : goal.end_list-requires-in-Err-carry-clause-held
end_list-requires-in-Err-carry-clause-held g c =
    let first = even_turn (search c.args.pool.now c.args.arena.now) (search c.carry.new.pool c.carry.new.arena) c.args.self c.in-Ok.even c.requires.held c.in-Ok.ensures.turn in
    let last = second_lost (search c.carry.new.pool c.carry.new.arena) (search c.carry-2.new.pool c.carry-2.new.arena) c.in-Ok.even c.args.self.odd first.held c.in-Err-carry.ensures.turn in
    (one_held (search c.carry-2.new.pool c.carry-2.new.arena) c.in-Ok.even last.held).1

pub returns-in-Err-carry-clause-turn : goal.returns-in-Err-carry-clause-turn
returns-in-Err-carry-clause-turn g c =
    let first = even_turn (search c.args.pool.now c.args.arena.now) (search c.carry.new.pool c.carry.new.arena) c.args.self c.in-Ok.even c.requires.held c.in-Ok.ensures.turn in
    let last = second_lost (search c.carry.new.pool c.carry.new.arena) (search c.carry-2.new.pool c.carry-2.new.arena) c.in-Ok.even c.args.self.odd first.held c.in-Err-carry.ensures.turn in
    (turn_then (search c.args.pool.now c.args.arena.now) (search c.carry.new.pool c.carry.new.arena) (search c.end_list-in-Err-carry.new.pool c.end_list-in-Err-carry.new.arena) (c.args.self.even ∷ c.args.self.odd ∷ []) (c.in-Ok.even ∷ c.args.self.odd ∷ []) [] first
    (turn_then (search c.carry.new.pool c.carry.new.arena) (search c.carry-2.new.pool c.carry-2.new.arena) (search c.end_list-in-Err-carry.new.pool c.end_list-in-Err-carry.new.arena) (c.in-Ok.even ∷ c.args.self.odd ∷ []) (c.in-Ok.even ∷ []) [] last
    (end_turn (search c.carry-2.new.pool c.carry-2.new.arena) (search c.end_list-in-Err-carry.new.pool c.end_list-in-Err-carry.new.arena) c.in-Ok.even c.end_list-in-Err-carry.ensures.uses c.end_list-in-Err-carry.ensures.others c.end_list-in-Err-carry.ensures.spare))).swap

pub returns-in-Ok-carry-clause-turn : goal.returns-in-Ok-carry-clause-turn
returns-in-Ok-carry-clause-turn g c =
    let first = even_turn (search c.args.pool.now c.args.arena.now) (search c.carry.new.pool c.carry.new.arena) c.args.self c.in-Ok.even c.requires.held c.in-Ok.ensures.turn in
    let second = odd_turn (search c.carry.new.pool c.carry.new.arena) (search c.carry-2.new.pool c.carry-2.new.arena) (record { even = c.in-Ok.even; odd = c.args.self.odd }) c.in-Ok-carry.odd first.held c.in-Ok-carry.ensures.turn in
    turn_then (search c.args.pool.now c.args.arena.now) (search c.carry.new.pool c.carry.new.arena) (search c.carry-2.new.pool c.carry-2.new.arena) (c.args.self.even ∷ c.args.self.odd ∷ []) (c.in-Ok.even ∷ c.args.self.odd ∷ []) (c.in-Ok.even ∷ c.in-Ok-carry.odd ∷ []) first second

pub returns-in-Ok-carry-clause-carried : goal.returns-in-Ok-carry-clause-carried
returns-in-Ok-carry-clause-carried g c =
    let first = even_turn (search c.args.pool.now c.args.arena.now) (search c.carry.new.pool c.carry.new.arena) c.args.self c.in-Ok.even c.requires.held c.in-Ok.ensures.turn in
    let same = other_items (search c.args.pool.now c.args.arena.now) (search c.carry.new.pool c.carry.new.arena) (c.args.self.even ∷ []) (c.in-Ok.even ∷ []) (c.args.self.odd ∷ []) c.requires.held c.in-Ok.ensures.turn c.args.self.odd (0, omega arith, refl) in
    let class = closed_beside c.args.p.now c.args.widths.now c.args.node true c.args.arena.now c.carry.new.arena c.args.pool.now c.carry.new.pool (c.args.self.even ∷ []) (c.in-Ok.even ∷ []) (c.args.self.odd ∷ []) c.requires.held
    c.in-Ok.ensures.turn c.args.self.odd (0, omega arith, refl) (record { exact = c.requires.closed.exact true; solved = c.requires.closed.solved true }) in
    let evens = carried_beside c.args.p.now c.args.widths.now c.args.node c.args.c false (pairs_of (items_of c.args.pool.now c.args.self.even)) c.carry.new.arena c.carry-2.new.arena c.carry.new.pool c.carry-2.new.pool
    (c.args.self.odd ∷ []) (c.in-Ok-carry.odd ∷ []) (c.in-Ok.even ∷ []) (order_held (search c.carry.new.pool c.carry.new.arena) (c.in-Ok.even ∷ c.args.self.odd ∷ []) (c.args.self.odd ∷ c.in-Ok.even ∷ []) (IsPermutation-append_comm (c.in-Ok.even ∷ []) (c.args.self.odd ∷ [])) first.held) c.in-Ok-carry.ensures.turn c.in-Ok.even (0, omega arith, refl)
    (c.in-Ok.ensures.carried false (record { exact = c.requires.closed.exact false; solved = c.requires.closed.solved false })) in
    let odds = subst (λ (xs : Candidates). IsCarriedClass c.args.p.now c.args.widths.now c.args.node c.args.c true (pairs_of xs) (made_of c.carry-2.new.arena) (items_of c.carry-2.new.pool c.in-Ok-carry.odd)) same
    (c.in-Ok-carry.ensures.carried true class) in
    both_carried c.args.p.now c.args.widths.now c.args.node c.args.c c.carry-2.new.arena c.args.pool.now c.carry-2.new.pool c.args.self (record { even = c.in-Ok.even; odd = c.in-Ok-carry.odd }) evens odds

pub returns-in-Ok-carry-clause-few : goal.returns-in-Ok-carry-clause-few
returns-in-Ok-carry-clause-few g c = λ odd.
    let first = even_turn (search c.args.pool.now c.args.arena.now) (search c.carry.new.pool c.carry.new.arena) c.args.self c.in-Ok.even c.requires.held c.in-Ok.ensures.turn in
    let same = other_items (search c.args.pool.now c.args.arena.now) (search c.carry.new.pool c.carry.new.arena) (c.args.self.even ∷ []) (c.in-Ok.even ∷ []) (c.args.self.odd ∷ []) c.requires.held c.in-Ok.ensures.turn c.args.self.odd (0, omega arith, refl) in
    elim (cases_Bool odd) [
      | inl t ↦ rw t (omega (arith, c.in-Ok-carry.ensures.few, ap (λ (l : Candidates). length c.args.widths.now * length l) same))
      | inr f ↦ rw f (omega (
        arith,
        c.in-Ok.ensures.few,
        ap (λ (l : Candidates). length l) (other_items (search c.carry.new.pool c.carry.new.arena) (search c.carry-2.new.pool c.carry-2.new.arena) (c.args.self.odd ∷ []) (c.in-Ok-carry.odd ∷ []) (c.in-Ok.even ∷ [])
            (order_held (search c.carry.new.pool c.carry.new.arena) (c.in-Ok.even ∷ c.args.self.odd ∷ []) (c.args.self.odd ∷ c.in-Ok.even ∷ []) (IsPermutation-append_comm (c.in-Ok.even ∷ []) (c.args.self.odd ∷ [])) first.held) c.in-Ok-carry.ensures.turn c.in-Ok.even (0, omega arith, refl)),
      ))
    ]
