use Rattle.std.proofs.Common.{map, true, false, inl, inr, ap, ◌∙◌, sym, subst}
use Rattle.std.proofs.lemmas.Bool.{cases_Bool}
use Rattle.cand_pool.specs.Candidates.{Candidates, AreModest, loaded}
use Rattle.cand_pool.proofs.PublicLaws.{held_items}
use Rattle.cand_turns.specs.Swaps.{at_slots}
use Rattle.cand_turns.proofs.SwapLemmas.{turn_then}
use Rattle.cand_turns.proofs.BranchLemmas.{two_held, odd_turn, even_stays}
use Rattle.cand_turns.proofs.LoadLemmas.{load_turn, loaded_first}
use Rattle.cand_turns.proofs.branch.Branch.load.Goals as goal

pub load-requires-clause-live : goal.load-requires-clause-live
load-requires-clause-live g c = (two_held (at_slots c.args.pool.now c.requires.held.0) c.args.self.now.even c.args.self.now.odd c.requires.held.1).one

pub load-requires-clause-modest : goal.load-requires-clause-modest
load-requires-clause-modest g c = c.requires.modest false

pub load-requires-2-clause-live : goal.load-requires-2-clause-live
load-requires-2-clause-live g c =
    let two = two_held (at_slots c.args.pool.now c.requires.held.0) c.args.self.now.even c.args.self.now.odd c.requires.held.1 in
    let first = loaded_first c.args.pool.now c.load.new.self c.requires.held.0 c.args.self.now c.load.new.list c.args.c c.requires.held.1 c.load.ensures.others c.load.ensures.spare (c.load.ensures.list _ two.one) in
    first.left.two

pub load-requires-2-clause-modest : goal.load-requires-2-clause-modest
load-requires-2-clause-modest g c =
    let two = two_held (at_slots c.args.pool.now c.requires.held.0) c.args.self.now.even c.args.self.now.odd c.requires.held.1 in
    let first = loaded_first c.args.pool.now c.load.new.self c.requires.held.0 c.args.self.now c.load.new.list c.args.c c.requires.held.1 c.load.ensures.others c.load.ensures.spare (c.load.ensures.list _ two.one) in
    subst (λ (xs : Candidates). AreModest (map (loaded c.args.c) xs)) (sym first.odd_is) (c.requires.modest true)

pub returns-clause-classes : goal.returns-clause-classes
returns-clause-classes g c =
    let two = two_held (at_slots c.args.pool.now c.requires.held.0) c.args.self.now.even c.args.self.now.odd c.requires.held.1 in
    let first = loaded_first c.args.pool.now c.load.new.self c.requires.held.0 c.args.self.now c.load.new.list c.args.c c.requires.held.1 c.load.ensures.others c.load.ensures.spare (c.load.ensures.list _ two.one) in
    let last = load_turn c.load.new.self c.load-2.new.self c.requires.held.0 c.args.self.now.odd c.load-2.new.list c.args.c first.left.second c.load-2.ensures.others c.load-2.ensures.spare (c.load-2.ensures.list _ first.left.two) in
    let evens = held_items _ _ _ _ (even_stays (at_slots c.load.new.self c.requires.held.0) (at_slots c.load-2.new.self c.requires.held.0) (record { even = c.load.new.list; odd = c.args.self.now.odd }) c.load-2.new.list first.turn.held last)
    ∙ held_items _ _ _ _ (c.load.ensures.list _ two.one) in
    let odds = held_items _ _ _ _ (c.load-2.ensures.list _ first.left.two) ∙ ap (λ (xs : Candidates). map (loaded c.args.c) xs) first.odd_is in
    λ odd. elim (cases_Bool odd) [ inl t ↦ rw t odds | inr f ↦ rw f evens ]

pub returns-clause-turn : goal.returns-clause-turn
returns-clause-turn g c = λ slots held.
    let two = two_held (at_slots c.args.pool.now slots) c.args.self.now.even c.args.self.now.odd held in
    let first = loaded_first c.args.pool.now c.load.new.self slots c.args.self.now c.load.new.list c.args.c held c.load.ensures.others c.load.ensures.spare (c.load.ensures.list _ two.one) in
    let last = load_turn c.load.new.self c.load-2.new.self slots c.args.self.now.odd c.load-2.new.list c.args.c first.left.second c.load-2.ensures.others c.load-2.ensures.spare (c.load-2.ensures.list _ first.left.two) in
    turn_then (at_slots c.args.pool.now slots) (at_slots c.load.new.self slots) (at_slots c.load-2.new.self slots) _ _ _ first.turn
    (odd_turn (at_slots c.load.new.self slots) (at_slots c.load-2.new.self slots) (record { even = c.load.new.list; odd = c.args.self.now.odd }) c.load-2.new.list first.turn.held last)
