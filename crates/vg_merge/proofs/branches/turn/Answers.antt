use Rattle.std.proofs.Common.{[], ◌∷◌, Option, refl, sym, subst, inl, inr, int_lt}
use Rattle.std.specs.Option.{IsNone}
use Rattle.sol_arena.specs.Arenas.{slots_of}
use Rattle.cand_pool.specs.Candidates.{formed}
use Rattle.cand_pool.specs.Pools.{items_of}
use Rattle.cand_pool.specs.declared.join_pair.Taken.{Taken}
use Rattle.cand_pool.proofs.PublicLaws.{held_items}
use Rattle.vg_merge.specs.Branches.{taken_from}
use Rattle.vg_merge.proofs.JoinLemmas.{firsts, not_empty, first_is, first_live_a, first_live_b, taken_is, taken_held, taken_released, joined_new}
use Rattle.vg_merge.proofs.JoinLemmas.{mid_held, later_held, first_taken_held, rest_held, whole_join}
use Rattle.vg_merge.proofs.ListLemmas.{are_as, are_held}
use Rattle.vg_merge.proofs.branches.turn.Goals as goal

pub join-requires-clause-live_a : goal.join-requires-clause-live_a
join-requires-clause-live_a g c =
    first_live_a c.args.arena.now _ (items_of c.args.pool.now c.args.at.now.b) c.args.sols.0.0 c.requires.held c.requires.first_a

pub join-requires-clause-live_b : goal.join-requires-clause-live_b
join-requires-clause-live_b g c =
    first_live_b c.args.arena.now (items_of c.args.pool.now c.args.at.now.a) _ c.args.sols.1.0 c.requires.held c.requires.first_b

pub unreachable-requires : goal.unreachable-requires
unreachable-requires g c =
    elim (c.join_pair.ensures.none (subst (λ (r : Option Taken). IsNone r) (sym c.in_default.is) refl)).0 [
      | inl a_empty ↦ not_empty _ c.args.at.now.a _ c.requires.first_a a_empty
      | inr b_empty ↦ not_empty _ c.args.at.now.b _ c.requires.first_b b_empty
    ]

pub release_taken-requires : goal.release_taken-requires
release_taken-requires g c =
    let f = firsts c.args.pool.now c.args.at.now c.args.sols.0.0 c.args.sols.1.0 c.requires.first_a c.requires.first_b in
    let at = are_as c.args.pool.now c.args.at.now _ _ f.a_is f.b_is c.requires.live in
    let done = c.join_pair.ensures.joined f.x f.y _ f.xs f.ys at.list at.a at.b in
    let taken = taken_is c.join_pair.result c.in-Some.taken _ _ c.in-Some.is done.4 in
    let z = formed f.x f.y c.in_ok-sol.sol.0 in
    let made = joined_new c.args.arena.now c.join.new.self c.args.sols.0.0 c.args.sols.1.0 z c.in_ok-sol.ensures.empty c.in_ok-sol.ensures.same
    c.in_ok-sol.ensures.new in
    let held = mid_held (slots_of c.args.arena.now) (slots_of c.join.new.self) f.x f.y z f.xs f.ys
    (are_held _ _ _ _ _ f.a_is f.b_is c.requires.held) made.uses in
    taken_held (slots_of c.join.new.self) (int_lt f.y.q f.x.q) f.x c.in-Some.taken.a taken.0 (first_taken_held (slots_of c.join.new.self) f.x f.y z held)

pub release_taken-requires-2 : goal.release_taken-requires-2
release_taken-requires-2 g c =
    let f = firsts c.args.pool.now c.args.at.now c.args.sols.0.0 c.args.sols.1.0 c.requires.first_a c.requires.first_b in
    let at = are_as c.args.pool.now c.args.at.now _ _ f.a_is f.b_is c.requires.live in
    let done = c.join_pair.ensures.joined f.x f.y _ f.xs f.ys at.list at.a at.b in
    let taken = taken_is c.join_pair.result c.in-Some.taken _ _ c.in-Some.is done.4 in
    let z = formed f.x f.y c.in_ok-sol.sol.0 in
    let made = joined_new c.args.arena.now c.join.new.self c.args.sols.0.0 c.args.sols.1.0 z c.in_ok-sol.ensures.empty c.in_ok-sol.ensures.same
    c.in_ok-sol.ensures.new in
    let held = mid_held (slots_of c.args.arena.now) (slots_of c.join.new.self) f.x f.y z f.xs f.ys
    (are_held _ _ _ _ _ f.a_is f.b_is c.requires.held) made.uses in
    let one = taken_released c.join.new.self c.release_taken.new.arena (int_lt f.y.q f.x.q) f.x c.in-Some.taken.a taken.0 c.release_taken.ensures in
    let later = later_held (slots_of c.join.new.self) (slots_of c.release_taken.new.arena) f.x f.y z held one in
    taken_held (slots_of c.release_taken.new.arena) (int_lt f.x.q f.y.q) f.y c.in-Some.taken.b taken.1
    (rest_held (slots_of c.release_taken.new.arena) (z ∷ []) (taken_from f.y f.x) later)

pub returns-clause-joined : goal.returns-clause-joined
returns-clause-joined g c = λ x y zs xs ys at.
    let done = c.join_pair.ensures.joined x y zs xs ys at.list at.a at.b in
    let taken = taken_is c.join_pair.result c.in-Some.taken _ _ c.in-Some.is done.4 in
    let made = joined_new c.args.arena.now c.join.new.self c.args.sols.0.0 c.args.sols.1.0
    (formed x y c.in_ok-sol.sol.0) c.in_ok-sol.ensures.empty c.in_ok-sol.ensures.same c.in_ok-sol.ensures.new in
    let one = taken_released c.join.new.self c.release_taken.new.arena (int_lt y.q x.q) x c.in-Some.taken.a taken.0 c.release_taken.ensures in
    let two = taken_released c.release_taken.new.arena c.release_taken-2.new.arena (int_lt x.q y.q) y c.in-Some.taken.b taken.1 c.release_taken-2.ensures in
    let held = are_held _ _ _ _ _ (held_items _ _ _ _ at.a) (held_items _ _ _ _ at.b) c.requires.held in (
      c.in_ok-sol.sol.0,
      record {
        list = done.0;
        a = done.1;
        b = done.2;
        a_list = c.join_pair.ensures.differ.0;
        a_b = c.join_pair.ensures.differ.1;
        list_b =
            c.join_pair.ensures.differ.2;
      },
      whole_join c.args.arena.now c.join.new.self c.release_taken.new.arena c.release_taken-2.new.arena x y xs ys c.args.sols.0.0 c.args.sols.1.0
          c.in_ok-sol.sol.0
          (first_is _ c.args.at.now.a x xs _ c.requires.first_a at.a) (first_is _ c.args.at.now.b y ys _ c.requires.first_b at.b) held made one two,
      done.3,
    )
