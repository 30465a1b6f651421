use Rattle.std.proofs.Common.{◌≡◌, ◌⊎◌, [], ◌∷◌, ◌++◌, length, refl, sym, ap, ◌∙◌, subst, inl, inr, arith}
use Rattle.std.proofs.lemmas.Option.{MatchOption-at_none}
use Rattle.sol_arena.specs.Arenas.{slots_of}
use Rattle.cand_pool.specs.Candidates.{Candidates, AreModest, formed}
use Rattle.cand_pool.specs.Pools.{spare, items_of}
use Rattle.cand_pool.specs.Sequences.{left_of}
use Rattle.cand_pool.proofs.PoolMoves.{keeps_then}
use Rattle.vg_merge.specs.Branches.{IsFirst}
use Rattle.vg_merge.proofs.JoinLemmas.{split_first}
use Rattle.vg_merge.proofs.ListLemmas.{are_held, list_is, a_is, b_is, are_live, are_of, are_still, fewer_items, uses_on, spare_on}
use Rattle.vg_merge.proofs.MergingLemmas.{merge_of, merging_start, merging_of, merging_still, merging_turn, merging_end, first_apart, left_held}
use Rattle.vg_merge.proofs.MergingLemmas.{fewer_left, spare_turn}
use Rattle.vg_merge.proofs.branches.join_firsts.Goals as goal

pub turns-init : goal.turns-init
turns-init g c =
    record {
      zs = [];
      xs = items_of c.args.pool.now c.args.at.now.a;
      ys = items_of c.args.pool.now c.args.at.now.b;
      at = are_of c.args.pool.now c.args.at.now _ _ _ _ _ _ c.requires.made refl refl c.requires.live;
      merging = merging_start _ _ _ c.requires.meet;
      spare = omega arith;
      others = record { few = λ few. few; stays = λ first last xs h some out. h; fresh = λ first last xs h some out. out };
      steps = omega arith;
    }

pub first_solutions-requires : goal.first_solutions-requires
first_solutions-requires g c = are_live _ _ _ _ _ c.turns.invariant.at

pub turn-requires-clause-live : goal.turn-requires-clause-live
turn-requires-clause-live g c = are_live _ _ _ _ _ c.turns.invariant.at

pub turn-requires-clause-modest_a : goal.turn-requires-clause-modest_a
turn-requires-clause-modest_a g c =
    subst (λ (l : Candidates). AreModest l) (sym (a_is _ _ _ _ _ c.turns.invariant.at)) c.turns.invariant.merging.x_modest

pub turn-requires-clause-modest_b : goal.turn-requires-clause-modest_b
turn-requires-clause-modest_b g c =
    subst (λ (l : Candidates). AreModest l) (sym (b_is _ _ _ _ _ c.turns.invariant.at)) c.turns.invariant.merging.y_modest

pub turn-requires-clause-held : goal.turn-requires-clause-held
turn-requires-clause-held g c =
    let w = c.turns.invariant in
    are_held _ _ _ _ _ (sym (a_is _ _ _ _ _ w.at)) (sym (b_is _ _ _ _ _ w.at)) (left_held _ _ _ _ _ _ _ c.requires.meet w.merging)

pub turn-requires-clause-apart : goal.turn-requires-clause-apart
turn-requires-clause-apart g c =
    let w = c.turns.invariant in
    first_apart _ _ _ _ _ w.xs w.ys _ _ c.requires.meet w.merging
    (subst (λ (l : Candidates). IsFirst l c.in-Some.sols.0.0) (a_is _ _ _ _ _ w.at) c.in-Some.ensures.firsts.0)
    (subst (λ (l : Candidates). IsFirst l c.in-Some.sols.1.0) (b_is _ _ _ _ _ w.at) c.in-Some.ensures.firsts.1)

pub turns-smaller : goal.turns-smaller
turns-smaller g c =
    let w = c.turns.invariant in
    let (x, xs, x_is, x_tag) = split_first w.xs c.in-Some.sols.0.0
    (subst (λ (l : Candidates). IsFirst l c.in-Some.sols.0.0) (a_is _ _ _ _ _ w.at) c.in-Some.ensures.firsts.0) in
    let (y, ys, y_is, y_tag) = split_first w.ys c.in-Some.sols.1.0
    (subst (λ (l : Candidates). IsFirst l c.in-Some.sols.1.0) (b_is _ _ _ _ _ w.at) c.in-Some.ensures.firsts.1) in
    let at = are_of c.turns.pool c.turns.at w.zs w.zs w.xs (x ∷ xs) w.ys (y ∷ ys) refl x_is y_is w.at in
    let (sol, at', joined, free) = c.in_ok-turn.ensures.joined x y w.zs xs ys at in
    let fewer = fewer_left x y xs ys in
    fewer_items c.turns.pool c.turn.new.pool c.turns.at c.turn.new.at w.zs (w.zs ++ (formed x y sol ∷ [])) (x ∷ xs) (left_of x y xs) (y ∷ ys)
    (left_of y x ys) at at' fewer

pub turns-preserved : goal.turns-preserved
turns-preserved g c =
    let w = c.turns.invariant in
    let (x, xs, x_is, x_tag) = split_first w.xs c.in-Some.sols.0.0
    (subst (λ (l : Candidates). IsFirst l c.in-Some.sols.0.0) (a_is _ _ _ _ _ w.at) c.in-Some.ensures.firsts.0) in
    let (y, ys, y_is, y_tag) = split_first w.ys c.in-Some.sols.1.0
    (subst (λ (l : Candidates). IsFirst l c.in-Some.sols.1.0) (b_is _ _ _ _ _ w.at) c.in-Some.ensures.firsts.1) in
    let at = are_of c.turns.pool c.turns.at w.zs w.zs w.xs (x ∷ xs) w.ys (y ∷ ys) refl x_is y_is w.at in
    let (sol, at', joined, free) = c.in_ok-turn.ensures.joined x y w.zs xs ys at in
    let fewer = fewer_left x y xs ys in
    let x_long = ap (λ (l : Candidates). length l) x_is in
    let y_long = ap (λ (l : Candidates). length l) y_is in
    let merging = merging_of _ _ _ _ w.zs w.xs (x ∷ xs) w.ys (y ∷ ys) x_is y_is w.merging in
    record {
      zs = w.zs ++ (formed x y sol ∷ []);
      xs = left_of x y xs;
      ys = left_of y x ys;
      at = at';
      merging = merging_turn _ c.turns.arena c.turn.new.arena _ _ w.zs xs ys x y sol c.requires.meet merging joined;
      spare = omega (arith, w.spare, x_long, y_long, free, spare_turn (spare c.turns.pool) w.zs xs ys x y (formed x y sol));
      others = keeps_then _ _ _ _ _ _ _ _ w.others c.turn.ensures.others (λ k m. m) (λ k m. inl m);
      steps = omega (arith, w.steps, x_long, y_long, fewer, c.turn.ensures.steps, c.in-Some.ensures.steps);
    }

pub returns-in_err-turn-clause-live : goal.returns-in_err-turn-clause-live
returns-in_err-turn-clause-live g c =
    let same = c.in_err-turn.ensures.unchanged in
    are_live _ _ _ _ _ (are_still c.turns.pool c.turn.new.pool c.turns.at c.turn.new.at _ _ _ same.0 same.1 c.turns.invariant.at)

pub returns-in_err-turn-clause-uses : goal.returns-in_err-turn-clause-uses
returns-in_err-turn-clause-uses g c =
    let w = c.turns.invariant in
    let same = c.in_err-turn.ensures.unchanged in
    uses_on _ _ c.args.pool.now c.turn.new.pool c.args.at.now c.turn.new.at w.zs w.xs w.ys c.requires.made
    (are_still c.turns.pool c.turn.new.pool c.turns.at c.turn.new.at _ _ _ same.0 same.1 w.at)
    (merging_still _ (slots_of c.turns.arena) (slots_of c.turn.new.arena) _ _ _ _ _ same.2 w.merging).uses

pub returns-in_err-turn-clause-spare : goal.returns-in_err-turn-clause-spare
returns-in_err-turn-clause-spare g c =
    let w = c.turns.invariant in
    let same = c.in_err-turn.ensures.unchanged in
    spare_on c.args.pool.now c.turn.new.pool c.args.at.now c.turn.new.at w.zs w.xs w.ys c.requires.made
    (are_still c.turns.pool c.turn.new.pool c.turns.at c.turn.new.at _ _ _ same.0 same.1 w.at)
    (omega (arith, w.spare, ap spare same.0))

pub returns-clause-live : goal.returns-clause-live
returns-clause-live g c = are_live _ _ _ _ _ c.turns.invariant.at

pub returns-clause-merge : goal.returns-clause-merge
returns-clause-merge g c =
    let w = c.turns.invariant in
    let firsts = MatchOption-at_none _ _ c.in_default.is c.first_solutions.ensures.firsts in
    let done : (w.xs ≡ []) ⊎ (w.ys ≡ []) = elim firsts as (λ _. (w.xs ≡ []) ⊎ (w.ys ≡ [])) [
      | inl e ↦ inl (sym (a_is _ _ _ _ _ w.at) ∙ e)
      | inr e ↦ inr (sym (b_is _ _ _ _ _ w.at) ∙ e)
    ] in
    let all_x = items_of c.args.pool.now c.args.at.now.a in
    let all_y = items_of c.args.pool.now c.args.at.now.b in
    merge_of _ _ all_x all_x all_y all_y w.zs (items_of c.turns.pool c.turns.at.list) refl refl (sym (list_is c.turns.pool c.turns.at w.zs w.xs w.ys w.at))
    (merging_end (slots_of c.args.arena.now) (slots_of c.turns.arena) all_x all_y w.zs w.xs w.ys w.merging done)

pub returns-clause-uses : goal.returns-clause-uses
returns-clause-uses g c =
    let w = c.turns.invariant in
    uses_on _ _ c.args.pool.now c.turns.pool c.args.at.now c.turns.at w.zs w.xs w.ys c.requires.made w.at w.merging.uses

pub returns-clause-spare : goal.returns-clause-spare
returns-clause-spare g c =
    let w = c.turns.invariant in
    spare_on c.args.pool.now c.turns.pool c.args.at.now c.turns.at w.zs w.xs w.ys c.requires.made w.at w.spare
