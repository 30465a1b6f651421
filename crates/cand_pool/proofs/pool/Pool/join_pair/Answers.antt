use Rattle.std.proofs.Common.{◌∷◌, subst, Some, inl, inr}
use Rattle.cand_pool.specs.Candidates.{Candidates}
use Rattle.cand_pool.specs.Pools.{IsHeld}
use Rattle.cand_pool.proofs.PublicLaws.{nothing_held, first_held, differ_from}
use Rattle.cand_pool.proofs.BranchLaws.{branches_of, modest_first, held_first, some_held, taken_same}
use Rattle.cand_pool.proofs.pool.Pool.join_pair.Goals as goal
use Rattle.cand_pool.proofs.pool.Pool.join_pair.Goals.{then-a-via-then-a, then-a-via-else-a+then-b}

pub join-requires-clause-modest_a : goal.join-requires-clause-modest_a
join-requires-clause-modest_a g c = modest_first _ _ _ c.if-a.false c.requires.live.1 c.requires.modest_a

pub join-requires-clause-modest_b : goal.join-requires-clause-modest_b
join-requires-clause-modest_b g c = modest_first _ _ _ c.if-b.false c.requires.live.2 c.requires.modest_b

pub returns-then-a-clause-joined : goal.returns-then-a-clause-joined
returns-then-a-clause-joined g c = λ x y zs xs ys l h k. elim c.then-a.branch [
  | then-a-via-then-a w ↦ absurd (some_held _ _ _ x xs h w.if-a.true)
  | then-a-via-else-a+then-b w ↦ absurd (some_held _ _ _ y ys k w.if-b.true)
]

pub returns-clause-empty : goal.returns-clause-empty
returns-clause-empty g c = λ empty. elim empty [
  | inl h ↦ absurd (c.if-a.false (nothing_held _ _ _ h))
  | inr h ↦ absurd (c.if-b.false (nothing_held _ _ _ h))
]

pub returns-clause-joined : goal.returns-clause-joined
returns-clause-joined g c = λ x y zs xs ys l h k.
    let j = c.join.ensures.joined x y zs xs ys (branches_of _ _ _ _ zs (x ∷ xs) (y ∷ ys) l h k c.requires.a_list c.requires.a_b c.requires.list_b) in
    let x_is = held_first _ _ _ x xs h in
    let y_is = held_first _ _ _ y ys k in
    let a_is = taken_same x y _ _ _ x_is y_is c.join.ensures.a in
    let b_is = taken_same y x _ _ _ y_is x_is c.join.ensures.b in
    (j.branches.one, j.branches.more, j.branches.two, j.free, λ i. Some (record { a = a_is i; b = b_is i }))

pub returns-clause-differ : goal.returns-clause-differ
returns-clause-differ g c =
    let (xs, e) = first_held _ _ c.args.a.now.ends.last _ c.if-a.false c.requires.live.1 in
    let (ys, f) = first_held _ _ c.args.b.now.ends.last _ c.if-b.false c.requires.live.2 in
    let h = subst (λ (l : Candidates). IsHeld c.args.self.now c.args.a.now.ends.first c.args.a.now.ends.last l) e c.requires.live.1 in
    let k = subst (λ (l : Candidates). IsHeld c.args.self.now c.args.b.now.ends.first c.args.b.now.ends.last l) f c.requires.live.2 in
    let j = c.join.ensures.joined _ _ _ xs ys (branches_of _ _ _ _ _ _ _ c.requires.live.0 h k c.requires.a_list c.requires.a_b c.requires.list_b) in
    (differ_from _ _ j.branches.rest_one, differ_from _ _ j.branches.rest_two, differ_from _ _ j.branches.one_two)

pub returns-clause-others : goal.returns-clause-others
returns-clause-others g c =
    let (xs, e) = first_held _ _ c.args.a.now.ends.last _ c.if-a.false c.requires.live.1 in
    let (ys, f) = first_held _ _ c.args.b.now.ends.last _ c.if-b.false c.requires.live.2 in
    let h = subst (λ (l : Candidates). IsHeld c.args.self.now c.args.a.now.ends.first c.args.a.now.ends.last l) e c.requires.live.1 in
    let k = subst (λ (l : Candidates). IsHeld c.args.self.now c.args.b.now.ends.first c.args.b.now.ends.last l) f c.requires.live.2 in
    (c.join.ensures.joined _ _ _ xs ys (branches_of _ _ _ _ _ _ _ c.requires.live.0 h k c.requires.a_list c.requires.a_b c.requires.list_b)).others
