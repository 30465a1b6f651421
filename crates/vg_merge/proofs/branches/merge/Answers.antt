use Rattle.std.proofs.Common.{◌≡◌, false, Result, Ok, Err, OnOk, sym, ◌∙◌, subst, inl, arith}
use Rattle.std.specs.Result.{is_err}
use Rattle.vg_num.specs.declared.memory.Memory.{Memory}
use Rattle.cand_pool.specs.Pools.{Block, Holds, items_of}
use Rattle.cand_pool.proofs.PoolMoves.{keeps_then}
use Rattle.cand_pool.proofs.PublicLaws.{held_items, held_named}
use Rattle.cand_uses.proofs.ExchangeLemmas.{exchange_of, exchange_then, exchanged_held}
use Rattle.vg_merge.proofs.JoinLemmas.{rest_held}
use Rattle.vg_merge.proofs.ListLemmas.{few_steps, keeps_all, left_ended, same_items, spare_end, start_all, start_held, start_live}
use Rattle.vg_merge.proofs.MergingLemmas.{merge_of, merge_still}
use Rattle.vg_merge.proofs.branches.merge.Goals as goal

ok_of : (r : Result (Unit {0}) Memory) (P : Type 0) → is_err r ≡ false → OnOk r P → P
ok_of (Ok done) P ok p = p
ok_of (Err out) P ok p = absurd (cc)

pub join_firsts-joined-requires-clause-live : goal.join_firsts-joined-requires-clause-live
join_firsts-joined-requires-clause-live g c =
    let live = c.requires.live in
    let same = sym c.none.ensures.same in
    start_live c.none.new.self c.none.result c.args.a c.args.b c.none.ensures.list
    (subst (λ (s : Block). Holds s c.args.a (items_of s c.args.a)) same live.0)
    (subst (λ (s : Block). Holds s c.args.b (items_of s c.args.b)) same live.1) c.requires.differ

pub join_firsts-joined-requires-clause-made : goal.join_firsts-joined-requires-clause-made
join_firsts-joined-requires-clause-made g c = held_items _ _ _ _ c.none.ensures.list

pub end_branches-list-requires-clause-held : goal.end_branches-list-requires-clause-held
end_branches-list-requires-clause-held g c =
    rest_held _ (items_of c.join_firsts-joined.new.pool c.join_firsts-joined.new.at.list) _
    (start_held _ _ c.args.pool.now c.none.new.self c.none.result c.args.a c.args.b _ c.none.ensures.same c.none.ensures.list c.requires.live.0 c.requires.live.1
    c.requires.meet.held c.join_firsts-joined.ensures.uses)

pub end_list-requires-clause-live : goal.end_list-requires-clause-live
end_list-requires-clause-live g c = held_named _ _ _ _ c.end_branches-list.ensures.list

pub end_list-requires-clause-held : goal.end_list-requires-clause-held
end_list-requires-clause-held g c =
    exchanged_held _ _ _ _
    (start_held _ _ c.args.pool.now c.none.new.self c.none.result c.args.a c.args.b _ c.none.ensures.same c.none.ensures.list c.requires.live.0 c.requires.live.1
    c.requires.meet.held c.join_firsts-joined.ensures.uses)
    (left_ended _ _ _ _ _ _ c.end_branches-list.ensures.list c.end_branches-list.ensures.uses)

pub returns-then-is_err-clause-uses : goal.returns-then-is_err-clause-uses
returns-then-is_err-clause-uses g c = λ xs ys h k.
    let ended = left_ended _ _ _ _ _ _ c.end_branches-list.ensures.list c.end_branches-list.ensures.uses in
    exchange_of _ _ _ _ _ (start_all c.args.pool.now c.none.new.self c.none.result c.args.a c.args.b xs ys c.none.ensures.same c.none.ensures.list h k)
    (exchange_then _ _ _ _ _ _ c.join_firsts-joined.ensures.uses (exchange_then _ _ _ _ _ _ ended c.end_list.ensures.uses))

pub returns-then-is_err-clause-spare : goal.returns-then-is_err-clause-spare
returns-then-is_err-clause-spare g c = λ xs ys h k.
    let spare = spare_end _ _ _ _ c.none.result c.args.a c.args.b _ c.join_firsts-joined.new.at xs ys c.none.ensures.same c.none.ensures.list h k
    c.join_firsts-joined.ensures.live c.join_firsts-joined.ensures.spare c.end_branches-list.ensures.list c.end_branches-list.ensures.spare in
    omega (arith, spare, c.end_list.ensures.spare)

pub returns-then-is_err-clause-others : goal.returns-then-is_err-clause-others
returns-then-is_err-clause-others g c =
    keeps_then _ _ _ _ _ _ _ _
    (keeps_all _ _ _ _ c.none.result c.args.a c.args.b c.join_firsts-joined.new.at _ c.none.ensures.same c.none.ensures.list
    c.join_firsts-joined.ensures.others c.end_branches-list.ensures.others)
    c.end_list.ensures.others (λ k m. m) (λ k m. inl m)

pub returns-then-is_err-clause-steps : goal.returns-then-is_err-clause-steps
returns-then-is_err-clause-steps g c = λ xs ys h k.
    few_steps _ _ c.args.a c.args.b xs ys _ _ c.none.ensures.same h k c.join_firsts-joined.ensures.steps

pub returns-clause-live : goal.returns-clause-live
returns-clause-live g c = held_named _ _ _ _ c.end_branches-list.ensures.list

pub returns-clause-merge : goal.returns-clause-merge
returns-clause-merge g c = λ xs ys h k.
    let held = start_held _ _ c.args.pool.now c.none.new.self c.none.result c.args.a c.args.b _ c.none.ensures.same c.none.ensures.list
    c.requires.live.0 c.requires.live.1 c.requires.meet.held c.join_firsts-joined.ensures.uses in
    let w = ok_of c.join_firsts-joined.result _ (sym c.is_err.ensures.value ∙ c.if-is_err.false) c.join_firsts-joined.ensures.merge in
    merge_of _ _ _ xs _ ys _ (items_of c.end_branches-list.new.pool c.end_branches-list.result) (same_items _ _ c.args.a xs c.none.ensures.same h)
    (same_items _ _ c.args.b ys c.none.ensures.same k) (sym (held_items _ _ _ _ c.end_branches-list.ensures.list))
    (merge_still _ c.join_firsts-joined.new.arena c.end_branches-list.new.arena _ _ _ _ held c.end_branches-list.ensures.uses w)

pub returns-clause-uses : goal.returns-clause-uses
returns-clause-uses g c = λ xs ys h k.
    exchange_of _ _ _ _ _ (start_all c.args.pool.now c.none.new.self c.none.result c.args.a c.args.b xs ys c.none.ensures.same c.none.ensures.list h k)
    (exchange_then _ _ _ _ _ _ c.join_firsts-joined.ensures.uses
    (left_ended _ _ _ _ _ _ c.end_branches-list.ensures.list c.end_branches-list.ensures.uses))

pub returns-clause-spare : goal.returns-clause-spare
returns-clause-spare g c = λ xs ys h k.
    spare_end _ _ _ _ c.none.result c.args.a c.args.b _ c.join_firsts-joined.new.at xs ys c.none.ensures.same c.none.ensures.list h k
    c.join_firsts-joined.ensures.live c.join_firsts-joined.ensures.spare c.end_branches-list.ensures.list c.end_branches-list.ensures.spare

pub returns-clause-others : goal.returns-clause-others
returns-clause-others g c =
    keeps_all _ _ _ _ c.none.result c.args.a c.args.b c.join_firsts-joined.new.at _ c.none.ensures.same c.none.ensures.list
    c.join_firsts-joined.ensures.others c.end_branches-list.ensures.others

pub returns-clause-steps : goal.returns-clause-steps
returns-clause-steps g c = λ xs ys h k.
    few_steps _ _ c.args.a c.args.b xs ys _ _ c.none.ensures.same h k c.join_firsts-joined.ensures.steps
