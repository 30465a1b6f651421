use Rattle.std.proofs.Common.{◌≡◌, ◌∷◌, [], refl, sym, ap, subst, ◌∙◌, suc, rules, to_z, of_z, to_z-of_z}
use Rattle.std.specs.Int.{w128}
use Rattle.sol_arena.specs.Slots.{none}
use Rattle.cand_pool.specs.Candidates.{Candidate}
use Rattle.cand_pool.specs.Pools.{Block, Holds, KeepsOthers, spare, name}
use Rattle.cand_turns.proofs.StartLemmas.{odd_class, even_class, sink_turn, turned_round}
use Rattle.cand_turns.proofs.branch.Branch.of_sink.Goals as goal

pub returns-then-sink-clause-classes : goal.returns-then-sink-clause-classes
returns-then-sink-clause-classes c =
    let x_is : record { q = to_z w128 (of_z w128 c.args.sink.required); c = c.args.c; tag = c.empty.result.0 } ≡ (record { q = c.args.sink.required; c = c.args.c; tag = none })
    = λ i. record { q = to_z-of_z {w = w128} {z = c.args.sink.required} (search rules) i; c = c.args.c; tag = c.empty.ensures.none i } in
    let one : Holds c.none-none.new.self c.one-list.result ((record { q = c.args.sink.required; c = c.args.c; tag = none }) ∷ [])
    = subst (λ (s : Block). Holds s c.one-list.result ((record { q = c.args.sink.required; c = c.args.c; tag = none }) ∷ [])) (sym c.none-none.ensures.same) (subst (λ (y : Candidate). Holds c.one-list.new.self c.one-list.result (y ∷ [])) x_is c.one-list.ensures.list) in
    odd_class c.none-none.new.self c.one-list.result c.none-none.result c.args.sink c.args.c c.if-sink.true one c.none-none.ensures.list

pub returns-then-sink-clause-turn : goal.returns-then-sink-clause-turn
returns-then-sink-clause-turn c = λ slots.
    let x_is : record { q = to_z w128 (of_z w128 c.args.sink.required); c = c.args.c; tag = c.empty.result.0 } ≡ (record { q = c.args.sink.required; c = c.args.c; tag = none })
    = λ i. record { q = to_z-of_z {w = w128} {z = c.args.sink.required} (search rules) i; c = c.args.c; tag = c.empty.ensures.none i } in
    let one : Holds c.none-none.new.self c.one-list.result ((record { q = c.args.sink.required; c = c.args.c; tag = none }) ∷ [])
    = subst (λ (s : Block). Holds s c.one-list.result ((record { q = c.args.sink.required; c = c.args.c; tag = none }) ∷ [])) (sym c.none-none.ensures.same) (subst (λ (y : Candidate). Holds c.one-list.new.self c.one-list.result (y ∷ [])) x_is c.one-list.ensures.list) in
    turned_round c.args.pool.now c.none-none.new.self slots c.one-list.result c.none-none.result (sink_turn c.args.pool.now c.none-none.new.self slots c.one-list.result c.none-none.result (record { q = c.args.sink.required; c = c.args.c; tag = none }) refl one c.none-none.ensures.list
    (subst (λ (s : Block). KeepsOthers c.args.pool.now [] s (name c.one-list.result ∷ [])) (sym c.none-none.ensures.same) c.one-list.ensures.others)
    (c.one-list.ensures.spare ∙ ap (λ (s : Block). suc (spare s)) (sym c.none-none.ensures.same)))

pub returns-else-sink-clause-classes : goal.returns-else-sink-clause-classes
returns-else-sink-clause-classes c =
    let x_is : record { q = to_z w128 (of_z w128 c.args.sink.required); c = c.args.c; tag = c.empty.result.0 } ≡ (record { q = c.args.sink.required; c = c.args.c; tag = none })
    = λ i. record { q = to_z-of_z {w = w128} {z = c.args.sink.required} (search rules) i; c = c.args.c; tag = c.empty.ensures.none i } in
    let one : Holds c.none-none.new.self c.one-list.result ((record { q = c.args.sink.required; c = c.args.c; tag = none }) ∷ [])
    = subst (λ (s : Block). Holds s c.one-list.result ((record { q = c.args.sink.required; c = c.args.c; tag = none }) ∷ [])) (sym c.none-none.ensures.same) (subst (λ (y : Candidate). Holds c.one-list.new.self c.one-list.result (y ∷ [])) x_is c.one-list.ensures.list) in
    even_class c.none-none.new.self c.one-list.result c.none-none.result c.args.sink c.args.c c.if-sink.false one c.none-none.ensures.list

pub returns-else-sink-clause-turn : goal.returns-else-sink-clause-turn
returns-else-sink-clause-turn c = λ slots.
    let x_is : record { q = to_z w128 (of_z w128 c.args.sink.required); c = c.args.c; tag = c.empty.result.0 } ≡ (record { q = c.args.sink.required; c = c.args.c; tag = none })
    = λ i. record { q = to_z-of_z {w = w128} {z = c.args.sink.required} (search rules) i; c = c.args.c; tag = c.empty.ensures.none i } in
    let one : Holds c.none-none.new.self c.one-list.result ((record { q = c.args.sink.required; c = c.args.c; tag = none }) ∷ [])
    = subst (λ (s : Block). Holds s c.one-list.result ((record { q = c.args.sink.required; c = c.args.c; tag = none }) ∷ [])) (sym c.none-none.ensures.same) (subst (λ (y : Candidate). Holds c.one-list.new.self c.one-list.result (y ∷ [])) x_is c.one-list.ensures.list) in
    sink_turn c.args.pool.now c.none-none.new.self slots c.one-list.result c.none-none.result (record { q = c.args.sink.required; c = c.args.c; tag = none }) refl one c.none-none.ensures.list
    (subst (λ (s : Block). KeepsOthers c.args.pool.now [] s (name c.one-list.result ∷ [])) (sym c.none-none.ensures.same) c.one-list.ensures.others)
    (c.one-list.ensures.spare ∙ ap (λ (s : Block). suc (spare s)) (sym c.none-none.ensures.same))
