use Rattle.std.proofs.Common.{[], sym, ◌∙◌, arith}
use Rattle.spef_net.proofs.WordLemmas.{cap_other, cap_ground, cap_coupling, then_word, none_more, some_more}
use Rattle.spef_net.proofs.take.take_cap.Goals as goal

pub returns-in_default-clause-taken : goal.returns-in_default-clause-taken
returns-in_default-clause-taken c =
    λ id. cap_other c.args.builder.now.file id c.args.words _ c.args.builder.now.net c.args.builder.now (then_word _ _ [] _ c.in_default.ensures.steps c.in_default.ensures'.steps.0) (λ n. let x : ⊥ = omega (arith, n) in x) (λ n. let x : ⊥ = omega (arith, n) in x)

pub returns-in_default-2-clause-taken : goal.returns-in_default-2-clause-taken
returns-in_default-2-clause-taken c =
    λ id. cap_other c.args.builder.now.file id c.args.words [] c.args.builder.now.net c.args.builder.now c.in_default.ensures.steps.0 (λ n. let x : ⊥ = omega (arith, n) in x) (λ n. let x : ⊥ = omega (arith, n) in x)

pub returns-in_default-next-clause-taken : goal.returns-in_default-next-clause-taken
returns-in_default-next-clause-taken c =
    λ id. cap_ground c.take_ground.result c.args.builder.now.file id c.in-Some-Some.node.now c.in-Some-Some.other.now c.args.words c.args.builder.now.net c.args.builder.now c.take_ground.new.builder
    (then_word _ _ _ _ c.in-Some-Some.ensures.steps (then_word _ _ [] _ c.in-Some-Some.ensures'.steps c.in_default-next.ensures.steps.0)) c.take_ground.ensures.taken

pub returns-then-not-is_empty-clause-taken : goal.returns-then-not-is_empty-clause-taken
returns-then-not-is_empty-clause-taken c =
    let more = some_more _ (sym c.is_empty.ensures ∙ c.if-not-is_empty.true) in
    λ id. cap_other c.args.builder.now.file id c.args.words _ c.args.builder.now.net c.args.builder.now
    (then_word _ _ _ _ c.in-Some-Some.ensures.steps (then_word _ _ _ _ c.in-Some-Some.ensures'.steps c.in-Some.ensures.steps)) (λ n. let x : ⊥ = omega (arith, n) in x) (λ n. more (omega (arith, n)))

pub returns-clause-taken : goal.returns-clause-taken
returns-clause-taken c =
    λ id. cap_coupling c.take_coupling.result c.args.builder.now.file id c.in-Some-Some.node.now c.in-Some-Some.other.now c.in-Some.value.now c.args.words c.args.builder.now.net c.args.builder.now c.take_coupling.new.builder
    (then_word _ _ _ _ c.in-Some-Some.ensures.steps (then_word _ _ _ _ c.in-Some-Some.ensures'.steps (then_word _ _ [] _ c.in-Some.ensures.steps (none_more _ (sym c.is_empty.ensures ∙ c.if-not-is_empty.false))))) c.take_coupling.ensures.taken
