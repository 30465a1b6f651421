use Rattle.std.proofs.Common.{[], sym, ◌∙◌, arith}
use Rattle.spef_net.proofs.WordLemmas.{res_other, res_resistor, then_word, none_more, some_more}
use Rattle.spef_net.proofs.take.take_res.Goals as goal

pub returns-in_default-clause-taken : goal.returns-in_default-clause-taken
returns-in_default-clause-taken c =
    λ id. res_other c.args.builder.now.file id c.args.words _ c.args.builder.now.net c.args.builder.now (then_word _ _ _ _ c.in_default.ensures.steps (then_word _ _ [] _ c.in_default.ensures'.steps c.in_default.ensures''.steps.0)) (λ n. let x : ⊥ = omega (arith, n) in x)

pub returns-in_default-2-clause-taken : goal.returns-in_default-2-clause-taken
returns-in_default-2-clause-taken c =
    λ id. res_other c.args.builder.now.file id c.args.words _ c.args.builder.now.net c.args.builder.now (then_word _ _ [] _ c.in_default.ensures.steps c.in_default.ensures'.steps.0) (λ n. let x : ⊥ = omega (arith, n) in x)

pub returns-in_default-3-clause-taken : goal.returns-in_default-3-clause-taken
returns-in_default-3-clause-taken c =
    λ id. res_other c.args.builder.now.file id c.args.words [] c.args.builder.now.net c.args.builder.now c.in_default.ensures.steps.0 (λ n. let x : ⊥ = omega (arith, n) in x)

pub returns-then-not-is_empty-clause-taken : goal.returns-then-not-is_empty-clause-taken
returns-then-not-is_empty-clause-taken c =
    let more = some_more _ (sym c.is_empty.ensures ∙ c.if-not-is_empty.true) in
    λ id. res_other c.args.builder.now.file id c.args.words _ c.args.builder.now.net c.args.builder.now
    (then_word _ _ _ _ c.in-Some-Some-Some.ensures.steps (then_word _ _ _ _ c.in-Some-Some-Some.ensures'.steps c.in-Some-Some-Some.ensures''.steps)) (λ n. more (omega (arith, n)))

pub returns-clause-taken : goal.returns-clause-taken
returns-clause-taken c =
    λ id. res_resistor c.take_resistor.result c.args.builder.now.file id c.in-Some-Some-Some.a.now c.in-Some-Some-Some.b.now c.in-Some-Some-Some.value.now c.args.words c.args.builder.now.net c.args.builder.now c.take_resistor.new.builder
    (then_word _ _ _ _ c.in-Some-Some-Some.ensures.steps (then_word _ _ _ _ c.in-Some-Some-Some.ensures'.steps (then_word _ _ [] _ c.in-Some-Some-Some.ensures''.steps (none_more _ (sym c.is_empty.ensures ∙ c.if-not-is_empty.false))))) c.take_resistor.ensures.taken
