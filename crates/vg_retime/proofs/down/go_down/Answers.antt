use Rattle.std.proofs.Common.{◌≡◌, ℕ, ◌+◌, length, ◌∙◌, arith, subst}
use Rattle.std.proofs.lemmas.Result.{err_from_is_err_and}
use Rattle.vg_retime.specs.Steps.{IsUnderWay}
use Rattle.vg_retime.specs.Stops.{IsRefusedDown}
use Rattle.vg_retime.specs.declared.climb.First.{First}
use Rattle.vg_retime.proofs.DownLemmas.{few_turns, first_known, some_signal}
use Rattle.vg_retime.proofs.down.go_down.Goals as goal

pub turn-requires-clause-at : goal.turn-requires-clause-at
turn-requires-clause-at c =
    some_signal c.args.design.now c.args.prefix.now c.in_ok-walk.walk (c.in_ok-walk.ensures.walk c.args.design.now c.args.prefix.now c.requires.first)

pub turn-requires-clause-known : goal.turn-requires-clause-known
turn-requires-clause-known c =
    first_known c.args.design.now c.args.prefix.now c.in_ok-walk.walk c.args.first c.args.net (c.in_ok-walk.ensures.walk c.args.design.now c.args.prefix.now c.requires.first)
    c.in_ok-walk.ensures.first c.requires.net

pub signal-init : goal.signal-init
signal-init c = record { way = c.in_ok-turn.ensures.walk; first = c.in_ok-turn.ensures.first ∙ c.in_ok-walk.ensures.first }

pub signal-smaller : goal.signal-smaller
signal-smaller c =
    let few = few_turns c.args.design.now c.args.prefix.now (c.signal.at + 1) c.turn-in-signal.new.walk c.in_ok-turn-2.ensures.walk in omega (arith, few)

pub signal-preserved : goal.signal-preserved
signal-preserved c = record { way = c.in_ok-turn-2.ensures.walk; first = c.in_ok-turn-2.ensures.first ∙ c.signal.invariant.first }

pub returns-in_err-turn-clause-refused : goal.returns-in_err-turn-clause-refused
returns-in_err-turn-clause-refused c =
    let p = err_from_is_err_and c.from_residual-in_err-turn.result c.from_residual-in_err-turn.ensures.1 in
    rw (p.1, p.2) (subst (λ (f : First). IsRefusedDown c.args.design.now c.args.prefix.now f c.in_err-turn.field-0.0) c.in_ok-walk.ensures.first c.in_err-turn.ensures.refused)

pub returns-in_err-turn-2-clause-refused : goal.returns-in_err-turn-2-clause-refused
returns-in_err-turn-2-clause-refused c =
    let p = err_from_is_err_and c.from_residual-in_err-turn-2.result c.from_residual-in_err-turn-2.ensures.1 in
    rw (p.1, p.2) (subst (λ (f : First). IsRefusedDown c.args.design.now c.args.prefix.now f c.in_err-turn-2.field-0.0) c.signal.invariant.first c.in_err-turn-2.ensures.refused)

pub returns-clause-walk : goal.returns-clause-walk
returns-clause-walk c =
    let within = c.signal.invariant.way.within in
    let high = c.signal-test.false in
    let same : c.signal.at ≡ length c.signal.walk.signals.items = omega (arith, within, high) in
    subst (λ (n : ℕ). IsUnderWay c.args.design.now c.args.prefix.now n c.signal.walk) same c.signal.invariant.way
