use Rattle.std.proofs.Common.{◌+◌, ℕ, ℤ, Option, Vec, Global, arith, subst, sym, ap, rules, ◌∙◌}
use Rattle.std.proofs.lemmas.Int.{to_z-of_z}
use mir.Syntax.{w128}
use mir.Val.{SFits}
use Rattle.sta_graph.specs.Begins.{AreStarts}
use Rattle.sta_graph.proofs.BeginLaws.{starts_none, starts_skip, starts_one, starts_all}
use Rattle.sta_graph.proofs.slacks.first_arrivals.Goals as goal
use Rattle.sta_graph.proofs.slacks.first_arrivals.Goals.{then-not-led-v, else-not-led-v}

pub nets-preserved : goal.nets-preserved
nets-preserved c =
    elim c.if-not-led-v.branch [
      | then-not-led-v w ↦
          let whole : SFits w128 w.arrival_at.result = search rules in
          subst (AreStarts c.args.g.now c.args.led.now (c.nets.v + 1)) (sym (ap (λ (r : Vec (Option ℤ) Global). r.items) w.times-is))
          (starts_one c.args.g.now c.args.led.now c.nets.v _ c.nets.times.items c.nets.invariant (omega arith) w.if-not-led-v.true
          (to_z-of_z w128 w.arrival_at.result whole ∙ w.arrival_at.ensures))
      | else-not-led-v w ↦
          subst (AreStarts c.args.g.now c.args.led.now (c.nets.v + 1)) (sym (ap (λ (r : Vec (Option ℤ) Global). r.items) w.times-is))
          (starts_skip c.args.g.now c.args.led.now c.nets.v c.nets.times.items c.nets.invariant w.if-not-led-v.false)
    ]

pub nets-init : goal.nets-init
nets-init c = starts_none c.args.g.now c.args.led.now c.in_ok-times.times.items (c.in_ok-times.ensures.count ∙ c.len.ensures) c.in_ok-times.ensures.none

pub returns : goal.returns
returns c = λ order small.
    starts_all c.args.g.now order c.args.led.now c.nets.times.items small c.requires
    (subst (λ (n : ℕ). AreStarts c.args.g.now c.args.led.now n c.nets.times.items) (omega arith) c.nets.invariant)
