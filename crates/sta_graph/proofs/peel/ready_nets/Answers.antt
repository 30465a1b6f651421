use Rattle.std.proofs.Common.{ℕ, ◌+◌, sym, subst, ap, Vec, Global, ◌∙◌}
use Rattle.sta_graph.specs.Peeling.{AreFree}
use Rattle.sta_graph.proofs.PeelLaws.{free_more, free_same, free_none}
use Rattle.sta_graph.proofs.peel.ready_nets.Goals as goal
use Rattle.sta_graph.proofs.peel.ready_nets.Goals.{then-counts-v-eq0+in_ok-push, else-counts-v-eq0}

pub nets-preserved : goal.nets-preserved
nets-preserved c =
    elim c.if-counts-v-eq0.branch [
      | then-counts-v-eq0+in_ok-push w ↦
          subst (AreFree c.args.counts.now (c.nets.v + 1)) (sym (ap (λ (r : Vec ℕ Global). r.items) w.ready-is ∙ w.in_ok-push.ensures.items))
          (free_more c.args.counts.now c.nets.v c.nets.ready.items c.nets.invariant w.if-counts-v-eq0.true)
      | else-counts-v-eq0 w ↦
          subst (AreFree c.args.counts.now (c.nets.v + 1)) (sym (ap (λ (r : Vec ℕ Global). r.items) w.ready-is))
          (free_same c.args.counts.now c.nets.v c.nets.ready.items c.nets.invariant w.if-counts-v-eq0.false)
    ]

pub nets-init : goal.nets-init
nets-init c = subst (AreFree c.args.counts.now 0) (sym c.new-ready.ensures.items) (free_none c.args.counts.now)
