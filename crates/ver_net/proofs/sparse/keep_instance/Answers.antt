use Rattle.std.proofs.Common.{sym, ap, ◌∙◌, arith, rules, take, ◌<◌, ◌^◌}
use Rattle.ver_module.specs.Links.{lent_link}
use Rattle.ver_net.specs.Connections.{terminals_from}
use Rattle.ver_net.proofs.StepLemmas.{lent_one, kept_begun, kept_pin, kept_same, kept_instance}
use Rattle.ver_net.proofs.sparse.keep_instance.Goals as goal
use Rattle.ver_net.proofs.sparse.keep_instance.Goals.{in-One+in_ok-keep, in_default}

pub pin-init : goal.pin-init
pin-init c = kept_begun (terminals_from 0 (take c.args.at c.args.netlist.now.instances)) c.args.at c.args.rows.now c.requires.kept

pub overflow_cast-pin_ref-in-One : goal.overflow_cast-pin_ref-in-One
overflow_cast-pin_ref-in-One c =
    let small : c.pin.pin < 2 ^ 32 = omega (arith, c.pin-test.true, c.len-pin-end.ensures.few) in
    search rules

pub pin-preserved : goal.pin-preserved
pin-preserved c =
    elim c.match-pin.branch [
      | in-One+in_ok-keep w ↦
          rw (w.rows-is)
          (kept_pin c.args.netlist.now c.args.at c.instance-instance.result c.pin.pin c.pin-in-pin.result w.in-One.net c.pin.rows w.keep.new.rows c.pin-in-pin.ensures
          (sym (ap (λ v. v.link) c.pin-in-pin-2.view_is) ∙ ap lent_link w.in-One.is) c.pin.invariant w.in_ok-keep.ensures)
      | in_default w ↦
          rw (w.rows-is)
          (kept_same c.args.netlist.now c.args.at c.instance-instance.result c.pin.pin c.pin-in-pin.result c.pin.rows c.pin-in-pin.ensures
          (λ net e. w.in_default.not-One net (lent_one c.pin-in-pin-2.inside.link net (ap (λ v. v.link) c.pin-in-pin-2.view_is ∙ e)))
          c.pin.invariant)
    ]

pub returns : goal.returns
returns c = kept_instance c.args.netlist.now c.args.at c.instance-instance.result c.pin.pin c.pin.rows c.instance-instance.ensures (omega (arith, c.pin-test.false, c.len-pin-end.ensures.count)) c.pin.invariant
