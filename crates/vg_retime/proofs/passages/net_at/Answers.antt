use Rattle.std.proofs.Common.{◌≡◌, true, false, ap, sym, subst, ◌∙◌}
use Rattle.std.specs.Str.{bytes_eq}
use Rattle.ver_module.specs.Netlists.{Pin}
use Rattle.vg_retime.specs.Passages.{one_net}
use Rattle.vg_retime.proofs.PassageLemmas.{net_here, net_later}
use Rattle.vg_retime.proofs.passages.net_at.Goals as goal

pub returns-then-eq : goal.returns-then-eq
returns-then-eq c =
    c.one_net.ensures
    ∙ ap (λ (p : Pin). one_net p.link) c.found.view_is
    ∙ net_here c.args.instance.now c.args.pin.now c.pin.at c.pin-found.result c.pin.invariant c.pin-found.ensures
    (subst (λ (p : Pin). bytes_eq c.args.pin.now p.name ≡ true) c.found.view_is (sym c.eq.ensures ∙ c.if-eq.true))

pub pin-preserved : goal.pin-preserved
pin-preserved c =
    net_later c.args.instance.now c.args.pin.now c.pin.at c.pin-found.result c.pin.invariant c.pin-found.ensures
    (subst (λ (p : Pin). bytes_eq c.args.pin.now p.name ≡ false) c.found.view_is (sym c.eq.ensures ∙ c.if-eq.false))
