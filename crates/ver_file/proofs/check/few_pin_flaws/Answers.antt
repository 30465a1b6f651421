use Rattle.std.proofs.Common.{map, sym, ap, ◌∙◌}
use Rattle.ver_items.specs.Sections.{Section, name_at}
use Rattle.ver_file.specs.Firsts.{first_of}
use Rattle.ver_file.specs.Flaws.{connection_flaws}
use Rattle.ver_file.proofs.PinLemmas.{flaws_among, next_pin, no_pin}
use Rattle.ver_file.proofs.check.few_pin_flaws.Goals as goal

pub pin-preserved : goal.pin-preserved
pin-preserved g c = record {
  left =
      next_pin c.args.scope.now.text.now c.pin.first c.in_ok-first.first c.link_flaws-first.result (map (name_at c.args.scope.now.text.now) c.pin.pins.items) (map (name_at c.args.scope.now.text.now) c.repeated_among.new.pins.items)
      c.pin-in-pin.inside.head c.in-Some.pin c.pin.pin-iterator c.next.new.self (ap (λ (s : Section). s.head) c.pin-in-pin.view_is) c.in-Some.ensures.steps
      c.in_ok-first.ensures.names c.in_ok-first.ensures.first c.link_flaws-first.ensures
      ∙ c.pin.invariant.left;
}

pub returns : goal.returns
returns g c =
    let text = c.args.scope.now.text.now in
    sym (no_pin text c.pin.first (map (name_at text) c.pin.pins.items) c.pin.pin-iterator c.in-None.ensures.steps.0)
    ∙ c.pin.invariant.left
    ∙ (λ i. first_of c.args.first (flaws_among text (map (name_at text) (c.clear.ensures.items i)) ((c.into_iter-pin-iterator.ensures.into_iter_gives ∙ c.new-pin-items.ensures) i)))
    ∙ ap (λ s. first_of c.args.first (connection_flaws text s)) c.instance.view_is
