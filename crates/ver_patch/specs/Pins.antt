-- Pins that are linked to one net, and where their connections stand.
use Rattle.std.specs.Prelude.{◌≢◌, ℕ, List, Option, option_and_then, option_map, unwrap_or, slice_get}
use Rattle.std.specs.List.{All, AllPairs}
use Rattle.vg_scan.specs.declared.lines.Span.{Span}
use Rattle.ver_module.specs.declared.link.Link.TheVariants.{One}
use Rattle.ver_module.specs.Netlists.{Netlist, Pin}
use Rattle.ver_net.specs.Laws.{HasLink}
use Rattle.ver_net.specs.declared.pin_ref.PinRef.{PinRef}
use Rattle.ver_patch.specs.Rewires.{Rewire}

-- a pin is linked to one net
abbrev pub IsOnOneNet : Netlist → PinRef → Type 0
IsOnOneNet netlist at = (net : ℕ) × HasLink netlist at (One net)

-- the pin of this number of the instance of this number, if there is one
abbrev pub pin_at : Netlist → PinRef → Option Pin
pin_at netlist at =
    option_and_then (λ instance. slice_get instance.pins at.pin) (slice_get netlist.instances at.instance)

-- where the connection of a pin stands
abbrev pub span_at : Netlist → PinRef → Span
span_at netlist at = unwrap_or (option_map (λ pin. pin.span) (pin_at netlist at)) (record { from = 0; to = 0 })

-- the pins differ, and each is linked to one net
pub record AreRewirable (netlist : Netlist) (rewires : List Rewire) : Type 0 where
  pub linked : All (λ rewire. IsOnOneNet netlist rewire.at) rewires
  pub once : AllPairs (λ a b. a.at ≢ b.at) rewires
