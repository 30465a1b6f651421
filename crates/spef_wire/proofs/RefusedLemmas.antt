-- The refusal of a net is that of its name.
use Rattle.std.proofs.Common.{ℕ, List}
use Rattle.spef_net.specs.declared.net.ParNet.{ParNet}
use Rattle.spef_wire.specs.Nets.{IsNetNamed, IsRefusedBelow}
use Rattle.spef_wire.specs.Steps.{IsRefusedFirst}
use Rattle.spef_wire.specs.declared.refusal.Refused.{Refused}
use Rattle.spef_wire.specs.declared.refusal.Refused.TheVariants.{Net, Memory}
use Rattle.spef_wire.specs.declared.refusal.Refusal.TheVariants.{UnknownNet, Section, Reduced, Inductive, Bidirectional, NoDriver, ManyDrivers, Mismatch, Tied, NoDrive, NoLoad, Floating, Loop, NoSink, Unconstrained, TooLarge}

pub refused_below : (n : ℕ) (text name : List ℕ) (net : ParNet) (refused : Refused) → IsNetNamed text name net → IsRefusedFirst n net refused → IsRefusedBelow n text name refused
refused_below n text name net Memory named h = tt
refused_below n text name net (Net Mismatch) named h = absurd h.0.holds
refused_below n text name net (Net Tied) named h = absurd h.0.holds
refused_below n text name net (Net NoDrive) named h = absurd h.0.holds
refused_below n text name net (Net (NoLoad node)) named h = absurd h.0.holds
refused_below n text name net (Net (Unconstrained node)) named h = absurd h.0.holds
refused_below n text name net (Net UnknownNet) named h = absurd h.0.holds
refused_below n text name net (Net (Section fault)) named h = absurd h.0.holds
refused_below n text name net (Net Reduced) named h = (record { net = net; named = named; refused = h.0 }, h.1)
refused_below n text name net (Net Inductive) named h = (record { net = net; named = named; refused = h.0 }, h.1)
refused_below n text name net (Net Bidirectional) named h = (record { net = net; named = named; refused = h.0 }, h.1)
refused_below n text name net (Net NoDriver) named h = (record { net = net; named = named; refused = h.0 }, h.1)
refused_below n text name net (Net ManyDrivers) named h = (record { net = net; named = named; refused = h.0 }, h.1)
refused_below n text name net (Net (Floating node)) named h = (record { net = net; named = named; refused = h.0 }, h.1)
refused_below n text name net (Net Loop) named h = (record { net = net; named = named; refused = h.0 }, h.1)
refused_below n text name net (Net NoSink) named h = (record { net = net; named = named; refused = h.0 }, h.1)
refused_below n text name net (Net TooLarge) named h = (record { net = net; named = named; refused = h.0 }, h.1)
