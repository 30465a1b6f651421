-- The cells of a design that were put in: instances whose names begin with a prefix and whose cells are repeaters.
use Rattle.std.specs.Prelude.{ℕ, ◌==◌, Bool, List, Option, Some, None, find, option_map, option_and_then, if◌then◌else◌}
use Rattle.std.specs.List.{starts_with}
use Rattle.std.specs.Str.{bytes_eq}
use Rattle.elmore.specs.declared.parts.Sink.{Sink}
use Rattle.lib_linear.specs.Libraries.{Cells}
use Rattle.lib_linear.specs.declared.repeater.Repeater.{Repeater}
use Rattle.ver_module.specs.Netlists.{Instance}
use Rattle.ver_module.specs.declared.link.Link.{Link}
use Rattle.ver_module.specs.declared.link.Link.TheVariants.{One}
use Rattle.cut_laws.specs.Walks.{End, nothing, sink, passes}
use Rattle.vg_design.specs.Designs.{Design, Joined, instance_at, name_of, pin_on}
use Rattle.vg_design.specs.Parts.{sink_at}
use Rattle.vg_scan.specs.declared.name.NodeName.{NodeName}
use Rattle.vg_retime.specs.declared.walk_net.Above.{Above}
use Rattle.vg_retime.specs.declared.walk_net.Above.TheVariants.{First, Net, Open}

-- the repeater of a cell, if it is one
abbrev pub repeater_of : Cells → List ℕ → Option Repeater
repeater_of library cell = find (λ r. bytes_eq cell r.cell) library.repeaters

-- the repeater that an instance is, where it was put in
abbrev pub put_in : Design → List ℕ → Instance → Option Repeater
put_in d prefix instance = if starts_with ◌==◌ instance.name prefix then repeater_of d.library instance.cell else None

-- A cell that was put in: its instance and its repeater.
pub record Passage : Type 0 where
  pub instance : Instance
  pub repeater : Repeater

abbrev pub passage_of : Design → List ℕ → Instance → Option Passage
passage_of d prefix instance = option_map (λ r. record { instance = instance; repeater = r }) (put_in d prefix instance)

-- the cell that was put in one of whose pins, of this name, is on a net
abbrev pub passage_at : Design → List ℕ → Joined → NodeName → Option Passage
passage_at d prefix n at =
    option_and_then (λ pin. passage_of d prefix (instance_at d.netlist pin)) (pin_on d.netlist n.id at)

abbrev pub only_if : Bool → Passage → Option Passage
only_if is passage = if is then Some passage else None

-- the cell that was put in whose input is on the net by this name, and the one whose output is
abbrev pub into_at : Design → List ℕ → Joined → NodeName → Option Passage
into_at d prefix n at = option_and_then (λ p. only_if (bytes_eq at.leaf p.repeater.input) p) (passage_at d prefix n at)

abbrev pub from_at : Design → List ℕ → Joined → NodeName → Option Passage
from_at d prefix n at = option_and_then (λ p. only_if (bytes_eq at.leaf p.repeater.output) p) (passage_at d prefix n at)

-- ---- from net to net

-- the one net of a link, if it is to one
abbrev pub one_net : Link → Option ℕ
one_net (One id) = Some id
one_net _ = None

-- the net at the pin of this name of an instance; of two pins of one name the first counts
abbrev pub net_at : Instance → List ℕ → Option ℕ
net_at instance pin = option_and_then (λ p. one_net p.link) (find (λ p. bytes_eq pin p.name) instance.pins)

-- what stands at a node: nothing where there is no sink; the input of a cell that was put in, which leads to the net at
-- its output; or a sink
abbrev pub end_by : Option Passage → Option Sink → End
end_by passage None = nothing
end_by None (Some goal) = sink goal
end_by (Some p) (Some goal) = passes p.repeater.rep (net_at p.instance p.repeater.output)

-- what stands at the node v of a net
abbrev pub end_in : Design → List ℕ → Joined → ℕ → End
end_in d prefix n v = end_by (into_at d prefix n (name_of n.par v)) (sink_at d.rows n.par v)

abbrev pub above_by : Option ℕ → Above
above_by None = Open
above_by (Some next) = Net next

-- what is above a net: where a cell that was put in drives it, the net at that cell's input
abbrev pub above_from : Option Passage → Above
above_from None = First
above_from (Some p) = above_by (net_at p.instance p.repeater.input)

-- the same of the net's driver, which has this name
abbrev pub above_at : Design → List ℕ → Joined → NodeName → Above
above_at d prefix n driver = above_from (from_at d prefix n driver)
