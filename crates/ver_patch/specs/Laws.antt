-- Where the connections of every netlist stand in its text.
use Rattle.std.specs.Prelude.{ℕ, ◌<◌, ◌≤◌, List, length}
use Rattle.vg_scan.specs.declared.lines.Span.{Span}
use Rattle.ver_module.specs.Netlists.{Netlist}
use Rattle.ver_file.specs.Modules.{Denotes}
use Rattle.ver_net.specs.Laws.{IsBefore}
use Rattle.ver_net.specs.declared.pin_ref.PinRef.{PinRef}
use Rattle.ver_patch.specs.Pins.{IsOnOneNet, span_at}

-- a part of a text is not empty, and stands between two places
pub record StandsBetween (from to : ℕ) (span : Span) : Type 0 where
  pub behind : from ≤ span.from
  pub some : span.from < span.to
  pub before : span.to ≤ to

-- the head of a module ends before its `endmodule`, and this begins in the text
pub record EndsStand (text : List ℕ) (netlist : Netlist) : Type 0 where
  pub rise : netlist.head_end ≤ netlist.end_at
  pub within : netlist.end_at ≤ length text

abbrev pub HeadsEndFirst : Type 0
HeadsEndFirst = (text : List ℕ) (netlist : Netlist) → Denotes text netlist → EndsStand text netlist

-- a connection that is one net stands between the two
abbrev pub SpansStand : Type 0
SpansStand =
    (text : List ℕ) (netlist : Netlist) (at : PinRef) → Denotes text netlist → IsOnOneNet netlist at
    → StandsBetween netlist.head_end netlist.end_at (span_at netlist at)

-- such connections stand one after another, as their pins do
abbrev pub SpansRise : Type 0
SpansRise =
    (text : List ℕ) (netlist : Netlist) (a b : PinRef) → Denotes text netlist
    → IsOnOneNet netlist a → IsOnOneNet netlist b
    → IsBefore a b → (span_at netlist a).to ≤ (span_at netlist b).from
