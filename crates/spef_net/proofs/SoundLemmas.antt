-- The net of a builder keeps what the type of a net keeps.
use Rattle.std.proofs.Common.{◌≡◌, ℕ, List, length, sym, subst}
use Rattle.std.specs.List.{All, AllPass}
use Rattle.vg_scan.specs.Printed.{IsPrintable}
use Rattle.spef_net.proofs.NamedLemmas.{nodes_named}
use Rattle.spef_net.proofs.NoteLemmas.{notes_are}
use Rattle.spef_nodes.specs.Nodes.{noted_all}
use Rattle.spef_file.specs.Files.{File}
use Rattle.spef_net.specs.Faults.{IsFaultless}
use Rattle.spef_net.specs.Statements.{statements}
use Rattle.spef_net.specs.Rows.{connected_of, caps_of, ress_of}
use Rattle.spef_net.specs.Builders.{PartialNet, IsPartialNet}
use Rattle.spef_net.specs.Nets.{in_line, IsCapOf, IsResOf, IsSound}
use Rattle.spef_net.proofs.SizeLemmas.{caps_fit, ress_fit, cap_values, res_values}
use Rattle.spef_net.proofs.StatementLemmas.{all_placed}
use Rattle.spef_net.proofs.JoinedLemmas.{length-noted, nodes_distinct, nodes_inside, nodes_joined}

module _ (net : List ℕ) (file : File) (ls : List (List ℕ)) (builder : PartialNet) (s : IsPartialNet (connected_of (statements file ls)) net (statements file ls) builder) where
  count : length builder.nodes ≡ length (noted_all builder.nodes builder.notes)
  count = sym (length-noted builder.nodes builder.notes)

  pub sound : IsFaultless net (statements file ls) → IsPrintable net → All (λ row. IsPrintable row.1) file.names → All (AllPass in_line) ls → IsSound net (noted_all builder.nodes builder.notes) builder.conns builder.caps builder.ress
  sound clear named mapped inside = record {
    named = named;
    nodes_named = nodes_named net file ls builder inside mapped s;
    distinct = nodes_distinct net (statements file ls) builder s;
    joined = nodes_joined net (statements file ls) builder s clear (all_placed file ls);
    inside = nodes_inside net (statements file ls) builder s;
    notes = notes_are net file ls builder inside s;
    caps_at = subst (λ n. All (IsCapOf n) builder.caps) count (caps_fit builder.nodes builder.caps (caps_of (connected_of (statements file ls)) net (statements file ls)) s.caps (cap_values (connected_of (statements file ls)) net file ls));
    ress_at = subst (λ n. All (IsResOf n) builder.ress) count (ress_fit builder.nodes builder.ress (ress_of (statements file ls)) s.ress (res_values file ls));
  }
