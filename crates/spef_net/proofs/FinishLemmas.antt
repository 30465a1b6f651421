-- The net of a builder is what the lines denote.
use Rattle.std.proofs.Common.{◌≡◌, ℕ, suc, drop, Bool, not, List, [], ◌∷◌, map, refl, sym, ap, ◌∙◌, subst, Option, Some, None, is_some}
use Rattle.std.specs.Option.{option_or, unwrap_or}
use Rattle.std.specs.List.{slice_get}
use Rattle.vg_scan.specs.declared.name.NodeName.{NodeName}
use Rattle.spef_net.specs.declared.net.ParConn.{ParConn}
use Rattle.spef_nodes.specs.Nodes.{ParNode, Note, note_at, noted, noted_all}
use Rattle.spef_net.specs.declared.net.ParNet.{ParNet}
use Rattle.vg_scan.specs.Nodes.{node_value}
use Rattle.spef_net.specs.Statements.{Stated, statements}
use Rattle.spef_net.specs.Rows.{joined_of, starred_of, connected_of, conns_of, caps_of, ress_of}
use Rattle.spef_net.specs.Faults.{IsFaultless}
use Rattle.spef_net.specs.Nets.{IsSound}
use Rattle.spef_net.specs.Denoted.{described, AreConns, AreCaps, AreRess, all_nodes, IsNet}
use Rattle.std.specs.Str.Lines.{lines}
use Rattle.spef_nodes.specs.NodeReaders.{NetNodes}
use Rattle.spef_net.specs.Builders.{PartialNet, IsPartialNet, note_from, IsMade}

-- a node with what is noted of it is the node that is described
described_is : (j t : Option (List ℕ)) (node : NodeName)
    → noted node (note_from j t) ≡ record { name = node; inner = not (is_some j); note = unwrap_or (option_or j t) [] }
described_is None None node = refl
described_is None (Some text) node = refl
described_is (Some text) t node = refl

pub note_later : (notes : List Note) (i : ℕ) → note_at (drop 1 notes) i ≡ note_at notes (suc i)
note_later [] i = refl
note_later (n ∷ ns) i = refl

all_noted : (nodes : List NodeName) (notes : List Note) (f : NodeName → ParNode) → ((i : ℕ) (node : NodeName) → slice_get nodes i ≡ Some node → noted node (note_at notes i) ≡ f node) → noted_all nodes notes ≡ map f nodes
unfolding noted_all
all_noted [] notes f h = refl
all_noted (x ∷ xs) notes f h =
    let a : noted x (note_at notes 0) ≡ f x = h 0 x refl in
    let b : noted_all xs (drop 1 notes) ≡ map f xs = all_noted xs (drop 1 notes) f (λ i node e. ap (noted node) (note_later notes i) ∙ h (suc i) node e) in
    cc

pub made_net : (name : List ℕ) (reduced : Bool) (all : List Stated) (builder : PartialNet) (net : ParNet)
    → IsPartialNet (connected_of all) name all builder → IsMade name reduced builder net → IsNet name reduced all net
made_net name reduced all builder net s m = record {
  named = m.named;
  nodes = m.nodes
      ∙ all_noted builder.nodes builder.notes (described (joined_of all) (starred_of all))
      (λ i node e. ap (noted node) (s.noted.here i node e) ∙ described_is (node_value (joined_of all) node) (node_value (starred_of all) node) node)
      ∙ ap (map (described (joined_of all) (starred_of all))) s.nodes;
  conns = subst (λ (rows : List ParConn). AreConns (all_nodes name all) rows (conns_of all)) (sym m.conns) (subst (λ (ns : List NodeName). AreConns ns builder.conns (conns_of all)) s.nodes s.conns);
  caps = subst (λ (rows : List (ℕ × ℕ)). AreCaps (all_nodes name all) rows (caps_of (connected_of all) name all)) (sym m.caps) (subst (λ (ns : List NodeName). AreCaps ns builder.caps (caps_of (connected_of all) name all)) s.nodes s.caps);
  ress = subst (λ (rows : List (ℕ × ℕ × ℕ)). AreRess (all_nodes name all) rows (ress_of all)) (sym m.ress) (subst (λ (ns : List NodeName). AreRess ns builder.ress (ress_of all)) s.nodes s.ress);
  is_reduced = m.is_reduced;
  is_inductive = m.is_inductive ∙ s.inductive;
}

-- the builder of a net whose reader has these nodes
pub partial_of : (bytes : List ℕ) (nodes start : NetNodes) {builder : PartialNet} → nodes ≡ start → IsPartialNet (connected_of (statements nodes.file (lines bytes))) nodes.net (statements nodes.file (lines bytes)) builder
    → IsPartialNet (connected_of (statements start.file (lines bytes))) start.net (statements start.file (lines bytes)) builder
partial_of bytes nodes start {builder} e h = subst (λ (n : NetNodes). IsPartialNet (connected_of (statements n.file (lines bytes))) n.net (statements n.file (lines bytes)) builder) e h

pub faultless_of : (bytes : List ℕ) (nodes start : NetNodes) → nodes ≡ start → IsFaultless nodes.net (statements nodes.file (lines bytes)) → IsFaultless start.net (statements start.file (lines bytes))
faultless_of bytes nodes start e h = subst (λ (n : NetNodes). IsFaultless n.net (statements n.file (lines bytes))) e h

abbrev Parts : Type 0
Parts = List ℕ × List ParNode × List ParConn × List (ℕ × ℕ) × List (ℕ × ℕ × ℕ)

-- what is sound stays so for the same parts
pub sound_as : (name net : List ℕ) (nodes ns : List ParNode) (conns cs : List ParConn) (caps ks : List (ℕ × ℕ)) (ress rs : List (ℕ × ℕ × ℕ))
    → net ≡ name → ns ≡ nodes → cs ≡ conns → ks ≡ caps → rs ≡ ress → IsSound net ns cs ks rs → IsSound name nodes conns caps ress
sound_as name net nodes ns conns cs caps ks ress rs p q c k r h =
    subst (λ (parts : Parts). IsSound parts.0 parts.1 parts.2 parts.3 parts.4) (λ i. (p i, q i, c i, k i, r i)) h
