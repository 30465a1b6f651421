-- The names of a text by the place of its delimiter.
use Rattle.std.proofs.Common.{◌≡◌, ℕ, ◌+◌, ◌-◌, List, length, take, drop, ap, ◌∙◌, arith, Option, Some, None, take_all, length-drop}
use Rattle.std.proofs.lemmas.Grind.{common_steps}
use Rattle.vg_scan.specs.declared.chars.Chars.{Chars}
use Rattle.vg_scan.specs.declared.name.NodeName.{NodeName}
use Rattle.vg_scan.specs.Lines.{part}
use Rattle.vg_scan.specs.Names.{canonical}
use Rattle.vg_scan.specs.Nodes.{leaf_at, parted_at, node_of_parts, port_without, inner_with, node_with, port_of, inner_of, node_of}

pub port_of-None : (chars : Chars) (text : List ℕ) → leaf_at chars text ≡ None → port_of chars text ≡ canonical chars text
unfolding port_of
port_of-None chars text e = ap (port_without chars text) e

pub port_of-Some : (chars : Chars) (text : List ℕ) (at : ℕ) → leaf_at chars text ≡ Some at → port_of chars text ≡ None
unfolding port_of
port_of-Some chars text at e = ap (port_without chars text) e

pub inner_of-None : (chars : Chars) (text : List ℕ) → leaf_at chars text ≡ None → inner_of chars text ≡ None
unfolding inner_of
inner_of-None chars text e = ap (inner_with chars text) e

pub node_of-None : (chars : Chars) (text : List ℕ) → leaf_at chars text ≡ None → node_of chars text ≡ node_with chars text None
unfolding node_of
node_of-None chars text e = ap (node_with chars text) e

-- the parts of a text round a place
pub part-owner : (text : List ℕ) (from to : ℕ) → from ≡ 0 → part text from to ≡ take to text
part-owner text from to e = rw e (grind (arith, common_steps))

pub part-leaf : (text : List ℕ) (at from to : ℕ) → from ≡ at + 1 → to ≡ length text → part text from to ≡ drop (at + 1) text
part-leaf text at from to e f = rw (e, f) (take_all (length text - (at + 1)) (drop (at + 1) text) (omega (arith, length-drop (at + 1) text)))

-- the names of the parts, where they are these bytes
abbrev pub named : Chars → List ℕ → List ℕ → Option NodeName
named chars owner leaf = node_of_parts (canonical chars owner) (canonical chars leaf)

pub parted_at-parts : (chars : Chars) (text owner leaf : List ℕ) (at : ℕ) → owner ≡ take at text → leaf ≡ drop (at + 1) text → parted_at chars text at ≡ named chars owner leaf
parted_at-parts chars text owner leaf at e f = rw (e, f)

pub inner_of-parts : (chars : Chars) (text owner leaf : List ℕ) (at : ℕ) → leaf_at chars text ≡ Some at → owner ≡ take at text → leaf ≡ drop (at + 1) text → inner_of chars text ≡ named chars owner leaf
unfolding inner_of
inner_of-parts chars text owner leaf at e f g = ap (inner_with chars text) e ∙ parted_at-parts chars text owner leaf at f g

pub node_of-parts : (chars : Chars) (text owner leaf : List ℕ) (at : ℕ) → leaf_at chars text ≡ Some at → owner ≡ take at text → leaf ≡ drop (at + 1) text → node_of chars text ≡ named chars owner leaf
unfolding node_of
node_of-parts chars text owner leaf at e f g = ap (node_with chars text) e ∙ parted_at-parts chars text owner leaf at f g
