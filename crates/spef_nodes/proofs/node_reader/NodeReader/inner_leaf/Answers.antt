use Rattle.std.proofs.Common.{◌≡◌, ◌-◌, length, take, drop, refl, subst, ap, not, Some}
use Rattle.spef_nodes.specs.Members.{node_named}
use Rattle.spef_nodes.specs.Names.{node_in}
use Rattle.spef_nodes.specs.NodeReaders.{NetNodes, Writes}
use Rattle.spef_file.specs.IndexFiles.{file_of}
use Rattle.spef_nodes.proofs.NodeReaderLemmas.{leaf_found}
use Rattle.spef_nodes.proofs.node_reader.NodeReader.inner_leaf.Goals as goal

pub returns-in-Some : goal.returns-in-Some
returns-in-Some c =
    let s = c.self.inside in
    let text = c.args.text.now in
    let leaf = take (length text - length s.prefix.now) (drop (length s.prefix.now) text) in
    subst (λ (r : NetNodes). (node_in r.file text ≡ Some (node_named r.net leaf)) × Writes leaf c.in-Some.number) c.self.view_is
    (leaf_found (record { file = file_of s.index.now; net = s.net.now; nodes = s.nodes }) s.prefix.now s.numbers.items text leaf s.known.items c.in-Some.number c.self.invariant c.if-start-eq0.false c.if-text-start.false (ap not c.if-not-is_same.ensures) refl c.in-Some.ensures)
