use Rattle.std.proofs.Common.{◌≡◌, sym, subst, arith, Some}
use Rattle.std.specs.List.{slice_get}
use Rattle.spef_nodes.specs.Members.{node_named}
use Rattle.spef_file.specs.IndexFiles.{file_of}
use Rattle.spef_nodes.specs.NodeReaders.{NetNodes}
use Rattle.spef_nodes.proofs.NodeReaderLemmas.{numbers_more}
use Rattle.spef_nodes.proofs.node_reader.NodeReader.remember.Goals as goal

pub invariant_of-self : goal.invariant_of-self
invariant_of-self c =
    let s = c.self.inside in
    let here : slice_get s.nodes c.args.id ≡ Some (node_named s.net.now c.args.leaf.now) =
    subst (λ (r : NetNodes). slice_get r.nodes c.args.id ≡ Some (node_named r.net c.args.leaf.now)) (sym c.self.view_is) c.requires.named in
    record {
      begins = c.self.invariant.begins;
      leads = numbers_more (record { file = file_of s.index.now; net = s.net.now; nodes = s.nodes }) s.numbers.items c.args.number c.args.id c.args.leaf.now c.requires.writes here (omega (arith, c.if-number-len.true, c.len.ensures)) c.self.invariant.leads;
      known = c.self.invariant.known;
    }
