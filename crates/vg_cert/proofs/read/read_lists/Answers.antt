use Rattle.std.proofs.Common.{◌≡◌, ◌+◌, suc, arith, subst, rules}
use Rattle.std.proofs.lemmas.List.{drop_all}
use Rattle.vg_cert.specs.Readings.{reading}
use Rattle.vg_cert.proofs.NodeLemmas.{AreListsUpTo, due_next, lists_more, lists_done}
use Rattle.vg_cert.proofs.read.read_lists.Goals as goal

pub read_lists_of-requires-clause-due : goal.read_lists_of-requires-clause-due
read_lists_of-requires-clause-due c = due_next (reading c.args.source.now) c.args.place.now.count c.node.v c.node.place c.node.lists.items _ c.node.invariant (search rules) (search rules)

pub node-preserved : goal.node-preserved
node-preserved c =
    let p = c.in_ok-found.ensures in
    subst (λ v. AreListsUpTo (reading c.args.source.now) c.args.place.now.count v c.read_lists_of.new.place c.push.new.self.items) (let k : suc c.node.v ≡ c.node.v + 1 = omega arith in k)
    (lists_more (reading c.args.source.now) c.args.place.now.count c.node.v c.node.place c.read_lists_of.new.place c.node.lists.items c.push.new.self.items _ c.in_ok-found.found c.node.invariant
    (search rules) (search rules) p.0 p.1 p.2 (search rules))

pub returns-clause-lists : goal.returns-clause-lists
returns-clause-lists c = lists_done (reading c.args.source.now) c.args.place.now.count c.node.v c.node.place c.node.lists.items c.node.invariant (drop_all c.node.v (reading c.args.source.now).problem.live (search rules))
