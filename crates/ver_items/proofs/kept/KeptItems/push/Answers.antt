use Rattle.std.proofs.Common.{◌≡◌, [], ◌∷◌, ◌++◌, length, rules}
use Rattle.ver_items.proofs.KeptLemmas.{pushed_counts, pushed_items}
use Rattle.ver_items.proofs.kept.KeptItems.push.Goals as goal

pub invariant_of-self : goal.invariant_of-self
invariant_of-self c =
    let rows : c.extend_from_slice.new.self.items ≡ c.self.inside.rows.items ++ c.args.item.now = search rules in
    let counts : c.push.new.self.items ≡ c.self.inside.counts.items ++ length c.args.item.now ∷ [] = search rules in
    pushed_counts c.self.inside.counts.items c.push.new.self.items c.self.inside.rows.items c.args.item.now c.extend_from_slice.new.self.items
    c.self.invariant rows counts c.requires

pub returns-clause-last : goal.returns-clause-last
returns-clause-last c = λ put.
    let rows : c.extend_from_slice.new.self.items ≡ c.self.inside.rows.items ++ c.args.item.now = search rules in
    let counts : c.push.new.self.items ≡ c.self.inside.counts.items ++ length c.args.item.now ∷ [] = search rules in
    pushed_items c.self.inside.counts.items c.push.new.self.items c.self.inside.rows.items c.args.item.now c.extend_from_slice.new.self.items c.args.self.now
    c.self.invariant c.self.view_is rows counts
