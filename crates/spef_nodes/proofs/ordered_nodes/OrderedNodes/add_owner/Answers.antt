use Rattle.std.proofs.Common.{◌≡◌, Some, length, cond, refl, ap, ◌∙◌, arith}
use Rattle.std.proofs.lemmas.Result.{on_ok_weaker, on_err_weaker}
use Rattle.std.specs.Str.{bytes_eq}
use Rattle.spef_nodes.proofs.OrderedNodeLemmas.{after, more_owners, more_places, places_more, places_same, same_places}
use Rattle.spef_nodes.proofs.ordered_nodes.OrderedNodes.add_owner.Goals as goal

pub returns-in_default-clause-unchanged : goal.returns-in_default-clause-unchanged
returns-in_default-clause-unchanged c = same_places c.args.self.now _ refl c.in_default.ensures.items

pub returns-clause-added : goal.returns-clause-added
returns-clause-added c =
    let s = c.args.self.now in
    let last : c.len-place.result ≡ length s.leaves.items = omega (arith, c.len-place.ensures) in
    on_ok_weaker c.add-2.result
    (λ put. more_owners s _ c.add.new.self c.len-place.result c.args.row c.args.owner.now c.args.leaf.now c.requires.places c.requires.new last put c.in-Ok.ensures.items
    (λ other. c.in_ok-add.ensures.added other ∙ ap (cond (bytes_eq c.args.leaf.now other) (Some c.args.row)) (c.new-rows.ensures other)))
    c.add-2.ensures.added

pub returns-clause-unchanged : goal.returns-clause-unchanged
returns-clause-unchanged c = on_err_weaker c.add-2.result (λ same. more_places c.args.self.now _ c.add.new.self c.requires.places same c.in-Ok.ensures.items) c.add-2.ensures.unchanged

pub returns-clause-places : goal.returns-clause-places
returns-clause-places c =
    let s = c.args.self.now in
    let last : c.len-place.result ≡ length s.leaves.items = omega (arith, c.len-place.ensures) in
    after c.add-2.result c.add-2.ensures.added c.add-2.ensures.unchanged
    (places_more s _ c.add.new.self c.args.owner.now c.len-place.result last c.requires.places c.in-Ok.ensures.items)
    (places_same s _ c.add.new.self c.requires.places c.in-Ok.ensures.items)
