use Rattle.std.proofs.Common.{◌≡◌, ◌∷◌, [], ◌++◌, List, length, map, arith, ap, ◌∙◌}
use Rattle.spef_write.specs.Places.{printed_in}
use Rattle.spef_write.specs.Printed.{PrintedNode}
use Rattle.spef_write.specs.Texts.{printed_node_with}
use Rattle.spef_write.specs.declared.printed.Place.{Place}
use Rattle.spef_write.proofs.PlaceLemmas.{place_more}
use Rattle.spef_write.proofs.printed.Printed.push.Goals as goal

pub returns : goal.returns
returns c =
    let node = c.args.node.now in
    let text = c.self.inside.text.items in
    let places = c.self.inside.places.items in
    let name = printed_node_with c.args.chars.now node.owner.now node.leaf.now in
    let place : Place = record { name = c.len-name.result; note = c.len-note.result; end = c.len-end.result; charge = node.charge; inner = node.inner } in
    let whole = c.in_ok-extend_from_slice.ensures.items ∙ ap (λ xs. xs ++ node.note.now) c.in_ok-print_node.ensures.printed in
    let name_at : place.name ≡ length text = omega (arith, c.len-name.ensures, c.self.inside.text.ok) in
    let note_at : place.note ≡ length c.print_node.new.to.items = omega (arith, c.len-note.ensures, c.print_node.new.to.ok) in
    let end_at : place.end ≡ length c.extend_from_slice.new.self.items = omega (arith, c.len-end.ensures, c.extend_from_slice.new.self.ok) in
    ap (λ (ps : List Place). map (printed_in c.extend_from_slice.new.self.items) ps) c.in_ok-push.ensures.items
    ∙ ap (λ xs. map (printed_in xs) (places ++ place ∷ [])) whole
    ∙ place_more text name node.note.now places place c.self.invariant name_at (note_at ∙ ap length c.in_ok-print_node.ensures.printed) (end_at ∙ ap length whole)
    ∙ ap (λ (rows : List PrintedNode). rows ++ record { name = name; inner = node.inner; note = node.note.now; charge = node.charge } ∷ []) c.self.view_is
