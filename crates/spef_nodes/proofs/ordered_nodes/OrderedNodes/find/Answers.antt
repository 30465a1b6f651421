use Rattle.std.proofs.Common.{◌≡◌, ◌<◌, None, Some, length, refl, sym, ap, ◌∙◌, subst}
use Rattle.std.proofs.lemmas.Option.{slice_get_read}
use Rattle.std.specs.Prelude.{IfSome}
use Rattle.name_tables.specs.OrderedRows.{row_kept}
use Rattle.spef_nodes.specs.OrderedNodes.{node_row, row_among, rows_at}
use Rattle.spef_nodes.proofs.OrderedNodeLemmas.{at_place}
use Rattle.spef_nodes.proofs.ordered_nodes.OrderedNodes.find.Goals as goal

pub returns-in_err-place : goal.returns-in_err-place
unfolding node_row
returns-in_err-place c =
    let s = c.args.self.now in
    let none : row_kept s.owners c.args.owner.now ≡ None = sym c.find.ensures ∙ c.in_err-place.was in
    c.from_residual.ensures ∙ sym (ap (λ r. row_among (rows_at s.leaves.items r) c.args.leaf.now) none)

pub returns : goal.returns
unfolding node_row
returns c =
    let s = c.args.self.now in
    let place = c.in_ok-place.place in
    let places = s.leaves.items in
    let there : row_kept s.owners c.args.owner.now ≡ Some place = sym c.find.ensures ∙ c.in_ok-place.was in
    let within : place < length places = subst (λ r. IfSome r (λ p. p < length places)) there (c.requires.within c.args.owner.now) in
    let read = slice_get_read places (length places) place c.index.result.now refl within c.index.ensures in
    c.find-2.ensures ∙ sym (at_place places (row_kept s.owners c.args.owner.now) place c.index.result.now there read c.args.leaf.now)
