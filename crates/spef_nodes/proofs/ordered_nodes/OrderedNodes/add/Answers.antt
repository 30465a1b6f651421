use Rattle.std.proofs.Common.{◌≡◌, ◌<◌, ℕ, Option, Some, List, length, refl, sym, subst}
use Rattle.std.proofs.lemmas.Option.{slice_get_read}
use Rattle.std.proofs.lemmas.Result.{on_ok_weaker, on_err_weaker}
use Rattle.std.specs.List.{slice_get}
use Rattle.std.specs.Prelude.{IfSome}
use Rattle.name_tables.specs.OrderedRows.{row_kept}
use Rattle.name_tables.specs.declared.ordered_rows.OrderedRows.{OrderedRows}
use Rattle.spef_nodes.proofs.OrderedNodeLemmas.{more_leaves, same_leaves}
use Rattle.spef_nodes.proofs.ordered_nodes.OrderedNodes.add.Goals as goal

-- what stands at an owner's place
placed : (places : List OrderedRows) (kept : Option ℕ) (place : ℕ) (rows : OrderedRows) → IfSome kept (λ p. p < length places) → kept ≡ Some place → (place < length places → slice_get places place ≡ Some rows) → slice_get places place ≡ Some rows
placed places kept place rows within is read = read (subst (λ r. IfSome r (λ p. p < length places)) is within)

pub returns-in-Some-clause-added : goal.returns-in-Some-clause-added
returns-in-Some-clause-added c =
    let s = c.args.self.now in
    let place = c.in-Some.place in
    let there : row_kept s.owners c.args.owner.now ≡ Some place = sym c.in-Some.ensures in
    let read = placed s.leaves.items (row_kept s.owners c.args.owner.now) place c.index_mut.result.now (c.requires.within c.args.owner.now) there
    (λ within. slice_get_read s.leaves.items (length s.leaves.items) place c.index_mut.result.now refl within c.index_mut.ensures.value) in
    on_ok_weaker c.add.result (more_leaves s _ place c.index_mut.result.now c.add.new.self c.args.owner.now c.args.leaf.now c.args.row c.requires refl refl there read) c.add.ensures.added

pub returns-in-Some-clause-unchanged : goal.returns-in-Some-clause-unchanged
returns-in-Some-clause-unchanged c =
    let s = c.args.self.now in
    let place = c.in-Some.place in
    let there : row_kept s.owners c.args.owner.now ≡ Some place = sym c.in-Some.ensures in
    let read = placed s.leaves.items (row_kept s.owners c.args.owner.now) place c.index_mut.result.now (c.requires.within c.args.owner.now) there
    (λ within. slice_get_read s.leaves.items (length s.leaves.items) place c.index_mut.result.now refl within c.index_mut.ensures.value) in
    on_err_weaker c.add.result (same_leaves s _ place c.index_mut.result.now c.add.new.self refl refl read) c.add.ensures.unchanged
