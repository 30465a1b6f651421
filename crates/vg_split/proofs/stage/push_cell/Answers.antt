use Rattle.std.proofs.Common.{◌++◌, ℕ, List, sym, ap, ◌∙◌, subst, Bor}
use Rattle.std.specs.List.{AllPass}
use Rattle.vg_scan.specs.Printed.{is_solid, IsPrintable}
use Rattle.vg_split.specs.Conditions.{IsNamed, IsSplit}
use Rattle.vg_split.specs.NewNames.{cell_name}
use Rattle.vg_split.proofs.NewNameLemmas.{cell_word}
use Rattle.vg_split.proofs.SoundLemmas.{named_cell}
use Rattle.vg_split.proofs.stage.push_cell.Goals as goal
use Rattle.vg_split.proofs.stage.push_cell.Goals.{then-is_head, else-is_head}

pub push-requires-clause-owner : goal.push-requires-clause-owner
push-requires-clause-owner c =
    let prefix = c.x.inside.prefix.now in
    let number = c.number_at.result in
    let name = c.deref.ensures.value ∙ c.in_ok-push_cell_name.ensures.pushed ∙ ap (λ (l : List ℕ). l ++ cell_name prefix number) c.clear.ensures.items in
    subst IsPrintable (sym name) (cell_word prefix number c.x.invariant.0.new.prefix c.number_at.type_inv)

pub push-requires-clause-leaf : goal.push-requires-clause-leaf
push-requires-clause-leaf c =
    let is = subst IsSplit c.x.view_is c.x.invariant.0 in
    let named = subst IsNamed (sym c.requires.repeater) (named_cell c.args.x.now is c.args.node c.requires.cell) in
    elim c.if-is_head.branch [
      | then-is_head w ↦ subst (AllPass is_solid) (sym (c.as_bytes-2.ensures ∙ ap (λ (pin : Bor (List ℕ)). pin.now) w.pin-is)) named.output.solid
      | else-is_head w ↦ subst (AllPass is_solid) (sym (c.as_bytes-2.ensures ∙ ap (λ (pin : Bor (List ℕ)). pin.now) w.pin-is)) named.input.solid
    ]
