use Rattle.std.proofs.Common.{◌≡◌, ℕ, List, [], Option, None, Some, refl, sym, ap, ◌∙◌}
use Rattle.lib_linear.specs.Libraries.{related_to}
use Rattle.ver_module.specs.Netlists.{Pin}
use Rattle.vg_sta.specs.Outputs.{onward_to, section_by}
use Rattle.vg_sta.proofs.outputs.output_by.Goals as goal

unrelated : (section : Option ℕ) → None ≡ onward_to [] section
unrelated None = refl
unrelated (Some section) = refl

pub returns-in_default : goal.returns-in_default
returns-in_default c =
    let d = c.args.design.now in
    let section = section_by d c.args.pin.now.link in
    let none : related_to d.library c.args.cell.now c.args.pin.now.name ≡ [] =
    ap (λ (p : Pin). related_to d.library c.args.cell.now p.name) (sym c.pin.view_is) ∙ c.in_default.ensures in
    unrelated section ∙ ap (λ (related : List (List ℕ)). onward_to related section) (sym none)
