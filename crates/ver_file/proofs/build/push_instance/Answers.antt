use Rattle.std.proofs.Common.{◌≡◌, ◌++◌, ◌∷◌, [], List, fold, map, ap, ◌∙◌}
use Rattle.ver_module.specs.Netlists.{Instance, with_pin}
use Rattle.ver_file.specs.Netlists.{pin_of}
use Rattle.ver_items.specs.Sections.{Section, name_at, pins_in}
use Rattle.ver_file.proofs.BuildLemmas.{pins_last}
use Rattle.ver_file.proofs.build.push_instance.Goals as goal

pub returns : goal.returns
returns g c =
    let text = c.args.scope.now.text.now in
    let name : c.name_at.result.now ≡ name_at text c.args.instance.now.head = c.name_at.ensures ∙ ap (λ (s : Section). name_at text s.head) c.instance.view_is in
    let pins = map (pin_of text) (pins_in c.args.instance.now) in
    c.in_ok-push_pins.ensures
    ∙ ap (λ (is : List Instance). fold with_pin is pins)
    (c.in_ok-push.ensures.last ∙ (λ i. c.args.to.now ++ (record { name = name i; cell = c.name_at-2.ensures i; pins = [] }) ∷ []))
    ∙ pins_last c.args.to.now (name_at text c.args.instance.now.head) (name_at text c.args.cell) [] pins
