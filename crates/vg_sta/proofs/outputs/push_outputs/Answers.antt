use Rattle.std.proofs.Common.{◌≡◌, ◌∙◌, ◌++◌, ◌∷◌, [], List, Option, take, sym, ap, refl}
use Rattle.std.specs.List.{cons_option, filter_map}
use Rattle.std.proofs.lemmas.List.{append_assoc, append-nil}
use Rattle.ver_module.specs.Netlists.{Instance}
use Rattle.vg_design.proofs.ReadyLemmas.{none_there}
use Rattle.vg_sta.specs.Outputs.{Onward, onward_by}
use Rattle.vg_sta.proofs.ListLemmas.{filter_map_more}
use Rattle.vg_sta.proofs.outputs.push_outputs.Goals as goal
use Rattle.vg_sta.proofs.outputs.push_outputs.Goals.{in-Some+in_ok-push, in_default}

pub pin-preserved : goal.pin-preserved
pin-preserved c =
    let f = onward_by c.args.design.now c.args.instance.now.cell in
    let onward = c.in_ok-found.found in
    let found : onward ≡ f c.pin-pin.result = c.in_ok-found.ensures ∙ ap (λ (i : Instance). onward_by c.args.design.now i.cell c.pin-pin.result) c.instance.view_is in
    let more = filter_map_more f c.args.instance.now.pins c.pin.at c.pin-pin.result c.pin-pin.ensures in
    let before = filter_map f (take c.pin.at c.args.instance.now.pins) in
    elim c.match-found.branch [
      | in-Some+in_ok-push w ↦
          ap (λ v. v.items) w.outputs-is ∙ w.in_ok-push.ensures.items
          ∙ ap (λ (xs : List Onward). xs ++ w.in-Some.output ∷ []) c.pin.invariant ∙ append_assoc c.args.outputs.now.items before (w.in-Some.output ∷ [])
          ∙ ap (λ (o : Option Onward). c.args.outputs.now.items ++ (before ++ cons_option o [])) (sym w.in-Some.is ∙ found) ∙ ap (λ (xs : List Onward). c.args.outputs.now.items ++ xs) (sym more)
      | in_default w ↦
          (let none = none_there (λ o. onward ≡ o) onward w.in_default.not-Some refl in
          ap (λ v. v.items) w.outputs-is ∙ c.pin.invariant
          ∙ ap (λ (xs : List Onward). c.args.outputs.now.items ++ xs) (sym (append-nil before))
          ∙ ap (λ (o : Option Onward). c.args.outputs.now.items ++ (before ++ cons_option o [])) (sym none ∙ found) ∙ ap (λ (xs : List Onward). c.args.outputs.now.items ++ xs) (sym more))
    ]
