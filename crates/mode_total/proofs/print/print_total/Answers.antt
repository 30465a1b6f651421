use Rattle.std.proofs.Common.{◌≡◌, ◌==◌, ◌++◌, ◌∙◌, ap, append_assoc, false, flat_map, length, List, map, sym, ℕ}
use Rattle.std.proofs.lemmas.List.{length-map}
use Rattle.mode_total.specs.Lines.{total_line}
use Rattle.mode_total.specs.Picked.{choice_in}
use Rattle.mode_total.specs.Steps.{kept_choice}
use Rattle.mode_total.proofs.TellLemmas.{total_some}
use Rattle.mode_total.proofs.print.print_total.Goals as goal

pub returns : goal.returns
returns c =
    let d = c.args.design.now in
    let nets = c.args.nets.now in
    let points = c.args.points.now in
    let choices = map (choice_in c.args.fronts.now) points in
    let count = length-map points (choice_in c.args.fronts.now) in
    let before = c.args.to.now.items in
    let rest = flat_map (kept_choice d nets) choices in
    let some : (length choices == 0) ≡ false = ap (λ (n : ℕ). n == 0) count ∙ sym c.is_empty.ensures ∙ c.if-is_empty.false in
    c.in_ok-print_choices.ensures ∙ ap (λ (text : List ℕ). text ++ rest) c.in_ok-print_count.ensures ∙ append_assoc before (total_line (length points)) rest
    ∙ ap (λ (text : List ℕ). before ++ text) (ap (λ (n : ℕ). total_line n ++ rest) (sym count) ∙ sym (total_some d nets choices some))
