use Rattle.std.proofs.Common.{List, ℕ, ◌++◌, codes, ap, ◌∙◌, append_assoc}
use Rattle.mode_sta.proofs.lines.print_cycle.Goals as goal

pub returns : goal.returns
returns c =
    let before = c.args.to.now.items in
    let front = codes "design refused Cycle " in
    let name = c.args.name.now in
    let end = codes "\n" in
    c.in_ok-push-3.ensures.printed
    ∙ ap (λ (text : List ℕ). text ++ end) (c.in_ok-push-2.ensures.printed ∙ ap (λ (text : List ℕ). text ++ name) c.in_ok-push.ensures.printed)
    ∙ append_assoc (before ++ front) name end ∙ append_assoc before front (name ++ end)
