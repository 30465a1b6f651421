use Rattle.std.proofs.Common.{ℕ, ℤ, List, ◌++◌, codes, ap, ◌∙◌, append_assoc, rules}
use Rattle.std.proofs.lemmas.Int.{to_z-of_z}
use Rattle.std.specs.Fmt.{signed_decimal}
use mir.Syntax.{w128}
use mir.Val.{SFits}
use Rattle.vg_verdict.proofs.lines.print_valid_slack.Goals as goal

pub returns : goal.returns
returns c =
    let fits : SFits w128 c.args.slack = search rules in
    let slack = signed_decimal c.args.slack in
    c.in_ok-print_signed.ensures.printed ∙ ap (λ (z : ℤ). c.push.new.to.items ++ signed_decimal z) (to_z-of_z w128 c.args.slack fits)
    ∙ ap (λ (text : List ℕ). text ++ slack) c.in_ok-push.ensures.printed ∙ append_assoc c.args.to.now.items (codes "valid slack ") slack
