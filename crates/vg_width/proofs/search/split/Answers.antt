use Rattle.std.proofs.Common.{rules, ◌≡◌, take, length, sym, subst, ℤ}
use Rattle.std.proofs.lemmas.Int.{to_z-of_z}
use Rattle.std.specs.Int.{w128}
use mir.Val.{SFits}
use Rattle.wire_widths.specs.Widths.{IsWideBest}
use Rattle.wire_widths.specs.WideSolutions.{rows_by}
use Rattle.vg_slack.specs.Choices.{choice_at}
use Rattle.vg_width.specs.WideBests.{AreFew}
use Rattle.vg_width.proofs.SearchLemmas.{are_few, split_best}
use Rattle.vg_width.proofs.search.split.Goals as goal

pub rows_of-requires-clause-few : goal.rows_of-requires-clause-few
rows_of-requires-clause-few c =
    subst (λ sites. AreFew (rows_by c.args.p.now (choice_at sites))) (sym c.as_slice.ensures)
    (are_few c.args.p.now c.args.widths.now c.args.choices c.requires.widths.are c.requires.best)

pub returns : goal.returns
returns c =
    let fits : SFits w128 c.args.choices.slack = search rules in
    let cells : c.from_vec.result ≡ take (length c.args.p.now.tree.nodes) c.args.choices.sites = search rules in
    let wires : c.from_vec-chosen.result ≡ rows_by c.args.p.now (choice_at c.args.choices.sites) = search rules in
    subst (λ (x : ℤ). IsWideBest c.args.p.now c.args.widths.now c.from_vec.result c.from_vec-chosen.result x) (sym (to_z-of_z w128 c.args.choices.slack fits))
    (split_best c.args.p.now c.args.widths.now c.args.choices c.from_vec.result c.from_vec-chosen.result c.requires.best cells wires)
