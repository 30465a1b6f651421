use Rattle.std.proofs.Common.{ℕ, ◌+◌, ◌++◌, codes, ap, ◌∙◌, Vec, Global}
use Rattle.spef_write.specs.Printed.{cap_row, printed_at}
use Rattle.spef_write.specs.Texts.{ended}
use Rattle.spef_write.proofs.PrintLemmas.{first_behind, other_behind}
use Rattle.spef_write.proofs.write.print_next_cap.Goals as goal
use Rattle.spef_write.proofs.write.print_next_cap.Goals.{then-count-eq0+in_ok-extend_from_slice, else-count-eq0}

pub returns : goal.returns
returns c =
    let old = c.args.to.now.items in
    let line = cap_row c.args.header.now (c.args.count + 1) (printed_at c.args.nodes.now c.args.at) in
    let items = λ (v : Vec ℕ Global). v.items in
    elim c.if-count-eq0.branch [
      | then-count-eq0+in_ok-extend_from_slice w ↦
          c.in_ok-print_cap.ensures ∙ ap (λ xs. xs ++ ended line) (ap items w.to-is ∙ w.in_ok-extend_from_slice.ensures.items)
          ∙ first_behind c.args.count old (codes "*CAP") line w.if-count-eq0.true
      | else-count-eq0 w ↦
          c.in_ok-print_cap.ensures ∙ ap (λ xs. xs ++ ended line) (ap items w.to-is) ∙ other_behind c.args.count old (codes "*CAP") line w.if-count-eq0.false
    ]
