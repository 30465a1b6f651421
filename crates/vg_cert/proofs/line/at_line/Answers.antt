use Rattle.std.proofs.Common.{◌∙◌, sym, ap, arith, rules, refl, inr, None, Some, ◌≡◌}
use Rattle.vg_cert.specs.declared.fault.CertKind.TheVariants.{Order}
use Rattle.vg_cert.specs.Faults.{when}
use Rattle.vg_cert.specs.Names.{node_named, cell_named}
use Rattle.vg_cert.proofs.FoundLemmas.{node_within, cell_within}
use Rattle.vg_cert.specs.Lines.{words}
use Rattle.vg_cert.proofs.JudgeLemmas.{at_length, at_begins, at_named, placed_is, below_test, above_test}
use Rattle.vg_cert.proofs.line.at_line.Goals as goal

pub returns-in_default : goal.returns-in_default
returns-in_default c = inr (at_length c.args.names.now c.args.next (words c.args.line.now) c.in_default.ensures)

pub returns-then-not-is_word : goal.returns-then-not-is_word
returns-then-not-is_word c =
    inr (at_begins c.args.names.now c.args.next (words c.args.line.now) c.in-Some.at.now c.in-Some.node.now c.in-Some.cell.now c.in-Some.ensures (sym c.is_word.ensures ∙ c.if-not-is_word.true))

pub returns-in_default-found : goal.returns-in_default-found
returns-in_default-found c =
    inr (at_named c.args.names.now c.args.next (words c.args.line.now) c.in-Some.at.now c.in-Some.node.now c.in-Some.cell.now None _ c.in-Some.ensures (sym c.is_word.ensures ∙ c.if-not-is_word.false)
    (search rules) refl)

pub returns-in_default-cell_named : goal.returns-in_default-cell_named
returns-in_default-cell_named c =
    inr (at_named c.args.names.now c.args.next (words c.args.line.now) c.in-Some.at.now c.in-Some.node.now c.in-Some.cell.now (Some c.in-Some-found.node) None c.in-Some.ensures (sym c.is_word.ensures ∙ c.if-not-is_word.false)
    (search rules) (search rules))

pub returns-then-node-next : goal.returns-then-node-next
returns-then-node-next c =
    inr (at_named c.args.names.now c.args.next (words c.args.line.now) c.in-Some.at.now c.in-Some.node.now c.in-Some.cell.now (Some c.in-Some-found.node) (Some c.in-Some-cell_named.cell) c.in-Some.ensures
    (sym c.is_word.ensures ∙ c.if-not-is_word.false) (search rules) (search rules) ∙ ap (λ b. when b Order) (below_test c.in-Some-found.node c.args.next (omega (arith, c.if-node-next.true))))

pub returns : goal.returns
returns c =
    let node : node_named c.args.names.now.nodes c.in-Some.node.now ≡ Some c.in-Some-found.node = search rules in
    let cell : cell_named c.args.names.now.cells c.in-Some.cell.now ≡ Some c.in-Some-cell_named.cell = search rules in (
      at_named c.args.names.now c.args.next (words c.args.line.now) c.in-Some.at.now c.in-Some.node.now c.in-Some.cell.now (Some c.in-Some-found.node) (Some c.in-Some-cell_named.cell) c.in-Some.ensures
          (sym c.is_word.ensures ∙ c.if-not-is_word.false) node cell ∙ ap (λ b. when b Order) (above_test c.in-Some-found.node c.args.next (omega (arith, c.if-node-next.false))),
      (
        placed_is c.args.names.now (words c.args.line.now) c.in-Some.at.now c.in-Some.node.now c.in-Some.cell.now c.in-Some-found.node c.in-Some-cell_named.cell c.in-Some.ensures node cell,
        omega (arith, c.if-node-next.false),
        node_within c.args.names.now.nodes c.in-Some.node.now c.in-Some-found.node node,
        cell_within c.args.names.now.cells c.in-Some.cell.now c.in-Some-cell_named.cell cell,
      ),
    )
