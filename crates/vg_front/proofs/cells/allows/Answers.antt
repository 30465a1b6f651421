use Rattle.elmore.specs.Allowances.{allowed_at}
use Rattle.vg_front.proofs.CellLemmas.{allowed_is, allows_cases}
use Rattle.vg_front.proofs.cells.allows.Goals as goal

pub returns : goal.returns
returns c =
    allows_cases c.allows.result c.index-as_slice-node.result (allowed_at c.args.p.now.allowed c.args.node) c.args.number
    (allowed_is c.args.p.now c.args.node c.as_slice.result.now c.index-as_slice-node.result c.requires.node c.as_slice.ensures c.index-as_slice-node.is)
    c.allows.ensures
