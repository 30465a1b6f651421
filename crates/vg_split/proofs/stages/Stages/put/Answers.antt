use Rattle.std.proofs.Common.{refl, sym, ap, ◌∙◌, arith}
use Rattle.std.proofs.lemmas.Result.{on_ok_weaker}
use Rattle.elmore.proofs.HeadLemmas.{head_root, head_cell}
use Rattle.elmore.proofs.TreeLemmas.{tree_falls}
use Rattle.elmore.specs.Stage.{is_head}
use Rattle.cut_laws.specs.CutNets.{forest_of}
use Rattle.vg_split.proofs.StageLists.{first_stages, joined_stages, some_cell}
use Rattle.vg_split.proofs.stages.Stages.put.Goals as goal

pub begin-requires-clause-stages : goal.begin-requires-clause-stages
begin-requires-clause-stages c =
    (forest_of c.args.p.now c.args.cells.now, first_stages (forest_of c.args.p.now c.args.cells.now) c.args.node c.args.self.now c.if-node-eq0.true c.requires.stages)

pub returns-then-node-eq0 : goal.returns-then-node-eq0
returns-then-node-eq0 c =
    let f = forest_of c.args.p.now c.args.cells.now in
    on_ok_weaker c.begin.result
    (λ more. more f (tree_falls c.args.p.now.tree.nodes c.args.p.now.tree.a_tree) (ap (is_head f.cell) c.if-node-eq0.true ∙ head_root f.cell)
    (first_stages f c.args.node c.args.self.now c.if-node-eq0.true c.requires.stages)) c.begin.ensures

pub returns-then-is_some : goal.returns-then-is_some
returns-then-is_some c =
    let f = forest_of c.args.p.now c.args.cells.now in
    on_ok_weaker c.begin-then-is_some.result
    (λ more. more f (tree_falls c.args.p.now.tree.nodes c.args.p.now.tree.a_tree) (head_cell f.cell c.args.node (some_cell c.args.p.now.reps c.args.cells.now c.args.node ∙ sym c.is_some.ensures ∙ c.if-is_some.true))
    (c.in_ok-above.ensures.stages c.args.cells.now c.requires.stages)) c.begin-then-is_some.ensures

pub returns : goal.returns
returns c =
    let f = forest_of c.args.p.now c.args.cells.now in
    joined_stages f (tree_falls c.args.p.now.tree.nodes c.args.p.now.tree.a_tree) c.args.node c.in_ok-above.above c.end.new.self
    (record { nodes = c.end.new.self.nodes; stage_of = c.push.new.self }) (omega (arith, c.if-node-eq0.false)) (c.args.p.now.tree.a_tree.smaller c.args.node (omega (arith, c.if-node-eq0.false)) c.requires.node)
    (some_cell c.args.p.now.reps c.args.cells.now c.args.node ∙ sym c.is_some.ensures ∙ c.if-is_some.false) (c.in_ok-above.ensures.stages c.args.cells.now c.requires.stages)
    (c.in_ok-above.ensures.above c.args.cells.now c.requires.stages) refl c.in_ok-push.ensures.items
