use Rattle.std.proofs.Common.{◌∙◌}
use Rattle.ver_items.specs.Declarations.{declared_of}
use Rattle.ver_file.specs.Flaws.{direction_flaws, range_flaws}
use Rattle.ver_file.proofs.FirstLemmas.{declared_all, declared_more}
use Rattle.ver_file.proofs.check.check_declaration.Goals as goal

pub row-preserved : goal.row-preserved
row-preserved g c =
    let text = c.args.scope.now.text.now in
    let ds = declared_of text in
    record {
      clash =
          declared_more text c.of-heading.result (range_flaws ds) c.row.firsts.clash c.check_declared-firsts.result.clash (g.T.Stretch.tokens c.row.left) (g.T.Stretch.tokens c.next.new.self) c.in-Some.row
          c.in-Some.ensures c.check_declared-firsts.ensures.clash
          ∙ c.row.invariant.clash;
      twice = c.check_declared-firsts.ensures.twice ∙ c.row.invariant.twice;
      grammar =
          declared_more text c.of-heading.result (direction_flaws ds) c.row.firsts.grammar c.check_declared-firsts.result.grammar (g.T.Stretch.tokens c.row.left) (g.T.Stretch.tokens c.next.new.self) c.in-Some.row
          c.in-Some.ensures c.check_declared-firsts.ensures.grammar
          ∙ c.row.invariant.grammar;
    }

pub returns-clause-clash : goal.returns-clause-clash
returns-clause-clash g c =
    declared_all c.args.scope.now.text.now c.args.declaration.now c.of-heading.result (range_flaws (declared_of c.args.scope.now.text.now)) c.args.firsts.clash c.row.firsts.clash
    (g.T.Stretch.tokens c.row.left) c.in_default.ensures.0 c.of-heading.ensures c.row.invariant.clash

pub returns-clause-grammar : goal.returns-clause-grammar
returns-clause-grammar g c =
    declared_all c.args.scope.now.text.now c.args.declaration.now c.of-heading.result (direction_flaws (declared_of c.args.scope.now.text.now)) c.args.firsts.grammar c.row.firsts.grammar
    (g.T.Stretch.tokens c.row.left) c.in_default.ensures.0 c.of-heading.ensures c.row.invariant.grammar
