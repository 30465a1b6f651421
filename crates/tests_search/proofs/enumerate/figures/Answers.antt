use Rattle.elmore.specs.Placements.{load_of}
use Rattle.elmore.proofs.LegalLemmas.{legal_placed}
use Rattle.tests_search.proofs.enumerate.figures.Goals as goal

pub slack-requires-clause-placed : goal.slack-requires-clause-placed
slack-requires-clause-placed c =
    legal_placed c.args.p.now c.args.at.now.cells (load_of c.args.p.now c.args.at.now.cells) c.in-None.ensures.illegal

pub load_of-requires-clause-placed : goal.load_of-requires-clause-placed
load_of-requires-clause-placed c =
    legal_placed c.args.p.now c.args.at.now.cells (load_of c.args.p.now c.args.at.now.cells) c.in-None.ensures.illegal
