use Rattle.vg_words.specs.Request.{texts}
use Rattle.vg_words.proofs.CommandLemmas.{app-free, app-simple, fails_at, matches_at}
use Rattle.vg_words.proofs.command.parse.Goals as goal

pub returns-clause-matches : goal.returns-clause-matches
returns-clause-matches c =
    let parse = c.try_get_matches_from in
    matches_at _ _ (texts c.args.words.now) parse.result c.in_ok-command.ensures app-simple parse.ensures.matches

pub returns-clause-fault : goal.returns-clause-fault
returns-clause-fault c =
    let parse = c.try_get_matches_from in
    fails_at _ _ (texts c.args.words.now) parse.result c.in_ok-command.ensures app-free parse.ensures.kinds
