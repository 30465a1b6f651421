use Rattle.std.proofs.Common.{sym, reverse}
use Rattle.lib_text.specs.Found.{tokens_next, IsFirst}
use Rattle.lib_text.specs.Growing.{TakesToken}
use Rattle.lib_text.specs.Statements.{statements_of}
use Rattle.lib_text.proofs.StatementLemmas.{grown, all_grown}
use Rattle.lib_text.proofs.statements.statements_of.Goals as goal

pub token-preserved : goal.token-preserved
token-preserved c =
    let first : IsFirst c.args.text.now c.token.content c.token.at c.in-Some.found = c.in-Some.ensures in
    let takes : TakesToken c.in-Some.found.token (tokens_next c.args.text.now c.in-Some.found.content c.in-Some.found.at) c.token.name c.token.groups.items c.take_token.new.groups.items c.token.statements.items c.take_token.new.statements.items = c.in_ok-take_token.ensures in
    record {
      within = first.within;
      grown =
          grown c.args.text.now c.token.content c.token.at c.in-Some.found c.token.name c.name_after-name.result c.token.groups.items c.take_token.new.groups.items
          c.token.statements.items c.take_token.new.statements.items (statements_of c.args.text.now) first takes c.name_after-name.ensures c.token.invariant.grown;
    }

pub returns : goal.returns
returns c =
    sym (all_grown (reverse c.token.groups.items) c.token.name c.token.statements.items (statements_of c.args.text.now) (tokens_next c.args.text.now c.token.content c.token.at)
    c.in_default.ensures c.token.invariant.grown)
