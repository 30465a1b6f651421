use Rattle.std.proofs.Common.{◌∙◌}
use Rattle.ver_text.proofs.TokenLemmas.{is_token, is_passed, none_at}
use Rattle.ver_text.proofs.tokens.next_token.Goals as goal

pub returns-in-Some : goal.returns-in-Some
returns-in-Some c = record {
  first =
      c.piece.invariant.same
      ∙ is_token c.args.text.now c.piece.at c.piece-test.true c.piece-piece.result c.piece-piece.ensures.piece c.piece-piece.ensures.within c.in-Some.kind c.in-Some.is;
  within = c.piece-piece.ensures.within;
}

pub piece-preserved : goal.piece-preserved
piece-preserved c = record {
  within = c.piece-piece.ensures.within;
  same =
      c.piece.invariant.same
      ∙ is_passed c.args.text.now c.piece.at c.piece-test.true c.piece-piece.result c.piece-piece.ensures.piece c.piece-piece.ensures.within c.in_default.is;
}

pub returns : goal.returns
returns c = c.piece.invariant.same ∙ none_at c.args.text.now c.piece.at c.piece-test.false
