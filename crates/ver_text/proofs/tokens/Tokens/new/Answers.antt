use Rattle.ver_text.proofs.TokenLemmas.{started}
use Rattle.ver_text.proofs.tokens.Tokens.new.Goals as goal

pub returns : goal.returns
returns c = started c.args.text.now c.directive_length.result c.directive_length.ensures.length c.directive_length.ensures.within
