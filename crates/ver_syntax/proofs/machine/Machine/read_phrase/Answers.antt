use Rattle.ver_syntax.specs.Rows.{kinds_in}
use Rattle.ver_syntax.proofs.PhraseLemmas.{phrase_read}
use Rattle.ver_syntax.proofs.machine.Machine.read_phrase.Goals as goal

pub returns-in-Some-past_phrase-clause-kinds : goal.returns-in-Some-past_phrase-clause-kinds
returns-in-Some-past_phrase-clause-kinds c =
    phrase_read (kinds_in c.args.rows.now) (kinds_in c.in-Some-past_phrase.left.now) c.args.self.now c.in-Some.at c.in-Some-past_phrase.to c.clear.new.self
    c.in-Some.is c.in-Some-past_phrase.ensures c.clear.ensures
