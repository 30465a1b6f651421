use Rattle.spef_file.proofs.InnerLemmas.{inner_lines}
use Rattle.spef_file.proofs.text.inner_text.Goals as goal

pub returns-in-Some-clause-lines : goal.returns-in-Some-clause-lines
returns-in-Some-clause-lines c =
    inner_lines c.args.text.now _ c.in-Some.from c.last_start.result c.max-to.result c.in-Some.ensures.line c.in-Some.ensures.place.4 c.in-Some.ensures.begins c.last_start.ensures.within c.last_start.ensures.begins c.last_start.ensures.last c.max-to.ensures
