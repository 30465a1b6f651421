use Rattle.lib_text.proofs.JoinLemmas.{one_joins, blank_joins, fits}
use Rattle.lib_text.proofs.join.turn_mark.Goals as goal

pub returns-then-length-eq0 : goal.returns-then-length-eq0
returns-then-length-eq0 c =
    one_joins c.args.text.now c.args.at c.blank_length-length.result c.requires c.blank_length-length.ensures.length c.if-length-eq0.true

pub returns : goal.returns
returns c =
    blank_joins c.args.text.now c.blank_part.new.text c.args.at c.blank_length-length.result c.blank_length-length.ensures.length c.if-length-eq0.false
    (fits c.args.text.now c.args.at c.blank_length-length.result c.requires c.blank_length-length.ensures.within) c.blank_part.ensures.front c.blank_part.ensures.rest c.blank_part.ensures.long
