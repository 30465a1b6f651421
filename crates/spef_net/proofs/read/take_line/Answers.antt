use Rattle.std.proofs.Common.{refl, sym, ◌∙◌}
use Rattle.spef_net.proofs.WordLemmas.{says_nothing, says_head, says_within, follows_none, follows_head, follows_line, follows_fault}
use Rattle.spef_net.proofs.read.take_line.Goals as goal

pub returns-in_default-clause-taken : goal.returns-in_default-clause-taken
returns-in_default-clause-taken c = follows_none c.args.builder.now.net c.args.part c.args.builder.now _ (says_nothing c.args.builder.now.file c.args.part c.args.line.now (sym c.new-words.ensures ∙ c.in_default.ensures.steps.0))

pub returns-in-Some-head_of-clause-taken : goal.returns-in-Some-head_of-clause-taken
returns-in-Some-head_of-clause-taken c =
    follows_head c.args.builder.now.net c.args.part c.in-Some-head_of.opened c.args.builder.now c.open.new.self _ _
    (says_head c.args.builder.now.file c.args.part c.in-Some-head_of.opened c.args.line.now c.in-Some.first.now _ (sym c.new-words.ensures ∙ c.in-Some.ensures.steps) (sym c.head_of.ensures ∙ c.in-Some-head_of.is))
    refl c.open.ensures

pub returns-in-Err-clause-taken : goal.returns-in-Err-clause-taken
returns-in-Err-clause-taken c =
    follows_fault c.args.builder.now.net c.args.part c.args.builder.now c.take_in.new.builder c.in-Err.kind _ _
    (says_within c.args.builder.now.file c.args.part c.args.line.now c.in-Some.first.now _ (sym c.new-words.ensures ∙ c.in-Some.ensures.steps) (sym c.head_of.ensures ∙ c.in-None.is))
    c.in-Err.ensures.taken

pub returns-in-Ok-clause-taken : goal.returns-in-Ok-clause-taken
returns-in-Ok-clause-taken c =
    follows_line c.args.builder.now.file c.args.builder.now.net c.args.part c.args.line.now _ c.args.builder.now c.take_in.new.builder _
    (says_within c.args.builder.now.file c.args.part c.args.line.now c.in-Some.first.now _ (sym c.new-words.ensures ∙ c.in-Some.ensures.steps) (sym c.head_of.ensures ∙ c.in-None.is))
    c.in-Ok.ensures.taken
