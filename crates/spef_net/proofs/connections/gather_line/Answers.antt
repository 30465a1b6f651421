use Rattle.std.proofs.Common.{sym, ◌∙◌}
use Rattle.spef_file.specs.IndexFiles.{file_of}
use Rattle.spef_net.proofs.HeadLemmas.{gathers_passed}
use Rattle.spef_net.proofs.WordLemmas.{says_nothing, says_head, says_within, gathers_none, gathers_head, gathers_quiet, gathers_conn}
use Rattle.spef_net.proofs.connections.gather_line.Goals as goal

pub returns-then-not-may_be_head : goal.returns-then-not-may_be_head
returns-then-not-may_be_head c = gathers_passed (file_of c.args.index.now) c.args.part c.args.line.now c.args.nodes.now (sym c.is_conns.ensures ∙ c.if-not-is_conns.true) (c.may_be_head.ensures c.if-not-may_be_head.true)

pub returns-in_default : goal.returns-in_default
returns-in_default c = gathers_none c.args.nodes.now c.args.part _ (says_nothing (file_of c.args.index.now) c.args.part c.args.line.now (sym c.new-words.ensures ∙ c.in_default.ensures.steps.0))

pub returns-in-Some-head_of : goal.returns-in-Some-head_of
returns-in-Some-head_of c =
    gathers_head c.args.nodes.now c.args.part c.in-Some-head_of.opened _
    (says_head (file_of c.args.index.now) c.args.part c.in-Some-head_of.opened c.args.line.now c.in-Some.first.now _ (sym c.new-words.ensures ∙ c.in-Some.ensures.steps) (sym c.head_of.ensures ∙ c.in-Some-head_of.is))

pub returns-then-not-is_conns-2 : goal.returns-then-not-is_conns-2
returns-then-not-is_conns-2 c =
    gathers_quiet (file_of c.args.index.now) c.args.part c.args.line.now _ c.args.nodes.now _
    (says_within (file_of c.args.index.now) c.args.part c.args.line.now c.in-Some.first.now _ (sym c.new-words.ensures ∙ c.in-Some.ensures.steps) (sym c.head_of.ensures ∙ c.in_default-head_of.is))
    (sym c.is_conns-2.ensures ∙ c.if-not-is_conns-2.true)

pub returns : goal.returns
returns c =
    gathers_conn (file_of c.args.index.now) c.args.part c.args.line.now _ c.args.nodes.now c.gather_conn.new.nodes _
    (says_within (file_of c.args.index.now) c.args.part c.args.line.now c.in-Some.first.now _ (sym c.new-words.ensures ∙ c.in-Some.ensures.steps) (sym c.head_of.ensures ∙ c.in_default-head_of.is))
    (sym c.is_conns-2.ensures ∙ c.if-not-is_conns-2.false) c.in_ok-gather_conn.ensures
