use Rattle.std.proofs.Common.{sym, ◌∙◌, inr}
use Rattle.ver_syntax.proofs.ReadLemmas.{begun, read_more, fault_here, all_good, whole, fault_at_end}
use Rattle.ver_syntax.proofs.check.check_grammar.Goals as goal

pub token-init : goal.token-init
token-init c = rw (c.new-tokens.ensures, c.new-braces.ensures) (begun c.args.text.now)

pub returns-in-None-clause-fault : goal.returns-in-None-clause-fault
returns-in-None-clause-fault c =
    let kind = c.kind_in-kind.ensures in
    inr
    (fault_here c.args.text.now c.token.tokens c.token.at c.token.braces c.token.invariant c.in-Some.token c.next.new.self c.in-Some.ensures.steps c.fault_at.result
    (rw (← kind) (sym (rw c.in-None.is at c.in-Ok.ensures)))
    (c.fault_at.ensures.kind ∙ rw (← kind) c.fault_kind.ensures)
    c.fault_at.ensures.line)

pub token-preserved : goal.token-preserved
token-preserved c =
    let kind = c.kind_in-kind.ensures in
    read_more c.args.text.now c.token.tokens c.token.at c.token.braces c.token.invariant c.in-Some.token c.next.new.self c.in-Some.ensures.steps
    c.in-Some-found.next c.step.new.braces (rw (← kind) (sym (rw c.in-Some-found.is at c.in-Ok.ensures)))

pub returns-then-is_done-clause-module : goal.returns-then-is_done-clause-module
returns-then-is_done-clause-module c =
    whole c.args.text.now c.token.tokens c.token.at c.token.braces c.token.invariant c.in_default.ensures.steps.0 (sym c.is_done.ensures ∙ c.if-is_done.true)

pub returns-clause-fault : goal.returns-clause-fault
returns-clause-fault c =
    inr
    (fault_at_end c.args.text.now c.token.tokens c.token.at c.token.braces c.token.invariant c.in_default.ensures.steps.0 c.fault_at-else-is_done.result
    (sym c.is_done.ensures ∙ c.if-is_done.false) c.fault_at-else-is_done.ensures.kind c.fault_at-else-is_done.ensures.line)

pub returns-then-is_done-clause-tokens : goal.returns-then-is_done-clause-tokens
returns-then-is_done-clause-tokens c =
    all_good c.args.text.now c.token.tokens c.token.at c.token.braces c.token.invariant c.in_default.ensures.steps.0
