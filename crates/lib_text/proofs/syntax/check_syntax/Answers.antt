use Rattle.std.proofs.Common.{refl, sym, ◌∙◌, arith}
use Rattle.lib_text.specs.Found.{IsFirst}
use Rattle.lib_text.proofs.ReadLemmas.{begun, read_more, fault_here, whole, fault_at_end}
use Rattle.lib_text.proofs.syntax.check_syntax.Goals as goal

pub token-init : goal.token-init
token-init c = record {
  within = omega arith;
  read = begun c.args.text.now _ refl;
}

pub returns-in-None-clause-syntax : goal.returns-in-None-clause-syntax
returns-in-None-clause-syntax c =
    fault_here c.args.text.now c.token.content c.token.at c.token.state c.token.invariant.read c.in-Some.found c.in-Some.ensures
    (sym c.kind_for.ensures ∙ sym c.step.ensures ∙ c.in-None.is)

pub token-preserved : goal.token-preserved
token-preserved c =
    let first : IsFirst c.args.text.now c.token.content c.token.at c.in-Some.found = c.in-Some.ensures in
    record {
      within = first.within;
      read =
          read_more c.args.text.now c.token.content c.token.at c.token.state c.token.invariant.read c.in-Some.found first c.in-Some-step.next
          (sym c.kind_for.ensures ∙ sym c.step.ensures ∙ c.in-Some-step.is);
    }

pub returns-then-is_done-clause-syntax : goal.returns-then-is_done-clause-syntax
returns-then-is_done-clause-syntax c =
    whole c.args.text.now c.token.content c.token.at c.token.state c.token.invariant.read c.in_default.ensures (sym c.is_done.ensures ∙ c.if-is_done.true)

pub returns-else-is_done-clause-syntax : goal.returns-else-is_done-clause-syntax
returns-else-is_done-clause-syntax c =
    fault_at_end c.args.text.now c.token.content c.token.at c.token.state c.token.invariant.read c.in_default.ensures (sym c.is_done.ensures ∙ c.if-is_done.false)
