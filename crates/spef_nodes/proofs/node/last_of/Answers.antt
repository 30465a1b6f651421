use Rattle.std.proofs.Common.{◌≡◌, suc, ◌-◌, sym, ◌∙◌, arith, get_or}
use Rattle.spef_nodes.proofs.SpellLemmas.{last_here, last_before, same_byte, other_byte}
use Rattle.spef_nodes.proofs.node.last_of.Goals as goal

pub back-preserved : goal.back-preserved
back-preserved c = record {
  within = omega (arith, c.back.invariant.within);
  left = c.back.invariant.left ∙ last_before c.args.byte c.args.text.now (c.back.end - 1) c.back.end c.requires (let e : c.back.end ≡ suc (c.back.end - 1) = omega arith in e) (other_byte (get_or c.args.text.now (c.back.end - 1) 0) c.args.byte c.if-text-end.false);
}

pub returns-then-text-end-clause-place : goal.returns-then-text-end-clause-place
returns-then-text-end-clause-place c =
    sym (c.back.invariant.left ∙ last_here c.args.byte c.args.text.now (c.back.end - 1) c.back.end c.requires (let e : c.back.end ≡ suc (c.back.end - 1) = omega arith in e) (same_byte (get_or c.args.text.now (c.back.end - 1) 0) c.args.byte c.if-text-end.true))
