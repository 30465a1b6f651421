use Rattle.std.proofs.Common.{◌≤◌, ◌^◌, ℕ, List, length, subst, sym}
use Rattle.vg_gen.proofs.SizeLemmas.{short}
use Rattle.mode_gen.proofs.SummaryLemmas.{made_texts}
use Rattle.mode_gen.proofs.summary.made_texts.Goals as goal

pub invariant_of-result : goal.invariant_of-result
invariant_of-result c = record { short = subst (λ (text : List ℕ). length text ≤ 2 ^ 28) (sym c.in_ok-made.ensures.spef) (short c.args.size c.requires.most).spef }

pub invariant_of-result-2 : goal.invariant_of-result-2
invariant_of-result-2 c = record { short = subst (λ (text : List ℕ). length text ≤ 2 ^ 28) (sym c.in_ok-made.ensures.lib) (short c.args.size c.requires.most).lib }

pub invariant_of-result-3 : goal.invariant_of-result-3
invariant_of-result-3 c = record {
  short = subst (λ (text : List ℕ). length text ≤ 2 ^ 28) (sym c.in_ok-made.ensures.verilog) (short c.args.size c.requires.most).verilog;
}

pub invariant_of-result-4 : goal.invariant_of-result-4
invariant_of-result-4 c = record { short = subst (λ (text : List ℕ). length text ≤ 2 ^ 28) (sym c.in_ok-made.ensures.cons) (short c.args.size c.requires.most).cons }

pub returns : goal.returns
returns c = made_texts c.args.size c.in_ok-made.made c.in_ok-made.ensures
