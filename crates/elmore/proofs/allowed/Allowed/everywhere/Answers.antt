use Rattle.std.proofs.Common.{◌≡◌, sym, ap, ◌∙◌, subst, arith}
use Rattle.elmore.specs.Allowances.{all_allowed, AreAllowances}
use Rattle.elmore.proofs.LegalLemmas.{all_allowances}
use Rattle.elmore.proofs.allowed.Allowed.everywhere.Goals as goal

pub returns-clause-allowances : goal.returns-clause-allowances
returns-clause-allowances c = λ reps.
    let all : c.nodes.counter ≡ c.args.n = omega arith in
    subst (AreAllowances c.args.n reps) (sym (c.from_vec.ensures ∙ c.nodes.invariant ∙ ap all_allowed all)) (all_allowances c.args.n reps)
