use Rattle.std.proofs.Common.{◌≡◌, ℕ, List, length, arith, inl, inr, subst}
use Rattle.std.proofs.lemmas.Bool.{cases_lt}
use Rattle.std.proofs.lemmas.List.{get_or_past}
use Rattle.std.specs.List.{All as Each}
use Rattle.elmore.specs.Allowances.{AreAllowances, allowed_at}
use Rattle.elmore.specs.declared.allowed.Allowed.{Allowed}
use Rattle.elmore.specs.declared.allowed.Allowed.TheVariants.{All, Only}
use Rattle.tests_search.specs.Allowances.{IsAllowance}
use Rattle.tests_search.proofs.problems.are_allowances.Goals as goal

only_here : (reps : ℕ) (allowed : List Allowed) → Each (IsAllowance reps) allowed → (v : ℕ) (numbers : List ℕ) → allowed_at allowed v ≡ Only numbers
    → IsAllowance reps (Only numbers)
only_here reps allowed each v numbers e = elim (cases_lt v (length allowed)) [
  | inl low ↦ subst (IsAllowance reps) e (each v All low)
  | inr high ↦
      let past : allowed_at allowed v ≡ All = get_or_past allowed v All high in
      absurd (cc)
]

allowances : (n reps : ℕ) (allowed : List Allowed) → length allowed ≡ n → Each (IsAllowance reps) allowed → AreAllowances n reps allowed
allowances n reps allowed size each = record {
  one_each = size;
  rising = λ v numbers e. (only_here reps allowed each v numbers e).0;
  named = λ v numbers e b among.
      let (k, low, at) = among in
      let few = (only_here reps allowed each v numbers e).1 k b low in
      omega (arith, few, at);
}

pub returns-then-allowed-n : goal.returns-then-allowed-n
returns-then-allowed-n c = λ all. allowances c.args.n c.args.reps c.args.allowed.now c.if-allowed-n.true (c.are_each_allowed.ensures all)
