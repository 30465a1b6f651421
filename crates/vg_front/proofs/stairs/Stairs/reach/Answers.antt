use Rattle.std.proofs.Common.{sym, ap, ◌∙◌, subst, rules}
use Rattle.vg_front.specs.declared.stairs.Stairs.{Stairs}
use Rattle.vg_front.specs.Seen.{stairs_of, AreReachedAt}
use Rattle.vg_front.proofs.SeenLemmas.{none_reached, reached_on}
use Rattle.vg_front.proofs.stairs.Stairs.reach.Goals.{then-cost-self, else-cost-self}
use Rattle.vg_front.proofs.stairs.Stairs.reach.Goals as goal

pub returns-clause-reached : goal.returns-clause-reached
returns-clause-reached c = λ zs reached. elim c.if-cost-self.branch [
  | then-cost-self w ↦
      none_reached c.args.cost (stairs_of c.if-cost-self.self) zs (ap (λ (s : Stairs). stairs_of s) w.self-is ∙ w.clear.ensures)
  | else-cost-self w ↦
      reached_on c.args.self.now.cost c.args.cost (stairs_of c.if-cost-self.self) zs (search rules)
      (subst (λ (s : Stairs). AreReachedAt c.args.self.now.cost (stairs_of s) zs) (sym w.self-is) reached)
]
