use Rattle.vg_front.specs.Desks.{all_in}
use Rattle.vg_front.proofs.OfferLemmas.{part_itself, part_turned}
use Rattle.vg_front.proofs.meet.turn_to.Goals as goal

pub returns-then-cost-at-clause-kept : goal.returns-then-cost-at-clause-kept
returns-then-cost-at-clause-kept c = part_itself (all_in c.args.desk.now)

pub returns-clause-kept : goal.returns-clause-kept
returns-clause-kept c =
    part_turned c.args.desk.now.made.items c.args.desk.now.fresh.items c.settle.new.self.made.items c.settle.new.self.fresh.items
    c.in_ok-settle.ensures.fresh c.in_ok-settle.ensures.kept
