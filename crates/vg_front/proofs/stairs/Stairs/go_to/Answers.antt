use Rattle.std.proofs.Common.{◌∙◌}
use Rattle.vg_front.proofs.stairs.Stairs.go_to.Goals as goal

pub returns : goal.returns
returns c = record { among = λ x found. c.go_back.ensures.among x (c.pass.ensures.among x found); cost = c.pass.ensures.cost ∙ c.go_back.ensures.cost }
