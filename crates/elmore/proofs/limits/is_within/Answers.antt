use Rattle.std.proofs.Common.{sym, ◌∙◌}
use Rattle.elmore.proofs.limits.is_within.Goals as goal
use Rattle.elmore.proofs.limits.is_within.Goals.{then-is_net_within, else-is_net_within}

pub returns-then-are_cells_within : goal.returns-then-are_cells_within
returns-then-are_cells_within c =
    elim c.if-is_net_within.branch [
      | then-is_net_within w ↦
          let net = c.is_net_within.ensures.0 w.if-is_net_within.true in
          let cells = w.are_cells_within.ensures.0 (sym w.value-is ∙ c.if-are_cells_within.true) in (
            λ times. record {
              nodes = net.0;
              resistances = net.1;
              capacitances = net.2;
              repeaters = cells.0;
              each_repeater = cells.1;
              drives = cells.2;
              times = c.are_times_within.ensures.0 times;
            },
            λ within. c.are_times_within.ensures.1 within.times,
          )
      | else-is_net_within w ↦ absurd (cc)
    ]
