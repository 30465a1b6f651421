use Rattle.std.proofs.Common.{sym, ap, ◌∙◌}
use Rattle.cand_uses.proofs.ExchangeLemmas.{empty_cells}
use Rattle.cand_turns.specs.Solved.{sink_classes}
use Rattle.sol_arena.specs.Arenas.{made_of}
use Rattle.cand_turns.proofs.StartLemmas.{sink_part}
use Rattle.cand_turns.proofs.part.Part.start.Goals as goal

pub returns-in-Some-clause-part : goal.returns-in-Some-clause-part
returns-in-Some-clause-part c =
    sink_part c.args.p.now c.args.widths.now c.args.node c.in-Some.sink (made_of c.args.arena.now) c.of_sink-branch.new.pool c.of_sink-branch.result c.requires.widths.are (sym c.sink_at.ensures ∙ c.in-Some.is) (empty_cells c.args.arena.now)
    (λ odd. c.of_sink-branch.ensures.classes odd ∙ ap (λ k. sink_classes c.in-Some.sink k odd) c.capacitance_of-c.ensures)
