use Rattle.std.proofs.Common.{sym, ◌∙◌, ap, count_by}
use Rattle.sol_arena.specs.Slots.{is_solution}
use Rattle.sol_arena.proofs.ReleaseLemmas.{live_counted}
use Rattle.sol_arena.proofs.arena.Arena.live.Goals as goal

pub returns : goal.returns
returns c = c.count_solutions.ensures ∙ ap (count_by (λ slot. is_solution slot.made)) c.deref.ensures.value ∙ sym (live_counted c.args.self.now.slots.items)
