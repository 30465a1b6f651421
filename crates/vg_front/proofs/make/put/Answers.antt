use Rattle.vg_front.specs.Held.{tagged}
use Rattle.cand_uses.proofs.ExchangeLemmas.{released_one}
use Rattle.vg_front.proofs.make.put.Goals as goal

pub returns-then-is_err-clause-gone : goal.returns-then-is_err-clause-gone
returns-then-is_err-clause-gone c = released_one c.args.arena.now c.release.new.self (tagged c.args.z) c.release.ensures
