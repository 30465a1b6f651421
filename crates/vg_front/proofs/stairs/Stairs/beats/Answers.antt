use Rattle.std.proofs.Common.{arith}
use Rattle.std.proofs.lemmas.Bool.{leb-true}
use Rattle.vg_front.specs.Seen.{stairs_of, AreReached}
use Rattle.vg_front.proofs.SeenLemmas.{refused, reached_some}
use Rattle.vg_front.proofs.stairs.Stairs.beats.Goals as goal

pub returns-then-self-offer-clause-told : goal.returns-then-self-offer-clause-told
returns-then-self-offer-clause-told c = λ zs reached.
    let now : AreReached c.go_to.new.self zs = reached_some c.args.self.now c.go_to.new.self zs c.go_to.ensures reached in (
      λ told.
          let (x, x_in, load, time) = c.refuses.ensures told in
          refused c.go_to.new.self.cost (stairs_of c.go_to.new.self) zs c.args.offer x now x_in (omega arith) load time,
      now,
    )

pub returns-else-self-offer-clause-told : goal.returns-else-self-offer-clause-told
returns-else-self-offer-clause-told c = λ zs reached.
    (λ told. absurd (omega (arith, leb-true c.go_to.new.self.cost c.args.offer.cost told)), reached_some c.args.self.now c.go_to.new.self zs c.go_to.ensures reached)
