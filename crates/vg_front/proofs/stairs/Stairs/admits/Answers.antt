use Rattle.std.proofs.Common.{◌∙◌, refl}
use Rattle.vg_front.specs.Seen.{stairs_of, stair_of}
use Rattle.vg_front.proofs.SeenLemmas.{reached_more}
use Rattle.vg_front.proofs.stairs.Stairs.admits.Goals as goal

pub returns-then-beats : goal.returns-then-beats
returns-then-beats c = λ zs reached.
    let told = c.beats.ensures.told zs (c.reach.ensures.reached zs reached) in (told.0 c.if-beats.true, told.1)

pub returns : goal.returns
returns c = λ zs reached.
    reached_more c.beats.new.self.cost c.put.new.self.cost (stairs_of c.beats.new.self) (stairs_of c.put.new.self) zs c.args.offer (stair_of c.args.offer)
    (c.beats.ensures.told zs (c.reach.ensures.reached zs reached)).1 c.put.ensures.among (c.beats.ensures.cost ∙ c.reach.ensures.cost) c.put.ensures.cost refl
    refl
