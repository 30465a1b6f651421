use Rattle.spef_net.proofs.BuilderLemmas.{seen_two}
use Rattle.spef_net.proofs.builder.NetBuilder.see_two.Goals as goal

pub returns-in-Ok-see-clause-seen : goal.returns-in-Ok-see-clause-seen
returns-in-Ok-see-clause-seen c =
    seen_two c.args.self.now.file c.see.new.self.file c.args.self.now.net c.see.new.self.net c.in-Ok.ensures.source.0 c.in-Ok.ensures.source.1 c.in-Ok.first c.in-Ok-see.second _ c.see.new.self c.see-in-Ok.new.self _ _ c.in-Ok.ensures.seen c.in-Ok-see.ensures.seen
