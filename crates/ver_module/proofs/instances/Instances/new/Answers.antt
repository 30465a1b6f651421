use Rattle.ver_module.proofs.InstanceLemmas.{none_are}
use Rattle.ver_module.proofs.instances.Instances.new.Goals as goal

pub invariant_of-result : goal.invariant_of-result
invariant_of-result c =
    (none_are c.new-2.result c.new-3.result c.new.result c.new-5.result.items c.new-4.result.items c.new-6.result.items c.new.ensures c.new-4.ensures.items c.new-6.ensures.items).0

pub returns : goal.returns
returns c =
    (none_are c.new-2.result c.new-3.result c.new.result c.new-5.result.items c.new-4.result.items c.new-6.result.items c.new.ensures c.new-4.ensures.items c.new-6.ensures.items).1
