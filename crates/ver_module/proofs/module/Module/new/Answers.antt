use Rattle.ver_module.proofs.module.Module.new.Goals as goal

pub invariant_of-result : goal.invariant_of-result
invariant_of-result c = record {
  links = c.requires.links;
  assigned = c.requires.assigned;
  few_nets = c.are_few.ensures;
  few_instances = c.are_few-2.ensures.instances;
  few_pins = c.are_few-2.ensures.pins;
}
