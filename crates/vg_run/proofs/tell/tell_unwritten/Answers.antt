use Rattle.vg_run.proofs.tell.tell_unwritten.Goals as goal

pub returns : goal.returns
returns g c = rw c.as_bytes-name.ensures.value at c.say.ensures
