use Rattle.vg_run.specs.Inputs.{texts_read}
use Rattle.vg_run.proofs.ModeLemmas.{gen_says}
use Rattle.vg_run.proofs.modes.answer.Goals as goal

pub returns-in-Gen : goal.returns-in-Gen
returns-in-Gen c = gen_says c.args.ask.now (texts_read c.args.texts) c.gen_for.result c.in-Gen.is c.size.result c.size.ensures c.gen_for.ensures
