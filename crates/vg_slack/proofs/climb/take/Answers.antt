use Rattle.std.proofs.Common.{◌∙◌}
use Rattle.std.proofs.lemmas.List.{get_or_default}
use Rattle.cand_turns.specs.declared.part.Part.TheVariants.{Dead}
use Rattle.vg_slack.proofs.climb.take.Goals as goal

pub returns-clause-part : goal.returns-clause-part
returns-clause-part c =
    c.replace.ensures.value ∙ c.index_mut.ensures.value ∙ get_or_default c.args.parts.now.items c.args.node c.index_mut.result.now (Dead 0) c.requires
