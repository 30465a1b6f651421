use Rattle.std.proofs.Common.{ap, map}
use Rattle.vg_answer.specs.Answers.{written_by}
use Rattle.mode_sta.proofs.sta.sta_for.Goals as goal

pub returns : goal.returns
returns c = record {
  design = c.in_ok-design.design;
  design_of = c.in_ok-design.ensures.design;
  is_said = c.in_ok-say.ensures.says;
  no_files = ap (map written_by) c.in_ok-say.ensures.no_files;
}
