use Rattle.std.proofs.Common.{map, ap, ◌∙◌}
use Rattle.vg_answer.specs.Answers.{written_by}
use Rattle.mode_total.proofs.total.total_said.Goals as goal

pub returns : goal.returns
returns c =
    let total = c.in_ok-found.ensures.total in
    record {
      design = c.in_ok-design.design;
      design_of = c.in_ok-design.ensures.design;
      total = record {
        standings = total.standings;
        each = total.each;
        choices = total.choices;
        are = total.are;
        kind_is = c.answer_text.ensures.kind_is ∙ total.kind_is;
        text_is = c.answer_text.ensures.text_is ∙ total.text_is;
      };
      written = ap (map written_by) c.answer_text.ensures.no_files;
    }
