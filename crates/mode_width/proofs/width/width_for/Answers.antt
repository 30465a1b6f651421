use Rattle.std.proofs.Common.{ℕ, List, ap, map, subst}
use Rattle.vg_answer.specs.Answers.{written_by}
use Rattle.vg_answer.specs.Faults.{DenotesWidths}
use Rattle.mode_width.proofs.width.width_for.Goals as goal

pub returns : goal.returns
returns c =
    let rows = c.in_ok-widths.widths.rows in
    let is = c.in_ok-width_net.ensures in
    record {
      design = c.in_ok-design.design;
      design_of = c.in_ok-design.ensures.design;
      widths = rows;
      widths_of = subst (λ (file : List ℕ). DenotesWidths file rows) c.deref.ensures.value c.in_ok-widths.ensures.widths;
      says = is.says;
      no_files = ap (map written_by) is.no_files;
    }
