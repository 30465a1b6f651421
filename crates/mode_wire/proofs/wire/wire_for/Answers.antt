use Rattle.std.proofs.Common.{◌∙◌, ap}
use Rattle.vg_scan.specs.Comments.{without_comments}
use Rattle.vg_scan.specs.declared.comments.Comments.TheVariants.{Spef}
use Rattle.vg_scan.proofs.AgainLemmas.{without_again}
use Rattle.mode_wire.proofs.ClearLemmas.{wire_answers}
use Rattle.mode_wire.proofs.wire.wire_for.Goals as goal

pub returns : goal.returns
returns c =
    wire_answers c.args.spef.bytes.items c.new-text.result (ap (without_comments Spef) c.new-text.ensures ∙ without_again Spef c.args.spef.bytes.items)
    c.args.name.now c.wire_in.result c.wire_in.ensures
