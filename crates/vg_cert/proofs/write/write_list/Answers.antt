use Rattle.std.proofs.Common.{◌∙◌, rules, refl, pos}
use Rattle.vg_cert.specs.Written.{line_text, pair_line, text_in}
use Rattle.vg_cert.proofs.WriteLemmas.{grown, item_more}
use Rattle.vg_cert.proofs.write.write_list.Goals as goal

pub pair-preserved : goal.pair-preserved
pair-preserved c =
    item_more (λ x. line_text (pair_line x)) c.args.pairs.now c.pair.pair-index (record { q = pos 0; c = 0 }) _ (text_in c.args.to.now) (text_in c.pair.to) (text_in c.close_full.new.self) (search rules) refl c.pair.invariant
    (c.in_ok-close_full.ensures ∙ grown c.pair.to.closed.items c.pair.to.last.items c.write_pair.new.to.items _ c.in_ok-write_pair.ensures)
