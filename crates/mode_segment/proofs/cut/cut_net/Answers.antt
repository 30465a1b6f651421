use Rattle.std.proofs.Common.{ℕ, List, sym, subst, ◌∙◌}
use Rattle.vg_change.proofs.RowLemmas.{name_is}
use Rattle.vg_segment.specs.Texts.{IsFit, IsSegmentRefusal}
use Rattle.vg_segment.proofs.ChargeLemmas.{small_charge}
use Rattle.mode_segment.proofs.NetLemmas.{has_section, is_cut, is_plain, is_refused, stands_behind}
use Rattle.mode_segment.proofs.cut.cut_net.Goals as goal

pub segment_text-requires-clause-plain : goal.segment_text-requires-clause-plain
segment_text-requires-clause-plain c = is_plain c.in-Ok.par c.in-Ok.ensures.fit.accepted

pub segment_text-requires-clause-charge : goal.segment_text-requires-clause-charge
segment_text-requires-clause-charge c =
    let fit = c.in-Ok.ensures.fit in
    small_charge c.in-Ok.par fit.tree fit.order fit.a_tree fit.within

pub segment_text-requires-clause-section : goal.segment_text-requires-clause-section
segment_text-requires-clause-section c =
    has_section c.args.spef.now c.args.index.now c.requires.index c.in_ok-net.net c.in-Ok.par c.in-Ok.ensures.fit.named

pub segment_text-requires-clause-behind : goal.segment_text-requires-clause-behind
segment_text-requires-clause-behind c =
    stands_behind c.args.spef.now c.args.index.now c.requires.index c.args.name.now c.in-Ok.par c.args.patch.now
    (sym c.in_ok-net.ensures ∙ name_is c.args.spef.now c.in_ok-net.net c.in-Ok.par c.in-Ok.ensures.fit.named) c.requires.before

pub returns-in-Ok : goal.returns-in-Ok
returns-in-Ok c =
    is_cut c.args.spef.now c.args.index.now c.requires.index c.args.parts c.args.name.now c.in-Ok.par c.cut_count.result c.args.text.now.items c.print_cut.new.to.items
    c.args.patch.now c.segment_text.new.patch
    (subst (λ (n : List ℕ). IsFit c.args.spef.now c.args.parts n c.in-Ok.par) c.in_ok-net.ensures c.in-Ok.ensures.fit)
    c.in_ok-segment_text-in-Ok.ensures.replaced c.cut_count.ensures c.in_ok-print_cut-in-Ok.ensures

pub returns-in-Err-Net : goal.returns-in-Err-Net
returns-in-Err-Net c =
    let refused = rw c.in-Err-Net.field-0-is at c.in-Err-Net.ensures.refused in
    is_refused c.args.spef.now c.args.index.now c.requires.index c.args.parts c.args.name.now c.in-Err-Net.refusal c.args.text.now.items c.print_refusal.new.to.items
    c.args.patch.now
    (subst (λ (n : List ℕ). IsSegmentRefusal c.args.spef.now c.args.parts n c.in-Err-Net.refusal) c.in_ok-net.ensures refused)
    c.in_ok-print_refusal-in-Err-Net.ensures.printed
