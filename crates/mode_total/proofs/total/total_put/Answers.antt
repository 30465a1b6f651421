use Rattle.std.proofs.Common.{◌≡◌, ◌≤◌, ◌^◌, ℕ, List, Some, length, ap, sym, ◌∙◌, subst, arith}
use Rattle.std.specs.Vec.{with_items}
use Rattle.std.proofs.lemmas.List.{with_items_is}
use Rattle.vg_patch.specs.Kept.{FitIn}
use Rattle.vg_patch.specs.Edits.{patched}
use Rattle.vg_scan.specs.declared.comments.Comments.TheVariants.{Spef}
use Rattle.vg_scan.proofs.PieceLemmas.{length-without}
use Rattle.vg_answer.specs.Answers.{AnswersBy, texts_in}
use Rattle.vg_answer.specs.Faults.{IsDesignFault}
use Rattle.vg_answer.proofs.AnswerLemmas.{design_of_texts, handed}
use Rattle.vg_place.proofs.CellLemmas.{repeaters_are_named}
use Rattle.mode_total.specs.Answers.{Asked, IsTotalAnswer, IsTotalTaken}
use Rattle.mode_total.proofs.AnswerLemmas.{not_put, put_answer}
use Rattle.mode_total.proofs.total.total_put.Goals as goal

pub from_clear-text-requires-clause-short : goal.from_clear-text-requires-clause-short
from_clear-text-requires-clause-short c =
    subst (λ (n : ℕ). n ≤ 2 ^ 28) (sym (ap length c.in_ok-clear.ensures.clear ∙ length-without Spef c.args.texts.spef.bytes.items)) c.args.texts.spef.short

pub judge-requires-clause-repeaters : goal.judge-requires-clause-repeaters
judge-requires-clause-repeaters c =
    let d = c.in_ok-design.design in
    let texts = c.args.texts in
    let of =
    design_of_texts c.from_clear-text.result texts.spef.bytes.items c.deref.result.now texts.lib.bytes.items c.deref-2.result.now texts.verilog.bytes.items c.deref-3.result.now texts.cons.bytes.items d
    c.in_ok-design.ensures.design (c.from_clear-text.ensures ∙ c.in_ok-clear.ensures.clear) c.deref.ensures.value c.deref-2.ensures.value c.deref-3.ensures.value in
    repeaters_are_named texts.lib.bytes.items d.library of.library

pub judge-requires-clause-read : goal.judge-requires-clause-read
judge-requires-clause-read c =
    let d = c.in_ok-design.design in
    let texts = c.args.texts in
    let of =
    design_of_texts c.from_clear-text.result texts.spef.bytes.items c.deref.result.now texts.lib.bytes.items c.deref-2.result.now texts.verilog.bytes.items c.deref-3.result.now texts.cons.bytes.items d
    c.in_ok-design.ensures.design (c.from_clear-text.ensures ∙ c.in_ok-clear.ensures.clear) c.deref.ensures.value c.deref-2.ensures.value c.deref-3.ensures.value in
    (texts.verilog.bytes.items, of.netlist)

pub returns-in_err-judged : goal.returns-in_err-judged
returns-in_err-judged c =
    let d = c.in_ok-design.design in
    let texts = c.args.texts in
    let asked : Asked = record { cap = c.args.cap; prefix = Some c.args.prefix.now } in
    let fault = c.in_err-judged.field-0.0 in
    let of =
    design_of_texts c.from_clear-text.result texts.spef.bytes.items c.deref.result.now texts.lib.bytes.items c.deref-2.result.now texts.verilog.bytes.items c.deref-3.result.now texts.cons.bytes.items d
    c.in_ok-design.ensures.design (c.from_clear-text.ensures ∙ c.in_ok-clear.ensures.clear) c.deref.ensures.value c.deref-2.ensures.value c.deref-3.ensures.value in
    handed (AnswersBy (IsTotalAnswer (texts_in texts) asked) (IsDesignFault (texts_in texts)) (IsTotalTaken (texts_in texts) asked)) c.from_residual-in_err-judged.result fault c.from_residual-in_err-judged.ensures.1
    (not_put (texts_in texts) c.args.cap c.args.prefix.now d fault of c.in_err-judged.ensures)

pub restore-requires : goal.restore-requires
restore-requires c =
    let d = c.in_ok-design.design in
    let texts = c.args.texts in
    let of =
    design_of_texts c.from_clear-text.result texts.spef.bytes.items c.deref.result.now texts.lib.bytes.items c.deref-2.result.now texts.verilog.bytes.items c.deref-3.result.now texts.cons.bytes.items d
    c.in_ok-design.ensures.design (c.from_clear-text.ensures ∙ c.in_ok-clear.ensures.clear) c.deref.ensures.value c.deref-2.ensures.value c.deref-3.ensures.value in
    let same : c.deref_mut.result.now ≡ c.in_ok-clear.clear.items =
    c.deref_mut.ensures.value ∙ c.into_bytes-spef.ensures ∙ c.into_text.ensures ∙ of.spef ∙ sym c.in_ok-clear.ensures.clear in
    subst (λ (t : List ℕ). FitIn c.in_ok-clear.comments t) (sym same) c.in_ok-clear.ensures.kept.fit

pub into_answer-requires-clause-verilog : goal.into_answer-requires-clause-verilog
into_answer-requires-clause-verilog c =
    let d = c.in_ok-design.design in
    let texts = c.args.texts in
    let of =
    design_of_texts c.from_clear-text.result texts.spef.bytes.items c.deref.result.now texts.lib.bytes.items c.deref-2.result.now texts.verilog.bytes.items c.deref-3.result.now texts.cons.bytes.items d
    c.in_ok-design.ensures.design (c.from_clear-text.ensures ∙ c.in_ok-clear.ensures.clear) c.deref.ensures.value c.deref-2.ensures.value c.deref-3.ensures.value in
    c.in_ok-judged.ensures.1.fit.verilog texts.verilog.bytes.items of.netlist

pub returns : goal.returns
returns c =
    let d = c.in_ok-design.design in
    let texts = c.args.texts in
    let of =
    design_of_texts c.from_clear-text.result texts.spef.bytes.items c.deref.result.now texts.lib.bytes.items c.deref-2.result.now texts.verilog.bytes.items c.deref-3.result.now texts.cons.bytes.items d
    c.in_ok-design.ensures.design (c.from_clear-text.ensures ∙ c.in_ok-clear.ensures.clear) c.deref.ensures.value c.deref-2.ensures.value c.deref-3.ensures.value in
    let same : c.deref_mut.result.now ≡ c.in_ok-clear.clear.items =
    c.deref_mut.ensures.value ∙ c.into_bytes-spef.ensures ∙ c.into_text.ensures ∙ of.spef ∙ sym c.in_ok-clear.ensures.clear in
    let spef = (with_items c.into_bytes-spef.result c.restore.new.text).items in
    let restored : spef ≡ texts.spef.bytes.items =
    with_items_is c.into_bytes-spef.result c.restore.new.text (omega (arith, c.restore.auto.text, c.deref_mut.ensures.len))
    ∙ c.restore.ensures ∙ ap (λ (t : List ℕ). patched t c.in_ok-clear.comments) same ∙ c.in_ok-clear.ensures.kept.is in
    put_answer (texts_in texts) c.args.cap c.args.prefix.now d c.in_ok-judged.judged spef c.in_ok-into_answer.field-0 of
    c.in_ok-judged.ensures restored c.in_ok-into_answer.ensures.kind c.in_ok-into_answer.ensures.said
