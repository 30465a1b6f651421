use Rattle.std.proofs.Common.{◌≡◌, ◌≤◌, ◌^◌, ℕ, List, length, ap, sym, ◌∙◌, subst, arith}
use Rattle.std.specs.Vec.{with_items}
use Rattle.std.proofs.lemmas.List.{with_items_is}
use Rattle.vg_patch.specs.Edits.{Rise, patched}
use Rattle.vg_scan.specs.Comments.{without_comments}
use Rattle.vg_scan.specs.declared.comments.Comments.TheVariants.{Spef}
use Rattle.vg_scan.proofs.PieceLemmas.{length-without}
use Rattle.vg_answer.specs.Nets.{named}
use Rattle.mode_segment.specs.Steps.{IsAnswerWith}
use Rattle.mode_segment.proofs.AnswerLemmas.{answered, rises}
use Rattle.mode_segment.proofs.segment.segment_for.Goals as goal

pub from_clear-text-requires-clause-short : goal.from_clear-text-requires-clause-short
from_clear-text-requires-clause-short c =
    subst (λ (n : ℕ). n ≤ 2 ^ 28) (sym (ap length c.in_ok-clear.ensures.clear ∙ length-without Spef c.args.spef.bytes.items)) c.args.spef.short

pub into_answer-requires : goal.into_answer-requires
into_answer-requires c =
    let same : c.deref_mut.result.now ≡ c.in_ok-clear.clear.items =
    c.deref_mut.ensures.value ∙ c.into_bytes-bytes.ensures ∙ c.from_clear-text.ensures in
    let restored : (with_items c.into_bytes-bytes.result c.restore.new.text).items ≡ c.args.spef.bytes.items =
    with_items_is c.into_bytes-bytes.result c.restore.new.text (omega (arith, c.restore.auto.text, c.deref_mut.ensures.len))
    ∙ c.restore.ensures ∙ ap (λ (t : List ℕ). patched t c.in_ok-clear.comments) same ∙ c.in_ok-clear.ensures.kept.is in
    let long : length c.from_clear-text.result ≡ length (with_items c.into_bytes-bytes.result c.restore.new.text).items =
    ap length (c.from_clear-text.ensures ∙ c.in_ok-clear.ensures.clear) ∙ length-without Spef c.args.spef.bytes.items ∙ ap length (sym restored) in
    subst (λ (n : ℕ). Rise 0 n c.in_ok-cutting.cutting.patch) long
    (rises c.from_clear-text.result c.in_ok-index.index (named c.args.net) c.args.parts c.in_ok-cutting.cutting c.in_ok-index.ensures c.in_ok-cutting.ensures)

pub returns : goal.returns
returns c =
    let same : c.deref_mut.result.now ≡ c.in_ok-clear.clear.items =
    c.deref_mut.ensures.value ∙ c.into_bytes-bytes.ensures ∙ c.from_clear-text.ensures in
    let restored : (with_items c.into_bytes-bytes.result c.restore.new.text).items ≡ c.args.spef.bytes.items =
    with_items_is c.into_bytes-bytes.result c.restore.new.text (omega (arith, c.restore.auto.text, c.deref_mut.ensures.len))
    ∙ c.restore.ensures ∙ ap (λ (t : List ℕ). patched t c.in_ok-clear.comments) same ∙ c.in_ok-clear.ensures.kept.is in
    let clear : without_comments Spef c.from_clear-text.result ≡ without_comments Spef c.args.spef.bytes.items =
    ap (without_comments Spef) c.from_clear-text.ensures ∙ c.in_ok-clear.ensures.none ∙ c.in_ok-clear.ensures.clear in
    answered c.from_clear-text.result c.args.spef.bytes.items c.in_ok-index.index (named c.args.net) c.args.parts c.in_ok-cutting.cutting c.in_ok-into_answer.field-0
    clear c.in_ok-index.ensures c.in_ok-cutting.ensures
    (subst (λ (text : List ℕ). IsAnswerWith c.in_ok-cutting.cutting text c.in_ok-into_answer.field-0) restored c.in_ok-into_answer.ensures)
