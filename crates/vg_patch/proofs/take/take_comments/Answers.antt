use Rattle.std.proofs.Common.{◌≡◌, ◌++◌, take, drop, map, arith, ap, subst, sym, ◌∙◌}
use Rattle.std.specs.Vec.{with_items}
use Rattle.std.proofs.lemmas.List.{with_items_is}
use Rattle.vg_scan.specs.Comments.{blanked, without_comments}
use Rattle.vg_scan.specs.Next.{IsNextComment}
use Rattle.vg_scan.specs.Lines.{part}
use Rattle.vg_patch.specs.Edits.{edit_of}
use Rattle.vg_patch.specs.Kept.{Restores}
use Rattle.vg_patch.proofs.TakeLemmas.{none_taken, end_below, taken_more, all_clear, none_left, all_kept}
use Rattle.vg_patch.proofs.take.take_comments.Goals as goal

pub comments-init : goal.comments-init
comments-init c = none_taken c.args.kind c.args.text.items c.new-kept.result c.new-kept.ensures

pub keep-requires-clause-behind : goal.keep-requires-clause-behind
keep-requires-clause-behind c =
    let behind = end_below 0 c.comments.at c.comments.kept c.comments.invariant.rise in
    omega (arith, behind, c.in-Some.ensures.found.after)

pub comments-preserved : goal.comments-preserved
comments-preserved c =
    let e = edit_of c.in-Some.comment (part c.as_mut_slice.result.now c.in-Some.comment.from c.in-Some.comment.to) in
    let next : IsNextComment c.args.kind c.comments.text.items c.comments.at e.from e.to =
    subst (λ t. IsNextComment c.args.kind t c.comments.at e.from e.to) c.deref.ensures.value c.in-Some.ensures.found in
    let new = (with_items c.comments.text c.keep.new.text).items in
    let is : new ≡ take e.from c.comments.text.items ++ (map blanked (part c.comments.text.items e.from e.to) ++ drop e.to c.comments.text.items) =
    with_items_is c.comments.text c.keep.new.text (omega (arith, c.keep.auto.text, c.as_mut_slice.ensures.len))
    ∙ c.in_ok-keep.ensures.blank
    ∙ ap (λ t. take e.from t ++ (map blanked (part t e.from e.to) ++ drop e.to t)) c.as_mut_slice.ensures.value in
    taken_more c.args.kind c.args.text.items c.comments.text.items new c.comments.kept c.keep.new.kept c.comments.at e c.comments.invariant next
    c.in_ok-keep.ensures.kept (ap (λ t. part t e.from e.to) c.as_mut_slice.ensures.value) is

pub returns-clause-clear : goal.returns-clause-clear
returns-clause-clear c =
    let none : without_comments c.args.kind (drop c.comments.at c.comments.text.items) ≡ drop c.comments.at c.comments.text.items =
    subst (λ t. without_comments c.args.kind (drop c.comments.at t) ≡ drop c.comments.at t) c.deref.ensures.value
    (c.next_comment.ensures.none c.in_default.is) in
    all_clear c.args.kind c.args.text.items c.comments.text.items c.comments.kept c.comments.at c.comments.invariant none

pub returns-clause-none : goal.returns-clause-none
returns-clause-none c = none_left c.args.kind c.args.text.items c.comments.text.items (returns-clause-clear c)

pub returns-clause-kept : goal.returns-clause-kept
returns-clause-kept c =
    subst (λ es. Restores es c.comments.text.items c.args.text.items) (sym c.new.ensures)
    (all_kept c.args.kind c.args.text.items c.comments.text.items c.comments.kept c.comments.at c.comments.invariant)
