use Rattle.std.proofs.Common.{sym, ◌∙◌}
use Rattle.vg_scan.proofs.NextLemmas.{plain_stays, piece_stays, comment_next, none_next, further}
use Rattle.vg_scan.proofs.comments.next_comment.Goals as goal

pub piece-init : goal.piece-init
piece-init c = plain_stays c.args.kind c.args.text.now c.args.at c.mark_at-from.result c.requires c.mark_at-from.ensures.place

pub returns-then-is_comment-clause-found : goal.returns-then-is_comment-clause-found
returns-then-is_comment-clause-found c =
    comment_next c.args.kind c.args.text.now c.piece.from c.piece_end-to.result c.piece-test.true c.piece_end-to.ensures c.args.at
    (sym c.is_comment.ensures ∙ c.if-is_comment.true) c.piece.invariant

pub piece-preserved : goal.piece-preserved
piece-preserved c =
    let kind = c.args.kind in
    let text = c.args.text.now in
    let to = c.piece_end-to.result in
    let piece = piece_stays kind text c.piece.from to c.piece-test.true c.piece_end-to.ensures (sym c.is_comment.ensures ∙ c.if-is_comment.false) in
    let plain = plain_stays kind text to c.mark_at-from-in-piece.result piece.within c.mark_at-from-in-piece.ensures.place in
    further (further c.piece.invariant piece) plain

pub returns-clause-none : goal.returns-clause-none
returns-clause-none c = λ _. none_next c.args.kind c.args.text.now c.args.at c.piece.from c.piece.invariant c.piece-test.false
