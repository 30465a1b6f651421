use Rattle.std.proofs.Common.{◌++◌, ◌∙◌, List, ℕ, [], ap, append_assoc, arith, sym}
use Rattle.std.proofs.lemmas.Result.{err_from_is_err_and}
use Rattle.std.specs.List.{concat}
use Rattle.vg_answer.specs.NewTexts.{pieces_left, text_of}
use Rattle.vg_answer.specs.declared.new_text.TextPieces.{TextPieces}
use Rattle.vg_run.proofs.PieceLemmas.{gains_both, gains_front, moved_on}
use Rattle.vg_store.proofs.FileLemmas.{keeps_two}
use Rattle.vg_run.proofs.write.append_pieces.Goals as goal

pub piece-preserved : goal.piece-preserved
piece-preserved g c =
    let old = g.F.Files.state c.args.files.now in
    let mid = g.F.Files.state c.piece.files in
    let new = g.F.Files.state c.append_gathered.new.files in
    let before = c.piece.invariant in
    let after = c.in_ok-append_gathered.ensures in
    let (done, all, gained) = before.gained in
    let (more, gains, waits) = after.all in
    record {
      gained = (
        done ++ more,
        moved_on done more c.piece.waiting.items c.in-Some.piece.now c.append_gathered.new.waiting.items (concat (pieces_left c.next.new.self)) waits
            ∙ ap (λ (rest : List ℕ). done ++ (c.piece.waiting.items ++ rest)) (sym (ap concat c.in-Some.ensures.steps)) ∙ all,
        gains_both old mid new done more gained gains,
      );
      later = omega (arith, before.later, after.never_falls);
      still_writing = after.still_writing;
      same_target = after.same_target ∙ before.same_target;
      same_blame = after.same_blame ∙ before.same_blame;
      reading = keeps_two old mid new before.reading after.reading;
    }

pub returns-in_err-append_gathered-clause-prefix : goal.returns-in_err-append_gathered-clause-prefix
returns-in_err-append_gathered-clause-prefix g c =
    let p = err_from_is_err_and c.from_residual.result c.from_residual.ensures.1 in
    let (done, all, gained) = c.piece.invariant.gained in
    let waiting = c.piece.waiting.items in
    let piece = c.in-Some.piece.now in
    let left = concat (pieces_left c.next.new.self) in
    rw p.1
    (gains_front (g.F.Files.state c.args.files.now) (g.F.Files.state c.piece.files) (g.F.Files.state c.append_gathered.new.files) done (waiting ++ piece) left (text_of c.args.text.now)
    (ap (λ (rest : List ℕ). done ++ rest) (append_assoc waiting piece left) ∙ ap (λ (rest : List ℕ). done ++ (waiting ++ rest)) (sym (ap concat c.in-Some.ensures.steps)) ∙ all
    ∙ ap (λ (left : TextPieces). concat (pieces_left left)) c.into_iter-piece-iterator.ensures.into_iter_gives ∙ c.pieces-piece-items.ensures)
    gained c.in_err-append_gathered.ensures.prefix)

pub returns-in_err-append-clause-prefix : goal.returns-in_err-append-clause-prefix
returns-in_err-append-clause-prefix g c =
    let p = err_from_is_err_and c.from_residual-in_err-append.result c.from_residual-in_err-append.ensures.1 in
    let (done, all, gained) = c.piece.invariant.gained in
    rw p.1
    (gains_front (g.F.Files.state c.args.files.now) (g.F.Files.state c.piece.files) (g.F.Files.state c.append.new.files) done c.as_slice-last.result.now [] (text_of c.args.text.now)
    (ap (λ (last : List ℕ). done ++ (last ++ [])) c.as_slice-last.ensures.value ∙ ap (λ (rest : List ℕ). done ++ (c.piece.waiting.items ++ rest)) (sym (ap concat c.in-None.ensures.steps.0)) ∙ all
    ∙ ap (λ (left : TextPieces). concat (pieces_left left)) c.into_iter-piece-iterator.ensures.into_iter_gives ∙ c.pieces-piece-items.ensures)
    gained c.in_err-append.ensures.prefix)
