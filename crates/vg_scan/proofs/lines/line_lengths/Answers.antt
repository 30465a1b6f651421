use Rattle.std.proofs.Common.{◌+◌, ◌-◌, ◌≤◌, [], ◌∷◌, length, take, drop, arith, sym, ◌∙◌, ap, take_all}
use Rattle.std.proofs.lemmas.List.{drop_all}
use Rattle.std.specs.Str.Lines.{lines}
use Rattle.vg_scan.specs.Lines.{is_newline}
use Rattle.vg_scan.proofs.LineLemmas.{last_line, ended_line, strip_yes, strip_no, first_at, first_none, newline_found}
use Rattle.vg_scan.proofs.CutLemmas.{cut_ended, cut_last, within_line}
use Rattle.vg_scan.proofs.lines.line_lengths.Goals as goal
use Rattle.vg_scan.proofs.lines.line_lengths.Goals.{else-end-gt0-via-then-end-gt0+else-text-end-eq13, else-end-gt0-via-else-end-gt0}

pub returns-in-None-clause-line : goal.returns-in-None-clause-line
returns-in-None-clause-line c =
    let text = c.args.text.now in
    let e = last_line text c.requires (sym c.newline_at.ensures ∙ c.in-None.is) in
    let t = take_all (length text) text (omega arith) in
    let d = drop_all (length text) text (omega arith) in
    e ∙ ap (λ x. x ∷ lines []) (sym t) ∙ ap (λ x. take (length text) text ∷ lines x) (sym d)

pub returns-then-text-end-eq13-clause-line : goal.returns-then-text-end-eq13-clause-line
returns-then-text-end-eq13-clause-line c =
    let text = c.args.text.now in
    let e = sym c.newline_at.ensures ∙ c.in-Some.is in
    ended_line text c.in-Some.end e
    ∙ ap (λ x. x ∷ lines (drop (c.in-Some.end + 1) text)) (strip_yes text c.in-Some.end c.if-end-gt0.true (omega (arith, first_at is_newline text c.in-Some.end e)) c.if-text-end-eq13.true)

pub returns-else-end-gt0-clause-line : goal.returns-else-end-gt0-clause-line
returns-else-end-gt0-clause-line c =
    let text = c.args.text.now in
    let e = sym c.newline_at.ensures ∙ c.in-Some.is in
    let within : c.in-Some.end ≤ length text = omega (arith, first_at is_newline text c.in-Some.end e) in
    ended_line text c.in-Some.end e
    ∙ ap (λ x. x ∷ lines (drop (c.in-Some.end + 1) text)) (elim c.else-end-gt0.branch [
      | else-end-gt0-via-then-end-gt0+else-text-end-eq13 w ↦ strip_no text c.in-Some.end within (λ _. w.if-text-end-eq13.false)
      | else-end-gt0-via-else-end-gt0 w ↦ strip_no text c.in-Some.end within (λ l. absurd (omega arith))
    ])

pub returns-in-None-clause-cut : goal.returns-in-None-clause-cut
returns-in-None-clause-cut c = λ m l.
    let text = c.args.text.now in
    cut_last text m l (last_line text c.requires (sym c.newline_at.ensures ∙ c.in-None.is))

pub returns-in-None-clause-last : goal.returns-in-None-clause-last
returns-in-None-clause-last c = λ m some l.
    let text = c.args.text.now in
    within_line text m some c.requires (omega (arith, first_none is_newline text (sym c.newline_at.ensures ∙ c.in-None.is)))

pub returns-then-text-end-eq13-clause-cut : goal.returns-then-text-end-eq13-clause-cut
returns-then-text-end-eq13-clause-cut c = λ m l.
    let text = c.args.text.now in
    let end = c.in-Some.end in
    let e = sym c.newline_at.ensures ∙ c.in-Some.is in
    cut_ended text end m e l
    ∙ ap (λ x. x ∷ lines (take (m - (end + 1)) (drop (end + 1) text))) (strip_yes text end c.if-end-gt0.true (omega (arith, first_at is_newline text end e)) c.if-text-end-eq13.true)

pub returns-then-text-end-eq13-clause-last : goal.returns-then-text-end-eq13-clause-last
returns-then-text-end-eq13-clause-last c = λ m some l.
    let text = c.args.text.now in
    let e = sym c.newline_at.ensures ∙ c.in-Some.is in
    within_line text m some c.requires (omega (arith, first_at is_newline text c.in-Some.end e))

pub returns-else-end-gt0-clause-cut : goal.returns-else-end-gt0-clause-cut
returns-else-end-gt0-clause-cut c = λ m l.
    let text = c.args.text.now in
    let end = c.in-Some.end in
    let e = sym c.newline_at.ensures ∙ c.in-Some.is in
    let within : end ≤ length text = omega (arith, first_at is_newline text end e) in
    cut_ended text end m e l
    ∙ ap (λ x. x ∷ lines (take (m - (end + 1)) (drop (end + 1) text))) (elim c.else-end-gt0.branch [
      | else-end-gt0-via-then-end-gt0+else-text-end-eq13 w ↦ strip_no text end within (λ _. w.if-text-end-eq13.false)
      | else-end-gt0-via-else-end-gt0 w ↦ strip_no text end within (λ l. absurd (omega arith))
    ])

pub returns-else-end-gt0-clause-last : goal.returns-else-end-gt0-clause-last
returns-else-end-gt0-clause-last c = λ m some l.
    let text = c.args.text.now in
    let e = sym c.newline_at.ensures ∙ c.in-Some.is in
    within_line text m some c.requires (omega (arith, first_at is_newline text c.in-Some.end e))

pub returns-then-text-end-eq13-clause-newline : goal.returns-then-text-end-eq13-clause-newline
returns-then-text-end-eq13-clause-newline c = λ _. newline_found c.args.text.now c.in-Some.end (sym c.newline_at.ensures ∙ c.in-Some.is)

pub returns-else-end-gt0-clause-newline : goal.returns-else-end-gt0-clause-newline
returns-else-end-gt0-clause-newline c = λ _. newline_found c.args.text.now c.in-Some.end (sym c.newline_at.ensures ∙ c.in-Some.is)
