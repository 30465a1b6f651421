use Rattle.std.proofs.Common.{rules, inr, false, true}
use Rattle.std.proofs.lemmas.Int.{to_z-of_z}
use mir.Syntax.{w128}
use mir.Val.{SFits}
use Rattle.vg_cert.specs.Lines.{words}
use Rattle.vg_cert.proofs.JudgeLemmas.{passed, pair_form, pair_q, pair_c, pair_done, pair_is, not_false, not_is_true}
use Rattle.vg_cert.proofs.line.pair_line.Goals as goal

pub returns-in_default : goal.returns-in_default
returns-in_default c = inr (pair_form c.args.last (words c.args.line.now) c.in_default.ensures)

pub returns-in_err-q : goal.returns-in_err-q
returns-in_err-q c = passed c.from_residual.result c.in_err-q.field-0.0 _ _ c.from_residual.ensures.1 (pair_q c.args.last (words c.args.line.now) c.in-Some.q.now c.in-Some.c.now _ c.in-Some.ensures c.in_err-q.ensures)

pub returns-in_err-c : goal.returns-in_err-c
returns-in_err-c c = passed c.from_residual-in_err-c.result c.in_err-c.field-0.0 _ _ c.from_residual-in_err-c.ensures.1 (pair_c c.args.last (words c.args.line.now) c.in-Some.q.now c.in-Some.c.now _ c.in-Some.ensures c.in_ok-q.ensures.0 c.in_err-c.ensures)

pub returns-then-not-is_above : goal.returns-then-not-is_above
returns-then-not-is_above c =
    let f : SFits w128 c.in_ok-q.q = search rules in
    let x = rw (to_z-of_z w128 c.in_ok-q.q f) at c.is_above.ensures in
    let q = c.in_ok-q.ensures in
    let n = c.in_ok-c.ensures in
    inr (pair_done c.args.last (words c.args.line.now) c.in-Some.q.now c.in-Some.c.now (record { q = c.in_ok-q.q; c = c.in_ok-c.c }) true c.in-Some.ensures q.0 n.0
    (pair_is (words c.args.line.now) c.in-Some.q.now c.in-Some.c.now c.in_ok-q.q c.in_ok-c.c c.in-Some.ensures q.1.0 n.1.0) (not_false _ _ x c.if-not-is_above.true))

pub returns : goal.returns
returns c =
    let f : SFits w128 c.in_ok-q.q = search rules in
    let x = rw (to_z-of_z w128 c.in_ok-q.q f) at c.is_above.ensures in
    let q = c.in_ok-q.ensures in
    let n = c.in_ok-c.ensures in
    let is = pair_is (words c.args.line.now) c.in-Some.q.now c.in-Some.c.now c.in_ok-q.q c.in_ok-c.c c.in-Some.ensures q.1.0 n.1.0 in
    let o = not_is_true _ _ x c.if-not-is_above.false in
    rw (to_z-of_z w128 c.in_ok-q.q f)
    (pair_done c.args.last (words c.args.line.now) c.in-Some.q.now c.in-Some.c.now (record { q = c.in_ok-q.q; c = c.in_ok-c.c }) false c.in-Some.ensures q.0 n.0 is o, (is, record { time = q.1.1; load = n.1.1 }, o))
