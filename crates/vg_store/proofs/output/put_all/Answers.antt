use Rattle.std.proofs.Common.{length, arith, ap, length-drop}
use Rattle.std.proofs.lemmas.Result.{err_from_is_err_and}
use Rattle.vg_store.proofs.PieceLemmas.{rest_of-drop, gains_next, gains_then_prefix}
use Rattle.vg_store.proofs.output.put_all.Goals as goal

pub returns-in_err-done-clause-prefix : goal.returns-in_err-done-clause-prefix
returns-in_err-done-clause-prefix g c =
    let p = err_from_is_err_and c.from_residual.result c.from_residual.ensures.1 in
    rw p.1 (gains_then_prefix (g.O.Out.state c.args.out.now) (g.O.Out.state c.pieces.out) (g.O.Out.state c.put.new.self) c.pieces.done c.args.bytes.now c.pieces.invariant.within c.pieces.invariant.gained c.in_err-done.ensures.prefix)

pub pieces-preserved : goal.pieces-preserved
pieces-preserved g c =
    let same = ap length (rest_of-drop c.pieces.done c.args.bytes.now) in
    let left = length-drop c.pieces.done c.args.bytes.now in
    record {
      within = omega (arith, c.in_ok-done.ensures.bound.0);
      gained = gains_next (g.O.Out.state c.args.out.now) (g.O.Out.state c.pieces.out) (g.O.Out.state c.put.new.self) c.pieces.done c.in_ok-done.field-0 c.args.bytes.now c.pieces.invariant.gained c.in_ok-done.ensures.gained;
      later = omega (arith, c.in_ok-done.ensures.cause.later);
    }
