use Rattle.std.proofs.Common.{◌∙◌, length, arith, ap, length-drop}
use Rattle.std.proofs.lemmas.Result.{err_from_is_err_and}
use Rattle.vg_store.proofs.FileLemmas.{gains_next, gains_then_prefix, keeps_two}
use Rattle.vg_store.proofs.PieceLemmas.{rest_of-drop}
use Rattle.vg_store.proofs.write.append.Goals as goal

pub returns-in_err-done-clause-prefix : goal.returns-in_err-done-clause-prefix
returns-in_err-done-clause-prefix g c =
    let p = err_from_is_err_and c.from_residual.result c.from_residual.ensures.1 in
    rw p.1 (gains_then_prefix (g.F.Files.state c.args.files.now) (g.F.Files.state c.pieces.files) (g.F.Files.state c.put.new.self) c.pieces.done c.args.bytes.now c.pieces.invariant.within
    c.pieces.invariant.gained c.in_err-done.ensures.prefix)

pub pieces-preserved : goal.pieces-preserved
pieces-preserved g c =
    let same = ap length (rest_of-drop c.pieces.done c.args.bytes.now) in
    let left = length-drop c.pieces.done c.args.bytes.now in
    record {
      within = omega (arith, c.in_ok-done.ensures.bound.0);
      gained = gains_next (g.F.Files.state c.args.files.now) (g.F.Files.state c.pieces.files) (g.F.Files.state c.put.new.self) c.pieces.done c.in_ok-done.field-0 c.args.bytes.now
          c.pieces.invariant.gained c.in_ok-done.ensures.gained;
      later = omega (arith, c.in_ok-done.ensures.cause.later);
      still_writing = c.in_ok-done.ensures.still_writing;
      same_target = c.in_ok-done.ensures.same_target ∙ c.pieces.invariant.same_target;
      same_blame = c.in_ok-done.ensures.same_blame ∙ c.pieces.invariant.same_blame;
      reading = keeps_two (g.F.Files.state c.args.files.now) (g.F.Files.state c.pieces.files) (g.F.Files.state c.put.new.self) c.pieces.invariant.reading c.in_ok-done.ensures.reading;
    }
