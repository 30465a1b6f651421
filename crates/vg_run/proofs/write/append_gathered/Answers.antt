use Rattle.std.proofs.Common.{◌≡◌, ◌++◌, [], subst, arith}
use Rattle.std.proofs.lemmas.Grind.{common_steps}
use Rattle.std.proofs.lemmas.Result.{err_from_is_err_and}
use Rattle.vg_store.specs.Writing.{DraftGains}
use Rattle.vg_run.proofs.PieceLemmas.{gains_both, gains_last}
use Rattle.vg_run.proofs.write.append_gathered.Goals as goal

pub returns-in_err-append-2-clause-prefix : goal.returns-in_err-append-2-clause-prefix
returns-in_err-append-2-clause-prefix g c =
    let p = err_from_is_err_and c.from_residual-in_err-append-2.result c.from_residual-in_err-append-2.ensures.1 in
    let waited : c.as_slice.result.now ≡ c.args.waiting.now.items = grind (arith, common_steps) in
    rw p.1
    (gains_last (g.F.Files.state c.args.files.now) (g.F.Files.state c.append.new.files) (g.F.Files.state c.append-2.new.files) c.args.waiting.now.items c.args.piece.now
    (subst (DraftGains (g.F.Files.state c.args.files.now) (g.F.Files.state c.append.new.files)) waited c.in_ok-append.ensures.all)
    c.in_err-append-2.ensures.prefix)

pub returns-clause-all : goal.returns-clause-all
returns-clause-all g c =
    let waited : c.as_slice.result.now ≡ c.args.waiting.now.items = grind (arith, common_steps) in
    let left : c.try_extend_from_slice-2.new.self.items ≡ [] = grind (arith, common_steps) in (
      c.args.waiting.now.items ++ c.args.piece.now,
      gains_both (g.F.Files.state c.args.files.now) (g.F.Files.state c.append.new.files) (g.F.Files.state c.append-2.new.files) c.args.waiting.now.items c.args.piece.now
          (subst (DraftGains (g.F.Files.state c.args.files.now) (g.F.Files.state c.append.new.files)) waited c.in_ok-append.ensures.all)
          c.in_ok-append-2.ensures.all,
      grind (arith, common_steps),
    )
