use Rattle.std.proofs.Common.{◌∙◌, ap, refl, sym, subst, arith}
use Rattle.vg_scan.specs.Lines.{lines_of, part, BeginsLine}
use Rattle.spef_file.specs.Machine.{read}
use Rattle.spef_file.specs.Views.{state_of}
use Rattle.spef_file.proofs.FileLemmas.{read-nil}
use Rattle.spef_file.proofs.read.read_lines.Goals as goal

pub returns-clause-said : goal.returns-clause-said
returns-clause-said c = c.line.invariant.reads ∙ ap (read (state_of c.line.reader)) c.in_default.ensures.words ∙ read-nil (state_of c.line.reader)

pub take_line-requires-clause-line : goal.take_line-requires-clause-line
take_line-requires-clause-line c =
    let bytes = c.args.bytes.now in
    let place = c.in-Some.ensures.place in
    record {
      here = refl;
      begins = (subst (λ n. BeginsLine bytes n) (sym place.0) c.line.invariant.begins, c.in-Some.ensures.begins);
      order = (omega (arith, place), omega (arith, place), omega (arith, place));
      on = λ m l. ap (λ n. lines_of (part bytes n m)) place.0 ∙ c.in-Some.ensures.cut m l;
    }
