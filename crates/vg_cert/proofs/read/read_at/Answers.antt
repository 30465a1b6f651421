use Rattle.std.proofs.Common.{◌∙◌, sym, ap, arith, refl, subst}
use Rattle.vg_cert.specs.Lines.{words}
use Rattle.vg_cert.specs.Roles.{at}
use Rattle.vg_cert.specs.Faults.{is_over_role}
use Rattle.vg_cert.specs.Readings.{reading, line_of, IsCell}
use Rattle.vg_cert.proofs.JudgeLemmas.{same_fault}
use Rattle.vg_cert.proofs.RoleLemmas.{at_role}
use Rattle.vg_cert.proofs.ReadLemmas.{missing_line, taken_line, faulty_line, line_taken}
use Rattle.vg_cert.proofs.read.read_at.Goals as goal

pub returns-in_err-line : goal.returns-in_err-line
returns-in_err-line c =
    missing_line c.from_residual.result (reading c.args.source.now) c.args.place.now _ 1 _ c.in_err-line.field-0.0 c.from_residual.ensures.1 c.requires.up_to (ap is_over_role c.requires.due) c.in_err-line.ensures.missing

pub returns-in-Ok : goal.returns-in-Ok
returns-in-Ok c =
    let r = reading c.args.source.now in
    let t = c.in_ok-line.ensures.taken in
    let j = c.in-Ok.ensures in (
      taken_line r c.args.place.now c.next_line.new.place c.in_ok-line.line.now at _ c.requires.up_to t c.requires.due refl (at_role r.names (line_of r 2) _ (words c.in_ok-line.line.now) c.args.next c.requires.slack c.requires.next ∙ j.0),
      omega (arith, t.next),
      subst (λ l. IsCell r.names c.args.next l c.in-Ok.found) (sym (line_taken r c.args.place.now c.next_line.new.place c.in_ok-line.line.now c.requires.up_to t)) (record { names_them = j.1.0; behind = j.1.1; node = j.1.2; cell = j.1.3 }),
    )

pub returns-in-Err : goal.returns-in-Err
returns-in-Err c =
    let r = reading c.args.source.now in
    faulty_line r c.args.place.now c.next_line.new.place c.in_ok-line.line.now at _ c.in-Err.kind c.fault.result c.requires.up_to c.in_ok-line.ensures.taken c.requires.due refl
    (same_fault _ _ c.in-Err.kind (at_role r.names (line_of r 2) _ (words c.in_ok-line.line.now) c.args.next c.requires.slack c.requires.next) c.in-Err.ensures) c.fault.ensures.kind c.fault.ensures.line
