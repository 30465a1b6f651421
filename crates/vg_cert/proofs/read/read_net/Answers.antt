use Rattle.std.proofs.Common.{ap, arith, refl, None}
use Rattle.vg_cert.specs.Roles.{net}
use Rattle.vg_cert.specs.Faults.{is_over_role}
use Rattle.vg_cert.specs.Readings.{reading, line_of}
use Rattle.vg_cert.proofs.ReadLemmas.{missing_line, taken_line, faulty_line, none_before}
use Rattle.vg_cert.proofs.read.read_net.Goals as goal

pub returns-in_err-line : goal.returns-in_err-line
returns-in_err-line c =
    missing_line c.from_residual.result (reading c.args.source.now) c.args.place.now _ 1 _ c.in_err-line.field-0.0 c.from_residual.ensures.1 c.requires.up_to (ap is_over_role c.requires.due) c.in_err-line.ensures.missing

pub returns-in-Ok : goal.returns-in-Ok
returns-in-Ok c =
    let r = reading c.args.source.now in
    let n = c.args.place.now.count in
    let t = c.in_ok-line.ensures.taken in
    (taken_line r c.args.place.now c.next_line.new.place c.in_ok-line.line.now net None c.requires.up_to t c.requires.due (none_before r n net (λ x. refl)) (c.in-Ok.ensures (line_of r 2)).0, omega (arith, t.next), tt)

pub returns-in-Err : goal.returns-in-Err
returns-in-Err c =
    let r = reading c.args.source.now in
    let n = c.args.place.now.count in
    faulty_line r c.args.place.now c.next_line.new.place c.in_ok-line.line.now net None c.in-Err.kind c.fault.result c.requires.up_to c.in_ok-line.ensures.taken c.requires.due (none_before r n net (λ x. refl)) (c.in-Err.ensures (line_of r 2)) c.fault.ensures.kind c.fault.ensures.line
