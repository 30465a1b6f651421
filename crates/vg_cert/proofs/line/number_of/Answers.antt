use Rattle.std.proofs.Common.{◌∙◌, sym, ap, rules}
use Rattle.std.specs.Prelude.{option_map}
use Rattle.std.proofs.lemmas.Int.{to_z-of_z}
use mir.Syntax.{w128}
use mir.Val.{SFits}
use Rattle.vg_cert.specs.declared.fault.CertKind.TheVariants.{Number}
use Rattle.vg_cert.specs.Lines.{or_zero, fault_in}
use Rattle.vg_cert.proofs.NumberLemmas.{time_read}
use Rattle.vg_cert.proofs.line.number_of.Goals as goal

pub returns-in-Ok : goal.returns-in-Ok
returns-in-Ok c =
    let e = sym c.read_whole.ensures ∙ c.in-Ok.is in
    let f : SFits w128 c.in-Ok.number = search rules in
    rw (to_z-of_z w128 c.in-Ok.number f) (ap (λ r. option_map (λ x. Number x) (fault_in r)) e, (sym (ap or_zero e), time_read c.args.word.now c.in-Ok.number e))
