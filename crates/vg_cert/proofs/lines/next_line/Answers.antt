use Rattle.std.proofs.Common.{◌∙◌, sym, ap, subst, drop}
use Rattle.std.specs.List.{position}
use Rattle.vg_scan.specs.Lines.{is_newline}
use Rattle.vg_cert.specs.Readings.{IsNotDue}
use Rattle.vg_cert.proofs.PlaceLemmas.{rest_is, parts_never, taken}
use Rattle.vg_cert.proofs.lines.next_line.Goals as goal

pub returns-in_default-clause-missing : goal.returns-in_default-clause-missing
returns-in_default-clause-missing c = record {
  rest = parts_never (drop c.args.place.now.at c.args.bytes.now) (ap (position is_newline) (sym (rest_is c.args.bytes.now c.args.place.now.at)) ∙ sym c.newline_at.ensures ∙ c.in_default.is);
  told = subst (λ left. IsNotDue left c.args.place.now.count c.not_due.result) (rest_is c.args.bytes.now c.args.place.now.at) c.not_due.ensures;
}

pub returns-clause-taken : goal.returns-clause-taken
returns-clause-taken c =
    taken c.args.bytes.now _ c.args.place.now.at c.args.place.now.count c.in-Some.end (rest_is c.args.bytes.now c.args.place.now.at) c.requires
    (sym c.newline_at.ensures ∙ c.in-Some.is)
