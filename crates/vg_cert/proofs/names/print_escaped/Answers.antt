use Rattle.std.proofs.Common.{◌∙◌, ◌++◌, sym, ap, rules, refl}
use Rattle.std.proofs.lemmas.List.{append-nil}
use Rattle.vg_cert.proofs.NameLemmas.{escaped_none, escaped-more}
use Rattle.vg_cert.proofs.names.print_escaped.Goals as goal

pub byte-init : goal.byte-init
byte-init c = sym (ap (λ x. c.args.to.now.items ++ x) escaped_none ∙ append-nil c.args.to.now.items)

pub byte-preserved : goal.byte-preserved
byte-preserved c =
    escaped-more c.args.name.now c.args.to.now.items c.byte.to.items c.print_byte.new.to.items c.byte.byte-index _ (search rules) refl c.byte.invariant (search rules)
