use Rattle.std.proofs.Common.{refl, sym, ap, ◌∙◌}
use Rattle.ver_file.specs.Firsts.{first_of, port_flaws_among}
use Rattle.ver_file.proofs.FirstLemmas.{next_row, no_row, ports_add}
use Rattle.ver_file.proofs.check.port_flaws.Goals as goal

pub row-preserved : goal.row-preserved
row-preserved g c =
    let flaws = port_flaws_among c.args.scope.now.text.now in
    record {
      left =
          ap (λ first. first_of first (flaws (g.T.Stretch.tokens c.next.new.self))) c.port_flaw-first.ensures
          ∙ sym (next_row flaws (ports_add c.args.scope.now.text.now) c.row.first (g.T.Stretch.tokens c.row.left) (g.T.Stretch.tokens c.next.new.self) c.in-Some.row c.in-Some.ensures)
          ∙ c.row.invariant.left;
    }

pub returns : goal.returns
returns g c =
    sym (no_row (port_flaws_among c.args.scope.now.text.now) refl c.row.first (g.T.Stretch.tokens c.row.left) c.in_default.ensures.0) ∙ c.row.invariant.left
