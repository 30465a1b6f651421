use Rattle.std.proofs.Common.{filter, sym, ◌∙◌}
use Rattle.vg_scan.specs.Lines.{is_ink}
use Rattle.lib_cells.proofs.ReduceLemmas.{reduces_where, fits_where, inverts_where}
use Rattle.lib_cells.proofs.function.reduces_to.Goals as goal

pub returns-then-fits-clause-reduces : goal.returns-then-fits-clause-reduces
returns-then-fits-clause-reduces c =
    rw (c.inverts.ensures) (reduces_where c.args.input.now (filter is_ink c.args.text.now) (sym c.fits.ensures ∙ c.if-fits.true))

pub returns-then-fits-clause-only : goal.returns-then-fits-clause-only
returns-then-fits-clause-only c = λ other r. inverts_where c.args.input.now (filter is_ink c.args.text.now) other r ∙ sym c.inverts.ensures

pub returns-else-fits-clause-reduces : goal.returns-else-fits-clause-reduces
returns-else-fits-clause-reduces c = λ inverted r.
    let e = sym (fits_where c.args.input.now (filter is_ink c.args.text.now) inverted r) ∙ sym c.fits.ensures ∙ c.if-fits.false in absurd (cc)
