use Rattle.std.proofs.Common.{◌≡◌, ap}
use Rattle.std.proofs.lemmas.Option.{MatchOption-at_none, MatchOption-at_some}
use Rattle.lib_cells.specs.Cells.{pins_of}
use Rattle.lib_linear.specs.Repeaters.{AreTwoPins}
use Rattle.lib_linear.proofs.RepeaterLemmas.{same_pins}
use Rattle.lib_linear.proofs.repeater.parts_of.Goals as goal

pub returns-in_err-input : goal.returns-in_err-input
returns-in_err-input c =
    rw c.from_residual.ensures
    (λ r h.
    let pins : c.args.body.now.pins ≡ pins_of c.args.units c.args.cell.now = ap (λ body. body.pins) c.requires.body in
    MatchOption-at_none _ _ c.in_err-input.was c.two_pins.ensures h.input h.output (rw (← pins) at h.parts.pins))

pub returns-in_err-rep : goal.returns-in_err-rep
returns-in_err-rep c =
    rw c.from_residual-in_err-rep.ensures
    (λ r h.
    let pins : c.args.body.now.pins ≡ pins_of c.args.units c.args.cell.now = ap (λ body. body.pins) c.requires.body in
    let two : AreTwoPins c.args.body.now.pins c.in_ok-input.input c.in_ok-input.output =
    MatchOption-at_some _ _ (c.in_ok-input.input, c.in_ok-input.output) c.in_ok-input.was c.two_pins.ensures in
    let (x, y) = same_pins c.args.body.now.pins h.input h.output c.in_ok-input.input c.in_ok-input.output (rw (← pins) at h.parts.pins) two in
    MatchOption-at_none _ _ c.in_err-rep.was c.rep_of.ensures r.rep (rw (x, y) at h.parts.does))
