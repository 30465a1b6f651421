use Rattle.std.proofs.Common.{◌≡◌, ℕ, ◌+◌, ◌++◌, List, length, ap, arith, length-append}
use Rattle.ver_patch.specs.NewCells.{cell_of}
use Rattle.ver_patch.proofs.PlaceLemmas.{is_placed}
use Rattle.ver_patch.proofs.cells.put_texts.Goals as goal

-- where a text ends that is put last
ends : (old new text : List ℕ) (from to : ℕ) → from ≡ length old → new ≡ old ++ text → to ≡ length new → to ≡ from + length text
ends old new text from to begin is end = omega (arith, ap length is, length-append old text)

pub returns-clause-places : goal.returns-clause-places
returns-clause-places c =
    let cell = c.args.cell.now in
    let begin : c.len-begin.result ≡ length c.args.to.now.items = omega (arith, c.len-begin.ensures, c.args.to.now.ok) in
    is_placed c.args.to.now.items (cell_of cell) _ begin
    (ends c.args.to.now.items c.put_text.new.to.items cell.cell.now c.len-begin.result c.in_ok-name.name begin c.in_ok-name.ensures.last c.in_ok-name.ensures.end)
    (ends c.put_text.new.to.items c.put_text-2.new.to.items cell.name.now c.in_ok-name.name c.in_ok-input.input c.in_ok-name.ensures.end c.in_ok-input.ensures.last c.in_ok-input.ensures.end)
    (ends c.put_text-2.new.to.items c.put_text-3.new.to.items cell.input.now c.in_ok-input.input c.in_ok-output.output c.in_ok-input.ensures.end c.in_ok-output.ensures.last c.in_ok-output.ensures.end)
    (ends c.put_text-3.new.to.items c.put_text-4.new.to.items cell.output.now c.in_ok-output.output c.in_ok-from.from c.in_ok-output.ensures.end c.in_ok-from.ensures.last c.in_ok-from.ensures.end)
    (ends c.put_text-4.new.to.items c.put_text-5.new.to.items cell.from.now c.in_ok-from.from c.in_ok-to_net.to_net c.in_ok-from.ensures.end c.in_ok-to_net.ensures.last c.in_ok-to_net.ensures.end)
    (ends c.put_text-5.new.to.items c.put_text-6.new.to.items cell.to.now c.in_ok-to_net.to_net c.in_ok-end.end c.in_ok-to_net.ensures.end c.in_ok-end.ensures.last c.in_ok-end.ensures.end)
