use Rattle.std.proofs.Common.{◌≡◌, length, ap, arith, subst, sym}
use Rattle.vg_patch.specs.Edits.{Rise, patched}
use Rattle.ver_patch.specs.Orders.{rewires_at}
use Rattle.ver_patch.specs.Patches.{edits_of, inserted}
use Rattle.ver_patch.specs.Texts.{cell_texts, wire_texts}
use Rattle.ver_patch.proofs.OrderLemmas.{pins_rise}
use Rattle.ver_patch.proofs.RiseLemmas.{all_edits_are, all_rewires_rise, end_within, first_edits_rise, rise_push}
use Rattle.ver_patch.proofs.text.patch.Goals as goal

pub put_rewires-requires-clause-rise : goal.put_rewires-requires-clause-rise
put_rewires-requires-clause-rise c =
    let m = c.args.netlist.now in
    let rewires = c.args.rewires.now in
    first_edits_rise m rewires c.in_ok-order.order.items c.deref.result.now (wire_texts c.args.wires.now) c.new-edits.result c.put_wires.new.edits
    c.new-edits.ensures c.in_ok-put_wires.ensures c.deref.ensures.value
    (all_rewires_rise c.requires.read.0 m rewires c.in_ok-order.order.items c.spans_rise.ensures.stand c.spans_rise.ensures.rise c.spans_rise.ensures.head
    c.requires.read.1 c.is_sound.ensures c.requires.rewires c.in_ok-order.ensures)

pub put_cells-requires : goal.put_cells-requires
put_cells-requires c = end_within c.put_rewires.new.edits 0 c.args.netlist.now.end_at c.in_ok-put_rewires.ensures.rise

pub returns : goal.returns
returns c =
    let m = c.args.netlist.now in
    let rewires = c.args.rewires.now in
    let order = c.in_ok-order.order.items in
    let placed = c.in_ok-order.ensures in
    let edits : c.put_cells.new.edits ≡ edits_of m (rewires_at rewires order) c.args.cells.now c.args.wires.now =
    all_edits_are m rewires order c.deref.result.now c.args.cells.now c.args.wires.now c.new-edits.result c.put_wires.new.edits
    c.put_rewires.new.edits c.put_cells.new.edits c.new-edits.ensures c.in_ok-put_wires.ensures c.deref.ensures.value
    c.in_ok-put_rewires.ensures.edits c.in_ok-put_cells.ensures in
    record {
      fit = λ text read.
          let ends = c.spans_rise.ensures.head text m read in
          subst (Rise 0 (length text)) (sym c.in_ok-put_cells.ensures)
          (rise_push c.put_rewires.new.edits (inserted m.end_at (cell_texts c.args.cells.now)) 0 m.end_at (length text) c.in_ok-put_rewires.ensures.rise
          (omega arith) (omega arith) ends.within);
      make = λ text read. record {
        ordered = rewires_at rewires order;
        same = placed.same;
        rising = pins_rise m rewires (rewires_at rewires order) c.is_sound.ensures c.requires.rewires placed.same placed.rising;
        is = ap (patched text) edits;
      };
    }
