use Rattle.std.proofs.Common.{◌∙◌, ap, length, sym}
use Rattle.std.specs.Prelude.{Vec}
use Rattle.std.specs.declared.alloc.Global.{Global}
use Rattle.vg_cert.specs.declared.certificate.NodeLists.{NodeLists}
use Rattle.vg_cert.specs.declared.growing.Growing.{Growing}
use Rattle.vg_cert.specs.Written.{text_in, text_of}
use Rattle.vg_cert.proofs.FitLemmas.{live_each}
use Rattle.vg_cert.proofs.WriteLemmas.{all_made, grown, whole_text}
use Rattle.vg_cert.proofs.write.take_text.Goals as goal

pub write_lists-requires-clause-nodes : goal.write_lists-requires-clause-nodes
write_lists-requires-clause-nodes c = ap length c.as_slice.ensures ∙ live_each c.args.problem.now ∙ sym c.requires.names.nodes_each

pub write_lists-requires-clause-each : goal.write_lists-requires-clause-each
write_lists-requires-clause-each c =
    ap (λ (v : Vec NodeLists Global). length v.items) c.replace-lists.ensures.value ∙ c.requires.fits.one_each ∙ sym (ap length c.as_slice.ensures ∙ live_each c.args.problem.now)

pub returns-clause-text : goal.returns-clause-text
returns-clause-text c =
    let lists = c.replace-lists.ensures.value in
    let begun : Growing = c.in_ok-to.to in
    let ended : Growing = c.write_lists.new.to in
    let made : Growing = record { closed = ended.closed; last = c.write_bytes.new.to; alloc = ended.alloc } in
    let whole =
    whole_text c.args.problem.now c.args.names.now c.args.cert.now c.as_slice-cells.result.now c.as_slice.result.now c.replace-lists.result.items (text_in begun)
    (text_in (record { closed = begun.closed; last = c.write_head.new.to; alloc = begun.alloc })) (text_in (record { closed = begun.closed; last = c.write_cell_count.new.to; alloc = begun.alloc })) (text_in c.write_cells.new.to) (text_in ended) (text_in made)
    c.as_slice-cells.ensures c.as_slice.ensures (ap (λ (v : Vec NodeLists Global). v.items) lists)
    (grown begun.closed.items begun.last.items c.write_head.new.to.items _ c.in_ok-write_head.ensures)
    (grown begun.closed.items c.write_head.new.to.items c.write_cell_count.new.to.items _ c.in_ok-write_cell_count.ensures)
    c.in_ok-write_cells.ensures c.in_ok-write_lists.ensures
    (grown ended.closed.items ended.last.items c.write_bytes.new.to.items _ c.in_ok-write_bytes.ensures) in
    all_made (text_of c.args.problem.now c.args.names.now c.args.cert.now) (text_in made) (text_in begun) c.into_pieces.result c.in_ok-to.ensures whole c.into_pieces.ensures
