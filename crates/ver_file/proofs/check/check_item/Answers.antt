use Rattle.std.proofs.Common.{◌≡◌, flat_map, sym, ap, ◌∙◌}
use Rattle.ver_items.specs.Declarations.{declared_of}
use Rattle.ver_file.specs.Firsts.{declared_among, first_of}
use Rattle.ver_file.specs.Flaws.{assignment_flaws, connection_flaws, direction_flaws, port_flaws, ports_in, range_flaws}
use Rattle.ver_items.specs.Sections.{instances_in}
use Rattle.ver_file.proofs.FirstLemmas.{item_grammar}
use Rattle.ver_file.proofs.OtherLemmas.{other_declared, other_ports, other_selects}
use Rattle.ver_file.proofs.SectionInLemmas.{declared_item}
use Rattle.ver_file.proofs.check.check_item.Goals as goal

pub returns-clause-clash : goal.returns-clause-clash
returns-clause-clash g c =
    let text = c.args.scope.now.text.now in
    c.in_ok-firsts.ensures.clash
    ∙ c.check_declarations-firsts.ensures.clash
    ∙ ap (λ ds. first_of c.args.firsts.clash (flat_map (range_flaws (declared_of text)) ds))
    (other_declared text (g.T.Stretch.tokens c.args.rows.now) (g.T.Stretch.tokens c.args.others.now) c.requires.others ∙ sym (declared_item text (g.T.Stretch.tokens c.args.rows.now)))

pub returns-clause-grammar : goal.returns-clause-grammar
returns-clause-grammar g c =
    let text = c.args.scope.now.text.now in
    let rows = (g.T.Stretch.tokens c.args.rows.now) in
    let item = c.of-item.result in
    let before = c.args.firsts.grammar in
    let directions = first_of before (flat_map (direction_flaws (declared_of text)) (declared_among text rows)) in
    let ports = first_of directions (flat_map (port_flaws text) (ports_in item)) in
    let declared : c.check_declarations-firsts.result.grammar ≡ directions =
    c.check_declarations-firsts.ensures.grammar
    ∙ ap (λ ds. first_of before (flat_map (direction_flaws (declared_of text)) ds)) (other_declared text rows (g.T.Stretch.tokens c.args.others.now) c.requires.others) in
    let listed : c.port_flaws-firsts.result ≡ ports =
    c.port_flaws-firsts.ensures
    ∙ (λ i. first_of (declared i) (other_ports text rows (g.T.Stretch.tokens c.args.others.now) (g.T.Stretch.tokens c.after_first-after.result) item c.requires.others c.after_first-after.ensures c.of-item.ensures i)) in
    let selected : c.select_flaws-firsts.result ≡ first_of ports (assignment_flaws text item) =
    c.select_flaws-firsts.ensures
    ∙ (λ i. first_of (listed i) (other_selects text rows (g.T.Stretch.tokens c.args.others.now) (g.T.Stretch.tokens c.after_first-after.result) item c.requires.others c.after_first-after.ensures c.of-item.ensures i)) in
    c.in_ok-firsts.ensures.grammar
    ∙ ap (λ first. first_of first (flat_map (connection_flaws text) (instances_in item))) selected
    ∙ item_grammar text rows item before c.of-item.ensures
