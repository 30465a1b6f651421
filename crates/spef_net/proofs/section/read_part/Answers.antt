use Rattle.std.proofs.Common.{arith, [], true, false}
use Rattle.std.specs.Str.Lines.{lines}
use Rattle.spef_file.specs.IndexFiles.{file_of}
use Rattle.spef_file.specs.Views.{head_in}
use Rattle.spef_net.specs.Statements.{statements}
use Rattle.spef_net.proofs.InnerLemmas.{lines_few}
use Rattle.spef_net.proofs.PartLemmas.{reduced_statements, read_statements, net_of, fault_of_part}
use Rattle.spef_net.proofs.section.read_part.Goals as goal

pub returns-then-section-clause-net : goal.returns-then-section-clause-net
returns-then-section-clause-net c =
    let text = c.args.text.now in
    let file = file_of c.args.index.now in
    let head = head_in (c.args.name.now, c.args.section) in
    net_of text file head true (statements file (lines [])) c.read_section.result c.if-section.true (reduced_statements text file head c.if-section.true) c.read_section.ensures.faultless c.read_section.ensures.net

pub returns-then-section-clause-fault : goal.returns-then-section-clause-fault
returns-then-section-clause-fault c =
    let text = c.args.text.now in
    let file = file_of c.args.index.now in
    let head = head_in (c.args.name.now, c.args.section) in
    fault_of_part text file head (statements file (lines [])) c.read_section.result (reduced_statements text file head c.if-section.true) c.read_section.ensures.fault

pub read_section-requires-2-clause-count : goal.read_section-requires-2-clause-count
read_section-requires-2-clause-count c = omega (arith, lines_few c.net_lines-lines.result.now, c.net_lines-lines.ensures.length)

pub returns-clause-net : goal.returns-clause-net
returns-clause-net c =
    let text = c.args.text.now in
    let file = file_of c.args.index.now in
    let head = head_in (c.args.name.now, c.args.section) in
    net_of text file head false (statements file (lines c.net_lines-lines.result.now)) c.read_section-2.result c.if-section.false
    (read_statements text c.net_lines-lines.result.now file head c.if-section.false c.net_lines-lines.ensures.lines)
    c.read_section-2.ensures.faultless c.read_section-2.ensures.net

pub returns-clause-fault : goal.returns-clause-fault
returns-clause-fault c =
    let text = c.args.text.now in
    let file = file_of c.args.index.now in
    let head = head_in (c.args.name.now, c.args.section) in
    fault_of_part text file head (statements file (lines c.net_lines-lines.result.now)) c.read_section-2.result
    (read_statements text c.net_lines-lines.result.now file head c.if-section.false c.net_lines-lines.ensures.lines)
    c.read_section-2.ensures.fault
