use Rattle.vg_scan.specs.Comments.{without_comments}
use Rattle.vg_scan.specs.declared.comments.Comments.TheVariants.{Spef}
use Rattle.spef_file.specs.Files.{file_lines}
use Rattle.spef_file.proofs.SpanLemmas.{section_at}
use Rattle.spef_file.specs.IndexFiles.{file_of}
use Rattle.spef_file.proofs.NamesOfLemmas.{names_printable}
use Rattle.spef_net.proofs.PartLemmas.{net_at_place, fault_at_place, name_printable}
use Rattle.spef_net.proofs.section.read_net.Goals as goal

pub read_part-requires : goal.read_part-requires
read_part-requires c =
    let text = c.args.text.now in
    let names = names_printable text (file_of c.args.index.now) c.requires.index.said in
    record {
      section = section_at (without_comments Spef text) (file_lines text) c.args.index.now.sections c.args.at c.get-section.result c.requires.index.spans c.get-section.ensures;
      named = name_printable c.args.index.now.sections c.args.at c.name-name.result.now names.nets c.name-name.ensures;
      mapped = names.map;
    }

pub returns-clause-net : goal.returns-clause-net
returns-clause-net c =
    net_at_place c.args.text.now (file_of c.args.index.now) c.args.index.now.sections c.args.at c.name-name.result.now c.get-section.result c.read_part.result c.name-name.ensures c.get-section.ensures c.read_part.ensures.net

pub returns-clause-fault : goal.returns-clause-fault
returns-clause-fault c =
    fault_at_place c.args.text.now (file_of c.args.index.now) c.args.index.now.sections c.args.at c.name-name.result.now c.get-section.result c.read_part.result c.name-name.ensures c.get-section.ensures c.read_part.ensures.fault
