use Rattle.std.specs.Str.Lines.{lines}
use Rattle.vg_scan.proofs.SolidLemmas.{lines_are_inside}
use Rattle.spef_file.specs.IndexFiles.{file_of}
use Rattle.spef_net.specs.Statements.{statements}
use Rattle.spef_net.proofs.FinishLemmas.{made_net, partial_of, faultless_of}
use Rattle.spef_net.proofs.SizeLemmas.{section_sized}
use Rattle.spef_net.proofs.SoundLemmas.{sound}
use Rattle.spef_net.proofs.finish.read_section.Goals as goal

pub returns-in-Ok-finish-clause-net : goal.returns-in-Ok-finish-clause-net
returns-in-Ok-finish-clause-net c =
    made_net c.args.net.now c.args.reduced (statements (file_of c.args.index.now) (lines c.args.bytes.now)) c.in-Ok-read_lines.builder c.in-Ok-finish.par (partial_of c.args.bytes.now _ _ c.in-Ok.ensures c.in-Ok-read_lines.ensures.builder) c.in-Ok-finish.ensures

pub returns-in-Ok-finish-clause-sized : goal.returns-in-Ok-finish-clause-sized
returns-in-Ok-finish-clause-sized c =
    section_sized c.args.net.now c.args.reduced (file_of c.args.index.now) (lines c.args.bytes.now) c.in-Ok-finish.par c.requires.count
    (made_net c.args.net.now c.args.reduced (statements (file_of c.args.index.now) (lines c.args.bytes.now)) c.in-Ok-read_lines.builder c.in-Ok-finish.par (partial_of c.args.bytes.now _ _ c.in-Ok.ensures c.in-Ok-read_lines.ensures.builder) c.in-Ok-finish.ensures)

pub finish-requires : goal.finish-requires
finish-requires c =
    sound c.args.net.now (file_of c.args.index.now) (lines c.args.bytes.now) c.in-Ok-read_lines.builder (partial_of c.args.bytes.now _ _ c.in-Ok.ensures c.in-Ok-read_lines.ensures.builder)
    (faultless_of c.args.bytes.now _ _ c.in-Ok.ensures c.in-Ok-read_lines.ensures.faultless) c.requires.named c.requires.mapped (lines_are_inside c.args.bytes.now)
