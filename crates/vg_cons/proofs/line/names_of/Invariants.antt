use Rattle.std.proofs.Common.{◌≡◌, take}
use Rattle.vg_scan.specs.Spans.{words_at}
use Rattle.vg_cons.proofs.line.names_of.Given as goal

abbrev pub invariant-word : goal.invariant-word
invariant-word l = l.names.items ≡ words_at l.bytes (take l.word-index l.words)
