use Rattle.vg_scan.proofs.SpelledLemmas.{IsReadTo}
use Rattle.vg_scan.proofs.spef.spell_name.Given as goal

abbrev pub invariant-byte : goal.invariant-byte
invariant-byte l = IsReadTo l.chars l.text l.name.items l.byte-index l.escaped
