use Rattle.std.proofs.Common.{◌≡◌, ◌++◌, take}
use Rattle.std.specs.Prelude.{flat_map}
use Rattle.vg_cert.specs.Written.{line_text, text_in, pair_line}
use Rattle.vg_cert.proofs.write.write_list.Given as goal

abbrev pub invariant-pair : goal.invariant-pair
invariant-pair l = text_in l.to ≡ text_in l.initial.to ++ flat_map (λ x. line_text (pair_line x)) (take l.pair-index l.pairs)
