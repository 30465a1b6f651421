use Rattle.std.proofs.Common.{◌∙◌, sym, ap, get_or}
use Rattle.std.specs.List.{fold}
use Rattle.std.proofs.lemmas.List.Sums.{fold_more}
use Rattle.std.proofs.lemmas.List.{take_all}
use Rattle.name_tables.specs.Hashes.{byte_with}
use Rattle.name_tables.proofs.hash.word_of.Goals as goal

pub byte-preserved : goal.byte-preserved
byte-preserved c =
    let more = fold_more byte_with 0 c.args.bytes.now c.byte.byte-index 0 c.byte-test.true in
    ap (λ b. byte_with c.byte.word b) c.from.ensures ∙ ap (λ w. byte_with w (get_or c.args.bytes.now c.byte.byte-index 0)) c.byte.invariant ∙ sym more

pub returns : goal.returns
returns c = c.byte.invariant ∙ ap (fold byte_with 0) (take_all c.byte.byte-index c.args.bytes.now c.byte-test.false)
