use Rattle.std.proofs.Common.{◌∙◌, sym, ap, get_or}
use Rattle.std.specs.List.{fold}
use Rattle.std.proofs.lemmas.List.Sums.{fold_more}
use Rattle.std.proofs.lemmas.List.{take_all}
use Rattle.name_tables.specs.Hashes.{number_with}
use Rattle.name_tables.proofs.hash.number_hash.Goals as goal

pub digit-preserved : goal.digit-preserved
digit-preserved c =
    let more = fold_more number_with 0 c.args.digits.now c.digit.digit-index 0 c.digit-test.true in
    ap (λ b. number_with c.digit.hash b) c.from.ensures ∙ ap (λ h. number_with h (get_or c.args.digits.now c.digit.digit-index 0)) c.digit.invariant ∙ sym more

pub returns : goal.returns
returns c = c.digit.invariant ∙ ap (fold number_with 0) (take_all c.digit.digit-index c.args.digits.now c.digit-test.false)
