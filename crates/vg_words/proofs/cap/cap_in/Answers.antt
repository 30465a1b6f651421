use Rattle.std.proofs.Common.{◌∙◌, sym, rules}
use Rattle.std.proofs.lemmas.Int.{to_z-of_z}
use mir.Syntax.{w128}
use mir.Val.{SFits}
use Rattle.vg_words.proofs.CapLemmas.{fault_none, long_none, minus_none, read, small_read}
use Rattle.vg_words.proofs.cap.cap_in.Goals.{then-text-gt18-via-then-text-gt18, then-text-gt18-via-else-text-gt18+then-begins_with_minus}
use Rattle.vg_words.proofs.cap.cap_in.Goals as goal

pub returns-in_default : goal.returns-in_default
returns-in_default c = fault_none c.args.text.now c.in_default.field-0 (sym c.in_default.is ∙ c.read_whole.ensures)

pub returns-then-text-gt18 : goal.returns-then-text-gt18
returns-then-text-gt18 c =
    let text = c.args.text.now in
    elim c.then-text-gt18.branch [
      | then-text-gt18-via-then-text-gt18 w ↦ long_none text w.if-text-gt18.true
      | then-text-gt18-via-else-text-gt18+then-begins_with_minus w ↦
          minus_none text (sym w.begins_with_minus.ensures ∙ w.if-begins_with_minus.true)
    ]

pub overflow_cast-result : goal.overflow_cast-result
overflow_cast-result c =
    let text = c.args.text.now in
    let number = c.in-Ok.number in
    let fits : SFits w128 number = search rules in
    let plain = sym c.begins_with_minus.ensures ∙ c.if-begins_with_minus.false in
    let (n, is, small) = small_read text number (sym c.in-Ok.is ∙ c.read_whole.ensures) c.if-text-gt18.false plain in
    rw (to_z-of_z w128 number fits, is) (search rules)

pub returns : goal.returns
returns c =
    let text = c.args.text.now in
    let number = c.in-Ok.number in
    let fits : SFits w128 number = search rules in
    let plain = sym c.begins_with_minus.ensures ∙ c.if-begins_with_minus.false in
    rw (to_z-of_z w128 number fits) (read text number (sym c.in-Ok.is ∙ c.read_whole.ensures) c.if-text-gt18.false plain)
