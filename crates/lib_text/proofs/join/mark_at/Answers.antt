use Rattle.std.proofs.Common.{◌≡◌, ◌-◌, length, length-take, length-drop, arith, sym, ◌∙◌}
use Rattle.vg_scan.specs.Lines.{part}
use Rattle.vg_scan.proofs.LineLemmas.{first_at, first_none}
use Rattle.vg_scan.proofs.PlainLemmas.{none_before}
use Rattle.lib_text.specs.Joined.{is_mark}
use Rattle.lib_text.proofs.join.mark_at.Goals as goal

pub returns-in-None-clause-plain : goal.returns-in-None-clause-plain
returns-in-None-clause-plain c = λ k low high.
    let text = c.args.text.now in
    let rest = part text c.args.at (length text) in
    let len : length rest ≡ length text - c.args.at = simp (length-take, length-drop) (omega arith) in
    let e = first_none is_mark rest (sym c.first_mark.ensures ∙ c.in-None.is) in
    none_before is_mark text c.args.at (length text - c.args.at) (omega (arith, len, e)) k low (omega arith)

pub returns-in-Some-clause-plain : goal.returns-in-Some-clause-plain
returns-in-Some-clause-plain c = λ k low high.
    let text = c.args.text.now in
    let rest = part text c.args.at (length text) in
    let e = first_at is_mark rest c.in-Some.offset (sym c.first_mark.ensures ∙ c.in-Some.is) in
    none_before is_mark text c.args.at c.in-Some.offset (omega (arith, e.0)) k low high
