use Rattle.std.proofs.Common.{◌≡◌, arith, sym, ap, ◌∙◌, true, [], ◌∷◌}
use Rattle.std.specs.Prelude.{codes}
use Rattle.std.specs.Str.{bytes_eq}
use Rattle.std.proofs.lemmas.Slice.Eq.{bytes_eq-Decides}
use Rattle.vg_scan.specs.Lines.{part}
use Rattle.spef_file.specs.Nets.{is_end}
use Rattle.spef_file.proofs.SpanLemmas.{end_solid}
use Rattle.spef_file.proofs.net_end.role_of.Goals as goal

pub returns-then-same : goal.returns-then-same
returns-then-same c =
    let bytes = c.args.bytes.now in
    let from = c.in-Some.span.from in
    let to = c.in-Some.span.to in
    let test : bytes_eq (part bytes from to) (codes "*END") ≡ true = ap (λ w. bytes_eq w (codes "*END")) (sym c.text_at-word.ensures) ∙ sym c.same.ensures ∙ c.if-same.true in
    let word : part bytes from to ≡ codes "*END" = (bytes_eq-Decides (part bytes from to) (codes "*END")).0 test in
    let place = c.in-Some.ensures.place in
    (ap is_end c.in-Some.ensures.word ∙ test, (c.in-Some.ensures.alone ∙ ap (λ w. w ∷ []) word, end_solid bytes from to (omega (arith, place, c.requires)) word, omega (arith, place), omega (arith, place)))
