-- A text denotes one list of widths, or it has a fault.
use Rattle.std.proofs.Common.{◌≡◌, inl, inr, ℕ, ◌-◌, List, [], ◌∷◌, map, refl, sym, ap, ◌∙◌, arith, Some, None, Result, Ok, Err}
use Rattle.vg_scan.specs.Lines.{lines_of}
use Rattle.vg_width.specs.Texts.{AreLinesOf, IsFaultIn}
use Rattle.vg_width.specs.declared.fault.WidthKind.{WidthKind}
use Rattle.vg_scan.specs.declared.fault.LineFault.{LineFault}
use Rattle.wire_widths.specs.declared.width.Width.{Width}
use Rattle.vg_answer.specs.Faults.{DenotesWidths, IsWidthsFault}

-- the widths among results
abbrev oks : List (Result Width WidthKind) → List Width
oks [] = []
oks (Ok width ∷ rows) = width ∷ oks rows
oks (Err kind ∷ rows) = oks rows

all_ok : (rows : List Width) → oks (map Ok rows) ≡ rows
all_ok [] = refl
all_ok (width ∷ rows) = ap (λ (rest : List Width). width ∷ rest) (all_ok rows)

pub one_widths : (text : List ℕ) (a b : List Width) → DenotesWidths text a → DenotesWidths text b → a ≡ b
one_widths text a b x y = sym (all_ok a) ∙ ap oks (sym x.widths ∙ y.widths) ∙ all_ok b

apart : (lines : List (List (List ℕ))) (rows : List Width) (fault : LineFault WidthKind) → AreLinesOf lines rows → IsFaultIn lines fault → ⊥
apart lines rows fault good (inl first) =
    let none : None ≡ Some fault.kind = sym (good.clear (fault.line - 1) (omega (arith, first.counted, first.within))) ∙ first.here in
    cc
apart lines rows fault good (inr short) =
    let none : None ≡ Some fault.kind = sym good.whole ∙ short.kind in
    cc

pub widths_not_faulty : (text : List ℕ) (rows : List Width) (line : List ℕ) → DenotesWidths text rows → IsWidthsFault text line → ⊥
widths_not_faulty text rows line good f = apart (lines_of text) rows f.fault good f.found
