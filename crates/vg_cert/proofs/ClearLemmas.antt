-- Lines without a fault, one after another.
use Rattle.std.proofs.Common.{◌≡◌, ℕ, zero, suc, ◌<◌, cond, List, [], ◌∷◌, ◌++◌, length, get_or, refl, ap, ◌∙◌, arith, Option, Some, None}
use Rattle.std.specs.Prelude.{⊤}
use Rattle.std.proofs.lemmas.List.{get_or_past}
use Rattle.elmore.specs.declared.problem.Problem.{Problem}
use Rattle.vg_scan.specs.declared.name.NetNames.{NetNames}
use Rattle.vg_cert.specs.Lines.{Line, parts, lines, line_at}
use Rattle.vg_cert.specs.Roles.{Role, over, goes_on, roles, role_at, line_before}
use Rattle.vg_cert.specs.Faults.{fault_of, own_fault, IsFaultless}
use Rattle.vg_cert.proofs.ReadLemmas.{last_ends}
use Rattle.vg_cert.proofs.EndLemmas.{lines_faultless}
use Rattle.vg_cert.proofs.TextLemmas.{no_line}

-- the line before, if there is one, and its role
abbrev pub Before : Type 0
Before = Option (Role × Line)

abbrev pub line_after : Before → Role → Option Line
line_after None role = None
line_after (Some x) role = cond (goes_on x.0 role) (Some x.1) None

-- a line for each role, each without a fault after the one before
abbrev pub AreClear : NetNames → Line → Before → List Role → List Line → Type 0
AreClear names head last [] [] = ⊤
AreClear names head last [] (l ∷ ls) = ⊥
AreClear names head last (r ∷ rs) [] = ⊥
AreClear names head last (r ∷ rs) (l ∷ ls) = (fault_of names head r (line_after last r) l ≡ None) × AreClear names head (Some (r, l)) rs ls

abbrev before_at : Before → List Role → List Line → ℕ → Role → Option Line
before_at last rs ls zero role = line_after last role
before_at last rs ls (suc i) role = cond (goes_on (get_or rs i over) role) (Some (line_at ls i)) None

clear_at : (names : NetNames) (head : Line) (last : Before) (rs : List Role) (ls more : List Line) → AreClear names head last rs ls → (i : ℕ) → i < length ls
    → fault_of names head (get_or rs i over) (before_at last rs (ls ++ more) i (get_or rs i over)) (line_at (ls ++ more) i) ≡ None
clear_at names head last [] [] more h i l = absurd (omega (arith, l))
clear_at names head last [] (x ∷ ls) more h i l = absurd h
clear_at names head last (r ∷ rs) [] more h i l = absurd h
clear_at names head last (r ∷ rs) (x ∷ ls) more h zero l = h.0
clear_at names head last (r ∷ rs) (x ∷ ls) more h (suc zero) l = clear_at names head (Some (r, x)) rs ls more h.1 zero (omega (arith, l))
clear_at names head last (r ∷ rs) (x ∷ ls) more h (suc (suc i)) l = clear_at names head (Some (r, x)) rs ls more h.1 (suc i) (omega (arith, l))

clear_each : (names : NetNames) (head : Line) (last : Before) (rs : List Role) (ls : List Line) → AreClear names head last rs ls → length rs ≡ length ls
clear_each names head last [] [] h = refl
clear_each names head last [] (x ∷ ls) h = absurd h
clear_each names head last (r ∷ rs) [] h = absurd h
clear_each names head last (r ∷ rs) (x ∷ ls) h = ap suc (clear_each names head (Some (r, x)) rs ls h.1)

before_is_at : (p : Problem) (ls : List Line) (i : ℕ) (role : Role) → line_before p ls i role ≡ before_at None (roles p ls) ls i role
before_is_at p ls zero role = refl
before_is_at p ls (suc i) role = refl

-- a text of lines without a fault has none
module _ (p : Problem) (names : NetNames) (text : List ℕ) (ls : List Line) (same : lines text ≡ ls ++ no_line) (count : length (parts text) ≡ suc (length ls)) (last : get_or (parts text) (length ls) [] ≡ [])
    (clear : AreClear names (line_at (ls ++ no_line) 2) None (roles p (ls ++ no_line)) ls) where
  line_clear : (i : ℕ) → i < length ls → own_fault p names (lines text) i ≡ None
  line_clear i l =
      ap (λ all. own_fault p names all i) same
      ∙ ap (λ o. fault_of names (line_at (ls ++ no_line) 2) (role_at p (ls ++ no_line) i) o (line_at (ls ++ no_line) i)) (before_is_at p (ls ++ no_line) i (role_at p (ls ++ no_line) i))
      ∙ clear_at names (line_at (ls ++ no_line) 2) None (roles p (ls ++ no_line)) ls no_line clear i l

  over_then : role_at p (lines text) (length ls) ≡ over
  over_then =
      ap (λ all. role_at p all (length ls)) same
      ∙ get_or_past (roles p (ls ++ no_line)) (length ls) over (omega (arith, clear_each names (line_at (ls ++ no_line) 2) None (roles p (ls ++ no_line)) ls clear))

  pub text_clear : IsFaultless p names text
  text_clear = lines_faultless p names text (length ls) count (last_ends text [] (length ls) count last) over_then line_clear
