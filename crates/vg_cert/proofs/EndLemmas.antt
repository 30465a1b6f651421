-- The end of a text.
use Rattle.std.proofs.Common.{◌≡◌, ◌≢◌, ℕ, zero, suc, ◌<◌, ◌≤◌, ◌==◌, ◌&&◌, ◌||◌, not, Bool, true, false, List, [], ◌∷◌, length, drop, refl, sym, ap, ◌∙◌, arith, Option, Some, None}
use Rattle.std.proofs.lemmas.Bool.Decides.{nat_tests}
use Rattle.std.proofs.lemmas.List.{length-drop}
use Rattle.elmore.specs.declared.problem.Problem.{Problem}
use Rattle.vg_scan.specs.Faults.{IsClear}
use Rattle.vg_scan.specs.declared.fault.LineFault.{LineFault}
use Rattle.vg_scan.specs.declared.name.NetNames.{NetNames}
use Rattle.vg_cert.specs.declared.fault.CertKind.TheVariants.{Form}
use Rattle.vg_cert.specs.declared.fault.CertKind.{CertKind}
use Rattle.vg_cert.specs.declared.place.Place.{Place}
use Rattle.vg_cert.specs.Lines.{Line, parts, lines, is_empty}
use Rattle.vg_cert.specs.Roles.{heading, over, roles, role_at, line_before}
use Rattle.vg_cert.specs.Faults.{fault_of, own_fault, fault_at, ends_at, is_cut_short, is_over_role, when, IsFaultless}
use Rattle.vg_cert.specs.Readings.{Reading, IsUpTo, IsFaultOrMemory, line_of, lines_of, role_of}
use Rattle.vg_cert.proofs.ReadLemmas.{within_parts, own_role, ends_is, ends_last, rest_line, uncut_line, followed, stands}
use Rattle.vg_cert.proofs.WordLemmas.{not_empty}

over_form : (r : Reading) (before : Option Line) (line : Line) → fault_of r.names (line_of r 2) over before line ≡ Some Form
over_form r before line = refl

over_line : (r : Reading) (n : ℕ) → role_of r n ≡ over → own_fault r.problem r.names (lines_of r) n ≡ Some Form
over_line r n e = own_role r n over e ∙ over_form r (line_before r.problem (lines_of r) n over) (line_of r n)

-- something stands after the last line
pub further : (r : Reading) (place : Place) (fault : LineFault CertKind) → IsUpTo r place → role_of r place.count ≡ over → place.at < length r.text → fault.kind ≡ Form → fault.line ≡ suc place.count → IsFaultOrMemory r fault
further r place fault up is l k n =
    stands r place fault up (ends_is r place up ∙ not_empty (drop place.at r.text) (omega (arith, l, length-drop place.at r.text))) (λ _. over_line r place.count is) k n

-- nothing stands after the last line

nothing : (xs : List ℕ) → length xs ≡ 0 → xs ≡ []
nothing [] e = refl
nothing (x ∷ xs) e = absurd (omega (arith, e))

and_false : (b : Bool) → (b && false) ≡ false
and_false true = refl
and_false false = refl

begins : (p : Problem) (ls : List Line) → role_at p ls 0 ≡ heading
unfolding roles
begins p ls = refl

past_none : (p : Problem) (ls : List Line) (n : ℕ) → role_at p ls n ≡ over → (n == 0) ≡ false
past_none p ls zero e = let clash : heading ≡ over = sym (begins p ls) ∙ e in absurd (cc)
past_none p ls (suc n) e = grind (arith, nat_tests)

module _ (p : Problem) (names : NetNames) (text : List ℕ) (n : ℕ) (count : length (parts text) ≡ suc n) (ends : ends_at text n ≡ true) (is : role_at p (lines text) n ≡ over)
    (clear : IsClear (own_fault p names (lines text)) n) where
  uncut : (i : ℕ) (last : Bool) → (suc i == n) ≡ last → i < n → is_cut_short p text i ≡ false
  uncut i true e l = ap (λ o. ends_at text (suc i) && not (is_over_role o)) (ap (role_at p (lines text)) (let k : suc i ≡ n = grind (arith, nat_tests) in k) ∙ is) ∙ and_false (ends_at text (suc i))
  uncut i false e l = followed p text i (let k : suc i ≢ n = grind (arith, nat_tests) in omega (arith, k, l, count))

  by_place : (i : ℕ) (last : Bool) → (i == n) ≡ last → i < length (parts text) → fault_at p names text i ≡ None
  by_place i true e l =
      let k : i ≡ n = grind (arith, nat_tests) in
      ap (fault_at p names text) k ∙ rest_line p names text n (omega (arith, count)) ∙ (λ j. when (not (ends j) || past_none p (lines text) n is j) Form)
  by_place i false e l =
      let m : i < n = (let k : i ≢ n = grind (arith, nat_tests) in omega (arith, k, l, count)) in
      uncut_line p names text i (omega (arith, m, count)) (uncut i (suc i == n) refl m) ∙ clear i m

  -- a text of lines without a fault, which ends where no line is due, has none
  pub lines_faultless : IsFaultless p names text
  lines_faultless = λ i l. by_place i (i == n) refl l

pub all_clear : (r : Reading) (place : Place) → IsUpTo r place → role_of r place.count ≡ over → length r.text ≤ place.at → IsFaultless r.problem r.names r.text
all_clear r place up is l =
    let none : drop place.at r.text ≡ [] = nothing (drop place.at r.text) (omega (arith, l, length-drop place.at r.text)) in
    let ends : ends_at r.text place.count ≡ true = ends_is r place up ∙ ap is_empty none in
    lines_faultless r.problem r.names r.text place.count (omega (arith, within_parts r place up, ends_last r.text place.count ends)) ends is up.clear
