-- The head of a certificate, and the cells after it.
use Rattle.std.proofs.Common.{◌≡◌, ℕ, ◌<◌, ◌||◌, Bool, true, false, cond, not, List, drop, refl, sym, ap, ◌∙◌, subst, arith, Option, Some, None, ℤ}
use Rattle.std.specs.Option.{option_or}
use Rattle.vg_scan.specs.declared.fault.LineFault.{LineFault}
use Rattle.vg_scan.specs.declared.name.NetNames.{NetNames}
use Rattle.vg_cert.specs.declared.fault.CertKind.{CertKind}
use Rattle.vg_cert.specs.declared.fault.CertKind.TheVariants.{Form}
use Rattle.vg_cert.specs.declared.head.Head.{Head}
use Rattle.vg_cert.specs.declared.place.Place.{Place}
use Rattle.vg_cert.specs.Lines.{Line, number_in, word}
use Rattle.vg_cert.specs.Roles.{at, cells, line_before}
use Rattle.vg_cert.specs.Faults.{fault_of, own_fault, has_shape, is_none, is_over_role, when}
use Rattle.vg_cert.specs.Readings.{Reading, IsUpTo, IsNotDue, IsHead, AreCellsDue, IsFaultOrMemory, line_of, lines_of, role_of}
use Rattle.vg_cert.proofs.ReadLemmas.{own_role, not_due}
use Rattle.vg_cert.proofs.SectionLemmas.{role_3, cell_role, before_is, no_more}

form_any : (b : Bool) (rest : Option CertKind) → option_or (when (not b || true) Form) rest ≡ Some Form
form_any true rest = refl
form_any false rest = refl

needless_form : (names : NetNames) (head : Line) (before : Option Line) (line : Line) → is_none head ≡ true → fault_of names head at before line ≡ Some Form
needless_form names head before line e = rw e (form_any (has_shape at line) _)

needless_own : (r : Reading) (n : ℕ) → role_of r n ≡ at → is_none (line_of r 2) ≡ true → own_fault r.problem r.names (lines_of r) n ≡ Some Form
needless_own r n e s = own_role r n at e ∙ needless_form r.names (line_of r 2) (line_before r.problem (lines_of r) n at) (line_of r n) s

none_by : (b : Bool) (z : ℤ) → cond b None (Some z) ≡ None → b ≡ true
none_by true z e = refl
none_by false z e = absurd (cc)

is_no_slack : (r : Reading) (head : Head) → IsHead r head → head.slack ≡ None → is_none (line_of r 2) ≡ true
is_no_slack r head h e = none_by (is_none (line_of r 2)) (number_in (word (line_of r 2) 1)) (sym h.slack ∙ e)

-- a cell is announced where there is no slack
pub needless : (r : Reading) (head : Head) (place : Place) (left : List ℕ) (fault : LineFault CertKind) → IsHead r head → head.slack ≡ None → 0 < head.cells → place.count ≡ 4 → IsUpTo r place → left ≡ drop place.at r.text
    → IsNotDue left place.count fault → IsFaultOrMemory r fault
needless r head place left fault h e l n up is t =
    let role : role_of r place.count ≡ at = ap (role_of r) (sym (no_more place.count)) ∙ cell_role r place.count 0 n (omega (arith, l, h.cells)) in
    not_due r place fault up (ap is_over_role role) (λ _. needless_own r place.count role (is_no_slack r head h e)) (subst (λ x. IsNotDue x place.count fault) is t)

some_slack : (b : Bool) (slack : Option ℤ) (z : ℤ) (n : ℕ) → slack ≡ cond b None (Some z) → (slack ≡ None → n ≡ 0) → 0 < n → b ≡ false
some_slack true slack z n e h l = absurd (omega (arith, l, h e))
some_slack false slack z n e h l = refl

-- the cells are due
pub cells_due : (r : Reading) (head : Head) (n : ℕ) → IsHead r head → n ≡ 4 → (head.slack ≡ None → head.cells ≡ 0) → AreCellsDue r n head.cells
cells_due r head n h e s = record {
  due = λ k l. cell_role r n k e (omega (arith, l, h.cells));
  first = before_is r 3 n cells at (omega (arith, e)) (role_3 r 3 refl) refl;
  slack = λ l. some_slack (is_none (line_of r 2)) head.slack (number_in (word (line_of r 2) 1)) head.cells h.slack s l;
}
