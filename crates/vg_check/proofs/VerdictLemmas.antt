-- Which verdict is the first.
use Rattle.std.proofs.Common.{◌≡◌, ◌≢◌, ◌↔◌, ℕ, ◌<◌, List, length, get_or, refl, sym, ap, ◌∙◌, subst, arith, ℤ, ◌≤ℤ◌, Option, Some, None, Bool, false, int_lt, inl, inr}
use Rattle.std.proofs.lemmas.Bool.{cases_Bool, false≢true}
use Rattle.std.proofs.lemmas.Int.{ints}
use Rattle.std.specs.Prelude.{IsSome}
use Rattle.elmore.specs.Best.{IsGood}
use Rattle.elmore.specs.Legal.{IsLegal, IsFirstIllegal}
use Rattle.elmore.specs.Placements.{IsSlack, HasPolarity, IsFirstWrong}
use Rattle.elmore.specs.declared.pair.Pair.{Pair}
use Rattle.elmore.specs.declared.problem.Problem.{Problem}
use Rattle.cand_pairs.specs.Candidates.{NodeLists, IsCover, of_lists, at_root}
use Rattle.cand_pairs.specs.Certificates.{IsValid}
use Rattle.vg_cert.specs.Fits.{lists_of}
use Rattle.vg_cert.specs.declared.certificate.Certificate.{Certificate}
use Rattle.vg_cert.specs.declared.certificate.NodeLists.{NodeLists as WrittenLists}
use Rattle.vg_check.proofs.PartLemmas.{lists_here}
use Rattle.vg_check.specs.Verdicts.{Finds, IsBoundOf, IsFault, IsGoodWith, IsLastUncovered, IsOver, IsPlacementSound, IsRootBound, IsVerdict, turn_of}
use Rattle.vg_check.specs.declared.verdict.Verdict.{Verdict}
use Rattle.vg_check.specs.declared.verdict.Verdict.TheVariants.{Yes, Illegal, WrongPolarity, WrongSlack, Uncovered, NotBest}

pub is_written : (slack : Option ℤ) (x : ℤ) → slack ≡ Some x → IsSome slack
is_written slack x e = subst (λ (s : Option ℤ). IsSome s) (sym e) refl

written_is : (slack : Option ℤ) → IsSome slack → (x : ℤ) × (slack ≡ Some x)
written_is (Some x) is = (x, refl)
written_is None is = absurd (false≢true is)

pub one_slack : (p : Problem) (cells : List (Option ℕ)) (x y : ℤ) → IsSlack p cells x → IsSlack p cells y → x ≡ y
one_slack p cells x y is js =
    let (v, sink_v, here_v, x_is) = is.met in
    let (w, sink_w, here_w, y_is) = js.met in
    omega (arith, ints, x_is, y_is, is.least w sink_w here_w, js.least v sink_v here_v)

pub one_bound : (p : Problem) (lists : NodeLists) (x y : ℤ) → IsRootBound p (at_root (of_lists lists)) x
    → IsRootBound p (at_root (of_lists lists)) y → x ≡ y
one_bound p lists x y is js =
    let (a, a_in, a_drives, x_is) = is.met in
    let (b, b_in, b_drives, y_is) = js.met in
    omega (arith, ints, x_is, y_is, is.bound b b_in b_drives, js.bound a a_in a_drives)

-- A SOUND PLACEMENT has no fault
not_illegal : (p : Problem) (cells : List (Option ℕ)) (v : ℕ) → IsLegal p cells → IsFirstIllegal p cells v → ⊥
not_illegal p cells v legal is = is.illegal (legal v)

not_wrong : (p : Problem) (cells : List (Option ℕ)) (w : ℕ) → ((w : ℕ) → HasPolarity p cells w) → IsFirstWrong p cells w → ⊥
not_wrong p cells w wanted is = let (sink, there, other) = is.wrong in other (wanted w sink there)

placement_sound : (p : Problem) (cert : Certificate) → IsPlacementSound p cert → (other : Verdict) → turn_of other < 3 → Finds p cert other → ⊥
placement_sound p cert sound (Illegal v) low (written, is) =
    let (x, e) = written_is cert.slack written in not_illegal p cert.placement.cells v (sound x e).good.legal is
placement_sound p cert sound (WrongPolarity w) low (written, is) =
    let (x, e) = written_is cert.slack written in not_wrong p cert.placement.cells w (sound x e).good.wanted is
placement_sound p cert sound (WrongSlack written real) low (e, is, other) =
    other (one_slack p cert.placement.cells written real (sound written e).slack is)
placement_sound p cert sound (Uncovered v) low found = absurd (omega arith)
placement_sound p cert sound (NotBest written bound) low found = absurd (omega arith)
placement_sound p cert sound Yes low found = absurd (omega arith)

-- THE FIRST FAULT
module _ (p : Problem) (cert : Certificate) where
  pub illegal_first : (x : ℤ) (v : ℕ) → cert.slack ≡ Some x → IsFirstIllegal p cert.placement.cells v → IsFault p cert (Illegal v)
  illegal_first x v e is = (record { found = (is_written cert.slack x e, is); first = λ other low found. absurd (omega arith) }, λ same. absurd (cc))

  pub wrong_first : (x : ℤ) (w : ℕ) → cert.slack ≡ Some x → IsLegal p cert.placement.cells → IsFirstWrong p cert.placement.cells w
      → IsFault p cert (WrongPolarity w)
  wrong_first x w e legal is = (record { found = (is_written cert.slack x e, is); first = first }, λ same. absurd (cc))
    where
      first : (other : Verdict) → turn_of other < 1 → Finds p cert other → ⊥
      first (Illegal v) low (written, found) = not_illegal p cert.placement.cells v legal found
      first (WrongPolarity u) low found = absurd (omega arith)
      first (WrongSlack written real) low found = absurd (omega arith)
      first (Uncovered v) low found = absurd (omega arith)
      first (NotBest written bound) low found = absurd (omega arith)
      first Yes low found = absurd (omega arith)

  pub slack_first : (written real : ℤ) → cert.slack ≡ Some written → IsGood p cert.placement.cells → IsSlack p cert.placement.cells real
      → written ≢ real → IsFault p cert (WrongSlack written real)
  slack_first written real e good is other = (record { found = (e, is, other); first = first }, λ same. absurd (cc))
    where
      first : (verdict : Verdict) → turn_of verdict < 2 → Finds p cert verdict → ⊥
      first (Illegal v) low (some, found) = not_illegal p cert.placement.cells v good.legal found
      first (WrongPolarity w) low (some, found) = not_wrong p cert.placement.cells w good.wanted found
      first (WrongSlack a b) low found = absurd (omega arith)
      first (Uncovered v) low found = absurd (omega arith)
      first (NotBest a b) low found = absurd (omega arith)
      first Yes low found = absurd (omega arith)

  pub uncovered_first : (v : ℕ) → IsPlacementSound p cert → IsLastUncovered p (lists_of cert) v → IsFault p cert (Uncovered v)
  uncovered_first v sound is = (record { found = is; first = placement_sound p cert sound }, λ same. absurd (cc))

  pub bound_first : (bound : ℤ) → IsPlacementSound p cert → IsCover p (of_lists (lists_of cert))
      → IsRootBound p (at_root (of_lists (lists_of cert))) bound → IsOver cert.slack bound → IsFault p cert (NotBest cert.slack bound)
  bound_first bound sound cover is over = (record { found = (refl, is, over); first = first }, λ same. absurd (cc))
    where
      first : (verdict : Verdict) → turn_of verdict < 4 → Finds p cert verdict → ⊥
      first (Illegal v) low found = placement_sound p cert sound (Illegal v) (omega arith) found
      first (WrongPolarity w) low found = placement_sound p cert sound (WrongPolarity w) (omega arith) found
      first (WrongSlack a b) low found = placement_sound p cert sound (WrongSlack a b) (omega arith) found
      first (Uncovered v) low found = found.uncovered (cover v found.live)
      first (NotBest a b) low found = absurd (omega arith)
      first Yes low found = absurd (omega arith)

-- A VALID CERTIFICATE has no fault
valid_placement : (p : Problem) (slack : Option ℤ) (cells : List (Option ℕ)) (lists : NodeLists) → IsValid p slack cells lists
    → (x : ℤ) → slack ≡ Some x → IsGoodWith p cells x
valid_placement p slack cells lists valid x e = good (subst (λ (s : Option ℤ). IsValid p s cells lists) e valid)
  where
    good : IsValid p (Some x) cells lists → IsGoodWith p cells x
    good is = record { good = is.good; slack = is.slack }

valid_cover : (p : Problem) (slack : Option ℤ) (cells : List (Option ℕ)) (lists : NodeLists) → IsValid p slack cells lists → IsCover p (of_lists lists)
valid_cover p None cells lists valid = valid.cover
valid_cover p (Some x) cells lists valid = valid.cover

valid_bound : (p : Problem) (slack : Option ℤ) (cells : List (Option ℕ)) (lists : NodeLists) → IsValid p slack cells lists
    → (bound : ℤ) → IsRootBound p (at_root (of_lists lists)) bound → IsOver slack bound → ⊥
valid_bound p None cells lists valid bound is over = let (x, x_in, drives, bound_is) = is.met in valid.empty x x_in drives
valid_bound p (Some slack) cells lists valid bound is over =
    let (x, x_in, drives, bound_is) = is.met in omega (arith, ints, valid.bound x x_in drives, bound_is, over)

pub valid_is_yes : (p : Problem) (cert : Certificate) → IsValid p cert.slack cert.placement.cells (lists_of cert) → (verdict : Verdict)
    → Finds p cert verdict → verdict ≡ Yes
valid_is_yes p cert valid verdict found = only verdict found
  where
    sound : IsPlacementSound p cert
    sound = valid_placement p cert.slack cert.placement.cells (lists_of cert) valid

    only : (other : Verdict) → Finds p cert other → other ≡ Yes
    only (Illegal v) is = absurd (placement_sound p cert sound (Illegal v) (omega arith) is)
    only (WrongPolarity w) is = absurd (placement_sound p cert sound (WrongPolarity w) (omega arith) is)
    only (WrongSlack a b) is = absurd (placement_sound p cert sound (WrongSlack a b) (omega arith) is)
    only (Uncovered v) is = absurd (is.uncovered (valid_cover p cert.slack cert.placement.cells (lists_of cert) valid v is.live))
    only (NotBest written bound) (e, is, over) =
        absurd (valid_bound p cert.slack cert.placement.cells (lists_of cert) valid bound is (subst (λ (s : Option ℤ). IsOver s bound) (sym e) over))
    only Yes is = refl

pub valid_verdict : (p : Problem) (cert : Certificate) → IsValid p cert.slack cert.placement.cells (lists_of cert) → IsVerdict p cert Yes
valid_verdict p cert valid = record { found = tt; first = λ other low found. less other low (valid_is_yes p cert valid other found) }
  where
    less : (other : Verdict) → turn_of other < 5 → other ≡ Yes → ⊥
    less other low e = absurd (omega (arith, low, ap turn_of e))

-- where no part of it fails, it is valid
valid_from : (p : Problem) (slack : Option ℤ) (cells : List (Option ℕ)) (lists : NodeLists) → ((x : ℤ) → slack ≡ Some x → IsGoodWith p cells x)
    → IsCover p (of_lists lists) → (found : Option ℤ) → IsBoundOf p (lists 0 false) found
    → ((bound : ℤ) → found ≡ Some bound → IsOver slack bound → ⊥) → IsValid p slack cells lists
valid_from p None cells lists sound cover None none not_over = record { cover = cover; empty = none }
valid_from p None cells lists sound cover (Some bound) is not_over = absurd (not_over bound refl tt)
valid_from p (Some x) cells lists sound cover None none not_over = record {
  good = (sound x refl).good;
  slack = (sound x refl).slack;
  cover = cover;
  bound = λ y y_in drives. absurd (none y y_in drives);
}
valid_from p (Some x) cells lists sound cover (Some bound) is not_over = record {
  good = (sound x refl).good;
  slack = (sound x refl).slack;
  cover = cover;
  bound = λ y y_in drives. at_most (is.bound y y_in drives);
}
  where
    at_most : {z : ℤ} → z ≤ℤ bound → z ≤ℤ x
    at_most low = elim (cases_Bool (int_lt x bound)) [
      | inl less ↦ absurd (not_over bound refl (omega (arith, ints)))
      | inr more ↦ omega (arith, ints, low, more)
    ]

pub cert_valid : (p : Problem) (cert : Certificate) → IsPlacementSound p cert → IsCover p (of_lists (lists_of cert)) → (found : Option ℤ)
    → IsBoundOf p (lists_of cert 0 false) found → ((bound : ℤ) → found ≡ Some bound → IsOver cert.slack bound → ⊥)
    → IsValid p cert.slack cert.placement.cells (lists_of cert)
cert_valid p cert = valid_from p cert.slack cert.placement.cells (lists_of cert)

-- the bound that was found is not over the slack, and so no bound is
pub one_over : (slack found : Option ℤ) (most : ℤ) → found ≡ Some most → (IsOver slack most → ⊥)
    → (bound : ℤ) → found ≡ Some bound → IsOver slack bound → ⊥
one_over slack found most is not_over bound e over =
    let same : most ≡ bound = cc (is, e) in not_over (subst (λ (z : ℤ). IsOver slack z) (sym same) over)

pub none_over : (slack found : Option ℤ) → found ≡ None → (bound : ℤ) → found ≡ Some bound → IsOver slack bound → ⊥
none_over slack found is bound e over = absurd (let clash : None ≡ Some bound = sym is ∙ e in cc)

-- the even list of the root
pub root_list : (p : Problem) (cert : Certificate) (root : WrittenLists) → length cert.lists.items ≡ length p.tree.nodes
    → root ≡ get_or cert.lists.items 0 root → root.even.items ≡ lists_of cert 0 false
root_list p cert root one_each is =
    ap (λ (lists : Bool → List Pair). lists false)
    (sym (lists_here cert.lists.items 0 root (omega (arith, one_each, p.tree.a_tree.some_node)) is))

pub fault_invalid : (p : Problem) (cert : Certificate) (verdict : Verdict) → IsFault p cert verdict
    → (verdict ≡ Yes) ↔ IsValid p cert.slack cert.placement.cells (lists_of cert)
fault_invalid p cert verdict fault = (λ yes. absurd (fault.1 yes), λ valid. valid_is_yes p cert valid verdict fault.0.found)
