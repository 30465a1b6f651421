use Rattle.std.proofs.Common.{◌≡◌, ℕ, ◌<◌, ◌≤◌, List, length, get_or, sym, ap, ◌∙◌, subst, arith, inl, inr, refl, Result, Ok, Err, IsTrue, nat_cmp}
use Rattle.std.specs.Result.{is_ok}
use Rattle.std.specs.List.{Contains, AllPairs}
use Rattle.std.specs.List.Sorted.{IsBinarySearchResult}
use Rattle.std.proofs.lemmas.Bool.{cases_lt, false≢true}
use Rattle.std.proofs.lemmas.List.{get_or_default}
use Rattle.std.proofs.lemmas.List.Sorted.{searched}
use Rattle.elmore.specs.Allowances.{Allows}
use Rattle.elmore.specs.declared.allowed.Allowed.{Allowed}
use Rattle.vg_convex.specs.Orders.{AreRising}
use Rattle.vg_convex.proofs.drive.is_allowed.Goals as goal

no_less : (numbers : List ℕ) → AllPairs (λ a b. a < b) numbers → (i j : ℕ) → i ≤ j → j < length numbers → get_or numbers i 0 ≤ get_or numbers j 0
no_less numbers rising i j i_j low = elim (cases_lt i j) [
  | inl less ↦ let up : get_or numbers i 0 < get_or numbers j 0 = rising i j 0 less low in omega arith
  | inr same ↦ let e : i ≡ j = omega arith in omega (arith, ap (λ k. get_or numbers k 0) e)
]

-- a search by halves of rising numbers tells whether the number is among them
tells : (numbers : List ℕ) (rep : ℕ) (r : Result ℕ ℕ) → AllPairs (λ a b. a < b) numbers → IsBinarySearchResult (λ y. nat_cmp y rep) numbers r
    → (IsTrue (is_ok r) → Contains numbers rep) × (Contains numbers rep → IsTrue (is_ok r))
tells numbers rep (Ok i) rising is =
    let (low, e) = searched numbers rep (Ok i) is (no_less numbers rising) in
    (λ _. (i, low, get_or_default numbers i rep 0 low ∙ e), λ _. refl)
tells numbers rep (Err i) rising is =
    let (most, before, after) = searched numbers rep (Err i) is (no_less numbers rising) in (
      λ t. absurd (false≢true t),
      λ (k, low, e).
          let at : get_or numbers k 0 ≡ rep = get_or_default numbers k 0 rep low ∙ e in
          elim (cases_lt k i) [
            | inl less ↦ absurd (omega (arith, at, before k less))
            | inr more ↦ absurd (omega (arith, at, after k more low))
          ],
    )

pub returns-in-Only : goal.returns-in-Only
returns-in-Only c =
    let rising : AllPairs (λ a b. a < b) c.in-Only.numbers = subst AreRising c.in-Only.is c.requires.rising in
    let found : IsBinarySearchResult (λ y. nat_cmp y c.args.rep) c.in-Only.numbers c.binary_search.result
    = subst (λ (l : List ℕ). IsBinarySearchResult (λ y. nat_cmp y c.args.rep) l c.binary_search.result) c.as_slice.ensures c.binary_search.ensures.position in
    let told = tells c.in-Only.numbers c.args.rep c.binary_search.result rising found in (
      λ t. subst (λ (a : Allowed). Allows a c.args.rep) (sym c.in-Only.is) (told.0 (sym c.is_ok.ensures.value ∙ t)),
      λ named. c.is_ok.ensures.value ∙ told.1 (subst (λ (a : Allowed). Allows a c.args.rep) c.in-Only.is named),
    )
