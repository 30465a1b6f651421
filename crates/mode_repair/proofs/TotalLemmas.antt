-- How many nets came to what, with one net more.
use Rattle.std.proofs.Common.{◌≡◌, ℕ, ◌+◌, ◌≤◌, ℤ, ◌≤ℤ◌, Bool, true, false, List, [], ◌∷◌, ◌++◌, length, refl, sym, ap, ◌∙◌, subst, arith, Some, None}
use Rattle.std.specs.Prelude.{cond}
use Rattle.std.specs.Int.Signed.{le_z, ≤ℤ_refl}
use Rattle.std.specs.List.{All, count_by, flat_map}
use Rattle.std.proofs.lemmas.List.{append-nil, length-append}
use Rattle.std.proofs.lemmas.List.Concat.{flat_map-append}
use Rattle.std.proofs.lemmas.List.Elements.{All-append, All-cons, All-nil, All-weaker, Contains-append_left, Contains-append_right}
use Rattle.std.proofs.lemmas.List.Sums.{count_by-le-length, fold-append}
use Rattle.mode_repair.specs.Outcomes.{AreTotals, IsWorst, is_met, is_none_good, is_refused, is_short, slacks_in}
use Rattle.mode_repair.specs.declared.outcome.Outcome.{Outcome}
use Rattle.mode_repair.specs.declared.outcome.Outcome.TheVariants.{Met, Short, NoneGood, Refused}
use Rattle.mode_repair.specs.declared.totals.Totals.{Totals}

-- ---- the least slack

one_all : (P : ℤ → Type 0) (x : ℤ) → P x → All P (x ∷ [])
one_all P x is = All-cons P x [] is (All-nil P)

pub worst_first : (slacks : List ℤ) (slack : ℤ) → IsWorst slacks None → IsWorst (slacks ++ slack ∷ []) (Some slack)
worst_first slacks slack none =
    subst (λ (xs : List ℤ). IsWorst (xs ++ slack ∷ []) (Some slack)) (sym none)
    ((0, omega arith, refl), one_all (λ y. slack ≤ℤ y) slack (≤ℤ_refl slack))

pub worst_stays : (slacks : List ℤ) (worst slack : ℤ) → IsWorst slacks (Some worst) → worst ≤ℤ slack → IsWorst (slacks ++ slack ∷ []) (Some worst)
worst_stays slacks worst slack is low =
    (Contains-append_left slacks (slack ∷ []) worst is.0, All-append (λ y. worst ≤ℤ y) slacks (slack ∷ []) is.1 (one_all (λ y. worst ≤ℤ y) slack low))

pub worst_now : (slacks : List ℤ) (worst slack : ℤ) → IsWorst slacks (Some worst) → slack ≤ℤ worst → IsWorst (slacks ++ slack ∷ []) (Some slack)
worst_now slacks worst slack is low = (
  Contains-append_right slacks (slack ∷ []) slack (0, omega arith, refl),
  All-append (λ y. slack ≤ℤ y) slacks (slack ∷ []) (All-weaker (λ y. worst ≤ℤ y) (λ y. slack ≤ℤ y) (λ y least. grind (arith, low, least)) slacks is.1)
      (one_all (λ y. slack ≤ℤ y) slack (≤ℤ_refl slack)),
)

pub worst_lost : (slacks : List ℤ) (worst slack : ℤ) → IsWorst slacks (Some worst) → le_z worst slack ≡ false → IsWorst (slacks ++ slack ∷ []) (Some slack)
worst_lost slacks worst slack is test = worst_now slacks worst slack is (grind (arith, test))

-- ---- the counts

count_more : (test : Outcome → Bool) (xs : List Outcome) (x : Outcome) → count_by test (xs ++ x ∷ []) ≡ count_by test xs + cond (test x) 1 0
count_more test xs x = fold-append (λ (n : ℕ) (y : Outcome). n + cond (test y) 1 0) 0 xs (x ∷ [])

pub few : (test : Outcome → Bool) (xs : List Outcome) (n : ℕ) → n ≡ count_by test xs → n ≤ length xs
few test xs n is = (let low = count_by-le-length test xs in omega (arith, is, low))

-- with one net more
module _ (before : List Outcome) (t : Totals) (are : AreTotals before t) where
  slacks_more : (o : Outcome) → flat_map slacks_in (before ++ o ∷ []) ≡ flat_map slacks_in before ++ flat_map slacks_in (o ∷ [])
  slacks_more o = flat_map-append slacks_in before (o ∷ [])

  longer : (o : Outcome) → t.nets + 1 ≡ length (before ++ o ∷ [])
  longer o = (let e = are.nets in let f = length-append before (o ∷ []) in omega (arith, e, f))

  one : (test : Outcome → Bool) (n : ℕ) (o : Outcome) → n ≡ count_by test before → test o ≡ true → n + 1 ≡ count_by test (before ++ o ∷ [])
  one test n o is passes = (let more = count_more test before o ∙ ap (λ (b : Bool). count_by test before + cond b 1 0) passes in omega (arith, is, more))

  none : (test : Outcome → Bool) (n : ℕ) (o : Outcome) → n ≡ count_by test before → test o ≡ false → n ≡ count_by test (before ++ o ∷ [])
  none test n o is fails = (let more = count_more test before o ∙ ap (λ (b : Bool). count_by test before + cond b 1 0) fails in omega (arith, is, more))

  no_slack : (o : Outcome) → slacks_in o ≡ [] → flat_map slacks_in (before ++ o ∷ []) ≡ flat_map slacks_in before
  no_slack o bare = slacks_more o ∙ ap (λ (xs : List ℤ). flat_map slacks_in before ++ (xs ++ [])) bare ∙ append-nil (flat_map slacks_in before)

  pub met_more : (slack worst : ℤ) (o : Outcome) → o ≡ Met slack → IsWorst (flat_map slacks_in before ++ slack ∷ []) (Some worst)
      → AreTotals (before ++ o ∷ []) (record t { nets = t.nets + 1; met = t.met + 1; worst = Some worst })
  met_more slack worst o is least = record {
    nets = longer o;
    met = one is_met t.met o are.met (ap is_met is);
    short = none is_short t.short o are.short (ap is_short is);
    none = none is_none_good t.none o are.none (ap is_none_good is);
    refused = none is_refused t.refused o are.refused (ap is_refused is);
    worst = subst (λ (xs : List ℤ). IsWorst xs (Some worst)) (sym (slacks_more o ∙ ap (λ (x : Outcome). flat_map slacks_in before ++ flat_map slacks_in (x ∷ [])) is)) least;
  }

  pub short_more : (slack worst : ℤ) (o : Outcome) → o ≡ Short slack → IsWorst (flat_map slacks_in before ++ slack ∷ []) (Some worst)
      → AreTotals (before ++ o ∷ []) (record t { nets = t.nets + 1; short = t.short + 1; worst = Some worst })
  short_more slack worst o is least = record {
    nets = longer o;
    met = none is_met t.met o are.met (ap is_met is);
    short = one is_short t.short o are.short (ap is_short is);
    none = none is_none_good t.none o are.none (ap is_none_good is);
    refused = none is_refused t.refused o are.refused (ap is_refused is);
    worst = subst (λ (xs : List ℤ). IsWorst xs (Some worst)) (sym (slacks_more o ∙ ap (λ (x : Outcome). flat_map slacks_in before ++ flat_map slacks_in (x ∷ [])) is)) least;
  }

  pub none_good_more : (o : Outcome) → o ≡ NoneGood → AreTotals (before ++ o ∷ []) (record t { nets = t.nets + 1; none = t.none + 1 })
  none_good_more o is = record {
    nets = longer o;
    met = none is_met t.met o are.met (ap is_met is);
    short = none is_short t.short o are.short (ap is_short is);
    none = one is_none_good t.none o are.none (ap is_none_good is);
    refused = none is_refused t.refused o are.refused (ap is_refused is);
    worst = subst (λ (xs : List ℤ). IsWorst xs t.worst) (sym (no_slack o (ap slacks_in is))) are.worst;
  }

  pub refused_more : (o : Outcome) → o ≡ Refused → AreTotals (before ++ o ∷ []) (record t { nets = t.nets + 1; refused = t.refused + 1 })
  refused_more o is = record {
    nets = longer o;
    met = none is_met t.met o are.met (ap is_met is);
    short = none is_short t.short o are.short (ap is_short is);
    none = none is_none_good t.none o are.none (ap is_none_good is);
    refused = one is_refused t.refused o are.refused (ap is_refused is);
    worst = subst (λ (xs : List ℤ). IsWorst xs t.worst) (sym (no_slack o (ap slacks_in is))) are.worst;
  }
