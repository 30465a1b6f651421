-- What is made of a certificate: the claim, and the count of its pairs.
use Rattle.std.proofs.Common.{◌≡◌, ℕ, ◌+◌, ◌^◌, ◌<◌, ◌≤◌, Bool, true, false, List, length, get_or, sym, ap, ◌∙◌, arith, ℤ, Option, Some, None}
use Rattle.std.specs.Prelude.{option_map}
use Rattle.std.specs.List.{range_with_len}
use Rattle.std.proofs.lemmas.List.{map-id}
use Rattle.std.proofs.lemmas.List.FromFn.{sum_by-map-range_with_len_more}
use Rattle.elmore.specs.declared.pair.Pair.{Pair}
use Rattle.elmore.specs.declared.problem.Problem.{Problem}
use Rattle.cand_pairs.specs.Candidates.{NodeLists}
use Rattle.vg_cert.specs.Fits.{Fits, lists_in, lists_of}
use Rattle.vg_cert.specs.declared.certificate.Certificate.{Certificate}
use Rattle.vg_cert.specs.declared.certificate.NodeLists.{NodeLists as Written}
use Rattle.vg_verdict.specs.Claims.{HasKept, IsClaimOf}
use Rattle.vg_check.proofs.PartLemmas.{lists_here}
use Rattle.vg_slack.specs.declared.answer.Best.{Best}
use Rattle.vg_verdict.specs.Judged.{CountsEntries, pairs_at, pairs_in}
use Rattle.vg_verdict.specs.Steps.{claim_of}

-- the claim is what was found
pub claim_is : (found : Option Best) (cert : Certificate) → IsClaimOf found cert → claim_of cert ≡ found
claim_is None cert (none, bare) = ap (option_map (λ (slack : ℤ). let best : Best = record { slack = slack; placement = cert.placement } in best)) none
claim_is (Some best) cert (slack, placement) =
    λ i. option_map (λ (x : ℤ). let one : Best = record { slack = x; placement = placement i } in one) (slack i)

-- it stays where the slack and the placement do
pub claim_stays : (old new : Certificate) → new.slack ≡ old.slack → new.placement ≡ old.placement → claim_of new ≡ claim_of old
claim_stays old new slack placement =
    λ i. option_map (λ (x : ℤ). let one : Best = record { slack = x; placement = placement i } in one) (slack i)

-- the pairs of one node more
pub pairs_more : (lists : NodeLists) (n : ℕ) → pairs_in lists (n + 1) ≡ pairs_in lists n + pairs_at lists n
pairs_more lists n =
    rw (map-id (range_with_len 0 (n + 1)), map-id (range_with_len 0 n)) at (sum_by-map-range_with_len_more (pairs_at lists) (λ (x : ℕ). x) 0 n n (omega arith))

-- ---- the lists as they stand in a certificate

module _ (lists : List Written) (v : ℕ) (here : Written) (low : v < length lists) (is : here ≡ get_or lists v here) where
  pairs_here : pairs_at (lists_in lists) v ≡ length here.even.items + length here.odd.items
  pairs_here = ap (λ (both : Bool → List Pair). length (both false) + length (both true)) (lists_here lists v here low is)

  pub few_here : ((v : ℕ) (odd : Bool) → length (lists_in lists v odd) ≤ 2 ^ 28) → length here.even.items + length here.odd.items ≤ 2 ^ 29
  few_here few = omega (arith, pairs_here, few v false, few v true)

  pub count_more : (count : ℕ) → count ≡ pairs_in (lists_in lists) v
      → count + (length here.even.items + length here.odd.items) ≡ pairs_in (lists_in lists) (v + 1)
  count_more count counted =
      ap (λ (n : ℕ). n + (length here.even.items + length here.odd.items)) counted ∙ ap (λ (n : ℕ). pairs_in (lists_in lists) v + n) (sym pairs_here)
      ∙ sym (pairs_more (lists_in lists) v)

-- the pairs of a certificate are counted
pub entries_counted : (p : Problem) (cert : Certificate) (n : ℕ) → Fits p cert → HasKept p cert
    → n ≡ pairs_in (lists_of cert) (length cert.lists.items) → CountsEntries p n
entries_counted p cert n fits kept count = record {
  lists = lists_of cert;
  kept = kept;
  count = count ∙ ap (pairs_in (lists_of cert)) fits.one_each;
}
