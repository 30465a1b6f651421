-- Nodes by their numbers.
use Rattle.std.proofs.Common.{◌≡◌, ◌≢◌, ℕ, ◌+◌, ◌<◌, ◌≤◌, ◌==◌, Bool, true, false, not, cond, List, [], ◌∷◌, ◌++◌, length, get_or, set, take, slice_index, unwrap_or, refl, sym, ap, ◌∙◌, arith, inl, inr, Some, None}
use Rattle.std.specs.Prelude.{nat_lt}
use Rattle.std.specs.List.{filter, position, position_or_len, All, AllPairs, Contains}
use Rattle.std.proofs.lemmas.Bool.{cases_lt, eq-eqb, ne_eqb, false≢true}
use Rattle.std.proofs.lemmas.Bool.Decides.{nat_tests}
use Rattle.std.proofs.lemmas.List.Elements.{All-filter, All-from_get_or, All-weaker, filter_more, filter_passes}
use Rattle.std.proofs.lemmas.List.Filters.{length-filter_both}
use Rattle.std.proofs.lemmas.List.{append-nil, get_or-take, length-take-le, get_or_append_left, get_or_default, get_or_push, get_or-set_other, get_or-set_same, length_push}
use Rattle.std.proofs.lemmas.List.Sums.{position_or_len_is}
use Rattle.vg_split.specs.Steps.{AreNumbered}

-- one node more
pub numbered_more : (places ws : List ℕ) (w number : ℕ) → AreNumbered places ws → All (λ u. u ≢ w) ws → w < length places → number ≡ length ws
    → AreNumbered (set places w number) (ws ++ w ∷ [])
numbered_more places ws w number are new low last = record {
  at = λ i i_low. elim (cases_lt i (length ws)) [
    | inl less ↦
        let old : slice_index (ws ++ w ∷ []) i ≡ slice_index ws i = get_or_append_left ws (w ∷ []) 0 i less in
        ap (λ u. slice_index (set places w number) u) old
        ∙ get_or-set_other places w (slice_index ws i) number 0 (new i 0 less) ∙ are.at i less
    | inr past ↦
        let i_is : i ≡ length ws = omega (arith, past, i_low, length_push ws w) in
        ap (λ u. slice_index (set places w number) u) (get_or_push ws w 0 i (sym i_is))
        ∙ get_or-set_same places w number 0 low ∙ last ∙ sym i_is
  ];
}

-- a node's number among the nodes is where it is found
pub found_at : (places ws : List ℕ) (w : ℕ) → AreNumbered places ws → Contains ws w → unwrap_or (position (λ u. u == w) ws) 0 ≡ slice_index places w
found_at places ws w are (i, low, is) =
    let w_is : slice_index ws i ≡ w = get_or_default ws i 0 w low ∙ is in
    let placed : slice_index places w ≡ i = ap (slice_index places) (sym w_is) ∙ are.at i low in
    let first : position_or_len (λ u. u == w) ws ≡ i
    = position_or_len_is (λ u. u == w) ws i 0 (omega (arith, low))
    (λ k less. ne_eqb (slice_index ws k) w (λ e. absurd (omega (arith, less, are.at k (omega (arith, less, low)), placed, ap (slice_index places) e))))
    (λ _. eq-eqb (slice_index ws i) w w_is) in
    ap (λ n. unwrap_or (cond (nat_lt n (length ws)) (Some n) None) 0) first ∙ within i (length ws) low ∙ sym placed
  where
    within : (n m : ℕ) → n < m → unwrap_or (cond (nat_lt n m) (Some n) None) 0 ≡ n
    within n m less = let t : nat_lt n m ≡ true = grind (arith, nat_tests) in ap (λ b. unwrap_or (cond b (Some n) None) 0) t

-- a rising list: what is seen of it before a number differs from what stands there
pub before_differ : (p : ℕ → Bool) (ws : List ℕ) (i w : ℕ) → AllPairs (λ a b. a < b) ws → i < length ws → slice_index ws i ≡ w
    → All (λ u. u ≢ w) (filter p (take i ws))
before_differ p ws i w rise low is = All-filter p (λ u. u ≢ w) (take i ws) (All-from_get_or (λ u. u ≢ w) (take i ws) 0 differ)
  where
    differ : (k : ℕ) → k < length (take i ws) → get_or (take i ws) k 0 ≢ w
    differ k k_low e =
        let less : k < i = omega (arith, k_low, length-take-le i ws (omega (arith, low))) in
        omega (arith, get_or-take i ws k 0 less, e, is, rise k i 0 less low)

-- what passes, one node later
pub kept_more : (p : ℕ → Bool) (ws : List ℕ) (i w : ℕ) → i < length ws → slice_index ws i ≡ w → p w ≡ true
    → filter p (take (i + 1) ws) ≡ filter p (take i ws) ++ w ∷ []
kept_more p ws i w low is pass =
    filter_more p ws i 0 low ∙ ap (λ u. filter p (take i ws) ++ cond (p u) (u ∷ []) []) is ∙ ap (λ b. filter p (take i ws) ++ cond b (w ∷ []) []) pass

pub kept_same : (p : ℕ → Bool) (ws : List ℕ) (i w : ℕ) → i < length ws → slice_index ws i ≡ w → p w ≡ false → filter p (take (i + 1) ws) ≡ filter p (take i ws)
kept_same p ws i w low is fail =
    filter_more p ws i 0 low ∙ ap (λ u. filter p (take i ws) ++ cond (p u) (u ∷ []) []) is ∙ ap (λ b. filter p (take i ws) ++ cond b (w ∷ []) []) fail
    ∙ append-nil (filter p (take i ws))

-- no more pass than are seen
pub kept_few : (p : ℕ → Bool) (ws : List ℕ) (i : ℕ) → i ≤ length ws → length (filter p (take i ws)) ≤ i
kept_few p ws i low = omega (arith, length-filter_both p (λ w. not (p w)) (λ w. refl) (take i ws), length-take-le i ws low)

pub filter_few : (p : ℕ → Bool) (ws : List ℕ) → length (filter p ws) ≤ length ws
filter_few p ws = omega (arith, length-filter_both p (λ w. not (p w)) (λ w. refl) ws)

-- what passes differs from what does not
pub passing_differ : (p : ℕ → Bool) (ws : List ℕ) (w : ℕ) → p w ≡ false → All (λ u. u ≢ w) (filter p ws)
passing_differ p ws w fail =
    All-weaker (λ u. p u ≡ true) (λ u. u ≢ w) (λ u pass e. absurd (false≢true (sym fail ∙ ap p (sym e) ∙ pass))) (filter p ws) (filter_passes p ws)

-- two numbers of one node are the same
pub one_number : (places ws : List ℕ) (i j : ℕ) → AreNumbered places ws → i < length ws → j < length ws → slice_index ws i ≡ slice_index ws j → i ≡ j
one_number places ws i j are i_low j_low e = sym (are.at i i_low) ∙ ap (slice_index places) e ∙ are.at j j_low
