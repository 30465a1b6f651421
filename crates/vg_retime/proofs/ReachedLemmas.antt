-- The signals of a walk, while its nets are met one by one.
use Rattle.std.proofs.Common.{◌≡◌, ◌≢◌, ℕ, eq-eqb, zero, suc, ◌+◌, ◌<◌, ◌==◌, Bool, true, false, List, ◌++◌, take, cond, refl, sym, ap, ◌∙◌, arith, All, Option, Some, None}
use Rattle.std.specs.List.{slice_get}
use Rattle.std.proofs.lemmas.Bool.{eqb-true}
use Rattle.cut_laws.specs.Walks.{TimedNet, Signal, passed_on, passed_on_by, reached}
use Rattle.vg_retime.proofs.SignalListLemmas.{of_first, slice_get_stays}

-- nets, of which one is another
abbrev pub with_net : {X : Type 0} → (ℕ → X) → ℕ → X → ℕ → X
with_net nets id net i = cond (i == id) net (nets i)

pub net_there : {X : Type 0} (nets : ℕ → X) (id : ℕ) (net : X) → with_net nets id net id ≡ net
net_there nets id net = ap (λ (b : Bool). cond b net (nets id)) (eq-eqb id id refl)

pub net_elsewhere : {X : Type 0} (nets : ℕ → X) (id : ℕ) (net : X) (i : ℕ) → i ≢ id → with_net nets id net i ≡ nets i
net_elsewhere nets id net i ne = by_test (i == id) refl
  where
    by_test : (b : Bool) → (i == id) ≡ b → cond (i == id) net (nets i) ≡ nets i
    by_test true e = absurd (ne (eqb-true i id e))
    by_test false e = ap (λ (b : Bool). cond b net (nets i)) e

-- the signals are the same, where the nets that passed some on are
same_after : (nets others : ℕ → TimedNet) (start : Signal) (k : ℕ)
    → ((i : ℕ) (s : Signal) → i < k → slice_get (reached nets start k) i ≡ Some s → nets s.net ≡ others s.net)
    → reached others start k ≡ reached nets start k
unfolding reached
same_after nets others start zero same = refl
same_after nets others start (suc k) same =
    let rest = passed_on_by nets (slice_get (reached nets start k) k) in
    let before = same_after nets others start k (λ i s low e. same i s (omega arith) (slice_get_stays (reached nets start k) rest i s e)) in
    (λ i. before i ++ passed_on_by others (slice_get (before i) k))
    ∙ ap (λ (more : List Signal). reached nets start k ++ more)
    (turn (slice_get (reached nets start k) k) refl)
  where
    turn : (o : Option Signal) → slice_get (reached nets start k) k ≡ o → passed_on_by others (slice_get (reached nets start k) k) ≡ passed_on_by nets (slice_get (reached nets start k) k)
    turn None e = ap (passed_on_by others) e ∙ sym (ap (passed_on_by nets) e)
    turn (Some s) e =
        let net = same k s (omega arith) (slice_get_stays (reached nets start k) (passed_on_by nets (slice_get (reached nets start k) k)) k s e) in
        ap (passed_on_by others) e ∙ ap (λ (n : TimedNet). passed_on n s) (sym net) ∙ sym (ap (passed_on_by nets) e)

pub reached_same : (nets others : ℕ → TimedNet) (start : Signal) (k : ℕ) → All (λ s. nets s.net ≡ others s.net) (take k (reached nets start k))
    → reached others start k ≡ reached nets start k
reached_same nets others start k same = same_after nets others start k (of_first (λ s. nets s.net ≡ others s.net) k (reached nets start k) same)

-- one signal more is passed on
pub reached_next : (nets : ℕ → TimedNet) (start s : Signal) (k : ℕ) → slice_get (reached nets start k) k ≡ Some s
    → reached nets start (k + 1) ≡ reached nets start k ++ passed_on (nets s.net) s
unfolding reached
reached_next nets start s k e =
    let next : k + 1 ≡ suc k = omega arith in
    ap (reached nets start) next ∙ ap (λ (o : Option Signal). reached nets start k ++ passed_on_by nets o) e
