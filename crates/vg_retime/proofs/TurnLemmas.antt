-- One turn of a walk: the next signal is passed on, by a net that is met for the first time.
use Rattle.std.proofs.Common.{◌≡◌, ◌≢◌, ℕ, suc, ◌+◌, ◌≤◌, eqb, Bool, true, false, List, [], ◌∷◌, ◌++◌, map, take, drop, drop-cons, length, get_or, refl, sym, ap, ◌∙◌, subst, arith, All, Contains, eq-eqb, Option, Some}
use Rattle.std.specs.List.{AllPairs, cons_option, filter_map, flat_map, list_any, slice_get}
use Rattle.std.proofs.lemmas.Bool.{eqb-true, false≢true}
use Rattle.std.proofs.lemmas.Int.{clamps}
use Rattle.std.proofs.lemmas.Option.{slice_get_within, get_or_from_slice_get}
use Rattle.std.proofs.lemmas.List.{length-take, take-append-drop, append-nil, get_or-map, get_or_default, length-map}
use Rattle.std.proofs.lemmas.List.Elements.{filter_map-append}
use Rattle.std.proofs.lemmas.List.Folds.{Any-from_list_any, list_any-from_Any}
use Rattle.std.proofs.lemmas.Grind.{flat_map-append}
use Rattle.cut_laws.specs.Walks.{TimedNet, Signal, passed_on, reached}
use Rattle.vg_retime.proofs.ReachedLemmas.{net_elsewhere, net_there, reached_next, reached_same, with_net}
use Rattle.vg_retime.proofs.SignalListLemmas.{all_next, filter_map_same, flat_map_same, pairs_next, take_next}

-- ---- nets that came

-- the net of this number is that of one of some signals
abbrev pub came : List Signal → ℕ → Bool
came done id = list_any (eqb id) (map (λ (t : Signal). t.net) done)

pub differs : (done : List Signal) (id : ℕ) → came done id ≡ false → All (λ t. t.net ≢ id) done
differs done id new k d low same =
    false≢true (sym new ∙ list_any-from_Any (eqb id) (map (λ (t : Signal). t.net) done) (
      k,
      (get_or done k d).net,
      (let size = length-map done (λ (t : Signal). t.net) in omega (arith, size, low)),
      get_or-map (λ (t : Signal). t.net) done k d (get_or done k d).net low,
      eq-eqb id (get_or done k d).net (sym same),
    ))

pub came_contains : (done : List Signal) (id : ℕ) → came done id ≡ true → Contains (map (λ (t : Signal). t.net) done) id
came_contains done id found =
    let (k, n, low, is, same) = Any-from_list_any (eqb id) (map (λ (t : Signal). t.net) done) found in
    (k, low, get_or_default (map (λ (t : Signal). t.net) done) k id n low ∙ is ∙ sym (eqb-true id n same))

pub contains_came : (done : List Signal) (id : ℕ) → Contains (map (λ (t : Signal). t.net) done) id → came done id ≡ true
contains_came done id (k, low, is) = list_any-from_Any (eqb id) (map (λ (t : Signal). t.net) done) (k, id, low, is, eq-eqb id id refl)

-- ---- the turn

-- nets as they are timed
abbrev pub timed_by : {X : Type 0} → (X → TimedNet) → (ℕ → X) → ℕ → TimedNet
timed_by timed nets id = timed (nets id)

module _ {X : Type 0} (timed : X → TimedNet) (nets : ℕ → X) (start s : Signal) (at : ℕ) (net : X) (signals : List Signal)
    (is : signals ≡ reached (timed_by timed nets) start at) (here : slice_get signals at ≡ Some s) (new : came (take at signals) s.net ≡ false) where
  pub same_nets : All (λ t. nets t.net ≡ with_net nets s.net net t.net) (take at signals)
  same_nets k d low = sym (net_elsewhere nets s.net net (get_or (take at signals) k d).net (differs (take at signals) s.net new k d low))

  pub still : reached (timed_by timed (with_net nets s.net net)) start at ≡ signals
  still =
      reached_same (timed_by timed nets) (timed_by timed (with_net nets s.net net)) start at
      (subst (λ (xs : List Signal). All (λ t. timed (nets t.net) ≡ timed (with_net nets s.net net t.net)) (take at xs)) is (λ k d low. ap timed (same_nets k d low)))
      ∙ sym is

  pub passed_next : signals ++ passed_on (timed net) s ≡ reached (timed_by timed (with_net nets s.net net)) start (at + 1)
  passed_next =
      sym (reached_next (timed_by timed (with_net nets s.net net)) start s at (ap (λ (xs : List Signal). slice_get xs at) still ∙ here)
      ∙ (λ i. still i ++ passed_on (timed (net_there nets s.net net i)) s))

  pub done_next : (more : List Signal) → take (at + 1) (signals ++ more) ≡ take at signals ++ s ∷ []
  done_next more = take_next signals more at s here

  -- what holds of each signal and its net
  pub all_done : (P : ℕ → X → Type 0) → All (λ t. P t.net (nets t.net)) (take at signals) → P s.net net
      → All (λ t. P t.net (with_net nets s.net net t.net)) (take at signals ++ s ∷ [])
  all_done P all one =
      all_next (λ t. P t.net (with_net nets s.net net t.net)) (take at signals) s
      (λ k d low. subst (λ (n : X). P (get_or (take at signals) k d).net n) (same_nets k d low) (all k d low))
      (subst (λ (n : X). P s.net n) (sym (net_there nets s.net net)) one)

  pub once_next : AllPairs (λ a b. a.net ≢ b.net) (take at signals) → AllPairs (λ a b. a.net ≢ b.net) (take at signals ++ s ∷ [])
  once_next once = pairs_next (λ a b. a.net ≢ b.net) (take at signals) s once (differs (take at signals) s.net new)

  -- what is kept of each signal and its net, in order
  pub flat_next : {Y : Type 0} (f : X → Signal → List Y)
      → flat_map (λ t. f (with_net nets s.net net t.net) t) (take at signals ++ s ∷ []) ≡ flat_map (λ t. f (nets t.net) t) (take at signals) ++ f net s
  flat_next {Y} f =
      flat_map-append (λ t. f (with_net nets s.net net t.net) t) (take at signals) (s ∷ [])
      ∙ (λ i. flat_map_same (λ t. f (with_net nets s.net net t.net) t) (λ t. f (nets t.net) t) (take at signals)
      (λ k d low. ap (λ (n : X). f n (get_or (take at signals) k d)) (sym (same_nets k d low))) i
      ++ (append-nil (f (with_net nets s.net net s.net) s) ∙ ap (λ (n : X). f n s) (net_there nets s.net net)) i)

  pub some_next : {Y : Type 0} (f : X → Signal → Option Y)
      → filter_map (λ t. f (with_net nets s.net net t.net) t) (take at signals ++ s ∷ [])
      ≡ filter_map (λ t. f (nets t.net) t) (take at signals) ++ filter_map (λ t. f net t) (s ∷ [])
  some_next {Y} f =
      filter_map-append (λ t. f (with_net nets s.net net t.net) t) (take at signals) (s ∷ [])
      ∙ (λ i. filter_map_same (λ t. f (with_net nets s.net net t.net) t) (λ t. f (nets t.net) t) (take at signals)
      (λ k d low. ap (λ (n : X). f n (get_or (take at signals) k d)) (sym (same_nets k d low))) i
      ++ cons_option (f (net_there nets s.net net i) s) [])

-- ---- lists around the turn

-- the signals before the turn, its own, and those behind
pub parts_at : (signals : List Signal) (at : ℕ) (s : Signal) → slice_get signals at ≡ Some s → signals ≡ take at signals ++ s ∷ drop (suc at) signals
parts_at signals at s e =
    let low = slice_get_within signals at s e in
    sym (take-append-drop at signals)
    ∙ ap (λ (xs : List Signal). take at signals ++ xs) (drop-cons signals at s low ∙ ap (λ (x : Signal). x ∷ drop (suc at) signals) (get_or_from_slice_get signals at s s e))

pub taken_all : (signals : List Signal) (at : ℕ) → at ≤ length signals → length (take at signals) ≡ at
taken_all signals at h = let size = length-take at signals in omega (arith, clamps, size, h)
