-- The way up, net by net.
use Rattle.std.proofs.Common.{◌≡◌, ◌≢◌, ℕ, ◌<◌, ◌≤◌, eqb, Bool, true, false, not, List, [], ◌∷◌, ◌++◌, length, get_or, refl, sym, ap, ◌∙◌, subst, arith, inl, inr, All, Contains, None, eq-eqb, pos}
use Rattle.std.specs.List.{AllPairs, list_any, IsDistinct}
use Rattle.std.proofs.lemmas.Bool.{eqb-true, false≢true}
use Rattle.std.proofs.lemmas.List.{get_or_default, length-append}
use Rattle.std.proofs.lemmas.Map.Steps.{length-le_from_distinct_below}
use Rattle.std.proofs.lemmas.List.Elements.{All-contains}
use Rattle.std.proofs.lemmas.List.Folds.{Any-from_list_any, list_any-from_Any}
use Rattle.cut_laws.specs.Walks.{IsClimb}
use Rattle.vg_design.specs.Designs.{Design}
use Rattle.spef_wire.specs.declared.refusal.Refusal.{Refusal}
use Rattle.spef_wire.specs.declared.refusal.Refusal.TheVariants.{Loop, NoDriver}
use Rattle.spef_wire.specs.declared.refusal.Refused.{Refused}
use Rattle.spef_wire.specs.declared.refusal.Refused.TheVariants.{Net as RefusedNet, Memory}
use Rattle.vg_retime.proofs.ReachedLemmas.{net_elsewhere, net_there, with_net}
use Rattle.vg_retime.proofs.RiseLemmas.{climb_of, rise_next, rise_same}
use Rattle.vg_retime.proofs.SignalListLemmas.{all_next, pairs_next}
use Rattle.vg_retime.specs.Refusals.{IsRefusedHere}
use Rattle.vg_retime.specs.Stops.{IsRefusedUp, IsRise, IsStoppedUp}
use Rattle.vg_retime.specs.WalkNets.{WalkNet, net_above, net_name, timed, IsNetIn}
use Rattle.vg_retime.specs.Ways.{Nets, timed_nets, IsFirstNet}
use Rattle.vg_retime.specs.declared.climb.First.{First}
use Rattle.vg_retime.specs.declared.walk_net.Above.TheVariants.{First as IsTop, Net, Open}

-- before a net was met, any one stands for it
pub no_net : WalkNet
no_net = record { tree = []; ends = []; names = []; driver = record { k = pos 0; r = 0; arrival = pos 0; limit = None }; above = IsTop }

-- what the note of a net tells
pub was_new : (first came : Bool) → first ≡ not came → first ≡ true → came ≡ false
was_new first true e f = absurd (false≢true (sym e ∙ f))
was_new first false e f = refl

pub was_there : (first came : Bool) → first ≡ not came → first ≡ false → came ≡ true
was_there first true e f = refl
was_there first false e f = absurd (false≢true (sym f ∙ e))

-- the net of this number is one of some
abbrev pub among : List ℕ → ℕ → Bool
among before id = list_any (eqb id) before

-- a climb from net number id has come to the net `at`
pub record IsClimbing (d : Design) (prefix : List ℕ) (id at : ℕ) (come : List ℕ) : Type 0 where
  pub nets : Nets
  pub rise : IsRise (timed_nets nets) id come at
  pub accepted : All (λ i. IsNetIn 17 d prefix i (nets i)) come
  pub once : AllPairs (λ a b. a ≢ b) come
  pub inside : All (λ i. i < length d.netlist.nets) come
  pub within : at < length d.netlist.nets

-- where it begins
pub begin_climb : (d : Design) (prefix : List ℕ) (id : ℕ) (come : List ℕ) → come ≡ [] → id < length d.netlist.nets → IsClimbing d prefix id id come
begin_climb d prefix id come none within = subst (IsClimbing d prefix id id) (sym none) (record {
  nets = λ i. no_net;
  rise = refl;
  accepted = λ k e low. absurd (omega arith);
  once = λ i j e i_j low. absurd (omega arith);
  inside = λ k e low. absurd (omega arith);
  within = within;
})

among_contains : (before : List ℕ) (id : ℕ) → among before id ≡ true → Contains before id
among_contains before id found =
    let (k, n, low, is, same) = Any-from_list_any (eqb id) before found in
    (k, low, get_or_default before k id n low ∙ is ∙ sym (eqb-true id n same))

contains_among : (before : List ℕ) (id : ℕ) → Contains before id → among before id ≡ true
contains_among before id (k, low, is) = list_any-from_Any (eqb id) before (k, id, low, is, eq-eqb id id refl)

module _ (d : Design) (prefix : List ℕ) (id at : ℕ) (come : List ℕ) (way : IsClimbing d prefix id at come) where
  stops_by : (refusal : Refusal) → Contains come at × (refusal ≡ Loop) → IsStoppedUp d prefix id refusal
  stops_by refusal again = record {
    nets = way.nets;
    before = come;
    at = at;
    rise = way.rise;
    accepted = way.accepted;
    once = way.once;
    stops = inl (inl again);
  }

  pub climbs_again : among come at ≡ true → IsStoppedUp d prefix id Loop
  climbs_again again = stops_by Loop (among_contains come at again, refl)

  module _ (new : among come at ≡ false) where
    fresh : Contains come at → ⊥
    fresh c = false≢true (sym new ∙ contains_among come at c)

    pub climb_refused : (refused : Refused) → IsRefusedHere d prefix (net_name d at) refused → IsRefusedUp d prefix id refused
    climb_refused (RefusedNet r) first = record {
      nets = way.nets;
      before = come;
      at = at;
      rise = way.rise;
      accepted = way.accepted;
      once = way.once;
      stops = inl (inr (fresh, first));
    }
    climb_refused Memory h = tt

    module _ (net : WalkNet) (is : IsNetIn 17 d prefix at net) where
      same : All (λ i. way.nets i ≡ with_net way.nets at net i) come
      same k e low = sym (net_elsewhere way.nets at net (get_or come k e) (λ there. fresh (k, low, get_or_default come k at e low ∙ there)))

      rise : IsRise (timed_nets (with_net way.nets at net)) id come at
      rise = rise_same (timed_nets way.nets) (timed_nets (with_net way.nets at net)) id come at (λ k e low. ap timed (same k e low)) way.rise

      accepted : All (λ i. IsNetIn 17 d prefix i (with_net way.nets at net i)) come
      accepted k e low = subst (IsNetIn 17 d prefix (get_or come k e)) (same k e low) (way.accepted k e low)

      there : with_net way.nets at net at ≡ net
      there = net_there way.nets at net

      accepted_more : All (λ i. IsNetIn 17 d prefix i (with_net way.nets at net i)) (come ++ at ∷ [])
      accepted_more = all_next (λ i. IsNetIn 17 d prefix i (with_net way.nets at net i)) come at accepted (subst (IsNetIn 17 d prefix at) (sym there) is)

      once_more : AllPairs (λ a b. a ≢ b) (come ++ at ∷ [])
      once_more = pairs_next (λ a b. a ≢ b) come at way.once (λ k e low here. fresh (k, low, get_or_default come k at e low ∙ here))

      pub climb_lost : net.above ≡ Open → IsStoppedUp d prefix id NoDriver
      climb_lost up = record {
        nets = with_net way.nets at net;
        before = come;
        at = at;
        rise = rise;
        accepted = accepted;
        once = way.once;
        stops = inr (fresh, record { accepted = subst (IsNetIn 17 d prefix at) (sym there) is; lost = ap (λ (n : WalkNet). n.above) there ∙ up }, refl);
      }

      pub climb_first : (first : First) → first.net ≡ at → first.driver ≡ net.driver → net.above ≡ IsTop → IsFirstNet 17 d prefix id first
      climb_first first is_at driver top =
          let whole = climb_of (timed_nets (with_net way.nets at net)) id come at rise (ap (λ (n : WalkNet). net_above n.above) there ∙ ap net_above top) in
          record {
            nets = with_net way.nets at net;
            path = whole.path;
            climb = subst (λ (i : ℕ). IsClimb (timed_nets (with_net way.nets at net)) id whole.path i) (sym is_at) whole.climb;
            once = subst (AllPairs (λ a b. a ≢ b)) (sym whole.nodes_are) once_more;
            accepted = subst (All (λ i. IsNetIn 17 d prefix i (with_net way.nets at net i))) (sym whole.nodes_are) accepted_more;
            top = ap (λ (i : ℕ). (with_net way.nets at net i).above) is_at ∙ ap (λ (n : WalkNet). n.above) there ∙ top;
            driver = driver ∙ sym (ap (λ (i : ℕ). (with_net way.nets at net i).driver) is_at ∙ ap (λ (n : WalkNet). n.driver) there);
          }

      pub climb_next : (next : ℕ) (come_next : List ℕ) → net.above ≡ Net next → next < length d.netlist.nets → come_next ≡ come ++ at ∷ []
          → IsClimbing d prefix id next come_next
      climb_next next come_next up within is = subst (IsClimbing d prefix id next) (sym is) (record {
        nets = with_net way.nets at net;
        rise = rise_next (timed_nets (with_net way.nets at net)) id come at next rise (ap (λ (n : WalkNet). net_above n.above) there ∙ ap net_above up);
        accepted = accepted_more;
        once = once_more;
        inside = all_next (λ i. i < length d.netlist.nets) come at way.inside way.within;
        within = within;
      })

-- ---- the end

-- nets of the netlist, none of which came twice, are at most as many as the netlist has
pub few_come : (count : ℕ) (come : List ℕ) → IsDistinct eqb come → All (λ i. i < count) come → length come ≤ count
few_come count come once inside = length-le_from_distinct_below come count once (λ q found. All-contains (λ i. i < count) come q inside (among_contains come q found))

-- a climb that has come to a new net has not come to all of them
pub climb_ends : (d : Design) (prefix : List ℕ) (id at : ℕ) (come new : List ℕ) → IsClimbing d prefix id at come → new ≡ come ++ at ∷ [] → IsDistinct eqb new
    → length come < length d.netlist.nets
climb_ends d prefix id at come new way is once =
    let few = few_come (length d.netlist.nets) (come ++ at ∷ []) (subst (IsDistinct eqb) is once) (all_next (λ i. i < length d.netlist.nets) come at way.inside way.within) in
    let size = length-append come (at ∷ []) in omega (arith, few, size)
