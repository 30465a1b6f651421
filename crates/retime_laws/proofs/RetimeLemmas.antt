-- A net in which cells are put re-times to the slack of the placement, and none of its sinks is wrong.
use Rattle.std.proofs.Common.{◌≡◌, ◌≤◌, arith, ℕ, Bool, true, false, not, cond, List, [], ◌∷◌, length, refl, sym, ap, ◌∙◌, All, Contains, ℤ, Option, None, Some, option_map, ◌<◌, subst}
use Rattle.std.specs.List.{cons_option, filter_map, find, slice_get}
use Rattle.std.proofs.lemmas.List.Elements.{All-contains_itself, All-head, All-tail}
use Rattle.elmore.specs.Delay.{is_odd}
use Rattle.elmore.specs.Path.{nodes}
use Rattle.elmore.specs.Placements.{IsSlack, HasPolarity}
use Rattle.elmore.specs.declared.parts.Driver.{Driver}
use Rattle.cut_laws.proofs.CutTimeLemmas.{cut_retimes, cut_wanted}
use Rattle.cut_laws.specs.Walks.{End, nothing, sink, passes, HavePolarity, Signal, end_at}
use Rattle.vg_design.specs.Designs.{Design, Joined}
use Rattle.vg_design.specs.Nets.{name_at}
use Rattle.vg_retime.specs.Retimings.{Retimes}
use Rattle.vg_retime.proofs.LawLemmas.{retimed_not_refused}
use Rattle.vg_retime.proofs.OneTimingLemmas.{one_timing}
use Rattle.spef_wire.specs.Refusals.{number_of}
use Rattle.spef_wire.specs.declared.refusal.Refusal.{Refusal}
use Rattle.spef_wire.specs.declared.refusal.Refusal.TheVariants.{TooLarge}
use Rattle.vg_retime.specs.WalkNets.{timed}
use Rattle.vg_retime.specs.Ways.{Nets, first_wrong, is_wrong, timed_nets, wrong_in}
use Rattle.spef_net.specs.declared.net.ParNet.{ParNet}
use Rattle.vg_split.specs.Splits.{Split, forest, net_of}
use Rattle.vg_split.specs.Stages.{heads}
use Rattle.retime_laws.proofs.NameLemmas.{keeper_name, own_name}
use Rattle.retime_laws.specs.Laws.{AreNetsOf, PlacedNetsAreRefused, PlacedNetsRetime, PlacedNetsTime, StagesRetime}
use Rattle.retime_laws.specs.NewStages.{HasStages, IsPut}
use Rattle.retime_laws.proofs.NetLemmas.{have_nets}
use Rattle.retime_laws.proofs.WayLemmas.{asked, asked_named, climbs, cut, met_down, pieces}

-- ---- lists

-- where none passes, none is found
find_none : {X : Type 0} (q : X → Bool) (xs : List X) → ((x : X) → q x ≡ false) → find q xs ≡ None
find_none q [] none = refl
find_none q (x ∷ xs) none = ap (λ b. cond b (Some x) (find q xs)) (none x) ∙ find_none q xs none

-- where each gives none, there are none
filter_none : {X Y : Type 0} (f : X → Option Y) (xs : List X) → All (λ x. f x ≡ None) xs → filter_map f xs ≡ []
filter_none f [] none = refl
filter_none f (x ∷ xs) none =
    ap (λ o. cons_option o (filter_map f xs)) (All-head (λ x. f x ≡ None) x xs none) ∙ filter_none f xs (All-tail (λ x. f x ≡ None) x xs none)

-- ---- polarity

right_sink : (b : Bool) → cond b (not b) b ≡ false
right_sink true = refl
right_sink false = refl

module _ (nets : Nets) (first : ℕ) (driver : Driver) (right : HavePolarity (timed_nets nets) first driver) where
  none_wrong : (s : Signal) → Contains right.signals s → wrong_in (nets s.net) s ≡ None
  none_wrong s there =
      ap (option_map (name_at (nets s.net).names))
      (find_none (λ w. is_wrong (is_odd s.inverters) (end_at (timed (nets s.net)) w)) (nodes (length (nets s.net).ends)) (λ w. by w (end_at (timed (nets s.net)) w) refl))
    where
      by : (w : ℕ) (end : End) → end_at (timed (nets s.net)) w ≡ end → is_wrong (is_odd s.inverters) end ≡ false
      by w nothing e = refl
      by w (passes rep next) e = refl
      by w (sink goal) e =
          let wanted : is_odd s.inverters ≡ goal.inverted = right.wanted s w goal (record { come = there; here = e }) in
          ap (λ b. cond goal.inverted (not b) b) wanted ∙ right_sink goal.inverted

  -- no sink is wrong
  pub right_is_none : first_wrong nets right.signals ≡ None
  right_is_none =
      ap (λ (l : List _). slice_get l 0)
      (filter_none (λ s. wrong_in (nets s.net) s) right.signals
      (λ i s low. none_wrong _ (All-contains_itself right.signals i s low)))

-- ---- the whole

module _ (d : Design) (n : Joined) (x : Split) (new : Design) (put : IsPut d n x) (has : HasStages d n x new) (nets : Nets) (are : AreNetsOf x new nets)
    (slack : ℤ) (is : IsSlack x.problem x.cells slack) (wanted : (w : ℕ) → HasPolarity x.problem x.cells w) where
  right : HavePolarity (timed_nets nets) ((pieces d n x new put has nets are).net_of 0) x.problem.driver
  right = cut_wanted x.problem x.cells (pieces d n x new put has nets are) put.split.placed (cut d n x new put has nets are) wanted

  pub retimes : (k : ℕ) → k < length (heads (forest x)) → Retimes 16 new x.prefix (net_of x k) (record { slack = slack; wrong = None })
  retimes k low = record {
    way = record { nets = nets; first = record { net = (pieces d n x new put has nets are).net_of 0; driver = x.problem.driver }; signals = right.signals };
    is_way = record {
      id = asked d n x new put has nets are k low;
      named = asked_named d n x new put has nets are k low;
      climb = climbs d n x new put has nets are k low;
      walk = right.walk;
      met = met_down d n x new put has nets are right.signals right.walk;
    };
    slack = cut_retimes x.problem x.cells (pieces d n x new put has nets are) put.split.placed (cut d n x new put has nets are) slack is;
    wrong = sym (right_is_none nets ((pieces d n x new put has nets are).net_of 0) x.problem.driver right);
  }

pub stages_retime : StagesRetime
stages_retime d n x new put has slack is wanted =
    let (nets, are) = have_nets d n x new put has in
    retimes d n x new put has nets are slack is wanted

-- the net of the stage that keeps the old name has this name
kept_name : (d : Design) (n : Joined) (x : Split) (put : IsPut d n x) → net_of x x.keeper ≡ put.name
kept_name d n x put =
    keeper_name x put.split.split ∙ ap (λ (par : ParNet). par.name) put.split.par ∙ own_name d.spef put.name n.par put.joined.named

pub placed_nets_retime : PlacedNetsRetime
placed_nets_retime d n x new put has slack is wanted =
    subst (λ name. Retimes 16 new x.prefix name (record { slack = slack; wrong = None })) (kept_name d n x put)
    (stages_retime d n x new put has slack is wanted x.keeper put.split.split.keeper)

-- ---- what mode `time` tells

pub placed_nets_time : PlacedNetsTime
placed_nets_time d n x new put has slack is wanted timed timed_is =
    one_timing 17 16 new x.prefix put.name timed (record { slack = slack; wrong = None }) timed_is (placed_nets_retime d n x new put has slack is wanted)

-- a refusal of a number from 16 on is that by size
by_size : (r : Refusal) → 16 ≤ number_of r → r ≡ TooLarge
by_size TooLarge late = refl
by_size r late = absurd (omega (arith, late))

pub placed_nets_are_refused : PlacedNetsAreRefused
placed_nets_are_refused d n x new put has slack is wanted r refused =
    by_size r
    (retimed_not_refused 16 new x.prefix put.name (record { slack = slack; wrong = None }) r (placed_nets_retime d n x new put has slack is wanted) refused)
