-- A net re-times to one slack and one first sink of the wrong polarity.
use Rattle.std.proofs.Common.{◌≡◌, ℕ, ℤ, ◌≤ℤ◌, List, [], ◌∷◌, get_or, sym, ap, ◌∙◌, subst, arith, All, Contains, Option}
use Rattle.std.specs.List.{cons_option, filter_map, slice_get}
use Rattle.std.proofs.lemmas.List.Elements.{All-contains_itself, All-head, All-tail}
use Rattle.elmore.specs.declared.parts.Sink.{Sink}
use Rattle.cut_laws.specs.Walks.{Signal, IsRetimed, Meets, slack_behind}
use Rattle.cut_laws.proofs.OneWalkLemmas.{one_retiming, one_walk}
use Rattle.vg_design.specs.Designs.{Design}
use Rattle.vg_retime.specs.Laws.{OneTiming}
use Rattle.vg_retime.specs.WalkNets.{WalkNet, timed}
use Rattle.vg_retime.specs.Ways.{Way, begins, first_wrong, timed_nets, wrong_in, IsWay}
use Rattle.vg_retime.proofs.LawLemmas.{less_way, one_first, same_at, same_meets, same_signals}

-- two functions that agree on a list keep the same of it
filter_agree : {X Y : Type 0} (f g : X → Option Y) (xs : List X) → All (λ x. f x ≡ g x) xs → filter_map f xs ≡ filter_map g xs
filter_agree f g [] same = λ i. []
filter_agree f g (x ∷ xs) same =
    ap (λ o. cons_option o (filter_map f xs)) (All-head (λ x. f x ≡ g x) x xs same)
    ∙ ap (cons_option (g x)) (filter_agree f g xs (All-tail (λ x. f x ≡ g x) x xs same))

module _ (d : Design) (prefix asked : List ℕ) (a b : Way) (p : IsWay 0 d prefix asked a) (q : IsWay 0 d prefix asked b) where
  -- the slack of a sink is the same
  same_slack : (s : Signal) (w : ℕ) (goal : Sink) → Contains a.signals s
      → slack_behind (timed_nets a.nets) a.first.driver s w goal ≡ slack_behind (timed_nets b.nets) b.first.driver s w goal
  same_slack s w goal come =
      let nets : a.nets s.net ≡ b.nets s.net = same_at 0 d prefix asked a b p q s come in
      λ i. slack_behind (λ id. timed (nets i)) (one_first 0 d prefix asked a b p q i).driver s w goal

  -- the nets of the one way re-time to what those of the other do
  retimed_there : (x : ℤ) → IsRetimed (timed_nets a.nets) a.first.net a.first.driver x → IsRetimed (timed_nets b.nets) b.first.net b.first.driver x
  retimed_there x r =
      let own : r.signals ≡ a.signals = one_walk (timed_nets a.nets) (begins a.first) r.signals a.signals r.walk p.walk in
      let (s, w, goal, meets, is) = r.met in
      let here : Meets (timed_nets a.nets) a.signals s w goal = subst (λ (xs : List Signal). Meets (timed_nets a.nets) xs s w goal) own meets in
      record {
        signals = b.signals;
        walk = q.walk;
        least = λ t u aim m.
            let back : Meets (timed_nets a.nets) a.signals t u aim = same_meets 0 d prefix asked b a q p t u aim m in
            subst (λ (y : ℤ). x ≤ℤ y) (same_slack t u aim back.come)
            (r.least t u aim (subst (λ (xs : List Signal). Meets (timed_nets a.nets) xs t u aim) (sym own) back));
        met = (s, w, goal, same_meets 0 d prefix asked a b p q s w goal here, is ∙ same_slack s w goal here.come);
      }

  same_wrong : first_wrong a.nets a.signals ≡ first_wrong b.nets b.signals
  same_wrong =
      ap (λ (l : List _). slice_get l 0)
      (filter_agree (λ s. wrong_in (a.nets s.net) s) (λ s. wrong_in (b.nets s.net) s) a.signals
      (λ k s low.
      let t : Signal = get_or a.signals k s in
      ap (λ (n : WalkNet). wrong_in n t) (same_at 0 d prefix asked a b p q t (All-contains_itself a.signals k s low))))
      ∙ ap (first_wrong b.nets) (same_signals 0 d prefix asked a b p q)

pub one_timing : OneTiming
one_timing k m d prefix asked a b p q =
    let here : IsWay 0 d prefix asked p.way = less_way k 0 (λ r low. absurd (omega (arith, low))) d prefix asked p.way p.is_way in
    let there : IsWay 0 d prefix asked q.way = less_way m 0 (λ r low. absurd (omega (arith, low))) d prefix asked q.way q.is_way in
    let slack : a.slack ≡ b.slack
    = one_retiming (timed_nets q.way.nets) q.way.first.net q.way.first.driver a.slack b.slack (retimed_there d prefix asked p.way q.way here there a.slack p.slack) q.slack in
    let wrong : a.wrong ≡ b.wrong = p.wrong ∙ same_wrong d prefix asked p.way q.way here there ∙ sym q.wrong in
    λ i. record { slack = slack i; wrong = wrong i }
