-- Latest arrivals and earliest required times give the least slacks.
use Rattle.std.proofs.Common.{◌≡◌, ℕ, List, ◌++◌, ℤ, ◌+ℤ◌, ◌-ℤ◌, ◌≤ℤ◌, refl, ap, ◌∙◌, arith}
use Rattle.std.proofs.lemmas.Int.{ints}
use Rattle.sta_graph.specs.declared.graph.Graph.{Graph}
use Rattle.sta_graph.specs.Paths.{owner, delay_of, required_of, arrival_of, IsEnd, delay_along, IsPath, slack_of, IsLatest, IsEarliest, IsLeastThrough}
use Rattle.sta_graph.proofs.TrailLaws.{trail_append, delay_append, split, passes}

slack_parts : (g : Graph) (s e : ℕ) (a b trail : List ℕ) → trail ≡ a ++ b
    → slack_of g s trail e ≡ (required_of g e -ℤ (delay_along g b +ℤ delay_of g e)) -ℤ (arrival_of g s +ℤ delay_along g a)
slack_parts g s e a b trail is =
    let d : delay_along g trail ≡ delay_along g a +ℤ delay_along g b = ap (delay_along g) is ∙ delay_append g a b in
    omega (arith, ints)

pub least_through : (g : Graph) (v : ℕ) (a r : ℤ) → IsLatest g v a → IsEarliest g v r → IsLeastThrough g v (r -ℤ a)
least_through g v a r la er = record {
  start = la.start;
  trail = la.trail ++ er.trail;
  last = er.last;
  path = record { start = la.starts; ends = er.ends; leads = trail_append g la.start v (owner g er.last) la.trail er.trail la.leads er.leads };
  through = passes g la.start v er.last la.trail er.trail la.leads er.leads;
  attained =
      let e = slack_parts g la.start er.last la.trail er.trail (la.trail ++ er.trail) refl in
      let x = la.attained in
      let y = er.attained in
      omega (arith, ints);
  least = λ s others e path through.
      let (pre, post, to, on, is) = split g s v e others path.leads through in
      let f = slack_parts g s e pre post others is in
      let x = la.latest s pre path.start to in
      let y = er.earliest e post path.ends on in
      omega (arith, ints);
}

-- the least slack of the paths to the endpoint e
pub to_end : (g : Graph) (e : ℕ) (a : ℤ) → IsEnd g e → IsLatest g (owner g e) a
    → (s : ℕ) (trail : List ℕ) → IsPath g s trail e → ((required_of g e -ℤ delay_of g e) -ℤ a) ≤ℤ slack_of g s trail e
to_end g e a ends la s trail path =
    let x = la.latest s trail path.start path.leads in
    omega (arith, ints)

pub to_end_attained : (g : Graph) (e : ℕ) (a : ℤ) → IsEnd g e → (la : IsLatest g (owner g e) a)
    → IsPath g la.start la.trail e × ((required_of g e -ℤ delay_of g e) -ℤ a ≡ slack_of g la.start la.trail e)
to_end_attained g e a ends la =
    let x = la.attained in
    (record { start = la.starts; ends = ends; leads = la.leads }, omega (arith, ints))

pub one_slack : (g : Graph) (v : ℕ) (x y : ℤ) → IsLeastThrough g v x → IsLeastThrough g v y → x ≡ y
one_slack g v x y a b =
    let le = a.least b.start b.trail b.last b.path b.through in
    let ge = b.least a.start a.trail a.last a.path a.through in
    let at_a = a.attained in
    let at_b = b.attained in
    omega (arith, ints)
