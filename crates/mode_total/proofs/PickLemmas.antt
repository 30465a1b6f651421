-- What is picked of the frontiers of nets, at each net.
use Rattle.std.proofs.Common.{◌≡◌, ℕ, zero, suc, ◌<◌, List, [], ◌∷◌, length, map, sym, ap, ◌∙◌, subst, arith, Option, All, AllPairs, Vec, get_or, zip}
use Rattle.std.specs.declared.alloc.Global.{Global}
use Rattle.std.proofs.lemmas.List.{get_or-map, get_or_default, length-map}
use Rattle.std.proofs.lemmas.List.FromFn.{length-map-range_with_len}
use Rattle.std.proofs.lemmas.Slice.Zip.{get_or-zip, length-zip}
use Rattle.std.specs.Prelude.{slice_index}
use Rattle.elmore.specs.FrontierLaws.{Exceeds}
use Rattle.elmore.specs.Placed.{IsPlacementOf}
use Rattle.elmore.specs.Trees.{node_at}
use Rattle.lib_linear.specs.declared.repeater.Repeater.{Repeater}
use Rattle.vg_front.specs.declared.root.Point.{Point as Pick}
use Rattle.vg_design.specs.Designs.{Design, name_of}
use Rattle.vg_design.specs.Parts.{loaded}
use Rattle.vg_total.specs.Picks.{IsPicked, points_in}
use Rattle.vg_total.specs.declared.pick.TotalPoint.{TotalPoint}
use Rattle.vg_total.proofs.LawLemmas.{found_rise}
use Rattle.mode_total.specs.Choices.{Accepted, AreChoices, IsChoice}
use Rattle.mode_total.specs.Picked.{AreFrontsFor, AreInside, NO_PICK, choice_in, picks_in}
use Rattle.mode_total.specs.Steps.{AreKept, ArePicksFor, IsPickFor}
use Rattle.mode_total.specs.declared.nets.Net.{Net}
use Rattle.mode_total.proofs.ChoiceLemmas.{fronts_long, inside_all, picks_long}
use Rattle.mode_total.proofs.TellLemmas.{kept_long, rows_good}

-- ---- inside the frontiers

-- the pick of a number stands inside its frontier
pub inside_at : (fronts : List (Vec Pick Global)) (picks : List ℕ) (at : ℕ) (front : Vec Pick Global) → AreInside fronts picks → at < length fronts
    → front ≡ get_or fronts at front → (at < length picks) × (get_or picks at 0 < length front.items)
inside_at [] picks at front inside low here = absurd (omega (arith, low))
inside_at (f ∷ fronts) [] at front inside low here = absurd inside
inside_at (f ∷ fronts) (pick ∷ picks) zero front inside low here =
    (omega arith, subst (λ (x : Vec Pick Global). pick < length x.items) (sym here) inside.0)
inside_at (f ∷ fronts) (pick ∷ picks) (suc at) front inside low here =
    let rest = inside_at fronts picks at front inside.1 (omega (arith, low)) here in
    (omega (arith, rest.0), rest.1)

-- and is this point of it
pub picked_at : (fronts : List (Vec Pick Global)) (picks : List ℕ) (at : ℕ) (front : Vec Pick Global) → AreInside fronts picks → at < length fronts
    → front ≡ get_or fronts at front → get_or (picks_in fronts picks) at NO_PICK ≡ get_or front.items (get_or picks at 0) NO_PICK
picked_at [] picks at front inside low here = absurd (omega (arith, low))
picked_at (f ∷ fronts) [] at front inside low here = absurd inside
picked_at (f ∷ fronts) (pick ∷ picks) zero front inside low here = ap (λ (x : Vec Pick Global). get_or x.items pick NO_PICK) (sym here)
picked_at (f ∷ fronts) (pick ∷ picks) (suc at) front inside low here = picked_at fronts picks at front inside.1 (omega (arith, low)) here

-- what is found stands inside
pub inside_found : (fronts : List (Vec Pick Global)) (x : TotalPoint) → IsPicked fronts x → AreInside fronts x.picks.items
inside_found fronts x is = inside_all fronts x.picks.items is.picks.one_each is.picks.inside

-- along the frontiers of nets cost and slack rise
pub fronts_rise : (cap : Option ℕ) (nets : List Accepted) (fronts : List (Vec Pick Global)) → AreFrontsFor cap nets fronts
    → All (λ (front : Vec Pick Global). AllPairs Exceeds (points_in front)) fronts
fronts_rise cap [] [] are k other low = absurd (omega (arith, low))
fronts_rise cap [] (f ∷ fronts) are k other low = absurd are
fronts_rise cap (own ∷ nets) [] are k other low = absurd are
fronts_rise cap (own ∷ nets) (f ∷ fronts) are zero other low = found_rise own.net.problem cap f.items are.0
fronts_rise cap (own ∷ nets) (f ∷ fronts) are (suc k) other low = fronts_rise cap nets fronts are.1 k other (omega (arith, low))

-- ---- for each net

module _ (d : Design) (cap : Option ℕ) (own : List Accepted) (nets : List Net) (fronts : List (Vec Pick Global)) (are : AreKept d cap own nets fronts) where
  pub picks_for : (x : TotalPoint) → AreInside fronts x.picks.items → IsChoice cap own (choice_in fronts x) → ArePicksFor d nets fronts x.picks.items
  picks_for x inside choice = record {
    count = kept_long d own nets are.each ∙ sym (fronts_long cap own fronts are.fronts_of);
    inside = inside;
    each = rows_good d cap own nets (picks_in fronts x.picks.items) are.each choice.each;
  }

  -- of each point
  pub all_picks : (points : List TotalPoint) → All (λ x. AreInside fronts x.picks.items) points → AreChoices own cap (map (choice_in fronts) points)
      → All (λ x. ArePicksFor d nets fronts x.picks.items) points
  all_picks points inside choices k x low =
      let choice = choices.each k (choice_in fronts x) (omega (arith, low, length-map points (choice_in fronts))) in
      picks_for (get_or points k x) (inside k x low) (subst (IsChoice cap own) (get_or-map (choice_in fronts) points k x (choice_in fronts x) low) choice)

-- a row of the picks
module _ (d : Design) (nets : List Net) (fronts : List (Vec Pick Global)) (picks : List ℕ) (are : ArePicksFor d nets fronts picks) (at : ℕ) (net : Net) (pick : Pick)
    (low : at < length nets) (is_net : net ≡ get_or nets at net) (is_pick : pick ≡ get_or (picks_in fronts picks) at NO_PICK) where
  picks_count : length (picks_in fronts picks) ≡ length nets
  picks_count = picks_long fronts picks are.inside ∙ sym are.count

  pub row_long : at < length (zip nets (picks_in fronts picks))
  row_long = (let e = length-zip nets (picks_in fronts picks) in omega (arith, e, picks_count, low))

  pub row_at : (net, pick) ≡ get_or (zip nets (picks_in fronts picks)) at (net, pick)
  row_at =
      let same : get_or (picks_in fronts picks) at NO_PICK ≡ get_or (picks_in fronts picks) at pick =
      get_or_default (picks_in fronts picks) at NO_PICK pick (omega (arith, low, picks_count)) in
      (λ i. (is_net i, (is_pick ∙ same) i)) ∙ sym (get_or-zip nets (picks_in fronts picks) at (net, pick) low (omega (arith, low, picks_count)))

  pub row_good : IsPickFor d (net, pick)
  row_good = subst (IsPickFor d) (sym row_at) (are.each at (net, pick) row_long)

-- ---- its cells

-- the cells of a good placement of a net that is kept are repeaters of the library, one for each node at most
pub pick_named : (d : Design) (net : Net) (pick : Pick) → IsPickFor d (net, pick)
    → IsPlacementOf (length net.names) (length d.library.repeaters) pick.placement.cells
pick_named d net pick (own, kept, good) =
    let is = kept.problem in
    let p = own.net.problem in
    let nodes : length p.tree.nodes ≡ length is.tree =
    ap length is.problem.tree_is ∙ length-map-range_with_len (λ i. loaded d is.net (node_at is.tree i) (slice_index is.order i)) 0 (length is.tree) in
    let both : length is.tree ≡ length is.order = is.a_tree.a_tree.count ∙ sym is.a_tree.a_tree.lists.count in
    let names : length net.names ≡ length is.order = ap length kept.names ∙ ap length is.names ∙ length-map is.order (name_of is.net.par) in
    let reps : length p.reps ≡ length d.library.repeaters = ap length is.problem.reps ∙ length-map d.library.repeaters (λ (r : Repeater). r.rep) in
    subst (λ (n : ℕ). IsPlacementOf n (length d.library.repeaters) pick.placement.cells) (nodes ∙ both ∙ sym names)
    (subst (λ (n : ℕ). IsPlacementOf (length p.tree.nodes) n pick.placement.cells) reps good.placement)
