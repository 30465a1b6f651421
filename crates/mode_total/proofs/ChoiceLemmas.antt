-- What a search over the frontiers of nets finds are choices of a placement for each net.
use Rattle.std.proofs.Common.{◌≡◌, ℕ, zero, suc, ◌+◌, ◌<◌, ◌==◌, false, ◌≤ℤ◌, List, [], ◌∷◌, length, map, refl, sym, ap, ◌∙◌, subst, arith, Option, None, All, sum_by, get_or, Vec, fold}
use Rattle.std.specs.List.{AllZip, range_with_len}
use Rattle.std.specs.declared.alloc.Global.{Global}
use Rattle.std.proofs.lemmas.List.{get_or-map, length-map}
use Rattle.std.proofs.lemmas.List.Elements.{All-from_get_or, All-map, All-weaker}
use Rattle.std.proofs.Math.ListN.{get_or-map as get_or-map_same}
use Rattle.std.proofs.lemmas.Option.{slice_get-get_or, get_or_from_slice_get}
use Rattle.elmore.specs.Path.{nodes as numbers}
use Rattle.elmore.specs.Frontier.{Point, IsAttained, IsFrontier, IsOnFrontier}
use Rattle.elmore.specs.declared.problem.Problem.{Problem}
use Rattle.vg_front.specs.Points.{point_in}
use Rattle.vg_front.specs.declared.root.Point.{Point as Pick}
use Rattle.vg_total.specs.Picks.{AreTotals, IsPicked, at_of, front_at, picked_by, total_point}
use Rattle.vg_total.specs.Totals.{IsTotal, IsListed, IsAttainedAt}
use Rattle.vg_total.specs.declared.pick.TotalPoint.{TotalPoint}
use Rattle.vg_total.proofs.TotalLemmas.{total_of_all}
use Rattle.mode_total.specs.Choices.{Accepted, AreChoices, IsChoice, IsPick, IsDesignFrontier, of_nets, total_of}
use Rattle.mode_total.specs.Picked.{AreFrontsFor, AreInside, IsFrontFor, NO_PICK, choice_in, picks_in}

-- ---- the frontier

-- two sets that are the same have the same frontier
same_frontier : (In Of : Point → Type 0) (points : List Point) → ((x : Point) → In x → Of x) → ((x : Point) → Of x → In x) → IsFrontier In points → IsFrontier Of points
same_frontier In Of points there back f = record {
  rising = f.rising;
  taken = λ k d k_n. record {
    attained = there (get_or points k d) (f.taken k d k_n).attained;
    alone = λ other other_of. (f.taken k d k_n).alone other (back other other_of);
  };
  covers = λ y y_of. f.covers y (back y y_of);
}

-- of no net there is no choice
no_nets : (cap : Option ℕ) → AreChoices [] cap []
no_nets cap = record {
  frontier = record {
    rising = λ i j d i_j j_n. absurd (omega arith);
    taken = λ k d k_n. absurd (omega arith);
    covers = λ y (choice, by). (let (k, k_n, is) = by.total.least.met in absurd (omega (arith, k_n)));
  };
  each = λ k d k_n. absurd (omega arith);
}

-- the frontier of the net of a number
front_for : (cap : Option ℕ) (nets : List Accepted) (fronts : List (Vec Pick Global)) (k : ℕ) (first : Accepted) → AreFrontsFor cap nets fronts → k < length nets
    → IsFrontier (IsAttained (get_or nets k first).net.problem cap) (front_at fronts k)
front_for cap [] [] k first all low = absurd (omega (arith, low))
front_for cap [] (f ∷ fronts) k first all low = absurd all
front_for cap (own ∷ nets) [] k first all low = absurd all
front_for cap (own ∷ nets) (f ∷ fronts) zero first all low = all.0.frontier
front_for cap (own ∷ nets) (f ∷ fronts) (suc k) first all low = front_for cap nets fronts k first all.1 (omega (arith, low))

pub fronts_long : (cap : Option ℕ) (nets : List Accepted) (fronts : List (Vec Pick Global)) → AreFrontsFor cap nets fronts → length fronts ≡ length nets
fronts_long cap [] [] all = refl
fronts_long cap [] (f ∷ fronts) all = absurd all
fronts_long cap (own ∷ nets) [] all = absurd all
fronts_long cap (own ∷ nets) (f ∷ fronts) all = ap suc (fronts_long cap nets fronts all.1)

module _ (own : Accepted) (nets : List Accepted) (cap : Option ℕ) where
  abbrev problems : ℕ → Problem
  problems k = (get_or (own ∷ nets) k own).net.problem

  total_there : (x : Point) → IsTotal (length (own ∷ nets)) (IsAttainedAt problems) cap x → IsTotal (length (own ∷ nets)) (of_nets (own ∷ nets)) cap x
  total_there x (choice, by) = (
    choice,
    record {
      chosen = λ k k_n. (get_or (own ∷ nets) k own, slice_get-get_or (own ∷ nets) k own k_n, by.chosen k k_n);
      total = by.total;
      within = by.within;
    },
  )

  total_back : (x : Point) → IsTotal (length (own ∷ nets)) (of_nets (own ∷ nets)) cap x → IsTotal (length (own ∷ nets)) (IsAttainedAt problems) cap x
  total_back x (choice, by) = (
    choice,
    record {
      chosen = λ k k_n.
          let (one, is, attained) = by.chosen k k_n in
          subst (λ (a : Accepted). IsAttained a.net.problem None (choice k)) (sym (get_or_from_slice_get (own ∷ nets) k one own is)) attained;
      total = by.total;
      within = by.within;
    },
  )

  total_frontier : (fronts : List (Vec Pick Global)) (points : List Point) → AreFrontsFor cap (own ∷ nets) fronts
      → IsFrontier (IsTotal (length fronts) (IsListed (front_at fronts)) cap) points → IsDesignFrontier (own ∷ nets) cap points
  total_frontier fronts points fronts_are f =
      same_frontier (IsTotal (length (own ∷ nets)) (IsAttainedAt problems) cap) (IsTotal (length (own ∷ nets)) (of_nets (own ∷ nets)) cap) points total_there total_back
      (total_of_all (length (own ∷ nets)) problems (front_at fronts) cap points (λ k k_n. front_for cap (own ∷ nets) fronts k own fronts_are k_n)
      (subst (λ (n : ℕ). IsFrontier (IsTotal n (IsListed (front_at fronts)) cap) points) (fronts_long cap (own ∷ nets) fronts fronts_are) f))

-- ---- one choice

pub inside_all : (fronts : List (Vec Pick Global)) (picks : List ℕ) → length picks ≡ length fronts
    → ((k : ℕ) → k < length fronts → at_of picks k < length (front_at fronts k)) → AreInside fronts picks
inside_all [] [] long inside = tt
inside_all [] (at ∷ picks) long inside = absurd (omega (arith, long))
inside_all (f ∷ fronts) [] long inside = absurd (omega (arith, long))
inside_all (f ∷ fronts) (at ∷ picks) long inside = (
  (let first = inside 0 (omega arith) in omega (arith, first, length-map f.items point_in)),
  inside_all fronts picks (omega (arith, long)) (λ k low. inside (suc k) (omega (arith, low))),
)

point_at : (xs : List Pick) (k : ℕ) → get_or (map point_in xs) k (point_in NO_PICK) ≡ point_in (get_or xs k NO_PICK)
point_at xs k = get_or-map_same point_in xs k NO_PICK

-- what is picked of a frontier
picked_is : (fronts : List (Vec Pick Global)) (picks : List ℕ) (k : ℕ) → AreInside fronts picks → k < length fronts
    → picked_by fronts picks k ≡ point_in (get_or (picks_in fronts picks) k NO_PICK)
picked_is [] picks k inside low = absurd (omega (arith, low))
picked_is (f ∷ fronts) [] k inside low = absurd inside
picked_is (f ∷ fronts) (at ∷ picks) zero inside low = point_at f.items at
picked_is (f ∷ fronts) (at ∷ picks) (suc k) inside low = picked_is fronts picks k inside.1 (omega (arith, low))

pub picks_long : (fronts : List (Vec Pick Global)) (picks : List ℕ) → AreInside fronts picks → length (picks_in fronts picks) ≡ length fronts
picks_long [] [] inside = refl
picks_long [] (at ∷ picks) inside = absurd inside
picks_long (f ∷ fronts) [] inside = absurd inside
picks_long (f ∷ fronts) (at ∷ picks) inside = ap suc (picks_long fronts picks inside.1)

-- a pick of a net's frontier
pick_of : (cap : Option ℕ) (own : Accepted) (front : Vec Pick Global) (at : ℕ) → IsFrontFor cap own front → at < length front.items
    → IsPick cap own (get_or front.items at NO_PICK)
pick_of cap own front at is low = record {
  placed = is.placed at NO_PICK low;
  alone =
      subst (IsOnFrontier (IsAttained own.net.problem cap)) (point_at front.items at)
      (is.frontier.taken at (point_in NO_PICK) (omega (arith, low, length-map front.items point_in)));
}

picks_of : (cap : Option ℕ) (nets : List Accepted) (fronts : List (Vec Pick Global)) (picks : List ℕ) → AreFrontsFor cap nets fronts → AreInside fronts picks
    → AllZip (IsPick cap) nets (picks_in fronts picks)
picks_of cap [] [] [] are inside = tt
picks_of cap [] [] (at ∷ picks) are inside = absurd inside
picks_of cap [] (f ∷ fronts) picks are inside = absurd are
picks_of cap (own ∷ nets) [] picks are inside = absurd are
picks_of cap (own ∷ nets) (f ∷ fronts) [] are inside = absurd inside
picks_of cap (own ∷ nets) (f ∷ fronts) (at ∷ picks) are inside = (pick_of cap own f at are.0 inside.0, picks_of cap nets fronts picks are.1 inside.1)

-- a sum over numbers is one over what stands there
sum_from : {X : Type 0} (f : ℕ → ℕ) (g : X → ℕ) (xs : List X) (d : X) (a b : ℕ) → ((k : ℕ) → k < length xs → f (a + k) ≡ g (get_or xs k d))
    → fold (λ (n : ℕ) (k : ℕ). n + f k) b (range_with_len a (length xs)) ≡ fold (λ (n : ℕ) (x : X). n + g x) b xs
sum_from f g [] d a b is = refl
sum_from f g (x ∷ xs) d a b is =
    let here : f a ≡ g x = ap f (omega arith) ∙ is 0 (omega arith) in
    ap (λ (n : ℕ). fold (λ (m : ℕ) (k : ℕ). m + f k) (b + n) (range_with_len (a + 1) (length xs))) here
    ∙ sum_from f g xs d (a + 1) (b + g x) (λ k low. ap f (omega arith) ∙ is (suc k) (omega (arith, low)))

module _ (cap : Option ℕ) (nets : List Accepted) (fronts : List (Vec Pick Global)) (are : AreFrontsFor cap nets fronts) where
  choice_of : (x : TotalPoint) → IsPicked fronts x → IsChoice cap nets (choice_in fronts x)
  choice_of x is =
      let picks = x.picks.items in
      let inside = inside_all fronts picks is.picks.one_each is.picks.inside in
      let long = picks_long fronts picks inside in
      let picked = picks_in fronts picks in
      let at : (k : ℕ) → k < length picked → picked_by fronts picks k ≡ point_in (get_or picked k NO_PICK) =
      (λ k low. picked_is fronts picks k inside (omega (arith, low, long))) in
      record {
        each = picks_of cap nets fronts picks are inside;
        cost =
            is.total.cost ∙ ap (λ (n : ℕ). sum_by (λ k. (picked_by fronts picks k).cost) (numbers n)) (sym long)
            ∙ sum_from (λ k. (picked_by fronts picks k).cost) (λ (pick : Pick). pick.cost) picked NO_PICK 0 0 (λ k low. ap (λ (j : ℕ). (picked_by fronts picks j).cost) (omega arith) ∙ ap (λ (p : Point). p.cost) (at k low));
        least = All-from_get_or (λ (pick : Pick). x.slack ≤ℤ pick.slack) picked NO_PICK (λ k low.
            subst (λ (p : Point). x.slack ≤ℤ p.slack) (at k low) (is.total.least.below k (omega (arith, low, long))));
        met =
            let (k, low, same) = is.total.least.met in
            let within : k < length picked = omega (arith, low, long) in (
              k,
              omega (arith, within, length-map picked (λ (pick : Pick). pick.slack)),
              get_or-map (λ (pick : Pick). pick.slack) picked k NO_PICK x.slack within ∙ sym (same ∙ ap (λ (p : Point). p.slack) (at k within)),
            );
      }

  each_choice : (points : List TotalPoint) → All (IsPicked fronts) points → All (IsChoice cap nets) (map (choice_in fronts) points)
  each_choice points picked =
      All-map (IsChoice cap nets) (choice_in fronts) points
      (All-weaker (IsPicked fronts) (λ x. IsChoice cap nets (choice_in fronts x)) choice_of points picked)

totals_of : (fronts : List (Vec Pick Global)) (points : List TotalPoint) → map total_of (map (choice_in fronts) points) ≡ map total_point points
totals_of fronts [] = refl
totals_of fronts (x ∷ points) = ap (λ xs. total_point x ∷ xs) (totals_of fronts points)

-- what is found among the frontiers of nets are their choices
choices_are : (cap : Option ℕ) (own : Accepted) (nets : List Accepted) (fronts : List (Vec Pick Global)) (points : List TotalPoint)
    → AreFrontsFor cap (own ∷ nets) fronts → AreTotals fronts cap points → AreChoices (own ∷ nets) cap (map (choice_in fronts) points)
choices_are cap own nets fronts points are found = record {
  frontier =
      subst (IsDesignFrontier (own ∷ nets) cap) (sym (totals_of fronts points)) (total_frontier own nets cap fronts (map total_point points) are found.frontier);
  each = each_choice cap (own ∷ nets) fronts are points found.picked;
}

-- whatever their number is
pub choices_for : (cap : Option ℕ) (nets : List Accepted) (fronts : List (Vec Pick Global)) (points : List TotalPoint) → 0 < length fronts
    → AreFrontsFor cap nets fronts → AreTotals fronts cap points → AreChoices nets cap (map (choice_in fronts) points)
choices_for cap [] [] points some are found = absurd (omega (arith, some))
choices_for cap [] (f ∷ fronts) points some are found = absurd are
choices_for cap (own ∷ nets) fronts points some are found = choices_are cap own nets fronts points are found

pub no_choices : (cap : Option ℕ) (nets : List Accepted) (fronts : List (Vec Pick Global)) (points : List TotalPoint) → length fronts ≡ 0 → points ≡ []
    → AreFrontsFor cap nets fronts → AreChoices nets cap (map (choice_in fronts) points)
no_choices cap [] fronts points none empty are =
    subst (λ (some : List TotalPoint). AreChoices [] cap (map (choice_in fronts) some)) (sym empty) (no_nets cap)
no_choices cap (own ∷ nets) [] points none empty are = absurd are
no_choices cap (own ∷ nets) (f ∷ fronts) points none empty are = absurd (omega (arith, none))

pub some_in : {A : Type 0} (xs : List A) → (length xs == 0) ≡ false → 0 < length xs
some_in [] test = absurd cc
some_in (x ∷ xs) test = omega arith
