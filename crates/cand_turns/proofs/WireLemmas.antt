-- How large the numbers of a class at a node are, and what its wire leaves of them under one of its widths.
use Rattle.std.proofs.Common.{map, ◌≡◌, ◌≢◌, ℕ, ◌+◌, ◌*◌, ◌^◌, ◌<◌, ◌≤◌, Bool, List, [], ◌∷◌, length, get_or, refl, sym, ap, ◌∙◌, subst, arith, zero, suc, Option}
use Rattle.std.specs.Prelude.{◌<ℤ◌, Some}
use Rattle.std.specs.List.{AllPairs, Contains}
use Rattle.std.proofs.lemmas.Bool.{ne_eqb}
use Rattle.std.proofs.lemmas.Int.{ints}
use Rattle.std.proofs.lemmas.List.{get_or_default, length-map}
use Rattle.elmore.specs.Pairs.{Dominates, IsBelow, IsUndominated}
use Rattle.elmore.specs.Trees.{resistance}
use Rattle.elmore.specs.declared.pair.Pair.{Pair}
use Rattle.elmore.specs.declared.problem.Problem.{Problem}
use Rattle.sol_arena.specs.declared.slot.Made.{Made}
use Rattle.sol_arena.specs.Meanings.{cells_of, with_own}
use Rattle.cand_pairs.specs.Merging.{IsSmallPair, Wires, Raises, raised}
use Rattle.cand_pairs.specs.Candidates.{IsLive, wired}
use Rattle.cand_pairs.proofs.MergeLemmas.{same_exact}
use Rattle.cand_pairs.proofs.StepLemmas.{over_trans}
use Rattle.wire_widths.specs.Widths.{added_by, plain, resistance_by, width_at, wire_r, wire_a}
use Rattle.wire_widths.specs.WidePairs.{IsWidePairAt, carried_by}
use Rattle.wire_widths.specs.WideSolutions.{wire_site, with_row}
use Rattle.wire_widths.specs.declared.width.Width.{Width}
use Rattle.wire_widths.proofs.WideSmallLemmas.{wide_pair_small, wide_carried_small, wire_r_small}
use Rattle.wire_widths.proofs.PlainLemmas.{first_carried}
use Rattle.cand_pool.specs.Candidates.{Candidate, Candidates, AreModest, loaded, wired_to}
use Rattle.cand_pool.specs.Sequences.{lowest}
use Rattle.cand_uses.specs.Pairs.{pair_of, pairs_of}
use Rattle.cand_uses.specs.Uses.{MeanTheSame}
use Rattle.cand_lists.specs.ListLaws.{AreRising, through_wire, above_wire}
use Rattle.cand_lists.proofs.KeptLemmas.{kept_length}
use Rattle.cand_lists.proofs.ExactLemmas.{wire_exact, load_exact, wire_loads, above_takes, pair_in}
use Rattle.cand_turns.specs.Solved.{CanWiden, AreSolved, Beside, IsBesideSolution}
use Rattle.cand_turns.specs.Widened.{IsClosedClass, IsChosen, AreChosen, RowWires, IsUnderRows}

-- candidates that are each small are modest
pub small_modest : (xs : Candidates) → ((x : Candidate) → Contains xs x → IsSmallPair (pair_of x)) → AreModest xs
small_modest [] small = tt
small_modest (x ∷ xs) small = (
  (let s : IsSmallPair (pair_of x) = small x (0, omega arith, refl) in record { low = omega (arith, ints, s.low); high = omega (arith, ints, s.high); load = s.load }),
  small_modest xs (λ y (k, k_n, e). small y (suc k, omega arith, e)),
)

pub closed_small : (p : Problem) (ws : List Width) (v : ℕ) (odd : Bool) (xs : Candidates) → CanWiden p ws → IsUndominated (IsWidePairAt p ws v odd) (pairs_of xs)
    → (x : Candidate) → Contains xs x → IsSmallPair (pair_of x)
closed_small p ws v odd xs can exact x found =
    let (k, k_n, e) = pair_in xs x found in
    wide_pair_small p ws v odd (pair_of x) can.are can.fits (subst (λ q. IsWidePairAt p ws v odd q) e (exact.taken k (pair_of x) k_n))

-- the pair of a candidate of an undominated list is one of the set
pub taken_of : (In : Pair → Type 0) (xs : Candidates) → IsUndominated In (pairs_of xs) → (x : Candidate) → Contains xs x → In (pair_of x)
taken_of In xs are x found = let (k, k_n, e) = pair_in xs x found in subst In e (are.taken k (pair_of x) k_n)

-- a pair of a list that is undominated
pub taken_pair : (In : Pair → Type 0) (ys : List Pair) → IsUndominated In ys → (y : Pair) → Contains ys y → In y
taken_pair In ys are y (k, k_n, e) = subst In e (are.taken k y k_n)

-- A LOAD BESIDE the upper end of a wire
raised_over : (c : ℕ) (x y : Pair) → Dominates x y → Dominates (raised c x) (raised c y)
raised_over c x y over = record { time = over.time; room = omega (arith, over.room) }

pub beside_exact : (c : ℕ) (In : Pair → Type 0) (xs ys : List Pair) → IsUndominated In xs → IsUndominated (Raises c xs) ys → IsUndominated (Beside c In) ys
beside_exact c In xs ys one two = record {
  rising = two.rising;
  taken = λ k d k_n. let (x, x_in, e) = two.taken k d k_n in (x, taken_pair In xs one x x_in, e);
  covers = λ z (y, y_in, z_is).
      let (x, x_in, x_y) = one.covers y y_in in
      let (w, w_in, w_x) = two.covers (raised c x) (x, x_in, refl) in
      (w, w_in, over_trans z (raised c x) w (subst (λ (q : Pair). Dominates (raised c x) q) (sym z_is) (raised_over c x y x_y)) w_x);
}

-- the same of a set that has the same pairs
pub beside_alike : (c : ℕ) (A B : Pair → Type 0) (xs : List Pair) → ((z : Pair) → A z → B z) → ((z : Pair) → B z → A z) → IsUndominated (Beside c A) xs → IsUndominated (Beside c B) xs
beside_alike c A B xs to from are = same_exact (Beside c A) (Beside c B) xs (λ z (y, y_in, e). (y, to y y_in, e)) (λ z (y, y_in, e). (y, from y y_in, e)) are

-- a wire of this resistance makes of an undominated list, with a load beside its upper end
pub above_exact : (r c : ℕ) (xs : Candidates) → r < 2 ^ 64 → AreRising xs → AreModest xs → IsUndominated (Beside c (Wires r (pairs_of xs))) (pairs_of (above_wire r c xs))
above_exact r c xs r_n rise modest =
    let wired_are : IsUndominated (Wires r (pairs_of xs)) (pairs_of (through_wire r xs)) = wire_exact r xs r_n rise modest in
    subst (λ (zs : Candidates). IsUndominated (Beside c (Wires r (pairs_of xs))) (pairs_of zs)) (sym (wire_loads r c xs))
    (beside_exact c (Wires r (pairs_of xs)) (pairs_of (through_wire r xs)) (pairs_of (map (loaded c) (through_wire r xs))) wired_are (load_exact c (through_wire r xs) wired_are.rising))

pub wire_length : (r c : ℕ) (xs : Candidates) → length (above_wire r c xs) ≤ length xs
wire_length r c xs = omega (arith, kept_length lowest (map (wired_to r c) xs), length-map xs (wired_to r c))

-- CHOSEN CANDIDATES
pub chosen_length : (old new : List Made) (site row added : ℕ) (xs zs : Candidates) → AreChosen old new site row added xs zs → length zs ≡ length xs
chosen_length old new site row added [] [] all = refl
chosen_length old new site row added [] (z ∷ zs) all = absurd all
chosen_length old new site row added (x ∷ xs) [] all = absurd all
chosen_length old new site row added (x ∷ xs) (z ∷ zs) all = ap suc (chosen_length old new site row added xs zs all.1)

pub chosen_pairs : (old new : List Made) (site row added : ℕ) (xs zs : Candidates) → AreChosen old new site row added xs zs → pairs_of zs ≡ map (raised added) (pairs_of xs)
chosen_pairs old new site row added [] [] all = refl
chosen_pairs old new site row added [] (z ∷ zs) all = absurd all
chosen_pairs old new site row added (x ∷ xs) [] all = absurd all
chosen_pairs old new site row added (x ∷ xs) (z ∷ zs) all =
    let first : pair_of z ≡ raised added (pair_of x) = all.0.pair in
    let rest : pairs_of zs ≡ map (raised added) (pairs_of xs) = chosen_pairs old new site row added xs zs all.1 in
    λ i. first i ∷ rest i

pub chosen_from : (old new : List Made) (site row added : ℕ) (xs zs : Candidates) → AreChosen old new site row added xs zs
    → (z : Candidate) → Contains zs z → (x : Candidate) × Contains xs x × IsChosen old new site row added x z
chosen_from old new site row added [] [] all z (k, k_n, e) = absurd (omega arith)
chosen_from old new site row added [] (y ∷ zs) all z found = absurd all
chosen_from old new site row added (x ∷ xs) [] all z found = absurd all
chosen_from old new site row added (x ∷ xs) (y ∷ zs) all z (zero, k_n, e) = (x, (0, omega arith, refl), subst (λ (w : Candidate). IsChosen old new site row added x w) e all.0)
chosen_from old new site row added (x ∷ xs) (y ∷ zs) all z (suc k, k_n, e) =
    let (w, (j, j_n, f), is) = chosen_from old new site row added xs zs all.1 z (k, omega arith, e) in (w, (suc j, omega arith, f), is)

raised_at : (a : ℕ) (ys : List Pair) (k : ℕ) (d : Pair) → k < length ys → get_or (map (raised a) ys) k d ≡ raised a (get_or ys k d)
raised_at a [] k d k_n = absurd (omega arith)
raised_at a (y ∷ ys) zero d k_n = refl
raised_at a (y ∷ ys) (suc k) d k_n = raised_at a ys k d (omega arith)

raised_below : (a : ℕ) (x y : Pair) → IsBelow x y → IsBelow (raised a x) (raised a y)
raised_below a x y below = record { time = below.time; room = omega (arith, below.room) }

raised_rise : (a : ℕ) (ys : List Pair) → AllPairs IsBelow ys → AllPairs IsBelow (map (raised a) ys)
raised_rise a ys rise i j d i_j j_n =
    let i_n : i < length ys = omega (arith, length-map ys (raised a)) in
    let j_m : j < length ys = omega (arith, length-map ys (raised a)) in
    subst (λ (q : Pair). IsBelow q (get_or (map (raised a) ys) j d)) (sym (raised_at a ys i d i_n))
    (subst (λ (q : Pair). IsBelow (raised a (get_or ys i d)) q) (sym (raised_at a ys j d j_m)) (raised_below a (get_or ys i d) (get_or ys j d) (rise i j d i_j j_m)))

pub chosen_rise : (old new : List Made) (site row added : ℕ) (xs zs : Candidates) → AreChosen old new site row added xs zs → AreRising xs → AreRising zs
chosen_rise old new site row added xs zs all rise = subst (AllPairs IsBelow) (sym (chosen_pairs old new site row added xs zs all)) (raised_rise added (pairs_of xs) rise)

-- a raised pair of a list
raised_in : (a : ℕ) (ys : List Pair) (z : Pair) → Contains (map (raised a) ys) z → (y : Pair) × Contains ys y × (z ≡ raised a y)
raised_in a [] z (k, k_n, e) = absurd (omega arith)
raised_in a (y ∷ ys) z (zero, k_n, e) = (y, (0, omega arith, refl), sym e)
raised_in a (y ∷ ys) z (suc k, k_n, e) = let (w, (j, j_n, f), is) = raised_in a ys z (k, omega arith, e) in (w, (suc j, omega arith, f), is)

in_raised : (a : ℕ) (ys : List Pair) (y : Pair) → Contains ys y → Contains (map (raised a) ys) (raised a y)
in_raised a [] y (k, k_n, e) = absurd (omega arith)
in_raised a (x ∷ ys) y (zero, k_n, e) = (0, omega arith, ap (raised a) e)
in_raised a (x ∷ ys) y (suc k, k_n, e) = let (j, j_n, f) = in_raised a ys y (k, omega arith, e) in (suc j, omega arith, f)

-- A CLASS UNDER ONE WIDTH
module _ (p : Problem) (ws : List Width) (can : CanWiden p ws) (v : ℕ) (odd : Bool) (v_n : v < length p.tree.nodes) (some : v ≢ 0) (live : IsLive p v)
    (kept : List Pair) (exact : IsUndominated (IsWidePairAt p ws v odd) kept) where
  pub carried_small : (row : ℕ) (y : Pair) → row < length ws → Contains kept y
      → (y.c + wire_a p ws row v ≤ 10 ^ 11) × (wire_r p ws row v * (y.c + wire_a p ws row v) ≤ 10 ^ 23)
  carried_small row y row_n y_in = wide_carried_small p ws row v odd y can.are can.fits (taken_pair (IsWidePairAt p ws v odd) kept exact y y_in) row_n live some

  -- what a wire leaves is over the lowest time
  pub rows_over : (c from to : ℕ) (ms : List Made) (xs : Candidates) → to ≤ length ws → IsUnderRows p ws v c odd kept from to ms xs
      → (x : Candidate) → Contains xs x → lowest <ℤ x.q
  rows_over c from to ms xs to_n is x found =
      let (z, (i, y, low, high, y_in, z_is), x_is) = taken_of (Beside c (RowWires p ws v from to kept)) xs is.exact x found in
      let small : IsSmallPair y = wide_pair_small p ws v odd y can.are can.fits (taken_pair (IsWidePairAt p ws v odd) kept exact y y_in) in
      let charge = (carried_small i y (omega (arith, high, to_n)) y_in).1 in
      omega (arith, ints, ap (λ (q : Pair). q.q) x_is, ap (λ (q : Pair). q.q) z_is, small.low, charge)

pub chosen_modest : (p : Problem) (ws : List Width) (can : CanWiden p ws) (v : ℕ) (odd : Bool) (v_n : v < length p.tree.nodes) (some : v ≢ 0) (live : IsLive p v)
    (old new : List Made) (row : ℕ) (xs zs : Candidates) → row < length ws → IsUndominated (IsWidePairAt p ws v odd) (pairs_of xs)
    → AreChosen old new (wire_site p v) row (wire_a p ws row v) xs zs → AreModest zs
chosen_modest p ws can v odd v_n some live old new row xs zs row_n exact all =
    small_modest zs (λ z found.
    let (x, x_in, is) = chosen_from old new (wire_site p v) row (wire_a p ws row v) xs zs all z found in
    let small : IsSmallPair (pair_of x) = closed_small p ws v odd xs can exact x x_in in
    let load = (carried_small p ws can v odd v_n some live (pairs_of xs) exact row (pair_of x) row_n (pair_in xs x x_in)).0 in
    let q_is : z.q ≡ x.q = ap (λ (q : Pair). q.q) is.pair in
    let c_is : z.c ≡ x.c + wire_a p ws row v = ap (λ (q : Pair). q.c) is.pair in
    record { low = omega (arith, ints, small.low, q_is); high = omega (arith, ints, small.high, q_is); load = omega (arith, load, c_is) })

-- what the wire of v, under a width that is not the first, makes of the candidates of a class there
pub under_row : (p : Problem) (ws : List Width) (can : CanWiden p ws) (v : ℕ) (odd : Bool) (v_n : v < length p.tree.nodes) (some : v ≢ 0) (live : IsLive p v)
    (old new last : List Made) (row r a c : ℕ) (xs zs : Candidates) → 0 < row → row < length ws → r ≡ wire_r p ws row v → a ≡ wire_a p ws row v → IsClosedClass p ws v odd old xs
    → AreChosen old new (wire_site p v) row a xs zs → MeanTheSame new last (above_wire r c zs)
    → IsUnderRows p ws v c odd (pairs_of xs) row (row + 1) last (above_wire r c zs)
under_row p ws can v odd v_n some live old new last row r a c xs zs more row_n r_is a_is class all same = record {
  exact = beside_alike c (Wires r (pairs_of zs)) (RowWires p ws v row (row + 1) (pairs_of xs)) (pairs_of (above_wire r c zs)) to from
      (above_exact r c zs r_n (chosen_rise old new (wire_site p v) row a xs zs all class.exact.rising) modest);
  solved = solved;
} where
  made : AreChosen old new (wire_site p v) row (wire_a p ws row v) xs zs
  made = subst (λ (k : ℕ). AreChosen old new (wire_site p v) row k xs zs) a_is all

  modest : AreModest zs
  modest = chosen_modest p ws can v odd v_n some live old new row xs zs row_n class.exact made

  r_n : r < 2 ^ 64
  r_n = omega (arith, r_is, wire_r_small p ws row v can.are v_n)

  pairs_are : pairs_of zs ≡ map (raised (wire_a p ws row v)) (pairs_of xs)
  pairs_are = chosen_pairs old new (wire_site p v) row (wire_a p ws row v) xs zs made

  wire_is : (y : Pair) → wired r (raised (wire_a p ws row v) y) ≡ carried_by p ws v row y
  wire_is y = ap (λ (k : ℕ). wired k (raised (wire_a p ws row v) y)) r_is

  to : (z : Pair) → Wires r (pairs_of zs) z → RowWires p ws v row (row + 1) (pairs_of xs) z
  to z (y, y_in, z_is) =
      let (x, x_in, y_is) = raised_in (wire_a p ws row v) (pairs_of xs) y (subst (λ (ys : List Pair). Contains ys y) pairs_are y_in) in
      (row, x, omega arith, omega arith, x_in, z_is ∙ ap (wired r) y_is ∙ wire_is x)

  one_row : (i : ℕ) → row ≤ i → i < row + 1 → i ≡ row
  one_row i low high = omega (arith, low, high)

  from : (z : Pair) → RowWires p ws v row (row + 1) (pairs_of xs) z → Wires r (pairs_of zs) z
  from z (i, y, low, high, y_in, z_is) = (
    raised (wire_a p ws row v) y,
    subst (λ (ys : List Pair). Contains ys (raised (wire_a p ws row v) y)) (sym pairs_are) (in_raised (wire_a p ws row v) (pairs_of xs) y y_in),
    z_is ∙ ap (λ (k : ℕ). carried_by p ws v k y) (one_row i low high) ∙ sym (wire_is y),
  )

  row_held : (g : ℕ → Option ℕ) (site : ℕ) → with_own (wire_site p v) (Some row) g site ≡ with_row p v row g site
  row_held g site = rw (ne_eqb row 0 (λ e. omega (arith, more, e))) refl

  solved : AreSolved (IsBesideSolution p ws v c odd) last (above_wire r c zs)
  solved z found =
      let (w, w_in, z_is) = above_takes r c zs z found in
      let (x, x_in, is) = chosen_from old new (wire_site p v) row (wire_a p ws row v) xs zs made w w_in in
      let tag_is : z.tag ≡ w.tag = ap (λ (k : Candidate). k.tag) z_is in
      let held_is : cells_of last z.tag ≡ with_own (wire_site p v) (Some row) (cells_of old x.tag)
      = same z found ∙ ap (cells_of new) tag_is ∙ is.means in (
        carried_by p ws v row (pair_of x),
        record {
          below = cells_of old x.tag;
          row = row;
          pair = pair_of x;
          named = row_n;
          solution = class.solved x x_in;
          carried = refl;
          held_is = λ site. ap (λ (f : ℕ → Option ℕ). f site) held_is ∙ row_held (cells_of old x.tag) site;
        },
        ap pair_of z_is ∙ ap (λ (q : Pair). raised c (wired r q)) is.pair ∙ ap (raised c) (wire_is (pair_of x)),
      )

-- and under the first width, as it is
pub under_first : (p : Problem) (ws : List Width) (can : CanWiden p ws) (v : ℕ) (odd : Bool) (v_n : v < length p.tree.nodes)
    (old last : List Made) (r c : ℕ) (xs : Candidates) → r ≡ resistance p.tree.nodes v → r < 2 ^ 64 → IsClosedClass p ws v odd old xs → MeanTheSame old last (above_wire r c xs)
    → IsUnderRows p ws v c odd (pairs_of xs) 0 1 last (above_wire r c xs)
under_first p ws can v odd v_n old last r c xs r_is r_n class same = record {
  exact = beside_alike c (Wires r (pairs_of xs)) (RowWires p ws v 0 1 (pairs_of xs)) (pairs_of (above_wire r c xs)) to from
      (above_exact r c xs r_n class.exact.rising (small_modest xs (closed_small p ws v odd xs can class.exact)));
  solved = solved;
} where
  wire_is : (y : Pair) → wired r y ≡ carried_by p ws v 0 y
  wire_is y = ap (λ (k : ℕ). wired k y) r_is ∙ sym (first_carried p ws v y can.are)

  to : (z : Pair) → Wires r (pairs_of xs) z → RowWires p ws v 0 1 (pairs_of xs) z
  to z (y, y_in, z_is) = (0, y, omega arith, omega arith, y_in, z_is ∙ wire_is y)

  from : (z : Pair) → RowWires p ws v 0 1 (pairs_of xs) z → Wires r (pairs_of xs) z
  from z (i, y, low, high, y_in, z_is) =
      let first : i ≡ 0 = omega (arith, high) in
      (y, y_in, z_is ∙ ap (λ (k : ℕ). carried_by p ws v k y) first ∙ sym (wire_is y))

  solved : AreSolved (IsBesideSolution p ws v c odd) last (above_wire r c xs)
  solved z found =
      let (x, x_in, z_is) = above_takes r c xs z found in
      let held_is : cells_of last z.tag ≡ cells_of old x.tag = same z found ∙ ap (λ (k : Candidate). cells_of old k.tag) z_is in (
        carried_by p ws v 0 (pair_of x),
        record {
          below = cells_of old x.tag;
          row = 0;
          pair = pair_of x;
          named = can.are.some;
          solution = class.solved x x_in;
          carried = refl;
          held_is = λ site. ap (λ (f : ℕ → Option ℕ). f site) held_is;
        },
        ap pair_of z_is ∙ ap (raised c) (wire_is (pair_of x)),
      )

-- what a width adds to a wire, and leaves of its resistance
abbrev pub no_width : Width
no_width = record { num = 0; den = 0; add = 0 }

pub added_told : (p : Problem) (ws : List Width) (row v r a : ℕ) → row < length ws → r ≡ resistance p.tree.nodes v → a ≡ added_by (get_or ws row no_width) r → a ≡ wire_a p ws row v
added_told p ws row v r a row_n r_is a_is = a_is ∙ ap (λ (w : Width). added_by w r) (get_or_default ws row no_width plain row_n) ∙ ap (added_by (width_at ws row)) r_is

pub resistance_told : (p : Problem) (ws : List Width) (row v r s : ℕ) → row < length ws → r ≡ resistance p.tree.nodes v → s ≡ resistance_by (get_or ws row no_width) r → s ≡ wire_r p ws row v
resistance_told p ws row v r s row_n r_is s_is = s_is ∙ ap (λ (w : Width). resistance_by w r) (get_or_default ws row no_width plain row_n) ∙ ap (resistance_by (width_at ws row)) r_is
