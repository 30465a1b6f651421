-- The capacitance at each node of a stage.
use Rattle.std.proofs.Common.{◌≡◌, ◌≢◌, ℕ, zero, suc, ◌+◌, ◌<◌, ◌==◌, Bool, true, false, not, cond, List, [], ◌∷◌, length, map, slice_index, refl, sym, ap, ◌∙◌, arith}
use Rattle.std.specs.List.{All, AllPairs, Contains}
use Rattle.std.proofs.lemmas.Bool.{eq-eqb, ne_eqb}
use Rattle.std.proofs.lemmas.List.{get_or-map, length-map}
use Rattle.std.proofs.lemmas.List.Elements.{All-append, All-contains_itself, All-filter, Contains-get_or}
use Rattle.vg_split.specs.Stages.{members}
use Rattle.spef_write.specs.Sections.{cap_nodes, each_once, total_at}
use Rattle.spef_write.proofs.OnceLemmas.{once_same}
use Rattle.vg_split.specs.Splits.{Split, cap_in, ends_in, forest, head, inner_in, is_end, nodes_in, place_in}
use Rattle.vg_split.specs.Steps.{AreNumbered, cap_row}
use Rattle.vg_split.proofs.ChargeLemmas.{total_at_cons}
use Rattle.vg_split.proofs.MemberLemmas.{members_rise}
use Rattle.vg_split.proofs.PlaceLemmas.{later, placed, stands}

-- ---- rows of numbers and values

module _ (row : ℕ → ℕ × ℕ) (i : ℕ) where
  abbrev sum : List ℕ → ℕ
  sum ws = total_at (map row ws) i

  head_adds : (t : Bool) (u : ℕ) (ws : List ℕ) → ((row u).0 == i) ≡ t → sum (u ∷ ws) ≡ cond t (row u).1 0 + sum ws
  head_adds t u ws e = total_at_cons (row u) (map row ws) i ∙ ap (λ b. cond b (row u).1 0 + sum ws) e

  none_at : (ws : List ℕ) → ((w : ℕ) → Contains ws w → (row w).0 ≢ i) → sum ws ≡ 0
  none_at [] others = refl
  none_at (u ∷ ws) others =
      omega (arith, head_adds false u ws (ne_eqb (row u).0 i (others u (0, omega arith, refl))), none_at ws (λ w there. others w (later u w ws there)))

  one_at : (ws : List ℕ) (w : ℕ) → AllPairs (λ a b. a < b) ws → Contains ws w → (row w).0 ≡ i → ((v : ℕ) → Contains ws v → (row v).0 ≡ i → v ≡ w)
      → sum ws ≡ (row w).1
  one_at [] w rise (j, low, is) at alone = absurd (omega (arith, low))
  one_at (u ∷ ws) w rise (zero, low, is) at alone =
      omega (
        arith,
        head_adds true u ws (eq-eqb (row u).0 i (ap (λ v. (row v).0) is ∙ at)),
        none_at ws apart,
        ap (λ v. (row v).1) is,
      )
    where
      apart : (v : ℕ) → Contains ws v → (row v).0 ≢ i
      apart v there e =
          let (j, v_low, v_is) = later u v ws there in
          omega (arith, alone v (j, v_low, v_is) e, is, rise 0 (suc there.0) v (omega arith) (omega (arith, there.1)), there.2)
  one_at (u ∷ ws) w rise (suc j, low, is) at alone =
      omega (
        arith,
        head_adds false u ws (ne_eqb (row u).0 i apart),
        one_at ws w (λ a b d less b_low. rise (suc a) (suc b) d (omega (arith, less)) (omega (arith, b_low))) (j, omega (arith, low), is) at
            (λ v there e. alone v (later u v ws there) e),
      )
    where
      apart : (row u).0 ≢ i
      apart e = omega (arith, alone u (0, omega arith, refl) e, rise 0 (suc j) w (omega arith) low, is)

-- ---- of a stage

-- each node of its net is one of the stage
nodes_members : (x : Split) (k : ℕ) → All (Contains (members (forest x) (head x k))) (nodes_in x k)
nodes_members x k =
    let ws = members (forest x) (head x k) in
    All-append (Contains ws) (ends_in x k) (inner_in x k) (All-filter (is_end x) (Contains ws) ws (All-contains_itself ws))
    (All-filter (λ w. not (is_end x w)) (Contains ws) ws (All-contains_itself ws))

pub caps_are : (x : Split) (k i : ℕ) (places : List ℕ) → AreNumbered places (nodes_in x k) → i < length (nodes_in x k)
    → total_at (map (cap_row x k) (members (forest x) (head x k))) i ≡ cap_in x k (slice_index (nodes_in x k) i)
caps_are x k i places are low =
    let ws = members (forest x) (head x k) in
    let w = slice_index (nodes_in x k) i in
    let there : Contains ws w = nodes_members x k i 0 low in
    one_at (cap_row x k) i ws w (members_rise x k) there
    (sym (placed x k w places are there) ∙ are.at i low)
    (λ v v_there e. sym (stands x k v places are v_there) ∙ ap (slice_index (nodes_in x k)) e)

-- they stand in tree order, each at a node of its own
pub caps_order : (x : Split) (k : ℕ) (ws : List ℕ) → map (λ (cap : ℕ × ℕ). cap.0) (map (cap_row x k) ws) ≡ map (place_in x k) ws
caps_order x k [] = refl
caps_order x k (w ∷ ws) = ap (λ l. place_in x k w ∷ l) (caps_order x k ws)

pub caps_once : (x : Split) (k : ℕ) (places : List ℕ) → AreNumbered places (nodes_in x k)
    → cap_nodes (map (cap_row x k) (members (forest x) (head x k))) ≡ map (place_in x k) (members (forest x) (head x k))
caps_once x k places are =
    ap each_once (caps_order x k (members (forest x) (head x k))) ∙ once_same (map (place_in x k) (members (forest x) (head x k))) apart
  where
    ws : List ℕ
    ws = members (forest x) (head x k)

    apart : AllPairs (λ a b. a ≢ b) (map (place_in x k) (members (forest x) (head x k)))
    apart i j d less low e =
        let j_low : j < length ws = omega (arith, low, length-map ws (place_in x k)) in
        let i_low : i < length ws = omega (arith, less, j_low) in
        let a = slice_index ws i in
        let b = slice_index ws j in
        let same : place_in x k a ≡ place_in x k b
        = sym (get_or-map (place_in x k) ws i 0 d i_low) ∙ e ∙ get_or-map (place_in x k) ws j 0 d j_low in
        omega (
          arith,
          members_rise x k i j 0 less j_low,
          sym (stands x k a places are (Contains-get_or ws i 0 i_low)) ∙ ap (slice_index (nodes_in x k)) same
              ∙ stands x k b places are (Contains-get_or ws j 0 j_low),
        )
