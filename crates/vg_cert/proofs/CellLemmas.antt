-- One cell after another.
use Rattle.std.proofs.Common.{◌≡◌, ◌≢◌, ℕ, ◌+◌, ◌<◌, ◌≤◌, ◌==◌, Bool, true, false, cond, List, [], ◌∷◌, ◌++◌, map, length, drop, take, get_or, set, refl, sym, ap, ◌∙◌, subst, arith, Option, Some, None}
use Rattle.std.specs.Map.{lookup}
use Rattle.std.specs.List.{All}
use Rattle.std.proofs.lemmas.Bool.Decides.{nat_tests}
use Rattle.std.proofs.lemmas.List.{take_more, map-append, get_or-drop, length-drop, get_or-set_same, get_or-set_other, length-set}
use Rattle.std.proofs.lemmas.List.Elements.{All-push, All-head, All-tail}
use Rattle.vg_cert.specs.declared.place.Place.{Place}
use Rattle.vg_cert.specs.Roles.{at, line_before}
use Rattle.vg_cert.specs.Faults.{node_in}
use Rattle.vg_cert.specs.Denoted.{placed_in}
use Rattle.vg_cert.specs.Readings.{Reading, IsUpTo, AreCellsDue, IsCell, ArePlacedBy, node_after, line_of, lines_of, role_of}
use Rattle.vg_cert.proofs.ListLemmas.{place_within}
use Rattle.vg_cert.proofs.SectionLemmas.{before_goes}

abbrev placed_from : Reading → ℕ → ℕ → List (ℕ × ℕ)
placed_from r start k = map (placed_in r.names) (take k (drop start (lines_of r)))

-- so many lines of cells were read, and the nodes before the next one are behind
pub record AreCellsUpTo (r : Reading) (start k : ℕ) (place : Place) (cells : List (Option ℕ)) (next : ℕ) : Type 0 where
  pub up_to : IsUpTo r place
  pub counted : place.count ≡ start + k
  pub next_is : node_after r.names (line_before r.problem (lines_of r) place.count at) ≡ next
  pub within : next ≤ length r.names.nodes
  pub behind : All (λ (x : ℕ × ℕ). x.0 < next) (placed_from r start k)
  pub placed : ArePlacedBy r start k cells

last_cell : (rows : List (ℕ × ℕ)) (next u b v : ℕ) → All (λ (x : ℕ × ℕ). x.0 < next) rows → next ≤ u → lookup (λ w. w == v) (rows ++ (u, b) ∷ []) ≡ cond (u == v) (Some b) (lookup (λ w. w == v) rows)
last_cell [] next u b v all l = refl
last_cell (x ∷ xs) next u b v all l =
    by_first (x.0 == v) x xs next u b v refl (All-head (λ (y : ℕ × ℕ). y.0 < next) x xs all) l (last_cell xs next u b v (All-tail (λ (y : ℕ × ℕ). y.0 < next) x xs all) l)
  where
    by_first : (t : Bool) (x : ℕ × ℕ) (xs : List (ℕ × ℕ)) (next u b v : ℕ) → (x.0 == v) ≡ t → x.0 < next → next ≤ u
        → lookup (λ w. w == v) (xs ++ (u, b) ∷ []) ≡ cond (u == v) (Some b) (lookup (λ w. w == v) xs)
        → cond (x.0 == v) (Some x.1) (lookup (λ w. w == v) (xs ++ (u, b) ∷ [])) ≡ cond (u == v) (Some b) (cond (x.0 == v) (Some x.1) (lookup (λ w. w == v) xs))
    by_first true x xs next u b v e m l h =
        let other : (u == v) ≡ false = grind (arith, nat_tests) in
        rw (e, other) refl
    by_first false x xs next u b v e m l h = rw e h

set_cell : (cells : List (Option ℕ)) (u b v : ℕ) (t : Bool) → u < length cells → (u == v) ≡ t → get_or (set cells u (Some b)) v None ≡ cond t (Some b) (get_or cells v None)
set_cell cells u b v true l e = ap (λ i. get_or (set cells u (Some b)) i None) (let k : v ≡ u = grind (arith, nat_tests) in k) ∙ get_or-set_same cells u (Some b) None l
set_cell cells u b v false l e = get_or-set_other cells u v (Some b) None (let k : v ≢ u = grind (arith, nat_tests) in k)

rows_more : (r : Reading) (start k : ℕ) (x : ℕ × ℕ) → start + k < length (lines_of r) → x ≡ placed_in r.names (line_of r (start + k)) → placed_from r start (k + 1) ≡ placed_from r start k ++ x ∷ []
rows_more r start k x l e =
    ap (map (placed_in r.names)) (take_more (drop start (lines_of r)) k [] (omega (arith, l, length-drop start (lines_of r))))
    ∙ map-append (placed_in r.names) (take k (drop start (lines_of r))) (get_or (drop start (lines_of r)) k [] ∷ [])
    ∙ ap (λ y. placed_from r start k ++ placed_in r.names y ∷ []) (get_or-drop start (lines_of r) k []) ∙ sym (ap (λ y. placed_from r start k ++ y ∷ []) e)

named_more : (cells : List (Option ℕ)) (most u b v c : ℕ) (t : Bool) → cond t (Some b) (get_or cells v None) ≡ Some c → b < most → ((w d : ℕ) → get_or cells w None ≡ Some d → d < most) → c < most
named_more cells most u b v c true e l h = let k : b ≡ c = cc in omega (arith, k, l)
named_more cells most u b v c false e l h = h v c e

-- one cell more
pub cells_more : (r : Reading) (start k count : ℕ) (place new : Place) (cells : List (Option ℕ)) (next u b : ℕ) → AreCellsDue r start count → k < count → AreCellsUpTo r start k place cells next → IsUpTo r new
    → new.count ≡ place.count + 1 → IsCell r.names next (line_of r place.count) (u, b) → AreCellsUpTo r start (k + 1) new (set cells u (Some b)) (u + 1)
cells_more r start k count place new cells next u b due m h up n found =
    let wrote : (u, b) ≡ placed_in r.names (line_of r (start + k)) = found.names_them ∙ ap (λ i. placed_in r.names (line_of r i)) h.counted in
    let rows = rows_more r start k (u, b) (omega (arith, place_within r place h.up_to, h.counted)) wrote in
    let role = ap (role_of r) h.counted ∙ due.due k m in
    let node : u ≡ node_in r.names (line_of r place.count) = ap (λ (x : ℕ × ℕ). x.0) found.names_them in
    let l : u < length cells = omega (arith, found.node, h.placed.one_each) in
    record {
      up_to = up;
      counted = omega (arith, n, h.counted);
      next_is = ap (node_after r.names) (before_goes r place.count new.count at (omega (arith, n)) role refl) ∙ omega (arith, node);
      within = omega (arith, found.node);
      behind = subst (All (λ (x : ℕ × ℕ). x.0 < u + 1)) (sym rows)
          (All-push (λ (x : ℕ × ℕ). x.0 < u + 1) (placed_from r start k) (u, b) (λ i d j. let z = h.behind i d j in omega (arith, z, found.behind)) (omega arith));
      placed = record {
        one_each = length-set cells u (Some b) ∙ h.placed.one_each;
        placed = λ v. set_cell cells u b v (u == v) l refl ∙ ap (cond (u == v) (Some b)) (h.placed.placed v)
            ∙ sym (ap (lookup (λ w. w == v)) rows ∙ last_cell (placed_from r start k) next u b v h.behind found.behind);
        named = λ v c e. named_more cells (length r.names.cells) u b v c (u == v) (sym (set_cell cells u b v (u == v) l refl) ∙ e) found.cell h.placed.named;
      };
    }

pub cells_none : (r : Reading) (place : Place) (count : ℕ) (cells : List (Option ℕ)) → IsUpTo r place → AreCellsDue r place.count count → length cells ≡ length r.names.nodes → ((v : ℕ) → get_or cells v None ≡ None)
    → AreCellsUpTo r place.count 0 place cells 0
cells_none r place count cells up due each none = record {
  up_to = up;
  counted = omega arith;
  next_is = ap (node_after r.names) due.first;
  within = omega arith;
  behind = λ i d l. absurd (omega arith);
  placed = record {
    one_each = each;
    placed = none;
    named = λ v b e. let k = none v in absurd (cc);
  };
}
