-- The lists of a certificate, and which certificates speak of a problem.
use Rattle.std.specs.Prelude.{◌≡◌, ℕ, ◌≤◌, ◌^◌, Bool, false, cond, List, [], length, map, get_or, slice_index_or, ℤ, pos, ◌-ℤ◌, ◌≤ℤ◌, None, IfSome}
use Rattle.std.specs.List.{All, AllPairs}
use Rattle.elmore.specs.Pairs.{IsBelow}
use Rattle.elmore.specs.Placements.{IsPlacement}
use Rattle.elmore.specs.Problems.{is_live}
use Rattle.elmore.specs.declared.pair.Pair.{Pair}
use Rattle.elmore.specs.declared.problem.Problem.{Problem}
use Rattle.vg_cert.specs.declared.certificate.NodeLists.{NodeLists}
use Rattle.vg_cert.specs.declared.certificate.Certificate.{Certificate}

-- the list of each class: a signal of the odd class is inverted
abbrev pub list_of : NodeLists → Bool → List Pair
list_of lists odd = cond odd lists.odd.items lists.even.items

-- the lists of each node; past the last one they are empty
abbrev pub lists_in : List NodeLists → ℕ → Bool → List Pair
lists_in nodes v = get_or (map list_of nodes) v (λ odd. [])

abbrev pub lists_of : Certificate → ℕ → Bool → List Pair
lists_of cert = lists_in cert.lists.items

-- at most 10^26 zeptoseconds in size
pub record IsTime (q : ℤ) : Type 0 where
  pub low : (pos 0 -ℤ pos (10 ^ 26)) ≤ℤ q
  pub high : q ≤ℤ pos (10 ^ 26)

-- and at most 10^11 attofarads
pub record IsEntry (x : Pair) : Type 0 where
  pub time : IsTime x.q
  pub load : x.c ≤ 10 ^ 11

-- time and load rise from each pair to the next, and there are at most 2^28 of them
pub record IsList (xs : List Pair) : Type 0 where
  pub rising : AllPairs IsBelow xs
  pub entries : All IsEntry xs
  pub few : length xs ≤ 2 ^ 28

-- the certificate is one for this problem: its placement and its lists have one element for each node, its cells name
-- repeaters, a node without a sink at it or below has no pairs, and where it has no slack it has no cell
pub record Fits (p : Problem) (cert : Certificate) : Type 0 where
  pub placement : IsPlacement p cert.placement.cells
  pub one_each : length cert.lists.items ≡ length p.tree.nodes
  pub lists : (v : ℕ) (odd : Bool) → IsList (lists_of cert v odd)
  pub dead : (v : ℕ) → is_live p.tree.nodes p.sinks v ≡ false → (odd : Bool) → lists_of cert v odd ≡ []
  pub slack : IfSome cert.slack IsTime
  pub no_cell : cert.slack ≡ None → (v : ℕ) → slice_index_or cert.placement.cells v None ≡ None
