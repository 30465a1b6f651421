-- The sinks of a net with their wire delays, one by one.
use Rattle.std.proofs.Common.{◌≡◌, ℕ, ◌<◌, true, List, [], ◌∷◌, length, get_or, map, slice_index, refl, sym, ap, ◌∙◌, subst, arith, inl, inr, ℤ, pos}
use Rattle.std.specs.List.{All, AllZip, Contains, range_with_len}
use Rattle.std.proofs.lemmas.List.Elements.{All-contains, All-filter, All-head, All-tail, Contains-get_or, filter_passes}
use Rattle.std.proofs.lemmas.List.FromFn.{get_or-range_with_len, length-range_with_len}
use Rattle.std.proofs.lemmas.Option.{get_or_from_slice_get, slice_get-get_or}
use Rattle.elmore.specs.Wire.{delay_in}
use Rattle.elmore.specs.declared.tree.Node.{Node}
use Rattle.rc_tree.specs.Answers.{ListsAll}
use Rattle.spef_net.specs.declared.net.ParNet.{ParNet}
use Rattle.spef_patch_laws.proofs.ApartLemmas.{In, contains_in, in_contains}
use Rattle.spef_wire.specs.Wires.{IsDelay, is_sink_node, sinks_in}
use Rattle.spef_write.specs.Sections.{NO_NODE, node_at}
use Rattle.spef_write.proofs.OnceLemmas.{contains_filter}
use Rattle.vg_scan.specs.declared.name.NodeName.{NodeName}

-- ---- lists

from_zip : {X Y : Type 0} (R : X → Y → Type 0) (xs : List X) (ys : List Y) (y : Y) → AllZip R xs ys → In y ys
    → (x : X) × In x xs × R x y
from_zip R [] [] y all there = absurd there
from_zip R [] (z ∷ ys) y all there = absurd all
from_zip R (x ∷ xs) [] y all there = absurd there
from_zip R (x ∷ xs) (z ∷ ys) y all (inl e) = (x, inl refl, subst (R x) (sym e) all.0)
from_zip R (x ∷ xs) (z ∷ ys) y all (inr there) =
    let (w, inside, r) = from_zip R xs ys y all.1 there in
    (w, inr inside, r)

to_zip : {X Y : Type 0} (R : X → Y → Type 0) (xs : List X) (ys : List Y) (x : X) → AllZip R xs ys → In x xs
    → (y : Y) × In y ys × R x y
to_zip R [] [] x all there = absurd there
to_zip R [] (y ∷ ys) x all there = absurd there
to_zip R (w ∷ xs) [] x all there = absurd all
to_zip R (w ∷ xs) (y ∷ ys) x all (inl e) = (y, inl refl, subst (λ z. R z y) (sym e) all.0)
to_zip R (w ∷ xs) (y ∷ ys) x all (inr there) =
    let (z, inside, r) = to_zip R xs ys x all.1 there in
    (z, inr inside, r)

zip_map : {X Y : Type 0} (R : X → Y → Type 0) (f : X → Y) (xs : List X) → All (λ x. R x (f x)) xs
    → AllZip R xs (map f xs)
zip_map R f [] all = tt
zip_map R f (x ∷ xs) all = (All-head (λ y. R y (f y)) x xs all, zip_map R f xs (All-tail (λ y. R y (f y)) x xs all))

all_range : (n : ℕ) → All (λ i. i < n) (range_with_len 0 n)
all_range n k d low =
    omega (
      arith,
      get_or-range_with_len 0 n k d (omega (arith, low, length-range_with_len 0 n)),
      length-range_with_len 0 n,
    )

-- ---- rows

-- a row is that of a sink of the tree, with its name and its delay
pub record IsSinkRow (net : ParNet) (tree : List Node) (order : List ℕ) (row : NodeName × ℤ) : Type 0 where
  pub i : ℕ
  pub low : i < length order
  pub sink : is_sink_node net (slice_index order i) ≡ true
  pub name : row.0 ≡ (node_at net.nodes (slice_index order i)).name
  pub delay : row.1 ≡ pos (delay_in tree i)

module _ (net : ParNet) (tree : List Node) (order : List ℕ) where
  -- the sinks of the tree
  sink_is : (i : ℕ) → In i (sinks_in net order) → (i < length order) × (is_sink_node net (slice_index order i) ≡ true)
  sink_is i there =
      let inside = in_contains i (sinks_in net order) there in (
        All-contains (λ k. k < length order) (sinks_in net order) i
            (All-filter (λ k. is_sink_node net (slice_index order k)) (λ k. k < length order)
            (range_with_len 0 (length order)) (all_range (length order)))
            inside,
        All-contains (λ k. is_sink_node net (slice_index order k) ≡ true) (sinks_in net order) i
            (filter_passes (λ k. is_sink_node net (slice_index order k)) (range_with_len 0 (length order))) inside,
      )

  sink_in : (i : ℕ) → i < length order → is_sink_node net (slice_index order i) ≡ true → In i (sinks_in net order)
  sink_in i low sink =
      contains_in i (sinks_in net order)
      (contains_filter (λ k. is_sink_node net (slice_index order k)) (range_with_len 0 (length order)) i (
        i,
        omega (arith, low, length-range_with_len 0 (length order)),
        get_or-range_with_len 0 (length order) i i low ∙ omega arith,
      ) sink)

  -- so are the rows of a wire
  pub from_rows : (rows : List (NodeName × ℤ)) → AllZip (IsDelay net tree order) (sinks_in net order) rows
      → (row : NodeName × ℤ) → Contains rows row → IsSinkRow net tree order row
  from_rows rows all row there =
      let (i, inside, is) =
      from_zip (IsDelay net tree order) (sinks_in net order) rows row all (contains_in row rows there) in
      let (low, sink) = sink_is i inside in
      record {
        i = i;
        low = low;
        sink = sink;
        name = is.named.name_is ∙ sym (ap (λ n. n.name)
            (get_or_from_slice_get net.nodes (slice_index order i) is.named.node NO_NODE is.named.at));
        delay = is.delay;
      }

  pub to_rows : (rows : List (NodeName × ℤ)) → AllZip (IsDelay net tree order) (sinks_in net order) rows
      → (row : NodeName × ℤ) → IsSinkRow net tree order row → Contains rows row
  to_rows rows all row is =
      let (other, inside, d) =
      to_zip (IsDelay net tree order) (sinks_in net order) rows is.i all (sink_in is.i is.low is.sink) in
      let node = get_or_from_slice_get net.nodes (slice_index order is.i) d.named.node NO_NODE d.named.at in
      let name : other.0 ≡ row.0 = d.named.name_is ∙ sym (ap (λ n. n.name) node) ∙ sym is.name in
      let delay : other.1 ≡ row.1 = d.delay ∙ sym is.delay in
      let same : other ≡ row = λ t. (name t, delay t) in
      subst (Contains rows) same (in_contains other rows inside)

  -- the rows of all sinks
  pub rows_of : List (NodeName × ℤ)
  rows_of = map (λ i. ((node_at net.nodes (slice_index order i)).name, pos (delay_in tree i))) (sinks_in net order)

  pub rows_are : ListsAll (length net.nodes) order → AllZip (IsDelay net tree order) (sinks_in net order) rows_of
  unfolding rows_of
  rows_are lists =
      zip_map (IsDelay net tree order)
      (λ i. ((node_at net.nodes (slice_index order i)).name, pos (delay_in tree i))) (sinks_in net order) each
    where
      each : All (λ i. IsDelay net tree order i ((node_at net.nodes (slice_index order i)).name, pos (delay_in tree i)))
          (sinks_in net order)
      each k d low =
          let i = get_or (sinks_in net order) k d in
          let (i_low, sink) =
          sink_is i (contains_in i (sinks_in net order) (Contains-get_or (sinks_in net order) k d low)) in
          record {
            named = record {
              node = node_at net.nodes (slice_index order i);
              at = slice_get-get_or net.nodes (slice_index order i) NO_NODE
                  (lists.within i (omega (arith, i_low, lists.count)));
              name_is = refl;
            };
            delay = refl;
          }
