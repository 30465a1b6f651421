-- Nodes whose rows are kept in order: one row more.
use Rattle.std.proofs.Common.{◌≡◌, ◌≢◌, ℕ, zero, suc, ◌+◌, ◌<◌, inl, inr, Bool, true, false, ◌&&◌, cond, List, [], ◌∷◌, ◌++◌, Option, None, Some, Result, Ok, Err, ◌⊎◌, ◌≤◌, length, arith, refl, sym, ap, ◌∙◌, subst, length-append}
use Rattle.std.proofs.Math.ListN.{set}
use Rattle.std.proofs.lemmas.Bool.{cases_Bool}
use Rattle.std.proofs.lemmas.Slice.Eq.{bytes_eq-Decides}
use Rattle.std.specs.List.{slice_get}
use Rattle.std.specs.Prelude.{IfSome, OnOk, OnErr}
use Rattle.std.specs.Str.{bytes_eq}
use Rattle.vg_scan.specs.declared.name.NodeName.{NodeName}
use Rattle.vg_scan.specs.Nodes.{same_node}
use Rattle.name_tables.proofs.ChainLemmas.{eq_or_ne}
use Rattle.name_tables.specs.OrderedRows.{row_kept}
use Rattle.name_tables.specs.declared.ordered_rows.OrderedRows.{OrderedRows}
use Rattle.spef_nodes.proofs.NodeTableLemmas.{slice_get_front, slice_get_last}
use Rattle.spef_nodes.specs.Members.{node_named}
use Rattle.spef_nodes.specs.OrderedNodes.{node_row, row_among, rows_at, HavePlaces}
use Rattle.spef_nodes.specs.declared.ordered_nodes.OrderedNodes.{OrderedNodes}

get-set_same : {X : Type 0} (xs : List X) (at : ℕ) (old new : X) → slice_get xs at ≡ Some old → slice_get (set xs at new) at ≡ Some new
get-set_same [] at old new e = absurd (cc)
get-set_same (x ∷ xs) zero old new e = refl
get-set_same (x ∷ xs) (suc at) old new e = get-set_same xs at old new e

get-set_other : {X : Type 0} (xs : List X) (at i : ℕ) (new : X) → i ≢ at → slice_get (set xs at new) i ≡ slice_get xs i
get-set_other [] at i new differ = refl
get-set_other (x ∷ xs) zero zero new differ = absurd (differ refl)
get-set_other (x ∷ xs) zero (suc i) new differ = refl
get-set_other (x ∷ xs) (suc at) zero new differ = refl
get-set_other (x ∷ xs) (suc at) (suc i) new differ = get-set_other xs at i new (λ e. differ (ap suc e))

some_is : {X : Type 0} (a b : X) → Some a ≡ Some b → a ≡ b
some_is a b e = cc

-- what a place is for an owner
pub at_place : (places : List OrderedRows) (r : Option ℕ) (place : ℕ) (rows : OrderedRows) → r ≡ Some place → slice_get places place ≡ Some rows → (leaf : List ℕ) → row_among (rows_at places r) leaf ≡ row_kept rows leaf
at_place places r place rows e there leaf = ap (λ k. row_among (rows_at places k) leaf) e ∙ ap (λ k. row_among k leaf) there

-- a row of a leaf is put among those of its owner
put_leaf : (places : List OrderedRows) (place : ℕ) (old new : OrderedRows) (owner leaf : List ℕ) (row : ℕ) (r : Option ℕ) (node : NodeName) → slice_get places place ≡ Some old
    → ((other : List ℕ) → row_kept new other ≡ cond (bytes_eq leaf other) (Some row) (row_kept old other)) → (owner ≡ node.owner → r ≡ Some place) → (r ≡ Some place → owner ≡ node.owner)
    → row_among (rows_at (set places place new) r) node.leaf ≡ cond (same_node (node_named owner leaf) node) (Some row) (row_among (rows_at places r) node.leaf)
put_leaf places place old new owner leaf row r node there put here own =
    elim (cases_Bool (bytes_eq owner node.owner)) as (λ _. row_among (rows_at (set places place new) r) node.leaf ≡ cond (same_node (node_named owner leaf) node) (Some row) (row_among (rows_at places r) node.leaf)) [
      | inl same ↦
          let is : r ≡ Some place = here ((bytes_eq-Decides owner node.owner).0 same) in
          at_place (set places place new) r place new is (get-set_same places place old new there) node.leaf ∙ put node.leaf
          ∙ ap (cond (bytes_eq leaf node.leaf) (Some row)) (sym (at_place places r place old is there node.leaf))
          ∙ ap (λ b. cond (b && bytes_eq leaf node.leaf) (Some row) (row_among (rows_at places r) node.leaf)) (sym same)
      | inr differ ↦
          elsewhere r (λ e. let clash : true ≡ false = sym ((bytes_eq-Decides owner node.owner).1 (own e)) ∙ differ in cc)
          ∙ ap (λ b. cond (b && bytes_eq leaf node.leaf) (Some row) (row_among (rows_at places r) node.leaf)) (sym differ)
    ]
  where
    elsewhere : (q : Option ℕ) → q ≢ Some place → row_among (rows_at (set places place new) q) node.leaf ≡ row_among (rows_at places q) node.leaf
    elsewhere None ne = refl
    elsewhere (Some i) ne = ap (λ k. row_among k node.leaf) (get-set_other places place i new (λ e. ne (ap Some e)))

-- one leaf more at the place of its owner
pub more_leaves : (old new : OrderedNodes) (place : ℕ) (before after : OrderedRows) (owner leaf : List ℕ) (row : ℕ) → HavePlaces old → new.owners ≡ old.owners → new.leaves.items ≡ set old.leaves.items place after
    → row_kept old.owners owner ≡ Some place → slice_get old.leaves.items place ≡ Some before → ((other : List ℕ) → row_kept after other ≡ cond (bytes_eq leaf other) (Some row) (row_kept before other))
    → (node : NodeName) → node_row new node ≡ cond (same_node (node_named owner leaf) node) (Some row) (node_row old node)
unfolding node_row
more_leaves old new place before after owner leaf row places owners leaves there read put node =
    (λ i. row_among (rows_at (leaves i) (row_kept (owners i) node.owner)) node.leaf)
    ∙ put_leaf old.leaves.items place before after owner leaf row (row_kept old.owners node.owner) node read put
    (λ e. ap (row_kept old.owners) (sym e) ∙ there) (λ e. places.own owner node.owner place there e)

-- the same leaves at a place
pub same_leaves : (old new : OrderedNodes) (place : ℕ) (before after : OrderedRows) → new.owners ≡ old.owners → new.leaves.items ≡ set old.leaves.items place after
    → slice_get old.leaves.items place ≡ Some before → ((other : List ℕ) → row_kept after other ≡ row_kept before other)
    → (node : NodeName) → node_row new node ≡ node_row old node
unfolding node_row
same_leaves old new place before after owners leaves read same node =
    (λ i. row_among (rows_at (leaves i) (row_kept (owners i) node.owner)) node.leaf) ∙ stay (row_kept old.owners node.owner)
  where
    stay : (r : Option ℕ) → row_among (rows_at (set old.leaves.items place after) r) node.leaf ≡ row_among (rows_at old.leaves.items r) node.leaf
    stay None = refl
    stay (Some i) = elim (eq_or_ne i place) as (λ _. row_among (rows_at (set old.leaves.items place after) (Some i)) node.leaf ≡ row_among (rows_at old.leaves.items (Some i)) node.leaf) [
      | inl e ↦
          ap (λ k. row_among (slice_get (set old.leaves.items place after) k) node.leaf) e ∙ ap (λ k. row_among k node.leaf) (get-set_same old.leaves.items place before after read) ∙ same node.leaf
          ∙ sym (ap (λ k. row_among k node.leaf) read) ∙ sym (ap (λ k. row_among (slice_get old.leaves.items k) node.leaf) e)
      | inr differ ↦ ap (λ k. row_among k node.leaf) (get-set_other old.leaves.items place i after differ)
    ]

-- a place more, which is no owner's yet
pub more_places : (old new : OrderedNodes) (rows : OrderedRows) → HavePlaces old → ((owner : List ℕ) → row_kept new.owners owner ≡ row_kept old.owners owner) → new.leaves.items ≡ old.leaves.items ++ rows ∷ []
    → (node : NodeName) → node_row new node ≡ node_row old node
unfolding node_row
more_places old new rows places owners leaves node =
    (λ i. row_among (rows_at (leaves i) (owners node.owner i)) node.leaf) ∙ stay (row_kept old.owners node.owner) (places.within node.owner)
  where
    stay : (r : Option ℕ) → IfSome r (λ place. place < length old.leaves.items) → row_among (rows_at (old.leaves.items ++ rows ∷ []) r) node.leaf ≡ row_among (rows_at old.leaves.items r) node.leaf
    stay None within = refl
    stay (Some i) within = ap (λ k. row_among k node.leaf) (slice_get_front old.leaves.items (rows ∷ []) i within)

-- a new owner at the last place
pub more_owners : (old new : OrderedNodes) (rows : OrderedRows) (place row : ℕ) (owner leaf : List ℕ) → HavePlaces old → row_kept old.owners owner ≡ None → place ≡ length old.leaves.items
    → ((other : List ℕ) → row_kept new.owners other ≡ cond (bytes_eq owner other) (Some place) (row_kept old.owners other)) → new.leaves.items ≡ old.leaves.items ++ rows ∷ []
    → ((other : List ℕ) → row_kept rows other ≡ cond (bytes_eq leaf other) (Some row) None)
    → (node : NodeName) → node_row new node ≡ cond (same_node (node_named owner leaf) node) (Some row) (node_row old node)
unfolding node_row
more_owners old new rows place row owner leaf places fresh last owners leaves put node =
    (λ i. row_among (rows_at (leaves i) (owners node.owner i)) node.leaf)
    ∙ elim (cases_Bool (bytes_eq owner node.owner)) as (λ _. row_among (rows_at (old.leaves.items ++ rows ∷ []) (cond (bytes_eq owner node.owner) (Some place) (row_kept old.owners node.owner))) node.leaf
    ≡ cond (same_node (node_named owner leaf) node) (Some row) (row_among (rows_at old.leaves.items (row_kept old.owners node.owner)) node.leaf)) [
      | inl same ↦
          let is : owner ≡ node.owner = (bytes_eq-Decides owner node.owner).0 same in
          let none : row_kept old.owners node.owner ≡ None = ap (row_kept old.owners) (sym is) ∙ fresh in
          ap (λ b. row_among (rows_at (old.leaves.items ++ rows ∷ []) (cond b (Some place) (row_kept old.owners node.owner))) node.leaf) same
          ∙ ap (λ k. row_among k node.leaf) (slice_get_last old.leaves.items rows place last) ∙ put node.leaf
          ∙ ap (λ r. cond (bytes_eq leaf node.leaf) (Some row) (row_among (rows_at old.leaves.items r) node.leaf)) (sym none)
          ∙ ap (λ b. cond (b && bytes_eq leaf node.leaf) (Some row) (row_among (rows_at old.leaves.items (row_kept old.owners node.owner)) node.leaf)) (sym same)
      | inr differ ↦
          ap (λ b. row_among (rows_at (old.leaves.items ++ rows ∷ []) (cond b (Some place) (row_kept old.owners node.owner))) node.leaf) differ
          ∙ stay (row_kept old.owners node.owner) (places.within node.owner)
          ∙ ap (λ b. cond (b && bytes_eq leaf node.leaf) (Some row) (row_among (rows_at old.leaves.items (row_kept old.owners node.owner)) node.leaf)) (sym differ)
    ]
  where
    stay : (r : Option ℕ) → IfSome r (λ i. i < length old.leaves.items) → row_among (rows_at (old.leaves.items ++ rows ∷ []) r) node.leaf ≡ row_among (rows_at old.leaves.items r) node.leaf
    stay None within = refl
    stay (Some i) within = ap (λ k. row_among k node.leaf) (slice_get_front old.leaves.items (rows ∷ []) i within)

-- the same places
pub same_places : (old new : OrderedNodes) → new.owners ≡ old.owners → new.leaves.items ≡ old.leaves.items → (node : NodeName) → node_row new node ≡ node_row old node
unfolding node_row
same_places old new owners leaves node = λ i. row_among (rows_at (leaves i) (row_kept (owners i) node.owner)) node.leaf

wider : (r : Option ℕ) (n m : ℕ) → n ≤ m → IfSome r (λ place. place < n) → IfSome r (λ place. place < m)
wider None n m le h = tt
wider (Some place) n m le h = omega (arith, le, h)

-- the places, with one more that is no owner's yet
pub places_same : (old new : OrderedNodes) (rows : OrderedRows) → HavePlaces old → new.leaves.items ≡ old.leaves.items ++ rows ∷ []
    → ((owner : List ℕ) → row_kept new.owners owner ≡ row_kept old.owners owner) → HavePlaces new
places_same old new rows places leaves owners = record {
  within = λ owner.
      let count : length old.leaves.items ≤ length new.leaves.items = omega (arith, ap length leaves, length-append old.leaves.items (rows ∷ [])) in
      subst (λ r. IfSome r (λ place. place < length new.leaves.items)) (sym (owners owner)) (wider (row_kept old.owners owner) (length old.leaves.items) (length new.leaves.items) count (places.within owner));
  own = λ owner other place e f. places.own owner other place (sym (owners owner) ∙ e) (sym (owners other) ∙ f);
}

-- an owner's place is the new one, or one of those before
which : (b : Bool) (n place : ℕ) (r : Option ℕ) → cond b (Some n) r ≡ Some place → ((b ≡ true) × (place ≡ n)) ⊎ (r ≡ Some place)
which true n place r e = inl (refl, sym (some_is n place e))
which false n place r e = inr e

low_place : (r : Option ℕ) (place n : ℕ) → r ≡ Some place → IfSome r (λ p. p < n) → place < n
low_place r place n e h = subst (λ q. IfSome q (λ p. p < n)) e h

pub places_more : (old new : OrderedNodes) (rows : OrderedRows) (owner : List ℕ) (n : ℕ) → n ≡ length old.leaves.items → HavePlaces old → new.leaves.items ≡ old.leaves.items ++ rows ∷ []
    → ((other : List ℕ) → row_kept new.owners other ≡ cond (bytes_eq owner other) (Some n) (row_kept old.owners other)) → HavePlaces new
places_more old new rows owner n last places leaves owners =
    let count : length new.leaves.items ≡ length old.leaves.items + 1 = omega (arith, ap length leaves, length-append old.leaves.items (rows ∷ [])) in
    let below : (o : List ℕ) (place : ℕ) → row_kept old.owners o ≡ Some place → place < length old.leaves.items = λ o place e. low_place (row_kept old.owners o) place (length old.leaves.items) e (places.within o) in
    let found : (o : List ℕ) (place : ℕ) → row_kept new.owners o ≡ Some place → ((bytes_eq owner o ≡ true) × (place ≡ n)) ⊎ (row_kept old.owners o ≡ Some place) =
    λ o place e. which (bytes_eq owner o) n place (row_kept old.owners o) (sym (owners o) ∙ e) in
    record {
      within = λ o. subst (λ r. IfSome r (λ place. place < length new.leaves.items)) (sym (owners o))
          (elim (cases_Bool (bytes_eq owner o)) as (λ _. IfSome (cond (bytes_eq owner o) (Some n) (row_kept old.owners o)) (λ place. place < length new.leaves.items)) [
            | inl same ↦ subst (λ b. IfSome (cond b (Some n) (row_kept old.owners o)) (λ place. place < length new.leaves.items)) (sym same) (omega (arith, count, last))
            | inr differ ↦
                subst (λ b. IfSome (cond b (Some n) (row_kept old.owners o)) (λ place. place < length new.leaves.items)) (sym differ)
                (wider (row_kept old.owners o) (length old.leaves.items) (length new.leaves.items) (omega (arith, count)) (places.within o))
          ]);
      own = λ o other place e f.
          elim (found o place e) as (λ _. o ≡ other) [
            | inl here ↦ elim (found other place f) as (λ _. o ≡ other) [
              | inl also ↦ sym ((bytes_eq-Decides owner o).0 here.0) ∙ (bytes_eq-Decides owner other).0 also.0
              | inr before ↦ absurd (let low = below other place before in let x : ⊥ = omega (arith, low, here.1, last) in x)
            ]
            | inr before ↦ elim (found other place f) as (λ _. o ≡ other) [
              | inl also ↦ absurd (let low = below o place before in let x : ⊥ = omega (arith, low, also.1, last) in x)
              | inr both ↦ places.own o other place before both
            ]
          ];
    }

-- what holds after a call, whether it went well or not
pub after : {T E P Q R : Type 0} (r : Result T E) → OnOk r P → OnErr r Q → (P → R) → (Q → R) → R
after (Ok x) h k f g = f h
after (Err e) h k f g = g k
