-- The numbers of all cells that are put in: each stands once.
use Rattle.std.proofs.Common.{◌≡◌, ℕ, ◌+◌, ◌<◌, ◌≤◌, List, [], ◌∷◌, ◌++◌, length, map, refl, sym, ◌∙◌, arith, inl, inr}
use Rattle.std.specs.List.{flat_map}
use Rattle.std.proofs.lemmas.List.{length-append, map-append}
use Rattle.std.proofs.lemmas.Simd.{map-map}
use Rattle.std.proofs.lemmas.List.FromFn.{get_or-range_with_len, length-range_with_len}
use Rattle.ver_patch.specs.NewCells.{NewCell}
use Rattle.ver_patch_laws.proofs.RelinkedLemmas.{In}
use Rattle.ver_patch_laws.proofs.ApartLemmas.{Apart, apart_join, apart_map, apart_places}
use Rattle.ver_patch_laws.proofs.SetLemmas.{in_either, in_mapped}
use Rattle.vg_change.specs.Placed.{PlacedNet, cell_stages, new_cell, split_of}
use Rattle.vg_design.specs.Designs.{Design}
use Rattle.vg_split.specs.NewNames.{cell_name, net_name}
use Rattle.vg_split.specs.Splits.{number_of}
use Rattle.change_netlist_laws.proofs.PutLemmas.{Placing, cells_by, cells_count, count, placings, wires_by}
use Rattle.change_netlist_laws.proofs.WireLemmas.{range_in}

module _ (d : Design) (prefix : List ℕ) where
  abbrev pub numbers_by : Placing → List ℕ
  numbers_by s = map (number_of s.x) (cell_stages s.x)

  abbrev pub numbers : ℕ → List PlacedNet → List ℕ
  numbers first nets = flat_map numbers_by (placings d prefix first nets)

  pub wires_are : (nets : List PlacedNet) (first : ℕ) → flat_map (wires_by d prefix) (placings d prefix first nets) ≡ map (net_name prefix) (numbers first nets)
  unfolding placings
  wires_are [] first = refl
  wires_are (p ∷ nets) first =
      let own : Placing = record { p = p; x = split_of d prefix first p } in
      (λ i. sym (map-map (net_name prefix) (number_of own.x) (cell_stages own.x)) i ++ wires_are nets (first + count own.x) i)
      ∙ sym (map-append (net_name prefix) (numbers_by own) (numbers (first + count own.x) nets))

  pub names_are : (nets : List PlacedNet) (first : ℕ)
      → map (λ (c : NewCell). c.name) (flat_map (cells_by d prefix) (placings d prefix first nets)) ≡ map (cell_name prefix) (numbers first nets)
  unfolding placings
  names_are [] first = refl
  names_are (p ∷ nets) first =
      let own : Placing = record { p = p; x = split_of d prefix first p } in
      map-append (λ (c : NewCell). c.name) (cells_by d prefix own) (flat_map (cells_by d prefix) (placings d prefix (first + count own.x) nets))
      ∙ (λ i. (map-map (λ (c : NewCell). c.name) (new_cell d.netlist p.net.id own.x) (cell_stages own.x)
      ∙ sym (map-map (cell_name prefix) (number_of own.x) (cell_stages own.x))) i ++ names_are nets (first + count own.x) i)
      ∙ sym (map-append (cell_name prefix) (numbers_by own) (numbers (first + count own.x) nets))

  own_within : (s : Placing) (n : ℕ) → In n (numbers_by s) → (s.x.first ≤ n) × (n < s.x.first + count s.x)
  own_within s n i =
      let (k, j, e) = in_mapped (number_of s.x) (cell_stages s.x) n i in
      let (low, high) = range_in 1 (count s.x) k j in
      (omega (arith, e), omega (arith, e, low, high))

  pub numbers_within : (nets : List PlacedNet) (first n : ℕ) → In n (numbers first nets)
      → (first ≤ n) × (n < first + length (flat_map (cells_by d prefix) (placings d prefix first nets)))
  unfolding placings
  numbers_within [] first n i = absurd i
  numbers_within (p ∷ nets) first n i =
      let own : Placing = record { p = p; x = split_of d prefix first p } in
      let more = flat_map (cells_by d prefix) (placings d prefix (first + count own.x) nets) in
      let size = length-append (cells_by d prefix own) more in
      elim (in_either (numbers_by own) (numbers (first + count own.x) nets) n i) as (λ _. (first ≤ n) × (n < first + length (cells_by d prefix own ++ more))) [
        | inl j ↦ (let (low, high) = own_within own n j in (low, omega (arith, high, size, cells_count d prefix own)))
        | inr j ↦ (let (low, high) = numbers_within nets (first + count own.x) n j in (omega (arith, low), omega (arith, high, size, cells_count d prefix own)))
      ]

  own_apart : (s : Placing) → Apart (numbers_by s)
  own_apart s =
      apart_map (number_of s.x) (cell_stages s.x)
      (apart_places (cell_stages s.x) 0 (λ i j less low e.
      (let size = length-range_with_len 1 (count s.x) in
      omega (
        arith,
        less,
        e,
        get_or-range_with_len 1 (count s.x) i 0 (omega (arith, less, low, size)),
        get_or-range_with_len 1 (count s.x) j 0 (omega (arith, low, size)),
      ))))
      (λ i j a b e. (let k = range_in 1 (count s.x) i a in let l = range_in 1 (count s.x) j b in omega (arith, k.0, l.0, e)))

  pub numbers_apart : (nets : List PlacedNet) (first : ℕ) → Apart (numbers first nets)
  unfolding placings
  numbers_apart [] first = tt
  numbers_apart (p ∷ nets) first =
      let own : Placing = record { p = p; x = split_of d prefix first p } in
      apart_join (numbers_by own) (numbers (first + count own.x) nets) (own_apart own) (numbers_apart nets (first + count own.x))
      (λ n i j. (let a = own_within own n i in let b = numbers_within nets (first + count own.x) n j in omega (arith, a.1, b.0)))
