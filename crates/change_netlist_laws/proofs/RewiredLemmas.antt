-- Which pins of a net are linked anew, and to what; and which cells are put in.
use Rattle.std.proofs.Common.{◌≡◌, ℕ, ◌<◌, ◌==◌, Bool, true, false, [], length, slice_index, refl, sym, ap, subst, arith, inl, inr, Option, Some, None}
use Rattle.std.specs.Prelude.{if◌then◌else◌}
use Rattle.std.specs.List.{flat_map, range_with_len}
use Rattle.ver_patch_laws.proofs.RelinkedLemmas.{In}
use Rattle.ver_module.specs.Netlists.{Netlist}
use Rattle.ver_net.specs.declared.pin_ref.PinRef.{PinRef}
use Rattle.ver_patch.specs.NewCells.{NewCell}
use Rattle.ver_patch.specs.Rewires.{Rewire}
use Rattle.ver_patch_laws.proofs.SetLemmas.{in_flat, in_flattened, in_map, in_mapped}
use Rattle.vg_change.specs.Placed.{PlacedNet, cell_stages, cells_of, is_old_end, linked, new_cell, rewires_at, rewires_in, rewires_of}
use Rattle.vg_design.specs.Designs.{name_of, pin_on}
use Rattle.vg_split.specs.Splits.{Split, forest, head, net_of}
use Rattle.vg_split.specs.Stages.{heads, members}
use Rattle.change_netlist_laws.proofs.PutLemmas.{count}
use Rattle.change_netlist_laws.proofs.WireLemmas.{in_range, range_in}

module _ (netlist : Netlist) (p : PlacedNet) (x : Split) where
  -- the pin at a node of the net, if there is one
  abbrev pub pin_at : ℕ → Option PinRef
  pin_at w = pin_on netlist p.net.id (name_of p.net.par (slice_index p.order w))

  -- a pin stands in a stage
  pub record StandsIn (k : ℕ) (at : PinRef) : Type 0 where
    pub w : ℕ
    pub end : is_old_end x w ≡ true
    pub inside : In w (members (forest x) (head x k))
    pub pin : pin_on netlist p.net.id (name_of p.net.par (slice_index p.order w)) ≡ Some at

  -- a pin of a stage other than the keeper is linked to the stage's net
  pub record IsRewired (r : Rewire) : Type 0 where
    pub k : ℕ
    pub low : k < length (heads (forest x))
    pub other : (k == x.keeper) ≡ false
    pub stands : StandsIn k r.at
    pub net : r.net ≡ net_of x k

  pub rewired_is : (r : Rewire) → In r (rewires_of netlist p x) → IsRewired r
  rewired_is r i =
      let (k, j, there) = in_flattened (rewires_in netlist p x) (range_with_len 0 (length (heads (forest x)))) r i in
      let (low, high) = range_in 0 (length (heads (forest x))) k j in
      by_keeper k (omega (arith, high)) (k == x.keeper) refl there
    where
      one : (k w : ℕ) (b : Bool) (o : Option PinRef) → In r (if b then linked (net_of x k) o else []) → (b ≡ true) × (o ≡ Some r.at) × (r.net ≡ net_of x k)
      one k w true None there = absurd there
      one k w true (Some at) (inl e) = (refl, ap (λ (q : Rewire). Some q.at) (sym e), ap (λ (q : Rewire). q.net) e)
      one k w true (Some at) (inr there) = absurd there
      one k w false o there = absurd there

      by_keeper : (k : ℕ) → k < length (heads (forest x)) → (b : Bool) → (k == x.keeper) ≡ b
          → In r (if b then [] else flat_map (rewires_at netlist p x k) (members (forest x) (head x k))) → IsRewired r
      by_keeper k low true e there = absurd there
      by_keeper k low false e there =
          let (w, inside, at) = in_flattened (rewires_at netlist p x k) (members (forest x) (head x k)) r there in
          let (end, pin, net) = one k w (is_old_end x w) (pin_on netlist p.net.id (name_of p.net.par (slice_index p.order w))) at in
          record { k = k; low = low; other = e; stands = record { w = w; end = end; inside = inside; pin = pin }; net = net }

  pub rewired_there : (k : ℕ) (at : PinRef) → k < length (heads (forest x)) → (k == x.keeper) ≡ false → StandsIn k at
      → In (record { at = at; net = net_of x k }) (rewires_of netlist p x)
  rewired_there k at low other s =
      let r : Rewire = record { at = at; net = net_of x k } in
      let one : In r (rewires_at netlist p x k s.w)
      = subst (λ b. In r (if b then linked (net_of x k) (pin_on netlist p.net.id (name_of p.net.par (slice_index p.order s.w))) else [])) (sym s.end)
      (subst (λ o. In r (linked (net_of x k) o)) (sym s.pin) (inl refl)) in
      let all : In r (rewires_in netlist p x k)
      = subst (λ b. In r (if b then [] else flat_map (rewires_at netlist p x k) (members (forest x) (head x k)))) (sym other)
      (in_flat (rewires_at netlist p x k) (members (forest x) (head x k)) s.w r s.inside one) in
      in_flat (rewires_in netlist p x) (range_with_len 0 (length (heads (forest x)))) k r (in_range 0 (length (heads (forest x))) k (omega arith) (omega (arith, low))) all

  -- ---- cells

  -- a cell that is put in begins a stage
  pub record IsPutCell (cell : NewCell) : Type 0 where
    pub k : ℕ
    pub some : 0 < k
    pub low : k < length (heads (forest x))
    pub is : cell ≡ new_cell netlist p.net.id x k

  pub put_is : (cell : NewCell) → In cell (cells_of netlist p.net.id x) → IsPutCell cell
  put_is cell i =
      let (k, j, e) = in_mapped (new_cell netlist p.net.id x) (cell_stages x) cell i in
      let (low, high) = range_in 1 (count x) k j in
      record { k = k; some = omega (arith, low); low = omega (arith, low, high); is = e }

  pub put_there : (k : ℕ) → 0 < k → k < length (heads (forest x)) → In (new_cell netlist p.net.id x k) (cells_of netlist p.net.id x)
  put_there k some low = in_map (new_cell netlist p.net.id x) (cell_stages x) k (in_range 1 (count x) k (omega (arith, some)) (omega (arith, some, low)))
