-- The nets into which cells are put, each with how it is split.
use Rattle.std.proofs.Common.{◌≡◌, ℕ, ◌+◌, ◌-◌, ◌<◌, ◌≤◌, List, [], ◌∷◌, ◌++◌, length, map, refl, sym, ap, ◌∙◌, subst, arith, inl, inr}
use Rattle.std.specs.List.{flat_map}
use Rattle.std.proofs.lemmas.List.{append-nil, append_assoc, length-append, length-map}
use Rattle.std.proofs.lemmas.List.FromFn.{length-range_with_len}
use Rattle.ver_patch.specs.NewCells.{NewCell}
use Rattle.ver_patch.specs.Rewires.{Rewire}
use Rattle.ver_patch_laws.proofs.RelinkedLemmas.{In}
use Rattle.ver_patch_laws.proofs.ApartLemmas.{Apart}
use Rattle.ver_patch_laws.proofs.SetLemmas.{in_map}
use Rattle.vg_change.specs.Changes.{Changes, HavePut, nothing, split_behind}
use Rattle.vg_change.specs.Placed.{PlacedNet, cell_stages, cells_of, rewires_of, split_of, wires_of}
use Rattle.vg_design.specs.Designs.{Design}
use Rattle.vg_split.specs.Splits.{Split, forest}
use Rattle.vg_split.specs.Stages.{heads}
use Rattle.change_netlist_laws.specs.Put.{IsSplitAs}

-- a net, and how it is split
pub record Placing : Type 0 where
  pub p : PlacedNet
  pub x : Split

abbrev pub count : Split → ℕ
count x = length (heads (forest x)) - 1

module _ (d : Design) (prefix : List ℕ) where
  -- nets, one after another: their cells are numbered on and on
  unfoldable pub placings : ℕ → List PlacedNet → List Placing
  placings first [] = []
  placings first (p ∷ nets) = record { p = p; x = split_of d prefix first p } ∷ placings (first + count (split_of d prefix first p)) nets

  abbrev pub rewires_by : Placing → List Rewire
  rewires_by s = rewires_of d.netlist s.p s.x

  abbrev pub cells_by : Placing → List NewCell
  cells_by s = cells_of d.netlist s.p.net.id s.x

  abbrev pub wires_by : Placing → List (List ℕ)
  wires_by s = wires_of s.x

  pub cells_count : (s : Placing) → length (cells_by s) ≡ count s.x
  cells_count s = length-map (cell_stages s.x) _ ∙ length-range_with_len 1 (count s.x)

  -- what comes of nets that are put
  pub record Come (old : Changes) (nets : List PlacedNet) (new : Changes) : Type 0 where
    pub design : new.design ≡ d
    pub prefix_is : new.prefix ≡ prefix
    pub rewires : new.rewires ≡ old.rewires ++ flat_map rewires_by (placings (length old.cells) nets)
    pub cells : new.cells ≡ old.cells ++ flat_map cells_by (placings (length old.cells) nets)
    pub wires : new.wires ≡ old.wires ++ flat_map wires_by (placings (length old.cells) nets)

  pub come : (nets : List PlacedNet) (old new : Changes) → old.design ≡ d → old.prefix ≡ prefix → HavePut old nets new → Come old nets new
  unfolding placings
  come [] old new e f h = record {
    design = ap (λ (c : Changes). c.design) h ∙ e;
    prefix_is = ap (λ (c : Changes). c.prefix) h ∙ f;
    rewires = ap (λ (c : Changes). c.rewires) h ∙ sym (append-nil old.rewires);
    cells = ap (λ (c : Changes). c.cells) h ∙ sym (append-nil old.cells);
    wires = ap (λ (c : Changes). c.wires) h ∙ sym (append-nil old.wires);
  }
  come (p ∷ nets) old new e f (mid, has, more) =
      let own : Placing = record { p = p; x = split_of d prefix (length old.cells) p } in
      let split : split_behind old p ≡ own.x = λ i. split_of (e i) (f i) (length old.cells) p in
      let design : mid.design ≡ d = ap (λ (c : Changes). c.design) has.is ∙ e in
      let prefix_is : mid.prefix ≡ prefix = ap (λ (c : Changes). c.prefix) has.is ∙ f in
      let rewires : mid.rewires ≡ old.rewires ++ rewires_by own
      = ap (λ (c : Changes). c.rewires) has.is ∙ (λ i. old.rewires ++ rewires_of (e i).netlist p (split i)) in
      let cells : mid.cells ≡ old.cells ++ cells_by own
      = ap (λ (c : Changes). c.cells) has.is ∙ (λ i. old.cells ++ cells_of (e i).netlist p.net.id (split i)) in
      let wires : mid.wires ≡ old.wires ++ wires_by own = ap (λ (c : Changes). c.wires) has.is ∙ (λ i. old.wires ++ wires_of (split i)) in
      let size : length mid.cells ≡ length old.cells + count own.x
      = ap (λ (l : List NewCell). length l) cells ∙ length-append old.cells (cells_by own) ∙ ap (λ n. length old.cells + n) (cells_count own) in
      let c = come nets mid new design prefix_is more in
      record {
        design = c.design;
        prefix_is = c.prefix_is;
        rewires = c.rewires ∙ (λ i. rewires i ++ flat_map rewires_by (placings (size i) nets)) ∙ append_assoc old.rewires (rewires_by own) (flat_map rewires_by (placings (length old.cells + count own.x) nets));
        cells = c.cells ∙ (λ i. cells i ++ flat_map cells_by (placings (size i) nets)) ∙ append_assoc old.cells (cells_by own) (flat_map cells_by (placings (length old.cells + count own.x) nets));
        wires = c.wires ∙ (λ i. wires i ++ flat_map wires_by (placings (size i) nets)) ∙ append_assoc old.wires (wires_by own) (flat_map wires_by (placings (length old.cells + count own.x) nets));
      }

  -- ---- each of them

  pub record IsPlacing (first : ℕ) (nets : List PlacedNet) (s : Placing) : Type 0 where
    pub net : In s.p nets
    pub is : s.x ≡ split_of d prefix s.x.first s.p
    pub from : first ≤ s.x.first
    pub to : s.x.first + count s.x ≤ first + length (flat_map cells_by (placings first nets))

  pub placing : (nets : List PlacedNet) (first : ℕ) (s : Placing) → In s (placings first nets) → IsPlacing first nets s
  unfolding placings
  placing [] first s i = absurd i
  placing (p ∷ nets) first s i =
      let own : Placing = record { p = p; x = split_of d prefix first p } in
      let more = flat_map cells_by (placings (first + count own.x) nets) in
      let size : length (cells_by own ++ more) ≡ count own.x + length more = length-append (cells_by own) more ∙ ap (λ n. n + length more) (cells_count own) in
      elim i as (λ _. IsPlacing first (p ∷ nets) s) [
        | inl e ↦ record {
          net = inl (ap (λ (t : Placing). t.p) e);
          is = ap (λ (t : Placing). t.x) e ∙ (λ j. split_of d prefix (ap (λ (t : Placing). t.x.first) (sym e) j) (ap (λ (t : Placing). t.p) (sym e) j));
          from = omega (arith, ap (λ (t : Placing). t.x.first) e);
          to = omega (arith, ap (λ (t : Placing). t.x.first) e, ap (λ (t : Placing). count t.x) e, size);
        }
        | inr j ↦
            let r = placing nets (first + count own.x) s j in
            record { net = inr r.net; is = r.is; from = omega (arith, r.from); to = omega (arith, r.to, size) }
      ]

  -- a cell's number is of one net
  pub one_number : (nets : List PlacedNet) (first m : ℕ) (s t : Placing) → In s (placings first nets) → In t (placings first nets)
      → s.x.first ≤ m → m < s.x.first + count s.x → t.x.first ≤ m → m < t.x.first + count t.x → s ≡ t
  unfolding placings
  one_number [] first m s t i j a b e f = absurd i
  one_number (p ∷ nets) first m s t (inl i) (inl j) a b e f = i ∙ sym j
  one_number (p ∷ nets) first m s t (inl i) (inr j) a b e f =
      let r = placing nets (first + count (split_of d prefix first p)) t j in
      absurd (omega (arith, r.from, e, b, ap (λ (t : Placing). t.x.first) i, ap (λ (t : Placing). count t.x) i))
  one_number (p ∷ nets) first m s t (inr i) (inl j) a b e f =
      let r = placing nets (first + count (split_of d prefix first p)) s i in
      absurd (omega (arith, r.from, a, f, ap (λ (t : Placing). t.x.first) j, ap (λ (t : Placing). count t.x) j))
  one_number (p ∷ nets) first m s t (inr i) (inr j) a b e f = one_number nets (first + count (split_of d prefix first p)) m s t i j a b e f

  -- different nets are split once
  abbrev pub ids : List PlacedNet → List ℕ
  ids nets = map (λ (p : PlacedNet). p.net.id) nets

  pub one_id : (nets : List PlacedNet) (first : ℕ) (s t : Placing) → Apart (ids nets) → In s (placings first nets) → In t (placings first nets)
      → s.p.net.id ≡ t.p.net.id → s ≡ t
  unfolding placings
  one_id [] first s t a i j e = absurd i
  one_id (p ∷ nets) first s t a (inl i) (inl j) e = i ∙ sym j
  one_id (p ∷ nets) first s t a (inl i) (inr j) e =
      let r = placing nets (first + count (split_of d prefix first p)) t j in
      absurd (a.0 (subst (λ n. In n (ids nets)) (sym e ∙ ap (λ (t : Placing). t.p.net.id) i) (in_map (λ (p : PlacedNet). p.net.id) nets t.p r.net)))
  one_id (p ∷ nets) first s t a (inr i) (inl j) e =
      let r = placing nets (first + count (split_of d prefix first p)) s i in
      absurd (a.0 (subst (λ n. In n (ids nets)) (e ∙ ap (λ (t : Placing). t.p.net.id) j) (in_map (λ (p : PlacedNet). p.net.id) nets s.p r.net)))
  one_id (p ∷ nets) first s t a (inr i) (inr j) e = one_id nets (first + count (split_of d prefix first p)) s t a.1 i j e

  -- a net behind others
  pub among : (before after : List PlacedNet) (p : PlacedNet) (first : ℕ)
      → In (record { p = p; x = split_of d prefix (first + length (flat_map cells_by (placings first before))) p }) (placings first (before ++ p ∷ after))
  unfolding placings
  among [] after p first = inl (ap (λ n. record { p = p; x = split_of d prefix n p }) (let e : first + 0 ≡ first = omega arith in e))
  among (q ∷ before) after p first =
      let own : Placing = record { p = q; x = split_of d prefix first q } in
      let more = flat_map cells_by (placings (first + count own.x) before) in
      let size : first + count own.x + length more ≡ first + length (cells_by own ++ more)
      = omega (arith, length-append (cells_by own) more, cells_count own) in
      inr (subst (λ n. In (record { p = p; x = split_of d prefix n p }) (placings (first + count own.x) (before ++ p ∷ after))) size (among before after p (first + count own.x)))

  pub is_among : (nets : List PlacedNet) (c : Changes) (p : PlacedNet) (x : Split) → IsSplitAs d prefix nets c p x → In (record { p = p; x = x }) (placings 0 nets)
  is_among nets c p x s =
      let r = come s.before (nothing d prefix) s.mid refl refl s.were in
      let first : length s.mid.cells ≡ 0 + length (flat_map cells_by (placings 0 s.before)) = omega (arith, ap (λ (l : List NewCell). length l) r.cells) in
      let split : x ≡ split_of d prefix (0 + length (flat_map cells_by (placings 0 s.before))) p
      = s.is ∙ (λ i. split_of (r.design i) (r.prefix_is i) (first i) p) in
      subst (λ ns. In (record { p = p; x = x }) (placings 0 ns)) (sym s.all)
      (subst (λ y. In (record { p = p; x = y }) (placings 0 (s.before ++ p ∷ s.after))) (sym split) (among s.before s.after p 0))
