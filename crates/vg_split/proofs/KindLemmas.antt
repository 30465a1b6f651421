-- The nodes of a stage: a cell's pin, a node inside the net, or one of its pins and ports. No two have the same name.
use Rattle.std.proofs.Common.{◌≡◌, ◌≢◌, ℕ, ◌<◌, ◌^◌, ◌==◌, ◌||◌, Bool, true, false, not, cond, length, slice_index, sym, ap, ◌∙◌, arith, inl, inr}
use Rattle.std.specs.List.{All}
use Rattle.std.specs.Str.{bytes_eq}
use Rattle.std.proofs.lemmas.Bool.{cases_Bool, cases_lt}
use Rattle.std.proofs.lemmas.List.Elements.{All-get_or}
use Rattle.std.proofs.lemmas.Slice.Eq.{bytes_eq-Decides}
use Rattle.vg_num.specs.Number.{are_digits}
use Rattle.vg_scan.specs.declared.name.NodeName.{NodeName}
use Rattle.spef_net.specs.Nets.{IsInside}
use Rattle.spef_nodes.specs.Nodes.{ParNode}
use Rattle.vg_split.specs.Stages.{heads}
use Rattle.spef_write.specs.Sections.{NO_NODE}
use Rattle.spef_write.proofs.WordLemmas.{both_true}
use Rattle.vg_split.specs.Conditions.{IsOld, IsSplit}
use Rattle.vg_split.specs.NewNames.{cell_name, net_name}
use Rattle.vg_split.specs.Splits.{Split, forest, head, is_celled, is_end, name_in, net_of, number_of, old_node, pin_in, stage_from}
use Rattle.vg_split.proofs.NewNameLemmas.{cell_net, old_cell, old_net, one_cell}
use Rattle.vg_split.proofs.SplitLemmas.{from_head, from_low, from_some, number_fits}

-- ---- the net's nodes

pub old_low : (x : Split) → IsSplit x → (w : ℕ) → w < length x.problem.tree.nodes → slice_index x.order w < length x.par.nodes
old_low x is w low = is.order.within w (omega (arith, low, is.tree))

pub old_all : (x : Split) → IsSplit x → (P : ParNode → Type 0) → All P x.par.nodes → (w : ℕ) → w < length x.problem.tree.nodes → P (old_node x w)
old_all x is P all w low = All-get_or P x.par.nodes (slice_index x.order w) NO_NODE (old_low x is w low) all

-- two of them have different names
old_same : (x : Split) → IsSplit x → (u v : ℕ) → u < length x.problem.tree.nodes → v < length x.problem.tree.nodes
    → (old_node x u).name ≡ (old_node x v).name → u ≡ v
old_same x is u v u_low v_low e =
    let i = slice_index x.order u in
    let j = slice_index x.order v in
    let distinct = x.par.sound.distinct in
    elim (cases_lt i j) [
      | inl less ↦ absurd (distinct i j NO_NODE less (old_low x is v v_low) e)
      | inr more ↦ elim (cases_lt j i) [
        | inl less ↦ absurd (distinct j i NO_NODE less (old_low x is u u_low) (sym e))
        | inr same ↦ by_number (omega (arith, more, same))
      ]
    ]
  where
    by_number : slice_index x.order u ≡ slice_index x.order v → u ≡ v
    by_number at = elim (cases_lt u v) [
      | inl less ↦ absurd (is.order.once u v less (omega (arith, v_low, is.tree)) at)
      | inr more ↦ elim (cases_lt v u) [
        | inl less ↦ absurd (is.order.once v u less (omega (arith, u_low, is.tree)) (sym at))
        | inr same ↦ omega (arith, more, same)
      ]
    ]

-- one inside the net has the net's name as owner, and a leaf of digits
pub record IsOwn (x : Split) (w : ℕ) : Type 0 where
  pub owner : (old_node x w).name.owner ≡ x.par.name
  pub digits : are_digits (old_node x w).name.leaf ≡ true

pub own : (x : Split) → IsSplit x → (w : ℕ) → w < length x.problem.tree.nodes → (old_node x w).inner ≡ true → IsOwn x w
own x is w low inner =
    let both = both_true (bytes_eq (old_node x w).name.owner x.par.name) (are_digits (old_node x w).name.leaf)
    (old_all x is (IsInside x.par.name) x.par.sound.inside w low inner) in
    record { owner = (bytes_eq-Decides (old_node x w).name.owner x.par.name).0 both.0; digits = both.1 }

-- ---- the nodes of a stage

abbrev pub pin_name : Split → ℕ → ℕ → NodeName
pin_name x k w = record { owner = cell_name x.prefix (number_of x (stage_from x w)); leaf = pin_in x k w }

abbrev pub inner_name : Split → ℕ → ℕ → NodeName
inner_name x k w = record { owner = net_of x k; leaf = (old_node x w).name.leaf }

pub record IsPin (x : Split) (k w : ℕ) : Type 0 where
  pub celled : is_celled x w ≡ true
  pub end : is_end x w ≡ true
  pub name : name_in x k w ≡ pin_name x k w

pub record IsInner (x : Split) (k w : ℕ) : Type 0 where
  pub bare : is_celled x w ≡ false
  pub inner : (old_node x w).inner ≡ true
  pub end : is_end x w ≡ false
  pub name : name_in x k w ≡ inner_name x k w

pub record IsKept (x : Split) (k w : ℕ) : Type 0 where
  pub bare : is_celled x w ≡ false
  pub inner : (old_node x w).inner ≡ false
  pub end : is_end x w ≡ true
  pub name : name_in x k w ≡ (old_node x w).name

pub data Kind (x : Split) (k w : ℕ) : Type 0 where
  pin : IsPin x k w → Kind x k w
  inner : IsInner x k w → Kind x k w
  kept : IsKept x k w → Kind x k w

pub kind : (x : Split) (k w : ℕ) → Kind x k w
kind x k w =
    let old = old_node x w in
    let name : Bool → Bool → NodeName = λ celled inside. cond celled (pin_name x k w) (cond inside (inner_name x k w) old.name) in
    elim (cases_Bool (is_celled x w)) [
      | inl celled ↦
          pin (record { celled = celled; end = ap (λ b. b || not old.inner) celled; name = ap (λ b. name b old.inner) celled })
      | inr bare ↦ elim (cases_Bool old.inner) [
        | inl inside ↦ inner (record {
          bare = bare;
          inner = inside;
          end = ap (λ b. b || not old.inner) bare ∙ ap not inside;
          name = ap (λ b. name b old.inner) bare ∙ ap (λ b. cond b (inner_name x k w) old.name) inside;
        })
        | inr outside ↦ kept (record {
          bare = bare;
          inner = outside;
          end = ap (λ b. b || not old.inner) bare ∙ ap not outside;
          name = ap (λ b. name b old.inner) bare ∙ ap (λ b. cond b (inner_name x k w) old.name) outside;
        })
      ]
    ]

-- the name of a stage's net: the net's own, or a new one
pub data NetName (x : Split) (k : ℕ) : Type 0 where
  same : net_of x k ≡ x.par.name → NetName x k
  new : (m : ℕ) → m < 2 ^ 64 → net_of x k ≡ net_name x.prefix m → NetName x k

pub net_named : (x : Split) → IsSplit x → (k : ℕ) → k < length (heads (forest x)) → NetName x k
net_named x is k low =
    let cell = cond (k == 0) x.keeper k in
    elim (cases_Bool (k == x.keeper)) [
      | inl keeps ↦ same (ap (λ b. cond b x.par.name (net_name x.prefix (number_of x cell))) keeps)
      | inr other ↦
          new (number_of x cell) (number_fits x is cell (one_of (k == 0)))
          (ap (λ b. cond b x.par.name (net_name x.prefix (number_of x cell))) other)
    ]
  where
    one_of : (b : Bool) → cond b x.keeper k < length (heads (forest x))
    one_of true = is.keeper
    one_of false = low

-- ---- distinct names

module _ (x : Split) (is : IsSplit x) (k : ℕ) (low : k < length (heads (forest x))) where
  cells_same : (u v : ℕ) → u < length x.problem.tree.nodes → v < length x.problem.tree.nodes → is_celled x u ≡ true → is_celled x v ≡ true
      → pin_name x k u ≡ pin_name x k v → u ≡ v
  cells_same u v u_low v_low u_has v_has e =
      let numbers = one_cell x.prefix (number_of x (stage_from x u)) (number_of x (stage_from x v)) (number_fits x is (stage_from x u) (from_low x u u_low u_has))
      (number_fits x is (stage_from x v) (from_low x v v_low v_has)) (ap (λ (n : NodeName). n.owner) e) in
      let stages : stage_from x u ≡ stage_from x v = omega (arith, numbers, from_some x is u u_has, from_some x is v v_has) in
      sym (from_head x u u_low u_has) ∙ ap (head x) stages ∙ from_head x v v_low v_has

  cell_inner : (m : ℕ) → cell_name x.prefix m ≢ net_of x k
  cell_inner m e = by (net_named x is k low)
    where
      by : NetName x k → ⊥
      by (same net) = old_cell x.prefix x.par.name m is.new.name (sym net ∙ sym e)
      by (new n fits net) = cell_net x.prefix m n (e ∙ net)

  old_owner : (v : ℕ) → v < length x.problem.tree.nodes → IsOld x.prefix (old_node x v).name.owner
  old_owner v v_low = old_all x is (λ node. IsOld x.prefix node.name.owner) is.new.owners v v_low

  inners_same : (u v : ℕ) → u < length x.problem.tree.nodes → v < length x.problem.tree.nodes → (old_node x u).inner ≡ true → (old_node x v).inner ≡ true
      → inner_name x k u ≡ inner_name x k v → u ≡ v
  inners_same u v u_low v_low u_in v_in e =
      let owners : (old_node x u).name.owner ≡ (old_node x v).name.owner = (own x is u u_low u_in).owner ∙ sym (own x is v v_low v_in).owner in
      let leaves : (old_node x u).name.leaf ≡ (old_node x v).name.leaf = ap (λ (n : NodeName). n.leaf) e in
      old_same x is u v u_low v_low (λ i. record { owner = owners i; leaf = leaves i })

  inner_kept : (u v : ℕ) → u < length x.problem.tree.nodes → v < length x.problem.tree.nodes → (old_node x u).inner ≡ true
      → inner_name x k u ≡ (old_node x v).name → u ≡ v
  inner_kept u v u_low v_low u_in e = by (net_named x is k low)
    where
      by : NetName x k → u ≡ v
      by (same net) =
          let owners : (old_node x u).name.owner ≡ (old_node x v).name.owner = (own x is u u_low u_in).owner ∙ sym net ∙ ap (λ (n : NodeName). n.owner) e in
          let leaves : (old_node x u).name.leaf ≡ (old_node x v).name.leaf = ap (λ (n : NodeName). n.leaf) e in
          old_same x is u v u_low v_low (λ i. record { owner = owners i; leaf = leaves i })
      by (new n fits net) = absurd (old_net x.prefix (old_node x v).name.owner n (old_owner v v_low) (sym (ap (λ (n : NodeName). n.owner) e) ∙ net))

  pub same_name : (u v : ℕ) → u < length x.problem.tree.nodes → v < length x.problem.tree.nodes → name_in x k u ≡ name_in x k v → u ≡ v
  same_name u v u_low v_low e = by (kind x k u) (kind x k v)
    where
      named : {a b : NodeName} → name_in x k u ≡ a → name_in x k v ≡ b → a ≡ b
      named p q = sym p ∙ e ∙ q

      by : Kind x k u → Kind x k v → u ≡ v
      by (pin a) (pin b) = cells_same u v u_low v_low a.celled b.celled (named a.name b.name)
      by (pin a) (inner b) = absurd (cell_inner (number_of x (stage_from x u)) (ap (λ (n : NodeName). n.owner) (named a.name b.name)))
      by (pin a) (kept b) =
          absurd (old_cell x.prefix (old_node x v).name.owner (number_of x (stage_from x u)) (old_owner v v_low)
          (sym (ap (λ (n : NodeName). n.owner) (named a.name b.name))))
      by (inner a) (pin b) = absurd (cell_inner (number_of x (stage_from x v)) (sym (ap (λ (n : NodeName). n.owner) (named a.name b.name))))
      by (inner a) (inner b) = inners_same u v u_low v_low a.inner b.inner (named a.name b.name)
      by (inner a) (kept b) = inner_kept u v u_low v_low a.inner (named a.name b.name)
      by (kept a) (pin b) =
          absurd (old_cell x.prefix (old_node x u).name.owner (number_of x (stage_from x v)) (old_owner u u_low)
          (ap (λ (n : NodeName). n.owner) (named a.name b.name)))
      by (kept a) (inner b) = sym (inner_kept v u v_low u_low b.inner (sym (named a.name b.name)))
      by (kept a) (kept b) = old_same x is u v u_low v_low (named a.name b.name)
