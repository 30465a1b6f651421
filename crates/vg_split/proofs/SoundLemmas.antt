-- The net of a stage keeps what the type of a net keeps.
use Rattle.std.proofs.Common.{◌≡◌, ℕ, ◌<◌, ◌==◌, ◌&&◌, ◌⊎◌, Bool, true, false, not, cond, List, length, map, slice_index, slice_index_or, unwrap_or, refl, sym, ap, ◌∙◌, subst, arith, inl, inr, Option, Some, None}
use Rattle.std.specs.Prelude.{is_some}
use Rattle.std.specs.List.{All, AllPass}
use Rattle.std.specs.Str.{bytes_eq}
use Rattle.std.proofs.lemmas.Bool.{cases_Bool, false≢true}
use Rattle.std.proofs.lemmas.List.{get_or-map, length-map}
use Rattle.std.proofs.lemmas.List.Elements.{All-append, All-filter, All-get_or, All-map, All-weaker}
use Rattle.std.proofs.lemmas.Slice.Eq.{bytes_eq-Decides}
use Rattle.elmore.specs.Cells.{rep_of}
use Rattle.vg_num.specs.Number.{are_digits}
use Rattle.vg_scan.specs.declared.chars.Chars.{Chars}
use Rattle.vg_scan.specs.declared.name.NodeName.{NodeName}
use Rattle.vg_scan.specs.Printed.{is_solid, IsPrintable}
use Rattle.spef_net.specs.Nets.{AreDistinct, IsInside, IsNamed as IsNodeNamed, IsNote}
use Rattle.spef_nodes.specs.Members.{is_inner}
use Rattle.spef_nodes.specs.Nodes.{ParNode}
use Rattle.vg_split.specs.Stages.{heads, members}
use Rattle.vg_split.specs.Conditions.{IsNamed, IsSplit}
use Rattle.vg_split.specs.Splits.{NO_REPEATER, Split, ends_in, forest, head, inner_in, is_celled, is_end, name_in, net_of, node_in, nodes_in, note_in, number_of, old_node, pin_in, repeater_at, stage_from, with_cell}
use Rattle.vg_split.specs.Steps.{AreNumbered}
use Rattle.vg_split.proofs.KindLemmas.{Kind, inner, kept, pin, NetName, new, same, kind, net_named, old_all, own, same_name}
use Rattle.vg_split.proofs.MemberLemmas.{members_low}
use Rattle.vg_split.proofs.NewNameLemmas.{cell_word, net_word}
use Rattle.vg_split.proofs.NoteLemmas.{note_with}
use Rattle.vg_split.proofs.NumberedLemmas.{one_number}
use Rattle.vg_split.proofs.SplitLemmas.{from_low, number_fits}

-- the repeater at a cell
pub named_cell : (x : Split) → IsSplit x → (w : ℕ) → is_celled x w ≡ true → IsNamed (repeater_at x w)
named_cell x is w has = by (slice_index_or x.cells w None) refl has
  where
    by : (o : Option ℕ) → slice_index_or x.cells w None ≡ o → is_some (rep_of x.problem.reps o) ≡ true
        → IsNamed (slice_index_or x.repeaters (unwrap_or o 0) NO_REPEATER)
    by None e f = absurd (false≢true f)
    by (Some b) e f = All-get_or IsNamed x.repeaters b NO_REPEATER (is.numbered w b e) is.repeaters

-- a pin of a cell has a name
pub named_pin : (x : Split) → IsSplit x → (k w : ℕ) → is_celled x w ≡ true → IsPrintable (pin_in x k w)
named_pin x is k w has = by (w == head x k)
  where
    by : (first : Bool) → IsPrintable (cond first (repeater_at x w).output (repeater_at x w).input)
    by true = (named_cell x is w has).output
    by false = (named_cell x is w has).input

-- a stage's nodes are nodes of the tree
pub nodes_low : (x : Split) (k : ℕ) → All (λ w. w < length x.problem.tree.nodes) (nodes_in x k)
nodes_low x k =
    let within : ℕ → Type 0 = λ w. w < length x.problem.tree.nodes in
    let ws = members (forest x) (head x k) in
    All-append within (ends_in x k) (inner_in x k) (All-filter (is_end x) within ws (members_low x k))
    (All-filter (λ w. not (is_end x w)) within ws (members_low x k))

-- ---- names

pub named_net : (x : Split) → IsSplit x → (k : ℕ) → k < length (heads (forest x)) → IsPrintable (net_of x k)
named_net x is k low = by (net_named x is k low)
  where
    by : NetName x k → IsPrintable (net_of x k)
    by (same net) = subst IsPrintable (sym net) x.par.sound.named
    by (new m fits net) = subst IsPrintable (sym net) (net_word x.prefix m is.new.prefix fits)

abbrev pub IsName : NodeName → Type 0
IsName name = IsPrintable name.owner × AllPass is_solid name.leaf

pub named_node : (x : Split) → IsSplit x → (k : ℕ) → k < length (heads (forest x)) → (w : ℕ) → w < length x.problem.tree.nodes → IsName (name_in x k w)
named_node x is k low w w_low = by (kind x k w)
  where
    by : Kind x k w → IsName (name_in x k w)
    by (pin a) = subst IsName (sym a.name) (
      cell_word x.prefix (number_of x (stage_from x w)) is.new.prefix (number_fits x is (stage_from x w) (from_low x w w_low a.celled)),
      (named_pin x is k w a.celled).solid,
    )
    by (inner a) = subst IsName (sym a.name) (named_net x is k low, (old_all x is IsNodeNamed x.par.sound.nodes_named w w_low).1)
    by (kept a) = subst IsName (sym a.name) (old_all x is IsNodeNamed x.par.sound.nodes_named w w_low)

pub all_named : (chars : Chars) (x : Split) → IsSplit x → (k : ℕ) → k < length (heads (forest x)) → All IsNodeNamed (map (node_in chars x k) (nodes_in x k))
all_named chars x is k low =
    All-map IsNodeNamed (node_in chars x k) (nodes_in x k)
    (All-weaker (λ w. w < length x.problem.tree.nodes) (λ w. IsName (name_in x k w)) (named_node x is k low) (nodes_in x k) (nodes_low x k))

pub distinct : (chars : Chars) (x : Split) → IsSplit x → (k : ℕ) → k < length (heads (forest x)) → (places : List ℕ) → AreNumbered places (nodes_in x k)
    → AreDistinct (map (node_in chars x k) (nodes_in x k))
distinct chars x is k low places numbered i j d less j_in e =
    let node = node_in chars x k in
    let j_low : j < length (nodes_in x k) = omega (arith, j_in, length-map (nodes_in x k) node) in
    let i_low : i < length (nodes_in x k) = omega (arith, less, j_low) in
    let names : name_in x k (slice_index (nodes_in x k) i) ≡ name_in x k (slice_index (nodes_in x k) j)
    = sym (ap (λ (n : ParNode). n.name) (get_or-map node (nodes_in x k) i 0 d i_low)) ∙ e
    ∙ ap (λ (n : ParNode). n.name) (get_or-map node (nodes_in x k) j 0 d j_low) in
    let nodes = same_name x is k low (slice_index (nodes_in x k) i) (slice_index (nodes_in x k) j) (nodes_low x k i 0 i_low) (nodes_low x k j 0 j_low) names in
    omega (arith, less, one_number places (nodes_in x k) i j numbered i_low j_low nodes)

pub inside : (chars : Chars) (x : Split) → IsSplit x → (k : ℕ) → All (IsInside (net_of x k)) (map (node_in chars x k) (nodes_in x k))
inside chars x is k =
    All-map (IsInside (net_of x k)) (node_in chars x k) (nodes_in x k)
    (All-weaker (λ w. w < length x.problem.tree.nodes) (λ w. IsInside (net_of x k) (node_in chars x k w))
    (λ w w_low inside. by w w_low (kind x k w) inside) (nodes_in x k) (nodes_low x k))
  where
    both : (a b : Bool) → a ≡ true → b ≡ true → (a && b) ≡ true
    both a b e f = rw (e, f) refl

    by : (w : ℕ) → w < length x.problem.tree.nodes → Kind x k w → not (is_end x w) ≡ true → is_inner (net_of x k) (name_in x k w) ≡ true
    by w w_low (pin a) e = absurd (false≢true (sym (ap not a.end) ∙ e))
    by w w_low (inner a) e =
        ap (is_inner (net_of x k)) a.name
        ∙ both (bytes_eq (net_of x k) (net_of x k)) (are_digits (old_node x w).name.leaf) ((bytes_eq-Decides (net_of x k) (net_of x k)).1 refl)
        (own x is w w_low a.inner).digits
    by w w_low (kept a) e = absurd (false≢true (sym (ap not a.end) ∙ e))

-- ---- notes

pub notes : (chars : Chars) (x : Split) → IsSplit x → (k : ℕ) → All (λ node. IsNote node.note) (map (node_in chars x k) (nodes_in x k))
notes chars x is k =
    All-map (λ (node : ParNode). IsNote node.note) (node_in chars x k) (nodes_in x k)
    (All-weaker (λ w. w < length x.problem.tree.nodes) (λ w. IsNote (note_in chars x w))
    (λ w w_low. by w w_low (cases_Bool (is_celled x w))) (nodes_in x k) (nodes_low x k))
  where
    was : (w : ℕ) → w < length x.problem.tree.nodes → IsNote (old_node x w).note
    was w w_low = old_all x is (λ node. IsNote node.note) x.par.sound.notes w w_low

    by : (w : ℕ) → w < length x.problem.tree.nodes → (is_celled x w ≡ true) ⊎ (is_celled x w ≡ false) → IsNote (note_in chars x w)
    by w w_low (inl has) =
        let cell = named_cell x is w has in
        subst (λ b. IsNote (cond b (with_cell chars (old_node x w).note (repeater_at x w).cell) (old_node x w).note)) (sym has)
        (note_with chars (old_node x w).note (repeater_at x w).cell (was w w_low) cell.cell cell.ends)
    by w w_low (inr bare) =
        subst (λ b. IsNote (cond b (with_cell chars (old_node x w).note (repeater_at x w).cell) (old_node x w).note)) (sym bare) (was w w_low)
