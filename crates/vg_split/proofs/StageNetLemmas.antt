-- The net of a stage, of its parts.
use Rattle.std.proofs.Common.{◌≡◌, ℕ, ◌+◌, ◌<◌, ◌==◌, ◌&&◌, Bool, true, false, not, cond, List, [], ◌∷◌, ◌++◌, drop, length, map, slice_index, refl, sym, ap, ◌∙◌, subst, arith}
use Rattle.std.specs.List.{filter, All}
use Rattle.std.proofs.lemmas.Bool.{false≢true}
use Rattle.std.proofs.lemmas.List.{length-map, map-append}
use Rattle.vg_scan.specs.declared.chars.Chars.{Chars}
use Rattle.spef_net.specs.declared.net.ParConn.{ParConn}
use Rattle.spef_net.specs.declared.net.ParNet.{ParNet}
use Rattle.spef_net.specs.Nets.{IsCapOf, IsResOf, IsSound}
use Rattle.spef_nodes.specs.Nodes.{ParNode}
use Rattle.vg_split.specs.Stages.{heads, members}
use Rattle.spef_write.specs.Made.{IsSectionOf}
use Rattle.spef_write.specs.Printed.{PrintedNode, printed_of}
use Rattle.spef_write.specs.Sections.{total, total_at}
use Rattle.spef_write.specs.declared.section.Section.{Section}
use Rattle.spef_write.proofs.PartLemmas.{printed_each}
use Rattle.vg_split.specs.Conditions.{IsSplit}
use Rattle.vg_split.specs.Splits.{IsStageNet, Split, cap_in, ends_in, forest, head, inner_in, is_end, net_of, node_in, nodes_in, old_node, repeater_at, res_in, with_cell}
use Rattle.vg_split.specs.Steps.{AreParts, ArePrintedParts, cap_row, inner_node, inner_row, row_in}
use Rattle.vg_split.proofs.CapLemmas.{caps_are, caps_once, caps_order}
use Rattle.vg_split.proofs.ConnLemmas.{all_conns, joined}
use Rattle.vg_split.proofs.KindLemmas.{Kind, inner, kept, pin, kind}
use Rattle.vg_split.proofs.SoundLemmas.{all_named, distinct, inside, named_net, notes}
use Rattle.vg_split.proofs.ValueLemmas.{caps_at, ress_at}

-- the inner nodes are put behind the connections
map_agree : (p : ℕ → Bool) (f g : ℕ → PrintedNode) → ((w : ℕ) → p w ≡ true → f w ≡ g w) → (ws : List ℕ) → map f (filter p ws) ≡ map g (filter p ws)
map_agree p f g same [] = refl
map_agree p f g same (w ∷ ws) = by (p w) refl (map_agree p f g same ws)
  where
    by : (b : Bool) → p w ≡ b → map f (filter p ws) ≡ map g (filter p ws)
        → map f (cond b (w ∷ filter p ws) (filter p ws)) ≡ map g (cond b (w ∷ filter p ws) (filter p ws))
    by true pass rest = ap (λ (n : PrintedNode). n ∷ map f (filter p ws)) (same w pass) ∙ ap (λ (ns : List PrintedNode). g w ∷ ns) rest
    by false fail rest = rest

inner_is : (chars : Chars) (x : Split) (k w : ℕ) → not (is_end x w) ≡ true → inner_node x (net_of x k) w ≡ node_in chars x k w
inner_is chars x k w none = by (kind x k w)
  where
    by : Kind x k w → inner_node x (net_of x k) w ≡ node_in chars x k w
    by (pin a) = absurd (false≢true (sym (ap not a.end) ∙ none))
    by (inner a) =
        let name = sym a.name in
        let own = sym none in
        let note = sym (ap (λ b. cond b (with_cell chars (old_node x w).note (repeater_at x w).cell) (old_node x w).note) a.bare) in
        λ i. record { name = name i; inner = own i; note = note i }
    by (kept a) = absurd (false≢true (sym (ap not a.end) ∙ none))

charge_is : (x : Split) (k w : ℕ) → not (is_end x w) ≡ true → total_at x.par.caps (slice_index x.order w) ≡ cap_in x k w
charge_is x k w none = by (kind x k w)
  where
    by : Kind x k w → total_at x.par.caps (slice_index x.order w) ≡ cap_in x k w
    by (pin a) = absurd (false≢true (sym (ap not a.end) ∙ none))
    by (inner a) = sym (ap (λ b. cond (b && not (w == head x k)) 0 (total_at x.par.caps (slice_index x.order w))) a.bare)
    by (kept a) = absurd (false≢true (sym (ap not a.end) ∙ none))

row_is : (chars : Chars) (x : Split) (k w : ℕ) → not (is_end x w) ≡ true → inner_row chars x (net_of x k) w ≡ row_in chars x k w
row_is chars x k w none =
    let node = inner_is chars x k w none in
    let charge = charge_is x k w none in
    λ i. printed_of chars (node i) (charge i)

pub all_rows : (chars : Chars) (x : Split) (k : ℕ) (old new : List PrintedNode) → old ≡ map (row_in chars x k) (ends_in x k)
    → new ≡ old ++ map (inner_row chars x (net_of x k)) (inner_in x k) → new ≡ map (row_in chars x k) (nodes_in x k)
all_rows chars x k old new old_is new_is =
    let row = row_in chars x k in
    new_is ∙ ap (λ (ns : List PrintedNode). ns ++ map (inner_row chars x (net_of x k)) (inner_in x k)) old_is
    ∙ ap (λ (ns : List PrintedNode). map row (ends_in x k) ++ ns)
    (map_agree (λ w. not (is_end x w)) (inner_row chars x (net_of x k)) row (row_is chars x k) (members (forest x) (head x k)))
    ∙ sym (map-append row (ends_in x k) (inner_in x k))

-- they are sound
pub sound : (chars : Chars) (x : Split) (k : ℕ) (name : List ℕ) (nodes : List ParNode) (conns : List ParConn) (caps : List (ℕ × ℕ)) (ress : List (ℕ × ℕ × ℕ))
    → IsSplit x → k < length (heads (forest x)) → AreParts chars x k name nodes conns caps ress → IsSound name nodes conns caps ress
sound chars x k name nodes conns caps ress is low are =
    let ns = map (node_in chars x k) (nodes_in x k) in
    let count : length (nodes_in x k) ≡ length ns = sym (length-map (nodes_in x k) (node_in chars x k)) in
    let caps_sound = subst (λ (l : List (ℕ × ℕ)). All (IsCapOf (length (nodes_in x k))) l) (sym are.caps_are) (caps_at x is k are.places are.numbered) in
    let ress_sound = subst (λ (l : List (ℕ × ℕ × ℕ)). All (IsResOf (length (nodes_in x k))) l) (sym are.ress_are) (ress_at x k low are.places are.numbered) in
    subst (λ (n : List ℕ). IsSound n nodes conns caps ress) (sym are.name_is)
    (subst (λ (l : List ParNode). IsSound (net_of x k) l conns caps ress) (sym are.nodes_are) (record {
      named = named_net x is k low;
      nodes_named = all_named chars x is k low;
      distinct = distinct chars x is k low are.places are.numbered;
      joined = joined chars x is k conns are.conns_are;
      inside = inside chars x is k;
      notes = notes chars x is k;
      caps_at = subst (λ n. All (IsCapOf n) caps) count caps_sound;
      ress_at = subst (λ n. All (IsResOf n) ress) count ress_sound;
    }))

-- and a net of them is the stage's
pub stage_net : (chars : Chars) (x : Split) (k : ℕ) (net : ParNet) → AreParts chars x k net.name net.nodes net.conns net.caps net.ress
    → net.reduced ≡ false → net.inductive ≡ false → IsStageNet chars x k net
stage_net chars x k net are whole plain = record {
  name = are.name_is;
  nodes = are.nodes_are;
  conns = all_conns x k net.conns are.conns_are;
  caps = λ i low. ap (λ (caps : List (ℕ × ℕ)). total_at caps i) are.caps_are ∙ caps_are x k i are.places are.numbered low;
  order = ap (map (λ (cap : ℕ × ℕ). cap.0)) are.caps_are ∙ caps_order x k (members (forest x) (head x k));
  ress = are.ress_are;
  whole = whole;
  plain = plain;
}

-- ---- of printed parts

module _ (chars : Chars) (x : Split) (k : ℕ) (places name : List ℕ) (nodes : List PrintedNode) (conns : List ParConn) (numbers : List ℕ) (ress : List (ℕ × ℕ × ℕ)) where
  abbrev caps : List (ℕ × ℕ)
  caps = map (cap_row x k) (members (forest x) (head x k))

  abbrev rows : List (ℕ × ℕ × ℕ)
  rows = map (res_in x k) (drop 1 (members (forest x) (head x k)))

  pub parts : ArePrintedParts chars x k places name nodes conns numbers ress → AreParts chars x k (net_of x k) (map (node_in chars x k) (nodes_in x k)) conns caps rows
  parts are = record {
    places = places;
    numbered = are.numbered;
    name_is = refl;
    nodes_are = refl;
    conns_are = are.conns_are;
    caps_are = refl;
    ress_are = refl;
  }

  -- the net that is made of them
  abbrev pub printed_net : IsSplit x → k < length (heads (forest x)) → ArePrintedParts chars x k places name nodes conns numbers ress → ParNet
  printed_net is low are = record {
    name = net_of x k;
    nodes = map (node_in chars x k) (nodes_in x k);
    conns = conns;
    caps = caps;
    ress = rows;
    reduced = false;
    inductive = false;
    sound = sound chars x k (net_of x k) (map (node_in chars x k) (nodes_in x k)) conns caps rows is low (parts are);
  }

  pub printed_stage : (is : IsSplit x) (low : k < length (heads (forest x))) (are : ArePrintedParts chars x k places name nodes conns numbers ress)
      → IsStageNet chars x k (printed_net is low are)
  printed_stage is low are = stage_net chars x k (printed_net is low are) (parts are) refl refl

  pub printed_section : (is : IsSplit x) (low : k < length (heads (forest x))) (are : ArePrintedParts chars x k places name nodes conns numbers ress) (section : Section)
      → section.name.now ≡ name → section.charge ≡ total caps → section.nodes.now ≡ nodes → section.conns.now ≡ conns → section.cap_nodes.now ≡ numbers
      → section.ress.now ≡ ress
      → IsSectionOf chars (printed_net is low are) section
  printed_section is low are section name_is charge_is nodes_are conns_are numbers_are ress_are = record {
    name = name_is ∙ are.name_is;
    charge = charge_is;
    nodes =
        nodes_are ∙ are.nodes_are
        ∙ sym (printed_each chars caps (node_in chars x k) (cap_in x k) 0 (nodes_in x k) (λ i i_low.
        let at : 0 + i ≡ i = omega arith in
        ap (total_at caps) at ∙ caps_are x k i places are.numbered i_low));
    conns = conns_are;
    cap_nodes = numbers_are ∙ are.cap_nodes_are ∙ sym (caps_once x k places are.numbered);
    ress = ress_are ∙ are.ress_are;
  }
