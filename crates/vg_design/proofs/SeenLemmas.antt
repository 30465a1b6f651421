-- The pins on a net are seen one after another.
use Rattle.std.proofs.Common.{◌≡◌, ℕ, ◌+◌, ◌<◌, ◌≤◌, Bool, true, false, ◌||◌, cond, List, [], ◌∷◌, ◌++◌, map, length, take, get_or, refl, sym, ap, ◌∙◌, subst, arith, Option, Some, None}
use Rattle.std.proofs.lemmas.List.{length-map, get_or-map, same_lists, take_more, take_all, map-append, get_or_default}
use Rattle.std.proofs.lemmas.List.Folds.{find-append, list_any_at}
use Rattle.std.specs.List.{find}
use Rattle.std.specs.Option.{option_or}
use Rattle.spef_nodes.proofs.NodeListLemmas.{any-last, same_is}
use Rattle.spef_nodes.proofs.NodeTableLemmas.{same_refl}
use Rattle.ver_net.specs.Connections.{pins_on}
use Rattle.ver_net.specs.declared.pin_ref.PinRef.{PinRef}
use Rattle.vg_scan.specs.Nodes.{has_node, same_node}
use Rattle.vg_scan.specs.declared.name.NodeName.{NodeName}
use Rattle.vg_design.specs.Designs.{Design, Joined, ends_of, pin_name, pin_on}
use Rattle.vg_design.proofs.ReadyLemmas.{pin_on_net}
use Rattle.vg_design.specs.Steps.{Seen, AreSeen, FindsPins, IsPin, IsSeen, pin_at, pin_names, pin_or}

-- the first pin of a name, where there is one more
found_or : (b : Bool) (first : Option PinRef) (pin : PinRef) → cond b (pin_or first pin) first ≡ option_or first (cond b (Some pin) None)
found_or true None pin = refl
found_or true (Some p) pin = refl
found_or false None pin = refl
found_or false (Some p) pin = refl

or_is : (a b : Bool) (P : Type 0) → (a || b) ≡ true → (a ≡ true → P) → (b ≡ true → P) → P
or_is true b P e f g = f refl
or_is false b P e f g = g e

module _ (d : Design) (n : Joined) where
  abbrev name : PinRef → NodeName
  name pin = pin_name d.netlist pin

  pub seen_none : (seen : Seen) → seen.ends ≡ ends_of n.par → length seen.pins ≡ length (ends_of n.par) → ((i : ℕ) → pin_at seen.pins i ≡ None) → AreSeen d n [] seen
  seen_none seen ends size none = record {
    ends = ends;
    size = size;
    pins = λ i end is low. none i;
    among = λ at e. absurd (cc);
  }

  pub seen_more : (refs : List PinRef) (pin : PinRef) (old new : Seen) → AreSeen d n refs old → IsSeen old new (name pin) pin → AreSeen d n (refs ++ pin ∷ []) new
  seen_more refs pin old new are is = record {
    ends = is.ends ∙ are.ends;
    size = is.size ∙ are.size;
    pins = λ i end at low.
        is.pins i end (ap (λ (xs : List NodeName). get_or xs i end) are.ends ∙ at) (let size = ap length are.ends in omega (arith, low, size))
        ∙ ap (λ p. cond (same_node end (name pin)) (pin_or p pin) p) (are.pins i end at low)
        ∙ found_or (same_node end (name pin)) (find (λ p. same_node end (name p)) refs) pin
        ∙ sym (find-append (λ p. same_node end (name p)) refs (pin ∷ []));
    among = λ at e.
        or_is (has_node (map name refs) at) (same_node at (name pin)) (has_node (ends_of n.par) at ≡ true)
        (sym (any-last (same_node at) (map name refs) (name pin)) ∙ ap (λ (xs : List NodeName). has_node xs at) (sym (map-append name refs (pin ∷ []))) ∙ e)
        (are.among at)
        (λ same. ap (λ (xs : List NodeName). has_node xs at) (sym are.ends) ∙ ap (has_node old.ends) (same_is at (name pin) same) ∙ is.end);
  }

  -- all pins on the net were seen
  pub found_all : (seen : Seen) → AreSeen d n (pins_on d.netlist n.id) seen → FindsPins d n (Some seen.pins)
  found_all seen are = (
    same_lists seen.pins (map (pin_on d.netlist n.id) (ends_of n.par)) (are.size ∙ sym (length-map (ends_of n.par) (pin_on d.netlist n.id))) (λ k e h.
        let low : k < length (ends_of n.par) = (let size = are.size in omega (arith, h, size)) in
        let end = get_or (ends_of n.par) k NO_NAME in
        get_or_default seen.pins k e None h
        ∙ are.pins k end (get_or_default (ends_of n.par) k end NO_NAME low) low
        ∙ sym (get_or-map (pin_on d.netlist n.id) (ends_of n.par) k NO_NAME e low)),
    are.among,
  )
    where
      NO_NAME : NodeName
      NO_NAME = record { owner = []; leaf = [] }

  -- a pin on the net is none of the ends
  pub found_none : (i : ℕ) (pin : PinRef) → i < length (pins_on d.netlist n.id) → get_or (pins_on d.netlist n.id) i pin ≡ pin → has_node (ends_of n.par) (name pin) ≡ false → FindsPins d n None
  found_none i pin h is none =
      let size = length-map (pins_on d.netlist n.id) name in (
        name pin,
        list_any_at (same_node (name pin)) (pin_names d n) i (name pin) (omega (arith, h, size)) (ap (same_node (name pin)) (get_or-map name (pins_on d.netlist n.id) i pin (name pin) h ∙ ap name is) ∙ same_refl (name pin)),
        none,
      )

-- the walk over the pins that a design answers
module _ (d : Design) (n : Joined) (id : ℕ) (items : List PinRef) (at : id ≡ n.id) (are : items ≡ pins_on d.netlist id) where
  pins : items ≡ pins_on d.netlist n.id
  pins = are ∙ ap (pins_on d.netlist) at

  module _ (i : ℕ) (other : PinRef) (h : i < length items) where
    within : i < length (pins_on d.netlist n.id)
    within = let size = ap length pins in omega (arith, size, h)

    here : get_or items i other ≡ get_or (pins_on d.netlist n.id) i other
    here = ap (λ (xs : List PinRef). get_or xs i other) pins

    pub pin_here : IsPin d.netlist (get_or items i other)
    pin_here = subst (IsPin d.netlist) (sym here) (pin_on_net d.netlist n.id i other within)

    pub none_found : (seen : Seen) → AreSeen d n (take i (pins_on d.netlist n.id)) seen → has_node seen.ends (pin_name d.netlist (get_or items i other)) ≡ false → FindsPins d n None
    none_found seen before none =
        found_none d n i (get_or items i other) within (get_or_default (pins_on d.netlist n.id) i (get_or items i other) other within ∙ sym here)
        (ap (λ (xs : List NodeName). has_node xs (pin_name d.netlist (get_or items i other))) (sym before.ends) ∙ none)

    pub more_seen : (old new : Seen) → AreSeen d n (take i (pins_on d.netlist n.id)) old → IsSeen old new (pin_name d.netlist (get_or items i other)) (get_or items i other)
        → AreSeen d n (take (i + 1) (pins_on d.netlist n.id)) new
    more_seen old new before is =
        subst (λ (refs : List PinRef). AreSeen d n refs new) (ap (λ (p : PinRef). take i (pins_on d.netlist n.id) ++ p ∷ []) here ∙ sym (take_more (pins_on d.netlist n.id) i other within))
        (seen_more d n (take i (pins_on d.netlist n.id)) (get_or items i other) old new before is)

  pub all_found : (i : ℕ) → length items ≤ i → (seen_pins : List (Option PinRef)) (seen : Seen) → seen_pins ≡ seen.pins → AreSeen d n (take i (pins_on d.netlist n.id)) seen → FindsPins d n (Some seen_pins)
  all_found i h seen_pins seen e before =
      subst (λ (ps : List (Option PinRef)). FindsPins d n (Some ps)) (sym e)
      (found_all d n seen (subst (λ (refs : List PinRef). AreSeen d n refs seen) (take_all i (pins_on d.netlist n.id) (let size = ap length pins in omega (arith, size, h))) before))
