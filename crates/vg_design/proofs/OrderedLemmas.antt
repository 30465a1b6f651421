-- Pins on a net that are its connections one after another.
use Rattle.std.proofs.Common.{◌≡◌, ◌≢◌, ℕ, zero, suc, ◌+◌, ◌<◌, ◌≤◌, Bool, true, false, cond, List, [], ◌∷◌, ◌++◌, map, length, take, get_or, refl, sym, ap, ◌∙◌, subst, arith, Option, Some, inl, inr}
use Rattle.std.proofs.lemmas.Bool.Decides.{eqb_tells}
use Rattle.std.proofs.lemmas.List.{length-map, get_or-map, get_or_default, same_lists, take_more, take_all, map-append}
use Rattle.std.specs.List.{find}
use Rattle.spef_nodes.proofs.NodeListLemmas.{same_is}
use Rattle.spef_nodes.proofs.NodeTableLemmas.{same_refl}
use Rattle.ver_net.specs.Connections.{pins_on}
use Rattle.ver_net.specs.declared.pin_ref.PinRef.{PinRef}
use Rattle.vg_scan.specs.Nodes.{has_node, same_node}
use Rattle.vg_scan.specs.declared.name.NodeName.{NodeName}
use Rattle.vg_design.proofs.EndLemmas.{end_is, ends_size, names_differ}
use Rattle.vg_design.specs.Designs.{Design, Joined, ends_of, name_of, pin_name, pin_on}
use Rattle.vg_design.specs.Steps.{FindsPins, pin_names}

module _ (name : PinRef → NodeName) where
  differs : (a b : NodeName) → a ≢ b → (t : Bool) → same_node a b ≡ t → t ≡ false
  differs a b other false e = refl
  differs a b other true e = absurd (other (same_is a b e))

  -- of pins whose names differ each one is the first of its name
  first_is : (refs : List PinRef) (none : PinRef) → ((i j : ℕ) → i < j → j < length refs → name (get_or refs i none) ≢ name (get_or refs j none)) → (k : ℕ) → k < length refs
      → find (λ pin. same_node (name (get_or refs k none)) (name pin)) refs ≡ Some (get_or refs k none)
  first_is [] none apart k low = absurd (omega (arith, low))
  first_is (pin ∷ refs) none apart zero low = ap (λ t. cond t (Some pin) (find (λ other. same_node (name pin) (name other)) refs)) (same_refl (name pin))
  first_is (pin ∷ refs) none apart (suc k) low =
      let within : k < length refs = omega (arith, low) in
      let later = name (get_or refs k none) in
      ap (λ t. cond t (Some pin) (find (λ other. same_node later (name other)) refs))
      (differs later (name pin) (λ same. apart 0 (suc k) (omega arith) low (sym same)) (same_node later (name pin)) refl)
      ∙ first_is refs none (λ i j less few. apart (suc i) (suc j) (omega (arith, less)) (omega (arith, few))) k within

abbrev pub NO_PIN : PinRef
NO_PIN = record { instance = 0; pin = 0 }

module _ (d : Design) (n : Joined) where
  abbrev name : PinRef → NodeName
  name pin = pin_name d.netlist pin

  abbrev refs : List PinRef
  refs = pins_on d.netlist n.id

  -- the first pins have the names of the first connections
  abbrev pub AreFirst : ℕ → List (Option PinRef) → Type 0
  AreFirst at pins = (pins ≡ map Some (take at refs)) × ((i : ℕ) → i < at → name (get_or refs i NO_PIN) ≡ name_of n.par i)

  pub first_none : AreFirst 0 []
  first_none = (refl, λ i low. absurd (omega (arith, low)))

  pub first_more : (at : ℕ) (pin none : PinRef) (pins more : List (Option PinRef)) → at < length refs → pin ≡ get_or refs at none → AreFirst at pins
      → true ≡ same_node (name pin) (name_of n.par at) → more ≡ pins ++ Some pin ∷ [] → AreFirst (at + 1) more
  first_more at pin none pins more low is before same longer =
      let here : get_or refs at NO_PIN ≡ pin = get_or_default refs at NO_PIN none low ∙ sym is in (
        longer ∙ ap (λ (ps : List (Option PinRef)). ps ++ Some pin ∷ []) before.0 ∙ sym (map-append Some (take at refs) (pin ∷ []))
            ∙ ap (λ (p : PinRef). map Some (take at refs ++ p ∷ [])) (sym here) ∙ ap (map Some) (sym (take_more refs at NO_PIN low)),
        λ i less. elim (eqb_tells i at) as (λ _. name (get_or refs i NO_PIN) ≡ name_of n.par i) [
          | inl equal ↦ ap (λ k. name (get_or refs k NO_PIN)) equal.1 ∙ ap name here ∙ same_is (name pin) (name_of n.par at) (sym same) ∙ ap (name_of n.par) (sym equal.1)
          | inr other ↦ before.1 i (omega (arith, less, other.1))
        ],
      )

  -- so all pins do, where there are as many
  pub found_first : (pins : List (Option PinRef)) (at : ℕ) → length refs ≡ length n.par.conns → length refs ≤ at → AreFirst at pins → FindsPins d n (Some pins)
  found_first pins at size far first = (
    first.0 ∙ ap (map Some) (take_all at refs far) ∙ same_lists (map Some refs) (map (pin_on d.netlist n.id) (ends_of n.par)) sizes each,
    λ at_name has. subst (λ (names : List NodeName). has_node names at_name ≡ true) names has,
  )
    where
      named : (i : ℕ) → i < length refs → name (get_or refs i NO_PIN) ≡ name_of n.par i
      named i low = first.1 i (omega (arith, low, far))

      NO_NAME : NodeName
      NO_NAME = record { owner = []; leaf = [] }

      names : pin_names d n ≡ ends_of n.par
      names =
          let ends = ends_size n.par in
          let mapped = length-map refs name in
          same_lists (map name refs) (ends_of n.par) (omega (arith, size, ends, mapped)) (λ k e low.
          let within : k < length refs = omega (arith, low, mapped) in
          get_or-map name refs k NO_PIN e within ∙ named k within ∙ sym (end_is n.par k e (omega (arith, within, size))))

      sizes : length (map Some refs) ≡ length (map (pin_on d.netlist n.id) (ends_of n.par))
      sizes = length-map refs Some ∙ size ∙ sym (ends_size n.par) ∙ sym (length-map (ends_of n.par) (pin_on d.netlist n.id))

      apart : (i j : ℕ) → i < j → j < length refs → name (get_or refs i NO_PIN) ≢ name (get_or refs j NO_PIN)
      apart i j less few same =
          names_differ n.par i j less (omega (arith, few, size, n.par.sound.joined.few)) (sym (named i (omega (arith, less, few))) ∙ same ∙ named j few)

      each : (k : ℕ) (e : Option PinRef) → k < length (map Some refs) → get_or (map Some refs) k e ≡ get_or (map (pin_on d.netlist n.id) (ends_of n.par)) k e
      each k e low =
          let within : k < length refs = omega (arith, low, length-map refs Some) in
          let inside : k < length (ends_of n.par) = omega (arith, within, size, ends_size n.par) in
          get_or-map Some refs k NO_PIN e within
          ∙ sym (first_is name refs NO_PIN apart k within)
          ∙ ap (λ (at : NodeName). find (λ pin. same_node at (name pin)) refs) (named k within ∙ sym (end_is n.par k NO_NAME (omega (arith, within, size))))
          ∙ sym (get_or-map (pin_on d.netlist n.id) (ends_of n.par) k NO_NAME e inside)
