-- Where the pins of a changed text come from, and what stands in their connections.
use Rattle.std.proofs.Common.{◌⊎◌, ◌≡◌, ℕ, zero, suc, ◌+◌, List, [], ◌∷◌, ◌++◌, map, length, Some, refl, sym, ap, ◌∙◌, subst, arith, false, inl, inr, Bool, true}
use Rattle.std.specs.Prelude.{drop, slice_get, nat_eq}
use Rattle.std.proofs.lemmas.List.{length-map}
use Rattle.std.proofs.lemmas.List.Sorted.{All-permutation}
use Rattle.std.proofs.lemmas.Option.{none-some, same_Some}
use Rattle.ver_items.specs.Connections.{connection_of, expression_of}
use Rattle.ver_items.specs.Sections.{Section, items}
use Rattle.ver_module.specs.Netlists.{Instance, Netlist}
use Rattle.ver_file.specs.Netlists.{pin_of, netlist_of, instances_of}
use Rattle.ver_net.specs.declared.pin_ref.PinRef.{PinRef}
use Rattle.ver_patch.specs.Pins.{IsOnOneNet, span_at}
use Rattle.ver_patch.specs.NewCells.{NewCell}
use Rattle.ver_patch.specs.Rewires.{Rewire}
use Rattle.ver_patch_text_laws.specs.Texts.{IsNewCell}
use Rattle.ver_patch_text_laws.specs.Words.{words_of}
use Rattle.ver_patch_text_laws.proofs.TextLemmas.{Each}
use Rattle.ver_patch_text_laws.proofs.LawLemmas.{each_of}
use Rattle.ver_patch_laws.proofs.ConnectionLemmas.{HasNet}
use Rattle.ver_patch_laws.proofs.DeclareLemmas.{module_items}
use Rattle.ver_patch_laws.proofs.ItemLemmas.{Paired, changed_items}
use Rattle.ver_patch_laws.proofs.LinkLemmas.{conn_kept, conn_made, drop_first, expression_same, one_section_at, pairs_length, pin_free, same_rewire}
use Rattle.ver_patch_laws.proofs.PinLemmas.{IsPin, instances_pins, pin_quits, pin_sections}
use Rattle.ver_patch_laws.proofs.RelinkedLemmas.{ArePairs, In, each_in}
use Rattle.ver_patch_laws.proofs.SameLemmas.{AreSame}
use Rattle.ver_patch_laws.proofs.LinkedLemmas.{ArePins, IsCellPins, pins_are}
use Rattle.std.proofs.lemmas.Bool.Decides.{nat_tests}
use Rattle.ver_patch_text_laws.specs.Laws.{IsChanged}
use Rattle.ver_patch_laws.specs.Renewed.{new_pin}

-- ---- pins by their places

pair_back : {X Y : Type 0} (R : X → Y → Type 0) (xs : List X) (ys : List Y) (k : ℕ) (y : Y) → ArePairs R xs ys → slice_get ys k ≡ Some y
    → (x : X) × (slice_get xs k ≡ Some x) × R x y
pair_back R _ _ k y ArePairs.done e = absurd (none-some y e)
pair_back R _ _ zero z (ArePairs.pair {x} {y} {xs} {ys} r h) e = (x, refl, subst (R x) (same_Some y z e) r)
pair_back R _ _ (suc k) z (ArePairs.pair {x} {y} {xs} {ys} r h) e = pair_back R xs ys k z h e

pub get_either : {X : Type 0} (xs ys : List X) (k : ℕ) (x : X) → slice_get (xs ++ ys) k ≡ Some x
    → (slice_get xs k ≡ Some x) ⊎ ((j : ℕ) × (k ≡ length xs + j) × (slice_get ys j ≡ Some x))
get_either [] ys k x e = inr (k, omega arith, e)
get_either (y ∷ xs) ys zero x e = inl e
get_either (y ∷ xs) ys (suc k) x e = elim (get_either xs ys k x e) [ inl f ↦ inl f | inr (j, f, g) ↦ inr (j, omega (arith, f), g) ]

same_nat : (m n : ℕ) → (m ≡ n) ⊎ (m ≡ n → ⊥)
same_nat m n = by_test (nat_eq m n) refl
  where
    by_test : (b : Bool) → nat_eq m n ≡ b → (m ≡ n) ⊎ (m ≡ n → ⊥)
    by_test true t = inl (grind (arith, nat_tests, t))
    by_test false t = inr (λ e. grind (arith, nat_tests, t, e))

same_pin : (a b : PinRef) → (a ≡ b) ⊎ (a ≡ b → ⊥)
same_pin a b =
    elim (same_nat a.instance b.instance) [
      | inl e ↦ elim (same_nat a.pin b.pin) [ inl f ↦ inl (λ i. record { instance = e i; pin = f i }) | inr n ↦ inr (λ g. n (ap (λ (x : PinRef). x.pin) g)) ]
      | inr n ↦ inr (λ g. n (ap (λ (x : PinRef). x.instance) g))
    ]

-- one of these is of this pin, or none is
which : (at : PinRef) (rs : List Rewire) → ((r : Rewire) × In r rs × (r.at ≡ at)) ⊎ Each (λ r. r.at ≡ at → ⊥) rs
which at [] = inr tt
which at (r ∷ rs) =
    elim (same_pin r.at at) [
      | inl e ↦ inl (r, inl refl, e)
      | inr n ↦ elim (which at rs) [ inl (q, i, e) ↦ inl (q, inr i, e) | inr h ↦ inr (n, h) ]
    ]

-- the expression of a pin is that of the text, or what is written
pub data PinFrom (text new : List ℕ) (netlist : Netlist) (all : List Rewire) (cells : List NewCell) (at : PinRef) (t : Section) : Type 0 where
  stays : (s : Section) → IsPin (pin_sections (items text)) at s → Each (λ r. r.at ≡ at → ⊥) all → AreSame text new (expression_of s) (expression_of t)
      → PinFrom text new netlist all cells at t
  made : (r : Rewire) → In r all → r.at ≡ at → HasNet new r.net t → PinFrom text new netlist all cells at t
  input : (k : ℕ) (x : NewCell) → slice_get cells k ≡ Some x → at ≡ new_pin netlist k 0 → HasNet new x.from t → PinFrom text new netlist all cells at t
  output : (k : ℕ) (x : NewCell) → slice_get cells k ≡ Some x → at ≡ new_pin netlist k 1 → HasNet new x.to t → PinFrom text new netlist all cells at t

module _ (text : List ℕ) (rewires : List Rewire) (cells : List NewCell) (wires : List (List ℕ)) (new : List ℕ)
    (c : IsChanged text (netlist_of text) rewires cells wires new) where
  pins_here : ArePins text new (netlist_of text) c.patched.ordered cells wires
  pins_here =
      pins_are text new (netlist_of text) c.patched.ordered cells wires (each_of IsNewCell cells c.written.made)
      (changed_items text (netlist_of text) rewires cells wires new c)

  linked : Each (λ r. IsOnOneNet (netlist_of text) r.at) c.patched.ordered
  linked =
      each_of (λ (r : Rewire). IsOnOneNet (netlist_of text) r.at) c.patched.ordered
      (All-permutation (λ (r : Rewire). IsOnOneNet (netlist_of text) r.at) rewires c.patched.ordered c.patched.same c.rewirable.linked)

  old_pin : (at : PinRef) (s t : Section) → IsPin (pin_sections (items text)) at s → Paired text new (netlist_of text) c.patched.ordered cells wires s t
      → PinFrom text new (netlist_of text) c.patched.ordered cells at t
  old_pin at s t q p =
      let d = c.denotes in
      let rs = c.patched.ordered in
      let n = netlist_of text in
      let drops = drop_first text new n rs s.body t.body p.body (pin_quits (items text) (module_items text d.grammar) at s q) in
      elim (which at rs) [
        | inl (r, i, e) ↦ (let o = one_section_at text n d at (subst (IsOnOneNet n) e (each_in (λ r. IsOnOneNet n r.at) rs r linked i)) in
            let pins : q.pins ≡ o.is_pin.pins = same_Some q.pins o.is_pin.pins (sym q.instance ∙ o.is_pin.instance) in
            let one : s ≡ o.section = same_Some s o.section (sym q.pin ∙ ap (λ ps. slice_get ps at.pin) pins ∙ o.is_pin.pin) in
            let m = conn_made text new n rs (drop 1 s.body) (drop 1 t.body) drops o.first o.more (ap connection_of one ∙ o.parts) r i
            (ap (λ a. (span_at n a).from) e ∙ o.begins) in
            let same = same_rewire text n d rs linked c.patched.rising m.rewire r m.own i (m.begins ∙ sym o.begins ∙ ap (λ a. (span_at n a).from) (sym e)) in
            PinFrom.made r i e (m.words ∙ ap (λ (x : Rewire). words_of x.net) same))
        | inr others ↦ PinFrom.stays s q others
            (expression_same text new (connection_of s) (connection_of t)
            (conn_kept text new n rs (drop 1 s.body) (drop 1 t.body) drops (pin_free text n d rs linked at s q others)))
      ]

  count : length (pins_here.now) ≡ length (instances_of text)
  count =
      sym (pairs_length (ArePairs (Paired text new (netlist_of text) c.patched.ordered cells wires)) (pin_sections (items text)) pins_here.now pins_here.paired)
      ∙ sym (length-map (pin_sections (items text)) (map (pin_of text))) ∙ ap length (sym (instances_pins text (items text)))
      ∙ length-map (instances_of text) (λ (i : Instance). i.pins)

  new_pins : (at : PinRef) (k : ℕ) (ps : List Section) (t : Section) (x : NewCell) → at.instance ≡ length (instances_of text) + k → IsCellPins new x ps → slice_get cells k ≡ Some x
      → slice_get ps at.pin ≡ Some t → PinFrom text new (netlist_of text) c.patched.ordered cells at t
  new_pins at k ps t x e h f g = by_pin at.pin refl (ap (λ xs. slice_get xs at.pin) (sym h.pins_are) ∙ g)
    where
      by_pin : (p : ℕ) → at.pin ≡ p → slice_get (h.input ∷ h.output ∷ []) p ≡ Some t → PinFrom text new (netlist_of text) c.patched.ordered cells at t
      by_pin zero i u =
          PinFrom.input k x f (λ j. record { instance = e j; pin = i j }) (subst (HasNet new x.from) (same_Some h.input t u) h.from)
      by_pin (suc zero) i u =
          PinFrom.output k x f (λ j. record { instance = e j; pin = i j }) (subst (HasNet new x.to) (same_Some h.output t u) h.to)
      by_pin (suc (suc p)) i u = absurd (none-some t u)

  pub pin_from : (at : PinRef) (t : Section) → IsPin (pin_sections (items new)) at t → PinFrom text new (netlist_of text) c.patched.ordered cells at t
  pin_from at t p =
      let a = pins_here in
      elim (get_either a.now a.put at.instance p.pins (ap (λ ps. slice_get ps at.instance) (sym a.all_now) ∙ p.instance)) [
        | inl e ↦ (let (qs, f, h) = pair_back (ArePairs (Paired text new (netlist_of text) c.patched.ordered cells wires)) (pin_sections (items text)) a.now at.instance p.pins a.paired e in
            let (s, g, k) = pair_back (Paired text new (netlist_of text) c.patched.ordered cells wires) qs p.pins at.pin t h p.pin in
            old_pin at s t (record { pins = qs; instance = f; pin = g }) k)
        | inr (j, e, f) ↦ (let (x, g, h) = pair_back (IsCellPins new) cells a.put j p.pins a.cells_are f in
            new_pins at j p.pins t x (e ∙ ap (λ n. n + j) count) h g p.pin)
      ]
