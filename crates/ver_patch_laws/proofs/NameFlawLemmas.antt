-- No two nets of a changed text have one name.
use Rattle.std.proofs.Common.{◌≡◌, ℕ, Bool, true, false, List, [], ◌∷◌, ◌++◌, map, Option, Some, None, refl, sym, ap, ◌∙◌, subst, ◌⊎◌, inl, inr, arith}
use Rattle.std.specs.List.{flat_map}
use Rattle.std.proofs.lemmas.Int.{clamps}
use Rattle.name_tables.specs.Distinct.{AreNew}
use Rattle.ver_syntax.specs.declared.row.Row.{Row}
use Rattle.ver_syntax.specs.Rows.{rows_of}
use Rattle.ver_module.specs.declared.range.Range.{Range}
use Rattle.ver_module.specs.Ranges.{bits_from, bits_of}
use Rattle.ver_items.specs.Declarations.{declared_of, range_in}
use Rattle.ver_items.specs.Sections.{name_at}
use Rattle.ver_module.specs.Netlists.{Net, net_name}
use Rattle.ver_file.specs.Flaws.{name_flaws, named_nets}
use Rattle.ver_file.specs.Nets.{first_tokens, is_first, net, net_names, nets_at, nets_of, tokens_of_nets}
use Rattle.ver_file.specs.Netlists.{netlist_of}
use Rattle.ver_file.specs.Said.{identifiers_of}
use Rattle.ver_file.proofs.NetLemmas.{names_given}
use Rattle.ver_file.proofs.TableLemmas.{first_is_new, new_token, no_token, old_token}
use Rattle.ver_patch.specs.NewCells.{NewCell}
use Rattle.ver_patch.specs.Rewires.{Rewire}
use Rattle.ver_patch_text_laws.proofs.TextLemmas.{Each}
use Rattle.ver_patch_text_laws.specs.Laws.{IsChanged}
use Rattle.ver_patch_laws.specs.Links.{NetName, name_of_net}
use Rattle.ver_patch_laws.proofs.DeclareLemmas.{declarations_stay, map-flat, map-map}
use Rattle.ver_patch_laws.proofs.NameLemmas.{HaveRanges}
use Rattle.ver_patch_laws.proofs.RangeLemmas.{ranges_stay}
use Rattle.ver_patch_laws.proofs.RelinkedLemmas.{In, each_in}
use Rattle.ver_patch_laws.specs.Consistent.{IsConsistent, taken_in, wire_name}
use Rattle.ver_patch_laws.proofs.ApartLemmas.{Apart, apart_flat, apart_map, apart_new, new_apart, new_once}
use Rattle.ver_patch_laws.proofs.DeclaredLemmas.{declared_known, range_none}
use Rattle.ver_patch_laws.proofs.NamedLemmas.{own_netlist}
use Rattle.ver_patch_laws.proofs.NetLemmas.{HasBit, IsSaid, net_at, net_there, nets_named, nets_said, same_name, there_known}
use Rattle.ver_patch_laws.proofs.SelectLemmas.{apart_bits, bounds_within, has_bit}
use Rattle.ver_patch_laws.proofs.SetLemmas.{each_from, get_in, in_get, in_left, in_map, in_mapped, in_right}
use Rattle.ver_patch_laws.proofs.WholeLemmas.{identifiers_written}

-- ---- every text

-- an identifier has a net
some_bit : (range : Option Range) → (bit : Option ℕ) × In bit (bits_of range)
some_bit None = (None, inl refl)
some_bit (Some range) =
    (Some range.left, in_map Some (bits_from range) range.left (has_bit range range.left (bounds_within range range.left (omega (arith, clamps)) (omega (arith, clamps)))))

map_each : {X Y : Type 0} (f g : X → Y) (xs : List X) → Each (λ x. f x ≡ g x) xs → map f xs ≡ map g xs
map_each f g [] h = refl
map_each f g (x ∷ xs) h = λ i. h.0 i ∷ map_each f g xs h.1 i

module _ (text : List ℕ) where
  first_new : (names : List (List ℕ)) (rows : List Row) → AreNew names (map (name_at text) (first_tokens text names rows))
  first_new names [] = subst (λ ts. AreNew names (map (name_at text) ts)) (sym (no_token text names)) tt
  first_new names (r ∷ rows) = by_test (is_first text names r) refl (first_new (names ++ name_at text r ∷ []) rows) (first_new names rows)
    where
      by_test : (b : Bool) → is_first text names r ≡ b
          → AreNew (names ++ name_at text r ∷ []) (map (name_at text) (first_tokens text (names ++ name_at text r ∷ []) rows))
          → AreNew names (map (name_at text) (first_tokens text names rows)) → AreNew names (map (name_at text) (first_tokens text names (r ∷ rows)))
      by_test true t new old =
          subst (λ ts. AreNew names (map (name_at text) ts)) (sym (new_token text names r rows t)) (first_is_new text names r t, new)
      by_test false t new old = subst (λ ts. AreNew names (map (name_at text) ts)) (sym (old_token text names r rows t)) old

  -- the names of an identifier's nets
  names_at : Row → List NetName
  names_at r = map name_of_net (nets_at text (declared_of text) r)

  bit_name : Row → Option ℕ → NetName
  bit_name r bit = record { base = name_at text r; bit = bit }

  names_are : (r : Row) → names_at r ≡ map (bit_name r) (bits_of (range_in (declared_of text) (name_at text r)))
  unfolding names_at bit_name
  names_are r = map-map name_of_net (net text (declared_of text) r) (bits_of (range_in (declared_of text) (name_at text r)))

  names_apart : (r : Row) → Apart (names_at r)
  unfolding bit_name
  names_apart r =
      let bits = bits_of (range_in (declared_of text) (name_at text r)) in
      subst Apart (sym (names_are r))
      (apart_map (bit_name r) bits (apart_bits (range_in (declared_of text) (name_at text r))) (λ x y i j e. ap (λ (a : NetName). a.bit) e))

  names_based : (r : Row) (a : NetName) → In a (names_at r) → a.base ≡ name_at text r
  unfolding bit_name
  names_based r a i =
      let (bit, j, e) = in_mapped (bit_name r) (bits_of (range_in (declared_of text) (name_at text r))) a (subst (In a) (names_are r) i) in
      ap (λ (b : NetName). b.base) e

  -- no net stands twice
  pub nets_apart : Apart (nets_named text)
  unfolding names_at
  nets_apart =
      subst Apart (sym (map-flat name_of_net (nets_at text (declared_of text)) (tokens_of_nets text)))
      (apart_flat (name_at text) (λ (a : NetName). a.base) names_at (tokens_of_nets text) names_apart names_based (new_apart (map (name_at text) (tokens_of_nets text)) [] (first_new [] (rows_of text))).0)

  written_names : net_names text ≡ map (λ (a : NetName). net_name a.base a.bit) (nets_named text)
  written_names =
      map_each (λ (n : Net). n.name) (λ (n : Net). net_name n.base n.bit) (nets_of text)
      (each_from (λ (n : Net). n.name ≡ net_name n.base n.bit) (nets_of text) (λ n i. (each_in (IsSaid text) (nets_of text) n (nets_said text) i).named))
      ∙ sym (map-map (λ (a : NetName). net_name a.base a.bit) name_of_net (nets_of text))

  -- where no two of them are written alike, no name is given twice
  pub no_name_flaws : ((a b : NetName) → In a (nets_named text) → In b (nets_named text) → net_name a.base a.bit ≡ net_name b.base b.bit → a ≡ b) → name_flaws text ≡ []
  no_name_flaws h =
      let apart : Apart (net_names text) = subst Apart (sym written_names) (apart_map (λ (a : NetName). net_name a.base a.bit) (nets_named text) nets_apart h) in
      new_once (flat_map (named_nets text) (tokens_of_nets text)) []
      (subst (AreNew []) (sym (names_given text (tokens_of_nets text))) (apart_new (net_names text) [] apart (λ n i j. i)))

-- ---- a changed text

module _ (text : List ℕ) (rewires : List Rewire) (cells : List NewCell) (wires : List (List ℕ)) (new : List ℕ)
    (c : IsChanged text (netlist_of text) rewires cells wires new) (h : IsConsistent (netlist_of text) rewires cells wires) where
  free : (w : List ℕ) → In w wires → In w (taken_in (netlist_of text)) → ⊥
  free w i j = (new_apart wires (taken_in (netlist_of text)) h.wires_new).1 w j i

  -- a new wire is no identifier of the text
  pub no_base : (w : List ℕ) → In w wires → In w (identifiers_of text) → ⊥
  no_base w i known =
      let (bit, has) = some_bit (range_in (declared_of text) w) in
      let (n, j, e) = in_mapped name_of_net (nets_of text) (record { base = w; bit = bit }) (net_there text w bit known has) in
      free w i (in_right (map (λ (n : Net). n.name) (nets_of text)) (map (λ (n : Net). n.base) (nets_of text)) w
      (subst (λ x. In x (map (λ (n : Net). n.base) (nets_of text))) (sym (ap (λ (a : NetName). a.base) e)) (in_map (λ (n : Net). n.base) (nets_of text) n j)))

  no_name : (w : List ℕ) → In w wires → (a : NetName) → In a (nets_named text) → net_name a.base a.bit ≡ w → ⊥
  no_name w i a j e =
      let (k, f) = in_get (nets_named text) a j in
      let n = net_at text k a f in
      let same : n.net.name ≡ w = n.said.named ∙ ap (λ (b : NetName). net_name b.base b.bit) (sym n.named) ∙ e in
      free w i (in_left (map (λ (n : Net). n.name) (nets_of text)) (map (λ (n : Net). n.base) (nets_of text)) w
      (subst (λ x. In x (map (λ (n : Net). n.name) (nets_of text))) same (in_map (λ (n : Net). n.name) (nets_of text) n.net (get_in (nets_of text) k n.net n.is))))

  pub wires_scalar : Each (λ w. range_in (declared_of text) w ≡ None) wires
  wires_scalar = each_from (λ w. range_in (declared_of text) w ≡ None) wires (λ w i. range_none w (declared_of text) (λ j. no_base w i (declared_known text w j)))

  pub ranges : HaveRanges text new
  ranges = ranges_stay text wires new (declarations_stay text (netlist_of text) rewires cells wires new c) wires_scalar

  none_bit : (range : Option Range) (bit : Option ℕ) → range ≡ None → In bit (bits_of range) → bit ≡ None
  none_bit None bit e (inl f) = f
  none_bit None bit e (inr i) = absurd i
  none_bit (Some range) bit e i = absurd (cc)

  -- the nets are those of the text and the new wires
  pub nets_written : (a : NetName) → In a (nets_named new) → In a (nets_named text) ⊎ In a (map wire_name wires)
  nets_written a i =
      let (known, has) = there_known new a i in
      let own : HasBit text a.base a.bit = subst (λ r. In a.bit (bits_of r)) (sym (ranges a.base)) has in
      elim (identifiers_written text rewires cells wires new c h a.base known) [
        | inl old ↦ inl (net_there text a.base a.bit old own)
        | inr put ↦ (let bit = none_bit (range_in (declared_of text) a.base) a.bit (each_in (λ w. range_in (declared_of text) w ≡ None) wires a.base wires_scalar put) own in
            inr (subst (λ b. In (record { base = a.base; bit = b }) (map wire_name wires)) (sym bit) (in_map wire_name wires a.base put)))
      ]

  own_name : (a : NetName) → In a (map wire_name wires) → (w : List ℕ) × In w wires × (a ≡ wire_name w)
  own_name a i = in_mapped wire_name wires a i

  written_apart : (a b : NetName) → In a (nets_named new) → In b (nets_named new) → net_name a.base a.bit ≡ net_name b.base b.bit → a ≡ b
  written_apart a b i j e =
      elim (nets_written a i) [
        | inl k ↦ elim (nets_written b j) [
          | inl l ↦ same_name text (own_netlist text (netlist_of text) c.denotes) a b k l e
          | inr l ↦ (let (w, m, f) = own_name b l in absurd (no_name w m a k (e ∙ ap (λ (x : NetName). net_name x.base x.bit) f)))
        ]
        | inr k ↦ (let (u, m, f) = own_name a k in elim (nets_written b j) [
          | inl l ↦ absurd (no_name u m b l (sym e ∙ ap (λ (x : NetName). net_name x.base x.bit) f))
          | inr l ↦ (let (w, n, g) = own_name b l in
              let same : u ≡ w = sym (ap (λ (x : NetName). net_name x.base x.bit) f) ∙ e ∙ ap (λ (x : NetName). net_name x.base x.bit) g in
              f ∙ ap wire_name same ∙ sym g)
        ])
      ]

  pub names_stay_apart : name_flaws new ≡ []
  names_stay_apart = no_name_flaws new written_apart
