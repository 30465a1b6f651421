-- Where the items of a changed text come from, and its assignments.
use Rattle.std.proofs.Common.{◌≡◌, ℕ, List, [], ◌∷◌, ◌++◌, map, false, true, refl, sym, ap, ◌∙◌, subst, ◌⊎◌, inl, inr}
use Rattle.std.specs.List.{flat_map}
use Rattle.std.proofs.lemmas.List.{map-append}
use Rattle.ver_text.specs.Names.{is_simple}
use Rattle.ver_syntax.specs.declared.row.Place.TheVariants.{Start, Assignment}
use Rattle.ver_syntax.specs.declared.row.Row.{Row}
use Rattle.ver_items.specs.Sections.{Section, is_name_in, items, sections, stands_in}
use Rattle.ver_file.specs.Flaws.{assignment_flaws, select_flaws}
use Rattle.ver_file.specs.Modules.{Denotes}
use Rattle.ver_file.specs.Netlists.{assigned_by, assigned_of, netlist_of}
use Rattle.ver_patch.proofs.StandLemmas.{no_sections}
use Rattle.ver_patch.specs.NewCells.{NewCell}
use Rattle.ver_patch.specs.Rewires.{Rewire}
use Rattle.ver_patch_text_laws.proofs.TextLemmas.{Each}
use Rattle.ver_patch_text_laws.specs.Laws.{IsChanged}
use Rattle.ver_patch_text_laws.proofs.LawLemmas.{each_of, modules_stay}
use Rattle.ver_patch_text_laws.proofs.RunLemmas.{EachRow}
use Rattle.ver_patch_laws.specs.Links.{NetName, names_named}
use Rattle.ver_patch_laws.proofs.DeclareLemmas.{IsItem, module_items}
use Rattle.ver_patch_laws.proofs.ItemLemmas.{AreItems, Paired, changed_items}
use Rattle.ver_patch_laws.proofs.RelinkedLemmas.{ArePairs, In, each_in}
use Rattle.ver_patch_laws.proofs.SameLemmas.{IsSameSection, pairs_flat_equal}
use Rattle.ver_patch_laws.specs.Consistent.{IsConsistent}
use Rattle.ver_patch_laws.specs.Names.{name_at as net_name_at}
use Rattle.ver_patch_laws.proofs.AssignedLemmas.{assignments, assignments_same, of_pair, pair_of, sections_none}
use Rattle.ver_patch_laws.proofs.FromLemmas.{IsPut, cell_rows, wire_rows}
use Rattle.ver_patch_laws.proofs.NameFlawLemmas.{ranges}
use Rattle.ver_patch_laws.proofs.SelectSameLemmas.{flaws_same, names_same}
use Rattle.ver_patch_laws.proofs.SetLemmas.{each_from, flat_none, in_either, in_flat, in_flattened, in_left, in_right}
use Rattle.ver_patch_laws.proofs.SoundLemmas.{assigned_right, items_none, section_of}
use Rattle.ver_patch_laws.proofs.TieLemmas.{all_right}
use Rattle.ver_patch_laws.proofs.WholeLemmas.{own_cells}

pub pairs_none : {X Y : Type 0} (R : X → Y → Type 0) (f : X → List ℕ) (g : Y → List ℕ) → ((x : X) (y : Y) → R x y → f x ≡ [] → g y ≡ []) → (xs : List X) (ys : List Y)
    → ArePairs R xs ys → Each (λ x. f x ≡ []) xs → flat_map g ys ≡ []
pairs_none R f g h _ _ ArePairs.done k = refl
pairs_none R f g h _ _ (ArePairs.pair {x} {y} {xs} {ys} r more) k = λ i. h x y r k.0 i ++ pairs_none R f g h xs ys more k.1 i

-- the nets in the assignments of a text, by their names
abbrev pub names_assigned : List ℕ → List NetName
names_assigned text = flat_map (λ item. flat_map (names_named text) (assignments item)) (items text)

-- and by their numbers
pub assigned_named : (text : List ℕ) → Denotes text (netlist_of text) → map (net_name_at (netlist_of text)) (assigned_of text) ≡ names_assigned text
assigned_named text d = by_items (items text) (λ s i. i)
  where
    by_items : (ss : List Section) → ((s : Section) → In s ss → In s (items text))
        → map (net_name_at (netlist_of text)) (flat_map (assigned_by text) ss) ≡ flat_map (λ item. flat_map (names_named text) (assignments item)) ss
    by_items [] h = refl
    by_items (s ∷ ss) h =
        map-append (net_name_at (netlist_of text)) (assigned_by text s) (flat_map (assigned_by text) ss)
        ∙ (λ i. all_right text d (assignments s) (assigned_right text d.flawless s (h s (inl refl))) i ++ by_items ss (λ x j. h x (inr j)) i)

module _ (text : List ℕ) (rewires : List Rewire) (cells : List NewCell) (wires : List (List ℕ)) (new : List ℕ)
    (c : IsChanged text (netlist_of text) rewires cells wires new) (h : IsConsistent (netlist_of text) rewires cells wires) where
  abbrev pub Stays : Section → Section → Type 0
  Stays s t = Paired text new (netlist_of text) c.patched.ordered cells wires s t

  -- an item is there in the text, or its tokens are put in
  pub data ItemFrom (t : Section) : Type 0 where
    old : (s : Section) → In s (items text) → Stays s t → ItemFrom t
    put : Each (IsPut text wires new) t.body → ItemFrom t

  there : AreItems text new (netlist_of text) c.patched.ordered cells wires
  there = changed_items text (netlist_of text) rewires cells wires new c

  sections_put : (rows : List Row) → Each (IsPut text wires new) rows → (t : Section) → In t (sections (stands_in Start) rows) → ItemFrom t
  sections_put rows k t i =
      let o = section_of (stands_in Start) rows t i in
      ItemFrom.put (each_from (IsPut text wires new) t.body (λ x j. each_in (IsPut text wires new) rows x k (o.body x j)))

  pub item_from : (t : Section) → In t (items new) → ItemFrom t
  item_from t i =
      let a = there in
      let wired = sections (stands_in Start) a.wired in
      let put = sections (stands_in Start) a.put in
      let last : Section = record { head = a.last; body = [] } in
      let end : Section = record { head = a.end; body = [] } in
      elim (in_either a.heads_now (wired ++ (a.middles_now ++ (put ++ end ∷ []))) t (subst (In t) a.items_now i)) [
        | inl j ↦ (let (s, k, p) = of_pair Stays a.heads a.heads_now a.heads_paired t j in
            ItemFrom.old s (subst (In s) (sym a.items_are) (in_left a.heads (a.middles ++ last ∷ []) s k)) p)
        | inr j ↦ elim (in_either wired (a.middles_now ++ (put ++ end ∷ [])) t j) [
          | inl k ↦ sections_put a.wired (wire_rows text wires new a.wired (each_of (λ name. is_simple name ≡ true) wires c.written.declared) a.wires_are) t k
          | inr k ↦ elim (in_either a.middles_now (put ++ end ∷ []) t k) [
            | inl l ↦ (let (s, m, p) = of_pair Stays a.middles a.middles_now a.middles_paired t l in
                ItemFrom.old s (subst (In s) (sym a.items_are) (in_right a.heads (a.middles ++ last ∷ []) s (in_left a.middles (last ∷ []) s m))) p)
            | inr l ↦ elim (in_either put (end ∷ []) t l) [
              | inl m ↦ sections_put a.put (cell_rows text wires new cells a.put (own_cells text rewires cells wires new c h) a.cells_are) t m
              | inr (inl e) ↦ subst ItemFrom (sym e) (ItemFrom.put tt)
              | inr (inr m) ↦ absurd m
            ]
          ]
        ]
      ]

  -- an item of the text is there, or it is its end
  pub item_goes : (s : Section) → In s (items text) → ((t : Section) × In t (items new) × Stays s t) ⊎ (s.body ≡ [])
  item_goes s i =
      let a = there in
      let wired = sections (stands_in Start) a.wired in
      let put = sections (stands_in Start) a.put in
      let last : Section = record { head = a.last; body = [] } in
      let end : Section = record { head = a.end; body = [] } in
      elim (in_either a.heads (a.middles ++ last ∷ []) s (subst (In s) a.items_are i)) [
        | inl j ↦ (let (t, k, p) = pair_of Stays a.heads a.heads_now a.heads_paired s j in
            inl (t, subst (In t) (sym a.items_now) (in_left a.heads_now (wired ++ (a.middles_now ++ (put ++ end ∷ []))) t k), p))
        | inr j ↦ elim (in_either a.middles (last ∷ []) s j) [
          | inl k ↦ (let (t, l, p) = pair_of Stays a.middles a.middles_now a.middles_paired s k in
              inl (
                t,
                subst (In t) (sym a.items_now)
                    (in_right a.heads_now (wired ++ (a.middles_now ++ (put ++ end ∷ []))) t (in_right wired (a.middles_now ++ (put ++ end ∷ [])) t
                    (in_left a.middles_now (put ++ end ∷ []) t l))),
                p,
              ))
          | inr (inl e) ↦ inr (ap (λ (x : Section). x.body) e)
          | inr (inr k) ↦ absurd k
        ]
      ]

  same_assignments : (s t : Section) → In s (items text) → In t (items new) → Stays s t → ArePairs (IsSameSection text new) (assignments s) (assignments t)
  same_assignments s t i j p =
      assignments_same text new (netlist_of text) c.patched.ordered cells wires s t p (each_in IsItem (items text) s (module_items text c.denotes.grammar) i)
      (each_in IsItem (items new) t (module_items new (modules_stay text (netlist_of text) rewires cells wires new c).1) j)

  put_none : (rows : List Row) → Each (IsPut text wires new) rows → EachRow (λ r. is_name_in Assignment r ≡ false) rows
  put_none [] k = tt
  put_none (r ∷ rows) k = (k.0.assigned, put_none rows k.1)

  none_put : (t : Section) → Each (IsPut text wires new) t.body → assignments t ≡ []
  none_put t k = sections_none (is_name_in Assignment) t.body (put_none t.body k)

  pub no_assignment_flaws : (t : Section) → In t (items new) → assignment_flaws new t ≡ []
  no_assignment_flaws t i = by_from (item_from t i)
    where
      by_from : ItemFrom t → assignment_flaws new t ≡ []
      by_from (ItemFrom.put k) = ap (flat_map (select_flaws new)) (none_put t k)
      by_from (ItemFrom.old s j p) =
          pairs_none (IsSameSection text new) (select_flaws text) (select_flaws new) (flaws_same text new (ranges text rewires cells wires new c h)) (assignments s) (assignments t)
          (same_assignments s t j i p) (flat_none (select_flaws text) (assignments s) (items_none text c.denotes.flawless s j).assigned)

  names_here : (s t : Section) → In s (items text) → In t (items new) → Stays s t → flat_map (names_named text) (assignments s) ≡ flat_map (names_named new) (assignments t)
  names_here s t i j p =
      pairs_flat_equal (IsSameSection text new) (names_named text) (names_named new) (names_same text new (ranges text rewires cells wires new c h)) (assignments s) (assignments t)
      (same_assignments s t i j p)

  -- the same nets stand in assignments
  pub assigned_came : (a : NetName) → In a (names_assigned new) → In a (names_assigned text)
  assigned_came a i =
      let (t, j, k) = in_flattened (λ item. flat_map (names_named new) (assignments item)) (items new) a i in by_from t j k (item_from t j)
    where
      by_from : (t : Section) → In t (items new) → In a (flat_map (names_named new) (assignments t)) → ItemFrom t → In a (names_assigned text)
      by_from t j k (ItemFrom.put p) = absurd (subst (λ ss. In a (flat_map (names_named new) ss)) (none_put t p) k)
      by_from t j k (ItemFrom.old s l p) =
          in_flat (λ item. flat_map (names_named text) (assignments item)) (items text) s a l (subst (In a) (sym (names_here s t l j p)) k)

  pub assigned_stays : (a : NetName) → In a (names_assigned text) → In a (names_assigned new)
  assigned_stays a i =
      let (s, j, k) = in_flattened (λ item. flat_map (names_named text) (assignments item)) (items text) a i in by_item s j k (item_goes s j)
    where
      by_item : (s : Section) → In s (items text) → In a (flat_map (names_named text) (assignments s)) → ((t : Section) × In t (items new) × Stays s t) ⊎ (s.body ≡ [])
          → In a (names_assigned new)
      by_item s j k (inl (t, l, p)) =
          in_flat (λ item. flat_map (names_named new) (assignments item)) (items new) t a l (subst (In a) (names_here s t j l p) k)
      by_item s j k (inr e) =
          absurd (subst (λ ss. In a (flat_map (names_named text) ss)) (ap (sections (is_name_in Assignment)) e ∙ no_sections (is_name_in Assignment)) k)
