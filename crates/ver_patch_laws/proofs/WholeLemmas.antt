-- All tokens of a changed text come from the text, or are put in.
use Rattle.std.proofs.Common.{◌≡◌, ℕ, true, false, ◌&&◌, List, [], ◌∷◌, ◌++◌, map, refl, sym, ap, ◌∙◌, subst, inl, inr}
use Rattle.std.proofs.lemmas.Bool.{and_parts}
use Rattle.std.proofs.lemmas.List.Sorted.{All-permutation}
use Rattle.ver_text.specs.declared.kind.Kind.{Kind}
use Rattle.ver_text.specs.declared.kind.Kind.TheVariants.{Close, EndModule, Identifier}
use Rattle.ver_text.specs.Names.{is_simple}
use Rattle.ver_syntax.specs.declared.row.Place.TheVariants.{Start, Assignment, Ports}
use Rattle.ver_syntax.specs.declared.row.Row.{Row}
use Rattle.ver_syntax.specs.Grammar.{is}
use Rattle.ver_syntax.specs.Rows.{rows_of}
use Rattle.ver_items.specs.Sections.{Section, is_identifier, is_net_name, is_net_place, items, name_at, sections, stands_in}
use Rattle.ver_module.specs.Netlists.{Netlist}
use Rattle.ver_file.specs.Netlists.{netlist_of}
use Rattle.ver_file.specs.Said.{identifiers_of}
use Rattle.ver_patch.specs.NewCells.{NewCell}
use Rattle.ver_patch.specs.Rewires.{Rewire}
use Rattle.ver_patch_text_laws.specs.Texts.{IsNetText}
use Rattle.ver_patch_text_laws.proofs.TextLemmas.{Each}
use Rattle.ver_patch_text_laws.specs.Laws.{IsChanged}
use Rattle.ver_patch_text_laws.proofs.LawLemmas.{each_of, modules_stay}
use Rattle.ver_patch_text_laws.proofs.RunLemmas.{EachRow}
use Rattle.ver_patch_text_laws.proofs.SectionLemmas.{Quits}
use Rattle.ver_patch_laws.proofs.ChangedLemmas.{InOne}
use Rattle.ver_patch_laws.proofs.SectionLemmas.{names_off}
use Rattle.ver_patch_laws.specs.Links.{NetName}
use Rattle.ver_patch_laws.proofs.DeclareLemmas.{each_split}
use Rattle.ver_patch_laws.proofs.ItemLemmas.{AreItems, Paired, changed_items}
use Rattle.ver_patch_laws.proofs.RelinkedLemmas.{ArePairs, AreRelinked, In, each_in}
use Rattle.ver_patch_laws.proofs.SameLemmas.{name_same}
use Rattle.ver_patch_laws.proofs.WalkLemmas.{IsFree, IsNewNet, word_at}
use Rattle.ver_patch_laws.specs.Consistent.{IsConsistent, IsThere, WritesOne, wire_name}
use Rattle.ver_patch_laws.proofs.CoverLemmas.{identifier_row, row_in}
use Rattle.ver_patch_laws.proofs.FromLemmas.{IsFrom, IsKnownWord, IsOwnCell, IsPut, IsWritten, cell_rows, net_known, net_rows, wire_rows}
use Rattle.ver_patch_laws.proofs.NetLemmas.{nets_named, there_known}
use Rattle.ver_patch_laws.proofs.SetLemmas.{contains_in, each_both, each_from, each_join, each_mapped, each_weaker, in_left, in_mapped, in_right}
use Rattle.ver_patch_laws.proofs.ShutLemmas.{IsShut, IsShutIn, shut_items}
use Rattle.ver_patch_laws.proofs.SoundLemmas.{row_known, section_of}

-- ---- lists of tokens

split_last : (P : Row → Type 0) (xs : List Row) (y : Row) → EachRow P (xs ++ y ∷ []) → EachRow P xs × P y
split_last P [] y h = (tt, h.0)
split_last P (x ∷ xs) y h = let (f, g) = split_last P xs y h.1 in ((h.0, f), g)

shut_past : (xs ys : List Row) → IsShut (xs ++ ys) → IsShut ys
shut_past [] ys h = h
shut_past (x ∷ xs) ys h = shut_past xs ys h.1

shut_last : (xs : List Row) (y : Row) (ys : List Row) → IsShut ((xs ++ y ∷ []) ++ ys) → InOne y → Quits ys → is Close y.kind ≡ true
shut_last [] y ys h i q = h.0 i q
shut_last (x ∷ xs) y ys h i q = shut_last xs y ys h.1 i q

no_identifier : (k : Kind) → is Close k ≡ true → is Identifier k ≡ false
no_identifier Close e = refl
no_identifier k e = absurd (cc)

-- ---- connections that are made anew

-- a rewire is to a net of the text, or to a new wire
pub record IsOwnRewire (text : List ℕ) (wires : List (List ℕ)) (r : Rewire) : Type 0 where
  pub net : IsNetText r.net
  pub known : IsWritten text wires net.net.base

module _ (text new : List ℕ) (netlist : Netlist) (all : List Rewire) (wires : List (List ℕ)) (own : Each (IsOwnRewire text wires) all) where
  closing : (q : Row) → InOne q → is Close q.kind ≡ true → IsPut text wires new q
  closing q i e = record {
    name = λ t. (let n = (and_parts (is_identifier q) (is_net_place q.place) t).0 in let m = no_identifier q.kind e in absurd (cc));
    port = names_off Ports refl q i;
    assigned = names_off Assignment refl q i;
  }

  made_from : (old made others : List Row) → IsNewNet text new netlist all old made → EachRow InOne made → Quits others → IsShut (made ++ others)
      → Each (IsFrom text wires new) made
  made_from old made others b ones quits shut =
      let o = each_in (IsOwnRewire text wires) all b.rewire own b.own in
      let (inside, last) = split_last InOne b.net b.close (subst (EachRow InOne) b.made_is ones) in
      let nets = net_rows text wires new b.net inside
      (each_mapped (IsKnownWord text wires) (word_at new) b.net
      (subst (Each (IsKnownWord text wires)) (sym b.words) (net_known text wires b.rewire.net o.net o.known))) in
      let shuts = shut_last b.net b.close others (subst (λ rs. IsShut (rs ++ others)) b.made_is shut) last quits in
      subst (Each (IsFrom text wires new)) (sym b.made_is)
      (each_join (IsFrom text wires new) b.net (b.close ∷ [])
      (each_weaker (IsPut text wires new) (IsFrom text wires new) (λ q p. IsFrom.put p) b.net nets) (IsFrom.put (closing b.close last shuts), tt))

  relinked_from : (rows others : List Row) → AreRelinked text new (IsFree netlist all) (IsNewNet text new netlist all) rows others
      → ((x : Row) → In x rows → In x (rows_of text)) → IsShut others → Each (IsFrom text wires new) others
  relinked_from _ _ AreRelinked.none among shut = tt
  relinked_from _ _ (AreRelinked.kept {r} {q} {rows} {others} same free more) among shut =
      (IsFrom.same r (among r (inl refl)) same, relinked_from rows others more (λ x i. among x (inr i)) shut.1)
  relinked_from _ _ (AreRelinked.replaced old made rows others i more) among shut =
      each_join (IsFrom text wires new) made others (made_from old made others i.becomes i.now i.quits_now shut)
      (relinked_from rows others more (λ x j. among x (in_right old rows x j)) (shut_past made others shut))

  -- ---- items

  IsFromIn : Section → Type 0
  IsFromIn s = IsFrom text wires new s.head × Each (IsFrom text wires new) s.body

  pairs_from : (cells : List NewCell) (ss ts : List Section) → ArePairs (Paired text new netlist all cells wires) ss ts → ((s : Section) → In s ss → In s (items text))
      → Each IsShutIn ts → Each IsFromIn ts
  unfolding IsFromIn
  pairs_from cells _ _ ArePairs.done among shut = tt
  pairs_from cells _ _ (ArePairs.pair {x = s} {y = t} {xs = ss} {ys = ts} p more) among shut =
      let o = section_of (stands_in Start) (rows_of text) s (among s (inl refl)) in (
        (IsFrom.same s.head o.head p.head, relinked_from s.body t.body p.body o.body shut.0),
        pairs_from cells ss ts more (λ x i. among x (inr i)) shut.1,
      )

  sections_from : (rows : List Row) → Each (IsPut text wires new) rows → Each IsFromIn (sections (stands_in Start) rows)
  unfolding IsFromIn
  sections_from rows h =
      each_from IsFromIn (sections (stands_in Start) rows)
      (λ s i. let o = section_of (stands_in Start) rows s i in (
        IsFrom.put (each_in (IsPut text wires new) rows s.head h o.head),
        each_from (IsFrom text wires new) s.body (λ x j. IsFrom.put (each_in (IsPut text wires new) rows x h (o.body x j))),
      ))

  end_put : (r : Row) → r.kind ≡ EndModule → IsPut text wires new r
  end_put r e =
      let none : is_identifier r ≡ false = ap (is Identifier) e in
      record {
        name = λ t. (let n = (and_parts (is_identifier r) (is_net_place r.place) t).0 in absurd (cc));
        port = ap (λ b. b && stands_in Ports r) none;
        assigned = ap (λ b. b && stands_in Assignment r) none;
      }

  items_from : (cells : List NewCell) → Each (λ name. is_simple name ≡ true) wires → Each (IsOwnCell text wires) cells → AreItems text new netlist all cells wires
      → Each IsShutIn (items new) → Each IsFromIn (items new)
  unfolding IsFromIn
  items_from cells simple known i shut =
      let wired = sections (stands_in Start) i.wired in
      let put = sections (stands_in Start) i.put in
      let last : Section = record { head = i.last; body = [] } in
      let end : Section = record { head = i.end; body = [] } in
      let (heads, rest1) = each_split IsShutIn i.heads_now (wired ++ (i.middles_now ++ (put ++ end ∷ []))) (subst (Each IsShutIn) i.items_now shut) in
      let (wires_shut, rest2) = each_split IsShutIn wired (i.middles_now ++ (put ++ end ∷ [])) rest1 in
      let (middles, rest3) = each_split IsShutIn i.middles_now (put ++ end ∷ []) rest2 in
      subst (Each IsFromIn) (sym i.items_now)
      (each_join IsFromIn i.heads_now (wired ++ (i.middles_now ++ (put ++ end ∷ [])))
      (pairs_from cells i.heads i.heads_now i.heads_paired
      (λ s j. subst (In s) (sym i.items_are) (in_left i.heads (i.middles ++ last ∷ []) s j)) heads)
      (each_join IsFromIn wired (i.middles_now ++ (put ++ end ∷ [])) (sections_from i.wired (wire_rows text wires new i.wired simple i.wires_are))
      (each_join IsFromIn i.middles_now (put ++ end ∷ [])
      (pairs_from cells i.middles i.middles_now i.middles_paired
      (λ s j. subst (In s) (sym i.items_are) (in_right i.heads (i.middles ++ last ∷ []) s (in_left i.middles (last ∷ []) s j))) middles)
      (each_join IsFromIn put (end ∷ []) (sections_from i.put (cell_rows text wires new cells i.put known i.cells_are)) ((IsFrom.put (end_put i.end i.ends_now), tt), tt)))))

-- ---- a changed text

-- a net that is there has an identifier of the text, or is a new wire
pub there_written : (text : List ℕ) (wires : List (List ℕ)) (name : NetName) → IsThere (netlist_of text) wires name → IsWritten text wires name.base
there_written text wires name (inl old) = inl (there_known text name (contains_in (nets_named text) name old)).0
there_written text wires name (inr new) =
    let (w, i, e) = in_mapped wire_name wires name (contains_in (map wire_name wires) name new) in inr (subst (λ n. In n wires) (sym (ap (λ (m : NetName). m.base) e)) i)

module _ (text : List ℕ) (rewires : List Rewire) (cells : List NewCell) (wires : List (List ℕ)) (new : List ℕ)
    (c : IsChanged text (netlist_of text) rewires cells wires new) (h : IsConsistent (netlist_of text) rewires cells wires) where
  one_written : (net : List ℕ) (w : WritesOne (netlist_of text) wires net) → IsWritten text wires w.writes.net.net.base
  one_written net w = subst (λ (n : NetName). IsWritten text wires n.base) (sym w.writes.is) (there_written text wires w.name w.there)

  pub own_rewires : Each (IsOwnRewire text wires) c.patched.ordered
  own_rewires =
      each_weaker (λ r. WritesOne (netlist_of text) wires r.net) (IsOwnRewire text wires) (λ r w. record { net = w.writes.net; known = one_written r.net w })
      c.patched.ordered
      (each_of (λ r. WritesOne (netlist_of text) wires r.net) c.patched.ordered
      (All-permutation (λ (r : Rewire). WritesOne (netlist_of text) wires r.net) rewires c.patched.ordered c.patched.same h.linked))

  pub own_cells : Each (IsOwnCell text wires) cells
  own_cells =
      each_weaker (λ x. WritesOne (netlist_of text) wires x.from × WritesOne (netlist_of text) wires x.to) (IsOwnCell text wires)
      (λ x w. record {
        from = w.0.writes.net;
        to = w.1.writes.net;
        from_known = one_written x.from w.0;
        to_known = one_written x.to w.1;
      })
      cells
      (each_both (λ (x : NewCell). WritesOne (netlist_of text) wires x.from) (λ x. WritesOne (netlist_of text) wires x.to) cells
      (each_of (λ (x : NewCell). WritesOne (netlist_of text) wires x.from) cells h.from) (each_of (λ (x : NewCell). WritesOne (netlist_of text) wires x.to) cells h.to))

  pub all_from : (q : Row) → In q (rows_of new) → IsFrom text wires new q
  unfolding IsFromIn
  all_from q i =
      let all = c.patched.ordered in
      let module_now = (modules_stay text (netlist_of text) rewires cells wires new c).1 in
      let each = items_from text new (netlist_of text) all wires own_rewires cells (each_of (λ name. is_simple name ≡ true) wires c.written.declared) own_cells
      (changed_items text (netlist_of text) rewires cells wires new c) (shut_items new module_now) in
      let r = row_in new q i in
      let s = each_in (IsFromIn text new (netlist_of text) all wires own_rewires) (items new) r.section each r.among in
      elim r.own [
        | inl e ↦ subst (IsFrom text wires new) (sym e) s.0
        | inr j ↦ each_in (IsFrom text wires new) r.section.body q s.1 j
      ]

  -- the identifiers of nets are those of the text and the new wires
  pub identifiers_written : (name : List ℕ) → In name (identifiers_of new) → IsWritten text wires name
  identifiers_written name i =
      let r = identifier_row new name i in by_from r.row r.net r.named (all_from r.row r.among)
    where
      by_from : (q : Row) → is_net_name q ≡ true → name ≡ name_at new q → IsFrom text wires new q → IsWritten text wires name
      by_from q net e (IsFrom.put p) = subst (IsWritten text wires) (sym e) (p.name net)
      by_from q net e (IsFrom.same r among same) =
          let own : is_net_name r ≡ true = (λ i. is Identifier (same.kind i) && is_net_place (same.place i)) ∙ net in
          inl (subst (λ n. In n (identifiers_of text)) (name_same text new r q same ∙ sym e) (row_known text r among own))
