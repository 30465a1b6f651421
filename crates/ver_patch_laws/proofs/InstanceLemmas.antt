-- The instances of the text of a changed netlist.
use Rattle.std.proofs.Common.{◌≡◌, ℕ, ◌≤◌, List, [], ◌∷◌, ◌++◌, map, refl, sym, ap, ◌∙◌, subst, arith, append_assoc}
use Rattle.std.specs.List.{AllPairs, flat_map}
use Rattle.std.proofs.lemmas.List.{append-nil, map-append}
use Rattle.std.proofs.lemmas.List.Sorted.{All-permutation}
use Rattle.ver_text.specs.declared.token.Token.{Token}
use Rattle.ver_text.specs.Kinds.{kind_in}
use Rattle.ver_text.specs.Tokens.{tokens_of}
use Rattle.ver_text.proofs.OrderLemmas.{stand_in_order}
use Rattle.ver_syntax.specs.declared.row.Place.{Place}
use Rattle.ver_syntax.specs.declared.row.Place.TheVariants.{Start as InStart, Instances, Connection as InConnection}
use Rattle.ver_syntax.specs.declared.row.Row.{Row}
use Rattle.ver_syntax.specs.Laws.{place_after_all}
use Rattle.ver_syntax.specs.Rows.{row, rows_from, rows_of}
use Rattle.ver_syntax.proofs.PlaceLemmas.{items_stand}
use Rattle.ver_items.specs.Sections.{is_name_in, sections, stands_in}
use Rattle.ver_module.specs.Netlists.{Netlist}
use Rattle.ver_file.specs.Modules.{Denotes}
use Rattle.ver_file.specs.Netlists.{instance_of, instances_by}
use Rattle.ver_file.proofs.ListLemmas.{flat_map-append}
use Rattle.ver_net.specs.Laws.{IsBefore}
use Rattle.ver_patch.specs.Pins.{IsOnOneNet, span_at}
use Rattle.ver_patch.specs.NewCells.{NewCell}
use Rattle.ver_patch.specs.Rewires.{Rewire}
use Rattle.ver_patch.proofs.LawLemmas.{heads_end_first, spans_stand}
use Rattle.ver_patch.proofs.StandLemmas.{no_sections}
use Rattle.ver_patch_text_laws.specs.NewWords.{cell_words, inserted_words, rewired_words, wire_words}
use Rattle.ver_patch_text_laws.specs.Texts.{IsNetText, IsNewCell}
use Rattle.ver_patch_text_laws.specs.Words.{word_in, words_with}
use Rattle.ver_patch_text_laws.proofs.ChainLemmas.{StandsAt, stands_behind}
use Rattle.ver_patch_text_laws.proofs.FrameLemmas.{EndTokens, end_tokens, head_tokens}
use Rattle.ver_patch_text_laws.proofs.LawLemmas.{all_low, each_of, end_changes, head_pairs, pin_stands, spans_behind, tail_pairs, words_are_patched}
use Rattle.ver_patch_text_laws.proofs.PatchLemmas.{head_words, stands_behind_mark}
use Rattle.ver_patch_text_laws.proofs.SectionLemmas.{Next}
use Rattle.ver_patch_text_laws.proofs.TextLemmas.{Each}
use Rattle.ver_patch_laws.specs.InstanceLaws.{InstancesStay}
use Rattle.ver_patch_laws.specs.Shapes.{Shape, new_shape, shape_of}
use Rattle.ver_patch_laws.proofs.ChangedLemmas.{AreChanged, RowsGo, at_item_place, kept_rows, kinds_same, map_cut, rows_append, rows_end, rows_more, word_kinds_of}
use Rattle.ver_patch_laws.proofs.ChangedLemmas.AreChanged.{none}
use Rattle.ver_patch_laws.proofs.NewRowLemmas.{cells_place, cells_shapes, one_section, rows_are, wires_none, wires_place}
use Rattle.ver_patch_laws.proofs.SectionLemmas.{rows_same, sections_append}

-- ---- one change after another

module _ (text new : List ℕ) (netlist : Netlist) (d : Denotes text netlist) (cells : List NewCell) (e : EndTokens text) where
  rows_go : (rewires : List Rewire) (at : ℕ) (done ts : List Token) (p : Place) (others : List Token) → StandsAt text at done ts
      → Each (λ r. IsOnOneNet netlist r.at) rewires → Each (λ r. IsNetText r.net) rewires → AllPairs (λ a b. IsBefore a.at b.at) rewires
      → Each (λ r. at ≤ (span_at netlist r.at).from) rewires → at ≤ netlist.end_at → place_after_all InStart (map (kind_in text) done) ≡ p
      → map (word_in new) others ≡ words_with text (map (rewired_words netlist) rewires ++ end_changes netlist cells) ts
      → RowsGo text new e.last cells p ts others
  rows_go [] at done ts p others here linked named before low up there words =
      let place : netlist.end_at ≡ e.last.from = ap (λ (n : Netlist). n.end_at) d.is ∙ e.place in
      rows_end text new cells at done ts e.front e.mark e.last p others here e.ends (omega (arith, place, up)) e.comes there
      (words ∙ ap (λ n. words_with text (inserted_words n (flat_map cell_words cells) ∷ []) ts) place)
  rows_go (r ∷ rest) at done ts p others here linked named before low up there words =
      let span = span_at netlist r.at in
      let k = pin_stands text netlist d r.at linked.0 in
      let stands = spans_stand stand_in_order items_stand text netlist r.at d linked.0 in
      let behind = k.stands.before ++ k.stands.bracket ∷ (k.stands.name ∷ k.stands.more) in
      rows_more text new cells at done ts span.from span.to r.net (map (rewired_words netlist) rest ++ end_changes netlist cells) p e.last others here k.stands low.0 named.0
      k.comes k.inside there
      (λ us there' f. rows_go rest span.to behind (k.stands.close ∷ k.stands.after) InConnection us (stands_behind text span.from span.to k.stands) linked.1 named.1
      (tail_pairs (λ a b. IsBefore a.at b.at) r rest before)
      (spans_behind text netlist d r linked.0 rest (head_pairs (λ a b. IsBefore a.at b.at) r rest before) linked.1) stands.before there' f)
      words

-- ---- the instances

module _ (text : List ℕ) where
  shapes : List Row → List Shape
  shapes rows = map shape_of (flat_map (instances_by text) (sections (stands_in InStart) rows))

  shapes_append : (xs ys : List Row) → Next (stands_in InStart) ys → shapes (xs ++ ys) ≡ shapes xs ++ shapes ys
  unfolding shapes
  shapes_append xs ys next =
      ap (λ ss. map shape_of (flat_map (instances_by text) ss)) (sections_append (stands_in InStart) xs ys next)
      ∙ ap (map shape_of) (flat_map-append (instances_by text) (sections (stands_in InStart) xs) (sections (stands_in InStart) ys))
      ∙ map-append shape_of (flat_map (instances_by text) (sections (stands_in InStart) xs)) (flat_map (instances_by text) (sections (stands_in InStart) ys))

  next_rows : (ts : List Token) → Next (stands_in InStart) (rows_from text InStart ts)
  unfolding rows_from
  next_rows [] = tt
  next_rows (t ∷ ts) = refl

  -- a token alone is no instance
  alone : (t : Token) → shapes (rows_from text InStart (t ∷ [])) ≡ []
  unfolding shapes rows_from
  alone t =
      ap (λ ss. map shape_of (flat_map (instances_by text) ss))
      (one_section (stands_in InStart) (row text InStart t) [] [] refl tt tt
      ∙ ap (λ ss. record { head = row text InStart t; body = [] } ∷ ss) (no_sections (stands_in InStart)))
      ∙ ap (λ ss. map shape_of (map (instance_of text (row text InStart t)) ss ++ [])) (no_sections (is_name_in Instances))

  rows_from_start : (us vs : List Token) → place_after_all InStart (map (kind_in text) us) ≡ InStart
      → rows_from text InStart (us ++ vs) ≡ rows_from text InStart us ++ rows_from text InStart vs
  rows_from_start us vs e = rows_append text us vs InStart ∙ ap (λ q. rows_from text InStart us ++ rows_from text q vs) e

pub instances_stay : InstancesStay
unfolding shapes
instances_stay text netlist rewires cells wires new c =
    let d = c.denotes in
    let p = c.patched in
    let h = head_tokens text d.grammar in
    let e = end_tokens text d.grammar in
    let place : netlist.head_end ≡ h.mark.to = ap (λ (n : Netlist). n.head_end) d.is ∙ h.place in
    let linked = each_of (λ (r : Rewire). IsOnOneNet netlist r.at) p.ordered
    (All-permutation (λ (r : Rewire). IsOnOneNet netlist r.at) rewires p.ordered p.same c.rewirable.linked) in
    let named = each_of (λ (r : Rewire). IsNetText r.net) p.ordered
    (All-permutation (λ (r : Rewire). IsNetText r.net) rewires p.ordered p.same c.written.linked) in
    let made = each_of IsNewCell cells c.written.made in
    let changes = map (rewired_words netlist) p.ordered ++ end_changes netlist cells in
    let head = h.front ++ h.mark ∷ [] in
    let words : map (word_in new) (tokens_of new) ≡ map (word_in text) head ++ (flat_map wire_words wires ++ words_with text changes h.back)
    = words_are_patched text netlist rewires cells wires new c
    ∙ ap (λ n. words_with text (inserted_words n (flat_map wire_words wires) ∷ changes) (tokens_of text)) place
    ∙ head_words text h.front h.mark h.back (flat_map wire_words wires) changes h.is h.marks in
    let k = map_cut (word_in new) (tokens_of new) (map (word_in text) head) (flat_map wire_words wires ++ words_with text changes h.back) words in
    let l = map_cut (word_in new) k.back (flat_map wire_words wires) (words_with text changes h.back) k.backs in
    let head_place = at_item_place (map (kind_in text) head) h.comes in
    let g =
    rows_go text new netlist d cells e p.ordered h.mark.to head h.back InStart l.back (stands_behind_mark text h.front h.mark h.back h.is h.marks)
    linked named p.rising (subst (λ n. Each (λ q. n ≤ (span_at netlist q.at).from) p.ordered) place (all_low text netlist d p.ordered linked))
    (subst (λ n. n ≤ netlist.end_at) place (heads_end_first stand_in_order items_stand text netlist d).rise) head_place l.backs in
    let new_head_place : place_after_all InStart (map (kind_in new) k.front) ≡ InStart
    = ap (place_after_all InStart) (kinds_same text new head k.front k.fronts) ∙ head_place in
    let wire_place : place_after_all InStart (map (kind_in new) l.front) ≡ InStart
    = ap (place_after_all InStart) (word_kinds_of new l.front (flat_map wire_words wires) l.fronts) ∙ wires_place wires in
    let cell_place : place_after_all InStart (map (kind_in new) g.put) ≡ InStart
    = ap (place_after_all InStart) (word_kinds_of new g.put (flat_map cell_words cells) g.cells_are) ∙ cells_place new cells made in
    let old_tokens : tokens_of text ≡ head ++ (g.old ++ e.last ∷ []) = h.is ∙ sym (append_assoc h.front (h.mark ∷ []) h.back) ∙ ap (λ ts. head ++ ts) g.old_is in
    let new_tokens : tokens_of new ≡ k.front ++ (l.front ++ (g.made ++ (g.put ++ g.end ∷ [])))
    = k.parts ∙ ap (λ ts. k.front ++ ts) (l.parts ∙ ap (λ ts. l.front ++ ts) g.made_is) in
    let rest = g.made ++ (g.put ++ g.end ∷ []) in
    let same_heads : shapes text (rows_from text InStart head) ≡ shapes new (rows_from new InStart k.front)
    = rows_same text new (rows_from text InStart head) (rows_from new InStart k.front)
    (subst (λ rs. AreChanged text new rs (rows_from new InStart k.front)) (append-nil (rows_from text InStart head))
    (subst (AreChanged text new (rows_from text InStart head ++ [])) (append-nil (rows_from new InStart k.front))
    (kept_rows text new head k.front InStart [] [] k.fronts none))) in
    let same_middles : shapes text (rows_from text InStart g.old) ≡ shapes new (rows_from new InStart g.made)
    = rows_same text new (rows_from text InStart g.old) (rows_from new InStart g.made) g.changed in
    let olds : shapes text (rows_of text) ≡ shapes text (rows_from text InStart head) ++ shapes text (rows_from text InStart g.old)
    = ap (λ ts. shapes text (rows_from text InStart ts)) old_tokens
    ∙ ap (shapes text) (rows_from_start text head (g.old ++ e.last ∷ []) head_place)
    ∙ shapes_append text (rows_from text InStart head) (rows_from text InStart (g.old ++ e.last ∷ [])) (next_rows text (g.old ++ e.last ∷ []))
    ∙ ap (λ ss. shapes text (rows_from text InStart head) ++ ss)
    (ap (shapes text) (rows_from_start text g.old (e.last ∷ []) g.old_ends)
    ∙ shapes_append text (rows_from text InStart g.old) (rows_from text InStart (e.last ∷ [])) (next_rows text (e.last ∷ []))
    ∙ ap (λ ss. shapes text (rows_from text InStart g.old) ++ ss) (alone text e.last)
    ∙ append-nil (shapes text (rows_from text InStart g.old))) in
    let ends : shapes new (rows_from new InStart (g.put ++ g.end ∷ [])) ≡ map new_shape cells
    = ap (shapes new) (rows_from_start new g.put (g.end ∷ []) cell_place)
    ∙ cells_shapes new cells made (rows_from new InStart g.put) (rows_from new InStart (g.end ∷ [])) (rows_are new g.put InStart (flat_map cell_words cells) g.cells_are)
    (next_rows new (g.end ∷ []))
    ∙ ap (λ ss. map new_shape cells ++ ss) (alone new g.end)
    ∙ append-nil (map new_shape cells) in
    let news : shapes new (rows_of new) ≡ shapes new (rows_from new InStart k.front) ++ (shapes new (rows_from new InStart g.made) ++ map new_shape cells)
    = ap (λ ts. shapes new (rows_from new InStart ts)) new_tokens
    ∙ ap (shapes new) (rows_from_start new k.front (l.front ++ rest) new_head_place)
    ∙ shapes_append new (rows_from new InStart k.front) (rows_from new InStart (l.front ++ rest)) (next_rows new (l.front ++ rest))
    ∙ ap (λ ss. shapes new (rows_from new InStart k.front) ++ ss)
    (ap (shapes new) (rows_from_start new l.front rest wire_place)
    ∙ ap (map shape_of) (wires_none new wires (rows_from new InStart l.front) (rows_from new InStart rest)
    (rows_are new l.front InStart (flat_map wire_words wires) l.fronts) (next_rows new rest))
    ∙ ap (shapes new) (rows_from_start new g.made (g.put ++ g.end ∷ []) g.made_ends)
    ∙ shapes_append new (rows_from new InStart g.made) (rows_from new InStart (g.put ++ g.end ∷ [])) (next_rows new (g.put ++ g.end ∷ []))
    ∙ ap (λ ss. shapes new (rows_from new InStart g.made) ++ ss) ends) in
    news
    ∙ (λ i. sym same_heads i ++ (sym same_middles i ++ map new_shape cells))
    ∙ sym (append_assoc (shapes text (rows_from text InStart head)) (shapes text (rows_from text InStart g.old)) (map new_shape cells))
    ∙ ap (λ ss. ss ++ map new_shape cells) (sym olds ∙ ap (λ (n : Netlist). map shape_of n.instances) (sym d.is))
