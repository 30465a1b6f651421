-- The items of the text of a changed netlist beside those of the text.
use Rattle.std.proofs.Common.{◌≡◌, ℕ, ◌<◌, ◌≤◌, List, [], ◌∷◌, ◌++◌, map, refl, sym, ap, ◌∙◌, subst, append_assoc, arith, inl, inr}
use Rattle.std.specs.List.{flat_map}
use Rattle.std.proofs.lemmas.List.Sorted.{All-permutation}
use Rattle.ver_text.specs.declared.kind.Kind.TheVariants.{EndModule}
use Rattle.ver_text.specs.declared.token.Token.{Token}
use Rattle.ver_text.specs.Kinds.{kind_in}
use Rattle.ver_text.specs.Tokens.{tokens_of}
use Rattle.ver_text.proofs.OrderLemmas.{stand_in_order}
use Rattle.ver_syntax.specs.declared.row.Place.{Place}
use Rattle.ver_syntax.specs.declared.row.Place.TheVariants.{Start as InStart}
use Rattle.ver_syntax.specs.declared.row.Row.{Row}
use Rattle.ver_syntax.specs.Laws.{place_after_all}
use Rattle.ver_syntax.specs.Rows.{place_after, row, rows_from}
use Rattle.ver_syntax.proofs.PlaceLemmas.{items_stand}
use Rattle.ver_items.specs.Sections.{Section, is_place, items, sections, stands_in}
use Rattle.ver_module.specs.Netlists.{Netlist}
use Rattle.ver_patch.specs.Pins.{IsOnOneNet, span_at}
use Rattle.ver_patch.specs.NewCells.{NewCell}
use Rattle.ver_patch.specs.Rewires.{Rewire}
use Rattle.ver_patch.proofs.LawLemmas.{heads_end_first}
use Rattle.ver_patch.proofs.StandLemmas.{no_sections}
use Rattle.ver_patch_text_laws.specs.NewWords.{cell_words, inserted_words, rewired_words, wire_words}
use Rattle.ver_patch_text_laws.specs.Texts.{IsNetText, IsNewCell}
use Rattle.ver_patch_text_laws.specs.Words.{Word, word_in, words_with}
use Rattle.ver_patch_text_laws.proofs.ChainLemmas.{stand_at}
use Rattle.ver_patch_text_laws.proofs.PatchLemmas.{head_words, stands_behind_mark}
use Rattle.ver_patch_text_laws.proofs.TextLemmas.{Each}
use Rattle.ver_patch_text_laws.specs.Laws.{IsChanged}
use Rattle.ver_patch_text_laws.proofs.FrameLemmas.{end_tokens, head_tokens}
use Rattle.ver_patch_text_laws.proofs.LawLemmas.{all_low, each_of, end_changes, words_are_patched}
use Rattle.ver_patch_text_laws.proofs.SectionLemmas.{Next}
use Rattle.ver_patch_laws.proofs.ChangedLemmas.{at_item_place, kinds_same, map_cut, rows_append, word_kinds_of}
use Rattle.ver_patch_laws.proofs.NewRowLemmas.{RowsAre, cells_place, one_section, rows_are, wires_place}
use Rattle.ver_patch_laws.proofs.SectionLemmas.{sections_append, starts_off}
use Rattle.ver_patch_laws.proofs.RelinkedLemmas.{ArePairs, AreRelinked, In, IsPair, each_in, sections_relinked}
use Rattle.ver_patch_laws.proofs.WalkLemmas.{IsFree, IsNewNet, walk}

-- rows that stay, beside the same rows
module _ (text new : List ℕ) (Free : ℕ → Type 0) (Becomes : List Row → List Row → Type 0) where
  all_kept : (us vs : List Token) (p : Place) → map (word_in new) vs ≡ map (word_in text) us → Each (λ u. Free u.from) us
      → AreRelinked text new Free Becomes (rows_from text p us) (rows_from new p vs)
  unfolding rows_from
  all_kept [] [] p e free = AreRelinked.none
  all_kept [] (v ∷ vs) p e free = absurd (cc)
  all_kept (u ∷ us) [] p e free = absurd (cc)
  all_kept (u ∷ us) (v ∷ vs) p e free =
      let one : word_in new v ≡ word_in text u = cc in
      let rest : map (word_in new) vs ≡ map (word_in text) us = cc in
      let kind : kind_in text u ≡ kind_in new v = ap (λ (w : Word). w.kind) (sym one) in
      AreRelinked.kept (record { place = refl; kind = kind; bytes = ap (λ (w : Word). w.bytes) (sym one) }) free.0
      (subst (λ k. AreRelinked text new Free Becomes (rows_from text (place_after p (kind_in text u)) us) (rows_from new (place_after p k) vs)) kind
      (all_kept us vs (place_after p (kind_in text u)) rest free.1))

-- tokens before all connections that are made anew
low_free : (netlist : Netlist) (all : List Rewire) (n : ℕ) → Each (λ q. n ≤ (span_at netlist q.at).from) all → (us : List Token) → Each (λ t. t.from < n) us
    → Each (λ t. IsFree netlist all t.from) us
low_free netlist all n high [] low = tt
low_free netlist all n high (u ∷ us) low = (
  λ q i same. (let h = each_in (λ q. n ≤ (span_at netlist q.at).from) all q high i in let k : u.from < n = low.0 in omega (arith, h, same, k)),
  low_free netlist all n high us low.1,
)

-- ---- items

items_in : List Row → List Section
items_in rows = sections (stands_in InStart) rows

starts_alike : (r q : Row) → r.place ≡ q.place → r.kind ≡ q.kind → stands_in InStart r ≡ stands_in InStart q
starts_alike r q e f = ap (is_place InStart) e

module _ (text : List ℕ) where
  next_rows : (ts : List Token) → Next (stands_in InStart) (rows_from text InStart ts)
  unfolding rows_from
  next_rows [] = tt
  next_rows (t ∷ ts) = refl

  rows_from_start : (us vs : List Token) → place_after_all InStart (map (kind_in text) us) ≡ InStart
      → rows_from text InStart (us ++ vs) ≡ rows_from text InStart us ++ rows_from text InStart vs
  rows_from_start us vs e = rows_append text us vs InStart ∙ ap (λ q. rows_from text InStart us ++ rows_from text q vs) e

  items_from : (us vs : List Token) → place_after_all InStart (map (kind_in text) us) ≡ InStart
      → items_in (rows_from text InStart (us ++ vs)) ≡ items_in (rows_from text InStart us) ++ items_in (rows_from text InStart vs)
  unfolding items_in
  items_from us vs e =
      ap items_in (rows_from_start us vs e) ∙ sections_append (stands_in InStart) (rows_from text InStart us) (rows_from text InStart vs) (next_rows vs)

  item_alone : (t : Token) → items_in (rows_from text InStart (t ∷ [])) ≡ record { head = row text InStart t; body = [] } ∷ []
  unfolding items_in rows_from
  item_alone t =
      one_section (stands_in InStart) (row text InStart t) [] [] refl tt tt
      ∙ ap (λ ss. record { head = row text InStart t; body = [] } ∷ ss) (no_sections (stands_in InStart))

each_self : {X : Type 0} (all xs : List X) → ((x : X) → In x xs → In x all) → Each (λ x. In x all) xs
each_self all [] h = tt
each_self all (x ∷ xs) h = (h x (inl refl), each_self all xs (λ y i. h y (inr i)))

module _ (text new : List ℕ) (netlist : Netlist) (all : List Rewire) (cells : List NewCell) (wires : List (List ℕ)) where
  -- a section and the one that is there in the new text
  abbrev pub Paired : Section → Section → Type 0
  Paired s t = IsPair text new (IsFree netlist all) (IsNewNet text new netlist all) s t

  -- the items of a text, and those of the new one: the head, new wires, the others, new instances, and the end
  pub record AreItems : Type 0 where
    pub heads : List Section
    pub middles : List Section
    pub heads_now : List Section
    pub middles_now : List Section
    pub wired : List Row
    pub put : List Row
    pub last : Row
    pub end : Row
    pub items_are : items text ≡ heads ++ (middles ++ record { head = last; body = [] } ∷ [])
    pub items_now : items new
        ≡ heads_now ++ (sections (stands_in InStart) wired ++ (middles_now ++ (sections (stands_in InStart) put ++ record { head = end; body = [] } ∷ [])))
    pub heads_paired : ArePairs Paired heads heads_now
    pub middles_paired : ArePairs Paired middles middles_now
    pub wires_are : RowsAre new InStart (flat_map wire_words wires) wired
    pub cells_are : RowsAre new InStart (flat_map cell_words cells) put
    pub ends : last.kind ≡ EndModule
    pub ends_now : end.kind ≡ EndModule

pub changed_items : (text : List ℕ) (netlist : Netlist) (rewires : List Rewire) (cells : List NewCell) (wires : List (List ℕ)) (new : List ℕ)
    → (c : IsChanged text netlist rewires cells wires new) → AreItems text new netlist c.patched.ordered cells wires
unfolding items_in
changed_items text netlist rewires cells wires new c =
    let d = c.denotes in
    let p = c.patched in
    let all = p.ordered in
    let h = head_tokens text d.grammar in
    let e = end_tokens text d.grammar in
    let place : netlist.head_end ≡ h.mark.to = ap (λ (n : Netlist). n.head_end) d.is ∙ h.place in
    let linked = each_of (λ (r : Rewire). IsOnOneNet netlist r.at) all (All-permutation (λ (r : Rewire). IsOnOneNet netlist r.at) rewires all p.same c.rewirable.linked) in
    let named = each_of (λ (r : Rewire). IsNetText r.net) all (All-permutation (λ (r : Rewire). IsNetText r.net) rewires all p.same c.written.linked) in
    let made = each_of IsNewCell cells c.written.made in
    let changes = map (rewired_words netlist) all ++ end_changes netlist cells in
    let head = h.front ++ h.mark ∷ [] in
    let words : map (word_in new) (tokens_of new) ≡ map (word_in text) head ++ (flat_map wire_words wires ++ words_with text changes h.back)
    = words_are_patched text netlist rewires cells wires new c
    ∙ ap (λ n. words_with text (inserted_words n (flat_map wire_words wires) ∷ changes) (tokens_of text)) place
    ∙ head_words text h.front h.mark h.back (flat_map wire_words wires) changes h.is h.marks in
    let k = map_cut (word_in new) (tokens_of new) (map (word_in text) head) (flat_map wire_words wires ++ words_with text changes h.back) words in
    let l = map_cut (word_in new) k.back (flat_map wire_words wires) (words_with text changes h.back) k.backs in
    let head_place = at_item_place (map (kind_in text) head) h.comes in
    let low = subst (λ n. Each (λ q. n ≤ (span_at netlist q.at).from) all) place (all_low text netlist d all linked) in
    let here = stands_behind_mark text h.front h.mark h.back h.is h.marks in
    let w =
    walk text new netlist d cells e all all h.mark.to head h.back InStart l.back here (stand_at text h.front h.mark h.back h.is).behind (λ q i. inr i)
    (each_self all all (λ q i. i)) linked named p.rising low
    (subst (λ n. n ≤ netlist.end_at) place (heads_end_first stand_in_order items_stand text netlist d).rise) head_place l.backs in
    let new_head_place : place_after_all InStart (map (kind_in new) k.front) ≡ InStart
    = ap (place_after_all InStart) (kinds_same text new head k.front k.fronts) ∙ head_place in
    let wire_place : place_after_all InStart (map (kind_in new) l.front) ≡ InStart
    = ap (place_after_all InStart) (word_kinds_of new l.front (flat_map wire_words wires) l.fronts) ∙ wires_place wires in
    let cell_place : place_after_all InStart (map (kind_in new) w.put) ≡ InStart
    = ap (place_after_all InStart) (word_kinds_of new w.put (flat_map cell_words cells) w.cells_are) ∙ cells_place new cells made in
    let old_tokens : tokens_of text ≡ head ++ (w.old ++ w.last ∷ [])
    = h.is ∙ sym (append_assoc h.front (h.mark ∷ []) h.back) ∙ ap (λ ts. head ++ ts) w.old_is in
    let rest = w.made ++ (w.put ++ w.end ∷ []) in
    let new_tokens : tokens_of new ≡ k.front ++ (l.front ++ rest)
    = k.parts ∙ ap (λ ts. k.front ++ ts) (l.parts ∙ ap (λ ts. l.front ++ ts) w.made_is) in
    let relinked = sections_relinked text new (IsFree netlist all) (IsNewNet text new netlist all) (stands_in InStart) starts_alike starts_off in
    record {
      heads = items_in (rows_from text InStart head);
      middles = items_in (rows_from text InStart w.old);
      heads_now = items_in (rows_from new InStart k.front);
      middles_now = items_in (rows_from new InStart w.made);
      wired = rows_from new InStart l.front;
      put = rows_from new InStart w.put;
      last = row text InStart w.last;
      end = row new InStart w.end;
      items_are =
          ap (λ ts. items_in (rows_from text InStart ts)) old_tokens
          ∙ items_from text head (w.old ++ w.last ∷ []) head_place
          ∙ ap (λ ss. items_in (rows_from text InStart head) ++ ss)
          (items_from text w.old (w.last ∷ []) w.old_ends ∙ ap (λ ss. items_in (rows_from text InStart w.old) ++ ss) (item_alone text w.last));
      items_now =
          ap (λ ts. items_in (rows_from new InStart ts)) new_tokens
          ∙ items_from new k.front (l.front ++ rest) new_head_place
          ∙ ap (λ ss. items_in (rows_from new InStart k.front) ++ ss)
          (items_from new l.front rest wire_place
          ∙ ap (λ ss. items_in (rows_from new InStart l.front) ++ ss)
          (items_from new w.made (w.put ++ w.end ∷ []) w.made_ends
          ∙ ap (λ ss. items_in (rows_from new InStart w.made) ++ ss)
          (items_from new w.put (w.end ∷ []) cell_place ∙ ap (λ ss. items_in (rows_from new InStart w.put) ++ ss) (item_alone new w.end))));
      heads_paired =
          relinked (rows_from text InStart head) (rows_from new InStart k.front)
          (all_kept text new (IsFree netlist all) (IsNewNet text new netlist all) head k.front InStart k.fronts (low_free netlist all h.mark.to low head here.low));
      middles_paired = relinked (rows_from text InStart w.old) (rows_from new InStart w.made) w.relinked;
      wires_are = rows_are new l.front InStart (flat_map wire_words wires) l.fronts;
      cells_are = rows_are new w.put InStart (flat_map cell_words cells) w.cells_are;
      ends = w.last_kind;
      ends_now = ap (λ (x : Word). x.kind) w.last_is ∙ w.last_kind;
    }
