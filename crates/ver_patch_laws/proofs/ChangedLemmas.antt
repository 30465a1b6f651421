-- The rows of the text of a changed netlist, beside those of the text.
use Rattle.std.proofs.Common.{◌≡◌, ℕ, ◌≤◌, true, false, List, [], ◌∷◌, ◌++◌, map, Option, Some, None, refl, sym, ap, ◌∙◌, subst, append_assoc}
use Rattle.std.specs.Prelude.{⊤}
use Rattle.std.specs.Fmt.{decimal}
use Rattle.std.specs.List.{flat_map}
use Rattle.std.proofs.lemmas.List.{append-nil, map-append}
use Rattle.grammar_laws.specs.Machines.{run}
use Rattle.ver_text.specs.declared.kind.Kind.{Kind}
use Rattle.ver_text.specs.declared.kind.Kind.TheVariants.{Close, Module, Semicolon}
use Rattle.ver_text.specs.declared.token.Token.{Token}
use Rattle.ver_text.specs.Kinds.{digits_kind, kind_in}
use Rattle.ver_syntax.specs.declared.row.Place.{Place}
use Rattle.ver_syntax.specs.declared.row.Place.TheVariants.{Start as InStart, Connection as InConnection}
use Rattle.ver_syntax.specs.declared.row.Row.{Row}
use Rattle.ver_syntax.specs.declared.state.At.TheVariants.{Instance as AtInstance, Item as AtItem}
use Rattle.ver_syntax.specs.declared.state.Instance.TheVariants.{Connection}
use Rattle.ver_syntax.specs.declared.state.Item.TheVariants.{Start as ItemStart}
use Rattle.ver_syntax.specs.Grammar.{is}
use Rattle.ver_syntax.specs.Laws.{place_after_all}
use Rattle.ver_syntax.specs.Moves.{next}
use Rattle.ver_syntax.specs.Rows.{place_after, row, rows_from}
use Rattle.ver_syntax.proofs.PlaceLemmas.{ran_places, start}
use Rattle.ver_items.specs.Sections.{bytes_at, is_place, stands_in}
use Rattle.ver_module.specs.Netlists.{Net}
use Rattle.ver_patch.specs.NewCells.{NewCell}
use Rattle.ver_patch_text_laws.specs.NewWords.{cell_words, net_words, select_words}
use Rattle.ver_patch_text_laws.specs.Texts.{IsNetText}
use Rattle.ver_patch_text_laws.specs.Words.{Word, WordEdit, word_in, words_of, words_with}
use Rattle.ver_patch_text_laws.proofs.ChainLemmas.{NameStands, StandsAt}
use Rattle.ver_patch_text_laws.proofs.GrammarLemmas.{word_kinds}
use Rattle.ver_patch_text_laws.proofs.KindLemmas.{no_number}
use Rattle.ver_patch_text_laws.proofs.PatchLemmas.{EndsIn, end_located, located}
use Rattle.ver_patch_text_laws.proofs.RunLemmas.{EachRow}
use Rattle.ver_patch_text_laws.proofs.StateLemmas.{connection_place, item_place, start_place, state}
use Rattle.ver_patch_text_laws.proofs.TextLemmas.{net_named}

-- ---- rows of two texts

-- the same token in two texts
pub record IsSame (text new : List ℕ) (r q : Row) : Type 0 where
  pub place : r.place ≡ q.place
  pub kind : r.kind ≡ q.kind
  pub bytes : bytes_at text r ≡ bytes_at new q

-- a token stands in a connection
abbrev pub InOne : Row → Type 0
InOne r = stands_in InConnection r ≡ true

-- rows of a text, and those of another in which some rows of connections are replaced
pub data AreChanged (text new : List ℕ) : List Row → List Row → Type 0 where
  none : AreChanged text new [] []
  kept : {r q : Row} {rows others : List Row} → IsSame text new r q → AreChanged text new rows others → AreChanged text new (r ∷ rows) (q ∷ others)
  replaced : (old made rows others : List Row) → EachRow InOne old → EachRow InOne made → AreChanged text new rows others
      → AreChanged text new (old ++ rows) (made ++ others)

pub rows_append : (text : List ℕ) (us vs : List Token) (p : Place)
    → rows_from text p (us ++ vs) ≡ rows_from text p us ++ rows_from text (place_after_all p (map (kind_in text) us)) vs
unfolding rows_from
rows_append text [] vs p = refl
rows_append text (u ∷ us) vs p = ap (λ rs. row text p u ∷ rs) (rows_append text us vs (place_after p (kind_in text u)))

pub place_append : (p : Place) (xs ys : List Kind) → place_after_all p (xs ++ ys) ≡ place_after_all (place_after_all p xs) ys
place_append p [] ys = refl
place_append p (x ∷ xs) ys = place_append (place_after p x) xs ys

-- tokens with the same words
pub kinds_same : (text new : List ℕ) (us vs : List Token) → map (word_in new) vs ≡ map (word_in text) us → map (kind_in new) vs ≡ map (kind_in text) us
kinds_same text new [] [] e = refl
kinds_same text new [] (v ∷ vs) e = absurd (cc)
kinds_same text new (u ∷ us) [] e = absurd (cc)
kinds_same text new (u ∷ us) (v ∷ vs) e =
    let one : word_in new v ≡ word_in text u = cc in
    let rest : map (word_in new) vs ≡ map (word_in text) us = cc in
    let more = kinds_same text new us vs rest in
    λ i. (one i).kind ∷ more i

pub kept_rows : (text new : List ℕ) (us vs : List Token) (p : Place) (rows others : List Row) → map (word_in new) vs ≡ map (word_in text) us
    → AreChanged text new rows others → AreChanged text new (rows_from text p us ++ rows) (rows_from new p vs ++ others)
unfolding rows_from
kept_rows text new [] [] p rows others e h = h
kept_rows text new [] (v ∷ vs) p rows others e h = absurd (cc)
kept_rows text new (u ∷ us) [] p rows others e h = absurd (cc)
kept_rows text new (u ∷ us) (v ∷ vs) p rows others e h =
    let one : word_in new v ≡ word_in text u = cc in
    let rest : map (word_in new) vs ≡ map (word_in text) us = cc in
    let kind : kind_in text u ≡ kind_in new v = ap (λ (w : Word). w.kind) (sym one) in
    kept (record { place = refl; kind = kind; bytes = ap (λ (w : Word). w.bytes) (sym one) })
    (subst (λ k. AreChanged text new (rows_from text (place_after p (kind_in text u)) us ++ rows) (rows_from new (place_after p k) vs ++ others)) kind
    (kept_rows text new us vs (place_after p (kind_in text u)) rows others rest h))

-- ---- words cut in two

pub record MapCut {X Y : Type 0} (f : X → Y) (xs : List X) (ls bs : List Y) : Type 0 where
  pub front : List X
  pub back : List X
  pub parts : xs ≡ front ++ back
  pub fronts : map f front ≡ ls
  pub backs : map f back ≡ bs

pub map_cut : {X Y : Type 0} (f : X → Y) (xs : List X) (ls bs : List Y) → map f xs ≡ ls ++ bs → MapCut f xs ls bs
map_cut f xs [] bs e = record { front = []; back = xs; parts = refl; fronts = refl; backs = e }
map_cut f [] (a ∷ ls) bs e = absurd (cc)
map_cut f (x ∷ xs) (a ∷ ls) bs e =
    let one : f x ≡ a = cc in
    let rest : map f xs ≡ ls ++ bs = cc in
    let c = map_cut f xs ls bs rest in
    record { front = x ∷ c.front; back = c.back; parts = ap (λ ys. x ∷ ys) c.parts; fronts = λ i. one i ∷ c.fronts i; backs = c.backs }

map_one : {X Y : Type 0} (f : X → Y) (xs : List X) (y : Y) → map f xs ≡ y ∷ [] → (x : X) × (xs ≡ x ∷ []) × (f x ≡ y)
map_one f [] y e = absurd (cc)
map_one f (x ∷ []) y e = (x, refl, let g : f x ≡ y = cc in g)
map_one f (x ∷ z ∷ xs) y e = absurd (cc)

-- ---- rows in connections

-- a token of this kind leads nowhere from a connection
stays_there : (k : Kind) → is Close k ≡ false → is Semicolon k ≡ false → place_after InConnection k ≡ InConnection
stays_there Module e f = refl
stays_there Close e f = absurd (cc)
stays_there Semicolon e f = absurd (cc)
stays_there k e f = refl

digits_stay : (w : List ℕ) → place_after InConnection (digits_kind w) ≡ InConnection
digits_stay w = stays_there (digits_kind w) (no_number (is Close) refl refl refl refl w) (no_number (is Semicolon) refl refl refl refl w)

abbrev pub Stay : List Kind → Type 0
Stay [] = ⊤
Stay (k ∷ ks) = (place_after InConnection k ≡ InConnection) × Stay ks

pub net_stays : (net : Net) → Stay (word_kinds (net_words net))
net_stays net = (refl, by_bit net.bit)
  where
    by_bit : (bit : Option ℕ) → Stay (word_kinds (select_words bit))
    by_bit None = tt
    by_bit (Some bit) = (refl, (digits_stay (decimal bit), (refl, tt)))

pub place_stays : (ks : List Kind) → Stay ks → place_after_all InConnection ks ≡ InConnection
place_stays [] h = refl
place_stays (k ∷ ks) h = ap (λ p. place_after_all p ks) h.0 ∙ place_stays ks h.1

rows_stay : (new : List ℕ) (ts : List Token) → Stay (map (kind_in new) ts) → EachRow InOne (rows_from new InConnection ts)
unfolding rows_from
rows_stay new [] h = tt
rows_stay new (t ∷ ts) h = (refl, subst (λ p. EachRow InOne (rows_from new p ts)) (sym h.0) (rows_stay new ts h.1))

in_place : (p : Place) → is_place InConnection p ≡ true → p ≡ InConnection
in_place InConnection e = refl
in_place p e = absurd (cc)

-- tokens in a connection, and the last of them
inside_front : (text : List ℕ) (ts : List Token) (t : Token) (p : Place) → EachRow InOne (rows_from text p (ts ++ t ∷ []))
    → EachRow InOne (rows_from text p ts) × (place_after_all p (map (kind_in text) ts) ≡ InConnection)
unfolding rows_from
inside_front text [] t p h = (tt, in_place p h.0)
inside_front text (u ∷ ts) t p h = let (f, g) = inside_front text ts t (place_after p (kind_in text u)) h.1 in ((h.0, f), g)

pub word_kinds_of : (new : List ℕ) (ts : List Token) (ws : List Word) → map (word_in new) ts ≡ ws → map (kind_in new) ts ≡ word_kinds ws
word_kinds_of new ts ws e = kinds_map ts ∙ ap word_kinds e
  where
    kinds_map : (us : List Token) → map (kind_in new) us ≡ word_kinds (map (word_in new) us)
    kinds_map [] = refl
    kinds_map (u ∷ us) = ap (λ ks. kind_in new u ∷ ks) (kinds_map us)

-- ---- one change after another

-- tokens of a text up to its last, and those that are there in the text of the changed netlist, with the new instances
pub record RowsGo (text new : List ℕ) (last : Token) (cells : List NewCell) (p : Place) (ts others : List Token) : Type 0 where
  pub old : List Token
  pub made : List Token
  pub put : List Token
  pub end : Token
  pub old_is : ts ≡ old ++ last ∷ []
  pub made_is : others ≡ made ++ (put ++ end ∷ [])
  pub changed : AreChanged text new (rows_from text p old) (rows_from new p made)
  pub old_ends : place_after_all p (map (kind_in text) old) ≡ InStart
  pub made_ends : place_after_all p (map (kind_in new) made) ≡ InStart
  pub cells_are : map (word_in new) put ≡ flat_map cell_words cells
  pub last_is : word_in new end ≡ word_in text last

-- where the machine stands at an item, an item may begin
pub at_item_place : (ks : List Kind) → run next (Some start) ks ≡ Some (state (AtItem ItemStart)) → place_after_all InStart ks ≡ InStart
at_item_place ks e = ap (λ p. place_after_all p ks) (sym start_place) ∙ ran_places ks start (state (AtItem ItemStart)) e ∙ item_place

module _ (text new : List ℕ) (cells : List NewCell) where
  pub rows_end : (at : ℕ) (done ts before : List Token) (mark last : Token) (p : Place) (others : List Token) → StandsAt text at done ts
      → EndsIn text before mark last
      → at ≤ last.from → run next (Some start) (map (kind_in text) (before ++ mark ∷ [])) ≡ Some (state (AtItem ItemStart))
      → place_after_all InStart (map (kind_in text) done) ≡ p
      → map (word_in new) others ≡ words_with text (record { from = last.from; to = last.from; words = flat_map cell_words cells } ∷ []) ts
      → RowsGo text new last cells p ts others
  rows_end at done ts before mark last p others here e behind comes there words =
      let l = end_located text at done ts before mark last here e behind in
      let c = map_cut (word_in new) others (map (word_in text) l.front) (flat_map cell_words cells ++ map (word_in text) (last ∷ [])) (words
      ∙ l.words (flat_map cell_words cells)) in
      let k = map_cut (word_in new) c.back (flat_map cell_words cells) (map (word_in text) (last ∷ [])) c.backs in
      let (end, one, same) = map_one (word_in new) k.back (word_in text last) k.backs in
      let ends : place_after_all p (map (kind_in text) l.front) ≡ InStart
      = ap (λ q. place_after_all q (map (kind_in text) l.front)) (sym there)
      ∙ sym (place_append InStart (map (kind_in text) done) (map (kind_in text) l.front))
      ∙ ap (place_after_all InStart) (sym (map-append (kind_in text) done l.front) ∙ ap (map (kind_in text)) (sym l.before_is))
      ∙ at_item_place (map (kind_in text) (before ++ mark ∷ [])) comes in
      record {
        old = l.front;
        made = c.front;
        put = k.front;
        end = end;
        old_is = l.ts_are;
        made_is = c.parts ∙ ap (λ ts. c.front ++ ts) (k.parts ∙ ap (λ ts. k.front ++ ts) one);
        changed =
            (let h = kept_rows text new l.front c.front p [] [] c.fronts none in
            subst (λ rs. AreChanged text new rs (rows_from new p c.front)) (append-nil (rows_from text p l.front))
            (subst (AreChanged text new (rows_from text p l.front ++ [])) (append-nil (rows_from new p c.front)) h));
        old_ends = ends;
        made_ends = ap (place_after_all p) (kinds_same text new l.front c.front c.fronts) ∙ ends;
        cells_are = k.fronts;
        last_is = same;
      }

  pub rows_more : (at : ℕ) (done ts : List Token) (from to : ℕ) (net : List ℕ) (changes : List WordEdit) (p : Place) (last : Token) (others : List Token)
      → StandsAt text at done ts → (s : NameStands text from to) → at ≤ from → IsNetText net
      → run next (Some start) (map (kind_in text) (s.before ++ s.bracket ∷ [])) ≡ Some (state (AtInstance Connection))
      → EachRow InOne (rows_from text InConnection (s.name ∷ (s.more ++ s.close ∷ [])))
      → place_after_all InStart (map (kind_in text) done) ≡ p
      → ((us : List Token) → place_after_all InStart (map (kind_in text) (s.before ++ s.bracket ∷ (s.name ∷ s.more))) ≡ InConnection
      → map (word_in new) us ≡ words_with text changes (s.close ∷ s.after) → RowsGo text new last cells InConnection (s.close ∷ s.after) us)
      → map (word_in new) others ≡ words_with text (record { from = from; to = to; words = words_of net } ∷ changes) ts
      → RowsGo text new last cells p ts others
  rows_more at done ts from to net changes p last others here s behind n comes inside there later words =
      let l = located text at done ts from to here s behind in
      let front = l.front ++ s.bracket ∷ [] in
      let c = map_cut (word_in new) others (map (word_in text) front) (words_of net ++ words_with text changes (s.close ∷ s.after)) (words
      ∙ l.words (words_of net) changes) in
      let k = map_cut (word_in new) c.back (words_of net) (words_with text changes (s.close ∷ s.after)) c.backs in
      let (each, stays) = inside_front text (s.name ∷ s.more) s.close InConnection inside in
      let bracket_place : place_after_all InStart (map (kind_in text) (s.before ++ s.bracket ∷ [])) ≡ InConnection
      = ap (λ q. place_after_all q (map (kind_in text) (s.before ++ s.bracket ∷ []))) (sym start_place)
      ∙ ran_places (map (kind_in text) (s.before ++ s.bracket ∷ [])) start (state (AtInstance Connection)) comes ∙ connection_place in
      let name_place : place_after_all InStart (map (kind_in text) (s.before ++ s.bracket ∷ (s.name ∷ s.more))) ≡ InConnection
      = ap (λ ts. place_after_all InStart (map (kind_in text) ts)) (sym (append_assoc s.before (s.bracket ∷ []) (s.name ∷ s.more)))
      ∙ ap (place_after_all InStart) (map-append (kind_in text) (s.before ++ s.bracket ∷ []) (s.name ∷ s.more))
      ∙ place_append InStart (map (kind_in text) (s.before ++ s.bracket ∷ [])) (map (kind_in text) (s.name ∷ s.more))
      ∙ ap (λ q. place_after_all q (map (kind_in text) (s.name ∷ s.more))) bracket_place ∙ stays in
      let g = later k.back name_place k.backs in
      let here_place : place_after_all p (map (kind_in text) front) ≡ InConnection
      = ap (λ q. place_after_all q (map (kind_in text) front)) (sym there)
      ∙ sym (place_append InStart (map (kind_in text) done) (map (kind_in text) front))
      ∙ ap (place_after_all InStart) (sym (map-append (kind_in text) done front)
      ∙ ap (map (kind_in text)) (sym (append_assoc done l.front (s.bracket ∷ [])) ∙ ap (λ ts. ts ++ s.bracket ∷ []) (sym l.before_is)))
      ∙ bracket_place in
      let new_place : place_after_all p (map (kind_in new) c.front) ≡ InConnection = ap (place_after_all p) (kinds_same text new front c.front c.fronts)
      ∙ here_place in
      let stay : Stay (map (kind_in new) k.front)
      = subst Stay (sym (word_kinds_of new k.front (words_of net) k.fronts ∙ ap word_kinds (net_named net n))) (net_stays n.net) in
      let stays' = place_stays (map (kind_in new) k.front) stay in
      let old_rows : rows_from text p (front ++ ((s.name ∷ s.more) ++ g.old))
      ≡ rows_from text p front ++ (rows_from text InConnection (s.name ∷ s.more) ++ rows_from text InConnection g.old)
      = rows_append text front ((s.name ∷ s.more) ++ g.old) p
      ∙ ap (λ q. rows_from text p front ++ rows_from text q ((s.name ∷ s.more) ++ g.old)) here_place
      ∙ ap (λ rs. rows_from text p front ++ rs) (rows_append text (s.name ∷ s.more) g.old InConnection
      ∙ ap (λ q. rows_from text InConnection (s.name ∷ s.more) ++ rows_from text q g.old) stays) in
      let new_rows : rows_from new p (c.front ++ (k.front ++ g.made)) ≡ rows_from new p c.front ++ (rows_from new InConnection k.front ++ rows_from new InConnection g.made)
      = rows_append new c.front (k.front ++ g.made) p
      ∙ ap (λ q. rows_from new p c.front ++ rows_from new q (k.front ++ g.made)) new_place
      ∙ ap (λ rs. rows_from new p c.front ++ rs) (rows_append new k.front g.made InConnection
      ∙ ap (λ q. rows_from new InConnection k.front ++ rows_from new q g.made) stays') in
      record {
        old = front ++ ((s.name ∷ s.more) ++ g.old);
        made = c.front ++ (k.front ++ g.made);
        put = g.put;
        end = g.end;
        old_is =
            l.ts_are ∙ sym (append_assoc l.front (s.bracket ∷ []) (s.name ∷ (s.more ++ s.close ∷ s.after)))
            ∙ ap (λ ts. front ++ (s.name ∷ (s.more ++ ts))) g.old_is ∙ sym (regroup front (s.name ∷ s.more) g.old (last ∷ []));
        made_is =
            c.parts ∙ ap (λ ts. c.front ++ ts) (k.parts ∙ ap (λ ts. k.front ++ ts) g.made_is) ∙ sym (regroup c.front k.front g.made (g.put ++ g.end ∷ []));
        changed =
            (let h =
            kept_rows text new front c.front p _ _ c.fronts
            (replaced (rows_from text InConnection (s.name ∷ s.more)) (rows_from new InConnection k.front)
            (rows_from text InConnection g.old) (rows_from new InConnection g.made) each (rows_stay new k.front stay) g.changed) in
            subst (λ rs. AreChanged text new rs (rows_from new p (c.front ++ (k.front ++ g.made)))) (sym old_rows)
            (subst (AreChanged text new (rows_from text p front ++ (rows_from text InConnection (s.name ∷ s.more) ++ rows_from text InConnection g.old))) (sym new_rows) h));
        old_ends =
            ap (place_after_all p) (map-append (kind_in text) front ((s.name ∷ s.more) ++ g.old))
            ∙ place_append p (map (kind_in text) front) (map (kind_in text) ((s.name ∷ s.more) ++ g.old))
            ∙ ap (λ q. place_after_all q (map (kind_in text) ((s.name ∷ s.more) ++ g.old))) here_place
            ∙ ap (place_after_all InConnection) (map-append (kind_in text) (s.name ∷ s.more) g.old)
            ∙ place_append InConnection (map (kind_in text) (s.name ∷ s.more)) (map (kind_in text) g.old)
            ∙ ap (λ q. place_after_all q (map (kind_in text) g.old)) stays ∙ g.old_ends;
        made_ends =
            ap (place_after_all p) (map-append (kind_in new) c.front (k.front ++ g.made))
            ∙ place_append p (map (kind_in new) c.front) (map (kind_in new) (k.front ++ g.made))
            ∙ ap (λ q. place_after_all q (map (kind_in new) (k.front ++ g.made))) new_place
            ∙ ap (place_after_all InConnection) (map-append (kind_in new) k.front g.made)
            ∙ place_append InConnection (map (kind_in new) k.front) (map (kind_in new) g.made)
            ∙ ap (λ q. place_after_all q (map (kind_in new) g.made)) stays' ∙ g.made_ends;
        cells_are = g.cells_are;
        last_is = g.last_is;
      }
    where
      regroup : (a b c d : List Token) → (a ++ (b ++ c)) ++ d ≡ a ++ (b ++ (c ++ d))
      regroup a b c d = simp append_assoc
