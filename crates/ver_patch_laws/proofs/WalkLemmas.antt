-- The tokens of the text of a changed netlist beside those of the text, one change after another.
use Rattle.std.proofs.Common.{◌≡◌, ℕ, ◌<◌, ◌≤◌, nat_le, nat_lt, true, false, List, [], ◌∷◌, ◌++◌, map, refl, sym, ap, ◌∙◌, subst, arith, append_assoc, ◌⊎◌, inl, inr}
use Rattle.std.specs.List.{AllPairs, flat_map}
use Rattle.std.proofs.lemmas.List.{map-append}
use Rattle.std.proofs.lemmas.Bool.Decides.{nat_tests}
use Rattle.ver_text.specs.declared.kind.Kind.TheVariants.{Close, EndModule}
use Rattle.ver_text.specs.declared.token.Token.{Token}
use Rattle.ver_text.specs.declared.token.TokenKind.TheVariants.{Mark}
use Rattle.ver_text.specs.Kinds.{kind_in}
use Rattle.ver_text.specs.Tokens.{tokens_of}
use Rattle.ver_text.proofs.OrderLemmas.{stand_in_order}
use Rattle.ver_syntax.specs.declared.row.Place.{Place}
use Rattle.ver_syntax.specs.declared.row.Place.TheVariants.{Start as InStart, Pins as InPins, Connection as InConnection}
use Rattle.ver_syntax.specs.declared.row.Row.{Row}
use Rattle.ver_syntax.specs.declared.state.At.TheVariants.{Instance as AtInstance}
use Rattle.ver_syntax.specs.declared.state.Instance.TheVariants.{Connection, PinEnd}
use Rattle.ver_syntax.specs.Laws.{place_after_all}
use Rattle.ver_syntax.specs.Moves.{next}
use Rattle.ver_syntax.specs.Rows.{place_after, row, rows_from}
use Rattle.ver_syntax.proofs.PlaceLemmas.{items_stand, place_at, ran_places, start}
use Rattle.ver_items.specs.Sections.{bytes_at, is_place}
use Rattle.ver_module.specs.Netlists.{Netlist}
use Rattle.ver_file.specs.Modules.{Denotes}
use Rattle.ver_net.specs.Laws.{IsBefore}
use Rattle.ver_net.specs.declared.pin_ref.PinRef.{PinRef}
use Rattle.ver_patch.specs.Pins.{IsOnOneNet, span_at}
use Rattle.ver_patch.specs.NewCells.{NewCell}
use Rattle.ver_patch.specs.Rewires.{Rewire}
use Rattle.ver_patch.proofs.LawLemmas.{spans_stand}
use Rattle.ver_patch_text_laws.specs.NewWords.{cell_words, inserted_words, rewired_words}
use Rattle.ver_patch_text_laws.specs.Texts.{IsNetText}
use Rattle.ver_patch_text_laws.specs.Words.{Word, WordEdit, word_in, words_of, words_with}
use Rattle.ver_patch_text_laws.proofs.ChainLemmas.{NameStands, StandsAt, each_front, has_last, shut_append, stand_at, stands_behind}
use Rattle.ver_patch_text_laws.proofs.OrderLemmas.{behind_token, each_append}
use Rattle.ver_patch_text_laws.proofs.PatchLemmas.{end_located, located}
use Rattle.ver_patch_text_laws.proofs.ReachLemmas.{IsName}
use Rattle.ver_patch_text_laws.proofs.TextLemmas.{Each, net_named}
use Rattle.ver_patch_text_laws.proofs.FrameLemmas.{EndTokens}
use Rattle.ver_patch_text_laws.proofs.GrammarLemmas.{word_kinds}
use Rattle.ver_patch_text_laws.proofs.LawLemmas.{end_changes, head_pairs, pin_stands, spans_behind, tail_pairs}
use Rattle.ver_patch_text_laws.proofs.PinTokenLemmas.{IsPinPlace}
use Rattle.ver_patch_text_laws.proofs.RunLemmas.{EachRow}
use Rattle.ver_patch_text_laws.proofs.SectionLemmas.{Quits}
use Rattle.ver_patch_text_laws.proofs.StateLemmas.{connection_place, start_place, state}
use Rattle.ver_patch_laws.proofs.ChangedLemmas.{InOne, Stay, at_item_place, map_cut, net_stays, place_append, place_stays, rows_append, word_kinds_of}
use Rattle.ver_patch_laws.proofs.RelinkedLemmas.{AreRelinked, In, each_in}

-- ---- tokens in order

-- a token that is not before others, and is not the next, comes behind them
each_mid : (P : Token → Type 0) (xs : List Token) (u : Token) (ys : List Token) → Each P (xs ++ u ∷ ys) → P u
each_mid P [] u ys h = h.0
each_mid P (x ∷ xs) u ys h = each_mid P xs u ys h.1

behind_close : (front : List Token) (c : Token) (after before : List Token) (u : Token) (rest : List Token) (n m : ℕ) → front ++ c ∷ after ≡ before ++ u ∷ rest
    → Each (λ t. t.from < n) front → n ≤ u.from → (c ≡ u → ⊥) → Each (λ t. m ≤ t.from) after → m ≤ u.from
behind_close [] c after [] u rest n m e low up other high = let same : c ≡ u = cc in absurd (other same)
behind_close [] c after (x ∷ before) u rest n m e low up other high =
    let more : after ≡ before ++ u ∷ rest = cc in each_mid (λ t. m ≤ t.from) before u rest (subst (Each (λ t. m ≤ t.from)) more high)
behind_close (d ∷ front) c after [] u rest n m e low up other high =
    let same : d ≡ u = cc in
    let place : d.from ≡ u.from = ap (λ (t : Token). t.from) same in
    absurd (omega (arith, place, low.0, up))
behind_close (d ∷ front) c after (x ∷ before) u rest n m e low up other high =
    let more : front ++ c ∷ after ≡ before ++ u ∷ rest = cc in behind_close front c after before u rest n m more low.1 up other high

-- a token before the first change stays
word_stays : (text : List ℕ) (e : WordEdit) (edits : List WordEdit) (c : Token) (ts : List Token) → c.from < e.from → e.from ≤ e.to
    → words_with text (e ∷ edits) (c ∷ ts) ≡ word_in text c ∷ words_with text (e ∷ edits) ts
word_stays text e edits c ts low up =
    let first : nat_lt c.from e.from ≡ true = grind (arith, nat_tests) in
    let last : nat_le e.to c.from ≡ false = grind (arith, nat_tests) in
    rw (first, last) refl

-- a first word is that of a first token
record IsFirst {X Y : Type 0} (f : X → Y) (xs : List X) (y : Y) (ys : List Y) : Type 0 where
  first : X
  rest : List X
  parts : xs ≡ first ∷ rest
  own : f first ≡ y
  others : map f rest ≡ ys

map_first : {X Y : Type 0} (f : X → Y) (xs : List X) (y : Y) (ys : List Y) → map f xs ≡ y ∷ ys → IsFirst f xs y ys
map_first f [] y ys e = absurd (cc)
map_first f (x ∷ xs) y ys e =
    let one : f x ≡ y = cc in
    let more : map f xs ≡ ys = cc in
    record { first = x; rest = xs; parts = refl; own = one; others = more }

no_more : {X Y : Type 0} (f : X → Y) (xs : List X) → map f xs ≡ [] → xs ≡ []
no_more f [] e = refl
no_more f (x ∷ xs) e = absurd (cc)

-- the word that a row is
abbrev pub word_at : List ℕ → Row → Word
word_at text r = record { kind = r.kind; bytes = bytes_at text r }

words_at : (text : List ℕ) (ts : List Token) (p : Place) → map (word_at text) (rows_from text p ts) ≡ map (word_in text) ts
unfolding rows_from
words_at text [] p = refl
words_at text (t ∷ ts) p = ap (λ ws. word_in text t ∷ ws) (words_at text ts (place_after p (kind_in text t)))

quits_pins : (text : List ℕ) (ts : List Token) → Quits (rows_from text InPins ts)
unfolding rows_from
quits_pins text [] = tt
quits_pins text (t ∷ ts) = refl

rows_stay : (new : List ℕ) (ts : List Token) → Stay (map (kind_in new) ts) → EachRow InOne (rows_from new InConnection ts)
unfolding rows_from
rows_stay new [] h = tt
rows_stay new (t ∷ ts) h = (refl, subst (λ p. EachRow InOne (rows_from new p ts)) (sym h.0) (rows_stay new ts h.1))

-- ---- tokens up to the last

module _ (text new : List ℕ) (Free : ℕ → Type 0) (Becomes : List Row → List Row → Type 0) (cells : List NewCell) where
  -- tokens of a text up to its last, and those that are there in the text of the changed netlist, with the new
  -- instances
  pub record AreWalked (p : Place) (ts others : List Token) : Type 0 where
    pub old : List Token
    pub made : List Token
    pub put : List Token
    pub last : Token
    pub end : Token
    pub old_is : ts ≡ old ++ last ∷ []
    pub made_is : others ≡ made ++ (put ++ end ∷ [])
    pub relinked : AreRelinked text new Free Becomes (rows_from text p old) (rows_from new p made)
    pub old_ends : place_after_all p (map (kind_in text) old) ≡ InStart
    pub made_ends : place_after_all p (map (kind_in new) made) ≡ InStart
    pub cells_are : map (word_in new) put ≡ flat_map cell_words cells
    pub last_is : word_in new end ≡ word_in text last
    pub last_kind : kind_in text last ≡ EndModule

  walk_last : (last end : Token) (put : List Token) → kind_in text last ≡ EndModule → map (word_in new) put ≡ flat_map cell_words cells → word_in new end ≡ word_in text last
      → AreWalked InStart (last ∷ []) (put ++ end ∷ [])
  unfolding rows_from
  walk_last last end put kind are same = record {
    old = [];
    made = [];
    put = put;
    last = last;
    end = end;
    old_is = refl;
    made_is = refl;
    relinked = AreRelinked.none;
    old_ends = refl;
    made_ends = refl;
    cells_are = are;
    last_is = same;
    last_kind = kind;
  }

  -- a token that stays
  walk_one : (p : Place) (u v : Token) (us vs : List Token) → word_in new v ≡ word_in text u → Free u.from → AreWalked (place_after p (kind_in text u)) us vs
      → AreWalked p (u ∷ us) (v ∷ vs)
  unfolding rows_from
  walk_one p u v us vs e free w =
      let kind : kind_in text u ≡ kind_in new v = ap (λ (x : Word). x.kind) (sym e) in
      record {
        old = u ∷ w.old;
        made = v ∷ w.made;
        put = w.put;
        last = w.last;
        end = w.end;
        old_is = ap (λ ts. u ∷ ts) w.old_is;
        made_is = ap (λ ts. v ∷ ts) w.made_is;
        relinked =
            AreRelinked.kept (record { place = refl; kind = kind; bytes = ap (λ (x : Word). x.bytes) (sym e) }) free
            (subst (λ k. AreRelinked text new Free Becomes (rows_from text (place_after p (kind_in text u)) w.old) (rows_from new (place_after p k) w.made)) kind w.relinked);
        old_ends = w.old_ends;
        made_ends = subst (λ k. place_after_all (place_after p k) (map (kind_in new) w.made) ≡ InStart) kind w.made_ends;
        cells_are = w.cells_are;
        last_is = w.last_is;
        last_kind = w.last_kind;
      }

  -- tokens that stay
  walk_all : (us vs : List Token) (p : Place) (ts others : List Token) → map (word_in new) vs ≡ map (word_in text) us → Each (λ u. Free u.from) us
      → AreWalked (place_after_all p (map (kind_in text) us)) ts others → AreWalked p (us ++ ts) (vs ++ others)
  walk_all [] [] p ts others e free w = w
  walk_all [] (v ∷ vs) p ts others e free w = absurd (cc)
  walk_all (u ∷ us) [] p ts others e free w = absurd (cc)
  walk_all (u ∷ us) (v ∷ vs) p ts others e free w =
      let one : word_in new v ≡ word_in text u = cc in
      let rest : map (word_in new) vs ≡ map (word_in text) us = cc in
      walk_one p u v (us ++ ts) (vs ++ others) one free.0 (walk_all us vs (place_after p (kind_in text u)) ts others rest free.1 w)

  -- tokens of a connection that give way to others
  pub record IsMade (old made : List Token) : Type 0 where
    pub before : EachRow InOne (rows_from text InConnection old)
    pub now : EachRow InOne (rows_from new InConnection made)
    pub becomes : Becomes (rows_from text InConnection old) (rows_from new InConnection made)
    pub ends : place_after_all InConnection (map (kind_in text) old) ≡ InPins
    pub ends_now : place_after_all InConnection (map (kind_in new) made) ≡ InPins

  walk_made : (old made ts others : List Token) → IsMade old made → AreWalked InPins ts others → AreWalked InConnection (old ++ ts) (made ++ others)
  walk_made old made ts others m w =
      let rows : rows_from text InConnection (old ++ w.old) ≡ rows_from text InConnection old ++ rows_from text InPins w.old
      = rows_append text old w.old InConnection ∙ ap (λ q. rows_from text InConnection old ++ rows_from text q w.old) m.ends in
      let rows_now : rows_from new InConnection (made ++ w.made) ≡ rows_from new InConnection made ++ rows_from new InPins w.made
      = rows_append new made w.made InConnection ∙ ap (λ q. rows_from new InConnection made ++ rows_from new q w.made) m.ends_now in
      record {
        old = old ++ w.old;
        made = made ++ w.made;
        put = w.put;
        last = w.last;
        end = w.end;
        old_is = ap (λ us. old ++ us) w.old_is ∙ sym (append_assoc old w.old (w.last ∷ []));
        made_is = ap (λ us. made ++ us) w.made_is ∙ sym (append_assoc made w.made (w.put ++ w.end ∷ []));
        relinked =
            subst (λ rs. AreRelinked text new Free Becomes rs (rows_from new InConnection (made ++ w.made))) (sym rows)
            (subst (AreRelinked text new Free Becomes (rows_from text InConnection old ++ rows_from text InPins w.old)) (sym rows_now)
            (AreRelinked.replaced (rows_from text InConnection old) (rows_from new InConnection made) (rows_from text InPins w.old) (rows_from new InPins w.made)
            (record { before = m.before; now = m.now; becomes = m.becomes; quits = quits_pins text w.old; quits_now = quits_pins new w.made }) w.relinked));
        old_ends =
            ap (place_after_all InConnection) (map-append (kind_in text) old w.old) ∙ place_append InConnection (map (kind_in text) old) (map (kind_in text) w.old)
            ∙ ap (λ q. place_after_all q (map (kind_in text) w.old)) m.ends ∙ w.old_ends;
        made_ends =
            ap (place_after_all InConnection) (map-append (kind_in new) made w.made) ∙ place_append InConnection (map (kind_in new) made) (map (kind_in new) w.made)
            ∙ ap (λ q. place_after_all q (map (kind_in new) w.made)) m.ends_now ∙ w.made_ends;
        cells_are = w.cells_are;
        last_is = w.last_is;
        last_kind = w.last_kind;
      }

-- ---- one change after another

-- a connection is made anew: that of a pin that is to be linked to another net, whose words it has
pub record IsNewNet (text new : List ℕ) (netlist : Netlist) (rewires : List Rewire) (old made : List Row) : Type 0 where
  pub rewire : Rewire
  pub own : In rewire rewires
  pub first : Row
  pub more : List Row
  pub old_is : old ≡ first ∷ more
  pub begins : first.from ≡ (span_at netlist rewire.at).from
  pub net : List Row
  pub close : Row
  pub made_is : made ≡ net ++ close ∷ []
  pub words : map (word_at new) net ≡ words_of rewire.net

-- no connection begins at this place that is made anew
abbrev pub IsFree : Netlist → List Rewire → ℕ → Type 0
IsFree netlist rewires n = (r : Rewire) → In r rewires → (span_at netlist r.at).from ≡ n → ⊥

in_place : (p : Place) → is_place InConnection p ≡ true → p ≡ InConnection
in_place InConnection e = refl
in_place p e = absurd (cc)

each_append_rows : (xs : List Row) (y : Row) → EachRow InOne xs → InOne y → EachRow InOne (xs ++ y ∷ [])
each_append_rows [] y h k = (k, tt)
each_append_rows (x ∷ xs) y h k = (h.0, each_append_rows xs y h.1 k)

module _ (text new : List ℕ) (netlist : Netlist) (d : Denotes text netlist) (cells : List NewCell) (e : EndTokens text) (all : List Rewire) where
  abbrev pub Walked : Place → List Token → List Token → Type 0
  Walked p ts others = AreWalked text new (IsFree netlist all) (IsNewNet text new netlist all) cells p ts others

  -- the rewires that are still to come, from a place on
  abbrev pub Come : ℕ → List Rewire → Type 0
  Come at rest = (q : Rewire) → In q all → ((span_at netlist q.at).from < at) ⊎ In q rest

  -- tokens between a place and the next change stay
  free_between : (rest : List Rewire) (at to : ℕ) → Come at rest → Each (λ q. to ≤ (span_at netlist q.at).from) rest → (us : List Token)
      → Each (λ t. at ≤ t.from) us → Each (λ t. t.from < to) us → Each (λ t. IsFree netlist all t.from) us
  free_between rest at to come later [] low up = tt
  free_between rest at to come later (u ∷ us) low up = (
    λ q i same. elim (come q i) [
      | inl before ↦ (let h : at ≤ u.from = low.0 in omega (arith, before, same, h))
      | inr j ↦ (let h = each_in (λ q. to ≤ (span_at netlist q.at).from) rest q later j in let k : u.from < to = up.0 in omega (arith, h, same, k))
    ],
    free_between rest at to come later us low.1 up.1,
  )

  walk_end : (at : ℕ) (done ts : List Token) (p : Place) (others : List Token) → StandsAt text at done ts → Each (λ t. at ≤ t.from) ts → Come at []
      → at ≤ netlist.end_at → place_after_all InStart (map (kind_in text) done) ≡ p
      → map (word_in new) others ≡ words_with text (end_changes netlist cells) ts → Walked p ts others
  walk_end at done ts p others here low come up there words =
      let place : netlist.end_at ≡ e.last.from = ap (λ (n : Netlist). n.end_at) d.is ∙ e.place in
      let l = end_located text at done ts e.front e.mark e.last here e.ends (omega (arith, place, up)) in
      let words' : map (word_in new) others ≡ map (word_in text) l.front ++ (flat_map cell_words cells ++ map (word_in text) (e.last ∷ []))
      = words ∙ ap (λ n. words_with text (inserted_words n (flat_map cell_words cells) ∷ []) ts) place ∙ l.words (flat_map cell_words cells) in
      let c = map_cut (word_in new) others (map (word_in text) l.front) (flat_map cell_words cells ++ map (word_in text) (e.last ∷ [])) words' in
      let k = map_cut (word_in new) c.back (flat_map cell_words cells) (map (word_in text) (e.last ∷ [])) c.backs in
      let f = map_first (word_in new) k.back (word_in text e.last) [] k.backs in
      let none = no_more (word_in new) f.rest f.others in
      let ends : place_after_all p (map (kind_in text) l.front) ≡ InStart
      = ap (λ q. place_after_all q (map (kind_in text) l.front)) (sym there)
      ∙ sym (place_append InStart (map (kind_in text) done) (map (kind_in text) l.front))
      ∙ ap (place_after_all InStart) (sym (map-append (kind_in text) done l.front) ∙ ap (map (kind_in text)) (sym l.before_is))
      ∙ at_item_place (map (kind_in text) (e.front ++ e.mark ∷ [])) e.comes in
      let whole : others ≡ c.front ++ (k.front ++ f.first ∷ [])
      = c.parts ∙ ap (λ us. c.front ++ us) (k.parts ∙ ap (λ us. k.front ++ us) (f.parts ∙ ap (λ us. f.first ∷ us) none)) in
      let a = stand_at text (e.front ++ e.mark ∷ []) e.last [] (e.ends.is ∙ sym (append_assoc e.front (e.mark ∷ []) (e.last ∷ []))) in
      let before = (each_front (λ t. t.from < e.last.from) done l.front (subst (Each (λ t. t.from < e.last.from)) l.before_is a.before)).1 in
      let above = (each_front (λ t. at ≤ t.from) l.front (e.last ∷ []) (subst (Each (λ t. at ≤ t.from)) l.ts_are low)).0 in
      let w = walk_all text new (IsFree netlist all) (IsNewNet text new netlist all) cells l.front c.front p (e.last ∷ []) (k.front ++ f.first ∷ []) c.fronts
      (free_between [] at e.last.from come tt l.front above before)
      (subst (λ q. Walked q (e.last ∷ []) (k.front ++ f.first ∷ [])) (sym ends)
      (walk_last text new (IsFree netlist all) (IsNewNet text new netlist all) cells e.last f.first k.front e.kind k.fronts f.own)) in
      subst (λ us. Walked p us others) (sym l.ts_are) (subst (Walked p (l.front ++ e.last ∷ [])) (sym whole) w)

  -- the tokens of a rewire's connection, up to its bracket
  behind : (from to : ℕ) → NameStands text from to → List Token
  behind from to s = (s.before ++ s.bracket ∷ (s.name ∷ s.more)) ++ s.close ∷ []

  -- the place behind the bracket of a connection
  stands_past : (from to : ℕ) (s : NameStands text from to) → kind_in text s.close ≡ Close → StandsAt text s.close.to (behind from to s) s.after
  unfolding behind
  stands_past from to s closing =
      let b = stands_behind text from to s in
      let a = stand_at text (s.before ++ s.bracket ∷ (s.name ∷ s.more)) s.close s.after b.split in
      let some = a.some in
      record {
        split = b.split ∙ sym (append_assoc (s.before ++ s.bracket ∷ (s.name ∷ s.more)) (s.close ∷ []) s.after);
        rest = behind_token text (s.before ++ s.bracket ∷ (s.name ∷ s.more)) s.close s.after b.split;
        low =
            each_append (λ t. t.from < s.close.to) (s.before ++ s.bracket ∷ (s.name ∷ s.more)) (s.close ∷ [])
            (each_up (s.before ++ s.bracket ∷ (s.name ∷ s.more)) s.close.from s.close.to (omega (arith, some)) a.before) (omega (arith, some), tt);
        shut = shut_append (s.before ++ s.bracket ∷ (s.name ∷ s.more)) s.close [] (λ f. no_open f);
      }
    where
      each_up : (xs : List Token) (m n : ℕ) → m ≤ n → Each (λ t. t.from < m) xs → Each (λ t. t.from < n) xs
      each_up [] m n low h = tt
      each_up (x ∷ xs) m n low h = (omega (arith, low, h.0), each_up xs m n low h.1)

      no_open : s.close.kind ≡ Mark 40 → ⊥
      no_open f = let g = rw f at closing in absurd (cc)

  -- what stands behind a connection, and is not its bracket, stands behind that
  past_close : (from to : ℕ) (s : NameStands text from to) (before : List Token) (u : Token) (rest : List Token) → tokens_of text ≡ before ++ u ∷ rest
      → to ≤ u.from → (s.close ≡ u → ⊥) → s.close.to ≤ u.from
  past_close from to s before u rest is up other =
      let b = stands_behind text from to s in
      let a = stand_at text (s.before ++ s.bracket ∷ (s.name ∷ s.more)) s.close s.after b.split in
      behind_close (s.before ++ s.bracket ∷ (s.name ∷ s.more)) s.close s.after before u rest to s.close.to (sym b.split ∙ is) b.low up other a.behind

  past_last : (from to : ℕ) (s : NameStands text from to) → kind_in text s.close ≡ Close → to ≤ netlist.end_at → s.close.to ≤ netlist.end_at
  past_last from to s closing up =
      let place : netlist.end_at ≡ e.last.from = ap (λ (n : Netlist). n.end_at) d.is ∙ e.place in
      let h = past_close from to s (e.front ++ e.mark ∷ []) e.last [] (e.ends.is ∙ sym (append_assoc e.front (e.mark ∷ []) (e.last ∷ []))) (omega (arith, up, place))
      (λ f. let g : Close ≡ EndModule = sym closing ∙ ap (kind_in text) f ∙ e.kind in absurd (cc)) in
      omega (arith, h, place)

  past_others : (from to : ℕ) (s : NameStands text from to) → (rest : List Rewire) → Each (λ q. IsOnOneNet netlist q.at) rest
      → Each (λ q. to ≤ (span_at netlist q.at).from) rest → Each (λ q. s.close.to ≤ (span_at netlist q.at).from) rest
  past_others from to s [] linked up = tt
  past_others from to s (q ∷ rest) linked up =
      let k = pin_stands text netlist d q.at linked.0 in
      let n = k.stands in
      let begins = n.begins in
      let low = up.0 in
      let h = past_close from to s (n.before ++ n.bracket ∷ []) n.name (n.more ++ n.close ∷ n.after)
      (n.is ∙ sym (append_assoc n.before (n.bracket ∷ []) (n.name ∷ (n.more ++ n.close ∷ n.after)))) (omega (arith, begins, low))
      (λ f. no_name s.mark n.name s.closes f n.named) in
      (omega (arith, h, begins), past_others from to s rest linked.1 up.1)
    where
      no_name : (m : ℕ) (u : Token) → s.close.kind ≡ Mark m → s.close ≡ u → IsName u → ⊥
      no_name m u f g (inl h) = let i : s.close.kind ≡ u.kind = ap (λ (t : Token). t.kind) g in absurd (cc)
      no_name m u f g (inr h) = let i : s.close.kind ≡ u.kind = ap (λ (t : Token). t.kind) g in absurd (cc)

  -- the changes behind a rewire leave its bracket
  close_stays : (from to : ℕ) (s : NameStands text from to) → (rest : List Rewire) → Each (λ q. IsOnOneNet netlist q.at) rest
      → Each (λ q. s.close.to ≤ (span_at netlist q.at).from) rest → s.close.to ≤ netlist.end_at
      → words_with text (map (rewired_words netlist) rest ++ end_changes netlist cells) (s.close ∷ s.after)
      ≡ word_in text s.close ∷ words_with text (map (rewired_words netlist) rest ++ end_changes netlist cells) s.after
  close_stays from to s rest linked up end =
      let b = stands_behind text from to s in
      let a = stand_at text (s.before ++ s.bracket ∷ (s.name ∷ s.more)) s.close s.after b.split in
      let some = a.some in
      by_rest some rest linked up
    where
      by_rest : s.close.from < s.close.to → (rs : List Rewire) → Each (λ q. IsOnOneNet netlist q.at) rs
          → Each (λ q. s.close.to ≤ (span_at netlist q.at).from) rs
          → words_with text (map (rewired_words netlist) rs ++ end_changes netlist cells) (s.close ∷ s.after)
          ≡ word_in text s.close ∷ words_with text (map (rewired_words netlist) rs ++ end_changes netlist cells) s.after
      by_rest some [] l u = word_stays text (inserted_words netlist.end_at (flat_map cell_words cells)) [] s.close s.after (omega (arith, some, end)) (omega arith)
      by_rest some (q ∷ rs) l u =
          let stands = spans_stand stand_in_order items_stand text netlist q.at d l.0 in
          let span_some = stands.some in
          let low = u.0 in
          word_stays text (rewired_words netlist q) (map (rewired_words netlist) rs ++ end_changes netlist cells) s.close s.after (omega (arith, some, low))
          (omega (arith, span_some))

  -- the connection of a rewire gives way to its net
  made_anew : (r : Rewire) → In r all → IsNetText r.net → (k : IsPinPlace text (span_at netlist r.at)) (net : List Token) (close : Token)
      → map (word_in new) net ≡ words_of r.net → word_in new close ≡ word_in text k.stands.close
      → IsMade text new (IsFree netlist all) (IsNewNet text new netlist all) cells ((k.stands.name ∷ k.stands.more) ++ k.stands.close ∷ []) (net ++ close ∷ [])
  unfolding rows_from
  made_anew r own t k net close words same =
      let s = k.stands in
      let name_row = row text InConnection s.name in
      let more_rows = rows_from text (place_after InConnection (kind_in text s.name)) (s.more ++ s.close ∷ []) in
      let kinds = word_kinds_of new net (words_of r.net) words in
      let stay : Stay (map (kind_in new) net) = subst Stay (sym (kinds ∙ ap word_kinds (net_named r.net t))) (net_stays t.net) in
      let there : place_after_all InConnection (map (kind_in new) net) ≡ InConnection = place_stays (map (kind_in new) net) stay in
      let closing : kind_in new close ≡ Close = ap (λ (w : Word). w.kind) same ∙ k.closing in
      let rows : rows_from new InConnection (net ++ close ∷ []) ≡ rows_from new InConnection net ++ row new InConnection close ∷ []
      = rows_append new net (close ∷ []) InConnection ∙ ap (λ q. rows_from new InConnection net ++ row new q close ∷ []) there in
      record {
        before = k.inside;
        now = subst (EachRow InOne) (sym rows) (each_append_rows (rows_from new InConnection net) (row new InConnection close) (rows_stay new net stay) refl);
        becomes = record {
          rewire = r;
          own = own;
          first = name_row;
          more = more_rows;
          old_is = refl;
          begins = sym s.begins;
          net = rows_from new InConnection net;
          close = row new InConnection close;
          made_is = rows;
          words = words_at new net InConnection ∙ words;
        };
        ends =
            ap (place_after_all InConnection) (map-append (kind_in text) (s.name ∷ s.more) (s.close ∷ []))
            ∙ place_append InConnection (map (kind_in text) (s.name ∷ s.more)) (kind_in text s.close ∷ [])
            ∙ (λ i. place_after (old_there i) (k.closing i));
        ends_now =
            ap (place_after_all InConnection) (map-append (kind_in new) net (close ∷ []))
            ∙ place_append InConnection (map (kind_in new) net) (kind_in new close ∷ [])
            ∙ (λ i. place_after (there i) (closing i));
      }
    where
      inside_front : (ts : List Token) (t : Token) (p : Place) → EachRow InOne (rows_from text p (ts ++ t ∷ []))
          → place_after_all p (map (kind_in text) ts) ≡ InConnection
      inside_front [] t p h = in_place p h.0
      inside_front (u ∷ ts) t p h = inside_front ts t (place_after p (kind_in text u)) h.1

      old_there : place_after_all InConnection (map (kind_in text) (k.stands.name ∷ k.stands.more)) ≡ InConnection
      old_there = inside_front (k.stands.name ∷ k.stands.more) k.stands.close InConnection k.inside

  -- the rewires that come, after one of them
  come_next : (at to : ℕ) (r : Rewire) (rest : List Rewire) → Come at (r ∷ rest) → at ≤ to → (span_at netlist r.at).from < to → Come to rest
  come_next at to r rest come up own q i =
      elim (come q i) [
        | inl before ↦ inl (omega (arith, before, up))
        | inr (inl same) ↦ (let e : (span_at netlist q.at).from ≡ (span_at netlist r.at).from = ap (λ (x : Rewire). (span_at netlist x.at).from) same in inl (omega (arith, e, own)))
        | inr (inr more) ↦ inr more
      ]

  -- what stands behind the bracket before a connection, and behind the one after it
  bracket_there : (at : PinRef) (k : IsPinPlace text (span_at netlist at))
      → place_after_all InStart (map (kind_in text) (k.stands.before ++ k.stands.bracket ∷ [])) ≡ InConnection
  bracket_there at k =
      ap (λ q. place_after_all q (map (kind_in text) (k.stands.before ++ k.stands.bracket ∷ []))) (sym start_place)
      ∙ ran_places (map (kind_in text) (k.stands.before ++ k.stands.bracket ∷ [])) start (state (AtInstance Connection)) k.comes ∙ connection_place

  pins_there : (at : PinRef) (k : IsPinPlace text (span_at netlist at))
      → place_after_all InStart (map (kind_in text) (behind (span_at netlist at).from (span_at netlist at).to k.stands)) ≡ InPins
  unfolding behind place_at
  pins_there at k =
      let s = k.stands in
      let inner = s.name ∷ (s.more ++ s.close ∷ []) in
      let parts : (s.before ++ s.bracket ∷ (s.name ∷ s.more)) ++ s.close ∷ [] ≡ (s.before ++ s.bracket ∷ []) ++ inner
      = append_assoc s.before (s.bracket ∷ (s.name ∷ s.more)) (s.close ∷ []) ∙ sym (append_assoc s.before (s.bracket ∷ []) inner) in
      ap (λ us. place_after_all InStart (map (kind_in text) us)) parts
      ∙ ap (place_after_all InStart) (map-append (kind_in text) (s.before ++ s.bracket ∷ []) inner)
      ∙ place_append InStart (map (kind_in text) (s.before ++ s.bracket ∷ [])) (map (kind_in text) inner)
      ∙ ap (λ q. place_after_all q (map (kind_in text) inner)) (bracket_there at k)
      ∙ ran_places (map (kind_in text) inner) (state (AtInstance Connection)) (state (AtInstance PinEnd)) k.runs

  close_behind : (from to : ℕ) (s : NameStands text from to) → to ≤ s.close.from
  close_behind from to s =
      let l = has_last s.name s.more in
      let last_to : l.last.to ≡ to = l.ends ∙ sym s.ends in
      let front = (s.before ++ s.bracket ∷ []) ++ l.front in
      let parts : tokens_of text ≡ front ++ l.last ∷ (s.close ∷ s.after)
      = s.is ∙ sym (append_assoc s.before (s.bracket ∷ []) (s.name ∷ (s.more ++ s.close ∷ s.after)))
      ∙ ap (λ us. (s.before ++ s.bracket ∷ []) ++ (us ++ s.close ∷ s.after)) l.is
      ∙ ap (λ us. (s.before ++ s.bracket ∷ []) ++ us) (append_assoc l.front (l.last ∷ []) (s.close ∷ s.after))
      ∙ sym (append_assoc (s.before ++ s.bracket ∷ []) l.front (l.last ∷ (s.close ∷ s.after))) in
      let a = stand_at text front l.last (s.close ∷ s.after) parts in
      let low = a.behind.0 in
      omega (arith, low, last_to)

  walk_more : (at : ℕ) (done ts : List Token) (p : Place) (others : List Token) (r : Rewire) (rest : List Rewire) → StandsAt text at done ts
      → Each (λ t. at ≤ t.from) ts → Come at (r ∷ rest) → In r all → IsNetText r.net → (k : IsPinPlace text (span_at netlist r.at))
      → at ≤ (span_at netlist r.at).from → (span_at netlist r.at).from < (span_at netlist r.at).to → Each (λ q. IsOnOneNet netlist q.at) rest
      → Each (λ q. (span_at netlist r.at).to ≤ (span_at netlist q.at).from) rest → k.stands.close.to ≤ netlist.end_at
      → place_after_all InStart (map (kind_in text) done) ≡ p
      → map (word_in new) others ≡ words_with text (map (rewired_words netlist) (r ∷ rest) ++ end_changes netlist cells) ts
      → ((us : List Token)
      → map (word_in new) us ≡ words_with text (map (rewired_words netlist) rest ++ end_changes netlist cells) k.stands.after → Walked InPins k.stands.after us)
      → Walked p ts others
  walk_more at done ts p others r rest here low come own t k up some linked next end there words later =
      let from = (span_at netlist r.at).from in
      let to = (span_at netlist r.at).to in
      let s = k.stands in
      let l = located text at done ts from to here s up in
      let front = l.front ++ s.bracket ∷ [] in
      let changes = map (rewired_words netlist) rest ++ end_changes netlist cells in
      let c = map_cut (word_in new) others (map (word_in text) front) (words_of r.net ++ words_with text changes (s.close ∷ s.after)) (words
      ∙ l.words (words_of r.net) changes) in
      let n = map_cut (word_in new) c.back (words_of r.net) (words_with text changes (s.close ∷ s.after)) c.backs in
      let closes = close_stays from to s rest linked (past_others from to s rest linked next) end in
      let f = map_first (word_in new) n.back (word_in text s.close) (words_with text changes s.after) (n.backs ∙ closes) in
      let w = later f.rest f.others in
      let whole : others ≡ c.front ++ ((n.front ++ f.first ∷ []) ++ f.rest)
      = c.parts ∙ ap (λ us. c.front ++ us) (n.parts ∙ ap (λ us. n.front ++ us) f.parts ∙ sym (append_assoc n.front (f.first ∷ []) f.rest)) in
      let parts : ts ≡ front ++ (((s.name ∷ s.more) ++ s.close ∷ []) ++ s.after)
      = l.ts_are ∙ sym (append_assoc l.front (s.bracket ∷ []) (s.name ∷ (s.more ++ s.close ∷ s.after)))
      ∙ ap (λ us. front ++ us) (sym (append_assoc (s.name ∷ s.more) (s.close ∷ []) s.after)) in
      let fronts : s.before ++ s.bracket ∷ [] ≡ done ++ front = ap (λ us. us ++ s.bracket ∷ []) l.before_is ∙ append_assoc done l.front (s.bracket ∷ []) in
      let here_place : place_after_all p (map (kind_in text) front) ≡ InConnection
      = ap (λ q. place_after_all q (map (kind_in text) front)) (sym there)
      ∙ sym (place_append InStart (map (kind_in text) done) (map (kind_in text) front))
      ∙ ap (place_after_all InStart) (sym (map-append (kind_in text) done front) ∙ ap (map (kind_in text)) (sym fronts))
      ∙ bracket_there r.at k in
      let tail = s.more ++ s.close ∷ s.after in
      let a = stand_at text (s.before ++ s.bracket ∷ []) s.name tail (s.is ∙ sym (append_assoc s.before (s.bracket ∷ []) (s.name ∷ tail))) in
      let below = (each_front (λ t. t.from < from) done front
      (subst (Each (λ t. t.from < from)) fronts (subst (λ m. Each (λ t. t.from < m) (s.before ++ s.bracket ∷ [])) (sym s.begins) a.before))).1 in
      let above = (each_front (λ t. at ≤ t.from) front (((s.name ∷ s.more) ++ s.close ∷ []) ++ s.after) (subst (Each (λ t. at ≤ t.from)) parts low)).0 in
      let firsts : Each (λ q. from ≤ (span_at netlist q.at).from) (r ∷ rest) = (omega arith, each_low rest from to some next) in
      let m = made_anew r own t k n.front f.first n.fronts f.own in
      let block = walk_made text new (IsFree netlist all) (IsNewNet text new netlist all) cells ((s.name ∷ s.more) ++ s.close ∷ []) (n.front ++ f.first ∷ [])
      s.after f.rest m w in
      let walked = walk_all text new (IsFree netlist all) (IsNewNet text new netlist all) cells front c.front p (((s.name ∷ s.more) ++ s.close ∷ []) ++ s.after)
      ((n.front ++ f.first ∷ []) ++ f.rest) c.fronts (free_between (r ∷ rest) at from come firsts front above below)
      (subst (λ q. Walked q (((s.name ∷ s.more) ++ s.close ∷ []) ++ s.after) ((n.front ++ f.first ∷ []) ++ f.rest)) (sym here_place) block) in
      subst (λ us. Walked p us others) (sym parts) (subst (Walked p (front ++ (((s.name ∷ s.more) ++ s.close ∷ []) ++ s.after))) (sym whole) walked)
    where
      each_low : (rs : List Rewire) (from to : ℕ) → from < to → Each (λ q. to ≤ (span_at netlist q.at).from) rs → Each (λ q. from ≤ (span_at netlist q.at).from) rs
      each_low [] from to less h = tt
      each_low (q ∷ rs) from to less h = (let g = h.0 in omega (arith, less, g), each_low rs from to less h.1)

  pub walk : (rewires : List Rewire) (at : ℕ) (done ts : List Token) (p : Place) (others : List Token) → StandsAt text at done ts → Each (λ t. at ≤ t.from) ts
      → Come at rewires → Each (λ r. In r all) rewires → Each (λ r. IsOnOneNet netlist r.at) rewires → Each (λ r. IsNetText r.net) rewires
      → AllPairs (λ a b. IsBefore a.at b.at) rewires → Each (λ r. at ≤ (span_at netlist r.at).from) rewires → at ≤ netlist.end_at
      → place_after_all InStart (map (kind_in text) done) ≡ p
      → map (word_in new) others ≡ words_with text (map (rewired_words netlist) rewires ++ end_changes netlist cells) ts
      → Walked p ts others
  walk [] at done ts p others here low come own linked named before up end there words = walk_end at done ts p others here low come end there words
  walk (r ∷ rest) at done ts p others here low come own linked named before up end there words =
      let k = pin_stands text netlist d r.at linked.0 in
      let s = k.stands in
      let stands = spans_stand stand_in_order items_stand text netlist r.at d linked.0 in
      let from = (span_at netlist r.at).from in
      let to = (span_at netlist r.at).to in
      let next = spans_behind text netlist d r linked.0 rest (head_pairs (λ a b. IsBefore a.at b.at) r rest before) linked.1 in
      let past = past_last from to s k.closing stands.before in
      let b = stands_behind text from to s in
      let a = stand_at text (s.before ++ s.bracket ∷ (s.name ∷ s.more)) s.close s.after b.split in
      let a_some = a.some in
      let some = stands.some in
      let far = close_behind from to s in
      let first = up.0 in
      let h = stands_past from to s k.closing in
      walk_more at done ts p others r rest here low come own.0 named.0 k first some linked.1 next past there words
      (λ us words'. walk rest s.close.to (behind from to s) s.after InPins us h a.behind
      (come_next at s.close.to r rest come (omega (arith, first, some, far, a_some)) (omega (arith, some, far, a_some)))
      own.1 linked.1 named.1 (tail_pairs (λ a b. IsBefore a.at b.at) r rest before) (past_others from to s rest linked.1 next) past
      (pins_there r.at k) words')
