-- The words of a text with new declarations, new names and new instances.
use Rattle.std.proofs.Common.{◌≡◌, ℕ, zero, suc, ◌+◌, ◌-◌, ◌<◌, ◌≤◌, false, List, [], ◌∷◌, ◌++◌, length, map, take, drop, Some, refl, sym, ap, ◌∙◌, subst, arith, length-append, append_assoc, ◌⊎◌, inl, inr, take-append-drop}
use Rattle.std.proofs.Math.Seq.{drop-append_seam, take-append_seam}
use Rattle.std.proofs.lemmas.List.{append_cancel_left, append_cancel_right, map-append}
use Rattle.vg_scan.specs.Lines.{part}
use Rattle.vg_patch.specs.Edits.{Edit, patched_from, patched}
use Rattle.ver_text.specs.declared.token.Token.{Token}
use Rattle.ver_text.specs.declared.token.TokenKind.TheVariants.{Mark}
use Rattle.ver_text.specs.Bytes.{is_word_byte}
use Rattle.ver_text.specs.declared.kind.Kind.TheVariants.{Semicolon}
use Rattle.ver_text.specs.Tokens.{directive_length, tokens_from, tokens_of}
use Rattle.ver_text.specs.Written.{begins_with}
use Rattle.ver_patch_text_laws.specs.Words.{Word, WordEdit, word_in, words_of, words_with}
use Rattle.ver_patch_text_laws.proofs.OrderLemmas.{Each, IsBehind, behind_token, each_append, words_replaced}
use Rattle.ver_patch_text_laws.proofs.PieceLemmas.{semicolon_stops}
use Rattle.ver_patch_text_laws.proofs.PlaceLemmas.{BeginsName, directive_same}
use Rattle.ver_patch_text_laws.proofs.ChainLemmas.{Chained, IsNewName, NameStands, StandsAt, each_front, has_last, locate, no_word, shut_append, stand_at}
use Rattle.ver_patch_text_laws.proofs.ReachLemmas.{IsName, Reached, name_begins, reached_at_once, reached_behind, words_reached}
use Rattle.ver_patch_text_laws.proofs.ScanLemmas.{Found, found, holds_before_stop, holds_words, left, left_within, tokens_in, words_from, words_in}
use Rattle.ver_patch_text_laws.proofs.WordLemmas.{first_byte, words_are, words_in_are, words_of_are}

length_take : (n : ℕ) (xs : List ℕ) → n ≤ length xs → length (take n xs) ≡ n
length_take zero xs h = refl
length_take (suc n) [] h = absurd (omega arith)
length_take (suc n) (x ∷ xs) h = let e = length_take n xs (omega arith) in omega (arith, e)

-- what stands before a name that is reached
front_is : (text : List ℕ) (at : ℕ) (front : List Token) (t : Token) (back : List Token) (p : Found 0 at (drop at text) front t back) → part text at t.from ≡ p.us
front_is text at front t back p =
    let count : t.from - at ≡ length p.us = omega (arith, p.from) in
    (λ i. take (count i) (p.is i)) ∙ take-append_seam p.us (p.b ∷ p.bs)

-- it has a first byte where a token stands in it
some_front : (text : List ℕ) (at : ℕ) (f : Token) (front : List Token) (t : Token) (back : List Token) (p : Found 0 at (drop at text) (f ∷ front) t back)
    → (u : ℕ) × (us : List ℕ) × (p.us ≡ u ∷ us)
unfolding tokens_in
some_front text at f front t back p = by_us p.us refl
  where
    by_us : (us : List ℕ) → p.us ≡ us → (u : ℕ) × (rest : List ℕ) × (p.us ≡ u ∷ rest)
    by_us [] e = let none : [] ≡ f ∷ front = ap (λ (us : List ℕ). tokens_in 0 at us (p.b ∷ p.bs)) (sym e) ∙ p.before in absurd (cc)
    by_us (u ∷ us) e = (u, us, e)

-- and this is none of a word where the first token is a mark
shut_front : (text : List ℕ) (at : ℕ) (f : Token) (front ts : List Token) (t : Token) (back : List Token) (p : Found 0 at (drop at text) (f ∷ front) t back)
    → IsBehind text at ts → (xs : List ℕ) (c : Token) (rest : List Token) (m : ℕ) → ts ≡ c ∷ rest → c.kind ≡ Mark m
    → begins_with is_word_byte (part text at t.from ++ xs) ≡ false
shut_front text at f front ts t back p behind xs c rest m e k =
    let (u, us, is) = some_front text at f front t back p in
    let bytes : drop at text ≡ u ∷ (us ++ p.b ∷ p.bs) = p.is ∙ ap (λ ys. ys ++ p.b ∷ p.bs) is in
    ap (λ ys. begins_with is_word_byte (ys ++ xs)) (front_is text at (f ∷ front) t back p ∙ is)
    ∙ no_word at u (us ++ p.b ∷ p.bs) c rest m (ap (tokens_from 0 at) (sym bytes) ∙ behind.tokens ∙ e) k

cons_front : (xs : List Token) (y : Token) → (f : Token) × (ys : List Token) × (xs ++ y ∷ [] ≡ f ∷ ys)
cons_front [] y = (y, [], refl)
cons_front (x ∷ xs) y = (x, xs ++ y ∷ [], refl)

rest_from : (text : List ℕ) (at : ℕ) (front : List Token) (t : Token) (back : List Token) (p : Found 0 at (drop at text) front t back) → at ≤ length text
    → drop t.from text ≡ p.b ∷ p.bs
rest_from text at front t back p within =
    let whole : text ≡ take at text ++ (p.us ++ p.b ∷ p.bs) = sym (take-append-drop at text) ∙ ap (λ xs. take at text ++ xs) p.is in
    let parts : text ≡ (take at text ++ p.us) ++ p.b ∷ p.bs = whole ∙ sym (append_assoc (take at text) p.us (p.b ∷ p.bs)) in
    let place : t.from ≡ length (take at text ++ p.us) = omega (arith, p.from, length-append (take at text) p.us, length_take at text within) in
    (λ i. drop (place i) (parts i)) ∙ drop-append_seam (take at text ++ p.us) (p.b ∷ p.bs)

-- a text before a name is read as these words, whatever name it is
pub record IsPutBefore (new : List ℕ) (words : List Word) : Type 0 where
  pub begins : (b : ℕ) (bs : List ℕ) → BeginsName b → (y : ℕ) × (ys : List ℕ) × BeginsName y × (new ++ b ∷ bs ≡ y ∷ ys)
  pub reads : (b : ℕ) (bs : List ℕ) → BeginsName b → words_from 0 (new ++ b ∷ bs) ≡ words ++ words_from 0 (b ∷ bs)

-- what is put in behind a `;` is read as these words
abbrev pub IsRead : List ℕ → List Word → Type 0
IsRead new words = (rest : List ℕ) → words_from 0 (new ++ rest) ≡ words ++ words_from 0 rest

module _ (text : List ℕ) where
  whole_at : (at : ℕ) → take at text ++ drop at text ≡ text
  whole_at at = take-append-drop at text

  -- a name behind a place, found from there
  pub record Located (at : ℕ) (ts done : List Token) (from to : ℕ) (s : NameStands text from to) : Type 0 where
    pub front : List Token
    pub ts_are : ts ≡ front ++ s.bracket ∷ s.name ∷ (s.more ++ s.close ∷ s.after)
    pub before_is : s.before ≡ done ++ front
    pub words : (words : List Word) (changes : List WordEdit)
        → words_with text (record { from = from; to = to; words = words } ∷ changes) ts
        ≡ map (word_in text) (front ++ s.bracket ∷ []) ++ (words ++ words_with text changes (s.close ∷ s.after))

  pub located : (at : ℕ) (done ts : List Token) (from to : ℕ) → StandsAt text at done ts → (s : NameStands text from to) → at ≤ from → Located at ts done from to s
  located at done ts from to here s behind =
      let (front, ts_are, before_is) = locate text at done ts s.before s.bracket s.name (s.more ++ s.close ∷ s.after) (sym here.split
      ∙ s.is) here.low here.shut s.opens
      (omega (arith, behind, s.begins)) in
      let tail = s.more ++ s.close ∷ s.after in
      let whole : tokens_of text ≡ (s.before ++ s.bracket ∷ []) ++ s.name ∷ tail = s.is ∙ sym (append_assoc s.before (s.bracket ∷ []) (s.name ∷ tail)) in
      let a = stand_at text (s.before ++ s.bracket ∷ []) s.name tail whole in
      let l = has_last s.name s.more in
      let parts : tokens_of text ≡ ((s.before ++ s.bracket ∷ []) ++ l.front) ++ l.last ∷ (s.close ∷ s.after)
      = whole ∙ ap (λ xs. (s.before ++ s.bracket ∷ []) ++ (xs ++ s.close ∷ s.after)) l.is
      ∙ ap (λ xs. (s.before ++ s.bracket ∷ []) ++ xs) (append_assoc l.front (l.last ∷ []) (s.close ∷ s.after))
      ∙ sym (append_assoc (s.before ++ s.bracket ∷ []) l.front (l.last ∷ (s.close ∷ s.after))) in
      let b = stand_at text ((s.before ++ s.bracket ∷ []) ++ l.front) l.last (s.close ∷ s.after) parts in
      let last_to : l.last.to ≡ to = l.ends ∙ sym s.ends in
      let fronts : Each (λ t. t.from < from) (front ++ s.bracket ∷ [])
      = (each_front (λ t. t.from < from) done (front ++ s.bracket ∷ [])
      (subst (Each (λ t. t.from < from)) (ap (λ xs. xs ++ s.bracket ∷ []) before_is ∙ append_assoc done front (s.bracket ∷ []))
      (subst (λ m. Each (λ t. t.from < m) (s.before ++ s.bracket ∷ [])) (sym s.begins) a.before))).1 in
      let up : s.name.from < to = up_to (s.name) (s.more) (l.front) (l.last) l.is (b.before) (b.some) last_to in
      let inside : Each (λ t. (from ≤ t.from) × (t.from < to)) (s.name ∷ s.more)
      = each_both (s.name ∷ s.more) from to (
        omega (arith, s.begins),
        each_from s.more s.name.to from (let x = a.some in omega (arith, s.begins, x))
            (each_front (λ t. s.name.to ≤ t.from) s.more (s.close ∷ s.after) a.behind).0,
      )
      (subst (Each (λ t. t.from < to)) (sym l.is)
      (each_append (λ t. t.from < to) l.front (l.last ∷ [])
      (each_up l.front l.last.from to (let x = b.some in omega (arith, x, last_to)) (each_front (λ t. t.from < l.last.from) (s.before ++ s.bracket ∷ []) l.front b.before).1)
      (let x = b.some in omega (arith, x, last_to), tt))) in
      let backs : Each (λ t. to ≤ t.from) (s.close ∷ s.after) = subst (λ m. Each (λ t. m ≤ t.from) (s.close ∷ s.after)) last_to b.behind in
      let pieces : ts ≡ (front ++ s.bracket ∷ []) ++ ((s.name ∷ s.more) ++ s.close ∷ s.after) = ts_are ∙ sym (append_assoc front (s.bracket ∷ []) (s.name ∷ tail)) in
      record {
        front = front;
        ts_are = ts_are;
        before_is = before_is;
        words = λ words changes.
            ap (words_with text (record { from = from; to = to; words = words } ∷ changes)) pieces
            ∙ words_replaced text (record { from = from; to = to; words = words }) changes (front ++ s.bracket ∷ []) (s.name ∷ s.more) (s.close ∷ s.after) fronts inside backs
            (omega (arith, s.begins, up));
      }
    where
      each_from : (xs : List Token) (m n : ℕ) → n ≤ m → Each (λ t. m ≤ t.from) xs → Each (λ t. n ≤ t.from) xs
      each_from [] m n low h = tt
      each_from (x ∷ xs) m n low h = (omega (arith, low, h.0), each_from xs m n low h.1)

      each_up : (xs : List Token) (m n : ℕ) → m ≤ n → Each (λ t. t.from < m) xs → Each (λ t. t.from < n) xs
      each_up [] m n low h = tt
      each_up (x ∷ xs) m n low h = (omega (arith, low, h.0), each_up xs m n low h.1)

      each_both : (xs : List Token) (m n : ℕ) → Each (λ t. m ≤ t.from) xs → Each (λ t. t.from < n) xs → Each (λ t. (m ≤ t.from) × (t.from < n)) xs
      each_both [] m n h k = tt
      each_both (x ∷ xs) m n h k = ((h.0, k.0), each_both xs m n h.1 k.1)

      up_to : (t : Token) (ts front : List Token) (last : Token) → t ∷ ts ≡ front ++ last ∷ []
          → Each (λ x. x.from < last.from) ((s.before ++ s.bracket ∷ []) ++ front)
          → last.from < last.to → last.to ≡ to → t.from < to
      up_to t ts [] last e h some is = let same : t ≡ last = cc in let f : t.from ≡ last.from = ap (λ (x : Token). x.from) same in omega (arith, f, some, is)
      up_to t ts (x ∷ front) last e h some is =
          let same : t ≡ x = cc in
          let f : t.from ≡ x.from = ap (λ (y : Token). y.from) same in
          let g = (each_front (λ y. y.from < last.from) (s.before ++ s.bracket ∷ []) (x ∷ front) h).1.0 in
          omega (arith, f, g, some, is)

  -- one more new name
  pub chain_more : (at : ℕ) (done ts : List Token) (from to : ℕ) (new : List ℕ) (words : List Word) (edits : List Edit) (changes : List WordEdit)
      → StandsAt text at done ts → (s : NameStands text from to) → at ≤ from → IsNewName new words → Chained text to (s.close ∷ s.after) edits changes
      → Chained text at ts (record { from = from; to = to; text = new } ∷ edits) (record { from = from; to = to; words = words } ∷ changes)
  chain_more at done ts from to new words edits changes here s behind n later =
      let l = located at done ts from to here s behind in
      let tail = s.more ++ s.close ∷ s.after in
      let pre = take at text in
      let far : at ≡ length pre = sym (length_take at text here.rest.within) in
      let r = reached_behind pre (drop at text) at l.front s.bracket s.name tail far (inl s.opens) s.named (here.rest.tokens ∙ l.ts_are) in
      let gone = patched_from to text edits in
      let us_are : part text at from ≡ r.place.us
      = ap (part text at) s.begins ∙ front_is text at (l.front ++ s.bracket ∷ []) s.name tail r.place in
      let (f, fs, first) = cons_front l.front s.bracket in
      record {
        words =
            ap (λ xs. words_from 0 (xs ++ (new ++ gone))) us_are
            ∙ ap (λ xs. words_from 0 (r.place.us ++ (xs ++ gone))) n.is
            ∙ words_reached pre (drop at text) at (l.front ++ s.bracket ∷ []) s.name tail r n.first (n.more ++ gone) far n.begins
            ∙ (λ i. map (word_in (whole_at at i)) (l.front ++ s.bracket ∷ []) ++ words_from 0 (sym n.is i ++ gone))
            ∙ ap (λ ws. map (word_in text) (l.front ++ s.bracket ∷ []) ++ ws) (n.reads gone (later.shut s.close s.after s.mark refl s.closes)
            ∙ ap (λ ws. words ++ ws) later.words)
            ∙ sym (l.words words changes);
        shut = λ c rest m e k.
            ap (λ (j : ℕ). begins_with is_word_byte (part text at j ++ (new ++ gone))) s.begins
            ∙ shut_front text at f fs ts s.name tail (subst (λ xs. Found 0 at (drop at text) xs s.name tail) first r.place) here.rest (new ++ gone) c rest m e k;
      }

  -- ---- the end

  -- a text has this last token, which is a name behind a `;`
  pub record EndsIn (before : List Token) (mark last : Token) : Type 0 where
    pub is : tokens_of text ≡ before ++ mark ∷ last ∷ []
    pub ends : mark.kind ≡ Mark 59
    pub named : IsName last

  reached_end : (at : ℕ) (done ts before : List Token) (mark last : Token) → StandsAt text at done ts → EndsIn before mark last → at ≤ last.from
      → (front : List Token) × (ts ≡ front ++ last ∷ []) × Reached at (drop at text) front last []
      × ((c : Token) (rest : List Token) (m : ℕ) → ts ≡ c ∷ rest → c.kind ≡ Mark m → (f : Token) × (fs : List Token) × (front ≡ f ∷ fs))
  reached_end at done ts before mark last here e behind =
      let pre = take at text in
      let far : at ≡ length pre = sym (length_take at text here.rest.within) in
      elim (split done before (sym here.split ∙ e.is) here.low) [
        | inl one ↦ (
          [],
          one,
          reached_at_once pre (drop at text) at last [] far e.named (here.rest.tokens ∙ one),
          λ c rest m f k. absurd (not_named last c m e.named (let same : last ≡ c = cc in ap (λ (t : Token). t.kind) same ∙ k)),
        )
        | inr (front, two) ↦ (
          front ++ mark ∷ [],
          two ∙ sym (append_assoc front (mark ∷ []) (last ∷ [])),
          reached_behind pre (drop at text) at front mark last [] far (inr e.ends) e.named (here.rest.tokens ∙ two),
          λ c rest m f k. cons_front front mark,
        )
      ]
    where
      not_named : (t c : Token) (m : ℕ) → IsName t → t.kind ≡ Mark m → ⊥
      not_named t c m (inl f) g = absurd (cc)
      not_named t c m (inr f) g = absurd (cc)

      split : (done before : List Token) → done ++ ts ≡ before ++ mark ∷ last ∷ [] → Each (λ t. t.from < at) done
          → (ts ≡ last ∷ []) ⊎ ((front : List Token) × (ts ≡ front ++ mark ∷ last ∷ []))
      split [] before f low = inr (before, f)
      split (d ∷ []) [] f low = let g : ts ≡ last ∷ [] = cc in inl g
      split (d ∷ d' ∷ ds) [] f low =
          let same : d' ≡ last = cc in
          let place : d'.from ≡ last.from = ap (λ (t : Token). t.from) same in
          absurd (omega (arith, place, low.1.0))
      split (d ∷ ds) (x ∷ before) f low = let g : ds ++ ts ≡ before ++ mark ∷ last ∷ [] = cc in split ds before g low.1

  -- the last token, found from a place
  pub record EndLocated (at : ℕ) (done ts before : List Token) (mark last : Token) : Type 0 where
    pub front : List Token
    pub ts_are : ts ≡ front ++ last ∷ []
    pub before_is : before ++ mark ∷ [] ≡ done ++ front
    pub reached : Reached at (drop at text) front last []
    pub some : (c : Token) (rest : List Token) (m : ℕ) → ts ≡ c ∷ rest → c.kind ≡ Mark m → (f : Token) × (fs : List Token) × (front ≡ f ∷ fs)
    pub words : (words : List Word) → words_with text (record { from = last.from; to = last.from; words = words } ∷ []) ts
        ≡ map (word_in text) front ++ (words ++ map (word_in text) (last ∷ []))

  pub end_located : (at : ℕ) (done ts before : List Token) (mark last : Token) → StandsAt text at done ts → EndsIn before mark last → at ≤ last.from
      → EndLocated at done ts before mark last
  end_located at done ts before mark last here e behind =
      let (front, ts_are, r, some) = reached_end at done ts before mark last here e behind in
      let whole : tokens_of text ≡ (before ++ mark ∷ []) ++ last ∷ [] = e.is ∙ sym (append_assoc before (mark ∷ []) (last ∷ [])) in
      let a = stand_at text (before ++ mark ∷ []) last [] whole in
      let same : before ++ mark ∷ [] ≡ done ++ front
      = append_cancel_right (before ++ mark ∷ []) (done ++ front) (last ∷ [])
      (sym whole ∙ here.split ∙ ap (λ xs. done ++ xs) ts_are ∙ sym (append_assoc done front (last ∷ []))) in
      let fronts : Each (λ t. t.from < last.from) front
      = (each_front (λ t. t.from < last.from) done front (subst (Each (λ t. t.from < last.from)) same a.before)).1 in
      record {
        front = front;
        ts_are = ts_are;
        before_is = same;
        reached = r;
        some = some;
        words = λ words.
            ap (words_with text (record { from = last.from; to = last.from; words = words } ∷ [])) ts_are
            ∙ words_replaced text (record { from = last.from; to = last.from; words = words }) [] front [] (last ∷ []) fronts tt
            (let low : last.from ≤ last.from = omega arith in low, tt) (omega arith);
      }

  -- new instances before the last token
  pub chain_end : (at : ℕ) (done ts before : List Token) (mark last : Token) (new : List ℕ) (words : List Word) → StandsAt text at done ts
      → EndsIn before mark last → at ≤ last.from → IsPutBefore new words
      → Chained text at ts (record { from = last.from; to = last.from; text = new } ∷ []) (record { from = last.from; to = last.from; words = words } ∷ [])
  chain_end at done ts before mark last new words here e behind n =
      let l = end_located at done ts before mark last here e behind in
      let pre = take at text in
      let far : at ≡ length pre = sym (length_take at text here.rest.within) in
      let r = l.reached in
      let p = r.place in
      let s = name_begins last p.b p.bs e.named p.kind in
      let (y, ys, t, is) = n.begins p.b p.bs s in
      let us_are : part text at last.from ≡ p.us = front_is text at l.front last [] p in
      let rest_is : drop last.from text ≡ p.b ∷ p.bs = rest_from text at l.front last [] p here.rest.within in
      let old : words_from 0 (drop at text) ≡ map (word_in text) l.front ++ words_from 0 (p.b ∷ p.bs)
      = ap (words_from 0) p.is ∙ words_reached pre (drop at text) at l.front last [] r p.b p.bs far s
      ∙ ap (λ xs. map (word_in xs) l.front ++ words_from 0 (p.b ∷ p.bs)) (whole_at at) in
      let all : words_from 0 (drop at text) ≡ map (word_in text) ts
      = sym (words_are (drop at text) pre 0 at far) ∙ (λ i. map (word_in (whole_at at i)) (here.rest.tokens i)) in
      let last_word : words_from 0 (p.b ∷ p.bs) ≡ map (word_in text) (last ∷ [])
      = append_cancel_left (map (word_in text) l.front) (words_from 0 (p.b ∷ p.bs)) (map (word_in text) (last ∷ []))
      (sym old ∙ all ∙ ap (map (word_in text)) l.ts_are ∙ map-append (word_in text) l.front (last ∷ [])) in
      record {
        words =
            (λ i. words_from 0 (us_are i ++ (new ++ rest_is i)))
            ∙ ap (λ xs. words_from 0 (p.us ++ xs)) is
            ∙ words_reached pre (drop at text) at l.front last [] r y ys far t
            ∙ (λ i. map (word_in (whole_at at i)) l.front ++ words_from 0 (sym is i))
            ∙ ap (λ ws. map (word_in text) l.front ++ ws) (n.reads p.b p.bs s ∙ ap (λ ws. words ++ ws) last_word)
            ∙ sym (l.words words);
        shut = λ c rest m f k.
            let (x, xs, first) = l.some c rest m f k in
            shut_front text at x xs ts last [] (subst (λ zs. Found 0 at (drop at text) zs last []) first p) here.rest (new ++ drop last.from text) c rest m f k;
      }

  -- ---- the head

  pub stands_behind_mark : (front : List Token) (h : Token) (back : List Token) → tokens_of text ≡ front ++ h ∷ back → h.kind ≡ Mark 59
      → StandsAt text h.to (front ++ h ∷ []) back
  stands_behind_mark front h back e k =
      let a = stand_at text front h back e in
      let up = a.some in
      record {
        split = e ∙ sym (append_assoc front (h ∷ []) back);
        rest = behind_token text front h back e;
        low = each_append (λ t. t.from < h.to) front (h ∷ []) (each_up front h.from h.to (omega (arith, up)) a.before) (omega (arith, up), tt);
        shut = shut_append front h [] (λ f. let g : Mark 59 ≡ Mark 40 = sym k ∙ f in absurd (cc));
      }
    where
      each_up : (xs : List Token) (m n : ℕ) → m ≤ n → Each (λ t. t.from < m) xs → Each (λ t. t.from < n) xs
      each_up [] m n low h = tt
      each_up (x ∷ xs) m n low h = (omega (arith, low, h.0), each_up xs m n low h.1)

  -- the words behind the head
  pub head_words : (front : List Token) (h : Token) (back : List Token) (words : List Word) (changes : List WordEdit) → tokens_of text ≡ front ++ h ∷ back
      → h.kind ≡ Mark 59
      → words_with text (record { from = h.to; to = h.to; words = words } ∷ changes) (tokens_of text)
      ≡ map (word_in text) (front ++ h ∷ []) ++ (words ++ words_with text changes back)
  head_words front h back words changes e k =
      let a = stand_at text front h back e in
      ap (words_with text (record { from = h.to; to = h.to; words = words } ∷ changes)) (e ∙ sym (append_assoc front (h ∷ []) back))
      ∙ words_replaced text (record { from = h.to; to = h.to; words = words }) changes (front ++ h ∷ []) [] back
      ((stands_behind_mark front h back e k).low) tt a.behind (omega arith)

  -- new declarations behind the head
  pub chain_head : (front : List Token) (h : Token) (back : List Token) (new : List ℕ) (words : List Word) (edits : List Edit) (changes : List WordEdit)
      → tokens_of text ≡ front ++ h ∷ back → h.kind ≡ Mark 59 → IsRead new words → Chained text h.to back edits changes
      → words_of (patched text (record { from = h.to; to = h.to; text = new } ∷ edits))
      ≡ words_with text (record { from = h.to; to = h.to; words = words } ∷ changes) (tokens_of text)
  unfolding words_from
  chain_head front h back new words edits changes e k reads later =
      let d = directive_length text in
      let p = found text d 0 front h back e in
      let (byte, more, is_it) = first_byte p.b p.bs (Mark 59) (p.kind ∙ ap Some k) in
      let gone = patched_from h.to text edits in
      let rest = new ++ gone in
      let whole : text ≡ p.us ++ 59 ∷ p.bs = p.is ∙ ap (λ (b : ℕ). p.us ++ b ∷ p.bs) byte in
      let ends : left d p.us (59 ∷ p.bs) ≡ 0 = ap (λ (b : ℕ). left d p.us (b ∷ p.bs)) (sym byte) ∙ p.ends in
      let place : h.to - 0 ≡ length p.us + 1 = omega (arith, p.to, p.from, more) in
      let start : part text 0 h.to ≡ p.us ++ 59 ∷ []
      = (λ i. take (place i) (whole i)) ∙ ap (take (length p.us + 1)) (sym (append_assoc p.us (59 ∷ []) p.bs))
      ∙ ap (λ (n : ℕ). take n ((p.us ++ 59 ∷ []) ++ p.bs)) (let n : length p.us + 1 ≡ length (p.us ++ 59 ∷ []) = omega (arith, length-append p.us (59 ∷ [])) in n)
      ∙ take-append_seam (p.us ++ 59 ∷ []) p.bs in
      let made : patched text (record { from = h.to; to = h.to; text = new } ∷ edits) ≡ p.us ++ 59 ∷ rest
      = ap (λ xs. xs ++ rest) start ∙ append_assoc p.us (59 ∷ []) rest in
      let low : d ≤ length p.us = left_within p.us (59 ∷ p.bs) d ends in
      let bound : directive_length (p.us ++ 59 ∷ p.bs) ≤ length p.us = subst (λ xs. directive_length xs ≤ length p.us) whole low in
      let same : directive_length (p.us ++ 59 ∷ rest) ≡ d
      = directive_same p.us p.bs rest 59 59 refl refl refl refl refl bound ∙ ap directive_length (sym whole) in
      let fronts : words_in d p.us (59 ∷ p.bs) ≡ map (word_in text) front
      = ap (λ (b : ℕ). words_in d p.us (b ∷ p.bs)) (sym byte) ∙ sym (words_in_are p.us (p.b ∷ p.bs) [] d 0 refl)
      ∙ (λ i. map (word_in (sym p.is i)) (p.before i)) in
      let semicolon : words_from 0 (59 ∷ p.bs) ≡ record { kind = Semicolon; bytes = 59 ∷ [] } ∷ words_from 0 p.bs = refl in
      let old : words_of text ≡ map (word_in text) front ++ words_from 0 (59 ∷ p.bs)
      = words_of_are text ∙ ap (words_from d) whole
      ∙ holds_words d p.us (59 ∷ p.bs) (59 ∷ p.bs) (holds_before_stop 59 semicolon_stops p.us p.bs p.bs d ends) ∙ ap (λ ws. ws ++ words_from 0 (59 ∷ p.bs)) fronts in
      let one : word_in text h ∷ map (word_in text) back ≡ record { kind = Semicolon; bytes = 59 ∷ [] } ∷ words_from 0 p.bs
      = append_cancel_left (map (word_in text) front) (map (word_in text) (h ∷ back)) (words_from 0 (59 ∷ p.bs))
      (sym (map-append (word_in text) front (h ∷ back)) ∙ ap (map (word_in text)) (sym e) ∙ old) in
      let mark : record { kind = Semicolon; bytes = 59 ∷ [] } ≡ word_in text h = cc in
      words_of_are (patched text (record { from = h.to; to = h.to; text = new } ∷ edits))
      ∙ (λ i. words_from (directive_length (made i)) (made i))
      ∙ ap (λ (n : ℕ). words_from n (p.us ++ 59 ∷ rest)) same
      ∙ holds_words d p.us (59 ∷ p.bs) (59 ∷ rest) (holds_before_stop 59 semicolon_stops p.us p.bs rest d ends)
      ∙ (λ i. fronts i ++ mark i ∷ (reads gone ∙ ap (λ ws. words ++ ws) later.words) i)
      ∙ sym (append_assoc (map (word_in text) front) (word_in text h ∷ []) (words ++ words_with text changes back))
      ∙ ap (λ ws. ws ++ (words ++ words_with text changes back)) (sym (map-append (word_in text) front (h ∷ [])))
      ∙ sym (head_words front h back words changes e k)
