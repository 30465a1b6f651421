-- The words of a text in which names are replaced one after another.
use Rattle.std.proofs.Common.{◌≡◌, ℕ, ◌+◌, ◌<◌, ◌≤◌, Bool, true, false, List, [], ◌∷◌, ◌++◌, length, drop, Option, Some, None, refl, sym, ap, ◌∙◌, subst, arith, append_assoc}
use Rattle.std.specs.Prelude.{⊤}
use Rattle.std.specs.List.{prefix_len}
use Rattle.std.proofs.lemmas.Bool.Decides.{nat_tests}
use Rattle.vg_num.specs.Number.{is_digit}
use Rattle.vg_scan.specs.Lines.{is_blank}
use Rattle.vg_patch.specs.Edits.{Edit, patched_from}
use Rattle.ver_text.specs.declared.token.Token.{Token}
use Rattle.ver_text.specs.declared.token.TokenKind.{TokenKind}
use Rattle.ver_text.specs.declared.token.TokenKind.TheVariants.{Mark}
use Rattle.ver_text.specs.Bytes.{is_letter, is_mark, is_word_byte}
use Rattle.ver_text.specs.Laws.{StandBetween}
use Rattle.ver_text.specs.Tokens.{based_length, piece, token_of, tokens_from, tokens_of}
use Rattle.ver_text.specs.Written.{begins_with}
use Rattle.ver_text.proofs.OrderLemmas.{stand_in_order}
use Rattle.ver_patch_text_laws.specs.Words.{Word, WordEdit, words_with}
use Rattle.ver_patch_text_laws.proofs.OrderLemmas.{Each, IsAmong, IsBehind, among, behind_token, each_append}
use Rattle.ver_patch_text_laws.proofs.PlaceLemmas.{BeginsName, number_some}
use Rattle.ver_patch_text_laws.proofs.ReachLemmas.{IsName}
use Rattle.ver_patch_text_laws.proofs.ScanLemmas.{words_from}
use Rattle.ver_patch_text_laws.proofs.WordLemmas.{first_byte}

-- ---- no word before a mark

word_is_some : (u : ℕ) (us : List ℕ) → is_word_byte u ≡ true → (piece u us).kind ≡ None → ⊥
word_is_some u us e k = by_letter (is_letter u) refl
  where
    no_blank : is_blank u ≡ false
    no_blank = grind (arith, nat_tests)

    dollar : is_letter u ≡ false → is_digit u ≡ false → u ≡ 36
    dollar f g = grind (arith, nat_tests)

    by_digit : (b : Bool) → is_digit u ≡ b → is_letter u ≡ false → ⊥
    by_digit true g f = number_some (prefix_len is_digit us) (based_length (drop (prefix_len is_digit us) us)) (rw (no_blank, f, g) at k)
    by_digit false g f = let h : (piece 36 us).kind ≡ None = rw (dollar f g) at k in absurd (cc)

    by_letter : (b : Bool) → is_letter u ≡ b → ⊥
    by_letter true f = let h = rw (no_blank, f) at k in absurd (cc)
    by_letter false f = by_digit (is_digit u) refl f

no_word_mark : (u : ℕ) → is_mark u ≡ true → is_word_byte u ≡ false
no_word_mark u e = grind (arith, nat_tests)

pub no_word : (at u : ℕ) (us : List ℕ) (c : Token) (rest : List Token) (m : ℕ) → tokens_from 0 at (u ∷ us) ≡ c ∷ rest → c.kind ≡ Mark m → is_word_byte u ≡ false
unfolding tokens_from
no_word at u us c rest m e k = by_kind (piece u us).kind refl e
  where
    by_none : (b : Bool) → is_word_byte u ≡ b → (piece u us).kind ≡ None → is_word_byte u ≡ false
    by_none true f g = absurd (word_is_some u us f g)
    by_none false f g = f

    by_kind : (kind : Option TokenKind) → (piece u us).kind ≡ kind
        → token_of kind at (at + 1 + (piece u us).more) ++ tokens_from (piece u us).more (at + 1) us ≡ c ∷ rest → is_word_byte u ≡ false
    by_kind None g h = by_none (is_word_byte u) refl g
    by_kind (Some kind) g h =
        let same : kind ≡ c.kind = cc in
        no_word_mark u (first_byte u us (Mark m) (g ∙ ap Some (same ∙ k))).2

-- ---- places

-- the last of these tokens is no `(`
abbrev pub IsShut : List Token → Type 0
IsShut [] = ⊤
IsShut (t ∷ []) = t.kind ≡ Mark 40 → ⊥
IsShut (t ∷ u ∷ ts) = IsShut (u ∷ ts)

-- where a token and some behind it end
abbrev pub end_of : Token → List Token → ℕ
end_of t [] = t.to
end_of t (u ∷ us) = end_of u us

-- a name, perhaps with more tokens, stands between a `(` and a mark
pub record NameStands (text : List ℕ) (from to : ℕ) : Type 0 where
  pub before : List Token
  pub bracket : Token
  pub name : Token
  pub more : List Token
  pub close : Token
  pub after : List Token
  pub is : tokens_of text ≡ before ++ bracket ∷ name ∷ (more ++ close ∷ after)
  pub opens : bracket.kind ≡ Mark 40
  pub named : IsName name
  pub mark : ℕ
  pub closes : close.kind ≡ Mark mark
  pub shut : IsShut (name ∷ more)
  pub begins : from ≡ name.from
  pub ends : to ≡ end_of name more

-- a place of a text, behind these tokens, the last of which is no `(`, and before those
pub record StandsAt (text : List ℕ) (at : ℕ) (done ts : List Token) : Type 0 where
  pub split : tokens_of text ≡ done ++ ts
  pub rest : IsBehind text at ts
  pub low : Each (λ t. t.from < at) done
  pub shut : IsShut done

pub shut_append : (xs : List Token) (y : Token) (ys : List Token) → IsShut (y ∷ ys) → IsShut (xs ++ y ∷ ys)
shut_append [] y ys h = h
shut_append (x ∷ []) y ys h = h
shut_append (x ∷ z ∷ xs) y ys h = shut_append (z ∷ xs) y ys h

-- the last of some tokens
pub record HasLast (t : Token) (ts : List Token) : Type 0 where
  pub front : List Token
  pub last : Token
  pub is : t ∷ ts ≡ front ++ last ∷ []
  pub ends : last.to ≡ end_of t ts

pub has_last : (t : Token) (ts : List Token) → HasLast t ts
has_last t [] = record { front = []; last = t; is = refl; ends = refl }
has_last t (u ∷ us) = let h = has_last u us in record { front = t ∷ h.front; last = h.last; is = ap (λ xs. t ∷ xs) h.is; ends = h.ends }

pub each_front : (P : Token → Type 0) (xs ys : List Token) → Each P (xs ++ ys) → Each P xs × Each P ys
each_front P [] ys h = (tt, h)
each_front P (x ∷ xs) ys h = let (f, g) = each_front P xs ys h.1 in ((h.0, f), g)

-- a new name is read as these words, where no word follows
pub record IsNewName (new : List ℕ) (words : List Word) : Type 0 where
  pub first : ℕ
  pub more : List ℕ
  pub is : new ≡ first ∷ more
  pub begins : BeginsName first
  pub reads : (rest : List ℕ) → begins_with is_word_byte rest ≡ false → words_from 0 (new ++ rest) ≡ words ++ words_from 0 rest

module _ (text : List ℕ) where
  pub stand_at : (front : List Token) (t : Token) (back : List Token) → tokens_of text ≡ front ++ t ∷ back → IsAmong front t back 0 (length text)
  stand_at front t back e = among front t back 0 (length text) (subst (StandBetween 0 (length text)) e (stand_in_order text))

  -- a name behind a place: its bracket stands there too
  pub locate : (at : ℕ) (done ts before : List Token) (o n : Token) (rest : List Token) → done ++ ts ≡ before ++ o ∷ n ∷ rest → Each (λ t. t.from < at) done
      → IsShut done → o.kind ≡ Mark 40 → at ≤ n.from → (front : List Token) × (ts ≡ front ++ o ∷ n ∷ rest) × (before ≡ done ++ front)
  locate at [] ts before o n rest e low shut opens behind = (before, e, refl)
  locate at (d ∷ []) ts [] o n rest e low shut opens behind = let same : d ≡ o = cc in absurd (shut (ap (λ (t : Token). t.kind) same ∙ opens))
  locate at (d ∷ d' ∷ ds) ts [] o n rest e low shut opens behind =
      let same : d' ≡ n = cc in
      let place : d'.from ≡ n.from = ap (λ (t : Token). t.from) same in
      absurd (omega (arith, place, low.1.0))
  locate at (d ∷ []) ts (x ∷ before) o n rest e low shut opens behind =
      let same : d ≡ x = cc in
      let more : ts ≡ before ++ o ∷ n ∷ rest = cc in
      (before, more, λ i. sym same i ∷ before)
  locate at (d ∷ d' ∷ ds) ts (x ∷ before) o n rest e low shut opens behind =
      let same : d ≡ x = cc in
      let more : (d' ∷ ds) ++ ts ≡ before ++ o ∷ n ∷ rest = cc in
      let (front, f, g) = locate at (d' ∷ ds) ts before o n rest more low.1 shut opens behind in
      (front, f, λ i. sym same i ∷ g i)

  -- the place behind a name
  pub stands_behind : (from to : ℕ) (s : NameStands text from to) → StandsAt text to (s.before ++ s.bracket ∷ (s.name ∷ s.more)) (s.close ∷ s.after)
  stands_behind from to s =
      let l = has_last s.name s.more in
      let at : l.last.to ≡ to = l.ends ∙ sym s.ends in
      let front = s.before ++ s.bracket ∷ l.front in
      let parts : s.before ++ s.bracket ∷ (s.name ∷ s.more) ≡ front ++ l.last ∷ []
      = ap (λ xs. s.before ++ s.bracket ∷ xs) l.is ∙ sym (append_assoc s.before (s.bracket ∷ l.front) (l.last ∷ [])) in
      let split : tokens_of text ≡ (s.before ++ s.bracket ∷ (s.name ∷ s.more)) ++ s.close ∷ s.after
      = s.is ∙ sym (append_assoc s.before (s.bracket ∷ s.name ∷ s.more) (s.close ∷ s.after)) in
      let whole : tokens_of text ≡ front ++ l.last ∷ (s.close ∷ s.after)
      = split ∙ ap (λ xs. xs ++ s.close ∷ s.after) parts ∙ append_assoc front (l.last ∷ []) (s.close ∷ s.after) in
      let a = stand_at front l.last (s.close ∷ s.after) whole in
      let up = a.some in
      record {
        split = split;
        rest = subst (λ n. IsBehind text n (s.close ∷ s.after)) at (behind_token text front l.last (s.close ∷ s.after) whole);
        low =
            subst (Each (λ t. t.from < to)) (sym parts)
            (each_append (λ t. t.from < to) front (l.last ∷ [])
            (each_below front l.last.from to (omega (arith, at, up)) a.before)
            (omega (arith, at, up), tt));
        shut = shut_append s.before s.bracket (s.name ∷ s.more) s.shut;
      }
    where
      each_below : (xs : List Token) (m n : ℕ) → m ≤ n → Each (λ t. t.from < m) xs → Each (λ t. t.from < n) xs
      each_below [] m n low h = tt
      each_below (x ∷ xs) m n low h = (omega (arith, low, h.0), each_below xs m n low h.1)

  -- ---- the words behind a place

  -- a text with these edits from a place on has these words
  pub record Chained (at : ℕ) (ts : List Token) (edits : List Edit) (changes : List WordEdit) : Type 0 where
    pub words : words_from 0 (patched_from at text edits) ≡ words_with text changes ts
    pub shut : (c : Token) (rest : List Token) (m : ℕ) → ts ≡ c ∷ rest → c.kind ≡ Mark m → begins_with is_word_byte (patched_from at text edits) ≡ false
