-- Where the tokens of a text are a library, its statements are a library's.
use Rattle.std.proofs.Common.{◌≡◌, ℕ, suc, ◌≤◌, ◌||◌, Bool, true, false, List, [], ◌∷◌, refl, ap, ◌∙◌, subst}
use Rattle.vg_scan.specs.Lines.{part}
use Rattle.lib_text.specs.declared.kind.Kind.{Kind}
use Rattle.lib_text.specs.declared.kind.Kind.TheVariants.{Library, Cell, Pin, Word, Colon, Value, Open, Single, Several, Other, Close, Begin, End, Semicolon}
use Rattle.lib_text.specs.declared.statement.Form.TheVariants.{Group as OfGroup}
use Rattle.lib_text.specs.declared.token.Token.{Token}
use Rattle.lib_text.specs.declared.token.TokenKind.TheVariants.{Word as AWord, Value as AValue, List as AList, Mark}
use Rattle.lib_text.specs.Arguments.{are_names}
use Rattle.lib_text.specs.Grammar.{Name, is_cell, is_no_cell, is_pin, is_no_pin, is_word, is_names, is_single, is_list, is_end, is_semicolon}
use Rattle.lib_text.specs.Grammar.Name.{in_library, in_cell, inside}
use Rattle.lib_text.specs.Kinds.{list_kind, kinds_of}
use Rattle.lib_text.specs.Statements.{is_byte, statement, statements_from, statements_of}
use Rattle.lib_text.specs.Syntax.{IsLibrary}
use Rattle.lib_text.specs.Tokens.{token, tokens_of}
use Rattle.lib_laws.proofs.BodySteps.{wants_names, in_cell_after, name_kind, Inside, after_group, IsWhole}
use Rattle.lib_laws.proofs.BodySteps.Inside.{ends, adds, opens, closes}
use Rattle.lib_laws.proofs.FirstLemmas.{word_first, list_first, value_first, colon_first, open_first, close_first, begin_first, end_first, semicolon_first}
use Rattle.lib_laws.proofs.ItemLemmas.{IsGroupIn, Items, library_items}
use Rattle.lib_laws.proofs.ItemLemmas.IsGroupIn.{a_cell, no_cell, a_pin, no_pin, deeper}
use Rattle.lib_laws.proofs.ItemLemmas.Items.{no_item, semicolon, simple, complex, group_of}
use Rattle.lib_laws.proofs.TokenForms.{AreTokens, are_tokens}
use Rattle.lib_laws.proofs.TokenForms.AreTokens.{no_token, a_word, a_begin, a_stray}

-- ---- the name and the arguments of a group

cell_word : (k : Kind) → is_cell k ≡ true → is_word k ≡ true
cell_word Cell e = refl
cell_word _ e = absurd (cc)

pin_word : (k : Kind) → is_pin k ≡ true → is_word k ≡ true
pin_word Pin e = refl
pin_word _ e = absurd (cc)

no_cell_word : (k : Kind) → is_no_cell k ≡ true → (is_word k ≡ true) × (is_cell k ≡ false)
no_cell_word Library e = (refl, refl)
no_cell_word Pin e = (refl, refl)
no_cell_word Word e = (refl, refl)
no_cell_word _ e = absurd (cc)

no_pin_word : (k : Kind) → is_no_pin k ≡ true → (is_word k ≡ true) × (is_pin k ≡ false)
no_pin_word Library e = (refl, refl)
no_pin_word Cell e = (refl, refl)
no_pin_word Word e = (refl, refl)
no_pin_word _ e = absurd (cc)

single_names : (l : Kind) → is_single l ≡ true → is_names l ≡ true
single_names Single e = refl
single_names _ e = absurd (cc)

names_list : (l : Kind) → is_names l ≡ true → is_list l ≡ true
names_list Single e = refl
names_list Several e = refl
names_list _ e = absurd (cc)

group_word : {n inner : Name} {k l : Kind} → IsGroupIn n k l inner → is_word k ≡ true
group_word {k} (a_cell e f) = cell_word k e
group_word {k} (no_cell e f) = (no_cell_word k e).0
group_word {k} (a_pin e f) = pin_word k e
group_word {k} (no_pin e f) = (no_pin_word k e).0
group_word (deeper e f) = e

group_list : {n inner : Name} {k l : Kind} → IsGroupIn n k l inner → is_list l ≡ true
group_list {l} (a_cell e f) = names_list l (single_names l f)
group_list (no_cell e f) = f
group_list {l} (a_pin e f) = names_list l f
group_list (no_pin e f) = f
group_list (deeper e f) = f

-- ---- what may come after a statement: no `{`

abbrev may_follow : List Kind → Bool
may_follow [] = true
may_follow (k ∷ ks) = is_word k || (is_semicolon k || is_end k)

begins : {n : Name} {ks rest : List Kind} → Items n ks rest → may_follow rest ≡ true → may_follow ks ≡ true
begins no_item e = e
begins (semicolon h) e = refl
begins (simple w h) e = rw w refl
begins (complex w l h) e = rw w refl
begins (group_of may h i) e = rw (group_word may) refl

-- a `{` comes first
abbrev begins_group : List Token → Bool
begins_group [] = false
begins_group (t ∷ ts) = is_byte 123 t.kind

no_group : {text : List ℕ} {low : ℕ} {ts : List Token} {ks : List Kind} → AreTokens text low ts ks → may_follow ks ≡ true → begins_group ts ≡ false
no_group no_token e = refl
no_group (a_begin h) e = absurd (cc)
no_group (a_stray) e = absurd (cc)
no_group (a_word l w f h) e = refl
no_group _ e = refl

-- ---- where statements stand

-- such statements stand in a group with these around it, where the second group is a cell or not
data IsPlace : Name → List ℕ → Bool → Type 0 where
  of_library : {cell : Bool} → IsPlace in_library [] cell
  of_cell : {g : ℕ} → IsPlace in_cell (g ∷ []) true
  of_other : {depth g : ℕ} → IsPlace (inside depth) (g ∷ []) false
  of_deeper : {depth p q : ℕ} {gs : List ℕ} {cell : Bool} → IsPlace (inside depth) (p ∷ q ∷ gs) cell

inner_place : {n inner : Name} {k l : Kind} {gs : List ℕ} {cell : Bool} (g : ℕ)
    → IsGroupIn n k l inner → IsPlace n gs cell → IsPlace inner (g ∷ gs) (in_cell_after gs cell k)
inner_place g (a_cell e l) of_library = rw e of_cell
inner_place {k} g (no_cell e l) of_library = let f : is_cell k ≡ false = (no_cell_word k e).1 in rw f of_other
inner_place g (a_pin e l) of_cell = of_deeper
inner_place g (no_pin e l) of_cell = of_deeper
inner_place g (deeper e l) of_other = of_deeper
inner_place g (deeper e l) of_deeper = of_deeper

names_wanted : {n inner : Name} {k l : Kind} {gs : List ℕ} {cell : Bool}
    → IsGroupIn n k l inner → IsPlace n gs cell → wants_names gs cell k ≡ true → is_names l ≡ true
names_wanted {l} (a_cell e f) of_library w = single_names l f
names_wanted {k} (no_cell e f) of_library w = let g = (no_cell_word k e).1 in absurd (cc)
names_wanted (a_pin e f) of_cell w = f
names_wanted {k} (no_pin e f) of_cell w = let g = (no_pin_word k e).1 in absurd (cc)
names_wanted (deeper e f) of_other w = absurd (cc)
names_wanted (deeper e f) of_deeper w = absurd (cc)

have_names : (list : List ℕ) → is_names (list_kind list) ≡ true → are_names list ≡ true
unfolding list_kind
have_names list e = by_tests (are_names list) refl e
  where
    by_tests : (x : Bool) → are_names list ≡ x → is_names (list_kind list) ≡ true → are_names list ≡ true
    by_tests true f e = f
    by_tests false f e = let g : is_names Other ≡ true = rw f at e in absurd (cc)

-- ---- the statements of tokens

module _ (text : List ℕ) where
  -- tokens of these kinds, whichever name was read last
  abbrev From : List ℕ → Bool → List Kind → Type 0
  From groups cell ks = (low name : ℕ) (ts : List Token) → AreTokens text low ts ks → Inside text groups cell low (statements_from groups name ts)

  by_semicolon : {groups : List ℕ} {cell : Bool} {ks : List Kind} → From groups cell ks → From groups cell (Semicolon ∷ ks)
  unfolding statements_from
  by_semicolon k low name ts h = let m = semicolon_first h in rw m.cut (k low name m.rest m.more)

  by_end : {g : ℕ} {gs : List ℕ} {cell : Bool} {ks : List Kind} → From gs cell ks → From (g ∷ gs) cell (End ∷ ks)
  unfolding statements_from
  by_end k low name ts h = let m = end_first h in rw m.cut (closes (k low name m.rest m.more))

  simple_here : {g : ℕ} {gs : List ℕ} {cell : Bool} {low : ℕ} (name at to from' to' from'' to'' : ℕ) (rest : List Token)
      → low ≤ at → Inside text (g ∷ gs) cell (suc at) (statements_from (g ∷ gs) at rest)
      → Inside text (g ∷ gs) cell low (statements_from (g ∷ gs) name (token AWord at to ∷ token (Mark 58) from' to' ∷ token AValue from'' to'' ∷ rest))
  unfolding statements_from
  simple_here name at to from' to' from'' to'' rest l h = adds refl refl l h

  by_simple : {g : ℕ} {gs : List ℕ} {cell : Bool} {k : Kind} {ks : List Kind}
      → is_word k ≡ true → From (g ∷ gs) cell ks → From (g ∷ gs) cell (k ∷ Colon ∷ Value ∷ ks)
  by_simple w k low name ts h =
      let a = word_first w h in
      let b = colon_first a.more in
      let c = value_first b.more in
      rw (a.cut, b.cut, c.cut) (simple_here name a.from a.to b.from b.to c.from c.to c.rest a.within (k (suc a.from) a.from c.rest c.more))

  complex_here : {g : ℕ} {gs : List ℕ} {cell : Bool} {low : ℕ} (name at to left left' from to' right right' : ℕ) (rest : List Token)
      → low ≤ at → begins_group rest ≡ false → Inside text (g ∷ gs) cell (suc at) (statements_from (g ∷ gs) at rest)
      → Inside text (g ∷ gs) cell low (statements_from (g ∷ gs) name
      (token AWord at to ∷ token (Mark 40) left left' ∷ token AList from to' ∷ token (Mark 41) right right' ∷ rest))
  unfolding statements_from
  complex_here name at to left left' from to' right right' [] l e h = adds refl refl l h
  complex_here name at to left left' from to' right right' (t ∷ ts) l e h = rw e (adds refl refl l h)

  by_complex : {g : ℕ} {gs : List ℕ} {cell : Bool} {k l : Kind} {ks : List Kind}
      → is_word k ≡ true → is_list l ≡ true → may_follow ks ≡ true → From (g ∷ gs) cell ks
      → From (g ∷ gs) cell (k ∷ Open ∷ l ∷ Close ∷ ks)
  by_complex w m f k low name ts h =
      let a = word_first w h in
      let b = open_first a.more in
      let c = list_first m b.more in
      let d = close_first c.more in
      rw (a.cut, b.cut, c.cut, d.cut)
      (complex_here name a.from a.to b.from b.to c.from c.to d.from d.to d.rest a.within (no_group d.more f) (k (suc a.from) a.from d.rest d.more))

  group_here : {g : ℕ} {gs : List ℕ} {cell : Bool} {k : Kind} {low : ℕ} (name at to left left' from to' right right' brace brace' : ℕ) (rest : List Token)
      → low ≤ at → name_kind text at ≡ k → (wants_names gs cell k ≡ true → are_names (part text from to') ≡ true)
      → Inside text (at ∷ g ∷ gs) (in_cell_after gs cell k) (suc at) (statements_from (at ∷ g ∷ gs) at rest)
      → Inside text (g ∷ gs) cell low (statements_from (g ∷ gs) name
      (token AWord at to ∷ token (Mark 40) left left' ∷ token AList from to' ∷ token (Mark 41) right right' ∷ token (Mark 123) brace brace' ∷ rest))
  unfolding statements_from
  group_here name at to left left' from to' right right' brace brace' rest l e n h = opens refl l (rw (← e) at n) (rw (← e) at h)

  by_group : {g : ℕ} {gs : List ℕ} {cell : Bool} {k l : Kind} {us : List Kind}
      → is_word k ≡ true → is_list l ≡ true → (wants_names gs cell k ≡ true → is_names l ≡ true)
      → ((name : ℕ) → From (name ∷ g ∷ gs) (in_cell_after gs cell k) us)
      → From (g ∷ gs) cell (k ∷ Open ∷ l ∷ Close ∷ Begin ∷ us)
  by_group w m n k low name ts h =
      let a = word_first w h in
      let b = open_first a.more in
      let c = list_first m b.more in
      let d = close_first c.more in
      let e = begin_first d.more in
      rw (a.cut, b.cut, c.cut, d.cut, e.cut)
      (group_here name a.from a.to b.from b.to c.from c.to d.from d.to e.from e.to e.rest a.within a.kind
      (λ x. have_names (part text c.from c.to) (ap is_names c.kind ∙ n x)) (k a.from (suc a.from) a.from e.rest e.more))

  by_items : {n : Name} {ks rest : List Kind} → Items n ks rest → may_follow rest ≡ true → (g : ℕ) (gs : List ℕ) (cell : Bool)
      → IsPlace n gs cell → From (g ∷ gs) cell rest → From (g ∷ gs) cell ks
  by_items no_item f g gs cell p then = then
  by_items (semicolon i) f g gs cell p then = by_semicolon (by_items i f g gs cell p then)
  by_items (simple w i) f g gs cell p then = by_simple w (by_items i f g gs cell p then)
  by_items (complex w l i) f g gs cell p then = by_complex w l (begins i f) (by_items i f g gs cell p then)
  by_items (group_of {k} may i j) f g gs cell p then =
      by_group (group_word may) (group_list may) (names_wanted may p)
      (λ name. by_items i refl name (g ∷ gs) (in_cell_after gs cell k) (inner_place g may p)
      (by_end (λ low last ts h. after_group gs cell k (by_items j f g gs cell p then low last ts h))))

  library_here : (name at to left left' from to' right right' brace brace' : ℕ) (rest : List Token)
      → Inside text (at ∷ []) false (suc at) (statements_from (at ∷ []) at rest)
      → IsWhole text (statements_from [] name
      (token AWord at to ∷ token (Mark 40) left left' ∷ token AList from to' ∷ token (Mark 41) right right' ∷ token (Mark 123) brace brace' ∷ rest))
  unfolding statements_from
  library_here name at to left left' from to' right right' brace brace' rest h = record {
    head = statement 0 OfGroup at (token AList from to');
    body = statements_from (at ∷ []) at rest;
    cut = refl;
    inside = h;
  }

  nothing_after : From [] false []
  unfolding statements_from
  nothing_after low name ts no_token = ends

  pub read : IsLibrary text → IsWhole text (statements_of text)
  read is =
      let x = library_items (kinds_of text) is in
      let h : AreTokens text 0 (tokens_of text) (x.name ∷ Open ∷ x.list ∷ Close ∷ Begin ∷ x.us) = subst (AreTokens text 0 (tokens_of text)) x.cut (are_tokens text) in
      let a = word_first x.is_name h in
      let b = open_first a.more in
      let c = list_first x.is_arguments b.more in
      let d = close_first c.more in
      let e = begin_first d.more in
      rw (a.cut, b.cut, c.cut, d.cut, e.cut)
      (library_here 0 a.from a.to b.from b.to c.from c.to d.from d.to e.from e.to e.rest
      (by_items x.items refl a.from [] false of_library (by_end nothing_after) (suc a.from) a.from e.rest e.more))
