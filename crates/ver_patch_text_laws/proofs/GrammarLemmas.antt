-- The text of a changed netlist is a module.
use Rattle.std.proofs.lemmas.List.{map-append}
use Rattle.std.proofs.Common.{◌≡◌, ℕ, ◌≤◌, ◌^◌, ◌==◌, Bool, true, false, List, [], ◌∷◌, ◌++◌, map, Option, Some, None, refl, sym, ap, ◌∙◌, subst, arith, append_assoc, ◌⊎◌, inl, inr}
use Rattle.std.specs.Prelude.{IfSome, codes, find, nat_lt}
use Rattle.std.specs.Fmt.{decimal}
use Rattle.std.specs.List.{flat_map}
use Rattle.std.proofs.lemmas.Bool.Decides.{nat_tests}
use Rattle.grammar_laws.specs.Machines.{run}
use Rattle.vg_num.proofs.ReadingLemmas.{decimal_writes}
use Rattle.ver_text.specs.declared.kind.Kind.{Kind}
use Rattle.ver_text.specs.declared.kind.Kind.TheVariants.{Identifier, Zero, Small, Limit, Open, Close, OpenSquare, CloseSquare, Comma, Semicolon, Dot, EndModule}
use Rattle.ver_text.specs.declared.token.Token.{Token}
use Rattle.ver_text.specs.declared.token.TokenKind.TheVariants.{Mark}
use Rattle.ver_text.specs.Kinds.{digits_kind, kind_in, number_kind}
use Rattle.ver_syntax.specs.declared.state.At.TheVariants.{Instance as AtInstance, Item as AtItem}
use Rattle.ver_syntax.specs.declared.state.Instance.TheVariants.{Connection, PinEnd}
use Rattle.ver_syntax.specs.declared.state.Item.TheVariants.{Start as ItemStart}
use Rattle.ver_syntax.specs.Moves.{State, next}
use Rattle.ver_syntax.specs.Syntax.{is_bad}
use Rattle.ver_syntax.proofs.FaultLemmas.{no_stray}
use Rattle.ver_syntax.proofs.ReadLemmas.{stray}
use Rattle.ver_syntax.proofs.PlaceLemmas.{start, stopped}
use Rattle.ver_module.specs.Netlists.{Net}
use Rattle.ver_patch.specs.NewCells.{NewCell}
use Rattle.ver_patch_text_laws.specs.NewWords.{cell_words, net_words, pin_words, select_words, wire_words, word}
use Rattle.ver_patch_text_laws.specs.Texts.{IsNetText, IsNewCell}
use Rattle.ver_patch_text_laws.specs.Words.{Word, WordEdit, word_in, words_of, words_with}
use Rattle.ver_patch_text_laws.proofs.ChainLemmas.{NameStands, StandsAt}
use Rattle.ver_patch_text_laws.proofs.PatchLemmas.{EndsIn, end_located, located}
use Rattle.ver_patch_text_laws.proofs.RunLemmas.{is_over}
use Rattle.ver_patch_text_laws.proofs.StateLemmas.{run_append, state}
use Rattle.ver_patch_text_laws.proofs.TextLemmas.{Each, net_named}

-- the kinds of some words
abbrev pub word_kinds : List Word → List Kind
word_kinds ws = map (λ w. w.kind) ws

pub kinds_are : (text : List ℕ) (ts : List Token) → word_kinds (map (word_in text) ts) ≡ map (kind_in text) ts
kinds_are text [] = refl
kinds_are text (t ∷ ts) = ap (λ ks. kind_in text t ∷ ks) (kinds_are text ts)

abbrev pub in_connection : State
in_connection = state (AtInstance Connection)

abbrev pub at_pin_end : State
at_pin_end = state (AtInstance PinEnd)

abbrev pub at_item : State
at_item = state (AtItem ItemStart)

-- ---- nets

number_kinds : (n : ℕ) → n ≤ 2 ^ 20 → (number_kind n ≡ Zero) ⊎ ((number_kind n ≡ Small) ⊎ (number_kind n ≡ Limit))
number_kinds n few = by_zero (n == 0) refl
  where
    by_limit : (b : Bool) → nat_lt n (2 ^ 20) ≡ b → (n == 0) ≡ false → (number_kind n ≡ Zero) ⊎ ((number_kind n ≡ Small) ⊎ (number_kind n ≡ Limit))
    by_limit true e f = inr (inl (rw (f, e) refl))
    by_limit false e f = let g : (n == 2 ^ 20) ≡ true = grind (arith, nat_tests) in inr (inr (rw (f, e, g) refl))

    by_zero : (b : Bool) → (n == 0) ≡ b → (number_kind n ≡ Zero) ⊎ ((number_kind n ≡ Small) ⊎ (number_kind n ≡ Limit))
    by_zero true e = inl (rw e refl)
    by_zero false e = by_limit (nat_lt n (2 ^ 20)) refl e

bit_kind : (bit : ℕ) → bit ≤ 2 ^ 20 → digits_kind (decimal bit) ≡ number_kind bit
unfolding digits_kind
bit_kind bit few = ap number_kind (decimal_writes bit (omega (arith, few))).value

-- the machine goes over a net in a connection
net_runs : (net : Net) → IfSome net.bit (λ bit. bit ≤ 2 ^ 20) → (ks : List Kind)
    → run next (Some in_connection) (word_kinds (net_words net) ++ Close ∷ ks) ≡ run next (Some at_pin_end) ks
net_runs net few ks = by_bit net.bit few
  where
    over : (k : Kind) → (k ≡ Zero) ⊎ ((k ≡ Small) ⊎ (k ≡ Limit))
        → run next (Some in_connection) (Identifier ∷ OpenSquare ∷ k ∷ CloseSquare ∷ Close ∷ ks) ≡ run next (Some at_pin_end) ks
    over k (inl e) = rw e refl
    over k (inr (inl e)) = rw e refl
    over k (inr (inr e)) = rw e refl

    by_bit : (bit : Option ℕ) → IfSome bit (λ b. b ≤ 2 ^ 20)
        → run next (Some in_connection) (Identifier ∷ word_kinds (select_words bit) ++ Close ∷ ks) ≡ run next (Some at_pin_end) ks
    by_bit None f = refl
    by_bit (Some bit) f = over (digits_kind (decimal bit)) (subst (λ k. (k ≡ Zero) ⊎ ((k ≡ Small) ⊎ (k ≡ Limit))) (sym (bit_kind bit f)) (number_kinds bit f))

pub text_runs : (text : List ℕ) → IsNetText text → (ks : List Kind)
    → run next (Some in_connection) (word_kinds (words_of text) ++ Close ∷ ks) ≡ run next (Some at_pin_end) ks
text_runs text t ks = ap (λ ws. run next (Some in_connection) (word_kinds ws ++ Close ∷ ks)) (net_named text t) ∙ net_runs t.net t.few ks

-- ---- items

pub wires_run : (names : List (List ℕ)) (ks : List Kind) → run next (Some at_item) (word_kinds (flat_map wire_words names) ++ ks) ≡ run next (Some at_item) ks
wires_run [] ks = refl
wires_run (name ∷ names) ks = wires_run names ks

pin_kinds : (pin : List ℕ) (net : List Word) → word_kinds (pin_words pin net) ≡ Dot ∷ Identifier ∷ Open ∷ (word_kinds net ++ Close ∷ [])
pin_kinds pin net = ap (λ ks. Dot ∷ Identifier ∷ Open ∷ ks) (map-append (λ (w : Word). w.kind) net (word Close (codes ")") ∷ []))

cell_kinds : (c : NewCell) → word_kinds (cell_words c)
    ≡ Identifier ∷ Identifier ∷ Open ∷ ((Dot ∷ Identifier ∷ Open ∷ (word_kinds (words_of c.from) ++ Close ∷ []))
    ++ Comma ∷ ((Dot ∷ Identifier ∷ Open ∷ (word_kinds (words_of c.to) ++ Close ∷ [])) ++ Close ∷ Semicolon ∷ []))
cell_kinds c =
    ap (λ ks. Identifier ∷ Identifier ∷ Open ∷ ks)
    (map-append (λ (w : Word). w.kind) (pin_words c.input (words_of c.from))
    (word Comma (codes ",") ∷ (pin_words c.output (words_of c.to) ++ word Close (codes ")") ∷ word Semicolon (codes ";") ∷ []))
    ∙ (λ i. pin_kinds c.input (words_of c.from) i ++ Comma ∷ (map-append (λ (w : Word). w.kind) (pin_words c.output (words_of c.to))
    (word Close (codes ")") ∷ word Semicolon (codes ";") ∷ [])
    ∙ ap (λ ks. ks ++ Close ∷ Semicolon ∷ []) (pin_kinds c.output (words_of c.to))) i))

cell_runs : (c : NewCell) → IsNewCell c → (ks : List Kind) → run next (Some at_item) (word_kinds (cell_words c) ++ ks) ≡ run next (Some at_item) ks
cell_runs c h ks =
    let one = word_kinds (words_of c.from) in
    let two = word_kinds (words_of c.to) in
    ap (λ js. run next (Some at_item) (js ++ ks)) (cell_kinds c)
    ∙ ap (λ js. run next (Some at_item) (Identifier ∷ Identifier ∷ Open ∷ Dot ∷ Identifier ∷ Open ∷ js)) (regroup one two ks)
    ∙ text_runs c.from h.from (Comma ∷ Dot ∷ Identifier ∷ Open ∷ (two ++ Close ∷ Close ∷ Semicolon ∷ ks))
    ∙ text_runs c.to h.to (Close ∷ Semicolon ∷ ks)
  where
    regroup : (one two ks : List Kind) → ((one ++ Close ∷ []) ++ Comma ∷ ((Dot ∷ Identifier ∷ Open ∷ (two ++ Close ∷ [])) ++ Close ∷ Semicolon ∷ [])) ++ ks
        ≡ one ++ Close ∷ Comma ∷ Dot ∷ Identifier ∷ Open ∷ (two ++ Close ∷ Close ∷ Semicolon ∷ ks)
    regroup one two ks = simp append_assoc

cells_run : (cells : List NewCell) → Each IsNewCell cells → (ks : List Kind)
    → run next (Some at_item) (word_kinds (flat_map cell_words cells) ++ ks) ≡ run next (Some at_item) ks
cells_run [] h ks = refl
cells_run (c ∷ cells) h ks =
    ap (λ js. run next (Some at_item) (js ++ ks)) (map-append (λ (w : Word). w.kind) (cell_words c) (flat_map cell_words cells))
    ∙ ap (run next (Some at_item)) (append_assoc (word_kinds (cell_words c)) (word_kinds (flat_map cell_words cells)) ks)
    ∙ cell_runs c h.0 (word_kinds (flat_map cell_words cells) ++ ks)
    ∙ cells_run cells h.1 ks

-- ---- one change after another

-- from a state the machine comes to the end over the changed words of these tokens, the first of which stays
pub record Goes (text : List ℕ) (ts : List Token) (changes : List WordEdit) (s : State) : Type 0 where
  pub over : is_over (run next (Some s) (word_kinds (words_with text changes ts))) ≡ true
  pub head : (c : Token) (rest : List Token) (m : ℕ) → ts ≡ c ∷ rest → c.kind ≡ Mark m → (ws : List Word) × (words_with text changes ts ≡ word_in text c ∷ ws)

-- the machine over some tokens, from where it is behind those before them
on : (text : List ℕ) (done front : List Token) (s t : State) → run next (Some start) (map (kind_in text) done) ≡ Some s
    → run next (Some start) (map (kind_in text) (done ++ front)) ≡ Some t → run next (Some s) (map (kind_in text) front) ≡ Some t
on text done front s t e f =
    ap (λ o. run next o (map (kind_in text) front)) (sym e)
    ∙ sym (run_append (Some start) (map (kind_in text) done) (map (kind_in text) front))
    ∙ ap (run next (Some start)) (sym (map-append (kind_in text) done front)) ∙ f

-- it goes over kept words and then over others
pub over_kept : (text : List ℕ) (front : List Token) (ws : List Word) (s t : State) → run next (Some s) (map (kind_in text) front) ≡ Some t
    → run next (Some s) (word_kinds (map (word_in text) front ++ ws)) ≡ run next (Some t) (word_kinds ws)
over_kept text front ws s t e =
    ap (run next (Some s)) (map-append (λ (w : Word). w.kind) (map (word_in text) front) ws)
    ∙ run_append (Some s) (word_kinds (map (word_in text) front)) (word_kinds ws)
    ∙ ap (λ ks. run next (run next (Some s) ks) (word_kinds ws)) (kinds_are text front)
    ∙ ap (λ o. run next o (word_kinds ws)) e

first_kept : (text : List ℕ) (front : List Token) (m : Token) (ws : List Word) (ts back : List Token) → ts ≡ (front ++ m ∷ []) ++ back
    → (c : Token) (rest : List Token)
    → ts ≡ c ∷ rest → (vs : List Word) × (map (word_in text) (front ++ m ∷ []) ++ ws ≡ word_in text c ∷ vs)
first_kept text [] m ws ts back e c rest f = let same : m ≡ c = cc in (ws, ap (λ t. word_in text t ∷ ws) same)
first_kept text (x ∷ front) m ws ts back e c rest f =
    let same : x ≡ c = cc in (map (word_in text) (front ++ m ∷ []) ++ ws, ap (λ t. word_in text t ∷ (map (word_in text) (front ++ m ∷ []) ++ ws)) same)

module _ (text : List ℕ) where
  pub goes_end : (at : ℕ) (done ts before : List Token) (mark last : Token) (cells : List NewCell) (s : State) → StandsAt text at done ts
      → EndsIn text before mark last
      → at ≤ last.from → Each IsNewCell cells → kind_in text last ≡ EndModule
      → run next (Some start) (map (kind_in text) (before ++ mark ∷ [])) ≡ Some at_item → run next (Some start) (map (kind_in text) done) ≡ Some s
      → Goes text ts (record { from = last.from; to = last.from; words = flat_map cell_words cells } ∷ []) s
  goes_end at done ts before mark last cells s here e behind made kind comes there =
      let l = end_located text at done ts before mark last here e behind in
      let ws = flat_map cell_words cells in
      let reach = on text done l.front s at_item there (ap (λ xs. run next (Some start) (map (kind_in text) xs)) (sym l.before_is) ∙ comes) in
      record {
        over =
            ap is_over
            (ap (λ xs. run next (Some s) (word_kinds xs)) (l.words ws)
            ∙ over_kept text l.front (ws ++ map (word_in text) (last ∷ [])) s at_item reach
            ∙ ap (run next (Some at_item)) (map-append (λ (w : Word). w.kind) ws (map (word_in text) (last ∷ [])))
            ∙ cells_run cells made (kind_in text last ∷ [])
            ∙ ap (λ k. run next (Some at_item) (k ∷ [])) kind);
        head = λ c rest m f k.
            let (x, xs, first) = l.some c rest m f k in
            let same : x ≡ c = (let parts : c ∷ rest ≡ (x ∷ xs) ++ last ∷ [] = sym f ∙ l.ts_are ∙ ap (λ ys. ys ++ last ∷ []) first in cc) in (
              map (word_in text) xs ++ (ws ++ map (word_in text) (last ∷ [])),
              l.words ws ∙ ap (λ ys. map (word_in text) ys ++ (ws ++ map (word_in text) (last ∷ []))) first
                  ∙ ap (λ t. word_in text t ∷ (map (word_in text) xs ++ (ws ++ map (word_in text) (last ∷ [])))) same,
            );
      }

  -- the machine before the bracket that ends a connection
  pub before_close : (ks : List Kind) (k : Kind) (s t : State) → run next (Some s) (ks ++ k ∷ []) ≡ Some t
      → (u : State) × (run next (Some s) ks ≡ Some u) × (next u k ≡ Some t)
  before_close ks k s t e = by_state (run next (Some s) ks) refl
    where
      by_state : (o : Option State) → run next (Some s) ks ≡ o → (u : State) × (run next (Some s) ks ≡ Some u) × (next u k ≡ Some t)
      by_state None f = let g : None ≡ Some t = sym (run_append (Some s) ks (k ∷ []) ∙ ap (λ o. run next o (k ∷ [])) f) ∙ e in absurd (cc)
      by_state (Some u) f = (u, f, sym (run_append (Some s) ks (k ∷ []) ∙ ap (λ o. run next o (k ∷ [])) f) ∙ e)

  pub goes_more : (at : ℕ) (done ts : List Token) (from to : ℕ) (new : List ℕ) (changes : List WordEdit) (s : State) → StandsAt text at done ts
      → (p : NameStands text from to) → at ≤ from → IsNetText new → kind_in text p.close ≡ Close
      → run next (Some start) (map (kind_in text) (p.before ++ p.bracket ∷ [])) ≡ Some in_connection
      → run next (Some in_connection) (map (kind_in text) (p.name ∷ (p.more ++ p.close ∷ []))) ≡ Some at_pin_end
      → run next (Some start) (map (kind_in text) done) ≡ Some s
      → ((t : State) → run next (Some start) (map (kind_in text) (p.before ++ p.bracket ∷ (p.name ∷ p.more))) ≡ Some t → Goes text (p.close ∷ p.after) changes t)
      → Goes text ts (record { from = from; to = to; words = words_of new } ∷ changes) s
  goes_more at done ts from to new changes s here p behind n closing comes runs there later =
      let l = located text at done ts from to here p behind in
      let (u, before, leaves) = before_close (map (kind_in text) (p.name ∷ p.more)) (kind_in text p.close) in_connection at_pin_end
      (ap (run next (Some in_connection)) (sym (map-append (kind_in text) (p.name ∷ p.more) (p.close ∷ []))) ∙ runs) in
      let far : run next (Some start) (map (kind_in text) (p.before ++ p.bracket ∷ (p.name ∷ p.more))) ≡ Some u
      = ap (λ xs. run next (Some start) (map (kind_in text) xs)) (sym (append_assoc p.before (p.bracket ∷ []) (p.name ∷ p.more)))
      ∙ ap (run next (Some start)) (map-append (kind_in text) (p.before ++ p.bracket ∷ []) (p.name ∷ p.more))
      ∙ run_append (Some start) (map (kind_in text) (p.before ++ p.bracket ∷ [])) (map (kind_in text) (p.name ∷ p.more))
      ∙ ap (λ o. run next o (map (kind_in text) (p.name ∷ p.more))) comes ∙ before in
      let g = later u far in
      let (ws, first) = g.head p.close p.after p.mark refl p.closes in
      let reach = on text done (l.front ++ p.bracket ∷ []) s in_connection there
      (ap (λ xs. run next (Some start) (map (kind_in text) xs)) (sym (append_assoc done l.front (p.bracket ∷ []))
      ∙ ap (λ xs. xs ++ p.bracket ∷ []) (sym l.before_is)) ∙ comes) in
      record {
        over =
            ap is_over
            (ap (λ xs. run next (Some s) (word_kinds xs)) (l.words (words_of new) changes)
            ∙ over_kept text (l.front ++ p.bracket ∷ []) (words_of new ++ words_with text changes (p.close ∷ p.after)) s in_connection reach
            ∙ ap (λ xs. run next (Some in_connection) (word_kinds (words_of new ++ xs))) first
            ∙ ap (run next (Some in_connection)) (map-append (λ (w : Word). w.kind) (words_of new) (word_in text p.close ∷ ws))
            ∙ ap (λ k. run next (Some in_connection) (word_kinds (words_of new) ++ k ∷ word_kinds ws)) closing
            ∙ text_runs new n (word_kinds ws)
            ∙ ap (λ o. run next o (word_kinds ws)) (sym leaves)
            ∙ ap (λ xs. run next (Some u) (word_kinds xs)) (sym first))
            ∙ g.over;
        head = λ c rest m f k.
            let (vs, e) = first_kept text l.front p.bracket (words_of new ++ words_with text changes (p.close ∷ p.after)) ts (p.name ∷ (p.more ++ p.close ∷ p.after))
            (l.ts_are ∙ sym (append_assoc l.front (p.bracket ∷ []) (p.name ∷ (p.more ++ p.close ∷ p.after)))) c rest f in
            (vs, l.words (words_of new) changes ∙ e);
      }

-- a text over which the machine comes to the end has tokens alone
pub no_bad : (text : List ℕ) (ts : List Token) (s : State) → is_over (run next (Some s) (map (kind_in text) ts)) ≡ true → find is_bad ts ≡ None
no_bad text [] s e = refl
no_bad text (t ∷ ts) s e =
    let (u, g, h) = by_next (next s (kind_in text t)) refl in by_bad (is_bad t) refl u g (no_bad text ts u h)
  where
    by_next : (o : Option State) → next s (kind_in text t) ≡ o
        → (u : State) × (next s (kind_in text t) ≡ Some u) × (is_over (run next (Some u) (map (kind_in text) ts)) ≡ true)
    by_next None f =
        let g : is_over None ≡ true = ap is_over (sym (ap (λ o. run next o (map (kind_in text) ts)) f ∙ stopped (map (kind_in text) ts))) ∙ e in absurd (cc)
    by_next (Some u) f = (u, f, ap (λ o. is_over (run next o (map (kind_in text) ts))) (sym f) ∙ e)

    by_bad : (b : Bool) → is_bad t ≡ b → (u : State) → next s (kind_in text t) ≡ Some u → find is_bad ts ≡ None → find is_bad (t ∷ ts) ≡ None
    by_bad true f u g h =
        let i : None ≡ Some u = sym (no_stray s.at s.open_braces) ∙ ap (next s) (sym (stray text t f)) ∙ g in absurd (cc)
    by_bad false f u g h = rw f h
