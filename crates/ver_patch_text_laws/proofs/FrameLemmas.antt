-- The first `;` of a module, and its `endmodule`, by tokens.
use Rattle.std.proofs.lemmas.List.{map-append}
use Rattle.std.proofs.Common.{◌≡◌, ℕ, Bool, true, false, List, [], ◌∷◌, ◌++◌, map, Some, refl, sym, ap, ◌∙◌, subst, append_assoc, inl}
use Rattle.std.specs.Prelude.{find, option_map, unwrap_or}
use Rattle.grammar_laws.specs.Machines.{run}
use Rattle.vg_scan.specs.Lines.{part}
use Rattle.ver_text.specs.declared.token.Token.{Token}
use Rattle.ver_text.specs.declared.token.TokenKind.TheVariants.{Mark}
use Rattle.ver_text.specs.declared.kind.Kind.{Kind}
use Rattle.ver_text.specs.declared.kind.Kind.TheVariants.{EndModule, Semicolon}
use Rattle.ver_text.specs.Kinds.{kind_in}
use Rattle.ver_text.specs.Tokens.{tokens_of}
use Rattle.ver_text.proofs.OrderLemmas.{stand_in_order}
use Rattle.ver_syntax.specs.declared.row.Place.{Place}
use Rattle.ver_syntax.specs.declared.row.Place.TheVariants.{Start}
use Rattle.ver_syntax.specs.declared.row.Row.{Row}
use Rattle.ver_syntax.specs.declared.state.At.TheVariants.{Item as AtItem}
use Rattle.ver_syntax.specs.declared.state.Item.TheVariants.{Start as ItemStart, Over}
use Rattle.ver_syntax.specs.Grammar.{is}
use Rattle.ver_syntax.specs.Moves.{State, next}
use Rattle.ver_syntax.specs.Rows.{kinds_in, rows_from, rows_of}
use Rattle.ver_syntax.specs.Syntax.{IsModule}
use Rattle.ver_syntax.proofs.PlaceLemmas.{items_stand, start}
use Rattle.ver_items.proofs.RowLemmas.{kinds_append}
use Rattle.ver_file.specs.Netlists.{end_at, head_end}
use Rattle.ver_patch.proofs.FrameLemmas.{framed}
use Rattle.ver_patch_text_laws.proofs.KindLemmas.{end_token, semicolon_mark}
use Rattle.ver_patch_text_laws.proofs.PatchLemmas.{EndsIn}
use Rattle.ver_patch_text_laws.proofs.PinTokenLemmas.{kinds_from, next_row, rows_cut}
use Rattle.ver_patch_text_laws.proofs.RunLemmas.{Runs, module_runs, runs_next, runs_on}
use Rattle.ver_patch_text_laws.proofs.StateLemmas.{end_moves, over_stops, run_append, semicolon_moves, start_moves, state}

-- ---- the first token that passes

pub record FindsAt (test : Row → Bool) (rows : List Row) : Type 0 where
  pub front : List Row
  pub row : Row
  pub back : List Row
  pub is : rows ≡ front ++ row ∷ back
  pub passes : test row ≡ true
  pub found : find test rows ≡ Some row

finds_here : (test : Row → Bool) (q : Row) (rows : List Row) → test q ≡ true → FindsAt test (q ∷ rows)
finds_here test q rows f = record { front = []; row = q; back = rows; is = refl; passes = f; found = rw f refl }

finds_later : (test : Row → Bool) (q : Row) (rows : List Row) → test q ≡ false → FindsAt test rows → FindsAt test (q ∷ rows)
finds_later test q rows f h = record {
  front = q ∷ h.front;
  row = h.row;
  back = h.back;
  is = ap (λ xs. q ∷ xs) h.is;
  passes = h.passes;
  found = rw f h.found;
}

find_in : (test : Row → Bool) (xs : List Row) (r : Row) (ys : List Row) → test r ≡ true → FindsAt test (xs ++ r ∷ ys)
find_in test [] r ys t = finds_here test r ys t
find_in test (q ∷ xs) r ys t = by_test (test q) refl (find_in test xs r ys t)
  where
    by_test : (b : Bool) → test q ≡ b → FindsAt test (xs ++ r ∷ ys) → FindsAt test (q ∷ (xs ++ r ∷ ys))
    by_test true f h = finds_here test q (xs ++ r ∷ ys) f
    by_test false f h = finds_later test q (xs ++ r ∷ ys) f h

-- ---- the last tokens

record HasLast (r : Row) (rows : List Row) : Type 0 where
  front : List Row
  last : Row
  is : r ∷ rows ≡ front ++ last ∷ []

has_last : (r : Row) (rows : List Row) → HasLast r rows
has_last r [] = record { front = []; last = r; is = refl }
has_last r (q ∷ rows) = let h = has_last q rows in record { front = r ∷ h.front; last = h.last; is = ap (λ xs. r ∷ xs) h.is }

one_last : (xs ys : List Row) (x y : Row) → xs ++ x ∷ [] ≡ ys ++ y ∷ [] → (xs ≡ ys) × (x ≡ y)
one_last [] [] x y e = (refl, let f : x ≡ y = cc in f)
one_last [] (z ∷ []) x y e = absurd (cc)
one_last [] (z ∷ w ∷ ys) x y e = absurd (cc)
one_last (z ∷ []) [] x y e = absurd (cc)
one_last (z ∷ w ∷ xs) [] x y e = absurd (cc)
one_last (z ∷ xs) (w ∷ ys) x y e =
    let rest : xs ++ x ∷ [] ≡ ys ++ y ∷ [] = cc in
    let first : z ≡ w = cc in
    let (f, g) = one_last xs ys x y rest in
    ((λ i. first i ∷ f i), g)

semicolon_is : (k : Kind) → is Semicolon k ≡ true → k ≡ Semicolon
semicolon_is Semicolon e = refl
semicolon_is k e = absurd (cc)

end_is : (k : Kind) → is EndModule k ≡ true → k ≡ EndModule
end_is EndModule e = refl
end_is k e = absurd (cc)

-- a module ends with a `;` and `endmodule`
record EndRows (text : List ℕ) : Type 0 where
  front : List Row
  mark : Row
  last : Row
  is : rows_of text ≡ (front ++ mark ∷ []) ++ last ∷ []
  marks : mark.kind ≡ Semicolon
  ends : last.kind ≡ EndModule
  comes : run next (Some start) (kinds_in (front ++ mark ∷ [])) ≡ Some (state (AtItem ItemStart))

end_rows : (text : List ℕ) → IsModule text → EndRows text
end_rows text h =
    let f = framed stand_in_order items_stand text h in
    let l = has_last f.first f.more in
    let whole : rows_of text ≡ (l.front ++ l.last ∷ []) ++ f.last ∷ [] = f.is ∙ ap (λ xs. xs ++ f.last ∷ []) l.is in
    let parts : rows_of text ≡ l.front ++ l.last ∷ f.last ∷ [] = whole ∙ append_assoc l.front (l.last ∷ []) (f.last ∷ []) in
    let c = runs_on l.front (l.last ∷ f.last ∷ []) start (subst (Runs start) parts (module_runs text h)) in
    let m = runs_next c.state l.last (f.last ∷ []) c.runs in
    let n = runs_next m.state f.last [] m.runs in
    let (before, over) = end_moves m.state n.state (ap (next m.state) (sym f.is_end) ∙ n.move) in
    let mark = semicolon_is l.last.kind (start_moves c.state m.state l.last.kind m.move before) in
    let at = semicolon_moves c.state m.state (ap (next c.state) (sym mark) ∙ m.move) in
    record {
      front = l.front;
      mark = l.last;
      last = f.last;
      is = whole;
      marks = mark;
      ends = f.is_end;
      comes =
          ap (run next (Some start)) (kinds_append l.front (l.last ∷ []))
          ∙ run_append (Some start) (kinds_in l.front) (l.last.kind ∷ [])
          ∙ ap (λ o. run next o (l.last.kind ∷ [])) c.run ∙ m.move ∙ ap Some at;
    }

-- ---- by tokens

-- the head of a module ends with its first `;`
pub record HeadTokens (text : List ℕ) : Type 0 where
  pub front : List Token
  pub mark : Token
  pub back : List Token
  pub is : tokens_of text ≡ front ++ mark ∷ back
  pub marks : mark.kind ≡ Mark 59
  pub place : head_end text ≡ mark.to
  pub comes : run next (Some start) (map (kind_in text) (front ++ mark ∷ [])) ≡ Some (state (AtItem ItemStart))

pub head_tokens : (text : List ℕ) → IsModule text → HeadTokens text
head_tokens text h =
    let e = end_rows text h in
    let mark_is : is Semicolon e.mark.kind ≡ true = ap (is Semicolon) e.marks in
    let g = find_in (λ r. is Semicolon r.kind) e.front e.mark (e.last ∷ []) mark_is in
    let rows : rows_of text ≡ e.front ++ e.mark ∷ e.last ∷ [] = e.is ∙ append_assoc e.front (e.mark ∷ []) (e.last ∷ []) in
    let parts : rows_of text ≡ g.front ++ g.row ∷ g.back = rows ∙ g.is in
    let a = rows_cut text (tokens_of text) Start g.front (g.row ∷ g.back) parts in
    let o = next_row text a.back a.there g.row g.back a.others in
    let c = runs_on g.front (g.row ∷ g.back) start (subst (Runs start) parts (module_runs text h)) in
    let m = runs_next c.state g.row g.back c.runs in
    let kind = semicolon_is g.row.kind g.passes in
    let at = semicolon_moves c.state m.state (ap (next c.state) (sym kind) ∙ m.move) in
    record {
      front = a.front;
      mark = o.token;
      back = o.back;
      is = a.is ∙ ap (λ ts. a.front ++ ts) o.is;
      marks = semicolon_mark o.token.kind (part text o.token.from o.token.to) (ap (λ (r : Row). is Semicolon r.kind) (sym o.own) ∙ g.passes);
      place = ap (λ q. unwrap_or (option_map (λ (r : Row). r.to) q) 0) (ap (find (λ r. is Semicolon r.kind)) rows ∙ g.found) ∙ ap (λ (r : Row). r.to) o.own;
      comes =
          ap (run next (Some start)) (map-append (kind_in text) a.front (o.token ∷ []))
          ∙ run_append (Some start) (map (kind_in text) a.front) (kind_in text o.token ∷ [])
          ∙ (λ i. run next (run next (Some start) ((sym (kinds_from text a.front Start) ∙ ap kinds_in (sym a.rows)) i)) ((sym o.own i).kind ∷ []))
          ∙ ap (λ q. run next q (g.row.kind ∷ [])) c.run ∙ m.move ∙ ap Some at;
    }

-- its last token is `endmodule`
pub record EndTokens (text : List ℕ) : Type 0 where
  pub front : List Token
  pub mark : Token
  pub last : Token
  pub ends : EndsIn text front mark last
  pub kind : kind_in text last ≡ EndModule
  pub place : end_at text ≡ last.from
  pub comes : run next (Some start) (map (kind_in text) (front ++ mark ∷ [])) ≡ Some (state (AtItem ItemStart))

pub end_tokens : (text : List ℕ) → IsModule text → EndTokens text
unfolding rows_from
end_tokens text h =
    let e = end_rows text h in
    let g = find_in (λ r. is EndModule r.kind) (e.front ++ e.mark ∷ []) e.last [] (ap (is EndModule) e.ends) in
    let parts : rows_of text ≡ g.front ++ g.row ∷ g.back = e.is ∙ g.is in
    let c = runs_on g.front (g.row ∷ g.back) start (subst (Runs start) parts (module_runs text h)) in
    let m = runs_next c.state g.row g.back c.runs in
    let (before, over) = end_moves c.state m.state (ap (next c.state) (sym (end_is g.row.kind g.passes)) ∙ m.move) in
    let found : g.row ≡ e.last
    = (one_last g.front (e.front ++ e.mark ∷ []) g.row e.last (only g.front (e.front ++ e.mark ∷ []) g.row e.last g.back m.state over m.runs (sym g.is))).1 in
    let rows : rows_of text ≡ e.front ++ e.mark ∷ e.last ∷ [] = e.is ∙ append_assoc e.front (e.mark ∷ []) (e.last ∷ []) in
    let a = rows_cut text (tokens_of text) Start e.front (e.mark ∷ e.last ∷ []) rows in
    let o = next_row text a.back a.there e.mark (e.last ∷ []) a.others in
    let l = next_row text o.back o.there e.last [] o.others in
    let mark_is : is Semicolon e.mark.kind ≡ true = ap (is Semicolon) e.marks in
    let last_is : is EndModule e.last.kind ≡ true = ap (is EndModule) e.ends in
    record {
      front = a.front;
      mark = o.token;
      last = l.token;
      ends = record {
        is = a.is ∙ ap (λ ts. a.front ++ ts) (o.is ∙ ap (λ ts. o.token ∷ ts) (l.is ∙ ap (λ ts. l.token ∷ ts) (none l.back l.there l.others)));
        ends = semicolon_mark o.token.kind (part text o.token.from o.token.to) (ap (λ (r : Row). is Semicolon r.kind) (sym o.own) ∙ mark_is);
        named = inl (end_token l.token.kind (part text l.token.from l.token.to) (ap (λ (r : Row). is EndModule r.kind) (sym l.own) ∙ last_is));
      };
      kind = ap (λ (r : Row). r.kind) (sym l.own) ∙ e.ends;
      place =
          ap (λ q. unwrap_or (option_map (λ (r : Row). r.from) q) 0) (ap (find (λ r. is EndModule r.kind)) e.is ∙ g.found ∙ ap Some found)
          ∙ ap (λ (r : Row). r.from) l.own;
      comes =
          ap (run next (Some start)) (map-append (kind_in text) a.front (o.token ∷ []))
          ∙ (λ i. run next (Some start) ((sym (kinds_from text a.front Start) ∙ ap kinds_in (sym a.rows)) i ++ (sym o.own i).kind ∷ []))
          ∙ ap (run next (Some start)) (sym (kinds_append e.front (e.mark ∷ []))) ∙ e.comes;
    }
  where
    none : (ts : List Token) (q : Place) → [] ≡ rows_from text q ts → ts ≡ []
    none [] q f = refl
    none (t ∷ ts) q f = absurd (cc)

    only : (xs ys : List Row) (x y : Row) (back : List Row) (t : State) → t ≡ state (AtItem Over) → Runs t back → xs ++ x ∷ back ≡ ys ++ y ∷ []
        → xs ++ x ∷ [] ≡ ys ++ y ∷ []
    only xs ys x y [] t over r f = f
    only xs ys x y (b ∷ back) t over r f = let n = runs_next t b back r in absurd (over_stops b.kind n.state (ap (λ s. next s b.kind) (sym over) ∙ n.move))
