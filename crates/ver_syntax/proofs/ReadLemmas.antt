-- A text that is read token by token.
use Rattle.std.proofs.Common.{◌≡◌, ℕ, zero, suc, ◌+◌, ◌<◌, Bool, true, false, List, [], ◌∷◌, ◌++◌, length, map, take, take_all, drop, get_or, Some, None, refl, sym, ap, ◌∙◌, arith, length-drop}
use Rattle.std.proofs.lemmas.List.{length-map, take_more}
use Rattle.grammar_laws.specs.Ways.{IsLeft}
use Rattle.grammar_laws.proofs.WayLemmas.{left_start}
use Rattle.grammar_laws.proofs.MachineLemmas.{stepped, stuck, ended, cut}
use Rattle.vg_scan.specs.declared.fault.LineFault.{LineFault}
use Rattle.ver_syntax.specs.declared.fault.VerKind.{VerKind}
use Rattle.ver_syntax.specs.declared.fault.VerKind.TheVariants.{Grammar}
use Rattle.ver_text.specs.declared.kind.Kind.{Kind}
use Rattle.ver_text.specs.declared.kind.Kind.TheVariants.{Module, Identifier, Open, Stray}
use Rattle.ver_syntax.specs.declared.state.At.{At}
use Rattle.ver_syntax.specs.declared.state.At.TheVariants.{Head as AtHead}
use Rattle.ver_syntax.specs.declared.state.Head.TheVariants.{Start as HeadStart}
use Rattle.ver_syntax.specs.declared.state.Brace.{Brace}
use Rattle.ver_text.specs.declared.token.Token.{Token}
use Rattle.ver_text.specs.declared.token.TokenKind.{TokenKind}
use Rattle.ver_text.specs.declared.token.TokenKind.TheVariants.{Word, Stray as AStray, Unclosed}
use Rattle.vg_scan.specs.Lines.{part}
use Rattle.std.specs.Prelude.{find}
use Rattle.ver_syntax.specs.Grammar.{is, rules, module_declaration}
use Rattle.ver_text.specs.Kinds.{grammar_kind, kind_in, kinds_of}
use Rattle.ver_syntax.specs.Moves.{State, ways, move, next, is_done, is_done_at, fault_kind}
use Rattle.ver_syntax.specs.Reading.{count_done, HasRead}
use Rattle.ver_syntax.specs.Syntax.{is_bad_kind, is_bad, HasTokens, line_at, IsModule, IsGrammarFault, ends_in, place_of}
use Rattle.ver_text.specs.Tokens.{tokens_of}
use Rattle.ver_syntax.proofs.MoveLemmas.{machine}
use Rattle.ver_syntax.proofs.FaultLemmas.{named_after, opened_after, no_stray, wrong_at}

drop_map : {X Y : Type 0} (f : X → Y) (n : ℕ) (xs : List X) → drop n (map f xs) ≡ map f (drop n xs)
drop_map f zero xs = refl
drop_map f (suc n) [] = refl
drop_map f (suc n) (x ∷ xs) = drop_map f n xs

get_dropped : {X : Type 0} (xs : List X) (n : ℕ) (d : X) → get_or (drop n xs) 0 d ≡ get_or xs n d
get_dropped [] zero d = refl
get_dropped [] (suc n) d = refl
get_dropped (x ∷ xs) zero d = refl
get_dropped (x ∷ xs) (suc n) d = get_dropped xs n d

place_dropped : (ts : List Token) (end n : ℕ) → place_of ts end n ≡ place_of (drop n ts) end 0
place_dropped [] end zero = refl
place_dropped [] end (suc n) = refl
place_dropped (t ∷ ts) end zero = refl
place_dropped (t ∷ ts) end (suc n) = place_dropped ts end n

drop_next : {X : Type 0} (xs : List X) (n : ℕ) (x : X) (rest : List X) → drop n xs ≡ x ∷ rest → drop (n + 1) xs ≡ rest
drop_next [] zero x rest e = absurd (cc)
drop_next [] (suc n) x rest e = absurd (cc)
drop_next (y ∷ xs) zero x rest e = (cc)
drop_next (y ∷ xs) (suc n) x rest e = let k : suc n + 1 ≡ suc (n + 1) = omega arith in rw k (drop_next xs n x rest e)

ends_with : (kind : Kind) (ks : List Kind) (k : Kind) → ends_in kind (ks ++ k ∷ []) ≡ is kind k
ends_with kind [] k = refl
ends_with kind (j ∷ []) k = refl
ends_with kind (j ∷ i ∷ ks) k = ends_with kind (i ∷ ks) k

-- what is no token is a stray one to the grammar
pub stray : (text : List ℕ) (t : Token) → is_bad t ≡ true → kind_in text t ≡ Stray
stray text t e = by_kind t.kind e
  where
    by_kind : (kind : TokenKind) → is_bad_kind kind ≡ true → grammar_kind kind (part text t.from t.to) ≡ Stray
    by_kind Word f = absurd (cc)
    by_kind AStray f = refl
    by_kind Unclosed f = refl
    by_kind _ f = absurd (cc)

module _ (text : List ℕ) where
  pub begun : HasRead text (tokens_of text) (AtHead HeadStart) []
  begun =
      let n : count_done text (tokens_of text) ≡ 0 = omega arith in
      record {
        good = refl;
        rest = rw n refl;
        ways = rw n (left_start rules machine.proper module_declaration);
        opened = rw n refl;
        named = rw n refl;
      }

  module _ (left : List Token) (at : At) (bs : List Brace) (h : HasRead text left at bs) where
    abbrev n : ℕ
    n = count_done text left

    abbrev s : State
    s = record { at = at; open_braces = bs }

    some : n + length left ≡ length (tokens_of text)
    some = let l = ap length h.rest in omega (arith, l, length-drop n (tokens_of text))

    module _ (t : Token) (ts : List Token) (first : left ≡ t ∷ ts) where
      next_count : count_done text ts ≡ n + 1
      next_count = let l = ap length first in omega (arith, l, some)

      here : drop n (kinds_of text) ≡ kind_in text t ∷ map (kind_in text) ts
      here = drop_map (kind_in text) n (tokens_of text) ∙ ap (map (kind_in text)) (h.rest ∙ first)

      kind_here : get_or (kinds_of text) n Module ≡ kind_in text t
      kind_here = sym (get_dropped (kinds_of text) n Module) ∙ ap (λ xs. get_or xs 0 Module) here

      in_kinds : n < length (kinds_of text)
      in_kinds = let l = ap length first in omega (arith, l, some, length-map (tokens_of text) (kind_in text))

      none_bad : (s' : State) → move at (kind_in text t) bs ≡ Some s' → find is_bad left ≡ find is_bad ts
      none_bad s' e = ap (find is_bad) first ∙ by_test (is_bad t) refl
        where
          by_test : (b : Bool) → is_bad t ≡ b → find is_bad (t ∷ ts) ≡ find is_bad ts
          by_test false f = rw f refl
          by_test true f =
              let x : move at (kind_in text t) bs ≡ None = ap (λ k. move at k bs) (stray text t f) ∙ no_stray at bs in
              absurd (cc)

      pub read_more : (at' : At) (bs' : List Brace) → move at (kind_in text t) bs ≡ Some (record { at = at'; open_braces = bs' }) → HasRead text ts at' bs'
      read_more at' bs' e =
          let s' : State = record { at = at'; open_braces = bs' } in
          record {
            good = h.good ∙ none_bad s' e;
            rest = rw next_count (drop_next (tokens_of text) n t ts (h.rest ∙ first));
            ways =
                rw next_count
                (stepped rules ways next is_done machine module_declaration (kinds_of text) n Module s s' h.ways in_kinds (ap (next s) kind_here ∙ e));
            opened =
                rw (next_count, take_more (kinds_of text) n Module in_kinds, kind_here)
                (ends_with Open (take n (kinds_of text)) (kind_in text t) ∙ sym (opened_after at (kind_in text t) bs s' e));
            named =
                rw (next_count, take_more (kinds_of text) n Module in_kinds, kind_here)
                (ends_with Identifier (take n (kinds_of text)) (kind_in text t) ∙ sym (named_after at (kind_in text t) bs s' e));
          }

      pub fault_here : (fault : LineFault VerKind) → move at (kind_in text t) bs ≡ None → fault.kind ≡ fault_kind at (kind_in text t) → fault.line ≡ line_at text t.from → IsGrammarFault text fault
      fault_here fault e k l = record {
        token = n;
        broken = stuck rules ways next is_done machine module_declaration (kinds_of text) n Module s h.ways in_kinds (ap (next s) kind_here ∙ e);
        kind = rw (here, k) (wrong_at (take n (kinds_of text)) at bs h.ways h.named h.opened (kind_in text t) (map (kind_in text) ts));
        line =
            let p : place_of (tokens_of text) (length text) n ≡ t.from = place_dropped (tokens_of text) (length text) n ∙ ap (λ xs. place_of xs (length text) 0) (h.rest ∙ first) in
            rw p l;
      }

    module _ (over : left ≡ []) where
      all_done : n ≡ length (kinds_of text)
      all_done = let l = ap length over in omega (arith, l, some, length-map (tokens_of text) (kind_in text))

      all_ways : IsLeft rules module_declaration (kinds_of text) (ways s)
      all_ways = rw (take_all n (kinds_of text) (omega (arith, all_done))) at h.ways

      pub all_good : HasTokens text
      all_good = h.good ∙ ap (find is_bad) over

      pub whole : is_done_at at ≡ true → IsModule text
      whole e = ended rules ways next is_done machine module_declaration (kinds_of text) s all_ways e

      pub fault_at_end : (fault : LineFault VerKind) → is_done_at at ≡ false → fault.kind ≡ Grammar → fault.line ≡ line_at text (length text) → IsGrammarFault text fault
      fault_at_end fault e k l = record {
        token = n;
        broken = rw all_done (cut rules ways next is_done machine module_declaration (kinds_of text) s all_ways e);
        kind = let d : drop n (kinds_of text) ≡ [] = drop_map (kind_in text) n (tokens_of text) ∙ ap (map (kind_in text)) (h.rest ∙ over) in rw d k;
        line =
            let p : place_of (tokens_of text) (length text) n ≡ length text = place_dropped (tokens_of text) (length text) n ∙ ap (λ xs. place_of xs (length text) 0) (h.rest ∙ over) in
            rw p l;
      }
