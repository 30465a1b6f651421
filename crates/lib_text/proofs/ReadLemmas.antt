-- A text that is read token by token.
use Rattle.std.proofs.Common.{◌≡◌, ℕ, zero, suc, ◌+◌, ◌<◌, Bool, true, false, List, [], ◌∷◌, length, map, take_all, drop, get_or, Option, Some, None, refl, sym, ap, ◌∙◌, arith, length-drop, ◌==◌, if◌then◌else◌}
use Rattle.std.proofs.lemmas.List.{length-map}
use Rattle.grammar_laws.specs.Ways.{IsLeft}
use Rattle.grammar_laws.proofs.WayLemmas.{left_start}
use Rattle.grammar_laws.proofs.MachineLemmas.{stepped, stuck, ended, cut}
use Rattle.lib_text.specs.declared.kind.Kind.{Kind}
use Rattle.lib_text.specs.declared.kind.Kind.TheVariants.{Library, Single, Several, Other}
use Rattle.lib_text.specs.declared.state.At.{At}
use Rattle.lib_text.specs.declared.state.At.TheVariants.{Start, Body, Named, Value as AtValue, Opened, Listed, Passed, Closed}
use Rattle.lib_text.specs.declared.state.Head.TheVariants.{Library as OfLibrary, Cell as OfCell, Pin as OfPin, Other as OfOther}
use Rattle.lib_text.specs.declared.state.State.{State}
use Rattle.lib_text.specs.declared.token.Content.{Content}
use Rattle.lib_text.specs.declared.token.Found.{Found}
use Rattle.lib_text.specs.declared.token.Token.{Token}
use Rattle.lib_text.specs.Found.{tokens_next, IsFirst}
use Rattle.lib_text.specs.Grammar.{rules, library}
use Rattle.lib_text.specs.Kinds.{kind_in, kinds_of, list_kind}
use Rattle.lib_text.specs.Arguments.{arguments_of, are_names}
use Rattle.lib_text.specs.Moves.{ways, next, move, is_done}
use Rattle.lib_text.specs.Reading.{count_done, HasRead, wants_names}
use Rattle.lib_text.specs.Syntax.{IsLibrary, IsSyntaxFault, place_of}
use Rattle.lib_text.specs.Tokens.{tokens_of}
use Rattle.lib_text.proofs.MoveLemmas.{machine}

drop_map : {X Y : Type 0} (f : X → Y) (n : ℕ) (xs : List X) → drop n (map f xs) ≡ map f (drop n xs)
drop_map f zero xs = refl
drop_map f (suc n) [] = refl
drop_map f (suc n) (x ∷ xs) = drop_map f n xs

get_dropped : {X : Type 0} (xs : List X) (n : ℕ) (d : X) → get_or (drop n xs) 0 d ≡ get_or xs n d
get_dropped [] zero d = refl
get_dropped [] (suc n) d = refl
get_dropped (x ∷ xs) zero d = refl
get_dropped (x ∷ xs) (suc n) d = get_dropped xs n d

place_dropped : (ts : List Token) (end n : ℕ) → place_of ts end n ≡ place_of (drop n ts) end 0
place_dropped [] end zero = refl
place_dropped [] end (suc n) = refl
place_dropped (t ∷ ts) end zero = refl
place_dropped (t ∷ ts) end (suc n) = place_dropped ts end n

drop_next : {X : Type 0} (xs : List X) (n : ℕ) (x : X) (rest : List X) → drop n xs ≡ x ∷ rest → drop (n + 1) xs ≡ rest
drop_next [] zero x rest e = absurd (cc)
drop_next [] (suc n) x rest e = absurd (cc)
drop_next (y ∷ xs) zero x rest e = (cc)
drop_next (y ∷ xs) (suc n) x rest e = let k : suc n + 1 ≡ suc (n + 1) = omega arith in rw k (drop_next xs n x rest e)

-- arguments are arguments, where names are not wanted
pub same_move : (at : At) (k : Kind) (d : ℕ) (cell : Bool) → wants_names at ≡ false → (move at Other d cell ≡ move at Single d cell) × (move at Other d cell ≡ move at Several d cell)
same_move Start k d cell e = (refl, refl)
same_move Body k zero cell e = (refl, refl)
same_move Body k (suc zero) cell e = (refl, refl)
same_move Body k (suc (suc zero)) true e = (refl, refl)
same_move Body k (suc (suc zero)) false e = (refl, refl)
same_move Body k (suc (suc (suc d))) cell e = (refl, refl)
same_move (Named OfLibrary) k d cell e = (refl, refl)
same_move (Named OfCell) k d cell e = (refl, refl)
same_move (Named OfPin) k d cell e = (refl, refl)
same_move (Named OfOther) k d cell e = (refl, refl)
same_move AtValue k d cell e = (refl, refl)
same_move (Opened OfLibrary) k d cell e = (refl, refl)
same_move (Opened OfCell) k d cell e = absurd (cc)
same_move (Opened OfPin) k d cell e = absurd (cc)
same_move (Opened OfOther) k d cell e = (refl, refl)
same_move (Listed head) k d cell e = (refl, refl)
same_move Passed k d cell e = (refl, refl)
same_move (Closed OfLibrary) k d cell e = (refl, refl)
same_move (Closed OfCell) k d cell e = (refl, refl)
same_move (Closed OfPin) k d cell e = (refl, refl)
same_move (Closed OfOther) k zero cell e = (refl, refl)
same_move (Closed OfOther) k (suc zero) cell e = (refl, refl)
same_move (Closed OfOther) k (suc (suc zero)) true e = (refl, refl)
same_move (Closed OfOther) k (suc (suc zero)) false e = (refl, refl)
same_move (Closed OfOther) k (suc (suc (suc d))) cell e = (refl, refl)

pub list_move : (s : State) (list : List ℕ) → wants_names s.at ≡ false → next s Other ≡ next s (list_kind list)
unfolding list_kind
list_move s list e = by_test (are_names list) (length (arguments_of list) == 1)
  where
    by_test : (a b : Bool) → next s Other ≡ next s (if a then (if b then Single else Several) else Other)
    by_test true true = (same_move s.at Other s.depth s.in_cell e).0
    by_test true false = (same_move s.at Other s.depth s.in_cell e).1
    by_test false b = refl

module _ (text : List ℕ) where
  pub begun : (s : State) → ways s ≡ (library ∷ []) ∷ [] → HasRead text None 0 s
  begun s e =
      let n : count_done text None 0 ≡ 0 = omega arith in
      record {
        rest = rw n refl;
        ways = rw (n, e) (left_start rules machine.proper library);
      }

  module _ (content : Option Content) (at : ℕ) (s : State) (h : HasRead text content at s) where
    abbrev n : ℕ
    n = count_done text content at

    some : n + length (tokens_next text content at) ≡ length (tokens_of text)
    some = let l = ap length h.rest in omega (arith, l, length-drop n (tokens_of text))

    module _ (found : Found) (f : IsFirst text content at found) where
      next_count : count_done text found.content found.at ≡ n + 1
      next_count = let l = ap length f.first in omega (arith, l, some)

      here : drop n (kinds_of text) ≡ kind_in text found.token ∷ map (kind_in text) (tokens_next text found.content found.at)
      here = drop_map (kind_in text) n (tokens_of text) ∙ ap (map (kind_in text)) (h.rest ∙ f.first)

      kind_here : get_or (kinds_of text) n Library ≡ kind_in text found.token
      kind_here = sym (get_dropped (kinds_of text) n Library) ∙ ap (λ xs. get_or xs 0 Library) here

      in_kinds : n < length (kinds_of text)
      in_kinds = let l = ap length f.first in omega (arith, l, some, length-map (tokens_of text) (kind_in text))

      pub read_more : (s' : State) → next s (kind_in text found.token) ≡ Some s' → HasRead text found.content found.at s'
      read_more s' e = record {
        rest = rw next_count (drop_next (tokens_of text) n found.token (tokens_next text found.content found.at) (h.rest ∙ f.first));
        ways =
            rw next_count
            (stepped rules ways next is_done machine library (kinds_of text) n Library s s' h.ways in_kinds (ap (next s) kind_here ∙ e));
      }

      pub fault_here : next s (kind_in text found.token) ≡ None → IsSyntaxFault text found.token.from
      fault_here e = record {
        token = n;
        fault = stuck rules ways next is_done machine library (kinds_of text) n Library s h.ways in_kinds (ap (next s) kind_here ∙ e);
        place = sym (place_dropped (tokens_of text) (length text) n ∙ ap (λ ts. place_of ts (length text) 0) (h.rest ∙ f.first));
      }

    module _ (over : tokens_next text content at ≡ []) where
      all_done : n ≡ length (kinds_of text)
      all_done = let l = ap length over in omega (arith, l, some, length-map (tokens_of text) (kind_in text))

      all_ways : IsLeft rules library (kinds_of text) (ways s)
      all_ways = rw (take_all n (kinds_of text) (omega (arith, all_done))) at h.ways

      pub whole : is_done s ≡ true → IsLibrary text
      whole e = ended rules ways next is_done machine library (kinds_of text) s all_ways e

      pub fault_at_end : is_done s ≡ false → IsSyntaxFault text (length text)
      fault_at_end e = record {
        token = n;
        fault = rw all_done (cut rules ways next is_done machine library (kinds_of text) s all_ways e);
        place = sym (place_dropped (tokens_of text) (length text) n ∙ ap (λ ts. place_of ts (length text) 0) (h.rest ∙ over));
      }
