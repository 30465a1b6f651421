-- A name behind a `(` or a `;` may be replaced by another: what stands before it is read as it was.
use Rattle.std.proofs.Common.{◌≡◌, ℕ, ◌+◌, ◌≤◌, List, [], ◌∷◌, ◌++◌, length, map, Some, refl, sym, ap, ◌∙◌, subst, arith, length-append, append_assoc, ◌⊎◌, inl, inr}
use Rattle.ver_text.specs.declared.token.Token.{Token}
use Rattle.ver_text.specs.declared.token.TokenKind.TheVariants.{Word as AWord, Escaped, Mark}
use Rattle.ver_text.specs.Tokens.{piece, tokens_from}
use Rattle.ver_patch_text_laws.specs.Words.{word_in}
use Rattle.ver_patch_text_laws.proofs.PieceLemmas.{IsStop, open_stops, semicolon_stops}
use Rattle.ver_patch_text_laws.proofs.PlaceLemmas.{BeginsName, backslash_begins, bracket_kept, letter_begins}
use Rattle.ver_patch_text_laws.proofs.ScanLemmas.{Found, Holds, found, holds_append, holds_before_name, holds_before_stop, holds_more, holds_words, left, tokens_in, words_from, words_in}
use Rattle.ver_patch_text_laws.proofs.WordLemmas.{first_byte, words_in_are}

-- a token is an identifier or a keyword
abbrev pub IsName : Token → Type 0
IsName t = (t.kind ≡ AWord) ⊎ (t.kind ≡ Escaped)

-- a token is a `(` or a `;`
abbrev pub IsCut : Token → Type 0
IsCut t = (t.kind ≡ Mark 40) ⊎ (t.kind ≡ Mark 59)

pub name_begins : (t : Token) (b : ℕ) (bs : List ℕ) → IsName t → (piece b bs).kind ≡ Some t.kind → BeginsName b
name_begins t b bs (inl e) k = letter_begins b (first_byte b bs AWord (k ∙ ap Some e))
name_begins t b bs (inr e) k = subst BeginsName (sym (first_byte b bs Escaped (k ∙ ap Some e))) backslash_begins

-- a mark, and what is passed over behind it before a name
cut_then : (m y y' : ℕ) → BeginsName y → BeginsName y' → (gap vs vs' : List ℕ) → (m ≡ 40) ⊎ (m ≡ 59) → (piece m (gap ++ y ∷ vs)).more ≡ 0
    → words_in 0 gap (y ∷ vs) ≡ [] → left 0 gap (y ∷ vs) ≡ 0 → piece m (gap ++ y' ∷ vs') ≡ piece m (gap ++ y ∷ vs) → Holds 0 (m ∷ gap) (y ∷ vs) (y' ∷ vs')
cut_then m y y' s s' gap vs vs' cut more none ends same =
    holds_more m gap (y ∷ vs) (y' ∷ vs') same (ap (λ (n : ℕ). left n gap (y ∷ vs)) more ∙ ends)
    (subst (λ n. Holds n gap (y ∷ vs) (y' ∷ vs')) (sym more) (holds_before_name y y' s s' gap vs vs' 0 none ends))

same_piece : (m y y' : ℕ) → BeginsName y → BeginsName y' → (gap vs vs' : List ℕ) → (m ≡ 40) ⊎ (m ≡ 59) → (piece m (gap ++ y ∷ vs)).more ≡ 0
    → piece m (gap ++ y' ∷ vs') ≡ piece m (gap ++ y ∷ vs)
same_piece m y y' s s' gap vs vs' (inl e) more =
    let low : (piece 40 (gap ++ y ∷ vs)).more ≤ length gap = let f : (piece 40 (gap ++ y ∷ vs)).more ≡ 0 = rw e at more in omega (arith, f) in
    rw e (bracket_kept y y' s s' vs vs' gap low)
same_piece m y y' s s' gap vs vs' (inr e) more = rw e refl

stops : (m : ℕ) → (m ≡ 40) ⊎ (m ≡ 59) → IsStop m
stops m (inl e) = subst IsStop (sym e) open_stops
stops m (inr e) = subst IsStop (sym e) semicolon_stops

cut_byte : (t : Token) (b : ℕ) (bs : List ℕ) → IsCut t → (piece b bs).kind ≡ Some t.kind → ((b ≡ 40) ⊎ (b ≡ 59)) × ((piece b bs).more ≡ 0)
cut_byte t b bs (inl e) k = let f = first_byte b bs (Mark 40) (k ∙ ap Some e) in (inl f.0, f.1)
cut_byte t b bs (inr e) k = let f = first_byte b bs (Mark 59) (k ∙ ap Some e) in (inr f.0, f.1)

same_front : (us us' xs xs' : List ℕ) → length us ≡ length us' → us ++ xs ≡ us' ++ xs' → (us ≡ us') × (xs ≡ xs')
same_front [] [] xs xs' n e = (refl, e)
same_front [] (u ∷ us') xs xs' n e = absurd (omega (arith, n))
same_front (u ∷ us) [] xs xs' n e = absurd (omega (arith, n))
same_front (u ∷ us) (u' ∷ us') xs xs' n e =
    let one : u ≡ u' = cc in
    let rest : us ++ xs ≡ us' ++ xs' = cc in
    let (f, g) = same_front us us' xs xs' (omega (arith, n)) rest in
    ((λ i. one i ∷ f i), g)

-- a name of a text from a place on, behind these tokens: what stands before it stays before any other name
pub record Reached (at : ℕ) (bytes : List ℕ) (front : List Token) (t : Token) (back : List Token) : Type 0 where
  pub place : Found 0 at bytes front t back
  pub holds : (y : ℕ) (vs : List ℕ) → BeginsName y → Holds 0 place.us (place.b ∷ place.bs) (y ∷ vs)

no_words : (us vs pre : List ℕ) (at : ℕ) → at ≡ length pre → tokens_in 0 at us vs ≡ [] → words_in 0 us vs ≡ []
no_words us vs pre at e none = sym (words_in_are us vs pre 0 at e) ∙ ap (map (word_in (pre ++ (us ++ vs)))) none

-- with no token before it
pub reached_at_once : (pre bytes : List ℕ) (at : ℕ) (t : Token) (back : List Token) → at ≡ length pre → IsName t → tokens_from 0 at bytes ≡ t ∷ back
    → Reached at bytes [] t back
reached_at_once pre bytes at t back e named h =
    let p = found bytes 0 at [] t back h in
    record {
      place = p;
      holds = λ y vs s. holds_before_name p.b y (name_begins t p.b p.bs named p.kind) s p.us p.bs vs 0 (no_words p.us (p.b ∷ p.bs) pre at e p.before) p.ends;
    }

-- behind a `(` or a `;`
pub reached_behind : (pre bytes : List ℕ) (at : ℕ) (front : List Token) (m t : Token) (back : List Token) → at ≡ length pre → IsCut m → IsName t
    → tokens_from 0 at bytes ≡ front ++ m ∷ t ∷ back → Reached at bytes (front ++ m ∷ []) t back
reached_behind pre bytes at front m t back e cut named h =
    let g = found bytes 0 at front m (t ∷ back) h in
    let (byte, more) = cut_byte m g.b g.bs cut g.kind in
    let rest : tokens_from 0 (m.from + 1) g.bs ≡ t ∷ back = ap (λ (n : ℕ). tokens_from n (m.from + 1) g.bs) (sym more) ∙ g.after in
    let k = found g.bs 0 (m.from + 1) [] t back rest in
    let p = found bytes 0 at (front ++ m ∷ []) t back (h ∙ sym (append_assoc front (m ∷ []) (t ∷ back))) in
    let parts : p.us ++ p.b ∷ p.bs ≡ (g.us ++ g.b ∷ k.us) ++ k.b ∷ k.bs
    = sym p.is ∙ g.is ∙ ap (λ xs. g.us ++ g.b ∷ xs) k.is ∙ sym (append_assoc g.us (g.b ∷ k.us) (k.b ∷ k.bs)) in
    let long : length p.us ≡ length (g.us ++ g.b ∷ k.us) = omega (arith, p.from, g.from, k.from, length-append g.us (g.b ∷ k.us)) in
    let (us, vs) = same_front p.us (g.us ++ g.b ∷ k.us) (p.b ∷ p.bs) (k.b ∷ k.bs) long parts in
    let first = name_begins t k.b k.bs named k.kind in
    let before : List ℕ = pre ++ (g.us ++ g.b ∷ []) in
    let far : m.from + 1 ≡ length before = omega (arith, e, g.from, length-append pre (g.us ++ g.b ∷ []), length-append g.us (g.b ∷ [])) in
    let none = no_words k.us (k.b ∷ k.bs) before (m.from + 1) far k.before in
    let zero_more : (piece g.b (k.us ++ k.b ∷ k.bs)).more ≡ 0 = ap (λ (xs : List ℕ). (piece g.b xs).more) (sym k.is) ∙ more in
    let ends : left 0 g.us (g.b ∷ (k.us ++ k.b ∷ k.bs)) ≡ 0 = ap (λ (xs : List ℕ). left 0 g.us (g.b ∷ xs)) (sym k.is) ∙ g.ends in
    record {
      place = p;
      holds = λ y ws s.
          let all : Holds 0 (g.us ++ g.b ∷ k.us) (k.b ∷ k.bs) (y ∷ ws)
          = holds_append 0 g.us (g.b ∷ k.us) (k.b ∷ k.bs) (y ∷ ws)
          (holds_before_stop g.b (stops g.b byte) g.us (k.us ++ k.b ∷ k.bs) (k.us ++ y ∷ ws) 0 ends)
          (cut_then g.b k.b y first s k.us k.bs ws byte zero_more none k.ends (same_piece g.b k.b y first s k.us k.bs ws byte zero_more)) in
          subst (λ xs. Holds 0 p.us xs (y ∷ ws)) (sym vs) (subst (λ xs. Holds 0 xs (k.b ∷ k.bs) (y ∷ ws)) (sym us) all);
    }

-- the words of a text whose name there is replaced
pub words_reached : (pre bytes : List ℕ) (at : ℕ) (front : List Token) (t : Token) (back : List Token) (r : Reached at bytes front t back) (y : ℕ) (vs : List ℕ)
    → at ≡ length pre → BeginsName y → words_from 0 (r.place.us ++ y ∷ vs) ≡ map (word_in (pre ++ bytes)) front ++ words_from 0 (y ∷ vs)
words_reached pre bytes at front t back r y vs e s =
    let p = r.place in
    holds_words 0 p.us (p.b ∷ p.bs) (y ∷ vs) (r.holds y vs s)
    ∙ ap (λ ws. ws ++ words_from 0 (y ∷ vs))
    (sym (words_in_are p.us (p.b ∷ p.bs) pre 0 at e)
    ∙ ap (λ (xs : List ℕ). map (word_in (pre ++ xs)) (tokens_in 0 at p.us (p.b ∷ p.bs))) (sym p.is)
    ∙ ap (map (word_in (pre ++ bytes))) p.before)
