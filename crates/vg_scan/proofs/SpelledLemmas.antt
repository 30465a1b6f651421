-- What a text spells, when it is read to its end.
use Rattle.std.proofs.Common.{◌≡◌, ℕ, zero, suc, ◌==◌, ◌<◌, ◌≤◌, Bool, true, false, List, [], ◌∷◌, ◌++◌, ◌&&◌, ◌||◌, not, cond, length, drop, inl, inr, sym, Option, Some, None, ap, ◌∙◌, ◌+◌, arith, refl, add-one, drop-cons, get_or, below_more, append_assoc}
use Rattle.std.proofs.lemmas.List.{append-nil, drop_all}
use Rattle.std.specs.List.{list_all, AllPass}
use Rattle.std.proofs.lemmas.List.Sums.{list_all-from_AllPass}
use Rattle.std.specs.Prelude.{option_map}
use Rattle.vg_scan.specs.declared.chars.Chars.{Chars}
use Rattle.vg_scan.specs.Names.{before, canonical, is_backslash, is_bare, is_escaped, is_ordinary, is_quote, spelled, IsBad}

-- bytes before a name, if there is a name
abbrev pub onto : List ℕ → Option (List ℕ) → Option (List ℕ)
onto bytes name = option_map (λ rest. bytes ++ rest) name

pub onto-before : (bytes : List ℕ) (b : ℕ) (name : Option (List ℕ)) → onto bytes (before b name) ≡ onto (bytes ++ b ∷ []) name
onto-before bytes b None = refl
onto-before bytes b (Some rest) = ap Some (sym (append_assoc bytes (b ∷ []) rest))

pub full : (n : ℕ) → (n == 0) ≡ false → 0 < n
full zero e = absurd (cc)
full (suc n) e = omega arith

pub canonical-full : (chars : Chars) (text : List ℕ) → 0 < length text → canonical chars text ≡ spelled chars false text
canonical-full chars [] h = absurd (omega arith)
canonical-full chars (b ∷ bs) h = refl

-- what a text is from whose places below `at` these bytes came
pub canonical_end : (chars : Chars) (text bytes : List ℕ) (at : ℕ) (escaped : Bool) → 0 < length text → length text ≤ at
    → spelled chars false text ≡ onto bytes (spelled chars escaped (drop at text))
    → canonical chars text ≡ onto bytes (spelled chars escaped [])
canonical_end chars text bytes at escaped full end e = canonical-full chars text full ∙ e ∙ ap (λ t. onto bytes (spelled chars escaped t)) (drop_all at text end)

pub canonical_open : (chars : Chars) (text bytes : List ℕ) (escaped : Bool) → escaped ≡ true
    → canonical chars text ≡ onto bytes (spelled chars escaped []) → canonical chars text ≡ None
unfolding spelled
canonical_open chars text bytes escaped open_end e = e ∙ ap (λ b. onto bytes (spelled chars b [])) open_end

pub canonical_whole : (chars : Chars) (text bytes : List ℕ) (escaped : Bool) → escaped ≡ false
    → canonical chars text ≡ onto bytes (spelled chars escaped []) → canonical chars text ≡ Some bytes
unfolding spelled
canonical_whole chars text bytes escaped whole e = e ∙ ap (λ b. onto bytes (spelled chars b [])) whole ∙ ap Some (append-nil bytes)

-- what is known when the places below `at` have been read, and these bytes of the name came from them
pub record IsReadTo (chars : Chars) (text bytes : List ℕ) (at : ℕ) (escaped : Bool) : Type 0 where
  pub spells : spelled chars false text ≡ onto bytes (spelled chars escaped (drop at text))
  pub escaped_here : escaped ≡ is_escaped text at
  pub quotes : (place : ℕ) → place < at → is_bare 34 text place ≡ false

next_place : (text : List ℕ) (at : ℕ) → at < length text → drop at text ≡ get_or text at 0 ∷ drop (at + 1) text
next_place text at within = drop-cons text at 0 within ∙ ap (λ n. get_or text at 0 ∷ drop n text) (sym (add-one at))

pub read_on : (chars : Chars) (text bytes more : List ℕ) (at : ℕ) (escaped next : Bool) → IsReadTo chars text bytes at escaped → at < length text
    → ((rest : List ℕ) → onto bytes (spelled chars escaped (get_or text at 0 ∷ rest)) ≡ onto more (spelled chars next rest))
    → is_backslash (get_or text at 0) && not escaped ≡ next
    → is_quote (get_or text at 0) && not escaped ≡ false
    → IsReadTo chars text more (at + 1) next
read_on chars text bytes more at escaped next r within spells escapes quote = record {
  spells = r.spells ∙ ap (λ t. onto bytes (spelled chars escaped t)) (next_place text at within) ∙ spells (drop (at + 1) text);
  escaped_here = sym escapes ∙ ap (λ t. is_backslash (get_or text at 0) && not t) r.escaped_here ∙ ap (is_escaped text) (sym (add-one at));
  quotes = below_more (λ place. is_bare 34 text place ≡ false) at r.quotes (ap (λ t. is_quote (get_or text at 0) && not t) (sym r.escaped_here) ∙ quote);
}

pub quote_found : (chars : Chars) (text bytes : List ℕ) (at : ℕ) (escaped : Bool) → IsReadTo chars text bytes at escaped → 0 < length text → at < length text
    → ((rest : List ℕ) → spelled chars escaped (get_or text at 0 ∷ rest) ≡ None)
    → is_quote (get_or text at 0) && not escaped ≡ true
    → (canonical chars text ≡ None) × IsBad text
quote_found chars text bytes at escaped r some within spells quote = (
  canonical-full chars text some ∙ r.spells ∙ ap (λ t. onto bytes (spelled chars escaped t)) (next_place text at within) ∙ ap (onto bytes) (spells (drop (at + 1) text)),
  inr (inr (at, within, ap (λ t. is_quote (get_or text at 0) && not t) (sym r.escaped_here) ∙ quote)),
)

-- a text that is read to its end without a bare quote, and does not end escaped, is not bad
pub whole_text : (text : List ℕ) (at : ℕ) (escaped : Bool) → 0 < length text → at ≡ length text → escaped ≡ is_escaped text at → escaped ≡ false
    → ((place : ℕ) → place < at → is_bare 34 text place ≡ false) → IsBad text → ⊥
whole_text text at escaped some end e whole quotes bad =
    elim bad [
      | inl empty ↦ absurd (omega (arith, ap length empty))
      | inr more ↦ (elim more [
        | inl open_end ↦ absurd (let f : is_escaped text (length text) ≡ false = ap (is_escaped text) (sym end) ∙ sym e ∙ whole in cc)
        | inr quote ↦ absurd (let (place, within, bare) = quote in let f : is_bare 34 text place ≡ false = quotes place (omega arith) in cc)
      ])
    ]

ordinary_cases : (backslash quote divider left right : Bool) (b : ℕ) (bs : List ℕ) (hidden others : Option (List ℕ)) (fine : Bool)
    → (not (backslash || quote || divider || left || right) && fine) ≡ true → (fine ≡ true → others ≡ Some bs)
    → cond backslash hidden (cond quote None (before (cond divider 47 (cond left 91 (cond right 93 b))) others)) ≡ Some (b ∷ bs)
ordinary_cases true quote divider left right b bs hidden others fine all rest = absurd (cc)
ordinary_cases false true divider left right b bs hidden others fine all rest = absurd (cc)
ordinary_cases false false true left right b bs hidden others fine all rest = absurd (cc)
ordinary_cases false false false true right b bs hidden others fine all rest = absurd (cc)
ordinary_cases false false false false true b bs hidden others fine all rest = absurd (cc)
ordinary_cases false false false false false b bs hidden others fine all rest = ap (before b) (rest all)

ordinary_step : (chars : Chars) (b : ℕ) (bs : List ℕ) → (is_ordinary chars b && list_all (is_ordinary chars) bs) ≡ true
    → (list_all (is_ordinary chars) bs ≡ true → spelled chars false bs ≡ Some bs) → spelled chars false (b ∷ bs) ≡ Some (b ∷ bs)
unfolding spelled
ordinary_step chars b bs all rest =
    ordinary_cases (is_backslash b) (is_quote b) (b == chars.divider) (b == chars.bus_left) (b == chars.bus_right) b bs (spelled chars true bs) (spelled chars false bs) (list_all (is_ordinary chars) bs) all rest

pub spelled-ordinary : (chars : Chars) (bs : List ℕ) → list_all (is_ordinary chars) bs ≡ true → spelled chars false bs ≡ Some bs
unfolding spelled
spelled-ordinary chars [] all = refl
spelled-ordinary chars (b ∷ bs) all = ordinary_step chars b bs all (spelled-ordinary chars bs)

pub canonical-ordinary : (chars : Chars) (text : List ℕ) → 0 < length text → AllPass (is_ordinary chars) text → canonical chars text ≡ Some text
canonical-ordinary chars text some all = canonical-full chars text some ∙ spelled-ordinary chars text (list_all-from_AllPass (is_ordinary chars) text all)
