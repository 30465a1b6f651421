-- What begins a part still does when it is cut short.
use Rattle.std.proofs.Common.{◌≡◌, ℕ, ◌≤◌, List, [], ◌∷◌, ◌++◌, ◌⊎◌, inl, inr, refl, sym, ap, ◌∙◌, take, drop}
use Rattle.std.proofs.lemmas.List.{take-append-drop, take-take}
use Rattle.grammar_laws.specs.Grammar.{Part, Derives, Begins}
use Rattle.grammar_laws.specs.Grammar.Derives.{by_one, by_nothing, by_both, by_left, by_right, by_none, by_more, by_name}
use Rattle.grammar_laws.specs.Grammar.Begins.{at_start, at_one, in_first, in_rest, in_left, in_right, in_member, in_name}
use Rattle.grammar_laws.proofs.PartLemmas.{append_empty}
use Rattle.grammar_laws.proofs.LeadLemmas.{derives_begins, more_begins}

-- two ways to cut a list
append_split : {X : Type 0} (us vs xs ys : List X) → us ++ vs ≡ xs ++ ys
    → ((ws : List X) × (us ≡ xs ++ ws)) ⊎ ((ws : List X) × (xs ≡ us ++ ws) × (vs ≡ ws ++ ys))
append_split us vs [] ys e = inl (us, refl)
append_split [] vs (x ∷ xs) ys e = inr (x ∷ xs, refl, e)
append_split (u ∷ us) vs (x ∷ xs) ys e =
    let f : us ++ vs ≡ xs ++ ys = cc in
    elim (append_split us vs xs ys f) [ inl (ws, g) ↦ inl (ws, (cc)) | inr (ws, g, h) ↦ inr (ws, (cc), h) ]

front_of_one : {X : Type 0} (t : X) (xs ys : List X) → t ∷ [] ≡ xs ++ ys → (xs ≡ []) ⊎ (xs ≡ t ∷ [])
front_of_one t [] ys e = inl refl
front_of_one t (x ∷ xs) ys e =
    let f : xs ++ ys ≡ [] = cc in let (g, h) = append_empty xs ys f in inr (cc)

module _ {N T : Type 0} (rules : N → Part N T) where
  derives_front : {a : Part N T} {zs : List T} (xs ys : List T) → Derives rules a zs → zs ≡ xs ++ ys → Begins rules a xs
  derives_front xs ys (by_one {t = t} h) e = elim (front_of_one t xs ys e) [ inl f ↦ rw f at_start | inr f ↦ rw f (at_one h) ]
  derives_front xs ys by_nothing e = let (f, g) = append_empty xs ys (sym e) in rw f at_start
  derives_front xs ys (by_both {xs = us} {ys = vs} d k) e =
      elim (append_split us vs xs ys e) [
        | inl (ws, f) ↦ in_first (derives_front xs ws d f)
        | inr (ws, f, g) ↦ rw f (in_rest {xs = us} {ys = ws} d (derives_front ws ys k g))
      ]
  derives_front xs ys (by_left d) e = in_left (derives_front xs ys d e)
  derives_front xs ys (by_right d) e = in_right (derives_front xs ys d e)
  derives_front xs ys by_none e = let (f, g) = append_empty xs ys (sym e) in rw f at_start
  derives_front xs ys (by_more {xs = us} {ys = vs} d k) e =
      elim (append_split us vs xs ys e) [
        | inl (ws, f) ↦ in_member {xs = []} by_none (derives_front xs ws d f)
        | inr (ws, f, g) ↦ rw f (more_begins rules {xs = us} {ys = ws} d (derives_begins rules d) (derives_front ws ys k g))
      ]
  derives_front xs ys (by_name d) e = in_name (derives_front xs ys d e)

  pub begins_front_of : {a : Part N T} {zs : List T} (xs ys : List T) → Begins rules a zs → zs ≡ xs ++ ys → Begins rules a xs
  begins_front_of xs ys at_start e = let (f, g) = append_empty xs ys (sym e) in rw f at_start
  begins_front_of xs ys (at_one {t = t} h) e = elim (front_of_one t xs ys e) [ inl f ↦ rw f at_start | inr f ↦ rw f (at_one h) ]
  begins_front_of xs ys (in_first d) e = in_first (begins_front_of xs ys d e)
  begins_front_of xs ys (in_rest {xs = us} {ys = vs} d k) e =
      elim (append_split us vs xs ys e) [
        | inl (ws, f) ↦ in_first (derives_front xs ws d f)
        | inr (ws, f, g) ↦ rw f (in_rest {xs = us} {ys = ws} d (begins_front_of ws ys k g))
      ]
  begins_front_of xs ys (in_left d) e = in_left (begins_front_of xs ys d e)
  begins_front_of xs ys (in_right d) e = in_right (begins_front_of xs ys d e)
  begins_front_of xs ys (in_member {xs = us} {ys = vs} d k) e =
      elim (append_split us vs xs ys e) [
        | inl (ws, f) ↦ derives_front xs ws d f
        | inr (ws, f, g) ↦ rw f (in_member {xs = us} {ys = ws} d (begins_front_of ws ys k g))
      ]
  begins_front_of xs ys (in_name d) e = in_name (begins_front_of xs ys d e)

  pub begins_before : (part : Part N T) (ts : List T) (k : ℕ) (done : List T) (i : ℕ) → done ≡ take i ts → k ≤ i → Begins rules part done → Begins rules part (take k ts)
  begins_before part ts k done i e h b =
      let shorter : take k (take i ts) ≡ take k ts = take-take k i ts h in
      begins_front_of (take k ts) (drop k done) b (sym (take-append-drop k done) ∙ ap (λ (xs : List T). xs ++ drop k done) (ap (take k) e ∙ shorter))
