-- A token leads from a part to what is left of it.
use Rattle.std.proofs.Common.{◌≡◌, Bool, true, false, cond, ◌&&◌, ◌||◌, List, [], ◌∷◌, ◌++◌, ◌⊎◌, inl, inr, refl, sym, ap, ◌∙◌, append_assoc}
use Rattle.grammar_laws.specs.Grammar.{Part, Derives, Begins}
use Rattle.grammar_laws.specs.Grammar.Part.{one, nothing, both, either, many, named}
use Rattle.grammar_laws.specs.Grammar.Derives.{by_one, by_nothing, by_both, by_left, by_right, by_none, by_more, by_name}
use Rattle.grammar_laws.specs.Grammar.Begins.{at_start, at_one, in_first, in_rest}
use Rattle.grammar_laws.specs.Ways.{can_be_empty, followed_by, DerivesAll, BeginsAll, AnyOf}

-- ---- ways

pub any_left : {X : Type 0} (P : X → Type 0) (xs ys : List X) → AnyOf P xs → AnyOf P (xs ++ ys)
any_left P [] ys h = absurd h
any_left P (x ∷ xs) ys (inl h) = inl h
any_left P (x ∷ xs) ys (inr h) = inr (any_left P xs ys h)

pub any_right : {X : Type 0} (P : X → Type 0) (xs ys : List X) → AnyOf P ys → AnyOf P (xs ++ ys)
any_right P [] ys h = h
any_right P (x ∷ xs) ys h = inr (any_right P xs ys h)

pub any_of_two : {X : Type 0} (P : X → Type 0) (xs ys : List X) → AnyOf P (xs ++ ys) → AnyOf P xs ⊎ AnyOf P ys
any_of_two P [] ys h = inr h
any_of_two P (x ∷ xs) ys (inl h) = inl (inl h)
any_of_two P (x ∷ xs) ys (inr h) = elim (any_of_two P xs ys h) [ inl k ↦ inl (inr k) | inr k ↦ inr k ]

pub any_weaker : {X : Type 0} (P Q : X → Type 0) → ((x : X) → P x → Q x) → (xs : List X) → AnyOf P xs → AnyOf Q xs
any_weaker P Q f [] h = absurd h
any_weaker P Q f (x ∷ xs) (inl h) = inl (f x h)
any_weaker P Q f (x ∷ xs) (inr h) = inr (any_weaker P Q f xs h)

pub any_followed : {X : Type 0} (P : List X → Type 0) (ks : List X) (ways : List (List X)) → AnyOf (λ way. P (way ++ ks)) ways → AnyOf P (followed_by ks ways)
any_followed P ks [] h = absurd h
any_followed P ks (way ∷ ways) (inl h) = inl h
any_followed P ks (way ∷ ways) (inr h) = inr (any_followed P ks ways h)

pub any_unfollowed : {X : Type 0} (P : List X → Type 0) (ks : List X) (ways : List (List X)) → AnyOf P (followed_by ks ways) → AnyOf (λ way. P (way ++ ks)) ways
any_unfollowed P ks [] h = absurd h
any_unfollowed P ks (way ∷ ways) (inl h) = inl h
any_unfollowed P ks (way ∷ ways) (inr h) = inr (any_unfollowed P ks ways h)

pub any_if : {X : Type 0} (P : X → Type 0) (b : Bool) (xs : List X) → b ≡ true → AnyOf P xs → AnyOf P (cond b xs [])
any_if P true xs e h = h
any_if P false xs e h = absurd (cc)

pub any_was : {X : Type 0} (P : X → Type 0) (b : Bool) (xs : List X) → AnyOf P (cond b xs []) → (b ≡ true) × AnyOf P xs
any_was P true xs h = (refl, h)
any_was P false xs h = absurd h

-- ---- lists of parts

pub and_parts : (a b : Bool) → (a && b) ≡ true → (a ≡ true) × (b ≡ true)
and_parts true b e = (refl, e)
and_parts false b e = absurd (cc)

pub and_both : (a b : Bool) → a ≡ true → b ≡ true → (a && b) ≡ true
and_both true b e f = f
and_both false b e f = absurd (cc)

pub or_one : (a b : Bool) → (a || b) ≡ true → (a ≡ true) ⊎ (b ≡ true)
or_one true b e = inl refl
or_one false b e = inr e

or_first : (a b : Bool) → a ≡ true → (a || b) ≡ true
or_first true b e = refl
or_first false b e = absurd (cc)

or_second : (a b : Bool) → b ≡ true → (a || b) ≡ true
or_second true b e = refl
or_second false b e = e

pub append_empty : {X : Type 0} (xs ys : List X) → xs ++ ys ≡ [] → (xs ≡ []) × (ys ≡ [])
append_empty [] ys e = (refl, e)
append_empty (x ∷ xs) ys e = absurd (cc)

-- where a list of two parts begins with t
pub append_cons : {X : Type 0} (xs ys zs : List X) (t : X) → xs ++ ys ≡ t ∷ zs
    → ((xs ≡ []) × (ys ≡ t ∷ zs)) ⊎ ((ws : List X) × (xs ≡ t ∷ ws) × (zs ≡ ws ++ ys))
append_cons [] ys zs t e = inl (refl, e)
append_cons (x ∷ xs) ys zs t e = inr (xs, (cc), (cc))

module _ {N T : Type 0} (rules : N → Part N T) where
  pub derives_append : (ks ls : List (Part N T)) (xs ys : List T) → DerivesAll rules ks xs → DerivesAll rules ls ys → DerivesAll rules (ks ++ ls) (xs ++ ys)
  derives_append [] ls xs ys h k = rw h k
  derives_append (a ∷ ks) ls xs ys (us, vs, d, h, e) k =
      (us, vs ++ ys, d, derives_append ks ls vs ys h k, ap (λ (zs : List T). zs ++ ys) e ∙ append_assoc us vs ys)

  pub derives_split : (ks ls : List (Part N T)) (ts : List T) → DerivesAll rules (ks ++ ls) ts
      → (xs : List T) × (ys : List T) × DerivesAll rules ks xs × DerivesAll rules ls ys × (ts ≡ xs ++ ys)
  derives_split [] ls ts h = ([], ts, refl, h, refl)
  derives_split (a ∷ ks) ls ts (us, vs, d, h, e) =
      let (xs, ys, k, l, f) = derives_split ks ls vs h in
      (us ++ xs, ys, (us, xs, d, k, refl), l, e ∙ ap (λ (zs : List T). us ++ zs) f ∙ sym (append_assoc us xs ys))

  pub begins_nothing : (ks : List (Part N T)) → BeginsAll rules ks []
  begins_nothing [] = refl
  begins_nothing (a ∷ ks) = inl at_start

  pub begins_front : (ks ls : List (Part N T)) (ts : List T) → BeginsAll rules ks ts → BeginsAll rules (ks ++ ls) ts
  begins_front [] ls ts h = rw h (begins_nothing ls)
  begins_front (a ∷ ks) ls ts (inl h) = inl h
  begins_front (a ∷ ks) ls ts (inr (us, vs, d, h, e)) = inr (us, vs, d, begins_front ks ls vs h, e)

  pub begins_append : (ks ls : List (Part N T)) (xs ys : List T) → DerivesAll rules ks xs → BeginsAll rules ls ys → BeginsAll rules (ks ++ ls) (xs ++ ys)
  begins_append [] ls xs ys h k = rw h k
  begins_append (a ∷ ks) ls xs ys (us, vs, d, h, e) k =
      inr (us, vs ++ ys, d, begins_append ks ls vs ys h k, ap (λ (zs : List T). zs ++ ys) e ∙ append_assoc us vs ys)

  pub begins_split : (ks ls : List (Part N T)) (ts : List T) → BeginsAll rules (ks ++ ls) ts
      → BeginsAll rules ks ts ⊎ ((xs : List T) × (ys : List T) × DerivesAll rules ks xs × BeginsAll rules ls ys × (ts ≡ xs ++ ys))
  begins_split [] ls ts h = inr ([], ts, refl, h, refl)
  begins_split (a ∷ ks) ls ts (inl h) = inl (inl h)
  begins_split (a ∷ ks) ls ts (inr (us, vs, d, h, e)) =
      elim (begins_split ks ls vs h) [
        | inl k ↦ inl (inr (us, vs, d, k, e))
        | inr (xs, ys, k, l, f) ↦
            inr (us ++ xs, ys, (us, xs, d, k, refl), l, e ∙ ap (λ (zs : List T). us ++ zs) f ∙ sym (append_assoc us xs ys))
      ]

-- ---- the empty list

pub record AreSolid {N T : Type 0} (rules : N → Part N T) : Type 0 where
  pub none_empty : (n : N) → can_be_empty (rules n) ≡ false

module _ {N T : Type 0} (rules : N → Part N T) (solid : AreSolid rules) where
  pub empty_means : {a : Part N T} {ts : List T} → Derives rules a ts → ts ≡ [] → can_be_empty a ≡ true
  empty_means (by_one h) e = absurd (cc)
  empty_means by_nothing e = refl
  empty_means (by_both {a = a} {b = b} {xs = xs} {ys = ys} d k) e =
      let (f, g) = append_empty xs ys e in and_both (can_be_empty a) (can_be_empty b) (empty_means d f) (empty_means k g)
  empty_means (by_left {a = a} {b = b} d) e = or_first (can_be_empty a) (can_be_empty b) (empty_means d e)
  empty_means (by_right {a = a} {b = b} d) e = or_second (can_be_empty a) (can_be_empty b) (empty_means d e)
  empty_means by_none e = refl
  empty_means (by_more d k) e = refl
  empty_means (by_name {n = n} d) e = let f = empty_means d e in let g = solid.none_empty n in absurd (cc)

  pub empty_when : (a : Part N T) → can_be_empty a ≡ true → Derives rules a []
  empty_when (one test) e = absurd (cc)
  empty_when nothing e = by_nothing
  empty_when (both a b) e =
      let (f, g) = and_parts (can_be_empty a) (can_be_empty b) e in by_both {xs = []} {ys = []} (empty_when a f) (empty_when b g)
  empty_when (either a b) e =
      elim (or_one (can_be_empty a) (can_be_empty b) e) [ inl f ↦ by_left (empty_when a f) | inr f ↦ by_right (empty_when b f) ]
  empty_when (many a) e = by_none
  empty_when (named n) e = absurd (cc)

-- ---- one token

-- after t, the part goes on in one of the ways, and in no other
pub record Leads {N T : Type 0} (rules : N → Part N T) (a : Part N T) (t : T) (ways : List (List (Part N T))) : Type 0 where
  pub derives : (ts : List T) → Derives rules a (t ∷ ts) → AnyOf (λ ks. DerivesAll rules ks ts) ways
  pub underives : (ts : List T) → AnyOf (λ ks. DerivesAll rules ks ts) ways → Derives rules a (t ∷ ts)
  pub begins : (ts : List T) → Begins rules a (t ∷ ts) → AnyOf (λ ks. BeginsAll rules ks ts) ways
  pub unbegins : (ts : List T) → AnyOf (λ ks. BeginsAll rules ks ts) ways → Begins rules a (t ∷ ts)

module _ {N T : Type 0} (rules : N → Part N T) where
  -- the parts of a derivation
  pub derives_one : {test : T → Bool} {ts : List T} → Derives rules (one test) ts → (t : T) × (test t ≡ true) × (ts ≡ t ∷ [])
  derives_one (by_one {t = t} h) = (t, h, refl)

  pub begins_one : {test : T → Bool} {ts : List T} → Begins rules (one test) ts → (ts ≡ []) ⊎ ((t : T) × (test t ≡ true) × (ts ≡ t ∷ []))
  begins_one at_start = inl refl
  begins_one (at_one {t = t} h) = inr (t, h, refl)

  pub derives_both : {a b : Part N T} {ts : List T} → Derives rules (both a b) ts
      → (xs : List T) × (ys : List T) × Derives rules a xs × Derives rules b ys × (ts ≡ xs ++ ys)
  derives_both (by_both {xs = xs} {ys = ys} d e) = (xs, ys, d, e, refl)

  pub begins_both : {a b : Part N T} {ts : List T} → Begins rules (both a b) ts
      → Begins rules a ts ⊎ ((xs : List T) × (ys : List T) × Derives rules a xs × Begins rules b ys × (ts ≡ xs ++ ys))
  begins_both at_start = inl at_start
  begins_both (in_first d) = inl d
  begins_both (in_rest {xs = xs} {ys = ys} d e) = inr (xs, ys, d, e, refl)
