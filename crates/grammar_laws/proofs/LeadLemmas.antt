-- What each kind of part is after a token.
use Rattle.std.proofs.Common.{◌≡◌, Bool, true, cond, List, [], ◌∷◌, ◌++◌, ◌⊎◌, inl, inr, refl, sym, subst, append_assoc}
use Rattle.std.proofs.lemmas.List.{append-nil}
use Rattle.grammar_laws.specs.Grammar.{Part, Derives, Begins}
use Rattle.grammar_laws.specs.Grammar.Part.{one, nothing, both, either, many, named}
use Rattle.grammar_laws.specs.Grammar.Derives.{by_one, by_nothing, by_both, by_left, by_right, by_none, by_more, by_name}
use Rattle.grammar_laws.specs.Grammar.Begins.{at_start, at_one, in_first, in_rest, in_left, in_right, in_member, in_name}
use Rattle.grammar_laws.specs.Ways.{can_be_empty, parts_of, followed_by, DerivesAll, BeginsAll, AnyOf}
use Rattle.grammar_laws.proofs.PartLemmas.{any_left, any_right, any_of_two, any_weaker, any_followed, any_unfollowed, any_if, any_was, append_cons, derives_append, derives_split, begins_front, begins_append, begins_split, AreSolid, empty_means, empty_when, Leads, derives_one, begins_one, derives_both, begins_both}

abbrev pub In : {X : Type 0} → X → List X → Type 0
In x xs = AnyOf (λ y. y ≡ x) xs

pub any_at : {X : Type 0} (P : X → Type 0) (x : X) (xs : List X) → In x xs → P x → AnyOf P xs
any_at P x xs i h = any_weaker (λ y. y ≡ x) P (λ y e. subst P (sym e) h) xs i

pub any_find : {X : Type 0} (P : X → Type 0) (xs : List X) → AnyOf P xs → (x : X) × In x xs × P x
any_find P [] h = absurd h
any_find P (x ∷ xs) (inl h) = (x, inl refl, h)
any_find P (x ∷ xs) (inr h) = let (y, i, k) = any_find P xs h in (y, inr i, k)

module _ {N T : Type 0} (rules : N → Part N T) where
  pub derives_single : (a : Part N T) (ts : List T) → Derives rules a ts → DerivesAll rules (a ∷ []) ts
  derives_single a ts d = (ts, [], d, refl, sym (append-nil ts))

  pub single_derives : (a : Part N T) (ts : List T) → DerivesAll rules (a ∷ []) ts → Derives rules a ts
  single_derives a ts (xs, ys, d, e, f) = rw (f, e, append-nil) d

  pub more_begins : {a : Part N T} {xs ys : List T} → Derives rules a xs → Begins rules a xs → Begins rules (many a) ys → Begins rules (many a) (xs ++ ys)
  more_begins {xs = xs} d b at_start = rw append-nil (in_member {xs = []} by_none b)
  more_begins {xs = xs} d b (in_member {xs = us} {ys = vs} m k) = rw (← append_assoc xs us vs) (in_member {xs = xs ++ us} {ys = vs} (by_more d m) k)

  -- a whole part begins it
  pub derives_begins : {a : Part N T} {ts : List T} → Derives rules a ts → Begins rules a ts
  derives_begins (by_one h) = at_one h
  derives_begins by_nothing = at_start
  derives_begins (by_both d k) = in_rest d (derives_begins k)
  derives_begins (by_left d) = in_left (derives_begins d)
  derives_begins (by_right d) = in_right (derives_begins d)
  derives_begins by_none = at_start
  derives_begins (by_more d k) = more_begins d (derives_begins d) (derives_begins k)
  derives_begins (by_name d) = in_name (derives_begins d)

  pub single_begins : (a : Part N T) (ts : List T) → BeginsAll rules (a ∷ []) ts → Begins rules a ts
  single_begins a ts (inl b) = b
  single_begins a ts (inr (xs, ys, d, e, f)) = rw (f, e, append-nil) (derives_begins d)

  pub leads_one : (test : T → Bool) (t : T) → Leads rules (one test) t (cond (test t) ([] ∷ []) [])
  leads_one test t = record {
    derives = λ ts d.
        let (u, h, e) = derives_one rules d in
        any_if (λ ks. DerivesAll rules ks ts) (test t) ([] ∷ []) (cc) (inl (cc));
    underives = λ ts h.
        let (e, k) = any_was (λ ks. DerivesAll rules ks ts) (test t) ([] ∷ []) h in
        elim k [ inl f ↦ rw f (by_one e) | inr f ↦ absurd f ];
    begins = λ ts d.
        elim (begins_one rules d) [
          | inl e ↦ absurd (cc)
          | inr (u, h, e) ↦ any_if (λ ks. BeginsAll rules ks ts) (test t) ([] ∷ []) (cc) (inl (cc))
        ];
    unbegins = λ ts h.
        let (e, k) = any_was (λ ks. BeginsAll rules ks ts) (test t) ([] ∷ []) h in
        elim k [ inl f ↦ rw f (at_one e) | inr f ↦ absurd f ];
  }

  derives_nothing : {us : List T} → Derives rules nothing us → us ≡ []
  derives_nothing by_nothing = refl

  begins_with_nothing : {us : List T} → Begins rules nothing us → us ≡ []
  begins_with_nothing at_start = refl

  pub leads_nothing : (t : T) → Leads rules nothing t []
  leads_nothing t = record {
    derives = λ ts d. let e = derives_nothing d in absurd (cc);
    underives = λ ts h. absurd h;
    begins = λ ts d. let e = begins_with_nothing d in absurd (cc);
    unbegins = λ ts h. absurd h;
  }

  derives_either : {a b : Part N T} {ts : List T} → Derives rules (either a b) ts → Derives rules a ts ⊎ Derives rules b ts
  derives_either (by_left d) = inl d
  derives_either (by_right d) = inr d

  begins_either : {a b : Part N T} {ts : List T} → Begins rules (either a b) ts → Begins rules a ts ⊎ Begins rules b ts
  begins_either at_start = inl at_start
  begins_either (in_left d) = inl d
  begins_either (in_right d) = inr d

  pub leads_either : (a b : Part N T) (t : T) (f g : List (List (Part N T))) → Leads rules a t f → Leads rules b t g → Leads rules (either a b) t (f ++ g)
  leads_either a b t f g la lb = record {
    derives = λ ts d.
        elim (derives_either d) [
          | inl e ↦ any_left (λ ks. DerivesAll rules ks ts) f g (la.derives ts e)
          | inr e ↦ any_right (λ ks. DerivesAll rules ks ts) f g (lb.derives ts e)
        ];
    underives = λ ts h.
        elim (any_of_two (λ ks. DerivesAll rules ks ts) f g h) [
          | inl e ↦ by_left (la.underives ts e)
          | inr e ↦ by_right (lb.underives ts e)
        ];
    begins = λ ts d.
        elim (begins_either d) [
          | inl e ↦ any_left (λ ks. BeginsAll rules ks ts) f g (la.begins ts e)
          | inr e ↦ any_right (λ ks. BeginsAll rules ks ts) f g (lb.begins ts e)
        ];
    unbegins = λ ts h.
        elim (any_of_two (λ ks. BeginsAll rules ks ts) f g h) [
          | inl e ↦ in_left (la.unbegins ts e)
          | inr e ↦ in_right (lb.unbegins ts e)
        ];
  }

  derives_name : {n : N} {ts : List T} → Derives rules (named n) ts → Derives rules (rules n) ts
  derives_name (by_name d) = d

  begins_name : {n : N} {ts : List T} → Begins rules (named n) ts → Begins rules (rules n) ts
  begins_name at_start = at_start
  begins_name (in_name d) = d

  pub leads_named : (n : N) (t : T) (f : List (List (Part N T))) → Leads rules (rules n) t f → Leads rules (named n) t f
  leads_named n t f l = record {
    derives = λ ts d. l.derives ts (derives_name d);
    underives = λ ts h. by_name (l.underives ts h);
    begins = λ ts d. l.begins ts (begins_name d);
    unbegins = λ ts h. in_name (l.unbegins ts h);
  }

  -- a sequence and its members
  flat_derives : (b : Part N T) (ts : List T) → Derives rules b ts → DerivesAll rules (parts_of b) ts
  flat_derives nothing ts d = derives_nothing d
  flat_derives (both a b) ts d =
      let (xs, ys, h, k, e) = derives_both rules d in
      rw e (derives_append rules (parts_of a) (parts_of b) xs ys (flat_derives a xs h) (flat_derives b ys k))
  flat_derives b ts d = derives_single b ts d

  unflat_derives : (b : Part N T) (ts : List T) → DerivesAll rules (parts_of b) ts → Derives rules b ts
  unflat_derives nothing ts d = rw d by_nothing
  unflat_derives (both a b) ts d =
      let (xs, ys, h, k, e) = derives_split rules (parts_of a) (parts_of b) ts d in
      rw e (by_both {xs = xs} {ys = ys} (unflat_derives a xs h) (unflat_derives b ys k))
  unflat_derives b ts d = single_derives b ts d

  flat_begins : (b : Part N T) (ts : List T) → Begins rules b ts → BeginsAll rules (parts_of b) ts
  flat_begins nothing ts d = begins_with_nothing d
  flat_begins (both a b) ts d =
      elim (begins_both rules d) [
        | inl h ↦ begins_front rules (parts_of a) (parts_of b) ts (flat_begins a ts h)
        | inr (xs, ys, h, k, e) ↦
            rw e (begins_append rules (parts_of a) (parts_of b) xs ys (flat_derives a xs h) (flat_begins b ys k))
      ]
  flat_begins b ts d = inl d

  unflat_begins : (b : Part N T) (ts : List T) → BeginsAll rules (parts_of b) ts → Begins rules b ts
  unflat_begins nothing ts d = rw d at_start
  unflat_begins (both a b) ts d =
      elim (begins_split rules (parts_of a) (parts_of b) ts d) [
        | inl h ↦ in_first (unflat_begins a ts h)
        | inr (xs, ys, h, k, e) ↦ rw e (in_rest {xs = xs} {ys = ys} (unflat_derives a xs h) (unflat_begins b ys k))
      ]
  unflat_begins b ts d = single_begins b ts d

  -- the ways of a part followed by another
  on_derives : (a b : Part N T) (t : T) (f : List (List (Part N T))) → Leads rules a t f → (ws ys : List T) → Derives rules a (t ∷ ws) → Derives rules b ys
      → AnyOf (λ ks. DerivesAll rules ks (ws ++ ys)) (followed_by (parts_of b) f)
  on_derives a b t f la ws ys d k =
      any_followed (λ ks. DerivesAll rules ks (ws ++ ys)) (parts_of b) f
      (any_weaker (λ ks. DerivesAll rules ks ws) (λ ks. DerivesAll rules (ks ++ parts_of b) (ws ++ ys))
      (λ ks h. derives_append rules ks (parts_of b) ws ys h (flat_derives b ys k)) f (la.derives ws d))

  on_underives : (a b : Part N T) (t : T) (f : List (List (Part N T))) → Leads rules a t f → (ts : List T)
      → AnyOf (λ ks. DerivesAll rules ks ts) (followed_by (parts_of b) f)
      → (xs : List T) × (ys : List T) × Derives rules a (t ∷ xs) × Derives rules b ys × (ts ≡ xs ++ ys)
  on_underives a b t f la ts h =
      let (way, i, k) = any_find (λ way. DerivesAll rules (way ++ parts_of b) ts) f (any_unfollowed (λ ks. DerivesAll rules ks ts) (parts_of b) f h) in
      let (xs, ys, d, e, g) = derives_split rules way (parts_of b) ts k in
      (xs, ys, la.underives xs (any_at (λ ks. DerivesAll rules ks xs) way f i d), unflat_derives b ys e, g)

  on_first : (a b : Part N T) (t : T) (f : List (List (Part N T))) → Leads rules a t f → (ts : List T) → Begins rules a (t ∷ ts)
      → AnyOf (λ ks. BeginsAll rules ks ts) (followed_by (parts_of b) f)
  on_first a b t f la ts d =
      any_followed (λ ks. BeginsAll rules ks ts) (parts_of b) f
      (any_weaker (λ ks. BeginsAll rules ks ts) (λ ks. BeginsAll rules (ks ++ parts_of b) ts)
      (λ ks h. begins_front rules ks (parts_of b) ts h) f (la.begins ts d))

  on_rest : (a b : Part N T) (t : T) (f : List (List (Part N T))) → Leads rules a t f → (ws ys : List T) → Derives rules a (t ∷ ws) → Begins rules b ys
      → AnyOf (λ ks. BeginsAll rules ks (ws ++ ys)) (followed_by (parts_of b) f)
  on_rest a b t f la ws ys d k =
      any_followed (λ ks. BeginsAll rules ks (ws ++ ys)) (parts_of b) f
      (any_weaker (λ ks. DerivesAll rules ks ws) (λ ks. BeginsAll rules (ks ++ parts_of b) (ws ++ ys))
      (λ ks h. begins_append rules ks (parts_of b) ws ys h (flat_begins b ys k)) f (la.derives ws d))

  on_unbegins : (a b : Part N T) (t : T) (f : List (List (Part N T))) → Leads rules a t f → (ts : List T)
      → AnyOf (λ ks. BeginsAll rules ks ts) (followed_by (parts_of b) f)
      → Begins rules a (t ∷ ts) ⊎ ((xs : List T) × (ys : List T) × Derives rules a (t ∷ xs) × Begins rules b ys × (ts ≡ xs ++ ys))
  on_unbegins a b t f la ts h =
      let (way, i, k) = any_find (λ way. BeginsAll rules (way ++ parts_of b) ts) f (any_unfollowed (λ ks. BeginsAll rules ks ts) (parts_of b) f h) in
      elim (begins_split rules way (parts_of b) ts k) [
        | inl d ↦ inl (la.unbegins ts (any_at (λ ks. BeginsAll rules ks ts) way f i d))
        | inr (xs, ys, d, e, g) ↦ inr (xs, ys, la.underives xs (any_at (λ ks. DerivesAll rules ks xs) way f i d), unflat_begins b ys e, g)
      ]

module _ {N T : Type 0} (rules : N → Part N T) (solid : AreSolid rules) where
  pub leads_both : (a b : Part N T) (t : T) (f g : List (List (Part N T))) → Leads rules a t f → (can_be_empty a ≡ true → Leads rules b t g)
      → Leads rules (both a b) t (followed_by (parts_of b) f ++ cond (can_be_empty a) g [])
  leads_both a b t f g la lb = record {
    derives = λ ts d.
        let (xs, ys, h, k, e) = derives_both rules d in
        elim (append_cons xs ys ts t (sym e)) [
          | inl (x, y) ↦
              any_right (λ ks. DerivesAll rules ks ts) (followed_by (parts_of b) f) (cond (can_be_empty a) g [])
              (let z : can_be_empty a ≡ true = empty_means rules solid h x in
              any_if (λ ks. DerivesAll rules ks ts) (can_be_empty a) g z ((lb z).derives ts (rw y at k)))
          | inr (ws, x, y) ↦
              any_left (λ ks. DerivesAll rules ks ts) (followed_by (parts_of b) f) (cond (can_be_empty a) g [])
              (rw y (on_derives rules a b t f la ws ys (rw x at h) k))
        ];
    underives = λ ts h.
        elim (any_of_two (λ ks. DerivesAll rules ks ts) (followed_by (parts_of b) f) (cond (can_be_empty a) g []) h) [
          | inl k ↦ let (xs, ys, d, e, z) = on_underives rules a b t f la ts k in rw z (by_both {xs = t ∷ xs} {ys = ys} d e)
          | inr k ↦
              let (z, d) = any_was (λ ks. DerivesAll rules ks ts) (can_be_empty a) g k in
              by_both {xs = []} (empty_when rules solid a z) ((lb z).underives ts d)
        ];
    begins = λ ts d.
        elim (begins_both rules d) [
          | inl h ↦
              any_left (λ ks. BeginsAll rules ks ts) (followed_by (parts_of b) f) (cond (can_be_empty a) g [])
              (on_first rules a b t f la ts h)
          | inr (xs, ys, h, k, e) ↦
              elim (append_cons xs ys ts t (sym e)) [
                | inl (x, y) ↦
                    any_right (λ ks. BeginsAll rules ks ts) (followed_by (parts_of b) f) (cond (can_be_empty a) g [])
                    (let z : can_be_empty a ≡ true = empty_means rules solid h x in
                    any_if (λ ks. BeginsAll rules ks ts) (can_be_empty a) g z ((lb z).begins ts (rw y at k)))
                | inr (ws, x, y) ↦
                    any_left (λ ks. BeginsAll rules ks ts) (followed_by (parts_of b) f) (cond (can_be_empty a) g [])
                    (rw y (on_rest rules a b t f la ws ys (rw x at h) k))
              ]
        ];
    unbegins = λ ts h.
        elim (any_of_two (λ ks. BeginsAll rules ks ts) (followed_by (parts_of b) f) (cond (can_be_empty a) g []) h) [
          | inl k ↦
              elim (on_unbegins rules a b t f la ts k) [
                | inl d ↦ in_first d
                | inr (xs, ys, d, e, z) ↦ rw z (in_rest {xs = t ∷ xs} {ys = ys} d e)
              ]
          | inr k ↦
              let (z, d) = any_was (λ ks. BeginsAll rules ks ts) (can_be_empty a) g k in
              in_rest {xs = []} (empty_when rules solid a z) ((lb z).unbegins ts d)
        ];
  }

  many_derives : (a : Part N T) (t : T) (f : List (List (Part N T))) → Leads rules a t f → {us : List T} (ts : List T) → Derives rules (many a) us → us ≡ t ∷ ts
      → (xs : List T) × (ys : List T) × Derives rules a (t ∷ xs) × Derives rules (many a) ys × (ts ≡ xs ++ ys)
  many_derives a t f la ts by_none e = absurd (cc)
  many_derives a t f la ts (by_more {xs = xs} {ys = ys} d k) e =
      elim (append_cons xs ys ts t e) [
        | inl (x, y) ↦ many_derives a t f la ts k y
        | inr (ws, x, y) ↦ (ws, ys, rw x at d, k, y)
      ]

  begins_many : (a : Part N T) {us : List T} → Begins rules (many a) us
      → (us ≡ []) ⊎ ((xs : List T) × (ys : List T) × Derives rules (many a) xs × Begins rules a ys × (us ≡ xs ++ ys))
  begins_many a at_start = inl refl
  begins_many a (in_member {xs = xs} {ys = ys} d b) = inr (xs, ys, d, b, refl)

  pub leads_many : (a : Part N T) (t : T) (f : List (List (Part N T))) → Leads rules a t f → Leads rules (many a) t (followed_by (many a ∷ []) f)
  leads_many a t f la = record {
    derives = λ ts d.
        let (xs, ys, h, k, e) = many_derives a t f la ts d refl in
        rw e (on_derives rules a (many a) t f la xs ys h k);
    underives = λ ts h.
        let (xs, ys, d, k, e) = on_underives rules a (many a) t f la ts h in
        rw e (by_more {xs = t ∷ xs} {ys = ys} d k);
    begins = λ ts d.
        elim (begins_many a d) [
          | inl e ↦ absurd (cc)
          | inr (xs, ys, m, b, e) ↦
              elim (append_cons xs ys ts t (sym e)) [
                | inl (x, y) ↦ on_first rules a (many a) t f la ts (rw y at b)
                | inr (ws, x, y) ↦
                    let (us, vs, h, k, z) = many_derives a t f la ws m x in
                    rw (y, z, append_assoc) (on_rest rules a (many a) t f la us (vs ++ ys) h (in_member {xs = vs} {ys = ys} k b))
              ]
        ];
    unbegins = λ ts h.
        elim (on_unbegins rules a (many a) t f la ts h) [
          | inl d ↦ in_member {xs = []} by_none d
          | inr (xs, ys, d, b, e) ↦ rw e (more_begins rules {xs = t ∷ xs} {ys = ys} d (derives_begins rules d) b)
        ];
  }
