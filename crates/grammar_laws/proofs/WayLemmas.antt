-- The ways to go on, token by token, to the first token that is not allowed.
use Rattle.std.proofs.Common.{◌≡◌, ℕ, ◌+◌, ◌<◌, Bool, true, false, cond, not, ◌||◌, List, [], ◌∷◌, ◌++◌, length, take, take_all, drop, get_or, inl, inr, refl, sym, ap, append_assoc, arith}
use Rattle.std.proofs.lemmas.List.{append-nil, take_more, take-append-drop}
use Rattle.grammar_laws.specs.Grammar.{Part, Derives, Begins, IsFault}
use Rattle.grammar_laws.specs.Grammar.Part.{one, nothing, both, either, many, named}
use Rattle.grammar_laws.specs.Ways.{can_be_empty, has_head, IsProper, closed, opened, followed_by, after, after_all, after_any, can_end, DerivesAll, BeginsAll, AnyOf, IsLeft}
use Rattle.grammar_laws.proofs.PartLemmas.{any_left, any_right, any_of_two, any_weaker, any_followed, any_unfollowed, any_if, any_was, append_cons, and_parts, and_both, append_empty, derives_append, derives_split, begins_nothing, begins_front, begins_append, begins_split, AreSolid, empty_means, empty_when, Leads}
use Rattle.grammar_laws.proofs.FrontLemmas.{begins_before}
use Rattle.grammar_laws.proofs.LeadLemmas.{any_at, any_find, derives_single, single_derives, single_begins, leads_one, leads_nothing, leads_both, leads_either, leads_many, leads_named}

or_when : (a b : Bool) → a ≡ true → (not a || b) ≡ true → b ≡ true
or_when true b e f = f
or_when false b e f = absurd (cc)

module _ {N T : Type 0} (rules : N → Part N T) (proper : IsProper rules) where
  solid : AreSolid rules
  solid = record { none_empty = proper.solid }

  leads_headed : (a : Part N T) (t : T) → has_head a ≡ true → Leads rules a t (after (closed {N = N} {T = T}) a t)
  leads_headed (one test) t h = leads_one rules test t
  leads_headed nothing t h = leads_nothing rules t
  leads_headed (both a b) t h =
      let (f, g) = and_parts (has_head a) (not (can_be_empty a) || has_head b) h in
      leads_both rules solid a b t (after (closed {N = N} {T = T}) a t) (after (closed {N = N} {T = T}) b t) (leads_headed a t f)
      (λ e. leads_headed b t (or_when (can_be_empty a) (has_head b) e g))
  leads_headed (either a b) t h =
      let (f, g) = and_parts (has_head a) (has_head b) h in
      leads_either rules a b t (after (closed {N = N} {T = T}) a t) (after (closed {N = N} {T = T}) b t) (leads_headed a t f) (leads_headed b t g)
  leads_headed (many a) t h = leads_many rules solid a t (after (closed {N = N} {T = T}) a t) (leads_headed a t h)
  leads_headed (named n) t h = absurd (cc)

  pub leads : (a : Part N T) (t : T) → Leads rules a t (after (opened rules) a t)
  leads (one test) t = leads_one rules test t
  leads nothing t = leads_nothing rules t
  leads (both a b) t =
      leads_both rules solid a b t (after (opened rules) a t) (after (opened rules) b t) (leads a t) (λ e. leads b t)
  leads (either a b) t = leads_either rules a b t (after (opened rules) a t) (after (opened rules) b t) (leads a t) (leads b t)
  leads (many a) t = leads_many rules solid a t (after (opened rules) a t) (leads a t)
  leads (named n) t = leads_named rules n t (opened rules n t) (leads_headed (rules n) t (proper.headed n))

  -- a list of parts
  pub all_derives : (ks : List (Part N T)) (t : T) (ts : List T) → DerivesAll rules ks (t ∷ ts) → AnyOf (λ ls. DerivesAll rules ls ts) (after_all rules ks t)
  all_derives [] t ts h = absurd (cc)
  all_derives (a ∷ ks) t ts (xs, ys, d, h, e) =
      elim (append_cons xs ys ts t (sym e)) [
        | inl (x, y) ↦
            any_right (λ ls. DerivesAll rules ls ts) (followed_by ks (after (opened rules) a t)) (cond (can_be_empty a) (after_all rules ks t) [])
            (any_if (λ ls. DerivesAll rules ls ts) (can_be_empty a) (after_all rules ks t) (empty_means rules solid d x)
            (all_derives ks t ts (rw y at h)))
        | inr (ws, x, y) ↦
            any_left (λ ls. DerivesAll rules ls ts) (followed_by ks (after (opened rules) a t)) (cond (can_be_empty a) (after_all rules ks t) [])
            (any_followed (λ ls. DerivesAll rules ls ts) ks (after (opened rules) a t)
            (any_weaker (λ ls. DerivesAll rules ls ws) (λ ls. DerivesAll rules (ls ++ ks) ts)
            (λ ls k. rw y (derives_append rules ls ks ws ys k h)) (after (opened rules) a t) ((leads a t).derives ws (rw x at d))))
      ]

  pub all_underives : (ks : List (Part N T)) (t : T) (ts : List T) → AnyOf (λ ls. DerivesAll rules ls ts) (after_all rules ks t) → DerivesAll rules ks (t ∷ ts)
  all_underives [] t ts h = absurd h
  all_underives (a ∷ ks) t ts h =
      elim (any_of_two (λ ls. DerivesAll rules ls ts) (followed_by ks (after (opened rules) a t)) (cond (can_be_empty a) (after_all rules ks t) []) h) [
        | inl k ↦
            let (way, i, d) = any_find (λ way. DerivesAll rules (way ++ ks) ts) (after (opened rules) a t) (any_unfollowed (λ ls. DerivesAll rules ls ts) ks (after (opened rules) a t) k) in
            let (xs, ys, e, f, g) = derives_split rules way ks ts d in
            (t ∷ xs, ys, (leads a t).underives xs (any_at (λ ls. DerivesAll rules ls xs) way (after (opened rules) a t) i e), f, ap (λ (zs : List T). t ∷ zs) g)
        | inr k ↦
            let (z, d) = any_was (λ ls. DerivesAll rules ls ts) (can_be_empty a) (after_all rules ks t) k in
            ([], t ∷ ts, empty_when rules solid a z, all_underives ks t ts d, refl)
      ]

  pub all_begins : (ks : List (Part N T)) (t : T) (ts : List T) → BeginsAll rules ks (t ∷ ts) → AnyOf (λ ls. BeginsAll rules ls ts) (after_all rules ks t)
  all_begins [] t ts h = absurd (cc)
  all_begins (a ∷ ks) t ts (inl d) =
      any_left (λ ls. BeginsAll rules ls ts) (followed_by ks (after (opened rules) a t)) (cond (can_be_empty a) (after_all rules ks t) [])
      (any_followed (λ ls. BeginsAll rules ls ts) ks (after (opened rules) a t)
      (any_weaker (λ ls. BeginsAll rules ls ts) (λ ls. BeginsAll rules (ls ++ ks) ts)
      (λ ls k. begins_front rules ls ks ts k) (after (opened rules) a t) ((leads a t).begins ts d)))
  all_begins (a ∷ ks) t ts (inr (xs, ys, d, h, e)) =
      elim (append_cons xs ys ts t (sym e)) [
        | inl (x, y) ↦
            any_right (λ ls. BeginsAll rules ls ts) (followed_by ks (after (opened rules) a t)) (cond (can_be_empty a) (after_all rules ks t) [])
            (any_if (λ ls. BeginsAll rules ls ts) (can_be_empty a) (after_all rules ks t) (empty_means rules solid d x)
            (all_begins ks t ts (rw y at h)))
        | inr (ws, x, y) ↦
            any_left (λ ls. BeginsAll rules ls ts) (followed_by ks (after (opened rules) a t)) (cond (can_be_empty a) (after_all rules ks t) [])
            (any_followed (λ ls. BeginsAll rules ls ts) ks (after (opened rules) a t)
            (any_weaker (λ ls. DerivesAll rules ls ws) (λ ls. BeginsAll rules (ls ++ ks) ts)
            (λ ls k. rw y (begins_append rules ls ks ws ys k h)) (after (opened rules) a t) ((leads a t).derives ws (rw x at d))))
      ]

  pub all_unbegins : (ks : List (Part N T)) (t : T) (ts : List T) → AnyOf (λ ls. BeginsAll rules ls ts) (after_all rules ks t) → BeginsAll rules ks (t ∷ ts)
  all_unbegins [] t ts h = absurd h
  all_unbegins (a ∷ ks) t ts h =
      elim (any_of_two (λ ls. BeginsAll rules ls ts) (followed_by ks (after (opened rules) a t)) (cond (can_be_empty a) (after_all rules ks t) []) h) [
        | inl k ↦
            let (way, i, d) = any_find (λ way. BeginsAll rules (way ++ ks) ts) (after (opened rules) a t) (any_unfollowed (λ ls. BeginsAll rules ls ts) ks (after (opened rules) a t) k) in
            elim (begins_split rules way ks ts d) [
              | inl e ↦ inl ((leads a t).unbegins ts (any_at (λ ls. BeginsAll rules ls ts) way (after (opened rules) a t) i e))
              | inr (xs, ys, e, f, g) ↦
                  inr (t ∷ xs, ys, (leads a t).underives xs (any_at (λ ls. DerivesAll rules ls xs) way (after (opened rules) a t) i e), f, ap (λ (zs : List T). t ∷ zs) g)
            ]
        | inr k ↦
            let (z, d) = any_was (λ ls. BeginsAll rules ls ts) (can_be_empty a) (after_all rules ks t) k in
            inr ([], t ∷ ts, empty_when rules solid a z, all_unbegins ks t ts d, refl)
      ]

  -- any of several ways
  any_step : (P : List (Part N T) → List T → Type 0) → ((ks : List (Part N T)) (t : T) (ts : List T) → P ks (t ∷ ts) → AnyOf (λ ls. P ls ts) (after_all rules ks t))
      → (ways : List (List (Part N T))) (t : T) (ts : List T) → AnyOf (λ ks. P ks (t ∷ ts)) ways → AnyOf (λ ls. P ls ts) (after_any rules ways t)
  any_step P f [] t ts h = h
  any_step P f (way ∷ ways) t ts (inl h) = any_left (λ ls. P ls ts) (after_all rules way t) (after_any rules ways t) (f way t ts h)
  any_step P f (way ∷ ways) t ts (inr h) = any_right (λ ls. P ls ts) (after_all rules way t) (after_any rules ways t) (any_step P f ways t ts h)

  any_unstep : (P : List (Part N T) → List T → Type 0) → ((ks : List (Part N T)) (t : T) (ts : List T) → AnyOf (λ ls. P ls ts) (after_all rules ks t) → P ks (t ∷ ts))
      → (ways : List (List (Part N T))) (t : T) (ts : List T) → AnyOf (λ ls. P ls ts) (after_any rules ways t) → AnyOf (λ ks. P ks (t ∷ ts)) ways
  any_unstep P f [] t ts h = h
  any_unstep P f (way ∷ ways) t ts h =
      elim (any_of_two (λ ls. P ls ts) (after_all rules way t) (after_any rules ways t) h) [
        | inl k ↦ inl (f way t ts k)
        | inr k ↦ inr (any_unstep P f ways t ts k)
      ]

  pub left_start : (part : Part N T) → IsLeft rules part [] ((part ∷ []) ∷ [])
  left_start part = record {
    derives = λ ts d. inl (derives_single rules part ts d);
    underives = λ ts h. elim h [ inl d ↦ single_derives rules part ts d | inr d ↦ absurd d ];
    begins = λ ts d. inl (inl d);
    unbegins = λ ts h. elim h [ inl d ↦ single_begins rules part ts d | inr d ↦ absurd d ];
  }

  -- one token more
  pub left_step : (part : Part N T) (done : List T) (t : T) (ways : List (List (Part N T))) → IsLeft rules part done ways
      → IsLeft rules part (done ++ t ∷ []) (after_any rules ways t)
  left_step part done t ways l = record {
    derives = λ ts d. any_step (DerivesAll rules) all_derives ways t ts (l.derives (t ∷ ts) (rw append_assoc at d));
    underives = λ ts h. rw append_assoc (l.underives (t ∷ ts) (any_unstep (DerivesAll rules) all_underives ways t ts h));
    begins = λ ts d. any_step (BeginsAll rules) all_begins ways t ts (l.begins (t ∷ ts) (rw append_assoc at d));
    unbegins = λ ts h. rw append_assoc (l.unbegins (t ∷ ts) (any_unstep (BeginsAll rules) all_unbegins ways t ts h));
  }

  pub can_end-derives : (ks : List (Part N T)) → can_end ks ≡ true → DerivesAll rules ks []
  can_end-derives [] e = refl
  can_end-derives (a ∷ ks) e =
      let (f, g) = and_parts (can_be_empty a) (can_end ks) e in ([], [], empty_when rules solid a f, can_end-derives ks g, refl)

  derives-can_end : (ks : List (Part N T)) → DerivesAll rules ks [] → can_end ks ≡ true
  derives-can_end [] h = refl
  derives-can_end (a ∷ ks) (xs, ys, d, h, e) =
      let (f, g) = append_empty xs ys (sym e) in
      and_both (can_be_empty a) (can_end ks) (empty_means rules solid d f) (derives-can_end ks (rw g at h))

  -- the end is reached where a way can end
  pub whole : (part : Part N T) (ts : List T) (ways : List (List (Part N T))) → IsLeft rules part ts ways → AnyOf (λ ks. can_end ks ≡ true) ways → Derives rules part ts
  whole part ts ways l h =
      rw append-nil at (l.underives [] (any_weaker (λ ks. can_end ks ≡ true) (λ ks. DerivesAll rules ks []) can_end-derives ways h))

  pub begun : (part : Part N T) (ts : List T) (way : List (Part N T)) (ways : List (List (Part N T))) → IsLeft rules part ts (way ∷ ways) → Begins rules part ts
  begun part ts way ways l = rw append-nil at (l.unbegins [] (inl (begins_nothing rules way)))

  -- no way can end
  pub fault_at_end : (part : Part N T) (ts : List T) (way : List (Part N T)) (ways : List (List (Part N T))) → IsLeft rules part ts (way ∷ ways)
      → (AnyOf (λ ks. can_end ks ≡ true) (way ∷ ways) → ⊥) → IsFault rules part ts (length ts)
  fault_at_end part ts way ways l none = record {
    within = omega arith;
    before = λ k h. begins_before rules part ts (k + 1) ts (length ts) (sym (take_all (length ts) ts (omega arith))) (omega arith) (begun part ts way ways l);
    here = λ h d. absurd (omega arith);
    broken = λ d. none (any_weaker (λ ks. DerivesAll rules ks []) (λ ks. can_end ks ≡ true) derives-can_end (way ∷ ways) (l.derives [] (rw append-nil d)));
  }

  -- no way takes the next token
  pub fault_at : (part : Part N T) (ts : List T) (i : ℕ) (d : T) (way : List (Part N T)) (ways : List (List (Part N T)))
      → IsLeft rules part (take i ts) (way ∷ ways) → i < length ts → after_any rules (way ∷ ways) (get_or ts i d) ≡ []
      → IsFault rules part ts i
  fault_at part ts i d way ways l in_ts stuck =
      let next : IsLeft rules part (take i ts ++ get_or ts i d ∷ []) [] = rw stuck at (left_step part (take i ts) (get_or ts i d) (way ∷ ways) l) in
      let more : take (i + 1) ts ≡ take i ts ++ get_or ts i d ∷ [] = take_more ts i d in_ts in
      record {
        within = omega arith;
        before = λ k h. begins_before rules part ts (k + 1) (take i ts) i refl (omega arith) (begun part (take i ts) way ways l);
        here = λ h b. next.begins [] (rw (append-nil, ← more) b);
        broken = λ b. next.derives (drop (i + 1) ts) (rw (← more, take-append-drop) b);
      }
