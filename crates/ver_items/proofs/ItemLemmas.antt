-- Items, token by token.
use Rattle.std.proofs.Common.{◌≡◌, ℕ, ◌-◌, Bool, true, false, ◌||◌, inl, inr, List, [], ◌∷◌, ◌++◌, length, take, drop, refl, sym, ap, subst, ◌∙◌, take_all, length-drop, arith}
use Rattle.std.proofs.lemmas.List.{append_assoc, map-append, take-append-drop}
use Rattle.std.specs.List.{list_any}
use Rattle.ver_text.specs.declared.kind.Kind.{Kind}
use Rattle.ver_text.specs.declared.kind.Kind.TheVariants.{Semicolon}
use Rattle.ver_syntax.specs.Grammar.{is}
use Rattle.ver_syntax.specs.declared.row.Place.{Place}
use Rattle.ver_syntax.specs.declared.row.Place.TheVariants.{Start}
use Rattle.ver_syntax.specs.declared.row.Row.{Row}
use Rattle.ver_syntax.specs.Rows.{kinds_in, place_after, rows_from, rows_of}
use Rattle.ver_text.specs.declared.token.Token.{Token}
use Rattle.ver_text.specs.Kinds.{kind_in}
use Rattle.ver_text.specs.Tokens.{tokens_of}
use Rattle.ver_items.specs.SectionSteps.{AreLinked, AtStart, IsItem}

linked_from : (text : List ℕ) (place : Place) (ts : List Token) → AreLinked (rows_from text place ts)
unfolding rows_from AreLinked
linked_from text place [] = tt
linked_from text place (t ∷ []) = tt
linked_from text place (t ∷ u ∷ ts) = (refl, linked_from text (place_after place (kind_in text t)) (u ∷ ts))

pub rows_linked : (text : List ℕ) → AreLinked (rows_of text)
rows_linked text = linked_from text Start (tokens_of text)

start_from : (text : List ℕ) (ts : List Token) → AtStart (rows_from text Start ts)
unfolding rows_from
start_from text [] = tt
start_from text (t ∷ ts) = refl

pub rows_at_start : (text : List ℕ) → AtStart (rows_of text)
rows_at_start text = start_from text (tokens_of text)

-- ---- one item

-- some tokens without a `;`, with nothing after them
pub last_item : (rows : List Row) → list_any (λ r. is Semicolon r.kind) rows ≡ false → IsItem rows []
unfolding IsItem
last_item [] e = refl
last_item (r ∷ []) e = inr refl
last_item (r ∷ q ∷ rows) e = both (is Semicolon r.kind) e (last_item (q ∷ rows))
  where
    both : (b : Bool) → (b || list_any (λ r. is Semicolon r.kind) (q ∷ rows)) ≡ false
        → (list_any (λ r. is Semicolon r.kind) (q ∷ rows) ≡ false → IsItem (q ∷ rows) []) → (b ≡ false) × IsItem (q ∷ rows) []
    both true f others = absurd (cc)
    both false f others = (refl, others f)

-- some tokens without a `;`, and one
pub whole_item : (rows after : List Row) (r : Row) → list_any (λ r. is Semicolon r.kind) rows ≡ false → is Semicolon r.kind ≡ true → IsItem (rows ++ r ∷ []) after
unfolding IsItem
whole_item [] after r e t = inl t
whole_item (q ∷ []) after r e t = (one (is Semicolon q.kind) e, inl t)
  where
    one : (b : Bool) → (b || false) ≡ false → b ≡ false
    one true f = absurd (cc)
    one false f = refl
whole_item (q ∷ p ∷ rows) after r e t = both (is Semicolon q.kind) e (λ f. whole_item (p ∷ rows) after r f t)
  where
    both : (b : Bool) → (b || list_any (λ r. is Semicolon r.kind) (p ∷ rows)) ≡ false
        → (list_any (λ r. is Semicolon r.kind) (p ∷ rows) ≡ false → IsItem (p ∷ rows ++ r ∷ []) after) → (b ≡ false) × IsItem (p ∷ rows ++ r ∷ []) after
    both true f others = absurd (cc)
    both false f others = (refl, others f)

-- ---- more tokens of one item

rest_all : (n : ℕ) (rows : List Row) → take (length rows - n) (drop n rows) ≡ drop n rows
rest_all n rows = take_all (length rows - n) (drop n rows) (simp length-drop (omega arith))

-- the kinds of tokens, to which more came
pub kinds_grown : (kinds : List Kind) (old new lent : List Row) (n : ℕ) → lent ≡ new → n ≡ length old → take (length old) new ≡ old
    → (kinds ++ kinds_in old) ++ kinds_in (take (length lent - n) (drop n lent)) ≡ kinds ++ kinds_in new
kinds_grown kinds old new lent n same e begun =
    let parts : old ++ drop n new ≡ new = rw e (subst (λ (rows : List Row). rows ++ drop (length old) new ≡ new) begun (take-append-drop (length old) new)) in
    rw same
    (append_assoc kinds (kinds_in old) (kinds_in (take (length new - n) (drop n new)))
    ∙ ap (λ ks. kinds ++ ks)
    (ap (λ rows. kinds_in old ++ kinds_in rows) (rest_all n new) ∙ sym (map-append (λ r. r.kind) old (drop n new)) ∙ ap kinds_in parts))
