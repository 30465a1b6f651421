-- Phrases of tokens that a machine reads at once.
use Rattle.std.proofs.Common.{◌≡◌, ℕ, ◌-◌, ◌≤◌, List, [], ◌∷◌, ◌++◌, length, take, drop, get_or, Option, Some, None, refl, sym, ap, ◌∙◌, subst, take_all, length-drop, arith}
use Rattle.std.proofs.lemmas.List.{append-nil, append_assoc}
use Rattle.ver_text.specs.declared.kind.Kind.{Kind}
use Rattle.ver_text.specs.declared.kind.Kind.TheVariants.{Module}
use Rattle.ver_syntax.specs.declared.machine.Machine.{Machine}
use Rattle.ver_syntax.specs.declared.state.At.{At}
use Rattle.ver_syntax.specs.declared.state.Brace.{Brace}
use Rattle.ver_syntax.specs.Moves.{State, next}
use Rattle.ver_syntax.specs.Phrases.{IsPhrase, moves}
use Rattle.ver_syntax.specs.Reading.{HasKinds, HasKindsBefore}
use Rattle.ver_syntax.specs.Rows.{kinds_in}
use Rattle.ver_syntax.specs.declared.row.Place.TheVariants.{Start}
use Rattle.ver_syntax.specs.declared.row.Row.{Row}
use Rattle.ver_syntax.proofs.KindLemmas.{kinds_more}

-- a machine in a state
abbrev in_state : State → Machine
in_state s = record { at = Some s.at; braces = s.open_braces }

stuck : (ks : List Kind) (t : State) → moves None ks ≡ Some t → ⊥
stuck [] t e = cc
stuck (k ∷ ks) t e = cc

kinds_moved : (kinds phrase : List Kind) (s t : State) → HasKinds kinds (in_state s) → moves (Some s) phrase ≡ Some t → HasKinds (kinds ++ phrase) (in_state t)
kinds_moved kinds [] s t h e =
    let same : s ≡ t = cc in
    subst (λ ks. HasKinds ks (in_state t)) (sym (append-nil kinds)) (subst (λ u. HasKinds kinds (in_state u)) same h)
kinds_moved kinds (k ∷ ks) s t h e = by_next (next s k) refl e (λ u g f. kinds_moved (kinds ++ k ∷ []) ks u t g f)
  where
    by_next : (found : Option State) → next s k ≡ found → moves found ks ≡ Some t
        → ((u : State) → HasKinds (kinds ++ k ∷ []) (in_state u) → moves (Some u) ks ≡ Some t → HasKinds ((kinds ++ k ∷ []) ++ ks) (in_state t))
        → HasKinds (kinds ++ k ∷ ks) (in_state t)
    by_next None f g on = absurd (stuck ks t g)
    by_next (Some u) f g on =
        subst (λ all. HasKinds all (in_state t)) (append_assoc kinds (k ∷ []) ks)
        (on u (kinds_more kinds k (in_state s) (in_state u) s.at h refl (sym f)) g)

-- a machine has read a phrase
pub phrase_read : (rows left : List Kind) (old : Machine) (at to : At) (bs : List Brace) → old.at ≡ Some at → IsPhrase at to rows left → bs ≡ []
    → (kinds : List Kind) → HasKinds kinds old → HasKindsBefore left (kinds ++ rows) (record { at = Some to; braces = bs })
phrase_read rows left old at to bs e p none kinds h =
    let s : State = record { at = at; open_braces = old.braces } in
    let t : State = record { at = to; open_braces = [] } in
    let here : HasKinds kinds (in_state s) = subst (λ (o : Option At). HasKinds kinds (record { at = o; braces = old.braces })) e h in
    record {
      before = kinds ++ p.phrase;
      read = subst (λ (b : List Brace). HasKinds (kinds ++ p.phrase) (record { at = Some to; braces = b })) (sym none) (kinds_moved kinds p.phrase s t here (p.leads old.braces));
      whole = append_assoc kinds p.phrase left ∙ ap (λ ks. kinds ++ ks) (sym p.cut);
    }

-- a machine has read all tokens
pub all_read : (kinds : List Kind) (m : Machine) → HasKindsBefore [] kinds m → HasKinds kinds m
all_read kinds m b = subst (λ ks. HasKinds ks m) (sym (append-nil b.before) ∙ b.whole) b.read

-- ---- phrases among tokens

abbrev none : Row
none = record { place = Start; kind = Module; from = 0; to = 0 }

rest_all : (n : ℕ) (rows : List Row) → take (length rows - n) (drop n rows) ≡ drop n rows
rest_all n rows = take_all (length rows - n) (drop n rows) (simp length-drop (omega arith))

pub phrase_of_2 : (at to : At) (rows : List Row) (a b : Kind) → 2 ≤ length rows → (get_or rows 0 none).kind ≡ a → (get_or rows 1 none).kind ≡ b
    → ((bs : List Brace) → moves (Some (record { at = at; open_braces = bs })) (a ∷ b ∷ []) ≡ Some (record { at = to; open_braces = [] }))
    → IsPhrase at to (kinds_in rows) (kinds_in (take (length rows - 2) (drop 2 rows)))
phrase_of_2 at to rows a b l e f leads = record {
  phrase = a ∷ b ∷ [];
  cut = rw (rest_all 2 rows) (cut rows l e f);
  some = omega arith;
  leads = leads;
}
  where
    cut : (rows : List Row) → 2 ≤ length rows → (get_or rows 0 none).kind ≡ a → (get_or rows 1 none).kind ≡ b → kinds_in rows ≡ a ∷ b ∷ kinds_in (drop 2 rows)
    cut [] l e f = absurd (omega (arith, l))
    cut (q ∷ []) l e f = absurd (omega (arith, l))
    cut (q ∷ r ∷ rows) l e f = rw (e, f) refl

pub phrase_of_3 : (at to : At) (rows : List Row) (a b c : Kind) → 3 ≤ length rows → (get_or rows 0 none).kind ≡ a → (get_or rows 1 none).kind ≡ b → (get_or rows 2 none).kind ≡ c
    → ((bs : List Brace) → moves (Some (record { at = at; open_braces = bs })) (a ∷ b ∷ c ∷ []) ≡ Some (record { at = to; open_braces = [] }))
    → IsPhrase at to (kinds_in rows) (kinds_in (take (length rows - 3) (drop 3 rows)))
phrase_of_3 at to rows a b c l e f g leads = record {
  phrase = a ∷ b ∷ c ∷ [];
  cut = rw (rest_all 3 rows) (cut rows l e f g);
  some = omega arith;
  leads = leads;
}
  where
    cut : (rows : List Row) → 3 ≤ length rows → (get_or rows 0 none).kind ≡ a → (get_or rows 1 none).kind ≡ b → (get_or rows 2 none).kind ≡ c → kinds_in rows ≡ a ∷ b ∷ c ∷ kinds_in (drop 3 rows)
    cut [] l e f g = absurd (omega (arith, l))
    cut (q ∷ []) l e f g = absurd (omega (arith, l))
    cut (q ∷ r ∷ []) l e f g = absurd (omega (arith, l))
    cut (q ∷ r ∷ s ∷ rows) l e f g = rw (e, f, g) refl

pub phrase_of_5 : (at to : At) (rows : List Row) (a b c d k : Kind) → 5 ≤ length rows → (get_or rows 0 none).kind ≡ a → (get_or rows 1 none).kind ≡ b → (get_or rows 2 none).kind ≡ c → (get_or rows 3 none).kind ≡ d → (get_or rows 4 none).kind ≡ k
    → ((bs : List Brace) → moves (Some (record { at = at; open_braces = bs })) (a ∷ b ∷ c ∷ d ∷ k ∷ []) ≡ Some (record { at = to; open_braces = [] }))
    → IsPhrase at to (kinds_in rows) (kinds_in (take (length rows - 5) (drop 5 rows)))
phrase_of_5 at to rows a b c d k l e f g h i leads = record {
  phrase = a ∷ b ∷ c ∷ d ∷ k ∷ [];
  cut = rw (rest_all 5 rows) (cut rows l e f g h i);
  some = omega arith;
  leads = leads;
}
  where
    cut : (rows : List Row) → 5 ≤ length rows → (get_or rows 0 none).kind ≡ a → (get_or rows 1 none).kind ≡ b → (get_or rows 2 none).kind ≡ c → (get_or rows 3 none).kind ≡ d → (get_or rows 4 none).kind ≡ k → kinds_in rows ≡ a ∷ b ∷ c ∷ d ∷ k ∷ kinds_in (drop 5 rows)
    cut [] l e f g h i = absurd (omega (arith, l))
    cut (q ∷ []) l e f g h i = absurd (omega (arith, l))
    cut (q ∷ r ∷ []) l e f g h i = absurd (omega (arith, l))
    cut (q ∷ r ∷ s ∷ []) l e f g h i = absurd (omega (arith, l))
    cut (q ∷ r ∷ s ∷ t ∷ []) l e f g h i = absurd (omega (arith, l))
    cut (q ∷ r ∷ s ∷ t ∷ u ∷ rows) l e f g h i = rw (e, f, g, h, i) refl

pub phrase_of_6 : (at to : At) (rows : List Row) (a b c d k m : Kind) → 6 ≤ length rows → (get_or rows 0 none).kind ≡ a → (get_or rows 1 none).kind ≡ b → (get_or rows 2 none).kind ≡ c → (get_or rows 3 none).kind ≡ d → (get_or rows 4 none).kind ≡ k → (get_or rows 5 none).kind ≡ m
    → ((bs : List Brace) → moves (Some (record { at = at; open_braces = bs })) (a ∷ b ∷ c ∷ d ∷ k ∷ m ∷ []) ≡ Some (record { at = to; open_braces = [] }))
    → IsPhrase at to (kinds_in rows) (kinds_in (take (length rows - 6) (drop 6 rows)))
phrase_of_6 at to rows a b c d k m l e f g h i j leads = record {
  phrase = a ∷ b ∷ c ∷ d ∷ k ∷ m ∷ [];
  cut = rw (rest_all 6 rows) (cut rows l e f g h i j);
  some = omega arith;
  leads = leads;
}
  where
    cut : (rows : List Row) → 6 ≤ length rows → (get_or rows 0 none).kind ≡ a → (get_or rows 1 none).kind ≡ b → (get_or rows 2 none).kind ≡ c → (get_or rows 3 none).kind ≡ d → (get_or rows 4 none).kind ≡ k → (get_or rows 5 none).kind ≡ m → kinds_in rows ≡ a ∷ b ∷ c ∷ d ∷ k ∷ m ∷ kinds_in (drop 6 rows)
    cut [] l e f g h i j = absurd (omega (arith, l))
    cut (q ∷ []) l e f g h i j = absurd (omega (arith, l))
    cut (q ∷ r ∷ []) l e f g h i j = absurd (omega (arith, l))
    cut (q ∷ r ∷ s ∷ []) l e f g h i j = absurd (omega (arith, l))
    cut (q ∷ r ∷ s ∷ t ∷ []) l e f g h i j = absurd (omega (arith, l))
    cut (q ∷ r ∷ s ∷ t ∷ u ∷ []) l e f g h i j = absurd (omega (arith, l))
    cut (q ∷ r ∷ s ∷ t ∷ u ∷ v ∷ rows) l e f g h i j = rw (e, f, g, h, i, j) refl
