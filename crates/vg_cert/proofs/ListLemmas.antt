-- One pair of a list after another.
use Rattle.std.proofs.Common.{◌≡◌, ℕ, zero, suc, ◌+◌, ◌<◌, ◌≤◌, ◌^◌, ◌&&◌, Bool, true, false, not, nat_lt, List, [], ◌∷◌, ◌++◌, map, length, drop, take, get_or, refl, sym, ap, ◌∙◌, arith, Option, Some, None, ◌⊎◌, inl, inr, ◌≤ℤ◌, int_lt, option_map}
use Rattle.std.specs.List.{All, AllPairs}
use Rattle.std.proofs.lemmas.Int.{ints, clamps}
use Rattle.std.proofs.lemmas.Bool.Decides.{nat_tests}
use Rattle.std.proofs.lemmas.List.{take_more, map-append, get_or-drop, length-drop, length-map, length-take}
use Rattle.std.proofs.lemmas.List.Elements.{All-push}
use Rattle.std.proofs.lemmas.List.Quantifiers.{all_pairs_push}
use Rattle.elmore.specs.declared.pair.Pair.{Pair}
use Rattle.elmore.specs.Pairs.{IsBelow}
use Rattle.vg_cert.specs.declared.place.Place.{Place}
use Rattle.vg_cert.specs.Fits.{IsEntry, IsList}
use Rattle.vg_cert.specs.Lines.{parts, lines, words}
use Rattle.vg_cert.specs.Roles.{Role, even, odd, goes_on, line_before}
use Rattle.vg_cert.specs.Faults.{pair_in, is_below}
use Rattle.vg_cert.specs.Readings.{Reading, IsUpTo, IsPair, IsPairDue, IsListDue, is_unordered, last_pair, pairs_from, line_of, lines_of, role_of}
use Rattle.vg_cert.proofs.ReadLemmas.{some_part}
use Rattle.vg_cert.proofs.SectionLemmas.{before_goes, no_more}

-- the pairs so far are at most the last one
unfoldable pub Top : Option Pair → List Pair → Type 0
Top None pairs = pairs ≡ []
Top (Some l) pairs = All (λ x. (x.q ≤ℤ l.q) × (x.c ≤ l.c)) pairs

-- so many lines of a list were read
pub record IsListUpTo (r : Reading) (start k : ℕ) (place : Place) (list : List Pair) (last : Option Pair) : Type 0 where
  pub up_to : IsUpTo r place
  pub counted : place.count ≡ start + k
  pub last_is : last ≡ last_pair r start k
  pub wrote : list ≡ pairs_from r start k
  pub rising : AllPairs IsBelow list
  pub entries : All IsEntry list
  pub top : Top last list

length_lines : (text : List ℕ) → length (lines text) ≡ length (parts text)
unfolding lines
length_lines text = length-map (parts text) words

-- a line or the rest stands at the place
pub place_within : (r : Reading) (place : Place) → IsUpTo r place → place.count < length (lines_of r)
place_within r place up = omega (arith, length_lines r.text, ap length up.here.left, length-drop place.count (parts r.text), some_part (drop place.at r.text))

below_by : (x y : Pair) (s t : Bool) → int_lt x.q y.q ≡ s → nat_lt x.c y.c ≡ t → not (s && t) ≡ false → IsBelow x y
below_by x y true true e f h = record { time = omega (arith, ints, clamps, e); room = grind (arith, nat_tests) }
below_by x y true false e f h = absurd (cc)
below_by x y false t e f h = absurd (cc)

is_above : (l pair : Pair) → not (is_below l pair) ≡ false → IsBelow l pair
is_above l pair h = below_by l pair _ _ refl refl h

above_all : (last : Option Pair) (list : List Pair) (pair : Pair) → Top last list → is_unordered last pair ≡ false → (k : ℕ) (d : Pair) → k < length list → IsBelow (get_or list k d) pair
unfolding Top
above_all None list pair top o k d l = absurd (omega (arith, l, ap length top))
above_all (Some last) list pair top o k d l =
    let b = is_above last pair o in
    let t = top k d l in
    record { time = omega (arith, ints, b.time, t.0); room = omega (arith, b.room, t.1) }

top_more : (last : Option Pair) (list : List Pair) (pair : Pair) → Top last list → is_unordered last pair ≡ false → Top (Some pair) (list ++ pair ∷ [])
unfolding Top
top_more last list pair top o =
    All-push (λ x. (x.q ≤ℤ pair.q) × (x.c ≤ pair.c)) list pair (λ k d l. let b = above_all last list pair top o k d l in (omega (arith, ints, b.time), omega (arith, b.room))) (omega (arith, ints), omega arith)

pairs_more : (r : Reading) (start k : ℕ) (pair : Pair) → start + k < length (lines_of r) → pair ≡ pair_in (line_of r (start + k)) → pairs_from r start (k + 1) ≡ pairs_from r start k ++ pair ∷ []
pairs_more r start k pair l e =
    ap (map pair_in) (take_more (drop start (lines_of r)) k [] (omega (arith, l, length-drop start (lines_of r))))
    ∙ map-append pair_in (take k (drop start (lines_of r))) (get_or (drop start (lines_of r)) k [] ∷ [])
    ∙ ap (λ x. pairs_from r start k ++ pair_in x ∷ []) (get_or-drop start (lines_of r) k []) ∙ sym (ap (λ x. pairs_from r start k ++ x ∷ []) e)

last_more : (r : Reading) (start k n : ℕ) (pair : Pair) → n ≡ suc k → pair ≡ pair_in (line_of r (start + k)) → Some pair ≡ last_pair r start n
last_more r start k n pair e p = ap (λ (x : Pair). Some x) p ∙ sym (ap (last_pair r start) e)

-- one pair more
pub list_more : (r : Reading) (start k : ℕ) (place new : Place) (list : List Pair) (last : Option Pair) (pair : Pair) → IsListUpTo r start k place list last → IsUpTo r new → new.count ≡ place.count + 1
    → IsPair last (line_of r place.count) pair → IsListUpTo r start (k + 1) new (list ++ pair ∷ []) (Some pair)
list_more r start k place new list last pair h up n p =
    let wrote : pair ≡ pair_in (line_of r (start + k)) = p.wrote ∙ ap (λ i. pair_in (line_of r i)) h.counted in
    record {
      up_to = up;
      counted = omega (arith, n, h.counted);
      last_is = last_more r start k (k + 1) pair (omega arith) wrote;
      wrote = ap (λ x. x ++ pair ∷ []) h.wrote ∙ sym (pairs_more r start k pair (omega (arith, place_within r place h.up_to, h.counted)) wrote);
      rising = all_pairs_push IsBelow list pair h.rising (above_all last list pair h.top p.above);
      entries = All-push IsEntry list pair h.entries p.entry;
      top = top_more last list pair h.top p.above;
    }

pub list_none : (r : Reading) (place : Place) → IsUpTo r place → IsListUpTo r place.count 0 place [] None
unfolding Top
list_none r place up = record {
  up_to = up;
  counted = omega arith;
  last_is = refl;
  wrote = refl;
  rising = λ i j d l m. absurd (omega arith);
  entries = λ i d l. absurd (omega arith);
  top = refl;
}

pub listed_goes : (role : Role) → (role ≡ even) ⊎ (role ≡ odd) → goes_on role role ≡ true
listed_goes role (inl e) = ap (λ x. goes_on x x) e
listed_goes role (inr e) = ap (λ x. goes_on x x) e

after_is : (r : Reading) (start k n count : ℕ) (role : Role) → IsListDue r start count role → k < count → n ≡ start + k → option_map pair_in (line_before r.problem (lines_of r) n role) ≡ last_pair r start k
after_is r start zero n count role due l e = ap (λ i. option_map pair_in (line_before r.problem (lines_of r) i role)) (e ∙ no_more start) ∙ ap (option_map pair_in) due.first
after_is r start (suc k) n count role due l e = ap (option_map pair_in) (before_goes r (start + k) n role (omega (arith, e)) (due.due k (omega (arith, l))) (listed_goes role due.listed))

-- the next pair is due
pub pair_due : (r : Reading) (start k count : ℕ) (place : Place) (list : List Pair) (last : Option Pair) (role : Role) → IsListDue r start count role → k < count → IsListUpTo r start k place list last
    → IsPairDue r place.count last role
pair_due r start k count place list last role due l h = record {
  due = ap (role_of r) h.counted ∙ due.due k l;
  listed = due.listed;
  after = after_is r start k place.count count role due l h.counted ∙ sym h.last_is;
}

pub list_done : (r : Reading) (start k : ℕ) (place : Place) (list : List Pair) (last : Option Pair) → k ≤ 2 ^ 28 → IsListUpTo r start k place list last → IsList list
list_done r start k place list last few h = record {
  rising = h.rising;
  entries = h.entries;
  few = omega (arith, few, ap length h.wrote, length-map (take k (drop start (lines_of r))) pair_in, length-take k (drop start (lines_of r)));
}

pub list_read : (r : Reading) (start k count : ℕ) (place : Place) (list : List Pair) (last : Option Pair) → k ≡ count → count ≤ 2 ^ 28 → IsListUpTo r start k place list last
    → IsUpTo r place × (place.count ≡ start + count) × ((list ≡ pairs_from r start count) × IsList list)
list_read r start k count place list last e few h =
    (h.up_to, omega (arith, h.counted, e), (h.wrote ∙ ap (pairs_from r start) e, list_done r start k place list last (omega (arith, few, e)) h))
