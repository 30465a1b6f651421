-- One node's lists after another's.
use Rattle.std.proofs.Common.{◌≡◌, ℕ, suc, ◌+◌, ◌<◌, Bool, true, false, cond, List, [], ◌∷◌, ◌++◌, map, length, drop, take, get_or, refl, sym, ap, ◌∙◌, subst, arith, append_assoc, drop-cons, inl, inr}
use Rattle.std.specs.List.{All}
use Rattle.std.proofs.lemmas.List.{drop-drop, map-append, append-nil}
use Rattle.std.proofs.lemmas.List.Elements.{All-push}
use Rattle.elmore.specs.declared.pair.Pair.{Pair}
use Rattle.vg_cert.specs.declared.certificate.NodeLists.{NodeLists}
use Rattle.vg_cert.specs.declared.place.Place.{Place}
use Rattle.vg_cert.specs.Fits.{IsList}
use Rattle.vg_cert.specs.Lines.{Line, word, count_in}
use Rattle.vg_cert.specs.Roles.{Role, even, odd, even_count, odd_count, section_length}
use Rattle.vg_cert.specs.Faults.{pair_in}
use Rattle.vg_cert.specs.Denoted.{section_lists, lists_in, both}
use Rattle.vg_cert.specs.Readings.{Reading, IsUpTo, AreSectionsDue, AreListsOf, AreLists, AreBothLists, IsListDue, section_size, pairs_from, line_of, lines_of, lines_left}
use Rattle.vg_cert.proofs.SectionLemmas.{head_of, head_is, section_even, section_odd, even_first, odd_first, section_rest, dead_due, end_due}

pub evens_are : (r : Reading) (n evens : ℕ) → evens ≡ count_in (word (line_of r n) 2) → evens ≡ even_count (head_of r n)
evens_are r n evens e = e ∙ sym (ap even_count (head_is r n))

pub odds_are : (r : Reading) (n odds : ℕ) → odds ≡ count_in (word (line_of r n) 3) → odds ≡ odd_count (head_of r n)
odds_are r n odds e = e ∙ sym (ap odd_count (head_is r n))

pub even_due : (r : Reading) (n v : ℕ) (live : List Bool) → AreSectionsDue r n v (true ∷ live) → (m evens : ℕ) → m ≡ n + 1 → evens ≡ even_count (head_of r n) → (role : Role) × IsListDue r m evens role
even_due r n v live due m evens e is = (
  even,
  record {
    due = λ k l. section_even r n v live due m k e (omega (arith, l, is));
    first = even_first r n v live due m e;
    listed = inl refl;
  },
)

pub odd_due : (r : Reading) (n v : ℕ) (live : List Bool) → AreSectionsDue r n v (true ∷ live) → (m odds : ℕ) → m ≡ n + 1 + even_count (head_of r n) → odds ≡ odd_count (head_of r n) → (role : Role) × IsListDue r m odds role
odd_due r n v live due m odds e is = (
  odd,
  record {
    due = λ k l. section_odd r n v live due m k e (omega (arith, l, is));
    first = odd_first r n v live due m e;
    listed = inr refl;
  },
)

pairs_are : (r : Reading) (n i m k count : ℕ) → m ≡ n + i → k ≡ count → pairs_from r m k ≡ map pair_in (take count (drop i (lines_left r n)))
pairs_are r n i m k count e f =
    ap (λ j. map pair_in (take j (drop m (lines_of r)))) f ∙ ap (λ j. map pair_in (take count (drop j (lines_of r)))) e ∙ ap (λ xs. map pair_in (take count xs)) (sym (drop-drop i n (lines_of r)))

-- the lists of a section that was read
pub section_read : (r : Reading) (n a b evens odds : ℕ) (lists : NodeLists) → a ≡ n + 1 → evens ≡ even_count (head_of r n) → odds ≡ odd_count (head_of r n) → b ≡ a + evens
    → lists.even.items ≡ pairs_from r a evens → lists.odd.items ≡ pairs_from r b odds → IsList lists.even.items → IsList lists.odd.items → AreListsOf r n true lists
section_read r n a b evens odds lists e f g h x y k l = record {
  wrote = λ i. ((x ∙ pairs_are r n 1 a evens (even_count (head_of r n)) e f) i, (y ∙ pairs_are r n (1 + even_count (head_of r n)) b odds (odd_count (head_of r n)) (omega (arith, e, f, h)) g) i);
  evens = k;
  odds = l;
}

-- the lists of the nodes before v were read
pub record AreListsUpTo (r : Reading) (n v : ℕ) (place : Place) (lists : List NodeLists) : Type 0 where
  pub up_to : IsUpTo r place
  pub due : AreSectionsDue r place.count v (drop v r.problem.live)
  pub wrote : lists_in r.problem.live (lines_left r n) ≡ map both lists ++ lists_in (drop v r.problem.live) (lines_left r place.count)
  pub each : All AreBothLists lists

pub lists_none : (r : Reading) (place : Place) → IsUpTo r place → AreSectionsDue r place.count 0 r.problem.live → AreListsUpTo r place.count 0 place []
lists_none r place up due = record { up_to = up; due = due; wrote = refl; each = λ i d l. absurd (omega arith) }

pub next_live : (r : Reading) (v : ℕ) (live : Bool) → v < length r.problem.live → get_or r.problem.live v false ≡ live → drop v r.problem.live ≡ live ∷ drop (suc v) r.problem.live
next_live r v live l e = drop-cons r.problem.live v false l ∙ ap (λ b. b ∷ drop (suc v) r.problem.live) e

pub due_next : (r : Reading) (n v : ℕ) (place : Place) (lists : List NodeLists) (live : Bool) → AreListsUpTo r n v place lists → v < length r.problem.live → get_or r.problem.live v false ≡ live
    → (rest : List Bool) × AreSectionsDue r place.count v (live ∷ rest)
due_next r n v place lists live h l e = (drop (suc v) r.problem.live, subst (AreSectionsDue r place.count v) (next_live r v live l e) h.due)

-- where the lists of one node end, those of the next one begin
step_due : (r : Reading) (n v m : ℕ) (live : Bool) (rest : List Bool) → AreSectionsDue r n v (live ∷ rest) → m ≡ n + section_size r n live → AreSectionsDue r m (suc v) rest
step_due r n v m true rest due e = section_rest r n v rest due m e
step_due r n v m false rest due e = subst (λ k. AreSectionsDue r k (suc v) rest) (let k : n ≡ m = omega (arith, e) in k) (dead_due r n v rest due)

step_lists : (r : Reading) (n m : ℕ) (live : Bool) (rest : List Bool) → m ≡ n + section_size r n live
    → lists_in (live ∷ rest) (lines_left r n) ≡ cond live (section_lists (lines_left r n)) ([], []) ∷ lists_in rest (lines_left r m)
unfolding lists_in
step_lists r n m true rest e =
    ap (λ xs. section_lists (lines_left r n) ∷ lists_in rest xs) (drop-drop (section_length (head_of r n)) n (lines_of r) ∙ ap (lines_left r) (sym e))
step_lists r n m false rest e = ap (λ k. ([], []) ∷ lists_in rest (lines_left r k)) (let k : n ≡ m = omega (arith, e) in k)

pub lists_more : (r : Reading) (n v : ℕ) (place new : Place) (lists after : List NodeLists) (live : Bool) (found : NodeLists) → AreListsUpTo r n v place lists → v < length r.problem.live
    → get_or r.problem.live v false ≡ live → IsUpTo r new → new.count ≡ place.count + section_size r place.count live → AreListsOf r place.count live found → after ≡ lists ++ found ∷ []
    → AreListsUpTo r n (suc v) new after
lists_more r n v place new lists after live found h l e up m is a =
    let rest = drop (suc v) r.problem.live in
    let due = subst (AreSectionsDue r place.count v) (next_live r v live l e) h.due in
    record {
      up_to = up;
      due = step_due r place.count v new.count live rest due m;
      wrote = h.wrote ∙ ap (λ bs. map both lists ++ lists_in bs (lines_left r place.count)) (next_live r v live l e)
          ∙ ap (λ xs. map both lists ++ xs) (step_lists r place.count new.count live rest m ∙ ap (λ x. x ∷ lists_in rest (lines_left r new.count)) (sym is.wrote))
          ∙ sym (append_assoc (map both lists) (both found ∷ []) (lists_in rest (lines_left r new.count)))
          ∙ ap (λ xs. xs ++ lists_in rest (lines_left r new.count)) (sym (map-append both lists (found ∷ [])) ∙ ap (map both) (sym a));
      each = subst (All AreBothLists) (sym a) (All-push AreBothLists lists found h.each (is.evens, is.odds));
    }

no_lists : (ls : List Line) → lists_in [] ls ≡ []
unfolding lists_in
no_lists ls = refl

pub lists_done : (r : Reading) (n v : ℕ) (place : Place) (lists : List NodeLists) → AreListsUpTo r n v place lists → drop v r.problem.live ≡ [] → AreLists r n place.count lists
lists_done r n v place lists h e = record {
  wrote = sym (h.wrote ∙ ap (λ bs. map both lists ++ lists_in bs (lines_left r place.count)) e ∙ ap (λ xs. map both lists ++ xs) (no_lists (lines_left r place.count)) ∙ append-nil (map both lists));
  each = h.each;
  ended = end_due r place.count v (subst (AreSectionsDue r place.count v) e h.due);
}

empty_list : (list : List Pair) → list ≡ [] → IsList list
empty_list list e = subst IsList (sym e) (record { rising = λ i j d l m. absurd (omega arith); entries = λ i d l. absurd (omega arith); few = omega arith })

-- a node that is not live
pub dead_read : (r : Reading) (place : Place) (live : Bool) (lists : NodeLists) → live ≡ false → lists.even.items ≡ [] → lists.odd.items ≡ [] → (place.count ≡ place.count + section_size r place.count live) × AreListsOf r place.count live lists
dead_read r place live lists e f g =
    let none : section_size r place.count live ≡ 0 = ap (section_size r place.count) e in (
      omega (arith, none),
      record {
        wrote = (λ i. (f i, g i)) ∙ sym (ap (λ b. cond b (section_lists (lines_left r place.count)) ([], [])) e);
        evens = empty_list lists.even.items f;
        odds = empty_list lists.odd.items g;
      },
    )
