-- What was read is a certificate of the problem.
use Rattle.std.proofs.Common.{◌≡◌, ℕ, zero, suc, ◌+◌, ◌<◌, ◌≤◌, Bool, true, false, cond, List, [], ◌∷◌, map, length, drop, take, get_or, refl, sym, ap, ◌∙◌, subst, arith, None}
use Rattle.std.specs.List.{All}
use Rattle.std.proofs.lemmas.List.{length-map, get_or_past}
use Rattle.std.proofs.lemmas.List.Elements.{All-head, All-tail}
use Rattle.std.proofs.lemmas.List.FromFn.{length-range_with_len, get_or-map-range_with_len}
use Rattle.std.specs.List.{range_with_len}
use Rattle.std.specs.Prelude.{IfSome, nat_lt}
use Rattle.std.proofs.lemmas.Bool.Decides.{nat_tests}
use Rattle.elmore.specs.declared.pair.Pair.{Pair}
use Rattle.elmore.specs.declared.problem.Problem.{Problem}
use Rattle.elmore.specs.Problems.{is_live}
use Rattle.vg_cert.specs.declared.certificate.NodeLists.{NodeLists}
use Rattle.vg_cert.specs.declared.certificate.Certificate.{Certificate}
use Rattle.vg_cert.specs.declared.head.Head.{Head}
use Rattle.vg_cert.specs.Fits.{Fits, IsTime, IsList, list_of}
use Rattle.vg_cert.specs.Lines.{Line}
use Rattle.vg_cert.specs.Names.{AreNamesOf}
use Rattle.vg_cert.specs.Roles.{cell_count}
use Rattle.vg_cert.specs.Denoted.{Denotes, Lists, lists_in, both, cell_of}
use Rattle.vg_cert.specs.Readings.{Reading, IsHead, ArePlacedBy, AreLists, AreBothLists, lines_of}

pub live_each : (p : Problem) → length p.live ≡ length p.tree.nodes
live_each p = ap length p.live_are ∙ length-map (range_with_len 0 (length p.tree.nodes)) (is_live p.tree.nodes p.sinks) ∙ length-range_with_len 0 (length p.tree.nodes)

length_lists : (live : List Bool) (ls : List Line) → length (lists_in live ls) ≡ length live
unfolding lists_in
length_lists [] ls = refl
length_lists (false ∷ live) ls = ap suc (length_lists live ls)
length_lists (true ∷ live) ls = ap suc (length_lists live _)

abbrev pub no_pairs : Lists
no_pairs = ([], [])

dead_lists : (live : List Bool) (ls : List Line) (v : ℕ) → get_or live v false ≡ false → get_or (lists_in live ls) v no_pairs ≡ no_pairs
unfolding lists_in
dead_lists [] ls v e = refl
dead_lists (false ∷ live) ls zero e = refl
dead_lists (false ∷ live) ls (suc v) e = dead_lists live ls v e
dead_lists (true ∷ live) ls zero e = absurd (cc)
dead_lists (true ∷ live) ls (suc v) e = dead_lists live _ v e

abbrev pub of_both : Lists → Bool → List Pair
of_both x odd = cond odd x.1 x.0

pub get_both : (lists : List NodeLists) (v : ℕ) (odd : Bool) → get_or (map list_of lists) v (λ odd. []) odd ≡ of_both (get_or (map both lists) v no_pairs) odd
get_both [] v true = refl
get_both [] v false = refl
get_both (x ∷ xs) zero true = refl
get_both (x ∷ xs) zero false = refl
get_both (x ∷ xs) (suc v) odd = get_both xs v odd

none_list : IsList []
none_list = record { rising = λ i j d l m. absurd (omega arith); entries = λ i d l. absurd (omega arith); few = omega arith }

each_list : (lists : List NodeLists) → All AreBothLists lists → (v : ℕ) (odd : Bool) → IsList (of_both (get_or (map both lists) v no_pairs) odd)
each_list [] h v true = none_list
each_list [] h v false = none_list
each_list (x ∷ xs) h zero true = (All-head AreBothLists x xs h).1
each_list (x ∷ xs) h zero false = (All-head AreBothLists x xs h).0
each_list (x ∷ xs) h (suc v) odd = each_list xs (All-tail AreBothLists x xs h) v odd

none_of : (odd : Bool) → of_both no_pairs odd ≡ []
none_of true = refl
none_of false = refl

mark_at : (f : ℕ → Bool) (n v : ℕ) (within : Bool) → nat_lt v n ≡ within → f v ≡ false → get_or (map f (range_with_len 0 n)) v false ≡ false
mark_at f n v true l e = get_or-map-range_with_len f 0 n v v false (grind (arith, nat_tests)) (omega arith) ∙ e
mark_at f n v false l e = get_or_past (map f (range_with_len 0 n)) v false (let k : n ≤ v = grind (arith, nat_tests) in omega (arith, k, length-map (range_with_len 0 n) f, length-range_with_len 0 n))

-- the problem's node is live where its mark is
live_mark : (p : Problem) (v : ℕ) → is_live p.tree.nodes p.sinks v ≡ false → get_or p.live v false ≡ false
live_mark p v e = ap (λ (bs : List Bool). get_or bs v false) p.live_are ∙ mark_at (is_live p.tree.nodes p.sinks) (length p.tree.nodes) v _ refl e

pub denoted : (r : Reading) (head : Head) (n m : ℕ) (cert : Certificate) → AreNamesOf r.problem r.names → IsHead r head → cert.slack ≡ head.slack → ArePlacedBy r 4 head.cells cert.placement.cells → n ≡ 4 + cell_count (lines_of r)
    → AreLists r n m cert.lists.items → Denotes r.problem r.names (lines_of r) cert
denoted r head n m cert names h s p e l = record {
  slack = s ∙ h.slack;
  one_each = p.one_each ∙ names.nodes_each;
  cells = λ v. p.placed v ∙ ap (λ k. cell_of r.names (take k (drop 4 (lines_of r))) v) h.cells;
  lists = l.wrote ∙ ap (λ k. lists_in r.problem.live (drop k (lines_of r))) e;
}

pub fits : (r : Reading) (head : Head) (n m : ℕ) (cert : Certificate) → AreNamesOf r.problem r.names → IsHead r head → cert.slack ≡ head.slack → ArePlacedBy r 4 head.cells cert.placement.cells → (head.slack ≡ None → head.cells ≡ 0)
    → AreLists r n m cert.lists.items → Fits r.problem cert
fits r head n m cert names h s p z l = record {
  placement = record {
    one_each = p.one_each ∙ names.nodes_each;
    named = λ v b e. subst (λ k. b < k) names.cells_each (p.named v b e);
  };
  one_each = sym (length-map cert.lists.items both) ∙ ap length l.wrote ∙ length_lists r.problem.live _ ∙ live_each r.problem;
  lists = λ v odd. subst IsList (sym (get_both cert.lists.items v odd)) (each_list cert.lists.items l.each v odd);
  dead = λ v e odd. get_both cert.lists.items v odd ∙ ap (λ xs. of_both (get_or xs v no_pairs) odd) l.wrote ∙ ap (λ x. of_both x odd) (dead_lists r.problem.live _ v (live_mark r.problem v e)) ∙ none_of odd;
  slack = subst (λ o. IfSome o IsTime) (sym s) h.time;
  no_cell = λ e v. p.placed v ∙ ap (λ k. cell_of r.names (take k (drop 4 (lines_of r))) v) (z (sym s ∙ e));
}
