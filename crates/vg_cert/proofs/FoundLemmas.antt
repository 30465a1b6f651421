-- The node that a word names.
use Rattle.std.proofs.Common.{◌≡◌, ℕ, ◌+◌, ◌<◌, ◌≤◌, Bool, true, false, List, [], length, map, get_or, cond, nat_lt, below_more, refl, sym, ap, ◌∙◌, arith, Option, Some, None, Result, Ok, Err}
use Rattle.std.specs.Prelude.{IfOk}
use Rattle.std.specs.List.{AllPairs, position, position_or_len}
use Rattle.std.specs.Str.{bytes_eq}
use Rattle.std.proofs.lemmas.Slice.Eq.{bytes_eq-Decides}
use Rattle.std.proofs.lemmas.List.{get_or-map, length-map}
use Rattle.std.proofs.lemmas.List.Sums.{fails_before_first}
use Rattle.std.proofs.lemmas.List.Quantifiers.{position-Some}
use Rattle.std.proofs.lemmas.Bool.Decides.{nat_tests}
use Rattle.vg_scan.specs.declared.name.NodeName.{NodeName}
use Rattle.vg_cert.specs.Names.{node_text, text_of_node, node_named, cell_named}
use Rattle.vg_cert.specs.Readings.{is_named, IsFound}
use Rattle.vg_cert.proofs.NameLemmas.{one_text}

pub no_node : NodeName
no_node = record { owner = []; leaf = [] }

-- whether a node's word is this one
pub named_at : (nodes : List NodeName) (v : ℕ) (node : NodeName) (d : NodeName) (word : List ℕ) (b : Bool) → v < length nodes → get_or nodes v d ≡ node → b ≡ bytes_eq (node_text node) word → is_named word nodes v ≡ b
named_at nodes v node d word b l is e = ap (λ t. bytes_eq t word) (get_or-map node_text nodes v d [] l ∙ ap node_text is) ∙ sym e

-- two nodes that are written alike are one
pub alike : (nodes : List NodeName) → AllPairs (λ (a b : NodeName). a ≡ b → ⊥) nodes → (word : List ℕ) (u v : ℕ) → u < v → v < length nodes → is_named word nodes u ≡ true → is_named word nodes v ≡ true → ⊥
alike nodes differ word u v l m e f =
    let x = (bytes_eq-Decides (text_of_node nodes u) word).0 e in
    let y = (bytes_eq-Decides (text_of_node nodes v) word).0 f in
    differ u v no_node l m (one_text (get_or nodes u no_node) (get_or nodes v no_node)
    (sym (get_or-map node_text nodes u no_node [] (omega arith)) ∙ x ∙ sym y ∙ get_or-map node_text nodes v no_node [] m))

pub both_ways : (b : Bool) → b ≡ true → b ≡ false → ⊥
both_ways true e f = absurd (cc)
both_ways false e f = absurd (cc)

pub not_true : (b : Bool) → (b ≡ true → ⊥) → b ≡ false
not_true true h = absurd (h refl)
not_true false h = refl

abbrev is_text : List ℕ → List ℕ → Bool
is_text word text = bytes_eq text word

no_earlier : (nodes : List NodeName) (word : List ℕ) (v i : ℕ) → ((u : ℕ) → 0 ≤ u → u < v → is_named word nodes u ≡ false) → is_named word nodes i ≡ true → i < v → ⊥
no_earlier nodes word v i h e l = both_ways (is_named word nodes i) e (h i (omega arith) l)

no_later : (nodes : List NodeName) (word : List ℕ) (v i : ℕ) → ((k : ℕ) → k < i → is_named word nodes k ≡ false) → is_named word nodes v ≡ true → v < i → ⊥
no_later nodes word v i h e l = both_ways (is_named word nodes v) e (h v l)

none_by : (n m : ℕ) (b : Bool) → nat_lt n m ≡ b → cond b (Some n) None ≡ None → m ≤ n
none_by n m true e f = absurd (cc)
none_by n m false e f = grind (arith, nat_tests)

pub none_first : (p : List ℕ → Bool) (xs : List (List ℕ)) → position p xs ≡ None → length xs ≤ position_or_len p xs
none_first p xs e = none_by (position_or_len p xs) (length xs) (nat_lt (position_or_len p xs) (length xs)) refl e

by_position : (nodes : List NodeName) (word : List ℕ) (found first : Option ℕ) → node_named nodes word ≡ first → IsFound nodes 0 word found → found ≡ first
by_position nodes word None None e h = refl
by_position nodes word None (Some i) e h =
    let p = position-Some (is_text word) (map node_text nodes) i [] e in
    absurd (both_ways (is_named word nodes i) p.1 (h i (omega arith) (omega (arith, p.0, length-map nodes node_text))))
by_position nodes word (Some v) None e (l, from, here, before) =
    let n = none_first (is_text word) (map node_text nodes) e in
    absurd (both_ways (is_named word nodes v) here (fails_before_first (is_text word) (map node_text nodes) v [] (omega (arith, n, l, length-map nodes node_text))))
by_position nodes word (Some v) (Some i) e (l, from, here, before) =
    let p = position-Some (is_text word) (map node_text nodes) i [] e in
    let same : v ≡ i = omega (arith, no_earlier nodes word v i before p.1, no_later nodes word v i p.2 here) in
    ap (λ (k : ℕ). Some k) same

-- which one, from the first node on
pub first_named : (nodes : List NodeName) (word : List ℕ) (found : Option ℕ) → IsFound nodes 0 word found → found ≡ node_named nodes word
first_named nodes word found h = by_position nodes word found (node_named nodes word) refl h

-- a node that is found from another one on is the first one that is written so
pub later_named : (nodes : List NodeName) → AllPairs (λ (a b : NodeName). a ≡ b → ⊥) nodes → (word : List ℕ) (next v : ℕ) → IsFound nodes next word (Some v) → Some v ≡ node_named nodes word
later_named nodes differ word next v (l, from, here, before) = first_named nodes word (Some v) (l, omega arith, here, λ u _ m. not_true (is_named word nodes u) (λ e. alike nodes differ word u v m l e here))

-- one node more has another name
pub none_more : (nodes : List NodeName) (word : List ℕ) (from v : ℕ) → ((u : ℕ) → from ≤ u → u < v → is_named word nodes u ≡ false) → is_named word nodes v ≡ false → (u : ℕ) → from ≤ u → u < v + 1 → is_named word nodes u ≡ false
none_more nodes word from v h e u l m = below_more (λ k. from ≤ k → is_named word nodes k ≡ false) v (λ k b a. h k a b) (λ _. e) u m l

pub found_ok : {E : Type 0} (nodes : List NodeName) (word : List ℕ) (result : Result (Option ℕ) E) → IfOk result (IsFound nodes 0 word) → IfOk result (λ found. found ≡ node_named nodes word)
found_ok nodes word (Ok found) h = first_named nodes word found h
found_ok nodes word (Err _) h = tt

pub node_within : (nodes : List NodeName) (word : List ℕ) (v : ℕ) → node_named nodes word ≡ Some v → v < length nodes
node_within nodes word v e = omega (arith, position-Some (is_text word) (map node_text nodes) v [] e, length-map nodes node_text)

pub cell_within : (cells : List (List ℕ)) (word : List ℕ) (b : ℕ) → cell_named cells word ≡ Some b → b < length cells
cell_within cells word b e = (position-Some (λ cell. bytes_eq cell word) cells b [] e).0
