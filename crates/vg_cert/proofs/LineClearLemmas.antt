-- The lines of a certificate have no fault.
use Rattle.std.proofs.Common.{◌≡◌, ℕ, ◌<◌, ◌≤◌, ◌^◌, Bool, true, false, nat_lt, List, [], ◌∷◌, length, get_or, refl, sym, ap, ◌∙◌, arith, ℤ, pos, int_lt, int_le, Option, Some, None, unsigned_abs, Result, Ok, Err, option_map, ◌⊎◌, ◌<ℤ◌, ◌≤ℤ◌}
use Rattle.std.specs.Prelude.{codes, IfSome}
use Rattle.std.specs.Fmt.{decimal, signed_decimal}
use Rattle.std.specs.Str.{bytes_eq}
use Rattle.std.specs.List.{AllPairs, position}
use Rattle.std.proofs.lemmas.Bool.Decides.{nat_tests}
use Rattle.std.proofs.lemmas.Int.{ints, clamps}
use Rattle.std.proofs.lemmas.List.Quantifiers.{position-Some}
use Rattle.std.proofs.lemmas.List.Sums.{fails_before_first}
use Rattle.std.proofs.lemmas.Slice.Eq.{bytes_eq-Decides}
use Rattle.elmore.specs.Pairs.{IsBelow}
use Rattle.elmore.specs.declared.pair.Pair.{Pair}
use Rattle.vg_num.specs.Number.{whole_of}
use Rattle.vg_num.specs.declared.fault.NumFault.{NumFault}
use Rattle.vg_num.specs.declared.fault.NumFault.TheVariants as numbers
use Rattle.vg_scan.specs.declared.name.NodeName.{NodeName}
use Rattle.vg_scan.specs.declared.name.NetNames.{NetNames}
use Rattle.vg_cert.specs.declared.fault.CertKind.TheVariants.{Number, Order}
use Rattle.vg_cert.specs.Fits.{IsTime, IsEntry}
use Rattle.vg_cert.specs.Lines.{Line, word, number_in, number_fault, fault_in, is_no_count, count_in, or_zero}
use Rattle.vg_cert.specs.Names.{text_of_node, node_named, cell_named}
use Rattle.vg_cert.specs.Roles as roles
use Rattle.vg_cert.specs.Roles.{Role}
use Rattle.vg_cert.specs.Faults.{is_none, fault_of, when, load_fault, pair_in}
use Rattle.vg_cert.specs.Denoted.{slack_in, placed_in}
use Rattle.vg_cert.specs.Written.{pair_line, slack_line}
use Rattle.vg_cert.specs.Readings.{is_unordered, node_after}
use Rattle.vg_cert.proofs.FoundLemmas.{later_named, none_first, both_ways}
use Rattle.vg_cert.proofs.JudgeLemmas.{pair_done, at_named, placed_is, above_test}
use Rattle.vg_cert.proofs.RoleLemmas.{pair_role, at_role}
use Rattle.vg_cert.proofs.TextWordLemmas.{signed_reads, decimal_reads}

-- numbers

pub eq_same : (word : List ℕ) → bytes_eq word word ≡ true
eq_same word = (bytes_eq-Decides word word).1 refl

lt_yes : (x y : ℤ) (b : Bool) → int_lt x y ≡ b → x <ℤ y → b ≡ true
lt_yes x y true e l = refl
lt_yes x y false e l = absurd (omega (arith, ints, clamps, e, l))

lt_no : (x y : ℤ) (b : Bool) → int_lt x y ≡ b → y ≤ℤ x → b ≡ false
lt_no x y true e l = absurd (omega (arith, ints, clamps, e, l))
lt_no x y false e l = refl

le_yes : (x y : ℤ) (b : Bool) → int_le x y ≡ b → x ≤ℤ y → b ≡ true
le_yes x y true e l = refl
le_yes x y false e l = absurd (omega (arith, ints, clamps, e, l))

count_ok : (n : ℕ) → n ≤ 2 ^ 28 → is_no_count (Ok (pos n)) ≡ false
count_ok n l =
    let low = le_yes (pos 0) (pos n) (int_le (pos 0) (pos n)) refl (omega (arith, ints)) in
    let high = le_yes (pos n) (pos (2 ^ 28)) (int_le (pos n) (pos (2 ^ 28))) refl (omega (arith, ints, l)) in
    rw (low, high) refl

pub count_word : (n : ℕ) → n ≤ 2 ^ 28 → is_no_count (whole_of (decimal n)) ≡ false
count_word n l = ap is_no_count (decimal_reads n (omega (arith, l))) ∙ count_ok n l

pub count_fine : (n : ℕ) → n ≤ 2 ^ 28 → number_fault (decimal n) ≡ None
count_fine n l = ap fault_in (decimal_reads n (omega (arith, l)))

pub count_again : (n : ℕ) → n ≤ 10 ^ 26 → count_in (decimal n) ≡ n
count_again n l = ap (λ (r : Result ℤ NumFault). unsigned_abs (or_zero r)) (decimal_reads n l)

pub number_again : (z : ℤ) → IsTime z → number_in (signed_decimal z) ≡ z
number_again z t = ap or_zero (signed_reads z t)

-- pairs

pub pair_again : (x : Pair) → IsEntry x → pair_in (pair_line x) ≡ x
pair_again x e = λ i. record { q = number_again x.q e.time i; c = count_again x.c (omega (arith, e.load)) i }

load_ok : (n : ℕ) → n ≤ 10 ^ 11 → load_fault (Ok (pos n)) ≡ None
load_ok n l =
    let low = lt_no (pos n) (pos 0) (int_lt (pos n) (pos 0)) refl (omega (arith, ints)) in
    let high = lt_no (pos (10 ^ 11)) (pos n) (int_lt (pos (10 ^ 11)) (pos n)) refl (omega (arith, ints, l)) in
    rw (low, high) refl

pub pair_clear : (names : NetNames) (head : Line) (role : Role) (before : Option Line) (x : Pair) (last : Option Pair) → (role ≡ roles.even) ⊎ (role ≡ roles.odd) → option_map pair_in before ≡ last → IsEntry x
    → is_unordered last x ≡ false → fault_of names head role before (pair_line x) ≡ None
pair_clear names head role before x last listed e entry above =
    pair_role names head role before (pair_line x) last listed e
    ∙ pair_done last (pair_line x) (signed_decimal x.q) (decimal x.c) x false refl
    (ap (λ r. option_map (λ k. Number k) (fault_in r)) (signed_reads x.q entry.time))
    (ap (λ r. option_map (λ k. Number k) (load_fault r)) (decimal_reads x.c (omega (arith, entry.load))) ∙ ap (option_map (λ k. Number k)) (load_ok x.c entry.load))
    (sym (pair_again x entry)) above

pub above_is : (x y : Pair) → IsBelow x y → is_unordered (Some x) y ≡ false
above_is x y b =
    let time = lt_yes x.q y.q (int_lt x.q y.q) refl b.time in
    let room : nat_lt x.c y.c ≡ true = (let l = b.room in grind (arith, nat_tests)) in
    rw (time, room) refl

-- names

pub node_again : (nodes : List NodeName) → AllPairs (λ (a b : NodeName). a ≡ b → ⊥) nodes → (v : ℕ) → v < length nodes → node_named nodes (text_of_node nodes v) ≡ Some v
node_again nodes differ v l =
    sym (later_named nodes differ (text_of_node nodes v) v v (l, omega arith, eq_same (text_of_node nodes v), λ u a b. absurd (omega (arith, a, b))))

abbrev is_cell : List ℕ → List ℕ → Bool
is_cell word cell = bytes_eq cell word

cell_by : (cells : List (List ℕ)) (b : ℕ) (found : Option ℕ) → AllPairs (λ (x y : List ℕ). x ≡ y → ⊥) cells → b < length cells → position (is_cell (get_or cells b [])) cells ≡ found → found ≡ Some b
cell_by cells b None differ l e =
    let n = none_first (is_cell (get_or cells b [])) cells e in
    absurd (both_ways (is_cell (get_or cells b []) (get_or cells b [])) (eq_same (get_or cells b [])) (fails_before_first (is_cell (get_or cells b [])) cells b [] (omega (arith, n, l))))
cell_by cells b (Some i) differ l e =
    let p = position-Some (is_cell (get_or cells b [])) cells i [] e in
    let same : get_or cells i [] ≡ get_or cells b [] = (bytes_eq-Decides (get_or cells i []) (get_or cells b [])).0 p.1 in
    let early : i < b → ⊥ = λ m. differ i b [] m l same in
    let late : b < i → ⊥ = λ m. both_ways (is_cell (get_or cells b []) (get_or cells b [])) (eq_same (get_or cells b [])) (p.2 b m) in
    let is : i ≡ b = omega (arith, early, late) in
    ap (λ (k : ℕ). Some k) is

pub cell_again : (cells : List (List ℕ)) → AllPairs (λ (x y : List ℕ). x ≡ y → ⊥) cells → (b : ℕ) → b < length cells → cell_named cells (get_or cells b []) ≡ Some b
cell_again cells differ b l = cell_by cells b (cell_named cells (get_or cells b [])) differ l refl

abbrev pub at_words : NetNames → ℕ → ℕ → Line
at_words names v b = codes "at" ∷ text_of_node names.nodes v ∷ get_or names.cells b [] ∷ []

module _ (names : NetNames) (nodes : AllPairs (λ (a b : NodeName). a ≡ b → ⊥) names.nodes) (cells : AllPairs (λ (x y : List ℕ). x ≡ y → ⊥) names.cells) (v b : ℕ) (within : v < length names.nodes) (cell : b < length names.cells) where
  pub at_places : placed_in names (at_words names v b) ≡ (v, b)
  at_places = sym (placed_is names (at_words names v b) (codes "at") (text_of_node names.nodes v) (get_or names.cells b []) v b refl (node_again names.nodes nodes v within) (cell_again names.cells cells b cell))

  pub at_clear : (head : Line) (before : Option Line) (next : ℕ) → is_none head ≡ false → node_after names before ≡ next → next ≤ v → fault_of names head roles.at before (at_words names v b) ≡ None
  at_clear head before next e is l =
      at_role names head before (at_words names v b) next e is
      ∙ at_named names next (at_words names v b) (codes "at") (text_of_node names.nodes v) (get_or names.cells b []) (Some v) (Some b) refl refl (node_again names.nodes nodes v within) (cell_again names.cells cells b cell)
      ∙ ap (λ t. when t Order) (above_test v next l)

-- the others

pub node_clear : (names : NetNames) (head : Line) (v : ℕ) (a b : List ℕ) → is_no_count (whole_of a) ≡ false → is_no_count (whole_of b) ≡ false → number_fault a ≡ None → number_fault b ≡ None
    → fault_of names head (roles.node v) None (codes "node" ∷ text_of_node names.nodes v ∷ a ∷ b ∷ []) ≡ None
node_clear names head v a b e f g h = rw (e, f) (rw (g, h) (rw (eq_same (text_of_node names.nodes v)) refl))

pub heading_clear : (names : NetNames) (head : Line) → fault_of names head roles.heading None (codes "vgcert" ∷ codes "1" ∷ []) ≡ None
heading_clear names head = refl

pub net_clear : (names : NetNames) (head : Line) → fault_of names head roles.net None (codes "net" ∷ names.net ∷ []) ≡ None
net_clear names head = rw (eq_same names.net) refl

pub cells_clear : (names : NetNames) (head : Line) (n : ℕ) → n ≤ 2 ^ 28 → fault_of names head roles.cells None (codes "cells" ∷ decimal n ∷ []) ≡ None
cells_clear names head n l = rw (count_word n l) (rw (count_fine n l) refl)

pub end_clear : (names : NetNames) (head : Line) → fault_of names head roles.end None (codes "end" ∷ []) ≡ None
end_clear names head = refl

no_number : whole_of (codes "none") ≡ Err numbers.Form
unfolding whole_of
no_number = refl

none_by : (z : ℤ) (b : Bool) → IsTime z → bytes_eq (signed_decimal z) (codes "none") ≡ b → b ≡ false
none_by z true t e =
    let same : signed_decimal z ≡ codes "none" = (bytes_eq-Decides (signed_decimal z) (codes "none")).0 e in
    let both : Ok z ≡ Err numbers.Form = sym (signed_reads z t) ∙ ap whole_of same ∙ no_number in
    absurd (cc)
none_by z false t e = refl

pub some_slack : (z : ℤ) → IsTime z → is_none (slack_line (Some z)) ≡ false
some_slack z t = none_by z (is_none (slack_line (Some z))) t refl

pub slack_clear : (names : NetNames) (head : Line) (slack : Option ℤ) → IfSome slack IsTime → fault_of names head roles.slack None (slack_line slack) ≡ None
slack_clear names head None t = refl
slack_clear names head (Some z) t = rw (some_slack z t) (rw (ap fault_in (signed_reads z t)) refl)

pub slack_again : (slack : Option ℤ) → IfSome slack IsTime → slack ≡ slack_in (slack_line slack)
slack_again None t = refl
slack_again (Some z) t = rw (some_slack z t) (ap (λ (x : ℤ). Some x) (sym (number_again z t)))
