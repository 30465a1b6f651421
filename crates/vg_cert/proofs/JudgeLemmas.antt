-- What is judged of a line.
use Rattle.std.proofs.Common.{◌≡◌, ℕ, arith, ◌<◌, ◌≤◌, Bool, true, false, refl, sym, ap, ◌∙◌, subst, Option, Some, None, ◌⊎◌, ℤ, unsigned_abs, inl, inr, Result, Ok, Err, not, List, [], ◌∷◌, length, ◌==◌, nat_lt, option_map, is_some, codes, unwrap_or}
use Rattle.std.specs.Option.{option_or}
use Rattle.std.specs.Str.{bytes_eq}
use Rattle.vg_num.specs.Number.{whole_of}
use Rattle.vg_num.specs.declared.fault.NumFault.{NumFault}
use Rattle.elmore.specs.declared.pair.Pair.{Pair}
use Rattle.vg_scan.specs.declared.name.NetNames.{NetNames}
use Rattle.vg_cert.specs.Lines.{Line, number_fault, number_in, word}
use Rattle.vg_cert.specs.Names.{node_named, cell_named}
use Rattle.vg_cert.specs.Faults.{load_fault, pair_in, when}
use Rattle.std.proofs.lemmas.Bool.Decides.{nat_tests}
use Rattle.std.specs.Result.{IsErrAnd}
use Rattle.vg_cert.specs.declared.fault.CertKind.{CertKind}
use Rattle.vg_cert.specs.declared.fault.CertKind.TheVariants.{Form, Number, Node, Cell, Order, Memory}
use Rattle.vg_cert.specs.Denoted.{placed_in}
use Rattle.vg_cert.specs.Readings.{Judges, fault_after_pair, is_unordered, fault_from_node}

-- a fault that is passed on
pub passed : {A : Type 0} (result : Result A CertKind) (kind : CertKind) (fault : Option CertKind) (Is : A → Type 0) → IsErrAnd result (λ k. k ≡ kind) → (kind ≡ Memory) ⊎ (fault ≡ Some kind) → Judges result fault Is
passed (Ok x) kind fault Is e h = absurd e
passed (Err k) kind fault Is e (inl m) = inl (e ∙ m)
passed (Err k) kind fault Is e (inr f) = inr (f ∙ ap (λ (x : CertKind). Some x) (sym e))

pub pair_form : (last : Option Pair) (line : Line) → (length line == 2) ≡ false → fault_after_pair last line ≡ Some Form
unfolding fault_after_pair
pair_form last line e = rw e refl

two_words : (last : Option Pair) (line : Line) (q c : List ℕ) → line ≡ q ∷ c ∷ []
    → fault_after_pair last line ≡ option_or (option_map (λ x. Number x) (option_or (number_fault q) (load_fault (whole_of c)))) (when (is_unordered last (pair_in line)) Order)
unfolding fault_after_pair
two_words last line q c e = subst (λ l. fault_after_pair last l ≡ option_or (option_map (λ x. Number x) (option_or (number_fault q) (load_fault (whole_of c)))) (when (is_unordered last (pair_in l)) Order)) (sym e) refl

of_first : (first second : Option NumFault) (rest : Option CertKind) (kind : CertKind) → option_map (λ x. Number x) first ≡ Some kind → option_or (option_map (λ x. Number x) (option_or first second)) rest ≡ Some kind
of_first None second rest kind e = absurd (cc)
of_first (Some f) second rest kind e = e

of_second : (first second : Option NumFault) (rest : Option CertKind) (kind : CertKind) → option_map (λ x. Number x) first ≡ None → option_map (λ x. Number x) second ≡ Some kind → option_or (option_map (λ x. Number x) (option_or first second)) rest ≡ Some kind
of_second None None rest kind e f = absurd (cc)
of_second None (Some g) rest kind e f = f
of_second (Some g) second rest kind e f = absurd (cc)

of_rest : (first second : Option NumFault) (rest : Option CertKind) → option_map (λ x. Number x) first ≡ None → option_map (λ x. Number x) second ≡ None → option_or (option_map (λ x. Number x) (option_or first second)) rest ≡ rest
of_rest None None rest e f = refl
of_rest None (Some g) rest e f = absurd (cc)
of_rest (Some g) second rest e f = absurd (cc)

pub pair_q : (last : Option Pair) (line : Line) (q c : List ℕ) (kind : CertKind) → line ≡ q ∷ c ∷ [] → (kind ≡ Memory) ⊎ (option_map (λ x. Number x) (number_fault q) ≡ Some kind) → (kind ≡ Memory) ⊎ (fault_after_pair last line ≡ Some kind)
pair_q last line q c kind e (inl m) = inl m
pair_q last line q c kind e (inr f) = inr (two_words last line q c e ∙ of_first (number_fault q) (load_fault (whole_of c)) _ kind f)

pub pair_c : (last : Option Pair) (line : Line) (q c : List ℕ) (kind : CertKind) → line ≡ q ∷ c ∷ [] → option_map (λ x. Number x) (number_fault q) ≡ None → (kind ≡ Memory) ⊎ (option_map (λ x. Number x) (load_fault (whole_of c)) ≡ Some kind) → (kind ≡ Memory) ⊎ (fault_after_pair last line ≡ Some kind)
pair_c last line q c kind e n (inl m) = inl m
pair_c last line q c kind e n (inr f) = inr (two_words last line q c e ∙ of_second (number_fault q) (load_fault (whole_of c)) _ kind n f)

pub pair_done : (last : Option Pair) (line : Line) (q c : List ℕ) (pair : Pair) (b : Bool) → line ≡ q ∷ c ∷ [] → option_map (λ x. Number x) (number_fault q) ≡ None → option_map (λ x. Number x) (load_fault (whole_of c)) ≡ None
    → pair ≡ pair_in line → is_unordered last pair ≡ b → fault_after_pair last line ≡ when b Order
pair_done last line q c pair b e n f is o = two_words last line q c e ∙ of_rest (number_fault q) (load_fault (whole_of c)) _ n f ∙ ap (λ x. when (is_unordered last x) Order) (sym is) ∙ ap (λ t. when t Order) o

pub pair_is : (line : Line) (q c : List ℕ) (z : ℤ) (n : ℕ) → line ≡ q ∷ c ∷ [] → z ≡ number_in q → n ≡ unsigned_abs (number_in c) → record { q = z; c = n } ≡ pair_in line
pair_is line q c z n e f g = λ i. record {
  q = (f ∙ ap (λ l. number_in (word l 0)) (sym e)) i;
  c = (g ∙ ap (λ l. unsigned_abs (number_in (word l 1))) (sym e)) i;
}

pub not_false : (r b : Bool) → r ≡ not b → r ≡ false → b ≡ true
not_false r true e f = refl
not_false r false e f = absurd (cc)

pub not_is_true : (r b : Bool) → r ≡ not b → r ≡ true → b ≡ false
not_is_true r false e f = refl
not_is_true r true e f = absurd (cc)

pub at_length : (names : NetNames) (next : ℕ) (line : Line) → (length line == 3) ≡ false → fault_from_node names next line ≡ Some Form
unfolding fault_from_node
at_length names next line e = rw e refl

at_word : (names : NetNames) (next : ℕ) (a n c : List ℕ) → bytes_eq a (codes "at") ≡ false → fault_from_node names next (a ∷ n ∷ c ∷ []) ≡ Some Form
unfolding fault_from_node
at_word names next a n c e = rw e refl

pub at_begins : (names : NetNames) (next : ℕ) (line : Line) (a n c : List ℕ) → line ≡ a ∷ n ∷ c ∷ [] → bytes_eq a (codes "at") ≡ false → fault_from_node names next line ≡ Some Form
at_begins names next line a n c is e = ap (fault_from_node names next) is ∙ at_word names next a n c e

at_three : (names : NetNames) (next : ℕ) (a n c : List ℕ) (node cell : Option ℕ) → bytes_eq a (codes "at") ≡ true → node_named names.nodes n ≡ node → cell_named names.cells c ≡ cell
    → fault_from_node names next (a ∷ n ∷ c ∷ []) ≡ option_or (when (not (is_some node)) Node) (option_or (when (not (is_some cell)) Cell) (when (nat_lt (unwrap_or node 0) next) Order))
unfolding fault_from_node
at_three names next a n c node cell e f g = rw e (rw f (rw g refl))

-- the fault of an `at` line, by what its words name
pub at_named : (names : NetNames) (next : ℕ) (line : Line) (a n c : List ℕ) (node cell : Option ℕ) → line ≡ a ∷ n ∷ c ∷ [] → bytes_eq a (codes "at") ≡ true → node_named names.nodes n ≡ node
    → cell_named names.cells c ≡ cell
    → fault_from_node names next line ≡ option_or (when (not (is_some node)) Node) (option_or (when (not (is_some cell)) Cell) (when (nat_lt (unwrap_or node 0) next) Order))
at_named names next line a n c node cell is e f g = ap (fault_from_node names next) is ∙ at_three names next a n c node cell e f g

pub placed_is : (names : NetNames) (line : Line) (a n c : List ℕ) (u b : ℕ) → line ≡ a ∷ n ∷ c ∷ [] → node_named names.nodes n ≡ Some u → cell_named names.cells c ≡ Some b → (u, b) ≡ placed_in names line
placed_is names line a n c u b is f g = sym (ap (placed_in names) is ∙ ap (λ o. (unwrap_or o 0, unwrap_or (cell_named names.cells c) 0)) f ∙ ap (λ o. (u, unwrap_or o 0)) g)

pub below_test : (a b : ℕ) → a < b → nat_lt a b ≡ true
below_test a b l = grind (arith, nat_tests)

pub above_test : (a b : ℕ) → b ≤ a → nat_lt a b ≡ false
above_test a b l = grind (arith, nat_tests)

pub same_fault : (one other : Option CertKind) (kind : CertKind) → one ≡ other → (kind ≡ Memory) ⊎ (other ≡ Some kind) → (kind ≡ Memory) ⊎ (one ≡ Some kind)
same_fault one other kind e (inl m) = inl m
same_fault one other kind e (inr f) = inr (e ∙ f)
