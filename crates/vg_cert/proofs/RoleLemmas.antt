-- The faults of pairs and of cells, by what stood before them.
use Rattle.std.proofs.Common.{◌≡◌, ℕ, suc, ◌||◌, Bool, true, false, not, nat_lt, refl, sym, ap, ◌∙◌, arith, Option, Some, None, ◌⊎◌, inl, inr, option_map}
use Rattle.std.specs.Option.{option_or}
use Rattle.std.proofs.lemmas.Bool.Decides.{nat_tests}
use Rattle.elmore.specs.declared.pair.Pair.{Pair}
use Rattle.vg_scan.specs.declared.name.NetNames.{NetNames}
use Rattle.vg_cert.specs.declared.fault.CertKind.{CertKind}
use Rattle.vg_cert.specs.declared.fault.CertKind.TheVariants.{Form, Node, Cell, Order}
use Rattle.vg_cert.specs.Lines.{Line}
use Rattle.vg_cert.specs.Roles.{Role, even, odd, at}
use Rattle.vg_cert.specs.Faults.{fault_of, has_shape, pair_in, node_in, is_node_fault, is_cell_fault, is_order_fault, is_none, is_over_role, when}
use Rattle.vg_cert.specs.Readings.{fault_after_pair, fault_from_node, node_after}

or_false : (b : Bool) → (b || false) ≡ b
or_false true = refl
or_false false = refl

form_alone : (b : Bool) (rest : Option CertKind) → option_or (when (b || false) Form) rest ≡ option_or (when b Form) rest
form_alone b rest = ap (λ t. option_or (when t Form) rest) (or_false b)

pair_even : (names : NetNames) (head : Line) (before : Option Line) (line : Line) → fault_of names head even before line ≡ fault_after_pair (option_map pair_in before) line
unfolding fault_after_pair
pair_even names head None line = form_alone (not (has_shape even line)) _
pair_even names head (Some l) line = form_alone (not (has_shape even line)) _

pair_odd : (names : NetNames) (head : Line) (before : Option Line) (line : Line) → fault_of names head odd before line ≡ fault_after_pair (option_map pair_in before) line
unfolding fault_after_pair
pair_odd names head None line = form_alone (not (has_shape even line)) _
pair_odd names head (Some l) line = form_alone (not (has_shape even line)) _

pub pair_role : (names : NetNames) (head : Line) (role : Role) (before : Option Line) (line : Line) (last : Option Pair) → (role ≡ even) ⊎ (role ≡ odd) → option_map pair_in before ≡ last
    → fault_of names head role before line ≡ fault_after_pair last line
pair_role names head role before line last (inl e) l = ap (λ r. fault_of names head r before line) e ∙ pair_even names head before line ∙ ap (λ o. fault_after_pair o line) l
pair_role names head role before line last (inr e) l = ap (λ r. fault_of names head r before line) e ∙ pair_odd names head before line ∙ ap (λ o. fault_after_pair o line) l

pub not_over : (role : Role) → (role ≡ even) ⊎ (role ≡ odd) → is_over_role role ≡ false
not_over role (inl e) = ap is_over_role e
not_over role (inr e) = ap is_over_role e

by_tests : (a b : ℕ) (s t : Bool) → nat_lt a b ≡ s → nat_lt b (suc a) ≡ t → not s ≡ t
by_tests a b true true e f = absurd (grind (arith, nat_tests))
by_tests a b true false e f = refl
by_tests a b false true e f = refl
by_tests a b false false e f = absurd (grind (arith, nat_tests))

above_zero : (n : ℕ) → nat_lt n 0 ≡ false
above_zero n = grind (arith, nat_tests)

behind : (names : NetNames) (before : Option Line) (line : Line) → is_order_fault names at before line ≡ nat_lt (node_in names line) (node_after names before)
behind names None line = sym (above_zero (node_in names line))
behind names (Some l) line = by_tests (node_in names l) (node_in names line) _ _ refl refl

at_slack : (names : NetNames) (head : Line) (before : Option Line) (line : Line) (b : Bool) → is_none head ≡ false → has_shape at line ≡ b
    → fault_of names head at before line ≡ fault_from_node names (node_after names before) line
unfolding fault_from_node
at_slack names head before line b e f =
    ap (λ t. option_or (when (not (has_shape at line) || (false || t)) Form) (option_or (when (is_node_fault names at line) Node) (option_or (when (is_cell_fault names at line) Cell) (when (is_order_fault names at before line) Order)))) e
    ∙ form_alone (not (has_shape at line)) _
    ∙ ap (λ t. option_or (when (not (has_shape at line)) Form) (option_or (when (is_node_fault names at line) Node) (option_or (when (is_cell_fault names at line) Cell) (when t Order)))) (behind names before line)

pub at_role : (names : NetNames) (head : Line) (before : Option Line) (line : Line) (next : ℕ) → is_none head ≡ false → node_after names before ≡ next
    → fault_of names head at before line ≡ fault_from_node names next line
at_role names head before line next e n = at_slack names head before line (has_shape at line) e refl ∙ ap (λ k. fault_from_node names k line) n
