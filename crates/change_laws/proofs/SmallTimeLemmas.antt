-- The times of constraints that were read are small.
use Rattle.std.proofs.Common.{◌≡◌, ◌≤◌, ◌^◌, ℕ, Bool, true, false, List, [], ◌∷◌, refl, sym, subst, arith, nat_lt, not, Option, Some, None, IfSome, Result, Ok, Err, ℤ, pos, All}
use Rattle.std.specs.Prelude.{if◌then◌else◌, codes, unwrap_or}
use Rattle.std.specs.Option.{option_or}
use Rattle.std.specs.Str.{bytes_eq}
use Rattle.std.proofs.lemmas.Bool.Decides.{nat_tests}
use Rattle.std.proofs.lemmas.Int.{ints}
use Rattle.std.proofs.lemmas.Map.Entries.{All-lookup}
use Rattle.elmore.specs.Problems.{IsSmall}
use Rattle.vg_num.specs.Number.{is_number, nearest_size, signed_scaled, with_sign}
use Rattle.vg_num.specs.declared.fault.NumFault.{NumFault}
use Rattle.vg_num.specs.declared.fault.NumFault.TheVariants.{Form, TooLarge}
use Rattle.std.specs.Str.Parse.{starts_with_minus}
use Rattle.vg_cons.specs.Lines.{Line, lines_of}
use Rattle.vg_cons.specs.Rows.{arrival_in, default_in, first_of, required_in, rows_of, stated}
use Rattle.vg_cons.specs.Statements.{Statement, default, required, arrival, want, drive, load, block, allow, block_box, default_line, timed, want_line, drive_line, load_line, block_line, allow_line, box_line, of_one, of_two, or_number, inner_in, pin_in, statement_of, time_in}
use Rattle.vg_cons.specs.declared.fault.ConsKind.{ConsKind}
use Rattle.vg_cons.specs.declared.fault.ConsKind.TheVariants.{Word}
use Rattle.vg_scan.specs.Nodes.{same_node}
use Rattle.vg_scan.specs.declared.name.NodeName.{NodeName}
use Rattle.spef_net.proofs.SizeLemmas.{all_filter_map}
use Rattle.retime_laws.specs.Limits.{AreTimesSmall}
use Rattle.change_laws.specs.Laws.{TimesOfDesignsAreSmall}

-- ---- a number

-- a time, where one is read, is small
abbrev IsSmallIn : {E : Type 0} → Result ℤ E → Type 0
IsSmallIn (Ok t) = IsSmall t
IsSmallIn (Err fault) = Unit {0}

sign_small : (minus : Bool) (size : ℕ) → size ≤ 10 ^ 23 → IsSmall (with_sign minus size)
sign_small true size low = record { low = omega (arith, ints, low); high = omega (arith, ints, low) }
sign_small false size low = record { low = omega (arith, ints, low); high = omega (arith, ints, low) }

at_most : (most size : ℕ) → nat_lt most size ≡ false → size ≤ most
at_most most size e = grind (arith, nat_tests)

by_tests : (a b minus : Bool) (size : ℕ) → (b ≡ false → size ≤ 10 ^ 23)
    → IsSmallIn {E = NumFault} (if a then Err Form else (if b then Err TooLarge else Ok (with_sign minus size)))
by_tests true b minus size low = tt
by_tests false true minus size low = tt
by_tests false false minus size low = sign_small minus size (low refl)

signed_small : (word : List ℕ) → IsSmallIn (signed_scaled (pos 9) (10 ^ 23) word)
unfolding signed_scaled
signed_small word =
    by_tests (not (is_number word)) (nat_lt (10 ^ 23) (nearest_size (pos 9) word)) (starts_with_minus word) (nearest_size (pos 9) word)
    (at_most (10 ^ 23) (nearest_size (pos 9) word))

number_small : (r : Result ℤ NumFault) → IsSmallIn r → IsSmallIn (or_number r)
number_small (Ok t) small = small
number_small (Err fault) small = tt

time_small : (word : List ℕ) → IsSmallIn (time_in word)
unfolding time_in
time_small word = number_small (signed_scaled (pos 9) (10 ^ 23) word) (signed_small word)

-- ---- a line

-- the time of a row, if it has one, is small
abbrev HasSmallTime : Result Statement ConsKind → Type 0
HasSmallTime (Ok (default t)) = IsSmall t
HasSmallTime (Ok (required row)) = IsSmall row.1
HasSmallTime (Ok (arrival row)) = IsSmall row.1
HasSmallTime said = Unit {0}

of_test : (b : Bool) (one other : Result Statement ConsKind) → HasSmallTime one → HasSmallTime other → HasSmallTime (if b then one else other)
of_test true one other first second = first
of_test false one other first second = second

default_small : (r : Result ℤ ConsKind) → IsSmallIn r → HasSmallTime (of_one default r)
default_small (Ok t) small = small
default_small (Err kind) small = tt

line_small : (words : Line) → HasSmallTime (default_line words)
line_small [] = tt
line_small (word ∷ []) = tt
line_small (word ∷ time ∷ []) =
    of_test (bytes_eq word (codes "required")) (of_one default (time_in time)) (Err Word) (default_small (time_in time) (time_small time)) tt
line_small (word ∷ time ∷ more ∷ words) = tt

-- a pin with a time
abbrev IsTimedSmall : Result (NodeName × ℤ) ConsKind → Type 0
IsTimedSmall (Ok row) = IsSmall row.1
IsTimedSmall (Err kind) = Unit {0}

both_small : (pin : Result NodeName ConsKind) (time : Result ℤ ConsKind) → IsSmallIn time → IsTimedSmall (of_two pin time)
both_small (Ok pin) (Ok t) small = small
both_small (Ok pin) (Err kind) small = tt
both_small (Err kind) time small = tt

timed_small : (words : Line) → IsTimedSmall (timed words)
timed_small [] = tt
timed_small (pin ∷ []) = tt
timed_small (pin ∷ time ∷ []) = both_small (pin_in pin) (time_in time) (time_small time)
timed_small (pin ∷ time ∷ more ∷ words) = tt

required_small : (r : Result (NodeName × ℤ) ConsKind) → IsTimedSmall r → HasSmallTime (of_one required r)
required_small (Ok row) small = small
required_small (Err kind) small = tt

arrival_small : (r : Result (NodeName × ℤ) ConsKind) → IsTimedSmall r → HasSmallTime (of_one arrival r)
arrival_small (Ok row) small = small
arrival_small (Err kind) small = tt

-- rows of other kinds have none
other_small : {A : Type 0} (make : A → Statement) (r : Result A ConsKind) → ((a : A) → HasSmallTime (Ok (make a))) → HasSmallTime (of_one make r)
other_small make (Ok a) none = none a
other_small make (Err kind) none = tt

want_small : (words : Line) → HasSmallTime (want_line words)
want_small [] = tt
want_small (pin ∷ []) = tt
want_small (pin ∷ word ∷ []) =
    of_test (bytes_eq word (codes "inverted")) (of_one want (pin_in pin)) (Err Word) (other_small want (pin_in pin) (λ a. tt)) tt
want_small (pin ∷ word ∷ more ∷ words) = tt

drive_small : (words : Line) → HasSmallTime (drive_line words)
drive_small [] = tt
drive_small (port ∷ []) = tt
drive_small (port ∷ r ∷ []) = tt
drive_small (port ∷ r ∷ k ∷ []) = other_small drive _ (λ a. tt)
drive_small (port ∷ r ∷ k ∷ more ∷ words) = tt

load_small : (words : Line) → HasSmallTime (load_line words)
load_small [] = tt
load_small (port ∷ []) = tt
load_small (port ∷ c ∷ []) = other_small load _ (λ a. tt)
load_small (port ∷ c ∷ more ∷ words) = tt

block_small : (words : Line) → HasSmallTime (block_line words)
block_small [] = tt
block_small (node ∷ []) = other_small block _ (λ a. tt)
block_small (node ∷ more ∷ words) = tt

allow_small : (words : Line) → HasSmallTime (allow_line words)
allow_small [] = tt
allow_small (node ∷ []) = tt
allow_small (node ∷ cell ∷ cells) = other_small (λ (n : NodeName). allow (n, cell ∷ cells)) (inner_in node) (λ a. tt)

box_small : (words : Line) → HasSmallTime (box_line words)
box_small [] = tt
box_small (a ∷ []) = tt
box_small (a ∷ b ∷ []) = tt
box_small (a ∷ b ∷ c ∷ []) = tt
box_small (a ∷ b ∷ c ∷ d ∷ []) = other_small block_box _ (λ box. tt)
box_small (a ∷ b ∷ c ∷ d ∷ more ∷ words) = tt

statement_small : (line : Line) → HasSmallTime (statement_of line)
unfolding statement_of
statement_small [] = tt
statement_small (first ∷ words) =
    of_test (bytes_eq first (codes "default")) _ _ (line_small words)
    (of_test (bytes_eq first (codes "required")) _ _ (required_small (timed words) (timed_small words))
    (of_test (bytes_eq first (codes "arrival")) _ _ (arrival_small (timed words) (timed_small words))
    (of_test (bytes_eq first (codes "want")) _ _ (want_small words)
    (of_test (bytes_eq first (codes "drive")) _ _ (drive_small words)
    (of_test (bytes_eq first (codes "load")) _ _ (load_small words)
    (of_test (bytes_eq first (codes "block")) _ _ (block_small words)
    (of_test (bytes_eq first (codes "allow")) _ _ (allow_small words)
    (of_test (bytes_eq first (codes "block_box")) _ _ (box_small words) tt))))))))

-- ---- all lines

default_of : (r : Result Statement ConsKind) (t : ℤ) → HasSmallTime r → default_in r ≡ Some t → IsSmall t
default_of (Ok (default u)) t small is = subst IsSmall (let e : u ≡ t = cc in e) small
default_of (Ok (required row)) t small is = absurd cc
default_of (Ok (arrival row)) t small is = absurd cc
default_of (Ok (want pin)) t small is = absurd cc
default_of (Ok (drive row)) t small is = absurd cc
default_of (Ok (load row)) t small is = absurd cc
default_of (Ok (block node)) t small is = absurd cc
default_of (Ok (allow row)) t small is = absurd cc
default_of (Ok (block_box box)) t small is = absurd cc
default_of (Err kind) t small is = absurd cc

required_row : (r : Result Statement ConsKind) (row : NodeName × ℤ) → HasSmallTime r → required_in r ≡ Some row → IsSmall row.1
required_row (Ok (required own)) row small is = subst (λ (x : NodeName × ℤ). IsSmall x.1) (let e : own ≡ row = cc in e) small
required_row (Ok (default u)) row small is = absurd cc
required_row (Ok (arrival own)) row small is = absurd cc
required_row (Ok (want pin)) row small is = absurd cc
required_row (Ok (drive own)) row small is = absurd cc
required_row (Ok (load own)) row small is = absurd cc
required_row (Ok (block node)) row small is = absurd cc
required_row (Ok (allow own)) row small is = absurd cc
required_row (Ok (block_box box)) row small is = absurd cc
required_row (Err kind) row small is = absurd cc

arrival_row : (r : Result Statement ConsKind) (row : NodeName × ℤ) → HasSmallTime r → arrival_in r ≡ Some row → IsSmall row.1
arrival_row (Ok (arrival own)) row small is = subst (λ (x : NodeName × ℤ). IsSmall x.1) (let e : own ≡ row = cc in e) small
arrival_row (Ok (default u)) row small is = absurd cc
arrival_row (Ok (required own)) row small is = absurd cc
arrival_row (Ok (want pin)) row small is = absurd cc
arrival_row (Ok (drive own)) row small is = absurd cc
arrival_row (Ok (load own)) row small is = absurd cc
arrival_row (Ok (block node)) row small is = absurd cc
arrival_row (Ok (allow own)) row small is = absurd cc
arrival_row (Ok (block_box box)) row small is = absurd cc
arrival_row (Err kind) row small is = absurd cc

all_lines : (lines : List Line) → All (λ line. HasSmallTime (statement_of line)) lines
all_lines lines k d low = statement_small _

module _ (lines : List Line) where
  required_rows : All (λ (row : NodeName × ℤ). IsSmall row.1) (stated required_in lines)
  required_rows =
      all_filter_map (λ (row : NodeName × ℤ). IsSmall row.1) (λ line. HasSmallTime (statement_of line)) (λ line. required_in (statement_of line)) lines
      (λ line row small is. required_row (statement_of line) row small is) (all_lines lines)

  arrival_rows : All (λ (row : NodeName × ℤ). IsSmall row.1) (stated arrival_in lines)
  arrival_rows =
      all_filter_map (λ (row : NodeName × ℤ). IsSmall row.1) (λ line. HasSmallTime (statement_of line)) (λ line. arrival_in (statement_of line)) lines
      (λ line row small is. arrival_row (statement_of line) row small is) (all_lines lines)

  defaults : All IsSmall (stated default_in lines)
  defaults =
      all_filter_map IsSmall (λ line. HasSmallTime (statement_of line)) (λ line. default_in (statement_of line)) lines
      (λ line t small is. default_of (statement_of line) t small is) (all_lines lines)

  first_small : (ts : List ℤ) → All IsSmall ts → IfSome (first_of ts) IsSmall
  first_small [] all = tt
  first_small (t ∷ ts) all = all 0 t (omega arith)

  own_or_default : (own other : Option ℤ) (t : ℤ) → IfSome own IsSmall → IfSome other IsSmall → option_or own other ≡ Some t → IsSmall t
  own_or_default None None t first second is = absurd cc
  own_or_default None (Some u) t first second is = subst IsSmall (let e : u ≡ t = cc in e) second
  own_or_default (Some u) other t first second is = subst IsSmall (let e : u ≡ t = cc in e) first

  value_or_zero : (o : Option ℤ) → IfSome o IsSmall → IsSmall (unwrap_or o (pos 0))
  value_or_zero None small = record { low = omega (arith, ints); high = omega (arith, ints) }
  value_or_zero (Some t) small = small

  rows_small : AreTimesSmall (rows_of lines)
  unfolding rows_of
  rows_small = record {
    arrivals = λ at. value_or_zero _ (All-lookup IsSmall (same_node at) (stated arrival_in lines) arrival_rows);
    required = λ at t is.
        own_or_default _ _ t (All-lookup IsSmall (same_node at) (stated required_in lines) required_rows) (first_small (stated default_in lines) defaults) is;
  }

pub times_of_designs_are_small : TimesOfDesignsAreSmall
times_of_designs_are_small texts d of = subst AreTimesSmall (sym of.rows.rows_are) (rows_small (lines_of texts.cons))
