-- A line that is read after others.
use Rattle.std.proofs.Common.{◌≡◌, ◌≢◌, ℕ, zero, suc, ◌+◌, ◌<◌, ◌≤◌, ◌==◌, Bool, true, false, cond, not, ◌&&◌, ◌||◌, List, [], length, drop, take, get_or, refl, sym, ap, ◌∙◌, subst, arith, Option, Some, None, ◌⊎◌, inl, inr, Result, Ok, Err}
use Rattle.std.specs.Option.{option_or}
use Rattle.std.specs.Result.{IsErrAnd}
use Rattle.std.specs.List.{position}
use Rattle.std.proofs.lemmas.Bool.Decides.{nat_tests}
use Rattle.std.proofs.lemmas.List.{get_or-map, length-drop}
use Rattle.std.proofs.lemmas.List.Splits.{length-slice_split}
use Rattle.elmore.specs.declared.problem.Problem.{Problem}
use Rattle.vg_scan.specs.Lines.{is_newline}
use Rattle.vg_scan.specs.Faults.{IsClear}
use Rattle.vg_scan.specs.declared.name.NetNames.{NetNames}
use Rattle.vg_scan.specs.declared.fault.LineFault.{LineFault}
use Rattle.vg_scan.proofs.FaultLemmas.{clear_more, first_fault}
use Rattle.vg_scan.proofs.ItemLemmas.{next_is}
use Rattle.vg_scan.proofs.LineLemmas.{first_at}
use Rattle.vg_cert.specs.declared.fault.CertKind.{CertKind}
use Rattle.vg_cert.specs.declared.fault.CertKind.TheVariants.{Form, Memory}
use Rattle.vg_cert.specs.declared.place.Place.{Place}
use Rattle.vg_cert.specs.Lines.{Line, parts, lines, line_at, words, is_empty}
use Rattle.vg_cert.specs.Roles.{Role, goes_on, role_at, line_before}
use Rattle.vg_cert.specs.Faults.{fault_of, own_fault, fault_at, line_fault, rest_fault, is_over_role, is_whole, ends_at, is_cut_short, when}
use Rattle.vg_cert.specs.Readings.{Reading, IsUpTo, IsTaken, IsNotDue, IsMissing, line_told, Reads, IsFaultOrMemory, line_of, lines_of, role_of}
use Rattle.vg_cert.proofs.JudgeLemmas.{below_test, above_test}
use Rattle.vg_cert.proofs.PlaceLemmas.{parts_once, parts_never}
use Rattle.vg_cert.proofs.WordLemmas.{not_empty}

pub some_part : (text : List ℕ) → 0 < length (parts text)
unfolding parts
some_part text = omega (arith, length-slice_split is_newline text)

lines_at : (text line : List ℕ) (n : ℕ) → n < length (parts text) → get_or (parts text) n [] ≡ line → line_at (lines text) n ≡ words line
unfolding lines
lines_at text line n l e = get_or-map words (parts text) n [] [] l ∙ ap words e

-- the line that was taken
pub line_taken : (r : Reading) (old new : Place) (line : List ℕ) → IsUpTo r old → IsTaken r.text line old new → line_of r old.count ≡ words line
line_taken r old new line up t =
    let x = next_is (parts r.text) old.count [] line (parts (drop new.at r.text)) (up.here.left ∙ t.parted) in
    lines_at r.text line old.count x.within x.here

more_after : (r : Reading) (old new : Place) (line : List ℕ) → IsUpTo r old → IsTaken r.text line old new → suc old.count < length (parts r.text)
more_after r old new line up t =
    let x = next_is (parts r.text) old.count [] line (parts (drop new.at r.text)) (up.here.left ∙ t.parted) in
    omega (arith, x.within, ap length x.rest, length-drop (old.count + 1) (parts r.text), some_part (drop new.at r.text))

pub within_parts : (r : Reading) (place : Place) → IsUpTo r place → place.count < length (parts r.text)
within_parts r place up = omega (arith, ap length up.here.left, length-drop place.count (parts r.text), some_part (drop place.at r.text))

-- what a line has by itself
own_line : (r : Reading) (n : ℕ) (role : Role) (before : Option Line) (line : Line) → role_of r n ≡ role → line_before r.problem (lines_of r) n role ≡ before → line_of r n ≡ line
    → own_fault r.problem r.names (lines_of r) n ≡ fault_of r.names (line_of r 2) role before line
own_line r n role before line is b e =
    ap (λ o. fault_of r.names (line_of r 2) o (line_before r.problem (lines_of r) n o) (line_of r n)) is
    ∙ ap (λ o. fault_of r.names (line_of r 2) role o (line_of r n)) b
    ∙ ap (λ o. fault_of r.names (line_of r 2) role before o) e

pub own_role : (r : Reading) (n : ℕ) (role : Role) → role_of r n ≡ role → own_fault r.problem r.names (lines_of r) n ≡ fault_of r.names (line_of r 2) role (line_before r.problem (lines_of r) n role) (line_of r n)
own_role r n role is = own_line r n role (line_before r.problem (lines_of r) n role) (line_of r n) is refl refl

own_taken : (r : Reading) (old new : Place) (line : List ℕ) (role : Role) (before : Option Line) → IsUpTo r old → IsTaken r.text line old new → role_of r old.count ≡ role
    → line_before r.problem (lines_of r) old.count role ≡ before → own_fault r.problem r.names (lines_of r) old.count ≡ fault_of r.names (line_of r 2) role before (words line)
own_taken r old new line role before up t is b = own_line r old.count role before (words line) is b (line_taken r old new line up t)

-- where a text ends

not_last : (text : List ℕ) (n : ℕ) → suc n < length (parts text) → ends_at text n ≡ false
not_last text n l = let other : (suc n == length (parts text)) ≡ false = grind (arith, nat_tests) in rw other refl

pub last_ends : (text rest : List ℕ) (n : ℕ) → length (parts text) ≡ suc n → get_or (parts text) n [] ≡ rest → ends_at text n ≡ is_empty rest
last_ends text rest n l e =
    let same : (suc n == length (parts text)) ≡ true = grind (arith, nat_tests) in
    rw same (ap is_empty e)

-- the text ends at a place where nothing is left of it
pub ends_is : (r : Reading) (place : Place) → IsUpTo r place → ends_at r.text place.count ≡ is_empty (drop place.at r.text)
ends_is r place up = by_end (position is_newline (drop place.at r.text)) refl
  where
    by_end : (o : Option ℕ) → position is_newline (drop place.at r.text) ≡ o → ends_at r.text place.count ≡ is_empty (drop place.at r.text)
    by_end (Some k) e =
        let x = next_is (parts r.text) place.count [] (take k (drop place.at r.text)) (parts (drop (k + 1) (drop place.at r.text))) (up.here.left ∙ parts_once (drop place.at r.text) k e) in
        not_last r.text place.count (omega (arith, x.within, ap length x.rest, length-drop (place.count + 1) (parts r.text), some_part (drop (k + 1) (drop place.at r.text))))
        ∙ sym (not_empty (drop place.at r.text) (omega (arith, first_at is_newline (drop place.at r.text) k e)))
    by_end None e =
        let x = next_is (parts r.text) place.count [] (drop place.at r.text) [] (up.here.left ∙ parts_never (drop place.at r.text) e) in
        last_ends r.text (drop place.at r.text) place.count (omega (arith, x.within, ap length x.rest, length-drop (place.count + 1) (parts r.text))) x.here

-- the fault at a place

whole_line : (p : Problem) (names : NetNames) (text : List ℕ) (n : ℕ) → suc n < length (parts text) → fault_at p names text n ≡ line_fault p names text n
unfolding fault_at
whole_line p names text n l = ap (λ t. cond t (line_fault p names text n) (rest_fault text n)) (below_test (suc n) (length (parts text)) l)

pub rest_line : (p : Problem) (names : NetNames) (text : List ℕ) (n : ℕ) → length (parts text) ≤ suc n → fault_at p names text n ≡ rest_fault text n
unfolding fault_at
rest_line p names text n l = ap (λ t. cond t (line_fault p names text n) (rest_fault text n)) (above_test (suc n) (length (parts text)) l)

own_alone : (own : Option CertKind) → option_or own None ≡ own
own_alone None = refl
own_alone (Some kind) = refl

-- a line that is not cut short has the fault that it has by itself
pub uncut_line : (p : Problem) (names : NetNames) (text : List ℕ) (n : ℕ) → suc n < length (parts text) → is_cut_short p text n ≡ false → fault_at p names text n ≡ own_fault p names (lines text) n
uncut_line p names text n l e = whole_line p names text n l ∙ ap (λ t. option_or (own_fault p names (lines text) n) (when t Form)) e ∙ own_alone (own_fault p names (lines text) n)

-- and so has one with a fault
own_first : (p : Problem) (names : NetNames) (text : List ℕ) (n : ℕ) (kind : CertKind) → suc n < length (parts text) → own_fault p names (lines text) n ≡ Some kind → fault_at p names text n ≡ Some kind
own_first p names text n kind l e = whole_line p names text n l ∙ ap (λ o. option_or o (when (is_cut_short p text n) Form)) e

-- the last line, after which another one is due
cut_line : (p : Problem) (names : NetNames) (text : List ℕ) (n : ℕ) → suc n < length (parts text) → own_fault p names (lines text) n ≡ None → ends_at text (suc n) ≡ true
    → is_over_role (role_at p (lines text) (suc n)) ≡ false → fault_at p names text n ≡ Some Form
cut_line p names text n l own ends due = whole_line p names text n l ∙ (λ i. option_or (own i) (when (ends i && not (due i)) Form))

-- a line with another one after it
pub followed : (p : Problem) (text : List ℕ) (n : ℕ) → suc (suc n) < length (parts text) → is_cut_short p text n ≡ false
followed p text n l = ap (λ t. t && not (is_over_role (role_at p (lines text) (suc n)))) (not_last text (suc n) l)

-- the lines before a place have no fault where the text does not end there

uncut : (p : Problem) (text : List ℕ) (n : ℕ) → n < length (parts text) → ends_at text n ≡ false → (i : ℕ) (last : Bool) → (suc i == n) ≡ last → i < n → is_cut_short p text i ≡ false
uncut p text n l e i true is m =
    ap (λ t. t && not (is_over_role (role_at p (lines text) (suc i)))) (ap (ends_at text) (let k : suc i ≡ n = grind (arith, nat_tests) in k) ∙ e)
uncut p text n l e i false is m = followed p text i (let k : suc i ≢ n = grind (arith, nat_tests) in omega (arith, k, l, m))

clear_up : (r : Reading) (n : ℕ) → n < length (parts r.text) → ends_at r.text n ≡ false → IsClear (own_fault r.problem r.names (lines_of r)) n → IsClear (fault_at r.problem r.names r.text) n
clear_up r n l e clear = λ i m. uncut_line r.problem r.names r.text i (omega (arith, l, m)) (uncut r.problem r.text n l e i (suc i == n) refl m) ∙ clear i m

-- a line without a fault
pub taken_line : (r : Reading) (old new : Place) (line : List ℕ) (role : Role) (before : Option Line) → IsUpTo r old → IsTaken r.text line old new → role_of r old.count ≡ role
    → line_before r.problem (lines_of r) old.count role ≡ before → fault_of r.names (line_of r 2) role before (words line) ≡ None → IsUpTo r new
taken_line r old new line role before up t is b e = record {
  here = t.here;
  clear = λ i l. clear_more (own_fault r.problem r.names (lines_of r)) old.count up.clear (own_taken r old new line role before up t is b ∙ e) i (omega (arith, l, t.next));
}

-- a line with a fault
pub faulty_line : (r : Reading) (old new : Place) (line : List ℕ) (role : Role) (before : Option Line) (kind : CertKind) (fault : LineFault CertKind) → IsUpTo r old → IsTaken r.text line old new
    → role_of r old.count ≡ role → line_before r.problem (lines_of r) old.count role ≡ before → (kind ≡ Memory) ⊎ (fault_of r.names (line_of r 2) role before (words line) ≡ Some kind)
    → fault.kind ≡ kind → fault.line ≡ new.count → IsFaultOrMemory r fault
faulty_line r old new line role before kind fault up t is b (inl m) k n = inl (k ∙ m)
faulty_line r old new line role before kind fault up t is b (inr e) k n =
    let l = more_after r old new line up t in
    inr (first_fault (fault_at r.problem r.names r.text) (length (parts r.text)) 1 old.count fault.line fault.kind
    (clear_up r old.count (within_parts r old up) (not_last r.text old.count l) up.clear)
    (own_first r.problem r.names r.text old.count fault.kind l (own_taken r old new line role before up t is b ∙ e ∙ ap (λ (x : CertKind). Some x) (sym k)))
    (within_parts r old up) (omega (arith, n, t.next)))

rest_form : (text : List ℕ) (n : ℕ) → ends_at text n ≡ false → rest_fault text n ≡ Some Form
rest_form text n e = ap (λ t. when (not t || (n == 0)) Form) e

-- the line that is due does not stand at a place: what stands there has the fault
pub stands : (r : Reading) (place : Place) (fault : LineFault CertKind) → IsUpTo r place → ends_at r.text place.count ≡ false
    → (suc place.count < length (parts r.text) → own_fault r.problem r.names (lines_of r) place.count ≡ Some Form) → fault.kind ≡ Form → fault.line ≡ suc place.count → IsFaultOrMemory r fault
stands r place fault up e own k n =
    inr (first_fault (fault_at r.problem r.names r.text) (length (parts r.text)) 1 place.count fault.line fault.kind (clear_up r place.count (within_parts r place up) e up.clear)
    (by_whole (is_whole r.text place.count) refl ∙ ap (λ (x : CertKind). Some x) (sym k)) (within_parts r place up) (omega (arith, n)))
  where
    by_whole : (whole : Bool) → is_whole r.text place.count ≡ whole → fault_at r.problem r.names r.text place.count ≡ Some Form
    by_whole true is = let l : suc place.count < length (parts r.text) = grind (arith, nat_tests) in own_first r.problem r.names r.text place.count Form l (own l)
    by_whole false is = rest_line r.problem r.names r.text place.count (grind (arith, nat_tests)) ∙ rest_form r.text place.count e

line_here : (left : List ℕ) (n : ℕ) → is_empty left ≡ false → line_told left n ≡ suc n
line_here left zero e = refl
line_here left (suc n) e = ap (λ t. cond t (suc n) (suc (suc n))) e

and_first : (a b : Bool) → (a && b) ≡ true → a ≡ true
and_first true b e = refl
and_first false b e = e

pub ends_last : (text : List ℕ) (n : ℕ) → ends_at text n ≡ true → length (parts text) ≤ suc n
ends_last text n e = let same = and_first (suc n == length (parts text)) (is_empty (get_or (parts text) n [])) e in grind (arith, nat_tests)

-- or, where nothing stands there, the line before, or the first one of an empty text
ended : (r : Reading) (n : ℕ) (fault : LineFault CertKind) → n < length (parts r.text) → IsClear (own_fault r.problem r.names (lines_of r)) n → ends_at r.text n ≡ true → is_over_role (role_of r n) ≡ false → fault.kind ≡ Form
    → (left : List ℕ) → is_empty left ≡ true → fault.line ≡ line_told left n → IsFaultOrMemory r fault
ended r zero fault l clear e due k left none n =
    inr (first_fault (fault_at r.problem r.names r.text) (length (parts r.text)) 1 0 fault.line fault.kind (λ i m. absurd (omega (arith, m)))
    (rest_line r.problem r.names r.text 0 (ends_last r.text 0 e) ∙ ap (λ t. when (not t || true) Form) e ∙ ap (λ (x : CertKind). Some x) (sym k)) l (omega (arith, n)))
ended r (suc m) fault l clear e due k left none n =
    let is : fault.line ≡ suc m = n ∙ ap (λ t. cond t (suc m) (suc (suc m))) none in
    inr (first_fault (fault_at r.problem r.names r.text) (length (parts r.text)) 1 m fault.line fault.kind (clear_up r m (omega (arith, l)) (not_last r.text m l) (λ i h. clear i (omega (arith, h))))
    (cut_line r.problem r.names r.text m l (clear m (omega arith)) e due ∙ ap (λ (x : CertKind). Some x) (sym k)) (omega (arith, l)) (omega (arith, is)))

pub not_due : (r : Reading) (place : Place) (fault : LineFault CertKind) → IsUpTo r place → is_over_role (role_of r place.count) ≡ false
    → (suc place.count < length (parts r.text) → own_fault r.problem r.names (lines_of r) place.count ≡ Some Form) → IsNotDue (drop place.at r.text) place.count fault → IsFaultOrMemory r fault
not_due r place fault up due own t = by_left (is_empty (drop place.at r.text)) refl
  where
    by_left : (none : Bool) → is_empty (drop place.at r.text) ≡ none → IsFaultOrMemory r fault
    by_left true e = ended r place.count fault (within_parts r place up) up.clear (ends_is r place up ∙ e) due t.kind (drop place.at r.text) e t.line
    by_left false e = stands r place fault up (ends_is r place up ∙ e) own t.kind (t.line ∙ line_here (drop place.at r.text) place.count e)

-- no line where one is due
pub missing_line : {A : Type 0} (result : Result A (LineFault CertKind)) (r : Reading) (old new : Place) (n : ℕ) (Is : A → Type 0) (fault : LineFault CertKind) → IsErrAnd result (λ f. f ≡ fault) → IsUpTo r old
    → is_over_role (role_of r old.count) ≡ false → IsMissing r.text old fault → Reads result r old new n Is
missing_line (Ok x) r old new n Is fault e up over m = absurd e
missing_line (Err f) r old new n Is fault e up over m =
    let x = next_is (parts r.text) old.count [] (drop old.at r.text) [] (up.here.left ∙ m.rest) in
    let last : length (parts r.text) ≤ suc old.count = omega (arith, ap length x.rest, length-drop (old.count + 1) (parts r.text)) in
    subst (IsFaultOrMemory r) (sym e) (not_due r old fault up over (λ l. absurd (omega (arith, l, last))) m.told)

-- nothing stands before a line that does not go on
pub none_before : (r : Reading) (n : ℕ) (role : Role) → ((x : Role) → goes_on x role ≡ false) → line_before r.problem (lines_of r) n role ≡ None
none_before r zero role h = refl
none_before r (suc n) role h = rw (h (role_of r n)) refl
