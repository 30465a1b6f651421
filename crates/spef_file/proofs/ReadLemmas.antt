-- What reading all lines of a file tells: what they say, or their first fault.
use Rattle.std.proofs.Common.{◌≡◌, ℕ, suc, ◌+◌, ◌-◌, ◌<◌, ◌≤◌, inl, inr, List, [], ◌∷◌, length, get_or, take, drop, refl, sym, ap, ◌∙◌, subst, arith, Option, Some, None, Ok, Err, Result, length-drop, length-take, drop-cons, pos, max}
use Rattle.std.proofs.lemmas.Bool.{cases_lt}
use Rattle.std.proofs.lemmas.List.{take_all}
use Rattle.vg_scan.specs.Lines.{Line, lines_of}
use Rattle.vg_scan.specs.Comments.{without_comments}
use Rattle.vg_scan.specs.declared.comments.Comments.TheVariants.{Spef}
use Rattle.spef_file.specs.declared.fault.SpefKind.{SpefKind}
use Rattle.spef_file.specs.declared.fault.SpefKind.TheVariants.{Header}
use Rattle.vg_scan.specs.declared.fault.LineFault.{LineFault}
use Rattle.spef_file.specs.HeaderLines.{spoken, chars_of, c_places_of, r_places_of}
use Rattle.spef_file.specs.Regions.{place_of}
use Rattle.spef_file.specs.Statements.{rows_of, nets_of}
use Rattle.spef_file.specs.Faults.{fault_of, fault_at}
use Rattle.spef_file.specs.Files.{said_by, file_lines, IsFileOf, IsFileFault}
use Rattle.spef_file.specs.Machine.{State, START, after, state_fault, read, said}
use Rattle.spef_file.proofs.EndLemmas.{drop_more, take_next}
use Rattle.spef_file.proofs.StepLemmas.{passes, stopped}
use Rattle.spef_file.proofs.FollowLemmas.{Follows, same_fault}
use Rattle.spef_file.proofs.GoLemmas.{goes}

-- before the first line
start_follows : Follows [] START
unfolding spoken chars_of c_places_of r_places_of place_of rows_of nets_of
start_follows = record {
  count = refl;
  low = λ l. refl;
  high = λ h. absurd (omega arith);
  chars = refl;
  c_places = refl;
  r_places = refl;
  place = refl;
  begun = λ l. refl;
  closed = λ c. refl;
  names = refl;
  nets = refl;
}

-- the lines from this place up to another have no fault
abbrev Between : List Line → ℕ → ℕ → Type 0
Between all n m = (i : ℕ) → n ≤ i → i < m → fault_at all i ≡ None

-- the first fault from this place on
record IsNextFault (all : List Line) (n : ℕ) (fault : LineFault SpefKind) : Type 0 where
  at : ℕ
  order : (n ≤ at) × (at < length all)
  number : fault.line ≡ at + 1
  before : Between all n at
  here : fault_at all at ≡ Some fault.kind

-- what reading from this place on tells
abbrev Tells : List Line → ℕ → Result State (LineFault SpefKind) → Type 0
Tells all n (Ok s) = Between all n (length all) × Follows all s
Tells all n (Err fault) = IsNextFault all n fault

between_more : (all : List Line) (n m : ℕ) → fault_at all n ≡ None → Between all (n + 1) m → Between all n m
between_more all n m e rest = λ i low high. elim (cases_lt n i) [
  | inl more ↦ rest i (omega arith) high
  | inr same ↦ ap (fault_at all) (let z : i ≡ n = omega arith in z) ∙ e
]

tells_more : (all : List Line) (n : ℕ) (r : Result State (LineFault SpefKind)) → fault_at all n ≡ None → Tells all (n + 1) r → Tells all n r
tells_more all n (Ok s) e t = (between_more all n (length all) e t.0, t.1)
tells_more all n (Err fault) e t = record { at = t.at; order = (omega (arith, t.order), t.order.1); number = t.number; before = between_more all n t.at e t.before; here = t.here }

-- the fault of the line at a place, by the line and those after it
fault_here : (all : List Line) (n : ℕ) (line : Line) (later : List Line) → line ∷ later ≡ drop n all → fault_at all n ≡ fault_of (take n all) line later
fault_here all n line later e =
    let l : n < length all = omega (arith, length-drop n all, ap length e) in
    let d : line ∷ later ≡ get_or all n [] ∷ drop (suc n) all = e ∙ drop-cons all n [] l in
    let g : get_or all n [] ≡ line = (let h : line ≡ get_or all n [] = cc in sym h) in
    ap (λ x. fault_of (take n all) x (drop (n + 1) all)) g ∙ ap (fault_of (take n all) line) (sym (drop_more n all line later e))

stops : (all : List Line) (n : ℕ) (s : State) (line : Line) (later : List Line) (kind : SpefKind) → line ∷ later ≡ drop n all → s.count ≡ n → fault_at all n ≡ Some kind → state_fault s line later ≡ Some kind → Tells all n (read s (line ∷ later))
stops all n s line later kind e c here f =
    let next : IsNextFault all n (record { kind = kind; line = s.count + 1 }) = record {
      at = n;
      order = (omega arith, omega (arith, length-drop n all, ap length e));
      number = ap (λ k. k + 1) c;
      before = λ i low high. absurd (omega arith);
      here = here;
    } in
    subst (Tells all n) (sym (stopped s line later kind f)) next

tells_step : (all : List Line) (n : ℕ) (s : State) (line : Line) (later : List Line) (fault : Option SpefKind) → line ∷ later ≡ drop n all → Follows (take n all) s → s.count ≡ n → state_fault s line later ≡ fault
    → ((t : State) → Follows (take (n + 1) all) t → Tells all (n + 1) (read t later)) → Tells all n (read s (line ∷ later))
tells_step all n s line later None e f c none rest =
    subst (Tells all n) (sym (passes s (after s line) line later none refl))
    (tells_more all n (read (after s line) later) (fault_here all n line later e ∙ same_fault (take n all) s line later f ∙ none)
    (rest (after s line) (subst (λ ls. Follows ls (after s line)) (sym (take_next n all line later e)) (goes (take n all) s line later f none))))
tells_step all n s line later (Some kind) e f c found rest =
    stops all n s line later kind e c (fault_here all n line later e ∙ same_fault (take n all) s line later f ∙ found) found

tells : (all later : List Line) (n : ℕ) (s : State) → later ≡ drop n all → n ≤ length all → Follows (take n all) s → Tells all n (read s later)
unfolding read
tells all [] n s e low f =
    let long : length all ≤ n = omega (arith, length-drop n all, ap length e) in
    (λ i l h. absurd (omega arith), subst (λ ls. Follows ls s) (take_all n all long) f)
tells all (line ∷ later) n s e low f =
    let l : n < length all = omega (arith, length-drop n all, ap length e) in
    tells_step all n s line later (state_fault s line later) e f (f.count ∙ length-take n all ∙ (let z = l in omega arith)) refl
    (λ t g. tells all later (n + 1) t (drop_more n all line later e) (omega arith) g)

told : (all : List Line) → Tells all 0 (read START all)
told all = tells all all 0 START refl (omega arith) start_follows

-- what is read of a file
said_is : (all : List Line) (s : State) → Follows all s → said s ≡ said_by all
said_is all s f = λ i. record { chars = f.chars i; c_places = pos (f.c_places i); r_places = pos (f.r_places i); names = f.names i; nets = f.nets i }

module _ (text clear : List ℕ) (is : clear ≡ without_comments Spef text) where
  -- the lines are those of the file
  told_of : (r : Result State (LineFault SpefKind)) → read START (lines_of clear) ≡ r → Tells (file_lines text) 0 r
  told_of r e = subst (λ t. Tells (lines_of t) 0 r) is (subst (Tells (lines_of clear) 0) e (told (lines_of clear)))

  pub file_fault : (fault : LineFault SpefKind) → read START (lines_of clear) ≡ Err fault → IsFileFault text fault
  file_fault fault e =
      let t = told_of (Err fault) e in
      inl (record {
        counted = omega (arith, t.number);
        within = omega (arith, t.number, t.order);
        before = λ i l. t.before i (omega arith) (omega (arith, t.number));
        here = ap (fault_at (file_lines text)) (let z : fault.line - 1 ≡ t.at = omega (arith, t.number) in z) ∙ t.here;
      })

  pub file_missing : (s : State) → read START (lines_of clear) ≡ Ok s → s.headed < 14 → IsFileFault text (record { kind = Header; line = max s.count 1 })
  file_missing s e low =
      let t = told_of (Ok s) e in
      inr (record {
        clear = λ i l. t.0 i (omega arith) l;
        short = omega (arith, t.1.low low);
        kind = refl;
        last = ap (λ n. max n 1) t.1.count;
      })

  pub file_said : (s : State) → read START (lines_of clear) ≡ Ok s → 14 ≤ s.headed → IsFileOf text (said s)
  file_said s e high =
      let t = told_of (Ok s) e in
      record {
        clear = λ i l. t.0 i (omega arith) l;
        headed = t.1.high high;
        says = said_is (file_lines text) s t.1;
      }
