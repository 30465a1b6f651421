-- The state between two lines says what the lines before it say, and it knows the faults that they give a line.
use Rattle.std.proofs.Common.{◌≡◌, ℕ, ◌<◌, ◌≤◌, inl, inr, Bool, true, false, not, ◌&&◌, ◌||◌, cond, eqb, List, [], ◌∷◌, length, refl, sym, ap, ◌∙◌, subst, arith, Option, Some, None, Err, is_some, nat_lt}
use Rattle.std.specs.Prelude.{codes}
use Rattle.std.proofs.lemmas.Bool.{cases_lt, lt-ltb, le-ltb}
use Rattle.vg_scan.specs.Lines.{Line}
use Rattle.vg_scan.specs.Names.{canonical}
use Rattle.vg_scan.specs.References.{is_reference, index_of}
use Rattle.vg_scan.specs.declared.chars.Chars.{Chars}
use Rattle.spef_file.specs.declared.fault.SpefKind.{SpefKind}
use Rattle.spef_file.specs.declared.fault.SpefKind.TheVariants.{Header, Unit as UnitKind, MapTwice, MapUnknown, NoEnd, Stray, NetTwice, Unsupported}
use Rattle.spef_file.specs.declared.heading.Heading.{Heading}
use Rattle.spef_file.specs.declared.keyword.Keyword.{Keyword}
use Rattle.spef_file.specs.declared.keyword.Keyword.TheVariants.{Map, Passed, Net, Foreign, Nothing}
use Rattle.spef_file.specs.declared.keyword.Region.{Region}
use Rattle.spef_file.specs.declared.keyword.Region.TheVariants.{Outside, InMap, InPassed}
use Rattle.spef_file.specs.Words.{first_word, second_word, has_words}
use Rattle.spef_file.specs.Keywords.{keyword_of}
use Rattle.spef_file.specs.HeaderChars.{divider_in, delimiter_in, bus_in}
use Rattle.spef_file.specs.Units.{unit_places}
use Rattle.spef_file.specs.Headers.{is_header_word, header_line, value_line, is_idle, with_chars, with_c_places, with_r_places}
use Rattle.spef_file.specs.HeaderLines.{spoken, in_header, chars_of, c_places_of, r_places_of}
use Rattle.spef_file.specs.Regions.{Place, outside, in_map, in_passed, in_net, place_of, is_net}
use Rattle.spef_file.specs.Rows.{row_of, map_line, row_index, is_mapped, head_name}
use Rattle.spef_file.specs.Nets.{NetHead, end_at, is_taken}
use Rattle.spef_file.specs.Statements.{rows_of, nets_of}
use Rattle.spef_file.specs.Faults.{is_some_and, gives_chars, gives_unit, is_header_line, fault_of}
use Rattle.spef_file.specs.Machine.{State, state_fault, body_fault, nothing_fault, name_fault, row_fault, given_fault, fault_in}
use Rattle.spef_file.proofs.StepLemmas.{header_says, body_says}
use Rattle.spef_file.proofs.MoreLemmas.{truth, decide}

-- the part in which a state's next line stands
abbrev pub place_in : Region → Bool → Place
place_in region true = in_net
place_in Outside false = outside
place_in InMap false = in_map
place_in InPassed false = in_passed

-- the state after these lines
pub record Follows (before : List Line) (s : State) : Type 0 where
  pub count : s.count ≡ length before
  pub low : s.headed < 14 → s.headed ≡ length (spoken before)
  pub high : 14 ≤ s.headed → 14 ≤ length (spoken before)
  pub chars : s.heading.chars ≡ chars_of before
  pub c_places : s.heading.c_places ≡ c_places_of before
  pub r_places : s.heading.r_places ≡ r_places_of before
  pub place : place_in s.region s.in_net ≡ place_of before
  pub begun : s.headed < 14 → place_of before ≡ outside
  pub closed : s.in_net ≡ true → s.region ≡ Outside
  pub names : s.names ≡ rows_of before
  pub nets : s.nets ≡ nets_of before

-- the first kind of which this says yes
abbrev picks : Bool → Bool → Bool → Bool → Bool → Bool → Bool → Bool → Option SpefKind
picks header unit twice unmapped unended stray net foreign =
    cond header (Some Header) (cond unit (Some UnitKind) (cond twice (Some MapTwice) (cond unmapped (Some MapUnknown) (cond unended (Some NoEnd) (cond stray (Some Stray) (cond net (Some NetTwice) (cond foreign (Some Unsupported) None)))))))

no_fault : (before : List Line) (line : Line) (later : List Line) → in_header before ≡ false → is_net (place_of before) ≡ true → fault_of before line later ≡ None
unfolding fault_of
no_fault before line later h p = rw (h, p) refl

-- header lines

idle_fault : (before : List Line) (line : Line) (later : List Line) → in_header before ≡ true → is_idle (length (spoken before)) line ≡ true → fault_of before line later ≡ None
unfolding fault_of
idle_fault before line later h i = rw (h, i) refl

due_fault : (before : List Line) (line : Line) (later : List Line) → in_header before ≡ true → is_idle (length (spoken before)) line ≡ false
    → fault_of before line later ≡ cond (not (is_header_line (length (spoken before)) (chars_of before) line)) (Some Header) (cond (not (gives_unit (length (spoken before)) line)) (Some UnitKind) None)
unfolding fault_of
due_fault before line later h i = rw (h, i) refl

chars_fault : (heading : Heading) (o : Option Chars) → cond (not (is_some o)) (Some Header) None ≡ fault_in (with_chars heading o)
chars_fault heading None = refl
chars_fault heading (Some chars) = refl

c_fault : (heading : Heading) (o : Option ℕ) → cond (not (is_some o)) (Some UnitKind) None ≡ fault_in (with_c_places heading o)
c_fault heading None = refl
c_fault heading (Some n) = refl

r_fault : (heading : Heading) (o : Option ℕ) → cond (not (is_some o)) (Some UnitKind) None ≡ fault_in (with_r_places heading o)
r_fault heading None = refl
r_fault heading (Some n) = refl

abbrev value_kind : ℕ → Heading → Line → Option SpefKind
value_kind n heading line = cond (not (gives_chars n heading.chars line)) (Some Header) (cond (not (gives_unit n line)) (Some UnitKind) None)

other_value : (n : ℕ) (heading : Heading) (line : Line) → eqb n 7 ≡ false → eqb n 8 ≡ false → eqb n 9 ≡ false → value_kind n heading line ≡ fault_in (value_line n heading line)
other_value n heading line a b c =
    elim (decide n 11) [
      | inl e ↦ (let P : ℕ → Type 0 = λ m. value_kind m heading line ≡ fault_in (value_line m heading line) in subst P (sym e) (c_fault heading (unit_places (codes "FF") (codes "PF") line)))
      | inr d ↦ elim (decide n 12) [
        | inl e ↦ (let P : ℕ → Type 0 = λ m. value_kind m heading line ≡ fault_in (value_line m heading line) in subst P (sym e) (r_fault heading (unit_places (codes "OHM") (codes "KOHM") line)))
        | inr e ↦ rw (a, b, c, d, e) refl
      ]
    ]

chars_value : (heading : Heading) (o : Option Chars) → cond (not (is_some o)) (Some Header) (cond (not true) (Some UnitKind) None) ≡ fault_in (with_chars heading o)
chars_value heading o = chars_fault heading o

value_fault : (n : ℕ) (heading : Heading) (line : Line) → value_kind n heading line ≡ fault_in (value_line n heading line)
value_fault n heading line =
    let P : ℕ → Type 0 = λ m. value_kind m heading line ≡ fault_in (value_line m heading line) in
    elim (decide n 7) [
      | inl e ↦ subst P (sym e) (chars_fault heading (divider_in heading.chars line))
      | inr a ↦ elim (decide n 8) [
        | inl e ↦ subst P (sym e) (chars_fault heading (delimiter_in heading.chars line))
        | inr b ↦ elim (decide n 9) [
          | inl e ↦ subst P (sym e) (chars_fault heading (bus_in heading.chars line))
          | inr c ↦ other_value n heading line a b c
        ]
      ]
    ]

line_fault : (t : Bool) (n : ℕ) (heading : Heading) (line : Line)
    → cond (not (t && gives_chars n heading.chars line)) (Some Header) (cond (not (gives_unit n line)) (Some UnitKind) None) ≡ fault_in (cond t (value_line n heading line) (Err Header))
line_fault true n heading line = value_fault n heading line
line_fault false n heading line = refl

header_fault : (n : ℕ) (heading : Heading) (line : Line)
    → cond (not (is_header_line n heading.chars line)) (Some Header) (cond (not (gives_unit n line)) (Some UnitKind) None) ≡ fault_in (header_line n heading line)
unfolding header_line
header_fault n heading line = line_fault (is_header_word n (first_word line) && nat_lt 1 (length line)) n heading line

-- lines after the header

abbrev plain_kind : Place → Bool → Chars → List (List ℕ × List ℕ) → Line → Option SpefKind
plain_kind outside true chars rows line = Some Stray
plain_kind in_map true chars rows line = picks false false (is_some_and (is_mapped rows) (row_index line)) false false (not (is_some (map_line chars line))) false false
plain_kind _ _ chars rows line = None

abbrev head_kind : Chars → List (List ℕ × List ℕ) → List NetHead → Line → List Line → Option SpefKind
head_kind chars rows nets line later =
    let name = head_name chars rows (second_word line) in
    picks false false false (is_reference (second_word line) && not (is_some name)) (not (is_some (end_at later))) (not (is_some name)) (is_some_and (is_taken nets) name) false

or_false : (b : Bool) → (b || false) ≡ b
or_false true = refl
or_false false = refl

plain_is : (place : Place) (words : Bool) (before : List Line) (line : Line) (later : List Line) → is_net place ≡ false → in_header before ≡ false → place_of before ≡ place → has_words line ≡ words → keyword_of (first_word line) ≡ Nothing
    → fault_of before line later ≡ plain_kind place words (chars_of before) (rows_of before) line
unfolding fault_of
plain_is outside true before line later out h p w o = rw (h, p, w, o) refl
plain_is outside false before line later out h p w o = rw (h, p, w, o) refl
plain_is in_map true before line later out h p w o =
    rw (h, p, w, o) (ap (λ b. picks false false (is_some_and (is_mapped (rows_of before)) (row_index line)) false false b false false) (or_false (not (is_some (map_line (chars_of before) line)))))
plain_is in_map false before line later out h p w o = rw (h, p, w, o) refl
plain_is in_passed true before line later out h p w o = rw (h, p, w, o) refl
plain_is in_passed false before line later out h p w o = rw (h, p, w, o) refl
plain_is in_net words before line later out h p w o = absurd (cc)

map_is : (before : List Line) (line : Line) (later : List Line) → in_header before ≡ false → is_net (place_of before) ≡ false → keyword_of (first_word line) ≡ Map → fault_of before line later ≡ None
unfolding fault_of
map_is before line later h p o = rw (h, p, o) refl

passed_is : (before : List Line) (line : Line) (later : List Line) → in_header before ≡ false → is_net (place_of before) ≡ false → keyword_of (first_word line) ≡ Passed → fault_of before line later ≡ None
unfolding fault_of
passed_is before line later h p o = rw (h, p, o) refl

net_is : (before : List Line) (line : Line) (later : List Line) → in_header before ≡ false → is_net (place_of before) ≡ false → keyword_of (first_word line) ≡ Net
    → fault_of before line later ≡ head_kind (chars_of before) (rows_of before) (nets_of before) line later
unfolding fault_of
net_is before line later h p o = rw (h, p, o) refl

foreign_is : (before : List Line) (line : Line) (later : List Line) → in_header before ≡ false → is_net (place_of before) ≡ false → keyword_of (first_word line) ≡ Foreign → fault_of before line later ≡ Some Unsupported
unfolding fault_of
foreign_is before line later h p o = rw (h, p, o) refl

-- the fault of a row
given_is : (rows : List (List ℕ × List ℕ)) (x y : Option (List ℕ)) → picks false false (is_some_and (is_mapped rows) x) false false (not (is_some (row_of x y))) false false ≡ given_fault rows x y
given_is rows None y = refl
given_is rows (Some x) None = refl
given_is rows (Some x) (Some y) = refl

row_is : (chars : Chars) (rows : List (List ℕ × List ℕ)) (line : Line) → picks false false (is_some_and (is_mapped rows) (row_index line)) false false (not (is_some (map_line chars line))) false false ≡ row_fault chars rows line
row_is chars rows [] = refl
row_is chars rows (x ∷ []) = refl
row_is chars rows (x ∷ y ∷ []) = given_is rows (index_of x) (canonical chars y)
row_is chars rows (x ∷ y ∷ z ∷ more) = refl

-- the fault of a head
head_is : (nets : List NetHead) (r : Bool) (name : Option (List ℕ)) (e : Bool)
    → picks false false false (r && not (is_some name)) (not e) (not (is_some name)) (is_some_and (is_taken nets) name) false ≡ cond (r && not (is_some name)) (Some MapUnknown) (cond e (name_fault nets name) (Some NoEnd))
head_is nets r None true = refl
head_is nets r None false = refl
head_is nets r (Some name) true = refl
head_is nets r (Some name) false = refl

plain_same : (region : Region) (words : Bool) (s : State) (line : Line) → s.region ≡ region → plain_kind (place_in region false) words s.heading.chars s.names line ≡ cond words (nothing_fault region s line) None
plain_same Outside true s line r = refl
plain_same Outside false s line r = refl
plain_same InMap true s line r = row_is s.heading.chars s.names line
plain_same InMap false s line r = refl
plain_same InPassed true s line r = refl
plain_same InPassed false s line r = refl

pub not_net : (region : Region) → is_net (place_in region false) ≡ false
not_net Outside = refl
not_net InMap = refl
not_net InPassed = refl

-- a line's fault after the header, and in no net
body_same : (keyword : Keyword) (before : List Line) (s : State) (line : Line) (later : List Line) → Follows before s → in_header before ≡ false → s.in_net ≡ false → keyword_of (first_word line) ≡ keyword → fault_of before line later ≡ body_fault keyword s line later
body_same Nothing before s line later f h n o =
    let p : place_of before ≡ place_in s.region false = sym f.place ∙ ap (place_in s.region) n in
    plain_is (place_in s.region false) (has_words line) before line later (not_net s.region) h p refl o
    ∙ ap (λ chars. plain_kind (place_in s.region false) (has_words line) chars (rows_of before) line) (sym f.chars)
    ∙ ap (λ rows. plain_kind (place_in s.region false) (has_words line) s.heading.chars rows line) (sym f.names)
    ∙ plain_same s.region (has_words line) s line refl
body_same Net before s line later f h n o =
    let p : is_net (place_of before) ≡ false = ap is_net (sym f.place ∙ ap (place_in s.region) n) ∙ not_net s.region in
    net_is before line later h p o
    ∙ ap (λ chars. head_kind chars (rows_of before) (nets_of before) line later) (sym f.chars)
    ∙ ap (λ rows. head_kind s.heading.chars rows (nets_of before) line later) (sym f.names)
    ∙ ap (λ nets. head_kind s.heading.chars s.names nets line later) (sym f.nets)
    ∙ head_is s.nets (is_reference (second_word line)) (head_name s.heading.chars s.names (second_word line)) (is_some (end_at later))
body_same Map before s line later f h n o = map_is before line later h (ap is_net (sym f.place ∙ ap (place_in s.region) n) ∙ not_net s.region) o
body_same Passed before s line later f h n o = passed_is before line later h (ap is_net (sym f.place ∙ ap (place_in s.region) n) ∙ not_net s.region) o
body_same Foreign before s line later f h n o = foreign_is before line later h (ap is_net (sym f.place ∙ ap (place_in s.region) n) ∙ not_net s.region) o

-- the header goes on as long as the state says so

pub goes_on : (before : List Line) (s : State) → Follows before s → s.headed < 14 → in_header before ≡ true
goes_on before s f l = lt-ltb (length (spoken before)) 14 (omega (arith, f.low l))

pub is_over : (before : List Line) (s : State) → Follows before s → 14 ≤ s.headed → in_header before ≡ false
is_over before s f l = le-ltb (length (spoken before)) 14 (f.high l)

pub out_of_net : (region : Region) (inside : Bool) → place_in region inside ≡ outside → inside ≡ false
out_of_net region true e = absurd (cc)
out_of_net region false e = refl

in_header_same : (before : List Line) (s : State) (line : Line) (later : List Line) → Follows before s → s.headed < 14 → s.in_net ≡ false → (idle : Bool) → is_idle s.headed line ≡ idle → fault_of before line later ≡ cond idle None (fault_in (header_line s.headed s.heading line))
in_header_same before s line later f l n true i = idle_fault before line later (goes_on before s f l) (ap (λ k. is_idle k line) (sym (f.low l)) ∙ i)
in_header_same before s line later f l n false i =
    due_fault before line later (goes_on before s f l) (ap (λ k. is_idle k line) (sym (f.low l)) ∙ i)
    ∙ ap (λ k. cond (not (is_header_line k (chars_of before) line)) (Some Header) (cond (not (gives_unit k line)) (Some UnitKind) None)) (sym (f.low l))
    ∙ ap (λ chars. cond (not (is_header_line s.headed chars line)) (Some Header) (cond (not (gives_unit s.headed line)) (Some UnitKind) None)) (sym f.chars)
    ∙ header_fault s.headed s.heading line

inside_fault : (s : State) (line : Line) (later : List Line) → s.in_net ≡ true → state_fault s line later ≡ None
unfolding state_fault
inside_fault s line later e = rw e refl

-- the state knows the fault of the next line
pub same_fault : (before : List Line) (s : State) (line : Line) (later : List Line) → Follows before s → fault_of before line later ≡ state_fault s line later
same_fault before s line later f =
    elim (cases_lt s.headed 14) [
      | inl low ↦ (
          let n = out_of_net s.region s.in_net (f.place ∙ f.begun low) in
          in_header_same before s line later f low n (is_idle s.headed line) refl ∙ sym (header_says s line later (is_idle s.headed line) (header_line s.headed s.heading line) n low refl refl).0)
      | inr high ↦ elim (truth s.in_net) [
        | inl inside ↦ no_fault before line later (is_over before s f high) (ap is_net (sym f.place ∙ ap (place_in s.region) inside)) ∙ sym (inside_fault s line later inside)
        | inr n ↦ body_same (keyword_of (first_word line)) before s line later f (is_over before s f high) n refl ∙ sym (body_says s line later (keyword_of (first_word line)) n high refl).0
      ]
    ]
