-- What reading makes of one line.
use Rattle.std.proofs.Common.{◌≡◌, ℕ, ◌+◌, ◌<◌, ◌≤◌, Bool, true, false, cond, not, ◌&&◌, List, [], ◌∷◌, ◌++◌, drop, refl, sym, ap, ◌∙◌, arith, add-one, nat_lt, Option, Some, None, Result, Ok, Err, is_some}
use Rattle.std.proofs.lemmas.Bool.{lt-ltb, le-ltb}
use Rattle.std.specs.Prelude.{option_map, map, codes, unwrap_or}
use Rattle.vg_scan.specs.Lines.{Line}
use Rattle.spef_file.specs.declared.fault.SpefKind.{SpefKind}
use Rattle.spef_file.specs.declared.fault.SpefKind.TheVariants.{Header, Unit as UnitKind, MapTwice, MapUnknown, NoEnd, Stray, NetTwice, Unsupported, Memory}
use Rattle.spef_file.specs.declared.heading.Heading.{Heading}
use Rattle.spef_file.specs.declared.keyword.Keyword.{Keyword}
use Rattle.spef_file.specs.declared.keyword.Keyword.TheVariants.{Net, Nothing}
use Rattle.spef_file.specs.declared.keyword.Region.{Region}
use Rattle.spef_file.specs.declared.keyword.Region.TheVariants.{Outside, InMap, InPassed}
use Rattle.vg_scan.specs.declared.chars.Chars.{Chars}
use Rattle.vg_scan.specs.References.{is_reference}
use Rattle.std.specs.List.{list_any}
use Rattle.std.specs.Str.{bytes_eq}
use Rattle.spef_file.specs.Tables.{NetRow, names_of, is_section}
use Rattle.spef_file.proofs.TableLemmas.{map-last}
use Rattle.spef_file.specs.Words.{first_word, second_word, has_words}
use Rattle.spef_file.specs.Keywords.{keyword_of}
use Rattle.spef_file.specs.Headers.{header_line, is_idle}
use Rattle.spef_file.specs.Machine.{State, after, after_body, with_heading, fault_in, counted, state_fault, body_fault, head_fault, name_fault, row_fault, with_row, after_nothing, head_of}
use Rattle.spef_file.specs.Rows.{map_line, head_name}
use Rattle.spef_file.specs.Nets.{is_taken, is_end, is_head, end_at}
use Rattle.spef_file.specs.Machine.{read, unless_fault}
use Rattle.spef_file.specs.Views.{Fails, IsFaultOrMemory, IsHeadName, IsHead, head_in, heads_in}

pub passes : (s t : State) (line : Line) (later : List Line) → state_fault s line later ≡ None → after s line ≡ t → read s (line ∷ later) ≡ read t later
unfolding read
passes s t line later f e = ap (λ o. unless_fault o (s.count + 1) (read (after s line) later)) f ∙ ap (λ x. read x later) e

pub stopped : (s : State) (line : Line) (later : List Line) (kind : SpefKind) → state_fault s line later ≡ Some kind → read s (line ∷ later) ≡ Err (record { kind = kind; line = s.count + 1 })
unfolding read
stopped s line later kind f = ap (λ o. unless_fault o (s.count + 1) (read (after s line) later)) f

fails_so : (s : State) (line : Line) (later : List Line) (kind : SpefKind) → read s (line ∷ later) ≡ Err (record { kind = kind; line = s.count + 1 }) → Fails kind s line later
fails_so s line later Memory e = tt
fails_so s line later kind e = e

pub fails : (s : State) (line : Line) (later : List Line) (kind : SpefKind) → state_fault s line later ≡ Some kind → Fails kind s line later
fails s line later kind f = fails_so s line later kind (stopped s line later kind f)

pub may_fail : (s : State) (line : Line) (later : List Line) (kind : SpefKind) → IsFaultOrMemory (state_fault s line later) kind → Fails kind s line later
may_fail s line later Memory f = tt
may_fail s line later Header f = stopped s line later Header f
may_fail s line later UnitKind f = stopped s line later UnitKind f
may_fail s line later MapTwice f = stopped s line later MapTwice f
may_fail s line later MapUnknown f = stopped s line later MapUnknown f
may_fail s line later NoEnd f = stopped s line later NoEnd f
may_fail s line later Stray f = stopped s line later Stray f
may_fail s line later NetTwice f = stopped s line later NetTwice f
may_fail s line later Unsupported f = stopped s line later Unsupported f

-- in the header

pub header_says : (s : State) (line : Line) (later : List Line) (idle : Bool) (said : Result Heading SpefKind) → s.in_net ≡ false → s.headed < 14 → is_idle s.headed line ≡ idle → header_line s.headed s.heading line ≡ said
    → (state_fault s line later ≡ cond idle None (fault_in said)) × (after s line ≡ counted (cond idle s (with_heading s said)))
unfolding state_fault after
header_says s line later idle said out low i h =
    let l : nat_lt s.headed 14 ≡ true = lt-ltb s.headed 14 low in
    (rw (out, l, i, h) refl, rw (out, l, i, h) refl)

pub header_idle : (s : State) (line : Line) (later : List Line) → s.in_net ≡ false → s.headed < 14 → is_idle s.headed line ≡ true → read s (line ∷ later) ≡ read (counted s) later
header_idle s line later out low i =
    let h = header_says s line later true (header_line s.headed s.heading line) out low i refl in
    passes s (counted s) line later h.0 h.1

pub header_passes : (s : State) (line : Line) (later : List Line) (heading : Heading) → s.in_net ≡ false → s.headed < 14 → is_idle s.headed line ≡ false → header_line s.headed s.heading line ≡ Ok heading
    → read s (line ∷ later) ≡ read (counted (record s { headed = s.headed + 1; heading = heading })) later
header_passes s line later heading out low i said =
    let h = header_says s line later false (Ok heading) out low i said in
    passes s (counted (record s { headed = s.headed + 1; heading = heading })) line later h.0 h.1

pub header_fails : (s : State) (line : Line) (later : List Line) (kind : SpefKind) → s.in_net ≡ false → s.headed < 14 → is_idle s.headed line ≡ false → header_line s.headed s.heading line ≡ Err kind → Fails kind s line later
header_fails s line later kind out low i said = fails s line later kind (header_says s line later false (Err kind) out low i said).0

-- after the header

pub body_says : (s : State) (line : Line) (later : List Line) (keyword : Keyword) → s.in_net ≡ false → 14 ≤ s.headed → keyword_of (first_word line) ≡ keyword
    → (state_fault s line later ≡ body_fault keyword s line later) × (after s line ≡ counted (after_body keyword s line))
unfolding state_fault after
body_says s line later keyword out high o =
    let l : nat_lt s.headed 14 ≡ false = le-ltb s.headed 14 high in
    (rw (out, l, o) refl, rw (out, l, o) refl)

pub body_passes : (s t : State) (line : Line) (later : List Line) (keyword : Keyword) → s.in_net ≡ false → 14 ≤ s.headed → keyword_of (first_word line) ≡ keyword
    → body_fault keyword s line later ≡ None → counted (after_body keyword s line) ≡ t → read s (line ∷ later) ≡ read t later
body_passes s t line later keyword out high o f e = let h = body_says s line later keyword out high o in passes s t line later (h.0 ∙ f) (h.1 ∙ e)

pub body_fails : (s : State) (line : Line) (later : List Line) (keyword : Keyword) (kind : SpefKind) → s.in_net ≡ false → 14 ≤ s.headed → keyword_of (first_word line) ≡ keyword
    → body_fault keyword s line later ≡ Some kind → Fails kind s line later
body_fails s line later keyword kind out high o f = fails s line later kind ((body_says s line later keyword out high o).0 ∙ f)

pub body_may_fail : (s : State) (line : Line) (later : List Line) (keyword : Keyword) (kind : SpefKind) → s.in_net ≡ false → 14 ≤ s.headed → keyword_of (first_word line) ≡ keyword
    → IsFaultOrMemory (body_fault keyword s line later) kind → Fails kind s line later
body_may_fail s line later keyword kind out high o f =
    may_fail s line later kind (rw (sym (body_says s line later keyword out high o).0) at f)

-- in a net

abbrev pub left : State → ℕ → State
left s n = record s { in_net = false; count = s.count + n }

net_says : (s : State) (line : Line) (later : List Line) (ends : Bool) → is_end line ≡ ends
    → (state_fault (record s { in_net = true }) line later ≡ None) × (after (record s { in_net = true }) line ≡ counted (cond ends (record s { in_net = false }) (record s { in_net = true })))
unfolding state_fault after
net_says s line later ends e = (refl, rw e refl)

one_less : (o : Option ℕ) (k : ℕ) → option_map (λ n. n + 1) o ≡ Some k → (m : ℕ) × (o ≡ Some m) × (k ≡ m + 1)
one_less None k e = absurd (cc)
one_less (Some m) k e = (m, refl, (let f : m + 1 ≡ k = cc in sym f))

net_step : (line : Line) (later : List Line) (k : ℕ) (ends other : Bool) → is_end line ≡ ends → is_head line ≡ other
    → ((m : ℕ) → end_at later ≡ Some m → (s : State) → read (record s { in_net = true }) later ≡ read (left s (m + 1)) (drop (m + 1) later))
    → cond ends (Some 0) (cond other None (option_map (λ n. n + 1) (end_at later))) ≡ Some k
    → (s : State) → read (record s { in_net = true }) (line ∷ later) ≡ read (left s (k + 1)) (drop (k + 1) (line ∷ later))
net_step line later k true other e o more h s =
    let z : 0 ≡ k = cc in
    let n = net_says s line later true e in
    passes (record s { in_net = true }) (left s 1) line later n.0 n.1 ∙ ap (λ m. read (left s (m + 1)) (drop (m + 1) (line ∷ later))) z
net_step line later k false true e o more h s = absurd (cc)
net_step line later k false false e o more h s =
    let (m, f, g) = one_less (end_at later) k h in
    let n = net_says s line later false e in
    passes (record s { in_net = true }) (counted (record s { in_net = true })) line later n.0 n.1
    ∙ more m f (record s { count = s.count + 1 })
    ∙ ap (λ c. read (record s { in_net = false; count = c }) (drop (m + 1) later)) (let x : s.count + 1 + (m + 1) ≡ s.count + (m + 1 + 1) = omega arith in x)
    ∙ ap (λ j. read (left s (m + 1 + 1)) j) (sym (ap (λ j. drop j (line ∷ later)) (add-one (m + 1))))
    ∙ ap (λ j. read (left s (j + 1)) (drop (j + 1) (line ∷ later))) (sym g)

pub net_passes : (later : List Line) (k : ℕ) → end_at later ≡ Some k → (s : State) → read (record s { in_net = true }) later ≡ read (left s (k + 1)) (drop (k + 1) later)
net_passes [] k e = absurd (cc)
net_passes (line ∷ later) k e = net_step line later k (is_end line) (is_head line) refl refl (net_passes later) e

-- a line that opens nothing

nothing_empty : (region : Region) (s : State) → after_nothing region s [] ≡ s
nothing_empty Outside s = refl
nothing_empty InMap s = refl
nothing_empty InPassed s = refl

pub empty_passes : (s : State) (line : Line) (later : List Line) → s.in_net ≡ false → 14 ≤ s.headed → line ≡ [] → read s (line ∷ later) ≡ read (counted s) later
unfolding keyword_of
empty_passes s line later out high e =
    ap (λ l. read s (l ∷ later)) e ∙ body_passes s (counted s) [] later Nothing out high refl refl (ap counted (nothing_empty s.region s))

pub outside_fails : (s : State) (line : Line) (later : List Line) → s.in_net ≡ false → 14 ≤ s.headed → keyword_of (first_word line) ≡ Nothing → has_words line ≡ true → s.region ≡ Outside → Fails Stray s line later
outside_fails s line later out high o w r = body_fails s line later Nothing Stray out high o (rw (w, r) refl)

pub passed_passes : (s : State) (line : Line) (later : List Line) → s.in_net ≡ false → 14 ≤ s.headed → keyword_of (first_word line) ≡ Nothing → has_words line ≡ true → s.region ≡ InPassed → read s (line ∷ later) ≡ read (counted s) later
passed_passes s line later out high o w r = body_passes s (counted s) line later Nothing out high o (rw (w, r) refl) (ap (λ region. counted (after_nothing region s line)) r)

pub row_passes : (s : State) (line : Line) (later : List Line) (row : List ℕ × List ℕ) → s.in_net ≡ false → 14 ≤ s.headed → keyword_of (first_word line) ≡ Nothing → has_words line ≡ true → s.region ≡ InMap
    → map_line s.heading.chars line ≡ Some row → row_fault s.heading.chars s.names line ≡ None → read s (line ∷ later) ≡ read (counted (record s { names = s.names ++ row ∷ [] })) later
row_passes s line later row out high o w r is clear =
    body_passes s (counted (record s { names = s.names ++ row ∷ [] })) line later Nothing out high o
    (rw (w, r) clear)
    (ap (λ region. counted (after_nothing region s line)) r ∙ ap (λ found. counted (with_row s found)) is)

pub row_fails : (s : State) (line : Line) (later : List Line) (kind : SpefKind) → s.in_net ≡ false → 14 ≤ s.headed → keyword_of (first_word line) ≡ Nothing → has_words line ≡ true → s.region ≡ InMap
    → IsFaultOrMemory (row_fault s.heading.chars s.names line) kind → Fails kind s line later
row_fails s line later kind out high o w r h =
    let e : body_fault Nothing s line later ≡ row_fault s.heading.chars s.names line = rw (w, r) refl in
    body_may_fail s line later Nothing kind out high o (rw (sym e) at h)

-- a net

and_false : (b : Bool) → (b && false) ≡ false
and_false true = refl
and_false false = refl

known : (chars : Chars) (rows : List (List ℕ × List ℕ)) (word : List ℕ) (name : Option (List ℕ)) → IsHead chars rows word name → (head_name chars rows word ≡ name) × ((is_reference word && not (is_some name)) ≡ false)
known chars rows word (Some name) h = (h, and_false (is_reference word))
known chars rows word None h = (h.0, ap (λ b. b && true) h.1)

head_says : (s : State) (line : Line) (later : List Line) (name : Option (List ℕ)) (end : Option ℕ) (unknown : Bool) → head_name s.heading.chars s.names (second_word line) ≡ name → end_at later ≡ end
    → (is_reference (second_word line) && not (is_some name)) ≡ unknown
    → head_fault s line later ≡ cond unknown (Some MapUnknown) (cond (is_some end) (name_fault s.nets name) (Some NoEnd))
head_says s line later name end unknown n e u = rw (n, e) (rw u refl)

pub unknown_fails : (s : State) (line : Line) (later : List Line) (name : List ℕ) (kind : SpefKind) → s.in_net ≡ false → 14 ≤ s.headed → keyword_of (first_word line) ≡ Net
    → IsHeadName s.heading.chars s.names (second_word line) name (Err kind) → Fails kind s line later
unknown_fails s line later name Memory out high o h = tt
unknown_fails s line later name MapUnknown out high o h =
    body_fails s line later Net MapUnknown out high o (head_says s line later None (end_at later) true h.1 refl (ap (λ b. b && true) h.2))
unknown_fails s line later name kind out high o h = let e = h.0 in absurd (cc)

pub no_end_fails : (s : State) (line : Line) (later : List Line) (name : Option (List ℕ)) → s.in_net ≡ false → 14 ≤ s.headed → keyword_of (first_word line) ≡ Net
    → IsHead s.heading.chars s.names (second_word line) name → end_at later ≡ None → Fails NoEnd s line later
no_end_fails s line later name out high o h e =
    let k = known s.heading.chars s.names (second_word line) name h in
    body_fails s line later Net NoEnd out high o (head_says s line later name None false k.0 e k.1)

pub no_name_fails : (s : State) (line : Line) (later : List Line) (n : ℕ) → s.in_net ≡ false → 14 ≤ s.headed → keyword_of (first_word line) ≡ Net
    → IsHead s.heading.chars s.names (second_word line) None → end_at later ≡ Some n → Fails Stray s line later
no_name_fails s line later n out high o h e =
    let k = known s.heading.chars s.names (second_word line) None h in
    body_fails s line later Net Stray out high o (head_says s line later None (Some n) false k.0 e k.1)

names-heads : (sections : List NetRow) → map (λ head. head.name) (heads_in sections) ≡ names_of sections
names-heads [] = refl
names-heads (section ∷ sections) = ap (λ names. section.0 ∷ names) (names-heads sections)

taken_is : (sections : List NetRow) (name : List ℕ) → is_taken (heads_in sections) name ≡ is_section sections name
taken_is sections name = ap (list_any (bytes_eq name)) (names-heads sections)

pub twice_fails : (s : State) (line : Line) (later : List Line) (name : List ℕ) (n : ℕ) (sections : List NetRow) → s.in_net ≡ false → 14 ≤ s.headed → keyword_of (first_word line) ≡ Net
    → IsHead s.heading.chars s.names (second_word line) (Some name) → end_at later ≡ Some n → s.nets ≡ heads_in sections → is_section sections name ≡ true → Fails NetTwice s line later
twice_fails s line later name n sections out high o h e nets taken =
    let k = known s.heading.chars s.names (second_word line) (Some name) h in
    let t : is_taken s.nets name ≡ true = ap (λ heads. is_taken heads name) nets ∙ taken_is sections name ∙ taken in
    body_fails s line later Net NetTwice out high o (head_says s line later (Some name) (Some n) false k.0 e k.1 ∙ (rw t refl))

pub net_goes : (s : State) (line : Line) (later : List Line) (name : List ℕ) (n : ℕ) (sections : List NetRow) (section : NetRow) → s.in_net ≡ false → 14 ≤ s.headed → keyword_of (first_word line) ≡ Net
    → IsHead s.heading.chars s.names (second_word line) (Some name) → end_at later ≡ Some n → s.nets ≡ heads_in sections → is_section sections name ≡ false
    → head_in section ≡ record { name = name; reduced = bytes_eq (first_word line) (codes "*R_NET"); line = s.count + 1 }
    → read s (line ∷ later) ≡ read (record s { region = Outside; in_net = false; count = s.count + (n + 2); nets = heads_in (sections ++ section ∷ []) }) (drop (n + 1) later)
net_goes s line later name n sections section out high o h e nets free is =
    let k = known s.heading.chars s.names (second_word line) (Some name) h in
    let t : is_taken s.nets name ≡ false = ap (λ heads. is_taken heads name) nets ∙ taken_is sections name ∙ free in
    let head : head_of s line ≡ head_in section = ap (λ found. record { name = unwrap_or found []; reduced = bytes_eq (first_word line) (codes "*R_NET"); line = s.count + 1 }) k.0 ∙ sym is in
    let heads : s.nets ++ head_of s line ∷ [] ≡ heads_in (sections ++ section ∷ []) = ap (λ x. s.nets ++ x ∷ []) head ∙ ap (λ xs. xs ++ head_in section ∷ []) nets ∙ sym (map-last head_in sections section) in
    let within : State = record s { region = Outside; count = s.count + 1; nets = heads_in (sections ++ section ∷ []) } in
    body_passes s (record within { in_net = true }) line later Net out high o
    (head_says s line later (Some name) (Some n) false k.0 e k.1 ∙ (rw t refl))
    (ap (λ xs. counted (record s { region = Outside; in_net = true; nets = xs })) heads)
    ∙ net_passes later n e within
    ∙ ap (λ c. read (record s { region = Outside; in_net = false; count = c; nets = heads_in (sections ++ section ∷ []) }) (drop (n + 1) later)) (let x : s.count + 1 + (n + 1) ≡ s.count + (n + 2) = omega arith in x)

pub not_is : {b : Bool} (t : Bool) → b ≡ not t → t ≡ not b
not_is true e = (let f : not _ ≡ true = ap not e in sym f)
not_is false e = (let f : not _ ≡ false = ap not e in sym f)
