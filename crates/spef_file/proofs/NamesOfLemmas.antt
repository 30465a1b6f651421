-- The names of a file can be words: those of its map, and those of its nets.
use Rattle.std.proofs.Common.{◌≡◌, ℕ, zero, suc, ◌+◌, ◌<◌, ◌||◌, ◌&&◌, not, Bool, true, false, cond, List, [], ◌∷◌, ◌++◌, length, take, drop, get_or, refl, sym, ap, ◌∙◌, arith, subst, append_assoc, Option, Some, None, is_some}
use Rattle.std.proofs.lemmas.List.{append-nil}
use Rattle.std.proofs.lemmas.Option.{same_Some}
use Rattle.std.specs.Prelude.{option_and_then, unwrap_or}
use Rattle.std.specs.List.{All, AllPass, find}
use Rattle.std.specs.Map.{lookup}
use Rattle.std.specs.Str.{bytes_eq}
use Rattle.vg_scan.specs.Lines.{Line}
use Rattle.vg_scan.specs.Names.{canonical}
use Rattle.vg_scan.specs.Printed.{is_solid, IsPrintable}
use Rattle.vg_scan.specs.References.{is_reference, index_of}
use Rattle.vg_scan.specs.declared.chars.Chars.{Chars}
use Rattle.vg_scan.proofs.SolidLemmas.{AreSolid, text_solid, canonical_printable}
use Rattle.vg_scan.specs.Faults.{IsClear}
use Rattle.vg_scan.specs.Comments.{without_comments}
use Rattle.vg_scan.specs.declared.comments.Comments.TheVariants.{Spef}
use Rattle.spef_file.specs.declared.fault.SpefKind.TheVariants.{Header, Unit as UnitKind, MapTwice, MapUnknown, NoEnd, Stray, NetTwice, Unsupported}
use Rattle.spef_file.specs.Words.{second_word}
use Rattle.spef_file.specs.HeaderLines.{chars_of}
use Rattle.spef_file.specs.Regions.{is_row, is_net_head}
use Rattle.spef_file.specs.Rows.{row_of, map_line, mapped, head_name}
use Rattle.spef_file.specs.Nets.{NetHead}
use Rattle.spef_file.specs.Statements.{listed, gathered, row_in, rows_of, name_in, net_in, nets_of}
use Rattle.spef_file.specs.Faults.{breaks, fault_of, fault_at}
use Rattle.spef_file.specs.Files.{File, file_lines, IsFileOf}

all_nil : {X : Type 0} (P : X → Type 0) → All P []
all_nil P k d l = absurd (omega arith)

all_cons : {X : Type 0} (P : X → Type 0) (x : X) (xs : List X) → P x → All P xs → All P (x ∷ xs)
all_cons P x xs p h zero d l = p
all_cons P x xs p h (suc k) d l = h k d (omega arith)

all_listed : {X : Type 0} (P : X → Type 0) (o : Option X) (xs : List X) → ((x : X) → o ≡ Some x → P x) → All P xs → All P (listed o ++ xs)
all_listed P None xs p h = h
all_listed P (Some x) xs p h = all_cons P x xs (p x refl) h

-- what lines add is such, where what each adds is
pub gathered_all : {A : Type 0} (P : A → Type 0) (add : List Line → Line → Option A) (before later : List Line)
    → ((i : ℕ) (x : A) → i < length later → add (before ++ take i later) (get_or later i []) ≡ Some x → P x) → All P (gathered add before later)
gathered_all P add before [] h = all_nil P
gathered_all P add before (line ∷ later) h =
    all_listed P (add before line) (gathered add (before ++ line ∷ []) later)
    (λ x e. h 0 x (omega arith) (ap (λ ls. add ls line) (append-nil before) ∙ e))
    (gathered_all P add (before ++ line ∷ []) later
    (λ i x l e. h (suc i) x (omega arith) (ap (λ ls. add ls (get_or later i [])) (sym (append_assoc before (line ∷ []) (take i later))) ∙ e)))

if_some : {A : Type 0} (t : Bool) (o : Option A) (x : A) → cond t o None ≡ Some x → (t ≡ true) × (o ≡ Some x)
if_some true o x e = (refl, e)
if_some false o x e = absurd (cc)

solid_take : (n : ℕ) (lines : List Line) → All AreSolid lines → All AreSolid (take n lines)
solid_take zero lines h = all_nil AreSolid
solid_take (suc n) [] h = all_nil AreSolid
solid_take (suc n) (line ∷ lines) h = all_cons AreSolid line (take n lines) (h 0 line (omega arith)) (solid_take n lines (λ j e m. h (suc j) e (omega arith)))

-- the name map

row_name : (index name : Option (List ℕ)) (row : List ℕ × List ℕ) → row_of index name ≡ Some row → name ≡ Some row.1
row_name None name row e = absurd (cc)
row_name (Some index) None row e = absurd (cc)
row_name (Some index) (Some name) row e = ap (λ (r : List ℕ × List ℕ). Some r.1) (same_Some _ _ e)

map_name : (chars : Chars) (line : Line) (row : List ℕ × List ℕ) → AreSolid line → map_line chars line ≡ Some row → IsPrintable row.1
map_name chars [] row h e = absurd (cc)
map_name chars (index ∷ []) row h e = absurd (cc)
map_name chars (index ∷ name ∷ []) row h e = canonical_printable chars name row.1 (h.words 1 [] (omega arith)) (row_name (index_of index) (canonical chars name) row e)
map_name chars (index ∷ name ∷ more ∷ rest) row h e = absurd (cc)

pub rows_printable : (lines : List Line) → All AreSolid lines → All (λ row. IsPrintable row.1) (rows_of lines)
unfolding rows_of
rows_printable lines h = gathered_all (λ (row : List ℕ × List ℕ). IsPrintable row.1) row_in [] lines
    (λ i row l e. map_name (chars_of (take i lines)) (get_or lines i []) row (h i [] l) (if_some (is_row (take i lines) (get_or lines i [])) _ row e).1)

-- the nets

look_step : (P : List ℕ → Type 0) (t : Bool) (here name : List ℕ) (later : Option (List ℕ)) → P here → (later ≡ Some name → P name) → cond t (Some here) later ≡ Some name → P name
look_step P true here name later h k e = subst P (same_Some _ _ e) h
look_step P false here name later h k e = k e

pub looked_up : (P : List ℕ → Type 0) (test : List ℕ → Bool) (rows : List (List ℕ × List ℕ)) (name : List ℕ) → All (λ row. P row.1) rows → lookup test rows ≡ Some name → P name
looked_up P test [] name h e = absurd (cc)
looked_up P test (row ∷ rows) name h e =
    look_step P (test row.0) row.1 name (lookup test rows) (h 0 row (omega arith)) (looked_up P test rows name (λ k d l. h (suc k) d (omega arith))) e

second_solid : (line : Line) → AreSolid line → AllPass is_solid (second_word line)
second_solid [] h = λ k d l. absurd (omega arith)
second_solid (a ∷ []) h = λ k d l. absurd (omega arith)
second_solid (a ∷ b ∷ rest) h = h.words 1 [] (omega arith)

mapped_name : (rows : List (List ℕ × List ℕ)) (index : Option (List ℕ)) (name : List ℕ) → All (λ row. IsPrintable row.1) rows → option_and_then (mapped rows) index ≡ Some name → IsPrintable name
mapped_name rows None name h e = absurd (cc)
mapped_name rows (Some digits) name h e = looked_up IsPrintable (bytes_eq digits) rows name h e

head_printable : (chars : Chars) (rows : List (List ℕ × List ℕ)) (word name : List ℕ) → All (λ row. IsPrintable row.1) rows → AllPass is_solid word → head_name chars rows word ≡ Some name → IsPrintable name
head_printable chars rows word name h k e = step (is_reference word) e
  where
    step : (t : Bool) → cond t (option_and_then (mapped rows) (index_of word)) (canonical chars word) ≡ Some name → IsPrintable name
    step true f = mapped_name rows (index_of word) name h f
    step false f = canonical_printable chars word name k f

-- a line without a fault has none of this kind
not_first : {A : Type 0} (test : A → Bool) (x : A) (xs : List A) → find test (x ∷ xs) ≡ None → (test x ≡ false) × (find test xs ≡ None)
not_first test x xs e = step (test x) refl e
  where
    step : (t : Bool) → test x ≡ t → cond t (Some x) (find test xs) ≡ None → (test x ≡ false) × (find test xs ≡ None)
    step true s f = absurd (cc)
    step false s f = (s, f)

no_stray : (before : List Line) (line : Line) (later : List Line) → fault_of before line later ≡ None → breaks before line later Stray ≡ false
unfolding fault_of
no_stray before line later e =
    let a = not_first (breaks before line later) Header (UnitKind ∷ MapTwice ∷ MapUnknown ∷ NoEnd ∷ Stray ∷ NetTwice ∷ Unsupported ∷ []) e in
    let b = not_first (breaks before line later) UnitKind (MapTwice ∷ MapUnknown ∷ NoEnd ∷ Stray ∷ NetTwice ∷ Unsupported ∷ []) a.1 in
    let c = not_first (breaks before line later) MapTwice (MapUnknown ∷ NoEnd ∷ Stray ∷ NetTwice ∷ Unsupported ∷ []) b.1 in
    let d = not_first (breaks before line later) MapUnknown (NoEnd ∷ Stray ∷ NetTwice ∷ Unsupported ∷ []) c.1 in
    let f = not_first (breaks before line later) NoEnd (Stray ∷ NetTwice ∷ Unsupported ∷ []) d.1 in
    (not_first (breaks before line later) Stray (NetTwice ∷ Unsupported ∷ []) f.1).0

or_second : (a b : Bool) → (a || b) ≡ false → b ≡ false
or_second true b e = absurd (cc)
or_second false b e = e

-- the head of a net has a name, where its line has no fault
named : (t : Bool) (o : Option (List ℕ)) → t ≡ true → (t && not (is_some o)) ≡ false → o ≡ Some (unwrap_or o [])
named true None e f = absurd (cc)
named true (Some name) e f = refl
named false o e f = absurd (cc)

same_name : (one other : NetHead) → one ≡ other → one.name ≡ other.name
same_name one other e = ap (λ (h : NetHead). h.name) e

net_printable : (before : List Line) (line : Line) (later : List Line) (head : NetHead) → All AreSolid before → AreSolid line → fault_of before line later ≡ None → net_in before line ≡ Some head → IsPrintable head.name
net_printable before line later head h k clear e =
    let s = if_some (is_net_head before line) _ head e in
    let n : unwrap_or (name_in before line) [] ≡ head.name = same_name _ head (same_Some _ _ s.1) in
    let some : name_in before line ≡ Some (unwrap_or (name_in before line) []) = named (is_net_head before line) (name_in before line) s.0 (or_second _ _ (no_stray before line later clear)) in
    subst IsPrintable n (head_printable (chars_of before) (rows_of before) (second_word line) (unwrap_or (name_in before line) []) (rows_printable before h) (second_solid line k) some)

pub nets_printable : (lines : List Line) → All AreSolid lines → IsClear (fault_at lines) (length lines) → All (λ head. IsPrintable head.name) (nets_of lines)
unfolding nets_of
nets_printable lines h clear = gathered_all (λ (head : NetHead). IsPrintable head.name) net_in [] lines
    (λ i head l e. net_printable (take i lines) (get_or lines i []) (drop (i + 1) lines) head (solid_take i lines h) (h i [] l) (clear i l) e)

-- of a file
pub record HasNames (file : File) : Type 0 where
  pub map : All (λ row. IsPrintable row.1) file.names
  pub nets : All (λ head. IsPrintable head.name) file.nets

pub names_printable : (text : List ℕ) (file : File) → IsFileOf text file → HasNames file
names_printable text file is =
    let solid : All AreSolid (file_lines text) = text_solid (without_comments Spef text) in
    record {
      map = subst (λ (f : File). All (λ (row : List ℕ × List ℕ). IsPrintable row.1) f.names) (sym is.says) (rows_printable (file_lines text) solid);
      nets = subst (λ (f : File). All (λ (head : NetHead). IsPrintable head.name) f.nets) (sym is.says) (nets_printable (file_lines text) solid is.clear);
    }
