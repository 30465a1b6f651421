-- The nets of a file, by their names and by their lines.
use Rattle.std.proofs.Common.{◌≡◌, ℕ, ◌+◌, inl, inr, Bool, true, false, ◌&&◌, ◌||◌, not, cond, List, [], ◌∷◌, ◌++◌, map, refl, sym, ap, ◌∙◌, subst, Option, Some, None, is_some}
use Rattle.std.specs.Prelude.{unwrap_or}
use Rattle.std.proofs.lemmas.List.{append-nil, map-append}
use Rattle.std.proofs.lemmas.Option.{same_Some}
use Rattle.std.proofs.lemmas.Slice.Eq.{bytes_eq-Decides}
use Rattle.std.specs.List.{find}
use Rattle.std.specs.Str.{bytes_eq}
use Rattle.name_tables.specs.Distinct.{AreNew}
use Rattle.vg_scan.specs.Lines.{Line}
use Rattle.vg_scan.specs.declared.fault.LineFault.{LineFault}
use Rattle.spef_file.specs.Files.{File, IsFileOf, file_lines}
use Rattle.spef_file.specs.Nets.{NetHead, is_taken}
use Rattle.spef_file.specs.Regions.{is_net_head, is_lost, is_row}
use Rattle.spef_file.specs.Statements.{listed, gathered, name_in, net_in, nets_of}
use Rattle.spef_file.specs.Faults.{is_some_and}
use Rattle.spef_file.specs.HeaderLines.{chars_of}
use Rattle.spef_file.specs.Rows.{map_line}
use Rattle.spef_file.proofs.MoreLemmas.{nets_more}
use Rattle.spef_net.specs.declared.fault.NetKind.{NetKind}
use Rattle.spef_net.specs.declared.net.ParNet.{ParNet}
use Rattle.spef_net.specs.Denoted.{IsNet}
use Rattle.spef_net.specs.Faults.{IsFaultless}
use Rattle.spef_net.specs.Sections.{statements_in}
use Rattle.spef_net.proofs.OneNetLemmas.{fault_or_none}
use Rattle.spef_net.proofs.OtherLemmas.{other_nets_count_not}
use Rattle.spef_wire.specs.Nets.{IsMissing, IsNetNamed, IsFaultNamed}
use Rattle.spef_patch_laws.specs.Runs.{IsRun, head_in, names_of}
use Rattle.spef_patch_laws.specs.NetTexts.{NetText, text_at}
use Rattle.spef_patch_laws.specs.FileLaws.{lines_in}
use Rattle.spef_patch_laws.specs.SectionLaws.{statements_of, IsNetOfText}
use Rattle.spef_patch_laws.proofs.FaultLemmas.{has_none}
use Rattle.spef_patch_laws.proofs.FileLemmas.{run_of}
use Rattle.spef_patch_laws.proofs.ApartLemmas.{In, Apart, in_map, from_map, new_apart}

-- ---- no two nets of a file have one name

or_last : (a b c : Bool) → (a || b || c) ≡ false → c ≡ false
or_last true b c e = absurd (cc)
or_last false true c e = absurd (cc)
or_last false false c e = e

free_head : (nets : List NetHead) (o : Option (List ℕ)) → (true && not (is_some o)) ≡ false → (true && is_some_and (is_taken nets) o) ≡ false → is_taken nets (unwrap_or o []) ≡ false
free_head nets None e f = absurd (cc)
free_head nets (Some name) e f = f

names_step : (before lines : List Line) (line : Line) (t : Bool) (heads : List NetHead) → is_net_head before line ≡ t
    → (t && not (is_some (name_in before line))) ≡ false → (t && is_some_and (is_taken (nets_of before)) (name_in before line)) ≡ false
    → AreNew (names_of (nets_of (before ++ line ∷ []))) (names_of heads)
    → AreNew (names_of (nets_of before)) (names_of (listed (cond t (Some (head_in before line)) None) ++ heads))
names_step before lines line true heads e f g later =
    let more : nets_of (before ++ line ∷ []) ≡ nets_of before ++ head_in before line ∷ [] =
    nets_more before line ∙ ap (λ b. nets_of before ++ listed (cond b (Some (head_in before line)) None)) e in (
      free_head (nets_of before) (name_in before line) f g,
      subst (λ names. AreNew names (names_of heads)) (ap names_of more ∙ map-append (λ (head : NetHead). head.name) (nets_of before) (head_in before line ∷ [])) later,
    )
names_step before lines line false heads e f g later =
    let same : nets_of (before ++ line ∷ []) ≡ nets_of before =
    nets_more before line ∙ ap (λ b. nets_of before ++ listed (cond b (Some (head_in before line)) None)) e ∙ append-nil (nets_of before) in
    subst (λ nets. AreNew (names_of nets) (names_of heads)) same later

names_new : (before lines later : List Line) → IsRun before lines later → AreNew (names_of (nets_of before)) (names_of (gathered net_in before lines))
names_new before [] later run = tt
names_new before (line ∷ lines) later run =
    let h = has_none before line (lines ++ later) run.0 in
    names_step before lines line (is_net_head before line) (gathered net_in (before ++ line ∷ []) lines) refl (or_last (is_lost before line) (is_row before line && not (is_some (map_line (chars_of before) line))) (is_net_head before line && not (is_some (name_in before line))) h.stray) h.taken
    (names_new (before ++ line ∷ []) lines later run.1)

all_nets : (all : List Line) → gathered net_in [] all ≡ nets_of all
unfolding nets_of
all_nets all = refl

pub names_apart : (text : List ℕ) (file : File) → IsFileOf text file → Apart (names_of file.nets)
unfolding nets_of
names_apart text file is =
    let all = file_lines text in
    let new : AreNew [] (names_of (gathered net_in [] all)) = names_new [] all [] (run_of [] all is.clear) in
    subst (λ nets. Apart (names_of nets)) (all_nets all ∙ sym (ap (λ (f : File). f.nets) is.says)) (new_apart [] (names_of (gathered net_in [] all)) new).0

-- ---- the head of a name

found_step : (name : List ℕ) (t : Bool) (x : NetHead) (heads : List NetHead) (h : NetHead) → bytes_eq name x.name ≡ t
    → cond t (Some x) (find (λ (head : NetHead). bytes_eq name head.name) heads) ≡ Some h
    → (find (λ (head : NetHead). bytes_eq name head.name) heads ≡ Some h → In h heads × (name ≡ h.name)) → In h (x ∷ heads) × (name ≡ h.name)
found_step name true x heads h e f more =
    let same = same_Some x h f in
    (inl (sym same), (bytes_eq-Decides name x.name).0 e ∙ ap (λ (head : NetHead). head.name) same)
found_step name false x heads h e f more = (let m = more f in (inr m.0, m.1))

pub found_in : (name : List ℕ) (heads : List NetHead) (h : NetHead) → find (λ (head : NetHead). bytes_eq name head.name) heads ≡ Some h → In h heads × (name ≡ h.name)
found_in name [] h e = absurd (cc)
found_in name (x ∷ heads) h e = found_step name (bytes_eq name x.name) x heads h refl e (found_in name heads h)

find_step : (t : Bool) (x h : NetHead) (heads : List NetHead) → bytes_eq h.name x.name ≡ t → (In x.name (names_of heads) → ⊥) → In h (x ∷ heads)
    → (In h heads → find (λ (head : NetHead). bytes_eq h.name head.name) heads ≡ Some h) → cond t (Some x) (find (λ (head : NetHead). bytes_eq h.name head.name) heads) ≡ Some h
find_step true x h heads e free (inl same) more = ap (λ head. Some head) (sym same)
find_step true x h heads e free (inr there) more =
    absurd (free (subst (λ n. In n (names_of heads)) ((bytes_eq-Decides h.name x.name).0 e) (in_map (λ (head : NetHead). head.name) h heads there)))
find_step false x h heads e free (inl same) more = absurd (let t : bytes_eq h.name x.name ≡ true = (bytes_eq-Decides h.name x.name).1 (ap (λ (head : NetHead). head.name) same) in cc)
find_step false x h heads e free (inr there) more = more there

pub find_there : (heads : List NetHead) (h : NetHead) → Apart (names_of heads) → In h heads → find (λ (head : NetHead). bytes_eq h.name head.name) heads ≡ Some h
find_there [] h apart there = absurd there
find_there (x ∷ heads) h apart there = find_step (bytes_eq h.name x.name) x h heads refl apart.0 there (find_there heads h apart.1)

-- ---- nets by their lines

-- the nets of a file, each as its lines
abbrev pub texts_of : List ℕ → File → List NetText
texts_of text file = map (text_at (lines_in text)) file.nets

-- the net of a name, by its lines
pub record IsNamedText (text : List ℕ) (file : File) (name : List ℕ) (net : ParNet) : Type 0 where
  pub text_of : NetText
  pub there : In text_of (texts_of text file)
  pub named : text_of.name ≡ name
  pub net_of : IsNetOfText file text_of net

pub named_text : (text : List ℕ) (file : File) (name : List ℕ) (net : ParNet) → IsFileOf text file → IsNetNamed text name net → IsNamedText text file name net
named_text text file name net said named =
    let same : named.file ≡ file = named.head_of.said.says ∙ sym said.says in
    let f = found_in name named.file.nets named.head named.head_of.named in
    record {
      text_of = text_at (lines_in text) named.head;
      there = in_map (text_at (lines_in text)) named.head file.nets (subst (λ (g : File). In named.head g.nets) same f.0);
      named = sym f.1;
      net_of = subst (λ (g : File). IsNetOfText g (text_at (lines_in text) named.head) net) same (record { faultless = named.read.faultless; denoted = named.read.denoted });
    }

pub text_named : (text : List ℕ) (file : File) (t : NetText) (net : ParNet) → IsFileOf text file → In t (texts_of text file) → IsNetOfText file t net → IsNetNamed text t.name net
text_named text file t net said there is =
    let (head, here, e) = from_map (text_at (lines_in text)) t file.nets there in
    let is_here : IsNetOfText file (text_at (lines_in text) head) net = subst (λ u. IsNetOfText file u net) (sym e) is in
    subst (λ (u : NetText). IsNetNamed text u.name net) e (record {
      file = file;
      head = head;
      head_of = record { said = said; named = find_there file.nets head (names_apart text file said) here };
      read = record { faultless = is_here.faultless; denoted = is_here.denoted };
    })

-- no net has a name
pub missing_text : (text : List ℕ) (file : File) (name : List ℕ) → IsFileOf text file → IsMissing text name → (t : NetText) → In t (texts_of text file) → t.name ≡ name → ⊥
missing_text text file name said missing t there e =
    let (head, here, f) = from_map (text_at (lines_in text)) t file.nets there in
    let same : missing.file ≡ file = missing.said.says ∙ sym said.says in
    let found = find_there file.nets head (names_apart text file said) here in
    let named : head.name ≡ name = ap (λ (u : NetText). u.name) f ∙ e in
    let none : None ≡ Some head =
    sym missing.none ∙ ap (λ (g : File). find (λ (h : NetHead). bytes_eq name h.name) g.nets) same
    ∙ ap (λ n. find (λ (h : NetHead). bytes_eq n h.name) file.nets) (sym named) ∙ found in
    cc

none_found : (name : List ℕ) (heads : List NetHead) → ((h : NetHead) → In h heads → h.name ≡ name → ⊥) → find (λ (head : NetHead). bytes_eq name head.name) heads ≡ None
none_found name heads none = by_find (find (λ (head : NetHead). bytes_eq name head.name) heads) refl
  where
    by_find : (o : Option NetHead) → find (λ (head : NetHead). bytes_eq name head.name) heads ≡ o → o ≡ None
    by_find None e = refl
    by_find (Some h) e = absurd (let f = found_in name heads h e in none h f.0 (sym f.1))

pub text_missing : (text : List ℕ) (file : File) (name : List ℕ) → IsFileOf text file → ((t : NetText) → In t (texts_of text file) → t.name ≡ name → ⊥) → IsMissing text name
text_missing text file name said none = record {
  file = file;
  said = said;
  none = none_found name file.nets (λ h there e. none (text_at (lines_in text) h) (in_map (text_at (lines_in text)) h file.nets there) e);
}

-- a net without a fault has none by its name
pub text_clear : (text : List ℕ) (file : File) (name : List ℕ) (fault : LineFault NetKind) → IsFileOf text file
    → ((t : NetText) → In t (texts_of text file) → t.name ≡ name → IsFaultless t.name (statements_of file t)) → IsFaultNamed text name fault → ⊥
text_clear text file name fault said clear faulty =
    let same : faulty.file ≡ file = faulty.head_of.said.says ∙ sym said.says in
    let f = found_in name faulty.file.nets faulty.head faulty.head_of.named in
    let there = in_map (text_at (lines_in text)) faulty.head file.nets (subst (λ (g : File). In faulty.head g.nets) same f.0) in
    let good : IsFaultless faulty.head.name (statements_in text faulty.file faulty.head) =
    subst (λ (g : File). IsFaultless faulty.head.name (statements_in text g faulty.head)) (sym same) (clear (text_at (lines_in text) faulty.head) there (sym f.1)) in
    fault_or_none faulty.head.name (statements_in text faulty.file faulty.head) (faulty.head.line + 1) fault good faulty.first

-- ---- other nets of the file

pub statements_alike : (file : File) (nets : List NetHead) (t : NetText) → statements_of (record file { nets = nets }) t ≡ statements_of file t
statements_alike file nets t = ap (λ s. cond t.reduced [] s) (other_nets_count_not file nets t.lines)

pub net_with : (file : File) (nets : List NetHead) (t : NetText) (net : ParNet) → IsNetOfText file t net → IsNetOfText (record file { nets = nets }) t net
net_with file nets t net is = record {
  faultless = subst (IsFaultless t.name) (sym (statements_alike file nets t)) is.faultless;
  denoted = subst (λ s. IsNet t.name t.reduced s net) (sym (statements_alike file nets t)) is.denoted;
}

pub net_without : (file : File) (nets : List NetHead) (t : NetText) (net : ParNet) → IsNetOfText (record file { nets = nets }) t net → IsNetOfText file t net
net_without file nets t net is = record {
  faultless = subst (IsFaultless t.name) (statements_alike file nets t) is.faultless;
  denoted = subst (λ s. IsNet t.name t.reduced s net) (statements_alike file nets t) is.denoted;
}
