-- Laws of netlists and of their faults.
use Rattle.std.proofs.Common.{◌⊎◌, inl, inr, length-append, ◌≡◌, ◌≢◌, ℕ, ◌<◌, ◌≤◌, ◌==◌, nat_lt, Bool, true, false, not, ◌||◌, ◌&&◌, is_some, List, [], ◌∷◌, ◌++◌, length, map, flat_map, get_or, Option, Some, None, refl, sym, ap, ◌∙◌, subst, arith, append_assoc}
use Rattle.std.specs.List.{All, list_any}
use Rattle.std.specs.Str.{bytes_eq}
use Rattle.std.proofs.lemmas.Bool.Decides.{nat_tests}
use Rattle.std.proofs.lemmas.List.Elements.{All-append, All-cons, All-contains, All-map, All-nil}
use Rattle.std.proofs.lemmas.List.{append-nil, get_or_append_left}
use Rattle.std.proofs.Math.Seq.{get_or-append_seam}
use Rattle.name_tables.specs.Distinct.{number_of, with_name}
use Rattle.name_tables.specs.NameTables.{AreDistinct}
use Rattle.name_tables.proofs.NameTableLemmas.{absent_of}
use Rattle.vg_scan.specs.declared.fault.LineFault.{LineFault}
use Rattle.ver_syntax.specs.declared.fault.VerKind.{VerKind}
use Rattle.ver_syntax.specs.declared.fault.VerKind.TheVariants.{Grammar, InstanceTwice, NameClash}
use Rattle.ver_syntax.specs.declared.row.Row.{Row}
use Rattle.ver_syntax.specs.Syntax.{line_at}
use Rattle.ver_syntax.proofs.LawLemmas.{faults_once, modules_are_faultless}
use Rattle.ver_module.specs.Netlists.{AreWithin, IsNamed, Netlist}
use Rattle.ver_module.proofs.NameLemmas.{is_there}
use Rattle.ver_module.specs.Ranges.{bits_of}
use Rattle.ver_items.specs.Declarations.{declared_of, range_in}
use Rattle.ver_items.specs.Sections.{name_at}
use Rattle.ver_file.specs.declared.first.Flaw.{Flaw}
use Rattle.ver_file.specs.Flaws.{IsFirst, Named, clashes, flaws_at, flaws_of, grammar_flaws, instance_flaws, is_before, named_nets, rank, repeated, unless}
use Rattle.ver_file.specs.Laws.{FaultsOnce, LinksAreOwn, NamesAreDistinct, NetlistsAreFaultless, NetsAreNamed, ReadsOnce}
use Rattle.ver_file.specs.Modules.IsFirstFault.{in_module, in_syntax}
use Rattle.ver_file.specs.Nets.{net, nets_at, tokens_of_nets}
use Rattle.ver_file.specs.Tables.{names_of}
use Rattle.ver_file.proofs.FlawLemmas.{next_repeated}
use Rattle.ver_file.proofs.LinkLemmas.{assigned_within, links_within}
use Rattle.ver_file.proofs.NetLemmas.{names_given, no_left, no_name_flaw, no_right, not_any, passes}

pub reads_once : ReadsOnce
reads_once text m n a b = a.is ∙ sym b.is

-- ---- faults

none_first : (text : List ℕ) (fault : LineFault VerKind) → IsFirst text [] fault → ⊥
none_first text fault h = let among = h.among in absurd (omega (arith, among.1))

pub netlists_are_faultless : NetlistsAreFaultless
netlists_are_faultless text m fault d (in_syntax h) = modules_are_faultless text fault d.tokens d.grammar h
netlists_are_faultless text m fault d (in_module t g h) = none_first text fault (subst (λ (fs : List Flaw). IsFirst text fs fault) d.flawless h)

-- the kinds of flaws
abbrev IsKind : VerKind → Type 0
IsKind kind = (kind ≡ NameClash) ⊎ ((kind ≡ InstanceTwice) ⊎ (kind ≡ Grammar))

same_kind : (a b : VerKind) → IsKind a → IsKind b → rank a ≡ rank b → a ≡ b
same_kind a b (inl p) (inl q) e = p ∙ sym q
same_kind a b (inl p) (inr (inl q)) e = absurd (let c : 0 ≡ 1 = ap rank (sym p) ∙ e ∙ ap rank q in omega (arith, c))
same_kind a b (inl p) (inr (inr q)) e = absurd (let c : 0 ≡ 2 = ap rank (sym p) ∙ e ∙ ap rank q in omega (arith, c))
same_kind a b (inr (inl p)) (inl q) e = absurd (let c : 1 ≡ 0 = ap rank (sym p) ∙ e ∙ ap rank q in omega (arith, c))
same_kind a b (inr (inl p)) (inr (inl q)) e = p ∙ sym q
same_kind a b (inr (inl p)) (inr (inr q)) e = absurd (let c : 1 ≡ 2 = ap rank (sym p) ∙ e ∙ ap rank q in omega (arith, c))
same_kind a b (inr (inr p)) (inl q) e = absurd (let c : 2 ≡ 0 = ap rank (sym p) ∙ e ∙ ap rank q in omega (arith, c))
same_kind a b (inr (inr p)) (inr (inl q)) e = absurd (let c : 2 ≡ 1 = ap rank (sym p) ∙ e ∙ ap rank q in omega (arith, c))
same_kind a b (inr (inr p)) (inr (inr q)) e = p ∙ sym q

all_kind : (kind : VerKind) → IsKind kind → (places : List ℕ) → All (λ f. IsKind f.kind) (flaws_at kind places)
all_kind kind k [] = All-nil (λ (f : Flaw). IsKind f.kind)
all_kind kind k (p ∷ ps) = All-cons (λ (f : Flaw). IsKind f.kind) (record { place = p; kind = kind }) (flaws_at kind ps) k (all_kind kind k ps)

flaw_kinds : (text : List ℕ) → All (λ f. IsKind f.kind) (flaws_of text)
flaw_kinds text =
    let A = flaws_at NameClash (clashes text) in
    let B = flaws_at InstanceTwice (instance_flaws text) in
    let C = flaws_at Grammar (grammar_flaws text) in
    All-append (λ (f : Flaw). IsKind f.kind) A (B ++ C) (all_kind NameClash (inl refl) (clashes text))
    (All-append (λ (f : Flaw). IsKind f.kind) B C (all_kind InstanceTwice (inr (inl refl)) (instance_flaws text)) (all_kind Grammar (inr (inr refl)) (grammar_flaws text)))

one_place : (l k r s : ℕ) → (nat_lt l k || ((l == k) && nat_lt r s)) ≡ false → (nat_lt k l || ((k == l) && nat_lt s r)) ≡ false → l ≡ k
one_place l k r s a b = grind (arith, nat_tests, a, b)

one_rank : (l k r s : ℕ) → (nat_lt l k || ((l == k) && nat_lt r s)) ≡ false → (nat_lt k l || ((k == l) && nat_lt s r)) ≡ false → r ≡ s
one_rank l k r s a b = grind (arith, nat_tests, a, b)

first_once : (text : List ℕ) (f g : LineFault VerKind) → IsFirst text (flaws_of text) f → IsFirst text (flaws_of text) g → f ≡ g
first_once text f g a b =
    let x = a.found in
    let y = b.found in
    let xy = All-contains (λ (other : Flaw). is_before other y ≡ false) (flaws_of text) x b.least a.among in
    let yx = All-contains (λ (other : Flaw). is_before other x ≡ false) (flaws_of text) y a.least b.among in
    let place : x.place ≡ y.place = one_place x.place y.place (rank x.kind) (rank y.kind) xy yx in
    let ranks : rank x.kind ≡ rank y.kind = one_rank x.place y.place (rank x.kind) (rank y.kind) xy yx in
    let kind : x.kind ≡ y.kind =
    same_kind x.kind y.kind (All-contains (λ (h : Flaw). IsKind h.kind) (flaws_of text) x (flaw_kinds text) a.among)
    (All-contains (λ (h : Flaw). IsKind h.kind) (flaws_of text) y (flaw_kinds text) b.among) ranks in
    let kinds : f.kind ≡ g.kind = a.kind ∙ kind ∙ sym b.kind in
    let lines : f.line ≡ g.line = a.line ∙ ap (line_at text) place ∙ sym b.line in
    λ i. record { kind = kinds i; line = lines i }

pub each_faults_once : FaultsOnce
each_faults_once text f g (in_syntax a) (in_syntax b) = faults_once text f g a b
each_faults_once text f g (in_syntax a) (in_module t m b) = absurd (modules_are_faultless text f t m a)
each_faults_once text f g (in_module t m a) (in_syntax b) = absurd (modules_are_faultless text g t m b)
each_faults_once text f g (in_module t m a) (in_module s n b) = first_once text f g a b

-- ---- nets

pub links_are_own : LinksAreOwn
links_are_own text m d =
    subst (λ (n : Netlist). AreWithin (length n.nets) n.instances × All (λ net. net < length n.nets) n.assigned) (sym d.is)
    (links_within text d.flawless, assigned_within text d.flawless)

all_named : (text : List ℕ) (tokens : List Row) → All IsNamed (flat_map (nets_at text (declared_of text)) tokens)
all_named text [] = All-nil IsNamed
all_named text (r ∷ rs) =
    All-append IsNamed (nets_at text (declared_of text) r) (flat_map (nets_at text (declared_of text)) rs)
    (All-map IsNamed (net text (declared_of text) r) (bits_of (range_in (declared_of text) (name_at text r))) (λ k d l. refl)) (all_named text rs)

pub nets_are_named : NetsAreNamed
nets_are_named text m d = subst (λ (n : Netlist). All IsNamed n.nets) (sym d.is) (all_named text (tokens_of_nets text))

none_found : (o : Option ℕ) → is_some o ≡ false → None ≡ o
none_found None e = refl
none_found (Some x) e = absurd (cc)

lt_or_le : (a b : ℕ) → (a < b) ⊎ (b ≤ a)
lt_or_le a b = by_test (nat_lt a b) refl
  where
    by_test : (t : Bool) → nat_lt a b ≡ t → (a < b) ⊎ (b ≤ a)
    by_test true e = inl (grind (arith, nat_tests, e))
    by_test false e = inr (grind (arith, nat_tests, e))

-- one name more, which is new
distinct_more : (names : List (List ℕ)) (name : List ℕ) → AreDistinct names → ((row : ℕ) → row < length names → get_or names row [] ≢ name)
    → AreDistinct (names ++ name ∷ [])
distinct_more names name distinct absent i j less within same = by_cases (lt_or_le j (length names))
  where
    by_cases : (j < length names) ⊎ (length names ≤ j) → ⊥
    by_cases (inl old) =
        distinct i j less old
        (sym (get_or_append_left names (name ∷ []) [] i (omega (arith, less, old))) ∙ same ∙ get_or_append_left names (name ∷ []) [] j old)
    by_cases (inr new) =
        let at : j ≡ length names = omega (arith, length-append names (name ∷ []), new, within) in
        let low : i < length names = omega (arith, length-append names (name ∷ []), less, within) in
        absent i low
        (sym (get_or_append_left names (name ∷ []) [] i low) ∙ same ∙ ap (λ k. get_or (names ++ name ∷ []) k []) at ∙ get_or-append_seam names name [] [])

distinct_after : (names : List (List ℕ)) (named : List Named) → AreDistinct names → repeated names named ≡ [] → AreDistinct (names ++ map (λ n. n.name) named)
distinct_after names [] d e = subst AreDistinct (sym (append-nil names)) d
distinct_after names (g ∷ gs) d e =
    let both = sym (next_repeated names g gs) ∙ e in
    let any : list_any (bytes_eq g.name) names ≡ false =
    not_any (list_any (bytes_eq g.name) names) (passes (not (list_any (bytes_eq g.name) names)) g.place (no_left (unless (not (list_any (bytes_eq g.name) names)) g.place) (repeated (with_name names g.name) gs) both)) in
    let rest : repeated (with_name names g.name) gs ≡ [] = no_right (unless (not (list_any (bytes_eq g.name) names)) g.place) (repeated (with_name names g.name) gs) both in
    let put : with_name names g.name ≡ names ++ g.name ∷ [] = rw any refl in
    let absent = absent_of names g.name (none_found (number_of names g.name) (is_there names g.name ∙ any)) in
    subst AreDistinct (append_assoc names (g.name ∷ []) (map (λ n. n.name) gs))
    (distinct_after (names ++ g.name ∷ []) gs (distinct_more names g.name d absent) (ap (λ ns. repeated ns gs) (sym put) ∙ rest))

pub names_are_distinct : NamesAreDistinct
names_are_distinct text m d =
    subst (λ (n : Netlist). AreDistinct (names_of n.nets)) (sym d.is)
    (subst AreDistinct (names_given text (tokens_of_nets text))
    (distinct_after [] (flat_map (named_nets text) (tokens_of_nets text)) (λ i j less l. absurd (omega (arith, l))) (no_name_flaw text d.flawless)))
