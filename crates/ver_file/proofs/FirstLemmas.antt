-- The first places of flaws, one part of a text after another.
use Rattle.std.proofs.Common.{true, not, ◌≡◌, ℕ, suc, ◌+◌, ◌<◌, ◌≤◌, List, [], ◌∷◌, ◌++◌, length, map, filter, flat_map, drop, fold, get_or, Option, Some, refl, sym, ap, ◌∙◌, arith, append_assoc}
use Rattle.std.proofs.lemmas.List.{append-nil, drop_all, map-append}
use Rattle.std.proofs.lemmas.List.Elements.{filter-append}
use Rattle.std.proofs.Math.Seq.{drop-cons}
use Rattle.name_tables.specs.Distinct.{with_name}
use Rattle.ver_syntax.specs.declared.row.Row.{Row}
use Rattle.ver_module.specs.Netlists.{Net}
use Rattle.ver_items.specs.declared.heading.Heading.{Heading}
use Rattle.ver_items.specs.Declarations.{Declared, declare, declared_by, declared_in, declared_of, direction_in, heading_of, range_in}
use Rattle.ver_file.specs.Firsts.{declared_among, declared_at, first_of, named_by, port_flaws_among}
use Rattle.ver_file.specs.Flaws.{Named, agrees, assignment_flaws, connection_flaws, direction_flaws, given, is_range, named, port_flaws, ports_in, range_flaws, repeated, syntax_flaws, unless}
use Rattle.ver_syntax.specs.declared.row.Place.TheVariants.{Ports}
use Rattle.ver_items.specs.Sections.{Section, instances_in, is_name_in, is_net_name, name_at}
use Rattle.ver_items.specs.SectionSteps.{section_in}
use Rattle.ver_file.proofs.SectionInLemmas.{declared_item}
use Rattle.ver_file.specs.Tables.{names_of}
use Rattle.std.specs.List.{list_any}
use Rattle.std.specs.Str.{bytes_eq}
use Rattle.ver_file.proofs.FlawLemmas.{first_append, next_repeated, none_repeated}
use Rattle.ver_file.proofs.ListLemmas.{flat_map-append}

-- what is found in a list is what is found in its parts
abbrev pub Adds : {X Y : Type 0} → (List X → List Y) → Type 0
Adds {X = X} F = (xs ys : List X) → F (xs ++ ys) ≡ F xs ++ F ys

pub drop-next : {X : Type 0} (rows : List X) (i : ℕ) (d : X) → i < length rows → drop i rows ≡ get_or rows i d ∷ drop (i + 1) rows
drop-next rows i d l = drop-cons rows i d l ∙ ap (λ k. get_or rows i d ∷ drop k rows) (let e : suc i ≡ i + 1 = omega arith in e)

-- one token more
pub next_row : (F : List Row → List ℕ) → Adds F → (first : Option ℕ) (rows after : List Row) (r : Row) → rows ≡ r ∷ after
    → first_of first (F rows) ≡ first_of (first_of first (F (r ∷ []))) (F after)
next_row F add first rows after r e =
    ap (λ xs. first_of first (F xs)) e ∙ ap (first_of first) (add (r ∷ []) after) ∙ first_append first (F (r ∷ [])) (F after)

pub no_row : (F : List Row → List ℕ) → F [] ≡ [] → (first : Option ℕ) (rows : List Row) → rows ≡ [] → first_of first (F rows) ≡ first
no_row F none first rows e = ap (λ xs. first_of first (F xs)) e ∙ ap (first_of first) none

-- one section more
pub next_part : (F : List Section → List ℕ) → Adds F → (first : Option ℕ) (s : Section) (all rest : List Section) → all ≡ s ∷ rest
    → first_of first (F all) ≡ first_of (first_of first (F (s ∷ []))) (F rest)
next_part F add first s all rest e =
    ap (λ ss. first_of first (F ss)) e ∙ ap (first_of first) (add (s ∷ []) rest) ∙ first_append first (F (s ∷ [])) (F rest)

-- ---- what adds

pub declared_adds : (text : List ℕ) (heading : Heading) (g : Declared → List ℕ) → Adds (λ rows. flat_map g (declared_at text heading rows))
declared_adds text heading g xs ys =
    ap (λ rows. flat_map g (map (declare text heading) rows)) (filter-append is_net_name xs ys)
    ∙ ap (flat_map g) (map-append (declare text heading) (filter is_net_name xs) (filter is_net_name ys))
    ∙ flat_map-append g (declared_at text heading xs) (declared_at text heading ys)

-- one identifier of a declaration
pub one_range : (text : List ℕ) (heading : Heading) (r : Row) → is_net_name r ≡ true
    → flat_map (range_flaws (declared_of text)) (declared_at text heading (r ∷ []))
    ≡ unless (is_range (range_in (declared_of text) (name_at text r)) heading.range) r.from
one_range text heading r t = rw t (append-nil (unless (is_range (range_in (declared_of text) (name_at text r)) heading.range) r.from))

pub one_direction : (text : List ℕ) (heading : Heading) (r : Row) → is_net_name r ≡ true
    → flat_map (direction_flaws (declared_of text)) (declared_at text heading (r ∷ []))
    ≡ unless (agrees (direction_in (declared_of text) (name_at text r)) heading.direction) r.from
one_direction text heading r t = rw t (append-nil (unless (agrees (direction_in (declared_of text) (name_at text r)) heading.direction) r.from))

-- one token more of a declaration
pub declared_more : (text : List ℕ) (heading : Heading) (g : Declared → List ℕ) (first found : Option ℕ) (rows after : List Row) (r : Row)
    → rows ≡ r ∷ after → found ≡ first_of first (flat_map g (declared_at text heading (r ∷ [])))
    → first_of found (flat_map g (declared_at text heading after)) ≡ first_of first (flat_map g (declared_at text heading rows))
declared_more text heading g first found rows after r e f =
    ap (λ x. first_of x (flat_map g (declared_at text heading after))) f
    ∙ sym (next_row (λ (rows : List Row). flat_map g (declared_at text heading rows)) (declared_adds text heading g) first rows after r e)

-- all tokens of a declaration
pub declared_all : (text : List ℕ) (declaration : Section) (heading : Heading) (g : Declared → List ℕ) (first found : Option ℕ) (left : List Row)
    → left ≡ [] → heading ≡ heading_of text declaration
    → first_of found (flat_map g (declared_at text heading left)) ≡ first_of first (flat_map g (declared_at text heading declaration.body))
    → found ≡ first_of first (flat_map g (declared_in text declaration))
declared_all text declaration heading g first found left e h all =
    sym (no_row (λ (rows : List Row). flat_map g (declared_at text heading rows)) refl found left e)
    ∙ all
    ∙ ap (λ said. first_of first (flat_map g (declared_at text said declaration.body))) h

pub ports_add : (text : List ℕ) → Adds (port_flaws_among text)
ports_add text xs ys =
    ap (flat_map (port_flaws text)) (filter-append (is_name_in Ports) xs ys)
    ∙ flat_map-append (port_flaws text) (filter (is_name_in Ports) xs) (filter (is_name_in Ports) ys)

pub twice_adds : {X Y : Type 0} (g : X → List Y) (f : Section → List X) → Adds (λ ss. flat_map g (flat_map f ss))
twice_adds g f xs ys = ap (flat_map g) (flat_map-append f xs ys) ∙ flat_map-append g (flat_map f xs) (flat_map f ys)

-- ---- names that are given again, in parts

pub repeated-append : (names : List (List ℕ)) (xs ys : List Named)
    → repeated names (xs ++ ys) ≡ repeated names xs ++ repeated (fold with_name names (map (λ n. n.name) xs)) ys
repeated-append names [] ys = ap (λ zs. zs ++ repeated names ys) (sym (none_repeated names))
repeated-append names (x ∷ xs) ys =
    let here = unless (not (list_any (bytes_eq x.name) names)) x.place in
    next_repeated names x (xs ++ ys)
    ∙ ap (λ zs. here ++ zs) (repeated-append (with_name names x.name) xs ys)
    ∙ sym (append_assoc here (repeated (with_name names x.name) xs) (repeated (fold with_name (with_name names x.name) (map (λ n. n.name) xs)) ys))
    ∙ ap (λ zs. zs ++ repeated (fold with_name (with_name names x.name) (map (λ n. n.name) xs)) ys) (sym (next_repeated names x xs))

pub named_names : (text : List ℕ) (ss : List Section) → map (λ n. n.name) (map (named text) ss) ≡ map (named_by text) ss
named_names text [] = refl
named_names text (s ∷ ss) = ap (λ ns. name_at text s.head ∷ ns) (named_names text ss)

-- the sections of one item more
pub next_names : (text : List ℕ) (first : Option ℕ) (names : List (List ℕ)) (xs ys : List Section)
    → first_of first (repeated names (map (named text) (xs ++ ys)))
    ≡ first_of (first_of first (repeated names (map (named text) xs))) (repeated (fold with_name names (map (named_by text) xs)) (map (named text) ys))
next_names text first names xs ys =
    ap (λ ns. first_of first (repeated names ns)) (map-append (named text) xs ys)
    ∙ ap (first_of first) (repeated-append names (map (named text) xs) (map (named text) ys))
    ∙ first_append first (repeated names (map (named text) xs)) (repeated (fold with_name names (map (λ n. n.name) (map (named text) xs))) (map (named text) ys))
    ∙ ap (λ ns. first_of (first_of first (repeated names (map (named text) xs))) (repeated (fold with_name names ns) (map (named text) ys))) (named_names text xs)

-- ---- nets

pub given_names : (place : ℕ) (ns : List Net) → map (λ n. n.name) (map (given place) ns) ≡ names_of ns
given_names place [] = refl
given_names place (n ∷ ns) = ap (λ xs. n.name ∷ xs) (given_names place ns)

-- ---- steps of loops

pub next_nested : {X : Type 0} (g : X → List ℕ) (f : Section → List X) (first : Option ℕ) (s : Section) (all rest : List Section) → all ≡ s ∷ rest
    → first_of first (flat_map g (flat_map f all)) ≡ first_of (first_of first (flat_map g (f s))) (flat_map g (flat_map f rest))
next_nested g f first s all rest e =
    ap (λ ss. first_of first (flat_map g (flat_map f ss))) e
    ∙ ap (first_of first) (flat_map-append g (f s) (flat_map f rest))
    ∙ first_append first (flat_map g (f s)) (flat_map g (flat_map f rest))

-- the flaws of an item's syntax, one kind after another
pub item_grammar : (text : List ℕ) (rows : List Row) (item : Section) (first : Option ℕ) → section_in rows ≡ item ∷ []
    → first_of (first_of (first_of (first_of first (flat_map (direction_flaws (declared_of text)) (declared_among text rows))) (flat_map (port_flaws text) (ports_in item))) (assignment_flaws text item)) (flat_map (connection_flaws text) (instances_in item))
    ≡ first_of first (flat_map (syntax_flaws text) (section_in rows))
item_grammar text rows item first e =
    let d : declared_among text rows ≡ declared_by text item =
    sym (declared_item text rows) ∙ ap (flat_map (declared_by text)) e ∙ append-nil (declared_by text item) in
    let A = flat_map (direction_flaws (declared_of text)) (declared_by text item) in
    let B = flat_map (port_flaws text) (ports_in item) in
    let C = assignment_flaws text item in
    let D = flat_map (connection_flaws text) (instances_in item) in
    ap (λ ds. first_of (first_of (first_of (first_of first (flat_map (direction_flaws (declared_of text)) ds)) B) C) D) d
    ∙ sym (first_append (first_of (first_of first A) B) C D)
    ∙ sym (first_append (first_of first A) B (C ++ D))
    ∙ sym (first_append first A (B ++ (C ++ D)))
    ∙ ap (first_of first) (sym (append-nil (A ++ (B ++ (C ++ D)))))
    ∙ ap (λ ss. first_of first (flat_map (syntax_flaws text) ss)) (sym e)

-- one bit more
pub next_bit : {X : Type 0} (f : Option ℕ → X) (bits : List ℕ) (i b : ℕ) → i < length bits → b ≡ get_or bits i 0
    → map f (map Some (drop i bits)) ≡ f (Some b) ∷ map f (map Some (drop (i + 1) bits))
next_bit f bits i b l e =
    ap (λ bs. map f (map Some bs)) (drop-next bits i 0 l) ∙ ap (λ k. f (Some k) ∷ map f (map Some (drop (i + 1) bits))) (sym e)

pub no_bit : {X : Type 0} (f : Option ℕ → X) (bits : List ℕ) (i : ℕ) → length bits ≤ i → map f (map Some (drop i bits)) ≡ []
no_bit f bits i l = ap (λ bs. map f (map Some bs)) (drop_all i bits l)

-- one identifier's nets more
pub next_token : {X : Type 0} (f : Row → List X) (tokens its : List Row) (i : ℕ) (d : Row) → i < length tokens → tokens ≡ its
    → flat_map f (drop i its) ≡ f (get_or tokens i d) ++ flat_map f (drop (i + 1) its)
next_token f tokens its i d l e =
    ap (λ ts. flat_map f (drop i ts)) (sym e) ∙ ap (flat_map f) (drop-next tokens i d l)
    ∙ ap (λ ts. f (get_or tokens i d) ++ flat_map f (drop (i + 1) ts)) e

pub no_token_left : {X : Type 0} (f : Row → List X) (tokens its : List Row) (i : ℕ) → length tokens ≤ i → tokens ≡ its → flat_map f (drop i its) ≡ []
no_token_left f tokens its i l e = ap (λ ts. flat_map f (drop i ts)) (sym e) ∙ ap (flat_map f) (drop_all i tokens l)

pub next_flaws : (g : Section → List ℕ) (first : Option ℕ) (s : Section) (all rest : List Section) → all ≡ s ∷ rest
    → first_of first (flat_map g all) ≡ first_of (first_of first (g s)) (flat_map g rest)
next_flaws g first s all rest e = ap (λ ss. first_of first (flat_map g ss)) e ∙ first_append first (g s) (flat_map g rest)
