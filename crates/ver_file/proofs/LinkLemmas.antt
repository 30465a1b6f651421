-- A text without a flaw links only to its own nets.
use Rattle.std.proofs.Common.{◌≡◌, ℕ, suc, zero, ◌+◌, ◌-◌, ◌<◌, ◌≤◌, nat_le, min, max, Bool, true, false, cond, ◌||◌, ◌&&◌, List, [], ◌∷◌, ◌++◌, length, map, flat_map, drop, get_or, Option, Some, None, refl, sym, ap, ◌∙◌, subst, arith}
use Rattle.std.specs.List.{All, Contains, list_any}
use Rattle.std.specs.Str.{bytes_eq}
use Rattle.std.proofs.lemmas.Bool.Decides.{nat_tests}
use Rattle.std.proofs.lemmas.Int.{clamps}
use Rattle.std.proofs.lemmas.List.Elements.{All-cons, All-contains_itself, All-drop, All-from_get_or, All-head, All-map, All-nil, All-take, All-weaker}
use Rattle.std.proofs.lemmas.List.Folds.{list_any-append}
use Rattle.std.proofs.lemmas.List.{get_or_default, length-map, map-append}
use Rattle.ver_syntax.specs.declared.row.Row.{Row}
use Rattle.ver_syntax.specs.declared.row.Place.{Place}
use Rattle.ver_syntax.specs.declared.row.Place.TheVariants.{Assignment, Connection, Instances, Pins}
use Rattle.ver_syntax.specs.declared.fault.VerKind.TheVariants.{Grammar, NameClash, InstanceTwice}
use Rattle.ver_module.specs.declared.link.Link.TheVariants.{One, Many}
use Rattle.ver_module.specs.Netlists.{Instance, IsWithin, AreWithin, Net, Pin, net_name}
use Rattle.ver_module.specs.declared.range.Range.{Range}
use Rattle.ver_items.specs.declared.bits.Select.{Select}
use Rattle.ver_items.specs.declared.bits.Select.TheVariants.{Whole, Bit, Part}
use Rattle.ver_module.specs.Ranges.{bits_from, bits_of, is_within}
use Rattle.ver_items.specs.Bits.{fits, is_single, select_before, selected}
use Rattle.ver_items.specs.Declarations.{declared_by, declared_of, range_in}
use Rattle.ver_file.specs.Flaws.{assignment_flaws, clashes, connection_flaws, direction_flaws, flaws_at, flaws_of, grammar_flaws, instance_flaws, link_flaws, pin_flaws, port_flaws, ports_in, select_flaws, syntax_flaws}
use Rattle.ver_items.specs.Connections.{connection_of, expression_of}
use Rattle.ver_file.specs.Netlists.{assigned_by, assigned_of, bit_in, identifiers_in, instance_of, instances_by, instances_of, is_one, link_of, net_number, nets_in, nets_named, one_named, pin_of, range_at}
use Rattle.ver_file.specs.Nets.{net, net_names, nets_at, nets_of, tokens_of_nets}
use Rattle.ver_file.specs.Said.{identifiers_of}
use Rattle.ver_items.specs.Sections.{Section, instances_in, is_identifier, is_name_in, is_net_name, is_net_place, is_place, items, name_at, pins_in, section_before, sections, stands_in}
use Rattle.ver_file.specs.Tables.{names_of}
use Rattle.ver_module.proofs.RangeLemmas.{falling, falling_bit, rising, rising_bit}
use Rattle.ver_file.proofs.KnownLemmas.{Each, IsKnown, each_item, each_section, known_rows}
use Rattle.ver_file.proofs.ListLemmas.{All-flat_map, All-take_while, bytes_are, bytes_same, flat_map-flat_map, passes_while}
use Rattle.ver_file.proofs.NetLemmas.{no_left, no_mapped, no_right, passes}
use Rattle.ver_module.proofs.NameLemmas.{there}

-- ---- bits

le_yes : (a b : ℕ) → a ≤ b → nat_le a b ≡ true
le_yes a b h = grind (arith, nat_tests, h)

le_is : (a b : ℕ) → nat_le a b ≡ true → a ≤ b
le_is a b h = grind (arith, nat_tests, h)

less_is : (a b : ℕ) → nat_le a b ≡ false → b < a
less_is a b h = grind (arith, nat_tests, h)

both : (a b : Bool) → (a && b) ≡ true → (a ≡ true) × (b ≡ true)
both true b t = (refl, t)
both false b t = absurd (cc)

-- a bit within a range is one of its bits
has_bit : (range : Range) (k : ℕ) → is_within range k ≡ true → Contains (bits_from range) k
has_bit range k t = by_test (nat_le range.left range.right) refl
  where
    low : min range.left range.right ≤ k
    low = le_is (min range.left range.right) k ((both (nat_le (min range.left range.right) k) (nat_le k (max range.left range.right)) t).0)

    high : k ≤ max range.left range.right
    high = le_is k (max range.left range.right) ((both (nat_le (min range.left range.right) k) (nat_le k (max range.left range.right)) t).1)

    by_test : (b : Bool) → nat_le range.left range.right ≡ b → Contains (bits_from range) k
    by_test true e =
        let up : range.left ≤ range.right = le_is range.left range.right e in
        let at : k - range.left < range.right - range.left + 1 = omega (arith, clamps, low, high, up) in
        let within : k - range.left < length (bits_from range) = omega (arith, at, rising range up) in (
          k - range.left,
          within,
          get_or_default (bits_from range) (k - range.left) k 0 within ∙ rising_bit range (k - range.left) up at ∙ omega (arith, clamps, low, up),
        )
    by_test false e =
        let down : range.right < range.left = less_is range.left range.right e in
        let at : range.left - k < range.left - range.right + 1 = omega (arith, clamps, low, high, down) in
        let within : range.left - k < length (bits_from range) = omega (arith, at, falling range down) in (
          range.left - k,
          within,
          get_or_default (bits_from range) (range.left - k) k 0 within ∙ falling_bit range (range.left - k) down at ∙ omega (arith, clamps, high, down),
        )

within_yes : (range : Range) (k : ℕ) → min range.left range.right ≤ k → k ≤ max range.left range.right → is_within range k ≡ true
within_yes range k low high = rw (le_yes (min range.left range.right) k low) (le_yes k (max range.left range.right) high)

-- the bits of a part that lies in a range lie in it
pub all_within : (range part : Range) → is_within range part.left ≡ true → is_within range part.right ≡ true → All (λ k. is_within range k ≡ true) (bits_from part)
all_within range part a b = All-from_get_or (λ k. is_within range k ≡ true) (bits_from part) 0 (by_test (nat_le part.left part.right) refl)
  where
    low-left : min range.left range.right ≤ part.left
    low-left = le_is (min range.left range.right) part.left ((both (nat_le (min range.left range.right) part.left) (nat_le part.left (max range.left range.right)) a).0)

    high-left : part.left ≤ max range.left range.right
    high-left = le_is part.left (max range.left range.right) ((both (nat_le (min range.left range.right) part.left) (nat_le part.left (max range.left range.right)) a).1)

    low-right : min range.left range.right ≤ part.right
    low-right = le_is (min range.left range.right) part.right ((both (nat_le (min range.left range.right) part.right) (nat_le part.right (max range.left range.right)) b).0)

    high-right : part.right ≤ max range.left range.right
    high-right = le_is part.right (max range.left range.right) ((both (nat_le (min range.left range.right) part.right) (nat_le part.right (max range.left range.right)) b).1)

    by_test : (t : Bool) → nat_le part.left part.right ≡ t → (i : ℕ) → i < length (bits_from part) → is_within range (get_or (bits_from part) i 0) ≡ true
    by_test true e i l =
        let up : part.left ≤ part.right = le_is part.left part.right e in
        let at : i < part.right - part.left + 1 = omega (arith, l, rising part up) in
        let is = rising_bit part i up at in
        ap (is_within range) is ∙ within_yes range (part.left + i) (omega (arith, low-left)) (omega (arith, at, up, high-right))
    by_test false e i l =
        let down : part.right < part.left = less_is part.left part.right e in
        let at : i < part.left - part.right + 1 = omega (arith, l, falling part down) in
        let is = falling_bit part i down at in
        ap (is_within range) is ∙ within_yes range (part.left - i) (omega (arith, at, down, low-right)) (omega (arith, high-left))

contains_map : {X Y : Type 0} (f : X → Y) (xs : List X) (x : X) → Contains xs x → Contains (map f xs) (f x)
contains_map f [] x (k, l, e) = absurd (omega (arith, l))
contains_map f (y ∷ ys) x (zero, l, e) = (zero, omega arith, ap f e)
contains_map f (y ∷ ys) x (suc k, l, e) = let (j, low, is) = contains_map f ys x (k, omega (arith, l), e) in (suc j, omega (arith, low), is)

contains_any : (xs : List (List ℕ)) (x : List ℕ) → Contains xs x → list_any (bytes_eq x) xs ≡ true
contains_any [] x (k, l, e) = absurd (omega (arith, l))
contains_any (y ∷ ys) x (zero, l, e) = ap (λ b. b || list_any (bytes_eq x) ys) (ap (bytes_eq x) e ∙ bytes_same x)
contains_any (y ∷ ys) x (suc k, l, e) = later (bytes_eq x y) (contains_any ys x (k, omega (arith, l), e))
  where
    later : (b : Bool) → list_any (bytes_eq x) ys ≡ true → (b || list_any (bytes_eq x) ys) ≡ true
    later true t = refl
    later false t = t

-- what is selected of an identifier that has it is among its bits
all_selected : (select : Select) (range : Option Range) → fits select range ≡ true → All (Contains (bits_of range)) (selected select range)
all_selected Whole range t = All-contains_itself (bits_of range)
all_selected (Bit k) None t = absurd (cc)
all_selected (Part part) None t = absurd (cc)
all_selected (Bit k) (Some range) t =
    All-cons (Contains (bits_of (Some range))) (Some k) [] (contains_map (λ (b : ℕ). Some b) (bits_from range) k (has_bit range k t)) (All-nil (Contains (bits_of (Some range))))
all_selected (Part part) (Some range) t =
    let ends = both (is_within range part.left) (is_within range part.right) t in
    All-map (Contains (bits_of (Some range))) (λ (b : ℕ). Some b) (bits_from part)
    (All-weaker (λ k. is_within range k ≡ true) (λ k. Contains (bits_of (Some range)) (Some k))
    (λ k w. contains_map (λ (b : ℕ). Some b) (bits_from range) k (has_bit range k w)) (bits_from part) (all_within range part ends.0 ends.1))

-- ---- nets

known_net : (text : List ℕ) (tokens : List Row) (name : List ℕ) (bit : Option ℕ) → list_any (bytes_eq name) (map (name_at text) tokens) ≡ true
    → Contains (bits_of (range_in (declared_of text) name)) bit
    → list_any (bytes_eq (net_name name bit)) (names_of (flat_map (nets_at text (declared_of text)) tokens)) ≡ true
known_net text [] name bit t h = absurd (cc)
known_net text (r ∷ rs) name bit t h =
    ap (list_any (bytes_eq (net_name name bit))) (map-append (λ n. n.name) (nets_at text (declared_of text) r) (flat_map (nets_at text (declared_of text)) rs))
    ∙ list_any-append (bytes_eq (net_name name bit)) (names_of (nets_at text (declared_of text) r)) (names_of (flat_map (nets_at text (declared_of text)) rs))
    ∙ by_test (bytes_eq name (name_at text r)) refl (known_net text rs name bit)
  where
    here : List (List ℕ)
    here = names_of (nets_at text (declared_of text) r)

    rest : List (List ℕ)
    rest = names_of (flat_map (nets_at text (declared_of text)) rs)

    or_true : (b : Bool) → (b || true) ≡ true
    or_true true = refl
    or_true false = refl

    by_test : (b : Bool) → bytes_eq name (name_at text r) ≡ b
        → (list_any (bytes_eq name) (map (name_at text) rs) ≡ true → Contains (bits_of (range_in (declared_of text) name)) bit
        → list_any (bytes_eq (net_name name bit)) (names_of (flat_map (nets_at text (declared_of text)) rs)) ≡ true)
        → (list_any (bytes_eq (net_name name bit)) (names_of (nets_at text (declared_of text) r)) || list_any (bytes_eq (net_name name bit)) (names_of (flat_map (nets_at text (declared_of text)) rs))) ≡ true
    by_test true f others =
        let same : name ≡ name_at text r = bytes_are name (name_at text r) f in
        let its : Contains (bits_of (range_in (declared_of text) (name_at text r))) bit = subst (λ (n : List ℕ). Contains (bits_of (range_in (declared_of text) n)) bit) same h in
        let one = contains_map (net text (declared_of text) r) (bits_of (range_in (declared_of text) (name_at text r))) bit its in
        let named = contains_map (λ (n : Net). n.name) (nets_at text (declared_of text) r) (net text (declared_of text) r bit) one in
        let any : list_any (bytes_eq (net_name name bit)) (names_of (nets_at text (declared_of text) r)) ≡ true =
        ap (λ n. list_any (bytes_eq (net_name n bit)) (names_of (nets_at text (declared_of text) r))) same
        ∙ contains_any (names_of (nets_at text (declared_of text) r)) (net_name (name_at text r) bit) named in
        ap (λ b. b || list_any (bytes_eq (net_name name bit)) (names_of (flat_map (nets_at text (declared_of text)) rs))) any
    by_test false f others =
        let t' : (false || list_any (bytes_eq name) (map (name_at text) rs)) ≡ true = rw f at t in
        ap (λ b. list_any (bytes_eq (net_name name bit)) (names_of (nets_at text (declared_of text) r)) || b) (others t' h)
        ∙ or_true (list_any (bytes_eq (net_name name bit)) (names_of (nets_at text (declared_of text) r)))

number_within : (text : List ℕ) (r : Row) (bit : Option ℕ) → list_any (bytes_eq (name_at text r)) (identifiers_of text) ≡ true
    → Contains (bits_of (range_at text r)) bit → net_number text r bit < length (nets_of text)
number_within text r bit known h =
    let at = there (net_names text) (net_name (name_at text r) bit) (known_net text (tokens_of_nets text) (name_at text r) bit known h) in
    omega (arith, at.0, length-map (nets_of text) (λ n. n.name))

-- the nets that an identifier stands for are nets of its text
abbrev pub HasNets : List ℕ → Section → Type 0
HasNets text s = All (λ n. n < length (nets_of text)) (nets_named text s)

-- a known identifier
abbrev pub IsReferred : List ℕ → Section → Type 0
IsReferred text s = list_any (bytes_eq (name_at text s.head)) (identifiers_of text) ≡ true

named_within : (text : List ℕ) (s : Section) → IsReferred text s → select_flaws text s ≡ [] → HasNets text s
named_within text s known none =
    let f = passes (fits (select_before text s.body) (range_at text s.head)) s.head.from none in
    All-map (λ n. n < length (nets_of text)) (net_number text s.head) (selected (select_before text s.body) (range_at text s.head))
    (All-weaker (Contains (bits_of (range_at text s.head))) (λ bit. net_number text s.head bit < length (nets_of text))
    (λ bit h. number_within text s.head bit known h) (selected (select_before text s.body) (range_at text s.head))
    (all_selected (select_before text s.body) (range_at text s.head) f))

none_of_all : {X : Type 0} (f : X → List ℕ) (xs : List X) → flat_map f xs ≡ [] → All (λ x. f x ≡ []) xs
none_of_all f [] e = All-nil (λ x. f x ≡ [])
none_of_all f (x ∷ xs) e = All-cons (λ y. f y ≡ []) x xs (no_left (f x) (flat_map f xs) e) (none_of_all f xs (no_right (f x) (flat_map f xs) e))

all_within_named : (text : List ℕ) (ss : List Section) → All (IsReferred text) ss → flat_map (select_flaws text) ss ≡ [] → All (HasNets text) ss
all_within_named text ss known none k d l = named_within text (get_or ss k d) (known k d l) (none_of_all (select_flaws text) ss none k d l)

-- ---- identifiers of expressions and assignments

begin_all : (begins : Row → Bool) (rows : List Row) → All (λ s. begins s.head ≡ true) (sections begins rows)
unfolding sections
begin_all begins [] = All-nil (λ (s : Section). begins s.head ≡ true)
begin_all begins (r ∷ rows) = by_test (begins r) refl (begin_all begins rows)
  where
    by_test : (b : Bool) → begins r ≡ b → All (λ (s : Section). begins s.head ≡ true) (sections begins rows)
        → All (λ (s : Section). begins s.head ≡ true) (cond b (section_before begins r rows ∷ sections begins rows) (sections begins rows))
    by_test true t rest = All-cons (λ (s : Section). begins s.head ≡ true) (section_before begins r rows) (sections begins rows) t rest
    by_test false t rest = rest

connection_place : (p : Place) → is_place Connection p ≡ true → is_net_place p ≡ true
connection_place Connection e = refl
connection_place _ e = absurd (cc)

assignment_place : (p : Place) → is_place Assignment p ≡ true → is_net_place p ≡ true
assignment_place Assignment e = refl
assignment_place _ e = absurd (cc)

is_net : (r : Row) → is_identifier r ≡ true → is_net_place r.place ≡ true → is_net_name r ≡ true
is_net r a b = rw a b

-- the identifiers in an expression
referred_in_pin : (text : List ℕ) (p : Section) → Each (IsKnown text (identifiers_of text)) p → All (IsReferred text) (identifiers_in p)
referred_in_pin text p e = λ k d l. (each_section Q is_identifier (expression_of p) rows k d l).head (begin_all is_identifier (expression_of p) k d l)
  where
    K : Row → Type 0
    K = IsKnown text (identifiers_of text)

    Q : Row → Type 0
    Q r = is_identifier r ≡ true → list_any (bytes_eq (name_at text r)) (identifiers_of text) ≡ true

    connected : (rows : List Row) → All K rows → All (λ r. stands_in Connection r ≡ true) rows → All Q rows
    connected rows a b k d l i = a k d l (is_net (get_or rows k d) i (connection_place (get_or rows k d).place (b k d l)))

    rows : All Q (expression_of p)
    rows =
        All-take Q (length (connection_of p) - 1) (connection_of p)
        (connected (connection_of p) (All-take_while K (stands_in Connection) (drop 1 p.body) (All-drop K 1 p.body e.body)) (passes_while (stands_in Connection) (drop 1 p.body)))

-- the identifiers in assignments
referred_in_item : (text : List ℕ) (item : Section) → Each (IsKnown text (identifiers_of text)) item → All (IsReferred text) (sections (is_name_in Assignment) item.body)
referred_in_item text item e = λ k d l.
    let s : Section = get_or (sections (is_name_in Assignment) item.body) k d in
    let t = both (is_identifier s.head) (stands_in Assignment s.head) (begin_all (is_name_in Assignment) item.body k d l) in
    (each_section (IsKnown text (identifiers_of text)) (is_name_in Assignment) item.body e.body k d l).head (is_net s.head t.0 (assignment_place s.head.place t.1))

-- ---- links

single_selected : (select : Select) (range : Option Range) → is_single select range ≡ true → selected select range ≡ bit_in select ∷ []
single_selected Whole None t = refl
single_selected Whole (Some r) t = absurd (cc)
single_selected (Bit k) range t = refl
single_selected (Part p) range t = absurd (cc)

link_within : (text : List ℕ) (rows : List Row) → All (HasNets text) (sections is_identifier rows) → IsWithin (length (nets_of text)) (link_of text rows)
unfolding sections
link_within text [] h = tt
link_within text (r ∷ rows) h = by_test (is_one text (section_before is_identifier r rows)) refl
  where
    count : ℕ
    count = length (nets_of text)

    s : Section
    s = section_before is_identifier r rows

    first : is_identifier r ≡ true → All (HasNets text) (cond (is_identifier r) (section_before is_identifier r rows ∷ sections is_identifier rows) (sections is_identifier rows)) → HasNets text (section_before is_identifier r rows)
    first t a =
        let a' : All (HasNets text) (section_before is_identifier r rows ∷ sections is_identifier rows) = rw t at a in
        All-head (HasNets text) (section_before is_identifier r rows) (sections is_identifier rows) a'

    by_test : (b : Bool) → is_one text (section_before is_identifier r rows) ≡ b
        → IsWithin (length (nets_of text)) (cond b (One (one_named text (section_before is_identifier r rows))) (Many (nets_in text (r ∷ rows))))
    by_test true t =
        let parts = both (is_identifier r) (is_single (select_before text (section_before is_identifier r rows).body) (range_at text r)) t in
        let nets = first parts.0 h in
        let one = single_selected (select_before text (section_before is_identifier r rows).body) (range_at text r) parts.1 in
        All-head (λ n. n < length (nets_of text)) (one_named text (section_before is_identifier r rows)) []
        (subst (λ (bits : List (Option ℕ)). All (λ n. n < length (nets_of text)) (map (net_number text r) bits)) one nets)
    by_test false t = All-flat_map (λ n. n < length (nets_of text)) (HasNets text) (nets_named text) (λ x y. y) (sections is_identifier (r ∷ rows)) h

instance_within : (text : List ℕ) (cell : Row) (i : Section) → Each (IsKnown text (identifiers_of text)) i → connection_flaws text i ≡ []
    → All (λ p. IsWithin (length (nets_of text)) p.link) (instance_of text cell i).pins
instance_within text cell i e none =
    let links : link_flaws text i ≡ [] = no_right (pin_flaws text i) (link_flaws text i) none in
    let each : flat_map (λ p. flat_map (select_flaws text) (identifiers_in p)) (pins_in i) ≡ [] = sym (flat_map-flat_map (select_flaws text) identifiers_in (pins_in i)) ∙ links in
    All-map (λ (p : Pin). IsWithin (length (nets_of text)) p.link) (pin_of text) (pins_in i)
    (λ k d l.
    link_within text (expression_of (get_or (pins_in i) k d))
    (all_within_named text (identifiers_in (get_or (pins_in i) k d))
    (referred_in_pin text (get_or (pins_in i) k d) (each_section (IsKnown text (identifiers_of text)) (is_name_in Pins) i.body e.body k d l))
    (none_of_all (λ p. flat_map (select_flaws text) (identifiers_in p)) (pins_in i) each k d l)))

-- ---- the whole

no_grammar_flaw : (text : List ℕ) → flaws_of text ≡ [] → grammar_flaws text ≡ []
no_grammar_flaw text e =
    no_mapped (λ place. record { place = place; kind = Grammar }) (grammar_flaws text)
    (no_right (flaws_at InstanceTwice (instance_flaws text)) (flaws_at Grammar (grammar_flaws text))
    (no_right (flaws_at NameClash (clashes text)) (flaws_at InstanceTwice (instance_flaws text) ++ flaws_at Grammar (grammar_flaws text)) e))

-- an item whose identifiers are known, without a flaw of its syntax
record IsGood (text : List ℕ) (item : Section) : Type 0 where
  known : Each (IsKnown text (identifiers_of text)) item
  assigned : assignment_flaws text item ≡ []
  connected : flat_map (connection_flaws text) (instances_in item) ≡ []

good_items : (text : List ℕ) → flaws_of text ≡ [] → All (IsGood text) (items text)
good_items text e k d l =
    let item : Section = get_or (items text) k d in
    let none = none_of_all (syntax_flaws text) (items text) (no_grammar_flaw text e) k d l in
    let A = flat_map (direction_flaws (declared_of text)) (declared_by text item) in
    let B = flat_map (port_flaws text) (ports_in item) in
    let C = assignment_flaws text item in
    let D = flat_map (connection_flaws text) (instances_in item) in
    let rest : C ++ D ≡ [] = no_right B (C ++ D) (no_right A (B ++ (C ++ D)) none) in
    record {
      known = each_item (IsKnown text (identifiers_of text)) text (known_rows text) k d l;
      assigned = no_left C D rest;
      connected = no_right C D rest;
    }

pub links_within : (text : List ℕ) → flaws_of text ≡ [] → AreWithin (length (nets_of text)) (instances_of text)
links_within text e =
    All-flat_map (λ (i : Instance). All (λ (p : Pin). IsWithin (length (nets_of text)) p.link) i.pins) (IsGood text) (instances_by text)
    (λ item g.
    All-map (λ (i : Instance). All (λ (p : Pin). IsWithin (length (nets_of text)) p.link) i.pins) (instance_of text item.head) (instances_in item)
    (λ k d l.
    instance_within text item.head (get_or (instances_in item) k d)
    (each_section (IsKnown text (identifiers_of text)) (is_name_in Instances) item.body g.known.body k d l)
    (none_of_all (connection_flaws text) (instances_in item) g.connected k d l)))
    (items text) (good_items text e)

pub assigned_within : (text : List ℕ) → flaws_of text ≡ [] → All (λ n. n < length (nets_of text)) (assigned_of text)
assigned_within text e =
    All-flat_map (λ n. n < length (nets_of text)) (IsGood text) (assigned_by text)
    (λ item g.
    All-flat_map (λ n. n < length (nets_of text)) (HasNets text) (nets_named text) (λ x y. y) (sections (is_name_in Assignment) item.body)
    (all_within_named text (sections (is_name_in Assignment) item.body) (referred_in_item text item g.known) g.assigned))
    (items text) (good_items text e)
