-- The identifiers of a text, token by token.
use Rattle.std.proofs.Common.{nat_lt, ◌≡◌, ◌⊎◌, inl, inr, ℕ, ◌<◌, Bool, true, false, not, ◌&&◌, ◌||◌, cond, List, [], ◌∷◌, ◌++◌, length, map, filter, flat_map, get_or, set, slice_get, option_map, arith, length-append, Option, Some, None, is_some, refl, sym, ap, ◌∙◌, subst, append_assoc, if◌then◌else◌}
use Rattle.std.specs.List.{All, before_first, list_any}
use Rattle.std.specs.Str.{bytes_eq}
use Rattle.std.proofs.lemmas.List.{append-nil, length-map, map-append}
use Rattle.std.proofs.lemmas.List.Elements.{All-push, filter-append}
use Rattle.std.proofs.lemmas.List.Folds.{list_any-append, list_any_at}
use Rattle.std.proofs.lemmas.Option.{slice_get-get_or, slice_get-map}
use Rattle.name_tables.specs.Distinct.{number_in, with_name}
use Rattle.ver_text.specs.declared.kind.Kind.{Kind}
use Rattle.ver_text.specs.declared.kind.Kind.TheVariants.{Direction, Identifier as IdentifierKind, Module}
use Rattle.ver_syntax.specs.declared.row.Row.{Row}
use Rattle.ver_syntax.specs.declared.row.Place.TheVariants.{Start}
use Rattle.ver_syntax.specs.Grammar.{is, is_net}
use Rattle.ver_text.specs.Kinds.{kinds_of}
use Rattle.ver_syntax.specs.Rows.{kinds_in, rows_of}
use Rattle.ver_module.specs.declared.net.Identifier.{Identifier}
use Rattle.ver_module.proofs.NameLemmas.{numbered, with_old}
use Rattle.ver_items.specs.declared.heading.Heading.{Heading}
use Rattle.ver_items.specs.Declarations.{Declared, begins_declaration, declare, declared_in, declared_of, first_declared, heading_of}
use Rattle.ver_items.specs.Sections.{Section, is_net_name, is_net_place, items, name_at, section_before, sections, stands_in}
use Rattle.ver_items.specs.SectionSteps.{rows_in}
use Rattle.ver_items.proofs.SectionLemmas.{before_others, sections_no, sections_yes}
use Rattle.vg_scan.specs.Lines.{part}
use Rattle.ver_text.specs.Names.{name_of}
use Rattle.ver_file.specs.declared.identifier.Identifiers.{Identifiers}
use Rattle.ver_file.specs.declared.uses.Use.{Use}
use Rattle.ver_file.specs.Firsts.{declared_among, declared_under}
use Rattle.ver_file.specs.Nets.{first_tokens, is_first, tokens_of_nets}
use Rattle.ver_file.specs.Said.{is_declared, with_heading}
use Rattle.ver_file.specs.Tables.{AreCounted, AreIdentifiers, AreRead, IsUse, identifier_at, with_use}
use Rattle.ver_file.proofs.ListLemmas.{bytes_are, bytes_same, set_map}
use Rattle.ver_file.proofs.NumberLemmas.{first_numbered, in_front, some_is}
use Rattle.ver_file.proofs.SaidLemmas.{first_stays, identifier_more, identifier_stays, name_declared, undeclared_at}
use Rattle.ver_file.proofs.TableLemmas.{names_grow, put_last, tokens_done, tokens_grow, tokens_stay}

-- ---- one token

-- as much is kept of one name more
pub count_more : (old new : Identifiers) (name : List ℕ) (identifier : Identifier) → AreCounted old → new.names ≡ old.names ++ name ∷ []
    → new.all.items ≡ old.all.items ++ identifier ∷ [] → new.declared.items ≡ old.declared.items ++ false ∷ [] → AreCounted new
count_more old new name identifier count names all declared =
    let n = ap length names ∙ length-append old.names (name ∷ []) in record {
      all = omega (arith, count.all, n, ap length all ∙ length-append old.all.items (identifier ∷ []));
      declared = omega (arith, count.declared, n, ap length declared ∙ length-append old.declared.items (false ∷ []));
    }

-- one of these, or the last
not_last : (names : List (List ℕ)) (last name : List ℕ) → list_any (bytes_eq name) (names ++ last ∷ []) ≡ false → list_any (bytes_eq name) names ≡ false
not_last names last name e = not_first (list_any (bytes_eq name) names) (sym (list_any-append (bytes_eq name) names (last ∷ [])) ∙ e)
  where
    not_first : (b : Bool) → (b || list_any (bytes_eq name) (last ∷ [])) ≡ false → b ≡ false
    not_first true f = absurd (cc)
    not_first false f = refl

module _ (text : List ℕ) (r : Row) (left : List Row) (ds : List Declared) (old new : Identifiers) (h : AreRead text (r ∷ left) ds old) where
  first_is : (names : List (List ℕ)) (b : Bool) → is_net_name r ≡ true → list_any (bytes_eq (name_at text r)) names ≡ b → is_first text names r ≡ not b
  first_is names b net any = rw (net, any) refl

  -- uses stay where names are put last, and one more may be there
  more_uses : (place : Use) → new.names ≡ with_name old.names (name_at text r) → (new.uses.items ≡ old.uses.items ++ place ∷ []) ⊎ (new.uses.items ≡ old.uses.items)
      → place.from ≡ r.from → place.to ≡ r.to → place.id ≡ number_in old.names (name_at text r) → All (IsUse text new.names) new.uses.items
  more_uses place names uses from to id =
      subst (λ (ns : List (List ℕ)). All (IsUse text ns) new.uses.items) (sym names)
      (elim uses as (λ _. All (IsUse text (with_name old.names (name_at text r))) new.uses.items) [
        | inl more ↦ subst (λ (us : List Use). All (IsUse text (with_name old.names (name_at text r))) us) (sym more)
            (All-push (IsUse text (with_name old.names (name_at text r))) old.uses.items place all last)
        | inr same ↦ subst (λ (us : List Use). All (IsUse text (with_name old.names (name_at text r))) us) (sym same) all
      ])
    where
      all : All (IsUse text (with_name old.names (name_at text r))) old.uses.items
      all k d l = let n = numbered old.names (name_at text r) in let u = h.uses k d l in record {
        within = omega (arith, u.within, n.grow.more);
        is = n.grow.stay (get_or old.uses.items k d).id u.within ∙ u.is;
      }

      last : IsUse text (with_name old.names (name_at text r)) place
      last = let n = numbered old.names (name_at text r) in record {
        within = subst (λ (i : ℕ). i < length (with_name old.names (name_at text r))) (sym id) n.within;
        is = ap (λ i. get_or (with_name old.names (name_at text r)) i []) id ∙ n.is ∙ (λ i. name_of (part text (sym from i) (sym to i)));
      }

  -- a token of nets whose name is new
  pub read_new : is_net_name r ≡ true → list_any (bytes_eq (name_at text r)) old.names ≡ false → new.names ≡ with_name old.names (name_at text r)
      → new.all.items ≡ old.all.items ++ identifier_at text [] r ∷ [] → new.declared.items ≡ old.declared.items ++ false ∷ []
      → new.froms.items ≡ old.froms.items ++ r.from ∷ []
      → (place : Use) → (new.uses.items ≡ old.uses.items ++ place ∷ []) ⊎ (new.uses.items ≡ old.uses.items) → place.from ≡ r.from → place.to ≡ r.to → place.id ≡ number_in old.names (name_at text r)
      → AreRead text left ds new
  read_new net none names all declared froms place uses from to id =
      let t = first_is old.names false net none in
      let put : new.names ≡ old.names ++ name_at text r ∷ [] = names ∙ put_last text old.names r t in
      let first = h.only (name_at text r) none in
      record {
        tokens = h.tokens ++ r ∷ [];
        names = names ∙ names_grow text old.names r t h.tokens h.names;
        whole =
            tokens_grow text old.names r t (tokens_of_nets text) h.tokens (r ∷ left) left h.whole refl
            ∙ (λ i. (h.tokens ++ r ∷ []) ++ first_tokens text (sym names i) left);
        all =
            all ∙ (λ i. h.all i ++ sym (undeclared_at text ds r first) i ∷ [])
            ∙ sym (map-append (identifier_at text ds) h.tokens (r ∷ []));
        declared =
            declared ∙ (λ i. h.declared i ++ sym (ap is_some first) i ∷ [])
            ∙ sym (map-append (λ (q : Row). is_declared ds (name_at text q)) h.tokens (r ∷ []));
        froms = froms ∙ ap (λ fs. fs ++ r.from ∷ []) h.froms ∙ sym (map-append (λ (q : Row). q.from) h.tokens (r ∷ []));
        only = λ name e. h.only name (not_last old.names (name_at text r) name (ap (list_any (bytes_eq name)) (sym put) ∙ e));
        uses = more_uses place names uses from to id;
      }

  -- one whose name is known
  pub read_old : is_net_name r ≡ true → list_any (bytes_eq (name_at text r)) old.names ≡ true → new.names ≡ with_name old.names (name_at text r)
      → new.all.items ≡ old.all.items → new.declared.items ≡ old.declared.items → new.froms.items ≡ old.froms.items
      → (place : Use) → (new.uses.items ≡ old.uses.items ++ place ∷ []) ⊎ (new.uses.items ≡ old.uses.items) → place.from ≡ r.from → place.to ≡ r.to → place.id ≡ number_in old.names (name_at text r)
      → AreRead text left ds new
  read_old net some names all declared froms place uses from to id =
      let t = first_is old.names true net some in
      let same : new.names ≡ old.names = names ∙ with_old old.names (name_at text r) some in
      record {
        tokens = h.tokens;
        names = same ∙ h.names;
        whole =
            tokens_stay text old.names r (tokens_of_nets text) h.tokens (r ∷ left) left t h.whole refl
            ∙ (λ i. h.tokens ++ first_tokens text (sym same i) left);
        all = all ∙ h.all;
        declared = declared ∙ h.declared;
        froms = froms ∙ h.froms;
        only = λ name e. h.only name (ap (list_any (bytes_eq name)) (sym same) ∙ e);
        uses = more_uses place names uses from to id;
      }

-- a token that is none of nets
nothing_declared : (text : List ℕ) (heading : Option Heading) (r : Row) → is_net_name r ≡ false → declared_under text heading (r ∷ []) ≡ []
nothing_declared text None r e = refl
nothing_declared text (Some heading) r e = rw e refl

pub more_declared : (text : List ℕ) (left : List Row) (ds new : List Declared) (found : Identifiers) → ds ≡ new → AreRead text left ds found → AreRead text left new found
more_declared text left ds new found e h = subst (λ (all : List Declared). AreRead text left all found) e h

pub passed_over : (text : List ℕ) (heading : Option Heading) (r : Row) (left : List Row) (ds : List Declared) (found : Identifiers) → is_net_name r ≡ false
    → AreRead text (r ∷ left) ds found → AreRead text left (ds ++ declared_under text heading (r ∷ [])) found
passed_over text heading r left ds found e h =
    more_declared text left ds (ds ++ declared_under text heading (r ∷ [])) found
    (sym (append-nil ds) ∙ ap (λ more. ds ++ more) (sym (nothing_declared text heading r e)))
    (record {
      tokens = h.tokens;
      names = h.names;
      whole = tokens_stay text found.names r (tokens_of_nets text) h.tokens (r ∷ left) left (rw e refl) h.whole refl;
      all = h.all;
      declared = h.declared;
      froms = h.froms;
      only = h.only;
      uses = h.uses;
    })

-- a token of nets outside of declarations
pub undeclared : (text : List ℕ) (left : List Row) (ds : List Declared) (found : Identifiers) → AreRead text left ds found → AreRead text left (ds ++ []) found
undeclared text left ds found h = more_declared text left ds (ds ++ []) found (sym (append-nil ds)) h

-- the identifiers that are read have names of their own
same_place : (text : List ℕ) (left : List Row) (ds : List Declared) (found : Identifiers) (h : AreRead text left ds found) (i j : ℕ) (t u : Row)
    → slice_get h.tokens i ≡ Some t → slice_get h.tokens j ≡ Some u → name_at text t ≡ name_at text u → i ≡ j
same_place text left ds found h i j t u e f same =
    let rest = first_tokens text found.names left in
    let a = first_numbered text [] (rows_of text) i t (ap (λ ts. slice_get ts i) h.whole ∙ in_front h.tokens rest i t e) in
    let b = first_numbered text [] (rows_of text) j u (ap (λ ts. slice_get ts j) h.whole ∙ in_front h.tokens rest j u f) in
    omega (arith, a, b, ap (number_in ([] ++ map (name_at text) (tokens_of_nets text))) same)

-- a name that is none of these is not the one of a number
not_at : (names : List (List ℕ)) (id : ℕ) (name other : List ℕ) → id < length names → get_or names id [] ≡ name → list_any (bytes_eq other) names ≡ false
    → bytes_eq other name ≡ false
not_at names id name other low its none = by_test (bytes_eq other name) refl
  where
    by_test : (b : Bool) → bytes_eq other name ≡ b → bytes_eq other name ≡ false
    by_test true t = let any = list_any_at (bytes_eq other) names id [] low (ap (bytes_eq other) its ∙ t) in absurd (cc)
    by_test false t = t

-- a token in a declaration, where the identifier that it is has this number
module _ (text : List ℕ) (heading : Heading) (r : Row) (left : List Row) (ds : List Declared) (old : Identifiers) (h : AreRead text left ds old) (id : ℕ)
    (low : id < length old.names) (its : get_or old.names id [] ≡ name_at text r) where
  abbrev d : Declared
  d = declare text heading r

  abbrev token : Row
  token = get_or h.tokens id (record { place = Start; kind = Module; from = 0; to = 0 })

  there : slice_get h.tokens id ≡ Some token
  there = slice_get-get_or h.tokens id (record { place = Start; kind = Module; from = 0; to = 0 }) (omega (arith, low, ap length h.names, length-map h.tokens (name_at text)))

  named : name_at text token ≡ name_at text r
  named =
      some_is _ _ (ap (option_map (name_at text)) (sym there) ∙ sym (slice_get-map (name_at text) h.tokens id)
      ∙ ap (λ ns. slice_get ns id) (sym h.names) ∙ slice_get-get_or old.names id [] low) ∙ its

  same_name : bytes_eq (name_at text token) (name_at text r) ≡ true
  same_name = ap (bytes_eq (name_at text token)) (sym named) ∙ bytes_same (name_at text token)

  other_name : (at : ℕ) (y : Row) → slice_get h.tokens at ≡ Some y → (at ≡ id → ⊥) → bytes_eq (name_at text y) (name_at text r) ≡ false
  other_name at y e other = by_test (bytes_eq (name_at text y) (name_at text r)) refl
    where
      by_test : (b : Bool) → bytes_eq (name_at text y) (name_at text r) ≡ b → bytes_eq (name_at text y) (name_at text r) ≡ false
      by_test true t = absurd (other (same_place text left ds old h at id y token e there (bytes_are (name_at text y) (name_at text r) t ∙ sym named)))
      by_test false t = t

  all_more : (identifier : Identifier) (was : Bool) → slice_get old.all.items id ≡ Some identifier → slice_get old.declared.items id ≡ Some was
      → set old.all.items id (with_heading identifier was heading) ≡ map (identifier_at text (ds ++ d ∷ [])) h.tokens
  all_more identifier was a b =
      let kept : identifier ≡ identifier_at text ds token =
      some_is _ _ (sym a ∙ ap (λ xs. slice_get xs id) h.all ∙ slice_get-map (identifier_at text ds) h.tokens id ∙ ap (option_map (identifier_at text ds)) there) in
      let before : was ≡ is_declared ds (name_at text token) =
      some_is _ _ (sym b ∙ ap (λ xs. slice_get xs id) h.declared ∙ slice_get-map (λ (q : Row). is_declared ds (name_at text q)) h.tokens id
      ∙ ap (option_map (λ (q : Row). is_declared ds (name_at text q))) there) in
      (λ i. set (h.all i) id (with_heading (kept i) (before i) heading))
      ∙ ap (set (map (identifier_at text ds) h.tokens) id) (sym (identifier_more text ds d token same_name))
      ∙ set_map (identifier_at text ds) (identifier_at text (ds ++ d ∷ [])) h.tokens id token there
      (λ at y e other. sym (identifier_stays text ds d y (other_name at y e other)))

  declared_more : set old.declared.items id true ≡ map (λ (q : Row). is_declared (ds ++ d ∷ []) (name_at text q)) h.tokens
  declared_more =
      (λ i. set (h.declared i) id (sym (name_declared (name_at text token) ds d same_name) i))
      ∙ set_map (λ (q : Row). is_declared ds (name_at text q)) (λ (q : Row). is_declared (ds ++ d ∷ []) (name_at text q)) h.tokens id token there
      (λ at y e other. ap is_some (sym (first_stays (name_at text y) ds d (other_name at y e other))))

  pub declared : (new : Identifiers) → is_net_name r ≡ true → new.names ≡ old.names → new.froms.items ≡ old.froms.items → new.uses.items ≡ old.uses.items
      → (identifier : Identifier) (was : Bool) → slice_get old.all.items id ≡ Some identifier → slice_get old.declared.items id ≡ Some was
      → new.all.items ≡ set old.all.items id (with_heading identifier was heading) → new.declared.items ≡ set old.declared.items id true
      → AreRead text left (ds ++ declared_under text (Some heading) (r ∷ [])) new
  declared new net names froms uses identifier was a b all_is declared_is =
      let e : declared_under text (Some heading) (r ∷ []) ≡ d ∷ [] = rw net refl in
      more_declared text left (ds ++ d ∷ []) (ds ++ declared_under text (Some heading) (r ∷ [])) new (ap (λ more. ds ++ more) (sym e))
      (record {
        tokens = h.tokens;
        names = names ∙ h.names;
        whole = h.whole ∙ (λ i. h.tokens ++ first_tokens text (sym names i) left);
        all = all_is ∙ all_more identifier was a b;
        declared = declared_is ∙ declared_more;
        froms = froms ∙ h.froms;
        only = λ name none.
            let before : list_any (bytes_eq name) old.names ≡ false = ap (list_any (bytes_eq name)) (sym names) ∙ none in
            first_stays name ds d (not_at old.names id (name_at text r) name low its before) ∙ h.only name before;
        uses =
            subst (λ (ns : List (List ℕ)). All (IsUse text ns) new.uses.items) (sym names)
            (subst (λ (us : List Use). All (IsUse text old.names) us) (sym uses) h.uses);
      })

-- ---- the tokens of an item

-- what the declaration says that a token stands in, if it stands in one
abbrev pub heading_after : List ℕ → Option Heading → Row → List Row → Option Heading
heading_after text heading r after = if begins_declaration r then Some (heading_of text (section_before begins_declaration r after)) else heading

pub heading_begun : (text : List ℕ) (heading : Option Heading) (r : Row) (after : List Row) → begins_declaration r ≡ true
    → heading_after text heading r after ≡ Some (heading_of text (section_before begins_declaration r after))
heading_begun text heading r after t = rw t refl

pub heading_kept : (text : List ℕ) (heading : Option Heading) (r : Row) (after : List Row) → begins_declaration r ≡ false
    → heading_after text heading r after ≡ heading
heading_kept text heading r after t = rw t refl

-- what some tokens declare, the first of which stand in a declaration that says this, or in none
abbrev pub declared_left : List ℕ → Option Heading → List Row → List Declared
declared_left text heading rows =
    declared_under text heading (before_first begins_declaration rows) ++ flat_map (declared_in text) (sections begins_declaration rows)

under_nil : (text : List ℕ) (heading : Option Heading) → declared_under text heading [] ≡ []
under_nil text None = refl
under_nil text (Some heading) = refl

under_cons : (text : List ℕ) (heading : Option Heading) (r : Row) (rows : List Row)
    → declared_under text heading (r ∷ rows) ≡ declared_under text heading (r ∷ []) ++ declared_under text heading rows
under_cons text None r rows = refl
under_cons text (Some heading) r rows =
    ap (map (declare text heading)) (filter-append is_net_name (r ∷ []) rows)
    ∙ map-append (declare text heading) (filter is_net_name (r ∷ [])) (filter is_net_name rows)

no_name : (kind : Kind) (a b : Bool) → (is Direction kind || (a && is_net kind)) ≡ true → (is IdentifierKind kind && b) ≡ false
no_name IdentifierKind true b t = absurd (cc)
no_name IdentifierKind false b t = absurd (cc)
no_name _ a b t = refl

-- one token more of an item
pub next_declared : (text : List ℕ) (heading : Option Heading) (r : Row) (after : List Row)
    → declared_left text heading (r ∷ after)
    ≡ declared_under text (heading_after text heading r after) (r ∷ []) ++ declared_left text (heading_after text heading r after) after
next_declared text heading r after = by_test (begins_declaration r) refl
  where
    before : List Row
    before = before_first begins_declaration after

    rest : List Declared
    rest = flat_map (declared_in text) (sections begins_declaration after)

    first : (b : Bool) → begins_declaration r ≡ b → before_first begins_declaration (r ∷ after) ≡ cond b [] (r ∷ before)
    first b t = before_others begins_declaration r after b t

    by_test : (b : Bool) → begins_declaration r ≡ b
        → declared_left text heading (r ∷ after)
        ≡ declared_under text (heading_after text heading r after) (r ∷ []) ++ declared_left text (heading_after text heading r after) after
    by_test true t =
        let h : Option Heading = Some (heading_of text (section_before begins_declaration r after)) in
        let e : heading_after text heading r after ≡ h = rw t refl in
        let none : is_net_name r ≡ false = no_name r.kind (stands_in Start r) (is_net_place r.place) t in
        (λ i. declared_under text heading (first true t i) ++ flat_map (declared_in text) (sections_yes begins_declaration (r ∷ after) r after refl t i))
        ∙ ap (λ ds. ds ++ (declared_in text (section_before begins_declaration r after) ++ rest)) (under_nil text heading)
        ∙ ap (λ ds. ds ++ declared_left text h after) (sym (nothing_declared text h r none))
        ∙ ap (λ g. declared_under text g (r ∷ []) ++ declared_left text g after) (sym e)
    by_test false t =
        let e : heading_after text heading r after ≡ heading = rw t refl in
        (λ i. declared_under text heading (first false t i) ++ flat_map (declared_in text) (sections_no begins_declaration (r ∷ after) r after refl t i))
        ∙ ap (λ ds. ds ++ rest) (under_cons text heading r before)
        ∙ append_assoc (declared_under text heading (r ∷ [])) (declared_under text heading before) rest
        ∙ ap (λ g. declared_under text g (r ∷ []) ++ declared_left text g after) (sym e)

-- no token is left
pub none_left : (text : List ℕ) (heading : Option Heading) (rows : List Row) → length rows ≡ 0 → declared_left text heading rows ≡ []
unfolding sections
none_left text heading [] e = ap (λ ds. ds ++ []) (under_nil text heading)
none_left text heading (r ∷ rows) e = absurd (omega (arith, e))

-- at first none stands in a declaration
pub all_left : (text : List ℕ) (rows : List Row) → declared_left text None rows ≡ declared_among text rows
all_left text rows = refl

-- ---- the items of a text

pub all_read : (text : List ℕ) (ds : List Declared) (found : Identifiers) (items : List Section) → items ≡ [] → ds ≡ declared_of text
    → AreRead text (rows_in items) ds found → AreIdentifiers text found
all_read text ds found items none e h =
    let tokens : h.tokens ≡ tokens_of_nets text = tokens_done text found.names (tokens_of_nets text) h.tokens (rows_in items) h.whole (ap rows_in none) in
    record {
      names = h.names ∙ ap (map (name_at text)) tokens;
      all = h.all ∙ (λ i. map (identifier_at text (e i)) (tokens i));
      froms = h.froms ∙ ap (map (λ (q : Row). q.from)) tokens;
      only = λ name absent. ap (λ all. first_declared all name) (sym e) ∙ h.only name absent;
      uses = h.uses;
    }

-- all kinds are read where no item is left
pub kinds_end : (text : List ℕ) (kinds : List Kind) (left : List Section) (rows : List Row) → kinds_of text ≡ kinds ++ kinds_in (rows_in left)
    → left ≡ [] → rows ≡ [] → kinds ++ kinds_in rows ≡ kinds_of text
kinds_end text kinds left rows e none no_rows =
    ap (λ its. kinds ++ kinds_in its) no_rows ∙ sym (e ∙ ap (λ its. kinds ++ kinds_in (rows_in its)) none)

-- nothing is read yet
pub nothing_read : (text : List ℕ) (found : Identifiers) → found.names ≡ [] → found.all.items ≡ [] → found.declared.items ≡ [] → found.froms.items ≡ [] → found.uses.items ≡ []
    → AreRead text (rows_of text) [] found
nothing_read text found n a d f u = record {
  tokens = [];
  names = n;
  whole = rw n refl;
  all = a;
  declared = d;
  froms = f;
  only = λ name none. refl;
  uses = rw u (λ k other within. absurd (omega (arith, within)));
}

-- ---- where identifiers stand

-- a place is put last, or none is
pub one_use : (most : ℕ) (place : Use) (old new : List Use) → new ≡ with_use most place old → (new ≡ old ++ place ∷ []) ⊎ (new ≡ old)
one_use most place old new e = by_test (nat_lt (length old) most) refl
  where
    by_test : (b : Bool) → nat_lt (length old) most ≡ b → (new ≡ old ++ place ∷ []) ⊎ (new ≡ old)
    by_test true t = inl (e ∙ rw t refl)
    by_test false t = inr (e ∙ rw t refl)
