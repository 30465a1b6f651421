-- The nets of a text.
use Rattle.std.proofs.Common.{◌≡◌, ℕ, Bool, true, false, not, List, [], ◌∷◌, ◌++◌, map, flat_map, Option, Some, None, refl, sym, ap, ◌∙◌}
use Rattle.std.proofs.lemmas.List.{map-append}
use Rattle.ver_syntax.specs.declared.fault.VerKind.TheVariants.{NameClash}
use Rattle.ver_syntax.specs.declared.row.Row.{Row}
use Rattle.ver_module.specs.Netlists.{NetTable, nets_in, nets_with}
use Rattle.ver_items.specs.Declarations.{declared_of}
use Rattle.ver_items.specs.Sections.{name_at}
use Rattle.ver_file.specs.Firsts.{earlier, first_of}
use Rattle.ver_file.specs.Flaws.{clashes, flaws_of, name_flaws, named_nets, range_flaws, unless}
use Rattle.ver_file.specs.Nets.{nets_at, nets_of, tokens_of_nets}
use Rattle.ver_file.specs.Tables.{IsNetTable, identifier_at, names_of}
use Rattle.ver_file.proofs.FirstLemmas.{given_names}

pub no_left : {X : Type 0} (xs ys : List X) → xs ++ ys ≡ [] → xs ≡ []
no_left [] ys e = refl
no_left (x ∷ xs) ys e = absurd (cc)

pub no_right : {X : Type 0} (xs ys : List X) → xs ++ ys ≡ [] → ys ≡ []
no_right [] ys e = e
no_right (x ∷ xs) ys e = absurd (cc)

pub no_mapped : {X Y : Type 0} (f : X → Y) (xs : List X) → map f xs ≡ [] → xs ≡ []
no_mapped f [] e = refl
no_mapped f (x ∷ xs) e = absurd (cc)

pub passes : (b : Bool) (place : ℕ) → unless b place ≡ [] → b ≡ true
passes true place e = refl
passes false place e = absurd (cc)

pub no_name_flaw : (text : List ℕ) → flaws_of text ≡ [] → name_flaws text ≡ []
no_name_flaw text e =
    no_left (name_flaws text) (flat_map (range_flaws (declared_of text)) (declared_of text)) (no_mapped (λ place. record { place = place; kind = NameClash }) (clashes text) (no_left (map (λ place. record { place = place; kind = NameClash }) (clashes text)) _ e))

pub names_given : (text : List ℕ) (tokens : List Row)
    → map (λ n. n.name) (flat_map (named_nets text) tokens) ≡ names_of (flat_map (nets_at text (declared_of text)) tokens)
names_given text [] = refl
names_given text (t ∷ ts) =
    map-append (λ n. n.name) (named_nets text t) (flat_map (named_nets text) ts)
    ∙ (λ i. given_names t.from (nets_at text (declared_of text) t) i ++ names_given text ts i)
    ∙ sym (map-append (λ n. n.name) (nets_at text (declared_of text) t) (flat_map (nets_at text (declared_of text)) ts))

pub not_any : (b : Bool) → not b ≡ true → b ≡ false
not_any true t = absurd (cc)
not_any false t = refl

-- without a first place there is none
pub not_first : (first : Option ℕ) (places : List ℕ) → first_of first places ≡ None → (first ≡ None) × (places ≡ [])
not_first first [] e = (e, refl)
not_first first (p ∷ ps) e = absurd (some_earlier first p (not_first (earlier first p) ps e).0)
  where
    some_earlier : (o : Option ℕ) (q : ℕ) → earlier o q ≡ None → ⊥
    some_earlier None q f = cc
    some_earlier (Some o) q f = cc

pub none_first : (text : List ℕ) → first_of None (name_flaws text) ≡ None → name_flaws text ≡ []
none_first text e = (not_first None (name_flaws text) e).1

-- ---- identifiers one after another

nets_by_tokens : (text : List ℕ) (tokens : List Row)
    → nets_with (map (name_at text) tokens) (map (identifier_at text (declared_of text)) tokens) ≡ flat_map (nets_at text (declared_of text)) tokens
unfolding nets_with
nets_by_tokens text [] = refl
nets_by_tokens text (t ∷ ts) = ap (λ ns. nets_at text (declared_of text) t ++ ns) (nets_by_tokens text ts)

-- the table has the nets of its text
pub table_nets : (text : List ℕ) (table : NetTable) → IsNetTable text table → nets_in table ≡ nets_of text
table_nets text table is = (λ i. nets_with (is.names i) (is.identifiers i)) ∙ nets_by_tokens text (tokens_of_nets text)
