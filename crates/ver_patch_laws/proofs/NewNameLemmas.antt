-- No instance of the text of a changed netlist is named twice.
use Rattle.std.proofs.Common.{◌≡◌, ℕ, Bool, true, false, cond, not, List, [], ◌∷◌, ◌++◌, map, refl, sym, ap, ◌∙◌, subst, append_assoc}
use Rattle.std.specs.List.{flat_map, list_any}
use Rattle.std.specs.Str.{bytes_eq}
use Rattle.std.proofs.lemmas.List.{append-nil, map-append}
use Rattle.ver_syntax.specs.declared.fault.VerKind.TheVariants.{Grammar, InstanceTwice, NameClash}
use Rattle.name_tables.specs.Distinct.{with_name}
use Rattle.ver_syntax.specs.declared.row.Row.{Row}
use Rattle.ver_items.specs.Sections.{Section, instances_in, items}
use Rattle.ver_module.specs.Netlists.{Instance, Netlist}
use Rattle.ver_patch.specs.NewCells.{NewCell}
use Rattle.ver_file.specs.Flaws.{Named, clashes, flaws_at, grammar_flaws, instance_flaws, named, repeated, unless}
use Rattle.ver_file.specs.Netlists.{instance_of, instances_by, instances_of}
use Rattle.ver_patch_laws.specs.InstanceLaws.{InstancesDiffer}
use Rattle.name_tables.specs.Distinct.{AreNew}
use Rattle.ver_patch_laws.specs.Shapes.{Shape, new_shape, shape_of}
use Rattle.ver_patch_laws.proofs.InstanceLemmas.{instances_stay}

-- ---- names that are given once

names_of : List Named → List (List ℕ)
names_of ns = map (λ n. n.name) ns

no_places : (b : Bool) (place : ℕ) (rest : List ℕ) → unless b place ++ rest ≡ [] → (b ≡ true) × (rest ≡ [])
no_places true place rest e = (refl, e)
no_places false place rest e = absurd (cc)

not_true : (b : Bool) → not b ≡ true → b ≡ false
not_true true e = absurd (cc)
not_true false e = refl

put_last : (names : List (List ℕ)) (name : List ℕ) → list_any (bytes_eq name) names ≡ false → with_name names name ≡ names ++ name ∷ []
put_last names name e = ap (λ b. cond b names (names ++ name ∷ [])) e

given_once : (ns : List Named) (before : List (List ℕ)) → repeated before ns ≡ [] → AreNew before (names_of ns)
unfolding repeated names_of
given_once [] before e = tt
given_once (n ∷ ns) before e =
    let (f, g) = no_places (not (list_any (bytes_eq n.name) before)) n.place (repeated (with_name before n.name) ns) e in
    let new = not_true (list_any (bytes_eq n.name) before) f in
    (new, given_once ns (before ++ n.name ∷ []) (ap (λ names. repeated names ns) (sym (put_last before n.name new)) ∙ g))

once_given : (ns : List Named) (before : List (List ℕ)) → AreNew before (names_of ns) → repeated before ns ≡ []
unfolding repeated names_of
once_given [] before h = refl
once_given (n ∷ ns) before h =
    (λ i. unless (not (h.0 i)) n.place ++ repeated (put_last before n.name h.0 i) ns) ∙ once_given ns (before ++ n.name ∷ []) h.1

new_append : (before xs ys : List (List ℕ)) → AreNew before xs → AreNew (before ++ xs) ys → AreNew before (xs ++ ys)
new_append before [] ys h k = subst (λ names. AreNew names ys) (append-nil before) k
new_append before (x ∷ xs) ys h k =
    (h.0, new_append (before ++ x ∷ []) xs ys h.1 (subst (λ names. AreNew names ys) (sym (append_assoc before (x ∷ []) xs)) k))

-- ---- instances

item_names : (text : List ℕ) (cell : Row) (ss : List Section) → map (λ n. n.name) (map (named text) ss) ≡ map (λ (s : Shape). s.name) (map shape_of (map (instance_of text cell) ss))
item_names text cell [] = refl
item_names text cell (s ∷ ss) = ap (λ ns. (named text s).name ∷ ns) (item_names text cell ss)

all_names : (text : List ℕ) (its : List Section)
    → map (λ n. n.name) (map (named text) (flat_map instances_in its)) ≡ map (λ (s : Shape). s.name) (map shape_of (flat_map (instances_by text) its))
all_names text [] = refl
all_names text (item ∷ its) =
    ap (map (λ (n : Named). n.name)) (map-append (named text) (instances_in item) (flat_map instances_in its))
    ∙ map-append (λ (n : Named). n.name) (map (named text) (instances_in item)) (map (named text) (flat_map instances_in its))
    ∙ (λ i. item_names text item.head (instances_in item) i ++ all_names text its i)
    ∙ sym (map-append (λ (s : Shape). s.name) (map shape_of (instances_by text item)) (map shape_of (flat_map (instances_by text) its)))
    ∙ ap (map (λ (s : Shape). s.name)) (sym (map-append shape_of (instances_by text item) (flat_map (instances_by text) its)))

shape_names : (is : List Instance) → map (λ (s : Shape). s.name) (map shape_of is) ≡ map (λ (i : Instance). i.name) is
shape_names [] = refl
shape_names (i ∷ is) = ap (λ ns. i.name ∷ ns) (shape_names is)

cell_names : (cells : List NewCell) → map (λ (s : Shape). s.name) (map new_shape cells) ≡ map (λ (c : NewCell). c.name) cells
cell_names [] = refl
cell_names (c ∷ cells) = ap (λ ns. c.name ∷ ns) (cell_names cells)

-- flaws of a text that has none
no_flaws : {X : Type 0} (xs ys zs : List X) → xs ++ (ys ++ zs) ≡ [] → ys ≡ []
no_flaws [] [] zs e = refl
no_flaws [] (y ∷ ys) zs e = absurd (cc)
no_flaws (x ∷ xs) ys zs e = absurd (cc)

no_map : {X Y : Type 0} (f : X → Y) (xs : List X) → map f xs ≡ [] → xs ≡ []
no_map f [] e = refl
no_map f (x ∷ xs) e = absurd (cc)

pub instances_differ : InstancesDiffer
unfolding names_of
instances_differ text netlist rewires cells wires new c h =
    let d = c.denotes in
    let none : instance_flaws text ≡ []
    = no_map _ (instance_flaws text) (no_flaws (flaws_at NameClash (clashes text)) (flaws_at InstanceTwice (instance_flaws text)) (flaws_at Grammar (grammar_flaws text)) d.flawless) in
    let olds = given_once (map (named text) (flat_map instances_in (items text))) [] none in
    let old_names : map (λ n. n.name) (map (named text) (flat_map instances_in (items text))) ≡ map (λ (i : Instance). i.name) netlist.instances
    = all_names text (items text) ∙ shape_names (instances_of text) ∙ ap (λ (n : Netlist). map (λ (i : Instance). i.name) n.instances) (sym d.is) in
    let new_names : map (λ n. n.name) (map (named new) (flat_map instances_in (items new)))
    ≡ map (λ (i : Instance). i.name) netlist.instances ++ map (λ (x : NewCell). x.name) cells
    = all_names new (items new) ∙ ap (map (λ (s : Shape). s.name)) (instances_stay text netlist rewires cells wires new c)
    ∙ map-append (λ (s : Shape). s.name) (map shape_of netlist.instances) (map new_shape cells)
    ∙ (λ i. shape_names netlist.instances i ++ cell_names cells i) in
    once_given (map (named new) (flat_map instances_in (items new))) []
    (subst (AreNew []) (sym new_names)
    (new_append [] (map (λ (i : Instance). i.name) netlist.instances) (map (λ (x : NewCell). x.name) cells) (subst (AreNew []) old_names olds) h))
