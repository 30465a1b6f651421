-- How many rows lines have, and how large their values are.
use Rattle.std.proofs.Common.{◌≡◌, ℕ, ℤ, zero, suc, ◌+◌, ◌*◌, ◌<◌, ◌≤◌, ◌^◌, Bool, true, false, cond, not, List, [], ◌∷◌, ◌++◌, map, length, refl, sym, ap, ◌∙◌, arith, Option, Some, None, Result, Ok, Err, ltb}
use Rattle.std.proofs.lemmas.Bool.{ltb-false}
use Rattle.std.proofs.lemmas.List.{length-map, length-append}
use Rattle.std.specs.List.{slice_get, slice_split, fold, filter_map, cons_option, flat_map, All}
use Rattle.std.specs.Prelude.{codes}
use Rattle.std.specs.Str.{bytes_eq}
use Rattle.vg_num.specs.Number.{scaled, is_number, is_negative, nearest_size}
use Rattle.vg_num.specs.declared.fault.NumFault.{NumFault}
use Rattle.vg_num.specs.declared.fault.NumFault.TheVariants.{Form, Negative, TooLarge}
use Rattle.vg_scan.specs.Lines.{words, Line}
use Rattle.vg_scan.specs.declared.name.NodeName.{NodeName}
use Rattle.spef_file.specs.Files.{File}
use Rattle.spef_net.specs.declared.fault.NetKind.{NetKind}
use Rattle.spef_net.specs.declared.fault.NetKind.TheVariants.{Conn, Cap, Res}
use Rattle.spef_net.specs.declared.net.ConnKind.{ConnKind}
use Rattle.spef_net.specs.declared.net.ConnKind.TheVariants.{Pin, Port}
use Rattle.spef_net.specs.declared.net.Direction.{Direction}
use Rattle.spef_net.specs.declared.net.ParNet.{ParNet}
use Rattle.spef_net.specs.declared.part.Part.{Part}
use Rattle.spef_net.specs.declared.part.Part.TheVariants.{Nowhere, Conns, Caps, Ress, Inducs}
use Rattle.spef_net.specs.Statements.{Opens, Nothing, Connects, Star, Ground, Coupling, Resistor}
use Rattle.vg_scan.specs.Nodes.{has_node}
use Rattle.spef_nodes.specs.Members.{with_node}
use Rattle.spef_net.specs.Lines.{head_of}
use Rattle.spef_net.specs.Statements.{Stated, is_colon, middle, value_of_parts, value_in, is_at, ground, coupling, resistor, cap_line, res_line, conn_line, connection, connected, star, starred, statement_in, statement_or_opens, statement_of_words, statement_of, part_after, statements_from, statements}
use Rattle.spef_net.specs.Rows.{joined_in, joined_of, connected_of, cap_in, caps_of, res_in, ress_of, named_in}
use Rattle.spef_net.specs.Denoted.{cap_at, res_at, AreCaps, AreRess, all_nodes, IsNet}
use Rattle.spef_net.specs.Nets.{IsCapOf, IsResOf}
use Rattle.spef_net.specs.Sections.{IsSized}

-- values

scaled_if : (a b c : Bool) (n v : ℕ) → cond a (Err Form) (cond b (Err Negative) (cond c (Err TooLarge) (Ok n))) ≡ Ok v → (c ≡ false) × (n ≡ v)
scaled_if true b c n v e = absurd (cc)
scaled_if false true c n v e = absurd (cc)
scaled_if false false true n v e = absurd (cc)
scaled_if false false false n v e = (refl, cc)

scaled_small : (places : ℤ) (most : ℕ) (text : List ℕ) (v : ℕ) → scaled places most text ≡ Ok v → v ≤ most
unfolding scaled
scaled_small places most text v e =
    let h = scaled_if (not (is_number text)) (is_negative text) (ltb most (nearest_size places text)) (nearest_size places text) v e in
    omega (arith, ltb-false most (nearest_size places text) h.0, h.1)

-- a value, if there is one, is at most 10^15
abbrev IsSmallValue : Result ℕ NumFault → Type 0
IsSmallValue (Ok v) = v ≤ 10 ^ 15
IsSmallValue (Err fault) = Unit {0}

small_if : (r : Result ℕ NumFault) → ((v : ℕ) → r ≡ Ok v → v ≤ 10 ^ 15) → IsSmallValue r
small_if (Ok v) h = h v refl
small_if (Err fault) h = tt

scaled_value : (places : ℤ) (text : List ℕ) → IsSmallValue (scaled places (10 ^ 15) text)
scaled_value places text = small_if (scaled places (10 ^ 15) text) (scaled_small places (10 ^ 15) text)

middle_value : (a b c : Result ℕ NumFault) → IsSmallValue b → IsSmallValue (middle a b c)
middle_value (Err fault) b c h = tt
middle_value (Ok x) (Err fault) c h = tt
middle_value (Ok x) (Ok n) (Err fault) h = tt
middle_value (Ok x) (Ok n) (Ok y) h = h

parts_value : (places : ℤ) (parts : List (List ℕ)) → IsSmallValue (value_of_parts places parts)
parts_value places [] = tt
parts_value places (a ∷ []) = scaled_value places a
parts_value places (a ∷ b ∷ []) = tt
parts_value places (a ∷ b ∷ c ∷ []) = middle_value (scaled places (10 ^ 15) a) (scaled places (10 ^ 15) b) (scaled places (10 ^ 15) c) (scaled_value places b)
parts_value places (a ∷ b ∷ c ∷ d ∷ ds) = tt

small_value : (places : ℤ) (text : List ℕ) → IsSmallValue (value_in places text)
unfolding value_in
small_value places text = parts_value places (slice_split is_colon text)

-- so is that of a line
record IsSmall (line : Stated) : Type 0 where
  ground : (node : NodeName) (v : ℕ) → line ≡ Ok (Ground node (Ok v)) → v ≤ 10 ^ 15
  coupling : (a b : NodeName) (v : ℕ) → line ≡ Ok (Coupling a b (Ok v)) → v ≤ 10 ^ 15
  resistor : (a b : NodeName) (v : ℕ) → line ≡ Ok (Resistor a b (Ok v)) → v ≤ 10 ^ 15

no_value : (kind : NetKind) → IsSmall (Err kind)
no_value kind = record { ground = λ node v e. absurd (cc); coupling = λ a b v e. absurd (cc); resistor = λ a b v e. absurd (cc) }

abbrev AreSame : Stated → Stated → Type 0
AreSame a b = a ≡ b

ground_is : (n m : NodeName) (value : Result ℕ NumFault) (v : ℕ) → AreSame (Ok (Ground n value)) (Ok (Ground m (Ok v))) → value ≡ Ok v
ground_is n m value v e = cc

coupling_is : (a b c d : NodeName) (value : Result ℕ NumFault) (v : ℕ) → AreSame (Ok (Coupling a b value)) (Ok (Coupling c d (Ok v))) → value ≡ Ok v
coupling_is a b c d value v e = cc

resistor_is : (a b c d : NodeName) (value : Result ℕ NumFault) (v : ℕ) → AreSame (Ok (Resistor a b value)) (Ok (Resistor c d (Ok v))) → value ≡ Ok v
resistor_is a b c d value v e = cc

small_at : (value : Result ℕ NumFault) (v : ℕ) → IsSmallValue value → value ≡ Ok v → v ≤ 10 ^ 15
small_at (Ok w) v h e = (let f : w ≡ v = cc in omega (arith, f))
small_at (Err fault) v h e = absurd (cc)

ground_small : (node : Option NodeName) (value : Result ℕ NumFault) → IsSmallValue value → IsSmall (ground node value)
ground_small None value h = no_value Cap
ground_small (Some n) value h = record {
  ground = λ node v e. small_at value v h (ground_is n node value v e);
  coupling = λ a b v e. absurd (cc);
  resistor = λ a b v e. absurd (cc);
}

coupling_small : (nodes : Option (NodeName × NodeName)) (value : Result ℕ NumFault) → IsSmallValue value → IsSmall (coupling nodes value)
coupling_small None value h = no_value Cap
coupling_small (Some nodes) value h = record {
  ground = λ node v e. absurd (cc);
  coupling = λ a b v e. small_at value v h (coupling_is nodes.0 nodes.1 a b value v e);
  resistor = λ a b v e. absurd (cc);
}

resistor_small : (nodes : Option (NodeName × NodeName)) (value : Result ℕ NumFault) → IsSmallValue value → IsSmall (resistor nodes value)
resistor_small None value h = no_value Res
resistor_small (Some nodes) value h = record {
  ground = λ node v e. absurd (cc);
  coupling = λ a b v e. absurd (cc);
  resistor = λ a b v e. small_at value v h (resistor_is nodes.0 nodes.1 a b value v e);
}

cap_small : (file : File) (line : Line) → IsSmall (cap_line file line)
unfolding cap_line
cap_small file [] = no_value Cap
cap_small file (a ∷ []) = no_value Cap
cap_small file (a ∷ b ∷ []) = no_value Cap
cap_small file (a ∷ b ∷ c ∷ []) = ground_small _ _ (small_value _ _)
cap_small file (a ∷ b ∷ c ∷ d ∷ []) = coupling_small _ _ (small_value _ _)
cap_small file (a ∷ b ∷ c ∷ d ∷ e ∷ es) = no_value Cap

res_small : (file : File) (line : Line) → IsSmall (res_line file line)
unfolding res_line
res_small file [] = no_value Res
res_small file (a ∷ []) = no_value Res
res_small file (a ∷ b ∷ []) = no_value Res
res_small file (a ∷ b ∷ c ∷ []) = no_value Res
res_small file (a ∷ b ∷ c ∷ d ∷ []) = resistor_small _ _ (small_value _ _)
res_small file (a ∷ b ∷ c ∷ d ∷ e ∷ es) = no_value Res

-- a line of connections has no value
abbrev IsValueless : Stated → Type 0
IsValueless (Ok (Ground _ _)) = ⊥
IsValueless (Ok (Coupling _ _ _)) = ⊥
IsValueless (Ok (Resistor _ _ _)) = ⊥
IsValueless _ = Unit {0}

valueless : (line : Stated) → IsValueless line → IsSmall line
valueless (Err kind) h = no_value kind
valueless (Ok (Opens part)) h = record { ground = λ node v e. absurd (cc); coupling = λ a b v e. absurd (cc); resistor = λ a b v e. absurd (cc) }
valueless (Ok Nothing) h = record { ground = λ node v e. absurd (cc); coupling = λ a b v e. absurd (cc); resistor = λ a b v e. absurd (cc) }
valueless (Ok (Connects kind direction n note)) h = record { ground = λ node v e. absurd (cc); coupling = λ a b v e. absurd (cc); resistor = λ a b v e. absurd (cc) }
valueless (Ok (Star n note)) h = record { ground = λ node v e. absurd (cc); coupling = λ a b v e. absurd (cc); resistor = λ a b v e. absurd (cc) }
valueless (Ok (Ground n value)) h = absurd h
valueless (Ok (Coupling a b value)) h = absurd h
valueless (Ok (Resistor a b value)) h = absurd h

record IsFree (line : Stated) : Type 0 where
  none : IsValueless line

free_if : (t : Bool) (a b : Stated) → IsFree a → IsFree b → IsFree (cond t a b)
free_if true a b f g = f
free_if false a b f g = g

connected_free : (kind : ConnKind) (note : List ℕ) (node : Option NodeName) (direction : Option Direction) → IsFree (connected kind note node direction)
connected_free kind note (Some node) (Some direction) = free_if (is_at kind node) (Ok (Connects kind direction node note)) (Err Conn) (record { none = tt }) (record { none = tt })
connected_free kind note (Some node) None = record { none = tt }
connected_free kind note None direction = record { none = tt }

connection_free : (file : File) (kind : ConnKind) (line : List ℕ) (rest : Line) → IsFree (connection file kind line rest)
connection_free file kind line [] = record { none = tt }
connection_free file kind line (a ∷ []) = record { none = tt }
connection_free file kind line (a ∷ b ∷ rest) = connected_free kind _ _ _

starred_free : (note : List ℕ) (node : Option NodeName) → IsFree (starred note node)
starred_free note None = record { none = tt }
starred_free note (Some node) = record { none = tt }

star_free : (file : File) (line : List ℕ) (rest : Line) → IsFree (star file line rest)
star_free file line [] = record { none = tt }
star_free file line (a ∷ rest) = starred_free _ _

conn_free : (file : File) (line : List ℕ) (ws : Line) → IsFree (conn_line file line ws)
unfolding conn_line
conn_free file line [] = record { none = tt }
conn_free file line (tag ∷ rest) =
    free_if (bytes_eq tag (codes "*I")) _ _ (connection_free file Pin line rest)
    (free_if (bytes_eq tag (codes "*P")) _ _ (connection_free file Port line rest)
    (free_if (bytes_eq tag (codes "*N")) (star file line rest) (Err Conn) (star_free file line rest) (record { none = tt })))

in_small : (part : Part) (file : File) (line : List ℕ) (ws : Line) → IsSmall (statement_in part file line ws)
in_small Nowhere file line ws = no_value Conn
in_small Conns file line ws = valueless (conn_line file line ws) (conn_free file line ws).none
in_small Caps file line ws = cap_small file ws
in_small Ress file line ws = res_small file ws
in_small Inducs file line ws = valueless (Ok Nothing) tt

opens_small : (part : Option Part) (line : Stated) → IsSmall line → IsSmall (statement_or_opens part line)
opens_small (Some part) line h = valueless (Ok (Opens part)) tt
opens_small None line h = h

words_small : (file : File) (part : Part) (line : List ℕ) (ws : Line) → IsSmall (statement_of_words file part line ws)
unfolding statement_of_words
words_small file part line [] = valueless (Ok Nothing) tt
words_small file part line (word ∷ rest) = opens_small (head_of (word ∷ rest)) (statement_in part file line (word ∷ rest)) (in_small part file line (word ∷ rest))

-- lists

pub all_nil : {X : Type 0} (P : X → Type 0) → All P []
all_nil P k d l = absurd (omega arith)

pub all_cons : {X : Type 0} (P : X → Type 0) (x : X) (xs : List X) → P x → All P xs → All P (x ∷ xs)
all_cons P x xs p h zero d l = p
all_cons P x xs p h (suc k) d l = h k d (omega arith)

pub all_head : {X : Type 0} (P : X → Type 0) (x : X) (xs : List X) → All P (x ∷ xs) → P x
all_head P x xs h = h 0 x (omega arith)

pub all_tail : {X : Type 0} (P : X → Type 0) (x : X) (xs : List X) → All P (x ∷ xs) → All P xs
all_tail P x xs h = λ k d l. h (suc k) d (omega arith)

-- all lines of a section are small
record AreSmall (all : List Stated) : Type 0 where
  lines : All IsSmall all

statements_small : (file : File) (part : Part) (ls : List (List ℕ)) → AreSmall (statements_from file part ls)
unfolding statements_from
statements_small file part [] = record { lines = all_nil IsSmall }
statements_small file part (line ∷ ls) = record { lines = all_cons IsSmall _ _ (words_small file part line (words line)) (statements_small file (part_after part (statement_of file part line)) ls).lines }

length-statements : (file : File) (part : Part) (ls : List (List ℕ)) → length (statements_from file part ls) ≡ length ls
unfolding statements_from
length-statements file part [] = refl
length-statements file part (line ∷ ls) = ap suc (length-statements file (part_after part (statement_of file part line)) ls)

length-cons_option : {X : Type 0} (o : Option X) (xs : List X) → length (cons_option o xs) ≤ length xs + 1
length-cons_option None xs = omega arith
length-cons_option (Some x) xs = omega arith

pub length-filter_map-le : {X Y : Type 0} (f : X → Option Y) (xs : List X) → length (filter_map f xs) ≤ length xs
length-filter_map-le f [] = omega arith
length-filter_map-le f (x ∷ xs) = omega (arith, length-cons_option (f x) (filter_map f xs), length-filter_map-le f xs)

with_node_if : (t : Bool) (nodes : List NodeName) (node : NodeName) → length (cond t nodes (nodes ++ node ∷ [])) ≤ length nodes + 1
with_node_if true nodes node = omega arith
with_node_if false nodes node = omega (arith, length-append nodes (node ∷ []))

length-fold-with_node : (xs nodes : List NodeName) → length (fold with_node nodes xs) ≤ length nodes + length xs
length-fold-with_node [] nodes = omega arith
length-fold-with_node (x ∷ xs) nodes = omega (arith, length-fold-with_node xs (with_node nodes x), with_node_if (has_node nodes x) nodes x)

named_few : (connected : List NodeName) (net : List ℕ) (line : Stated) → length (named_in connected net line) ≤ 2
named_few connected net (Err kind) = omega arith
named_few connected net (Ok (Opens part)) = omega arith
named_few connected net (Ok Nothing) = omega arith
named_few connected net (Ok (Connects kind direction node note)) = omega arith
named_few connected net (Ok (Star node note)) = omega arith
named_few connected net (Ok (Ground node value)) = omega arith
named_few connected net (Ok (Coupling a b value)) = omega arith
named_few connected net (Ok (Resistor a b value)) = omega arith

length-named : (connected : List NodeName) (net : List ℕ) (all : List Stated) → length (flat_map (named_in connected net) all) ≤ 2 * length all
length-named connected net [] = omega arith
length-named connected net (line ∷ all) =
    omega (arith, length-append (named_in connected net line) (flat_map (named_in connected net) all), named_few connected net line, length-named connected net all)

length-all_nodes : (net : List ℕ) (all : List Stated) → length (all_nodes net all) ≤ 3 * length all
length-all_nodes net all =
    let c : length (connected_of all) ≤ length all = omega (arith, length-map (joined_of all) (λ row. row.0), length-filter_map-le joined_in all) in
    omega (arith, length-fold-with_node (connected_of all ++ flat_map (named_in (connected_of all) net) all) [], length-append (connected_of all) (flat_map (named_in (connected_of all) net) all), c, length-named (connected_of all) net all)

-- rows

cap_small_in : (connected : List NodeName) (net : List ℕ) (line : Stated) (row : NodeName × ℕ) → IsSmall line → cap_in connected net line ≡ Some row → row.1 ≤ 10 ^ 15
cap_small_in connected net (Err kind) row h e = absurd (cc)
cap_small_in connected net (Ok (Opens part)) row h e = absurd (cc)
cap_small_in connected net (Ok Nothing) row h e = absurd (cc)
cap_small_in connected net (Ok (Connects kind direction node note)) row h e = absurd (cc)
cap_small_in connected net (Ok (Star node note)) row h e = absurd (cc)
cap_small_in connected net (Ok (Ground node (Ok v))) row h e = (let f : v ≡ row.1 = cc in omega (arith, f, h.ground node v refl))
cap_small_in connected net (Ok (Ground node (Err fault))) row h e = absurd (cc)
cap_small_in connected net (Ok (Coupling a b (Ok v))) row h e = (let f : v ≡ row.1 = cc in omega (arith, f, h.coupling a b v refl))
cap_small_in connected net (Ok (Coupling a b (Err fault))) row h e = absurd (cc)
cap_small_in connected net (Ok (Resistor a b value)) row h e = absurd (cc)

res_small_in : (line : Stated) (row : NodeName × NodeName × ℕ) → IsSmall line → res_in line ≡ Some row → row.2 ≤ 10 ^ 15
res_small_in (Err kind) row h e = absurd (cc)
res_small_in (Ok (Opens part)) row h e = absurd (cc)
res_small_in (Ok Nothing) row h e = absurd (cc)
res_small_in (Ok (Connects kind direction node note)) row h e = absurd (cc)
res_small_in (Ok (Star node note)) row h e = absurd (cc)
res_small_in (Ok (Ground node value)) row h e = absurd (cc)
res_small_in (Ok (Coupling a b value)) row h e = absurd (cc)
res_small_in (Ok (Resistor a b (Ok v))) row h e = (let f : v ≡ row.2 = cc in omega (arith, f, h.resistor a b v refl))
res_small_in (Ok (Resistor a b (Err fault))) row h e = absurd (cc)

all_option : {X : Type 0} (P : X → Type 0) (o : Option X) (xs : List X) → ((x : X) → o ≡ Some x → P x) → All P xs → All P (cons_option o xs)
all_option P None xs p h = h
all_option P (Some x) xs p h = all_cons P x xs (p x refl) h

pub all_filter_map : {X Y : Type 0} (P : Y → Type 0) (Q : X → Type 0) (f : X → Option Y) (xs : List X) → ((x : X) (y : Y) → Q x → f x ≡ Some y → P y) → All Q xs → All P (filter_map f xs)
all_filter_map P Q f [] g h = all_nil P
all_filter_map P Q f (x ∷ xs) g h = all_option P (f x) (filter_map f xs) (λ y e. g x y (all_head Q x xs h) e) (all_filter_map P Q f xs g (all_tail Q x xs h))

got_within : {X : Type 0} (xs : List X) (i : ℕ) (x : X) → slice_get xs i ≡ Some x → i < length xs
got_within [] i x e = absurd (cc)
got_within (y ∷ xs) zero x e = omega arith
got_within (y ∷ xs) (suc i) x e = omega (arith, got_within xs i x e)

pub pair_eq : {A B : Type 0} (a c : A) (b d : B) → ◌≡◌ {A = A × B} (a, b) (c, d) → (a ≡ c) × (b ≡ d)
pair_eq a c b d e = (ap (λ p. p.0) e, ap (λ p. p.1) e)

pub list_eq : {A : Type 0} (x y : A) (xs ys : List A) → x ∷ xs ≡ y ∷ ys → (x ≡ y) × (xs ≡ ys)
list_eq x y xs ys e = (cc, cc)

-- numbered rows are in the list of nodes, and have the values of their rows
pub caps_fit : (nodes : List NodeName) (caps : List (ℕ × ℕ)) (rows : List (NodeName × ℕ)) → AreCaps nodes caps rows → All (λ row. row.1 ≤ 10 ^ 15) rows → All (IsCapOf (length nodes)) caps
caps_fit nodes [] rows e h = all_nil _
caps_fit nodes (cap ∷ caps) [] e h = absurd (cc)
caps_fit nodes (cap ∷ caps) (row ∷ rows) e h =
    let p = list_eq _ _ _ _ e in
    let q = pair_eq _ _ _ _ p.0 in
    let low : cap.1 ≤ 10 ^ 15 = omega (arith, q.1, all_head (λ r. r.1 ≤ 10 ^ 15) row rows h) in
    all_cons (IsCapOf (length nodes)) cap caps (got_within nodes cap.0 row.0 q.0, low) (caps_fit nodes caps rows p.1 (all_tail (λ r. r.1 ≤ 10 ^ 15) row rows h))

pub ress_fit : (nodes : List NodeName) (ress : List (ℕ × ℕ × ℕ)) (rows : List (NodeName × NodeName × ℕ)) → AreRess nodes ress rows → All (λ row. row.2 ≤ 10 ^ 15) rows → All (IsResOf (length nodes)) ress
ress_fit nodes [] rows e h = all_nil _
ress_fit nodes (res ∷ ress) [] e h = absurd (cc)
ress_fit nodes (res ∷ ress) (row ∷ rows) e h =
    let p = list_eq _ _ _ _ e in
    let a : slice_get nodes res.0 ≡ Some row.0 = ap (λ x. x.0) p.0 in
    let b : slice_get nodes res.1 ≡ Some row.1 = ap (λ x. x.1) p.0 in
    let v : res.2 ≡ row.2 = ap (λ x. x.2) p.0 in
    let low : res.2 ≤ 10 ^ 15 = omega (arith, v, all_head (λ r. r.2 ≤ 10 ^ 15) row rows h) in
    all_cons (IsResOf (length nodes)) res ress (got_within nodes res.0 row.0 a, got_within nodes res.1 row.1 b, low) (ress_fit nodes ress rows p.1 (all_tail (λ r. r.2 ≤ 10 ^ 15) row rows h))

-- as many as their rows
length-as : {A B C : Type 0} (f : A → C) (g : B → C) (xs : List A) (ys : List B) → map f xs ≡ map g ys → length xs ≡ length ys
length-as f g xs ys e = sym (length-map xs f) ∙ ap length e ∙ length-map ys g

-- the values of lines
pub cap_values : (connected : List NodeName) (net : List ℕ) (file : File) (ls : List (List ℕ)) → All (λ row. row.1 ≤ 10 ^ 15) (caps_of connected net (statements file ls))
cap_values connected net file ls = all_filter_map (λ row. row.1 ≤ 10 ^ 15) IsSmall (cap_in connected net) (statements file ls) (cap_small_in connected net) (statements_small file Nowhere ls).lines

pub res_values : (file : File) (ls : List (List ℕ)) → All (λ row. row.2 ≤ 10 ^ 15) (ress_of (statements file ls))
res_values file ls = all_filter_map (λ row. row.2 ≤ 10 ^ 15) IsSmall res_in (statements file ls) res_small_in (statements_small file Nowhere ls).lines

-- the net of few lines is sized
sized_net : (name : List ℕ) (reduced : Bool) (all : List Stated) (net : ParNet) → length all ≤ 2 ^ 28 → IsNet name reduced all net → IsSized net
sized_net name reduced all net few is =
    let nodes = all_nodes name all in
    let n : length net.nodes ≡ length nodes = ap length is.nodes ∙ length-map nodes _ in
    record {
      node_count = omega (arith, n, length-all_nodes name all);
      cap_count = omega (arith, length-as (cap_at nodes) (λ row. (Some row.0, row.1)) net.caps (caps_of (connected_of all) name all) is.caps, length-filter_map-le (cap_in (connected_of all) name) all);
      res_count = omega (arith, length-as (res_at nodes) (λ row. (Some row.0, Some row.1, row.2)) net.ress (ress_of all) is.ress, length-filter_map-le res_in all);
    }

pub section_sized : (name : List ℕ) (reduced : Bool) (file : File) (ls : List (List ℕ)) (net : ParNet) → length ls ≤ 2 ^ 28 → IsNet name reduced (statements file ls) net → IsSized net
section_sized name reduced file ls net few is = sized_net name reduced (statements file ls) net (omega (arith, length-statements file Nowhere ls)) is
