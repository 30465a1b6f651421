-- Values beside their nodes, each of which stands once.
use Rattle.std.proofs.Common.{◌≡◌, ℕ, zero, suc, ◌≢◌, inl, inr, Bool, true, false, cond, List, [], ◌∷◌, ◌++◌, length, take, length-append, get_or, zip, refl, sym, ap, ◌∙◌, subst, arith, Option, Some, None, is_some, ◌&&◌}
use Rattle.std.proofs.lemmas.Bool.{cases_lt}
use Rattle.std.proofs.lemmas.Map.Made.{is_some-lookup, keys_of-zip}
use Rattle.std.proofs.lemmas.Option.{slice_get_within}
use Rattle.std.specs.List.{slice_get, list_any}
use Rattle.std.specs.Prelude.{IfSome, IfNone}
use Rattle.std.specs.Str.{bytes_eq}
use Rattle.std.proofs.Math.Bool.{and-true}
use Rattle.vg_cons.specs.Names.{AreOfPorts, by_ports, port_node, port_value}
use Rattle.vg_scan.specs.declared.name.NodeName.{NodeName}
use Rattle.vg_scan.specs.Nodes.{same_node, has_node, node_value}
use Rattle.spef_nodes.specs.Members.{AreApart, with_node}
use Rattle.spef_nodes.proofs.ApartLemmas.{apart_if, has_at}
use Rattle.spef_nodes.proofs.NodeListLemmas.{same_is}
use Rattle.spef_nodes.proofs.NodeTableLemmas.{same_refl, slice_get_front}

some_is : {A : Type 0} (a b : A) → Some a ≡ Some b → a ≡ b
some_is a b e = cc

none_is : {A : Type 0} (o : Option A) → is_some o ≡ false → o ≡ None
none_is None e = refl
none_is (Some x) e = absurd (cc)

-- a node has a value where it is there
pub has_value : {V : Type 0} → (nodes : List NodeName) (values : List V) (node : NodeName) → length values ≡ length nodes → is_some (node_value (zip nodes values) node) ≡ has_node nodes node
has_value nodes values node even = is_some-lookup (same_node node) (zip nodes values) ∙ ap (list_any (same_node node)) (keys_of-zip nodes values even)

pub no_value : {V : Type 0} → (nodes : List NodeName) (values : List V) (node : NodeName) → length values ≡ length nodes → has_node nodes node ≡ false → node_value (zip nodes values) node ≡ None
no_value nodes values node even e = none_is (node_value (zip nodes values) node) (has_value nodes values node even ∙ e)

pub none_at_all : {V : Type 0} → (nodes : List NodeName) (values : List V) (node : NodeName) → length values ≡ 0 → node_value (zip nodes values) node ≡ None
none_at_all [] values node e = refl
none_at_all (x ∷ xs) [] node e = refl
none_at_all (x ∷ xs) (t ∷ ts) node e = absurd (omega (arith, e))

another : (x node : NodeName) (nodes : List NodeName) (b : Bool) → same_node node x ≡ b → has_node nodes x ≡ false → has_node nodes node ≡ true → b ≡ false
another x node nodes false e f h = refl
another x node nodes true e f h = absurd (let same = same_is node x e in let k : true ≡ false = sym h ∙ ap (has_node nodes) same ∙ f in cc)

-- the value of a node is that of its number
pub value_at : {V : Type 0} → (nodes : List NodeName) (values : List V) (id : ℕ) (node : NodeName) (other : V) → AreApart nodes → length values ≡ length nodes → slice_get nodes id ≡ Some node
    → node_value (zip nodes values) node ≡ Some (get_or values id other)
value_at [] values id node other h even e = absurd (cc)
value_at (x ∷ xs) [] id node other h even e = absurd (omega (arith, even))
value_at (x ∷ xs) (t ∷ ts) zero node other h even e =
    let same : same_node node x ≡ true = ap (same_node node) (some_is x node e) ∙ same_refl node in
    ap (λ (b : Bool). cond b (Some t) (node_value (zip xs ts) node)) same
value_at (x ∷ xs) (t ∷ ts) (suc id) node other h even e =
    ap (λ (b : Bool). cond b (Some t) (node_value (zip xs ts) node)) (another x node xs (same_node node x) refl h.0 (has_at xs id node e))
    ∙ value_at xs ts id node other h.1 (omega (arith, even)) e

-- a node is new just where its number is that of the last one
new_if : (b : Bool) (nodes : List NodeName) (node : NodeName) (id : ℕ) → slice_get (cond b nodes (nodes ++ node ∷ [])) id ≡ Some node → id ≡ length nodes → b ≡ false
new_if true nodes node id f e = absurd (omega (arith, slice_get_within nodes id node f, e))
new_if false nodes node id f e = refl

pub is_new : (nodes new : List NodeName) (node : NodeName) (id : ℕ) → new ≡ with_node nodes node → slice_get new id ≡ Some node → id ≡ length nodes → has_node nodes node ≡ false
is_new nodes new node id is f e = new_if (has_node nodes node) nodes node id (ap (λ (ns : List NodeName). slice_get ns id) (sym is) ∙ f) e

old_if : (b : Bool) (nodes : List NodeName) (node : NodeName) (id : ℕ) → has_node nodes node ≡ b → slice_get (cond b nodes (nodes ++ node ∷ [])) id ≡ Some node → id ≢ length nodes → b ≡ true
old_if true nodes node id h f e = refl
old_if false nodes node id h f e =
    elim (cases_lt id (length nodes)) as (λ _. false ≡ true) [
      | inl low ↦ sym h ∙ has_at nodes id node (sym (slice_get_front nodes (node ∷ []) id low) ∙ f)
      | inr high ↦ absurd (omega (arith, high, e, slice_get_within (nodes ++ node ∷ []) id node f, length-append nodes (node ∷ [])))
    ]

pub is_old : (nodes new : List NodeName) (node : NodeName) (id : ℕ) → new ≡ with_node nodes node → slice_get new id ≡ Some node → id ≢ length nodes → has_node nodes node ≡ true
is_old nodes new node id is f e = old_if (has_node nodes node) nodes node id refl (ap (λ (ns : List NodeName). slice_get ns id) (sym is) ∙ f) e

pub as_it_was : (nodes new : List NodeName) (node : NodeName) → new ≡ with_node nodes node → has_node nodes node ≡ true → new ≡ nodes
as_it_was nodes new node is e = is ∙ ap (λ (b : Bool). cond b nodes (nodes ++ node ∷ [])) e

pub one_more : (nodes new : List NodeName) (node : NodeName) → new ≡ with_node nodes node → has_node nodes node ≡ false → new ≡ nodes ++ node ∷ []
one_more nodes new node is e = is ∙ ap (λ (b : Bool). cond b nodes (nodes ++ node ∷ [])) e

pub still_apart : (nodes new : List NodeName) (node : NodeName) → new ≡ with_node nodes node → AreApart nodes → AreApart new
still_apart nodes new node is h = subst AreApart (sym is) (apart_if (has_node nodes node) nodes node refl h)

pub zip-last : {V : Type 0} → (nodes : List NodeName) (values : List V) (node : NodeName) (value : V) → length values ≡ length nodes → zip (nodes ++ node ∷ []) (values ++ value ∷ []) ≡ zip nodes values ++ (node, value) ∷ []
zip-last [] [] node value even = refl
zip-last [] (t ∷ ts) node value even = absurd (omega (arith, even))
zip-last (x ∷ xs) [] node value even = absurd (omega (arith, even))
zip-last (x ∷ xs) (t ∷ ts) node value even = ap (λ rows. (x, t) ∷ rows) (zip-last xs ts node value (omega (arith, even)))

take-front : {V : Type 0} → (xs ys : List V) (n : ℕ) → n ≡ length xs → take n (xs ++ ys) ≡ xs
take-front [] ys zero e = refl
take-front [] ys (suc n) e = absurd (omega (arith, e))
take-front (x ∷ xs) ys zero e = absurd (omega (arith, e))
take-front (x ∷ xs) ys (suc n) e = ap (λ zs. x ∷ zs) (take-front xs ys n (omega (arith, e)))

pub values_more : {V : Type 0} → (values : List V) (nodes : List NodeName) (value : V) (node : NodeName) → length values ≡ length nodes → length (values ++ value ∷ []) ≡ length (nodes ++ node ∷ [])
values_more values nodes value node even = omega (arith, even, length-append values (value ∷ []), length-append nodes (node ∷ []))

pub values_back : {V : Type 0} → (values more back : List V) (value : V) (count : ℕ) → more ≡ values ++ value ∷ [] → count ≡ length values → back ≡ take count more → back ≡ values
values_back values more back value count is at e = e ∙ ap (take count) is ∙ take-front values (value ∷ []) count at

-- whether a node is there, by its number
pub found_has : (o : Option ℕ) (nodes : List NodeName) (node : NodeName) → IfSome o (λ id. slice_get nodes id ≡ Some node) → IfNone o (has_node nodes node ≡ false) → is_some o ≡ has_node nodes node
found_has None nodes node found absent = sym absent
found_has (Some id) nodes node found absent = sym (has_at nodes id node found)

-- a row of a port has the port's value
pub port_is : {V : Type 0} → (rows : List (NodeName × V)) (port : List ℕ) → AreOfPorts rows → node_value rows (port_node port) ≡ port_value (by_ports rows) port
port_is [] port h = refl
port_is (row ∷ rows) port h =
    let leaf : row.0.leaf ≡ [] = h 0 row (omega arith) in
    let same : same_node (port_node port) row.0 ≡ bytes_eq port row.0.owner = ap (λ text. bytes_eq port row.0.owner && bytes_eq [] text) leaf ∙ and-true (bytes_eq port row.0.owner) in
    ap (λ (b : Bool). cond b (Some row.1) (node_value rows (port_node port))) same
    ∙ ap (λ rest. cond (bytes_eq port row.0.owner) (Some row.1) rest) (port_is rows port (λ k d low. h (suc k) d (omega (arith, low))))
