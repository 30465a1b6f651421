-- Lists of nodes that grow.
use Rattle.std.proofs.Common.{◌≡◌, ℕ, zero, suc, Bool, true, false, ◌||◌, ◌&&◌, cond, List, [], ◌∷◌, ◌++◌, refl, sym, ap, ◌∙◌, Some}
use Rattle.std.proofs.lemmas.Slice.Eq.{bytes_eq-Decides}
use Rattle.std.specs.List.{slice_get, list_any, fold}
use Rattle.std.specs.Str.{bytes_eq}
use Rattle.vg_scan.specs.declared.name.NodeName.{NodeName}
use Rattle.vg_scan.specs.Nodes.{same_node, has_node}
use Rattle.spef_nodes.specs.Members.{with_node, distinct, is_inner}
use Rattle.spef_nodes.specs.Members.{is_known}

both_true : (a b : Bool) → (a && b) ≡ true → (a ≡ true) × (b ≡ true)
both_true true b e = (refl, e)
both_true false b e = absurd (cc)

pub same_is : (a b : NodeName) → same_node a b ≡ true → a ≡ b
same_is a b e =
    let h = both_true (bytes_eq a.owner b.owner) (bytes_eq a.leaf b.leaf) e in
    let p : a.owner ≡ b.owner = (bytes_eq-Decides a.owner b.owner).0 h.0 in
    let q : a.leaf ≡ b.leaf = (bytes_eq-Decides a.leaf b.leaf).0 h.1 in
    λ i. record { owner = p i; leaf = q i }

or_false : (b : Bool) → (b || false) ≡ b
or_false true = refl
or_false false = refl

or_assoc : (a b c : Bool) → (a || (b || c)) ≡ ((a || b) || c)
or_assoc true b c = refl
or_assoc false b c = refl

pub any-last : {X : Type 0} (p : X → Bool) (xs : List X) (x : X) → list_any p (xs ++ x ∷ []) ≡ (list_any p xs || p x)
any-last p [] x = or_false (p x)
any-last p (y ∷ ys) x = ap (λ b. p y || b) (any-last p ys x) ∙ or_assoc (p y) (list_any p ys) (p x)

-- a place of a list stays
slice_get-more : {X : Type 0} (xs ys : List X) (i : ℕ) (x : X) → slice_get xs i ≡ Some x → slice_get (xs ++ ys) i ≡ Some x
slice_get-more [] ys i x e = absurd (cc)
slice_get-more (y ∷ xs) ys zero x e = e
slice_get-more (y ∷ xs) ys (suc i) x e = slice_get-more xs ys i x e

grown_if : (b : Bool) (nodes : List NodeName) (node : NodeName) (i : ℕ) (x : NodeName) → slice_get nodes i ≡ Some x → slice_get (cond b nodes (nodes ++ node ∷ [])) i ≡ Some x
grown_if true nodes node i x e = e
grown_if false nodes node i x e = slice_get-more nodes (node ∷ []) i x e

pub slice_get-with_node : (nodes : List NodeName) (node : NodeName) (i : ℕ) (x : NodeName) → slice_get nodes i ≡ Some x → slice_get (with_node nodes node) i ≡ Some x
slice_get-with_node nodes node i x e = grown_if (has_node nodes node) nodes node i x e

-- what is the net's own, where an own node is added
known_if : (nodes : List NodeName) (net : List ℕ) (node q : NodeName) (b : Bool) → same_node q node ≡ b → (same_node q node ≡ true → is_inner net q ≡ true)
    → ((has_node nodes q || b) || is_inner net q) ≡ is_known nodes net q
known_if nodes net node q true e h = rw (h e) (right_true (has_node nodes q || true) ∙ sym (right_true (has_node nodes q)))
  where
    right_true : (b : Bool) → (b || true) ≡ true
    right_true true = refl
    right_true false = refl
known_if nodes net node q false e h = ap (λ b. b || is_inner net q) (or_false (has_node nodes q))

known_last : (nodes : List NodeName) (net : List ℕ) (node q : NodeName) → is_inner net node ≡ true → is_known (nodes ++ node ∷ []) net q ≡ is_known nodes net q
known_last nodes net node q e =
    ap (λ b. b || is_inner net q) (any-last (same_node q) nodes node)
    ∙ known_if nodes net node q (same_node q node) refl (λ s. ap (is_inner net) (same_is q node s) ∙ e)

known_cond : (b : Bool) (nodes : List NodeName) (net : List ℕ) (node q : NodeName) → (b || is_inner net node) ≡ true → is_known (cond b nodes (nodes ++ node ∷ [])) net q ≡ is_known nodes net q
known_cond true nodes net node q e = refl
known_cond false nodes net node q e = known_last nodes net node q e

pub known-with_node : (nodes : List NodeName) (net : List ℕ) (node q : NodeName) → is_known nodes net node ≡ true → is_known (with_node nodes node) net q ≡ is_known nodes net q
known-with_node nodes net node q e = known_cond (has_node nodes node) nodes net node q e

-- the same of the connections, each once
own_or : (a b c : Bool) → ((a || b) || c) ≡ (a || (b || c))
own_or a b c = sym (or_assoc a b c)

has_if : (nodes : List NodeName) (node q : NodeName) (b : Bool) → has_node nodes node ≡ b → has_node (cond b nodes (nodes ++ node ∷ [])) q ≡ (has_node nodes q || same_node q node)
has_if nodes node q false e = any-last (same_node q) nodes node
has_if nodes node q true e = there (same_node q node) refl
  where
    there : (s : Bool) → same_node q node ≡ s → has_node nodes q ≡ (has_node nodes q || s)
    there false _ = sym (or_false (has_node nodes q))
    there true s = let h : has_node nodes q ≡ true = ap (has_node nodes) (same_is q node s) ∙ e in rw h refl

pub has-with_node : (nodes : List NodeName) (node q : NodeName) → has_node (with_node nodes node) q ≡ (has_node nodes q || same_node q node)
has-with_node nodes node q = has_if nodes node q (has_node nodes node) refl

has-fold : (xs nodes : List NodeName) (q : NodeName) → has_node (fold with_node nodes xs) q ≡ (has_node nodes q || has_node xs q)
has-fold [] nodes q = sym (or_false (has_node nodes q))
has-fold (x ∷ xs) nodes q =
    has-fold xs (with_node nodes x) q ∙ ap (λ b. b || has_node xs q) (has-with_node nodes x q) ∙ own_or (has_node nodes q) (same_node q x) (has_node xs q)

pub has-distinct : (xs : List NodeName) (q : NodeName) → has_node (distinct xs) q ≡ has_node xs q
has-distinct xs q = has-fold xs [] q
