-- How names are written.
use Rattle.std.proofs.Common.{◌≡◌, ℕ, ◌+◌, ◌<◌, ◌==◌, Bool, true, false, cond, List, [], ◌∷◌, ◌++◌, length, take, get_or, ◌||◌, refl, sym, ap, ◌∙◌, arith, append_assoc, eqb}
use Rattle.std.proofs.lemmas.List.{append-nil, take_more}
use Rattle.std.proofs.lemmas.Bool.Decides.{nat_tests}
use Rattle.vg_scan.specs.declared.name.NodeName.{NodeName}
use Rattle.vg_cert.specs.Names.{escaped, marks, leaf_text, node_text}

pub escaped_none : escaped [] ≡ []
unfolding escaped
escaped_none = refl

one : (b : ℕ) → escaped (b ∷ []) ≡ marks b
unfolding escaped
one b = append-nil (marks b)

pub escaped-last : (bs : List ℕ) (b : ℕ) → escaped (bs ++ b ∷ []) ≡ escaped bs ++ marks b
unfolding escaped
escaped-last [] b = one b
escaped-last (x ∷ bs) b = ap (λ l. marks x ++ l) (escaped-last bs b) ∙ sym (append_assoc (marks x) (escaped bs) (marks b))

-- a byte more is written
pub escaped-more : (name before old new : List ℕ) (i b : ℕ) → i < length name → b ≡ get_or name i 0 → old ≡ before ++ escaped (take i name) → new ≡ old ++ marks b
    → new ≡ before ++ escaped (take (i + 1) name)
escaped-more name before old new i b l is o n =
    n ∙ ap (λ x. x ++ marks b) o ∙ append_assoc before (escaped (take i name)) (marks b)
    ∙ sym (ap (λ x. before ++ escaped x) (take_more name i 0 l) ∙ ap (λ x. before ++ x) (escaped-last (take i name) (get_or name i 0)) ∙ ap (λ x. before ++ (escaped (take i name) ++ marks x)) (sym is))

leaf_some : (leaf : List ℕ) (b : Bool) → eqb (length leaf) 0 ≡ b → leaf_text leaf ≡ cond b [] (58 ∷ escaped leaf)
leaf_some leaf b e = ap (λ t. cond t [] (58 ∷ escaped leaf)) e

pub node_port : (node : NodeName) (old new : List ℕ) → eqb (length node.leaf) 0 ≡ true → new ≡ old ++ escaped node.owner → new ≡ old ++ node_text node
unfolding node_text
node_port node old new e n = n ∙ sym (ap (λ l. old ++ (escaped node.owner ++ l)) (leaf_some node.leaf true e) ∙ ap (λ l. old ++ l) (append-nil (escaped node.owner)))

pub node_inner : (node : NodeName) (old first two new : List ℕ) → eqb (length node.leaf) 0 ≡ false → first ≡ old ++ escaped node.owner → two ≡ first ++ 58 ∷ [] → new ≡ two ++ escaped node.leaf
    → new ≡ old ++ node_text node
unfolding node_text
node_inner node old first two new e o t n =
    n ∙ ap (λ l. l ++ escaped node.leaf) (t ∙ ap (λ l. l ++ 58 ∷ []) o)
    ∙ append_assoc (old ++ escaped node.owner) (58 ∷ []) (escaped node.leaf)
    ∙ append_assoc old (escaped node.owner) (58 ∷ escaped node.leaf)
    ∙ sym (ap (λ l. old ++ (escaped node.owner ++ l)) (leaf_some node.leaf false e))

-- what a text spells up to its first colon without a backslash, and what follows that colon; the flag says that a
-- backslash stands before the text
abbrev cut : Bool → List ℕ → List ℕ × List ℕ
cut marked [] = ([], [])
cut true (b ∷ bs) = (b ∷ (cut false bs).0, (cut false bs).1)
cut false (b ∷ bs) = cond (b == 92) (cut true bs) (cond (b == 58) ([], bs) (b ∷ (cut false bs).0, (cut false bs).1))

cut_byte : (b : ℕ) (rest : List ℕ) (colon slash : Bool) → (b == 58) ≡ colon → (b == 92) ≡ slash
    → cut false (cond (colon || slash) (92 ∷ b ∷ []) (b ∷ []) ++ rest) ≡ (b ∷ (cut false rest).0, (cut false rest).1)
cut_byte b rest true slash e f = refl
cut_byte b rest false true e f = refl
cut_byte b rest false false e f = rw f (rw e refl)

cut_escaped : (name rest : List ℕ) → cut false (escaped name ++ rest) ≡ (name ++ (cut false rest).0, (cut false rest).1)
unfolding escaped
cut_escaped [] rest = refl
cut_escaped (b ∷ bs) rest =
    ap (cut false) (append_assoc (marks b) (escaped bs) rest) ∙ cut_byte b (escaped bs ++ rest) (b == 58) (b == 92) refl refl
    ∙ ap (λ (x : List ℕ × List ℕ). (b ∷ x.0, x.1)) (cut_escaped bs rest)

leaf_cut : (leaf : List ℕ) (none : Bool) → eqb (length leaf) 0 ≡ none → ((cut false (leaf_text leaf)).0 ≡ []) × ((cut false (cut false (leaf_text leaf)).1).0 ≡ leaf)
leaf_cut [] none e = (refl, refl)
leaf_cut (b ∷ bs) true e = absurd (grind (arith, nat_tests))
leaf_cut (b ∷ bs) false e =
    let t : leaf_text (b ∷ bs) ≡ 58 ∷ escaped (b ∷ bs) = leaf_some (b ∷ bs) false e in
    let k : cut false (escaped (b ∷ bs)) ≡ ((b ∷ bs) ++ [], []) = ap (cut false) (sym (append-nil (escaped (b ∷ bs)))) ∙ cut_escaped (b ∷ bs) [] in
    (ap (λ l. (cut false l).0) t, ap (λ l. (cut false (cut false l).1).0) t ∙ ap (λ (x : List ℕ × List ℕ). x.0) k ∙ append-nil (b ∷ bs))

-- the node that a text spells
abbrev spelled : List ℕ → NodeName
spelled text = record { owner = (cut false text).0; leaf = (cut false (cut false text).1).0 }

spelled_text : (node : NodeName) → spelled (node_text node) ≡ node
unfolding node_text
spelled_text node =
    let k = cut_escaped node.owner (leaf_text node.leaf) in
    let l = leaf_cut node.leaf (eqb (length node.leaf) 0) refl in
    let owner : (cut false (escaped node.owner ++ leaf_text node.leaf)).0 ≡ node.owner
    = ap (λ (x : List ℕ × List ℕ). x.0) k ∙ ap (λ x. node.owner ++ x) l.0 ∙ append-nil node.owner in
    let leaf : (cut false (cut false (escaped node.owner ++ leaf_text node.leaf)).1).0 ≡ node.leaf
    = ap (λ (x : List ℕ × List ℕ). (cut false x.1).0) k ∙ l.1 in
    λ i. record { owner = owner i; leaf = leaf i }

-- no two nodes are written alike
pub one_text : (a b : NodeName) → node_text a ≡ node_text b → a ≡ b
one_text a b e = sym (spelled_text a) ∙ ap spelled e ∙ spelled_text b
