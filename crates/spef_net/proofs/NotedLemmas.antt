-- What is noted of nodes, one line later.
use Rattle.std.proofs.Common.{◌≡◌, ◌≢◌, ℕ, ◌+◌, Bool, true, false, ◌||◌, cond, eqb, List, [], ◌∷◌, ◌++◌, length, refl, sym, ap, ◌∙◌, subst, arith, Option, Some, None, is_some, length-append, inl, inr}
use Rattle.std.proofs.lemmas.List.{append-nil}
use Rattle.std.proofs.lemmas.Bool.{cases_lt}
use Rattle.std.proofs.lemmas.Bool.Decides.{nat_tests}
use Rattle.std.proofs.lemmas.Option.{slice_get_within}
use Rattle.std.specs.List.{slice_get}
use Rattle.std.specs.Option.{option_or}
use Rattle.vg_scan.specs.declared.name.NodeName.{NodeName}
use Rattle.vg_scan.specs.Nodes.{same_node, has_node, node_value}
use Rattle.spef_nodes.specs.Members.{with_node}
use Rattle.spef_nodes.specs.Nodes.{Note, fresh, joined, starred, note_at, is_joined, is_starred}
use Rattle.spef_net.specs.Builders.{note_from, noted_by, AreNoted}
use Rattle.spef_nodes.proofs.NodeListLemmas.{same_is, has-with_node}
use Rattle.spef_net.proofs.RowListLemmas.{value-last, value-again}
use Rattle.spef_nodes.proofs.NodeTableLemmas.{slice_get_front, slice_get_last}
use Rattle.spef_nodes.proofs.ApartLemmas.{one_number, has_at}
use Rattle.spef_nodes.specs.Members.{AreApart}

-- notes by what there is
pub both_none : (j s : Option (List ℕ)) → is_joined (note_from j s) ≡ false → is_starred (note_from j s) ≡ false → (j ≡ None) × (s ≡ None)
both_none None None e f = (refl, refl)
both_none None (Some t) e f = absurd (cc)
both_none (Some t) s e f = absurd (cc)

pub none_from : (j s : Option (List ℕ)) → note_from j s ≡ fresh → (j ≡ None) × (s ≡ None)
none_from j s e = both_none j s (ap is_joined e) (ap is_starred e)

pub again_is : (j s : Option (List ℕ)) → (is_joined (note_from j s) || is_starred (note_from j s)) ≡ (is_some j || is_some s)
again_is None None = refl
again_is None (Some t) = refl
again_is (Some t) s = refl

pub joined_is : (j s : Option (List ℕ)) → is_joined (note_from j s) ≡ is_some j
joined_is None None = refl
joined_is None (Some t) = refl
joined_is (Some t) s = refl

pub starred_is : (j s : Option (List ℕ)) → is_starred (note_from j s) ≡ true → is_some s ≡ true
starred_is None None e = e
starred_is None (Some t) e = refl
starred_is (Some t) s e = absurd (cc)

pub fresh_is : (j s : Option (List ℕ)) → is_joined (note_from j s) ≡ false → is_starred (note_from j s) ≡ false → note_from j s ≡ fresh
fresh_is None None e f = refl
fresh_is None (Some t) e f = absurd (cc)
fresh_is (Some t) s e f = absurd (cc)

pub noted_kept : (nodes : List NodeName) (notes : List Note) (js ss : List (NodeName × List ℕ)) → AreNoted nodes notes js ss → AreNoted nodes notes (js ++ []) (ss ++ [])
noted_kept nodes notes js ss h = subst (λ rows. AreNoted nodes notes rows (ss ++ [])) (sym (append-nil js)) (subst (λ rows. AreNoted nodes notes js rows) (sym (append-nil ss)) h)

some_is : {A : Type 0} (a b : A) → Some a ≡ Some b → a ≡ b
some_is a b e = cc

or_first : (a b : Bool) → (a || b) ≡ false → (a ≡ false) × (b ≡ false)
or_first true b e = absurd (cc)
or_first false b e = (refl, e)

grow_if : (b : Bool) (nodes : List NodeName) (node : NodeName) (notes : List Note) (js ss : List (NodeName × List ℕ)) → has_node nodes node ≡ b → AreNoted nodes notes js ss → AreNoted (cond b nodes (nodes ++ node ∷ [])) notes js ss
grow_if true nodes node notes js ss e h = h
grow_if false nodes node notes js ss e h =
    let count : length (nodes ++ node ∷ []) ≡ length nodes + 1 = length-append nodes (node ∷ []) in
    record {
      here = λ i q at.
          elim (cases_lt i (length nodes)) as (λ _. note_at notes i ≡ noted_by js ss q) [
            | inl low ↦ h.here i q (sym (slice_get_front nodes (node ∷ []) i low) ∙ at)
            | inr high ↦
                let w = slice_get_within (nodes ++ node ∷ []) i q at in
                let l : i ≡ length nodes = omega (arith, w, count) in
                let q_is : node ≡ q = some_is node q (sym (slice_get_last nodes node i l) ∙ at) in
                h.beyond i high ∙ sym (h.others node e) ∙ ap (noted_by js ss) q_is
          ];
      beyond = λ i low. h.beyond i (omega (arith, count));
      others = λ q f. h.others q (or_first (has_node nodes q) (same_node q node) (sym (has-with_node nodes node q) ∙ ap (λ b. has_node (cond b nodes (nodes ++ node ∷ [])) q) e ∙ f)).0;
    }

pub noted_grow : (nodes : List NodeName) (node : NodeName) (notes : List Note) (js ss : List (NodeName × List ℕ)) → AreNoted nodes notes js ss → AreNoted (with_node nodes node) notes js ss
noted_grow nodes node notes js ss h = grow_if (has_node nodes node) nodes node notes js ss refl h

eqb_is : (i j : ℕ) → eqb i j ≡ true → i ≡ j
eqb_is i j e = grind (arith, nat_tests)

eqb_not : (i j : ℕ) → i ≢ j → eqb i j ≡ false
eqb_not i j h = by_test (eqb i j) refl
  where
    by_test : (b : Bool) → eqb i j ≡ b → b ≡ false
    by_test false e = refl
    by_test true e = absurd (h (eqb_is i j e))

-- another node is noted as before, and this one anew
put : (nodes : List NodeName) (notes new : List Note) (js ss ks ts : List (NodeName × List ℕ)) (node : NodeName) (note : Note) (id : ℕ) → AreNoted nodes notes js ss → AreApart nodes → slice_get nodes id ≡ Some node
    → ((i : ℕ) → note_at new i ≡ cond (eqb i id) note (note_at notes i)) → noted_by ks ts node ≡ note → ((q : NodeName) → same_node node q ≡ false → noted_by ks ts q ≡ noted_by js ss q) → AreNoted nodes new ks ts
put nodes notes new js ss ks ts node note id h apart at is this other = record {
  here = λ i q there. by_place i q there (eqb i id) refl;
  beyond = λ i low. is i ∙ ap (λ b. cond b note (note_at notes i)) (eqb_not i id (λ e. let w = slice_get_within nodes id node at in let x : ⊥ = omega arith in x)) ∙ h.beyond i low;
  others = λ q f. other q (apart_from q f (same_node node q) refl) ∙ h.others q f;
}
  where
    apart_from : (q : NodeName) → has_node nodes q ≡ false → (b : Bool) → same_node node q ≡ b → b ≡ false
    apart_from q f false e = refl
    apart_from q f true e = absurd (let s : node ≡ q = same_is node q e in let k : has_node nodes q ≡ true = ap (has_node nodes) (sym s) ∙ has_at nodes id node at in let x : true ≡ false = sym k ∙ f in cc)

    differs : (i : ℕ) (q : NodeName) → slice_get nodes i ≡ Some q → eqb i id ≡ false → (b : Bool) → same_node node q ≡ b → b ≡ false
    differs i q there e false f = refl
    differs i q there e true f = absurd (let s : node ≡ q = same_is node q f in let k : i ≡ id = one_number nodes i id node apart (there ∙ ap Some (sym s)) at in let x : true ≡ false = sym (ap (λ j. eqb j id) k ∙ same_number id) ∙ e in cc)
      where
        same_number : (n : ℕ) → eqb n n ≡ true
        same_number n = grind (arith, nat_tests)

    by_place : (i : ℕ) (q : NodeName) → slice_get nodes i ≡ Some q → (b : Bool) → eqb i id ≡ b → note_at new i ≡ noted_by ks ts q
    by_place i q there true e =
        is i ∙ ap (λ b. cond b note (note_at notes i)) e ∙ sym this
        ∙ ap (noted_by ks ts) (some_is node q (sym at ∙ ap (slice_get nodes) (sym (eqb_is i id e)) ∙ there))
    by_place i q there false e =
        is i ∙ ap (λ b. cond b note (note_at notes i)) e ∙ h.here i q there ∙ sym (other q (differs i q there e (same_node node q) refl))

flip : (a b : NodeName) → same_node a b ≡ false → same_node b a ≡ false
flip a b e = by_test (same_node b a) refl
  where
    by_test : (t : Bool) → same_node b a ≡ t → t ≡ false
    by_test false f = refl
    by_test true f = absurd (let s : b ≡ a = same_is b a f in let k : same_node b a ≡ same_node a b = λ i. same_node (s i) (sym s i) in let x : true ≡ false = sym f ∙ k ∙ e in cc)

or_none : {A : Type 0} (o : Option A) → option_or o None ≡ o
or_none None = refl
or_none (Some x) = refl

-- the value of another node, and of this one
value_other : (rows : List (NodeName × List ℕ)) (node q : NodeName) (v : List ℕ) → same_node node q ≡ false → node_value (rows ++ (node, v) ∷ []) q ≡ node_value rows q
value_other rows node q v e = value-last rows node q v ∙ ap (λ b. option_or (node_value rows q) (cond b (Some v) None)) (flip node q e) ∙ or_none (node_value rows q)

value_this : (rows : List (NodeName × List ℕ)) (node : NodeName) (v : List ℕ) → same_node node node ≡ true → node_value rows node ≡ None → node_value (rows ++ (node, v) ∷ []) node ≡ Some v
value_this rows node v r e = value-last rows node node v ∙ ap (λ b. option_or (node_value rows node) (cond b (Some v) None)) r ∙ ap (λ o. option_or o (Some v)) e

pub noted_conn : (nodes : List NodeName) (notes new : List Note) (js ss : List (NodeName × List ℕ)) (node : NodeName) (note : List ℕ) (id : ℕ) → AreNoted nodes notes js ss → AreApart nodes → slice_get nodes id ≡ Some node
    → noted_by js ss node ≡ fresh → ((i : ℕ) → note_at new i ≡ cond (eqb i id) (joined note) (note_at notes i)) → AreNoted nodes new (js ++ (node, note) ∷ []) ss
noted_conn nodes notes new js ss node note id h apart at none is =
    let n = none_from (node_value js node) (node_value ss node) none in
    put nodes notes new js ss (js ++ (node, note) ∷ []) ss node (joined note) id h apart at is
    (ap (λ o. note_from o (node_value ss node)) (value_this js node note (Rattle.spef_nodes.proofs.NodeTableLemmas.same_refl node) n.0))
    (λ q e. ap (λ o. note_from o (node_value ss q)) (value_other js node q note e))

pub noted_star : (nodes : List NodeName) (notes new : List Note) (js ss : List (NodeName × List ℕ)) (node : NodeName) (note : List ℕ) (id : ℕ) → AreNoted nodes notes js ss → AreApart nodes → slice_get nodes id ≡ Some node
    → noted_by js ss node ≡ fresh → ((i : ℕ) → note_at new i ≡ cond (eqb i id) (starred note) (note_at notes i)) → AreNoted nodes new js (ss ++ (node, note) ∷ [])
noted_star nodes notes new js ss node note id h apart at none is =
    let n = none_from (node_value js node) (node_value ss node) none in
    put nodes notes new js ss js (ss ++ (node, note) ∷ []) node (starred note) id h apart at is
    (ap (λ o. note_from o (node_value (ss ++ (node, note) ∷ []) node)) n.0 ∙ ap (note_from None) (value_this ss node note (Rattle.spef_nodes.proofs.NodeTableLemmas.same_refl node) n.1))
    (λ q e. ap (note_from (node_value js q)) (value_other ss node q note e))

pub noted_again : (nodes : List NodeName) (notes : List Note) (js ss : List (NodeName × List ℕ)) (node : NodeName) (note : List ℕ) → AreNoted nodes notes js ss → is_starred (noted_by js ss node) ≡ true → AreNoted nodes notes js (ss ++ (node, note) ∷ [])
noted_again nodes notes js ss node note h there =
    let same : (q : NodeName) → noted_by js (ss ++ (node, note) ∷ []) q ≡ noted_by js ss q = λ q. ap (note_from (node_value js q)) (value-again ss node q note (starred_is (node_value js node) (node_value ss node) there)) in
    record {
      here = λ i q at. h.here i q at ∙ sym (same q);
      beyond = h.beyond;
      others = λ q f. same q ∙ h.others q f;
    }
