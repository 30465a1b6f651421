-- Lines have one answer: distinct nodes have one number each, so that numbered rows are determined.
use mathlib.Core.HLevel.{is_prop→PathP}
use Rattle.std.proofs.Props.{props}
use Rattle.spef_nodes.specs.Nodes.{ParNode}
use Rattle.spef_net.specs.Nets.{IsSound}
use Rattle.std.proofs.Common.{length, ◌≡◌, ℕ, List, [], ◌∷◌, ◌++◌, map, refl, sym, ap, ◌∙◌, Some}
use Rattle.std.specs.List.{flat_map}
use Rattle.vg_scan.specs.declared.name.NodeName.{NodeName}
use Rattle.spef_net.specs.declared.net.ConnKind.{ConnKind}
use Rattle.spef_net.specs.declared.net.Direction.{Direction}
use Rattle.spef_net.specs.declared.net.ParConn.{ParConn}
use Rattle.spef_net.specs.Rows.{connected_of, named_in}
use Rattle.vg_scan.proofs.FaultLemmas.{never_both, first_fault-unique}
use Rattle.spef_net.specs.Faults.{fault_at}
use Rattle.spef_net.specs.Denoted.{conn_at, cap_at, res_at, all_nodes}
use Rattle.spef_net.specs.Laws.{OneNet, OneFault, FaultOrNone}
use Rattle.spef_nodes.specs.Members.{AreApart}
use Rattle.spef_nodes.proofs.ApartLemmas.{one_number, apart_fold}

head_is : {A : Type 0} (x y : A) (xs ys : List A) → x ∷ xs ≡ y ∷ ys → x ≡ y
head_is x y xs ys e = cc

tail_is : {A : Type 0} (x y : A) (xs ys : List A) → x ∷ xs ≡ y ∷ ys → xs ≡ ys
tail_is x y xs ys e = cc

-- two lists whose items stand for the same rows are one where each item does
one_list : {R S D : Type 0} (f : R → D) (g : S → D) → ((a b : R) (s : S) → f a ≡ g s → f b ≡ g s → a ≡ b)
    → (xs ys : List R) (rows : List S) → map f xs ≡ map g rows → map f ys ≡ map g rows → xs ≡ ys
one_list f g one [] [] rows e h = refl
one_list f g one [] (y ∷ ys) [] e h = absurd (cc)
one_list f g one [] (y ∷ ys) (r ∷ rows) e h = absurd (cc)
one_list f g one (x ∷ xs) ys [] e h = absurd (cc)
one_list f g one (x ∷ xs) [] (r ∷ rows) e h = absurd (cc)
one_list f g one (x ∷ xs) (y ∷ ys) (r ∷ rows) e h =
    let p : x ≡ y = one x y r (head_is (f x) (g r) (map f xs) (map g rows) e) (head_is (f y) (g r) (map f ys) (map g rows) h) in
    let q : xs ≡ ys = one_list f g one xs ys rows (tail_is (f x) (g r) (map f xs) (map g rows) e) (tail_is (f y) (g r) (map f ys) (map g rows) h) in
    λ i. p i ∷ q i

one_conn : (nodes : List NodeName) → AreApart nodes → (a b : ParConn) (s : ConnKind × NodeName × Direction)
    → conn_at nodes a ≡ (s.0, Some s.1, s.2) → conn_at nodes b ≡ (s.0, Some s.1, s.2) → a ≡ b
one_conn nodes h a b s e f =
    let k : a.kind ≡ b.kind = ap (λ t. t.0) e ∙ sym (ap (λ t. t.0) f) in
    let n : a.node ≡ b.node = one_number nodes a.node b.node s.1 h (ap (λ t. t.1) e) (ap (λ t. t.1) f) in
    let d : a.direction ≡ b.direction = ap (λ t. t.2) e ∙ sym (ap (λ t. t.2) f) in
    λ i. record { kind = k i; node = n i; direction = d i }

one_cap : (nodes : List NodeName) → AreApart nodes → (a b : ℕ × ℕ) (s : NodeName × ℕ) → cap_at nodes a ≡ (Some s.0, s.1) → cap_at nodes b ≡ (Some s.0, s.1) → a ≡ b
one_cap nodes h a b s e f =
    let n : a.0 ≡ b.0 = one_number nodes a.0 b.0 s.0 h (ap (λ t. t.0) e) (ap (λ t. t.0) f) in
    let v : a.1 ≡ b.1 = ap (λ t. t.1) e ∙ sym (ap (λ t. t.1) f) in
    λ i. (n i, v i)

one_res : (nodes : List NodeName) → AreApart nodes → (a b : ℕ × ℕ × ℕ) (s : NodeName × NodeName × ℕ)
    → res_at nodes a ≡ (Some s.0, Some s.1, s.2) → res_at nodes b ≡ (Some s.0, Some s.1, s.2) → a ≡ b
one_res nodes h a b s e f =
    let m : a.0 ≡ b.0 = one_number nodes a.0 b.0 s.0 h (ap (λ t. t.0) e) (ap (λ t. t.0) f) in
    let n : a.1 ≡ b.1 = one_number nodes a.1 b.1 s.1 h (ap (λ t. t.1) e) (ap (λ t. t.1) f) in
    let v : a.2 ≡ b.2 = ap (λ t. t.2) e ∙ sym (ap (λ t. t.2) f) in
    λ i. (m i, n i, v i)

-- a net is sound in one way
sound_once : (name : List ℕ) (nodes : List ParNode) (conns : List ParConn) (caps : List (ℕ × ℕ)) (ress : List (ℕ × ℕ × ℕ)) → IsProp (IsSound name nodes conns caps ress)
sound_once name nodes conns caps ress = hlevel props

pub one_net : OneNet
one_net name reduced lines net other a b =
    let nodes = all_nodes name lines in
    let h : AreApart nodes = apart_fold (connected_of lines ++ flat_map (named_in (connected_of lines) name) lines) [] tt in
    let p : net.name ≡ other.name = a.named ∙ sym b.named in
    let q : net.nodes ≡ other.nodes = a.nodes ∙ sym b.nodes in
    let c : net.conns ≡ other.conns = one_list (conn_at nodes) _ (one_conn nodes h) net.conns other.conns _ a.conns b.conns in
    let k : net.caps ≡ other.caps = one_list (cap_at nodes) _ (one_cap nodes h) net.caps other.caps _ a.caps b.caps in
    let r : net.ress ≡ other.ress = one_list (res_at nodes) _ (one_res nodes h) net.ress other.ress _ a.ress b.ress in
    let u : net.reduced ≡ other.reduced = a.is_reduced ∙ sym b.is_reduced in
    let l : net.inductive ≡ other.inductive = a.is_inductive ∙ sym b.is_inductive in
    λ i. record {
      name = p i;
      nodes = q i;
      conns = c i;
      caps = k i;
      ress = r i;
      reduced = u i;
      inductive = l i;
      sound = is_prop→PathP (λ j. IsSound (p j) (q j) (c j) (k j) (r j)) (λ j. sound_once (p j) (q j) (c j) (k j) (r j)) net.sound other.sound i;
    }

pub fault_or_none : FaultOrNone
fault_or_none name lines first fault clear found = never_both (fault_at name lines) (length lines) first fault clear found

pub one_fault : OneFault
one_fault name lines first fault other a b = first_fault-unique (fault_at name lines) (length lines) first fault other a b
