-- A net has at most one segmented net.
use mathlib.Core.HLevel.{is_prop→PathP}
use Rattle.std.proofs.Props.{props}
use Rattle.std.proofs.Common.{◌≡◌, ℕ, zero, suc, ◌<◌, ◌++◌, List, [], ◌∷◌, length, map, refl, sym, ap, ◌∙◌, subst, arith, inl, inr}
use Rattle.std.specs.List.{All, AllPairs, Contains}
use Rattle.std.proofs.lemmas.Bool.{cases_lt, cases_eq}
use Rattle.spef_nodes.specs.Nodes.{ParNode}
use Rattle.spef_net.specs.Nets.{IsSound}
use Rattle.spef_net.specs.declared.net.ParConn.{ParConn}
use Rattle.spef_net.specs.declared.net.ParNet.{ParNet}
use Rattle.vg_segment.specs.Segments.{new_node, IsFree, AreLeastFree, OneSegmented}
use Rattle.vg_segment.proofs.OrderLemmas.{one_order}

-- the least numbers above one that P holds of, in order
record AreLeast (P : ℕ → Type 0) (low : ℕ) (xs : List ℕ) : Type 0 where
  rise : AllPairs (λ a b. a < b) xs
  hold : All (λ x. (low < x) × P x) xs
  least : (x : ℕ) → low < x → P x → (last : ℕ) → Contains xs last → x < last → Contains xs x

not_there : (x y : ℕ) (ys : List ℕ) → AllPairs (λ a b. a < b) (y ∷ ys) → x < y → Contains (y ∷ ys) x → ⊥
not_there x y ys h l (zero, m, e) = omega (arith, e, l)
not_there x y ys h l (suc k, m, e) = let up = h 0 (suc k) x (omega arith) m in omega (arith, up, e, l)

in_tail : (x y : ℕ) (xs : List ℕ) → x < y → Contains (x ∷ xs) y → Contains xs y
in_tail x y xs l (zero, m, e) = absurd (omega (arith, e, l))
in_tail x y xs l (suc k, m, e) = (k, omega arith, e)

in_whole : (x y : ℕ) (xs : List ℕ) → Contains xs y → Contains (x ∷ xs) y
in_whole x y xs (k, m, e) = (suc k, omega arith, e)

tail_least : (P : ℕ → Type 0) (low x : ℕ) (xs : List ℕ) → AreLeast P low (x ∷ xs) → AreLeast P x xs
tail_least P low x xs h = record {
  rise = λ i j d l m. h.rise (suc i) (suc j) d (omega arith) (omega arith);
  hold = λ k d l. (h.rise 0 (suc k) d (omega arith) (omega arith), (h.hold (suc k) d (omega arith)).1);
  least = λ y l p last there m.
      let first : low < x = (h.hold 0 x (omega arith)).0 in
      in_tail x y xs l (h.least y (omega (arith, first, l)) p last (in_whole x last xs there) m);
}

-- a lower head would be in the other list
no_lower : (P : ℕ → Type 0) (low x y : ℕ) (xs ys : List ℕ) → AreLeast P low (x ∷ xs) → AreLeast P low (y ∷ ys) → x < y → ⊥
no_lower P low x y xs ys a b l =
    let h = a.hold 0 x (omega arith) in
    not_there x y ys b.rise l (b.least x h.0 h.1 y (0, omega arith, refl) l)

one_least : (P : ℕ → Type 0) (low : ℕ) (xs ys : List ℕ) → AreLeast P low xs → AreLeast P low ys → length xs ≡ length ys → xs ≡ ys
one_least P low [] [] a b e = refl
one_least P low [] (y ∷ ys) a b e = absurd (omega (arith, e))
one_least P low (x ∷ xs) [] a b e = absurd (omega (arith, e))
one_least P low (x ∷ xs) (y ∷ ys) a b e =
    let p : x ≡ y = elim (cases_eq x y) as (λ _. x ≡ y) [
      | inl same ↦ same
      | inr differ ↦ elim (cases_lt x y) as (λ _. x ≡ y) [
        | inl less ↦ absurd (no_lower P low x y xs ys a b less)
        | inr more ↦ absurd (no_lower P low y x ys xs b a (omega (arith, more, differ)))
      ]
    ] in
    let q : xs ≡ ys = one_least P x xs ys (tail_least P low x xs a) (subst (λ n. AreLeast P n ys) (sym p) (tail_least P low y ys b)) (omega (arith, e)) in
    λ i. p i ∷ q i

least_of : (net : ParNet) (leaves : List ℕ) → AreLeastFree net leaves → AreLeast (IsFree net) 0 leaves
least_of net leaves h = record { rise = h.rise; hold = h.free; least = h.least }

sound_once : (name : List ℕ) (nodes : List ParNode) (conns : List ParConn) (caps : List (ℕ × ℕ)) (ress : List (ℕ × ℕ × ℕ)) → IsProp (IsSound name nodes conns caps ress)
sound_once name nodes conns caps ress = hlevel props

pub one_segmented : OneSegmented
one_segmented net parts cut other a b =
    let s : a.leaves ≡ b.leaves = one_least (IsFree net) 0 a.leaves b.leaves (least_of net a.leaves a.free) (least_of net b.leaves b.free) (a.count ∙ sym b.count) in
    let p : cut.name ≡ other.name = a.named ∙ sym b.named in
    let q : cut.nodes ≡ other.nodes = a.nodes ∙ ap (λ leaves. net.nodes ++ map (new_node net.name) leaves) s ∙ sym b.nodes in
    let c : cut.conns ≡ other.conns = a.conns ∙ sym b.conns in
    let k : cut.caps ≡ other.caps = one_order cut.caps other.caps a.caps.rise b.caps.rise (λ n. a.caps.same n ∙ sym (b.caps.same n)) in
    let r : cut.ress ≡ other.ress = a.ress ∙ sym b.ress in
    let u : cut.reduced ≡ other.reduced = a.whole ∙ sym b.whole in
    let l : cut.inductive ≡ other.inductive = a.plain ∙ sym b.plain in
    λ i. record {
      name = p i;
      nodes = q i;
      conns = c i;
      caps = k i;
      ress = r i;
      reduced = u i;
      inductive = l i;
      sound = is_prop→PathP (λ j. IsSound (p j) (q j) (c j) (k j) (r j)) (λ j. sound_once (p j) (q j) (c j) (k j) (r j)) cut.sound other.sound i;
    }
