-- The nets into which cells are put, of those of which something is said.
use Rattle.std.proofs.Common.{◌≡◌, ◌≢◌, ℕ, zero, suc, ◌+◌, ◌==◌, Bool, true, false, List, [], ◌∷◌, ◌++◌, refl, sym, ap, ◌∙◌, subst, arith, Option, Some, All}
use Rattle.std.specs.Prelude.{if◌then◌else◌}
use Rattle.std.specs.List.{AllPairs, AllZip, Contains, flat_map, slice_get}
use Rattle.std.proofs.lemmas.List.{get_or_default}
use Rattle.std.proofs.lemmas.List.Elements.{All-append, All-cons, All-nil, All-weaker}
use Rattle.std.proofs.lemmas.Option.{same_Some}
use Rattle.elmore.specs.Best.{IsGood}
use Rattle.vg_change.specs.Changes.{Changes, HavePut, IsChange, nothing}
use Rattle.vg_change.specs.Placed.{PlacedNet}
use Rattle.vg_change.specs.Steps.{placed_net}
use Rattle.vg_change.proofs.PairLemmas.{of_all, pairs_both}
use Rattle.change_spef_laws.specs.Nets.{IsPlacedNet}
use Rattle.change_spef_laws.proofs.KeepsLemmas.{IsUnderWay, keeps_put, way_later, way_put}
use Rattle.change_spef_laws.proofs.OrderLemmas.{open_nothing, same_name}
use Rattle.vg_design.specs.Designs.{Design, net_names}
use Rattle.vg_design.specs.Nets.{IsPosedNet}
use Rattle.vg_design.specs.Refusals.{IsJoined}
use Rattle.vg_design.specs.declared.net_problem.PosedNet.{PosedNet}
use Rattle.spef_patch_laws.proofs.ApartLemmas.{contains_in, in_contains, in_left, in_right}
use Rattle.vg_report.specs.Reports.{cell_count}
use Rattle.vg_answer.specs.Verdicts.{Verdict, put_in}
use Rattle.vg_place.specs.Placings.{IsPutSaid}
use Rattle.vg_place.proofs.CellLemmas.{good_is_placed}
use Rattle.vg_place.proofs.PutLemmas.{put_stays}

abbrev Differ : PlacedNet → PlacedNet → Type 0
Differ p q = p.net.id ≢ q.net.id

-- ---- what is put for one net

-- the net of this name with cells, where there are any
pub record IsPutFor (d : Design) (name : List ℕ) (p : PlacedNet) : Type 0 where
  pub joined : IsJoined d name p.net
  pub placed : IsPlacedNet d p

-- nothing is put, or one net
pub data Puts (d : Design) (name : List ℕ) (nets : List PlacedNet) : Type 0 where
  puts_none : nets ≡ [] → Puts d name nets
  puts_one : (net : PosedNet) → IsPosedNet d name net → (cells : List (Option ℕ)) → IsGood net.problem cells → nets ≡ placed_net net cells ∷ []
      → Puts d name nets

put_for : (d : Design) (name : List ℕ) (net : PosedNet) (cells : List (Option ℕ)) → IsPosedNet d name net → IsGood net.problem cells
    → IsPutFor d name (placed_net net cells)
put_for d name net cells of good = record {
  joined = of.joined;
  placed = record { name = name; posed = net; net = of; placement = good.placement; placed = good_is_placed net.problem cells good; is = refl };
}

by_count : (d : Design) (name : List ℕ) (net : PosedNet) (cells : List (Option ℕ)) (b : Bool) → IsPosedNet d name net → IsGood net.problem cells
    → Puts d name (if b then [] else placed_net net cells ∷ [])
by_count d name net cells true of good = Puts.puts_none refl
by_count d name net cells false of good = Puts.puts_one net of cells good refl

pub puts_of : (d : Design) (name : List ℕ) (v : Verdict) → IsPutSaid d name v → Puts d name v.put
puts_of d name v (IsPutSaid.puts_cells net of cells good is) = subst (Puts d name) (sym is) (by_count d name net cells (cell_count cells == 0) of good)
puts_of d name v (IsPutSaid.puts_nothing none) = Puts.puts_none none

-- so of all nets, whatever else is said of them
pub each_puts : (d : Design) (Says : List ℕ → Verdict → Type 0) → ((name : List ℕ) (v : Verdict) → Says name v → IsPutSaid d name v) → (names : List (List ℕ)) (vs : List Verdict)
    → AllZip Says names vs → AllZip (IsPutSaid d) names vs
each_puts d Says puts [] [] each = tt
each_puts d Says puts [] (v ∷ vs) each = absurd each
each_puts d Says puts (n ∷ names) [] each = absurd each
each_puts d Says puts (n ∷ names) (v ∷ vs) each = (puts n v each.0, each_puts d Says puts names vs each.1)

one_of : {A : Type 0} (P : A → Type 0) (x : A) → P x → All P (x ∷ [])
one_of P x is = All-cons P x [] is (All-nil P)

all_put : (d : Design) (name : List ℕ) (nets : List PlacedNet) → Puts d name nets → All (IsPutFor d name) nets
all_put d name nets (Puts.puts_none e) = subst (All (IsPutFor d name)) (sym e) (All-nil (IsPutFor d name))
all_put d name nets (Puts.puts_one net of cells good e) =
    subst (All (IsPutFor d name)) (sym e) (one_of (IsPutFor d name) (placed_net net cells) (put_for d name net cells of good))

pairs_put : (d : Design) (name : List ℕ) (nets : List PlacedNet) → Puts d name nets → AllPairs Differ nets
pairs_put d name nets (Puts.puts_none e) = subst (AllPairs Differ) (sym e) (λ i j x less low. absurd (omega (arith, low)))
pairs_put d name nets (Puts.puts_one net of cells good e) =
    subst (AllPairs Differ) (sym e) (λ i j x less low. absurd (omega (arith, less, low)))

-- ---- of all nets

-- where a net with cells comes from
pub record IsPutAt (d : Design) (names : List (List ℕ)) (vs : List Verdict) (p : PlacedNet) : Type 0 where
  pub place : ℕ
  pub name : List ℕ
  pub named : slice_get names place ≡ Some name
  pub verdict : Verdict
  pub told : slice_get vs place ≡ Some verdict
  pub there : Contains verdict.put p
  pub is : IsPutFor d name p

later_put : (d : Design) (n : List ℕ) (names : List (List ℕ)) (v : Verdict) (vs : List Verdict) (p : PlacedNet) → IsPutAt d names vs p → IsPutAt d (n ∷ names) (v ∷ vs) p
later_put d n names v vs p at = record {
  place = suc at.place;
  name = at.name;
  named = at.named;
  verdict = at.verdict;
  told = at.told;
  there = at.there;
  is = at.is;
}

with_place : {A : Type 0} (P : A → Type 0) (xs : List A) → All P xs → All (λ x. Contains xs x × P x) xs
with_place P xs all i d low = ((i, low, get_or_default xs i _ d low), all i d low)

pub put_at : (d : Design) (names : List (List ℕ)) (vs : List Verdict) → AllZip (IsPutSaid d) names vs → All (IsPutAt d names vs) (flat_map put_in vs)
put_at d [] [] each = All-nil (IsPutAt d [] [])
put_at d [] (v ∷ vs) each = absurd each
put_at d (n ∷ names) [] each = absurd each
put_at d (n ∷ names) (v ∷ vs) each =
    All-append (IsPutAt d (n ∷ names) (v ∷ vs)) v.put (flat_map put_in vs)
    (All-weaker (λ p. Contains v.put p × IsPutFor d n p) (IsPutAt d (n ∷ names) (v ∷ vs))
    (λ p is. record { place = 0; name = n; named = refl; verdict = v; told = refl; there = is.0; is = is.1 }) v.put
    (with_place (IsPutFor d n) v.put (all_put d n v.put (puts_of d n v each.0))))
    (All-weaker (IsPutAt d names vs) (IsPutAt d (n ∷ names) (v ∷ vs)) (later_put d n names v vs) (flat_map put_in vs) (put_at d names vs each.1))

pub put_are_placed : (d : Design) (names : List (List ℕ)) (vs : List Verdict) → AllZip (IsPutSaid d) names vs → All (IsPlacedNet d) (flat_map put_in vs)
put_are_placed d names vs each = All-weaker (IsPutAt d names vs) (IsPlacedNet d) (λ p at. at.is.placed) (flat_map put_in vs) (put_at d names vs each)

-- each name has one place
abbrev pub HaveOnePlace : List (List ℕ) → Type 0
HaveOnePlace names = (j k : ℕ) (name : List ℕ) → slice_get names j ≡ Some name → slice_get names k ≡ Some name → j ≡ k

pub put_differ : (d : Design) (names : List (List ℕ)) (vs : List Verdict) → HaveOnePlace names → AllZip (IsPutSaid d) names vs → AllPairs Differ (flat_map put_in vs)
put_differ d [] [] once each = λ i j x less low. absurd (omega (arith, low))
put_differ d [] (v ∷ vs) once each = absurd each
put_differ d (n ∷ names) [] once each = absurd each
put_differ d (n ∷ names) (v ∷ vs) once each =
    pairs_both Differ v.put (flat_map put_in vs) (pairs_put d n v.put (puts_of d n v each.0))
    (put_differ d names vs (λ j k name e f. (let s : suc j ≡ suc k = once (suc j) (suc k) name e f in omega (arith, s))) each.1)
    (λ p there. All-weaker (IsPutAt d names vs) (Differ p)
    (λ q at same. (
    let first = of_all (IsPutFor d n) v.put p (all_put d n v.put (puts_of d n v each.0)) there in
    let names_same : n ≡ at.name = same_name d n at.name p.net q.net first.joined at.is.joined same in
    let places : 0 ≡ suc at.place = once 0 (suc at.place) n refl (at.named ∙ ap Some (sym names_same)) in
    omega (arith, places))) (flat_map put_in vs) (put_at d names vs each.1))

pub in_puts : (vs : List Verdict) (k : ℕ) (v : Verdict) (p : PlacedNet) → slice_get vs k ≡ Some v → Contains v.put p → Contains (flat_map put_in vs) p
in_puts [] k v p e there = absurd cc
in_puts (u ∷ vs) zero v p e there =
    in_contains p (u.put ++ flat_map put_in vs) (in_left p u.put (flat_map put_in vs) (contains_in p u.put (subst (λ (w : Verdict). Contains w.put p) (sym (same_Some u v e)) there)))
in_puts (u ∷ vs) (suc k) v p e there =
    in_contains p (u.put ++ flat_map put_in vs) (in_right p u.put (flat_map put_in vs) (contains_in p (flat_map put_in vs) (in_puts vs k v p e there)))

-- ---- what a change keeps

pub put_apart : (a c : Changes) (xs ys : List PlacedNet) → HavePut a (xs ++ ys) c → (b : Changes) × HavePut a xs b × HavePut b ys c
put_apart a c [] ys put = (a, refl, put)
put_apart a c (x ∷ xs) ys (mid, one, more) = (let (b, first, second) = put_apart mid c xs ys more in (b, (mid, one, first), second))

module _ (d : Design) where
  step : (c new : Changes) (at : ℕ) (name : List ℕ) (nets : List PlacedNet) → c.design ≡ d → IsUnderWay c at → slice_get (net_names d.spef) at ≡ Some name
      → Puts d name nets → HavePut c nets new → IsUnderWay new (at + 1)
  step c new at name nets same way here (Puts.puts_none e) put =
      subst (λ (made : Changes). IsUnderWay made (at + 1)) (sym (subst (λ ps. HavePut c ps new) e put)) (way_later c at way)
  step c new at name nets same way here (Puts.puts_one net of cells good e) put =
      let (mid, one, end) = subst (λ ps. HavePut c ps new) e put in
      subst (λ (made : Changes). IsUnderWay made (at + 1)) (sym end)
      (way_put c mid at name net cells way (subst (λ (x : Design). slice_get (net_names x.spef) at ≡ Some name) (sym same) here)
      (subst (λ (x : Design). IsPosedNet x name net) (sym same) of)
      good.placement (good_is_placed net.problem cells good) one)

  stays : (c new : Changes) (nets : List PlacedNet) → c.design ≡ d → HavePut c nets new → new.design ≡ d
  stays c new nets same put = (put_stays c nets new put).0 ∙ same

  pub all_keep : (c final : Changes) (at : ℕ) (names : List (List ℕ)) (vs : List Verdict) → c.design ≡ d → IsUnderWay c at
      → ((k : ℕ) (name : List ℕ) → slice_get names k ≡ Some name → slice_get (net_names d.spef) (at + k) ≡ Some name) → AllZip (IsPutSaid d) names vs
      → HavePut c (flat_map put_in vs) final → IsChange final
  all_keep c final at [] [] same way stand each put = subst IsChange (sym put) way.keeps
  all_keep c final at [] (v ∷ vs) same way stand each put = absurd each
  all_keep c final at (n ∷ names) [] same way stand each put = absurd each
  all_keep c final at (n ∷ names) (v ∷ vs) same way stand each put =
      let (mid, first, second) = put_apart c final v.put (flat_map put_in vs) put in
      let here : slice_get (net_names d.spef) at ≡ Some n = ap (slice_get (net_names d.spef)) (let e : at ≡ at + 0 = omega arith in e) ∙ stand 0 n refl in
      all_keep mid final (at + 1) names vs (stays c mid v.put same first) (step c mid at n v.put same way here (puts_of d n v each.0) first)
      (λ k name e. ap (slice_get (net_names d.spef)) (let f : at + 1 + k ≡ at + suc k = omega arith in f) ∙ stand (suc k) name e) each.1 second

  -- one net alone
  pub one_keeps : (prefix name : List ℕ) (nets : List PlacedNet) (final : Changes) → IsChange (nothing d prefix) → Puts d name nets → HavePut (nothing d prefix) nets final → IsChange final
  one_keeps prefix name nets final keeps (Puts.puts_none e) put = subst IsChange (sym (subst (λ ps. HavePut (nothing d prefix) ps final) e put)) keeps
  one_keeps prefix name nets final keeps (Puts.puts_one net of cells good e) put =
      let (mid, one, end) = subst (λ ps. HavePut (nothing d prefix) ps final) e put in
      let free = open_nothing d prefix name net.ready.pinned.net of.joined in
      subst IsChange (sym end) (keeps_put (nothing d prefix) mid keeps (placed_net net cells) (put_for d name net cells of good).placed free.0 free.1 (omega arith) one)
