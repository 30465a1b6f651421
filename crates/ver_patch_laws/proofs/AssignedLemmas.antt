-- The assignments of a changed text are those of the text.
use Rattle.std.proofs.Common.{◌≡◌, ℕ, Bool, true, false, not, ◌&&◌, ◌||◌, List, [], ◌∷◌, ◌++◌, refl, sym, ap, ◌∙◌, subst, inl, inr}
use Rattle.std.proofs.lemmas.List.{append-nil}
use Rattle.ver_text.specs.declared.kind.Kind.{Kind}
use Rattle.ver_text.specs.declared.kind.Kind.TheVariants.{Identifier}
use Rattle.ver_syntax.specs.declared.row.Place.{Place}
use Rattle.ver_syntax.specs.declared.row.Place.TheVariants.{Start, Head, Ports, Declaration, Assignment, Instances, Pins, Connection}
use Rattle.ver_syntax.specs.declared.row.Row.{Row}
use Rattle.ver_syntax.specs.Grammar.{is}
use Rattle.ver_syntax.specs.Rows.{item_after, place_after}
use Rattle.ver_syntax.proofs.TableLemmas.{each_kind}
use Rattle.ver_items.specs.Sections.{Section, is_identifier, is_name_in, is_place, sections, stands_in}
use Rattle.ver_module.specs.Netlists.{Netlist}
use Rattle.ver_patch.proofs.FrameLemmas.{Follow}
use Rattle.ver_patch.proofs.StandLemmas.{no_sections}
use Rattle.ver_patch.specs.NewCells.{NewCell}
use Rattle.ver_patch.specs.Rewires.{Rewire}
use Rattle.ver_patch_text_laws.proofs.RunLemmas.{EachRow}
use Rattle.ver_patch_laws.proofs.ChangedLemmas.{InOne}
use Rattle.ver_patch_laws.proofs.SectionLemmas.{sections_skip}
use Rattle.ver_patch_laws.proofs.DeclareLemmas.{IsItem}
use Rattle.ver_patch_laws.proofs.ItemLemmas.{Paired}
use Rattle.ver_patch_laws.proofs.RelinkedLemmas.{ArePairs, AreRelinked, In}
use Rattle.ver_patch_laws.proofs.SameLemmas.{AreSame, IsSameSection, sections_same}
use Rattle.ver_patch_laws.proofs.WalkLemmas.{IsFree, IsNewNet}
use Rattle.ver_patch_laws.proofs.FromLemmas.{not_both}

-- ---- pairs

pub pair_of : {X Y : Type 0} (R : X → Y → Type 0) (xs : List X) (ys : List Y) → ArePairs R xs ys → (x : X) → In x xs → (y : Y) × In y ys × R x y
pair_of R _ _ ArePairs.done x i = absurd i
pair_of R _ _ (ArePairs.pair {x} {y} {xs} {ys} r h) z (inl e) = (y, inl refl, subst (λ u. R u y) (sym e) r)
pair_of R _ _ (ArePairs.pair {x} {y} {xs} {ys} r h) z (inr i) = let (w, j, s) = pair_of R xs ys h z i in (w, inr j, s)

pub of_pair : {X Y : Type 0} (R : X → Y → Type 0) (xs : List X) (ys : List Y) → ArePairs R xs ys → (y : Y) → In y ys → (x : X) × In x xs × R x y
of_pair R _ _ ArePairs.done y i = absurd i
of_pair R _ _ (ArePairs.pair {x} {y} {xs} {ys} r h) z (inl e) = (x, inl refl, subst (R x) (sym e) r)
of_pair R _ _ (ArePairs.pair {x} {y} {xs} {ys} r h) z (inr i) = let (w, j, s) = of_pair R xs ys h z i in (w, inr j, s)

-- ---- tokens of assignments

other_after : (p : Place) (k : Kind) → is_place Assignment p ≡ false → is_place Start p ≡ false → not (is_place Assignment (place_after p k)) ≡ true
other_after Head k e f = each_kind (λ k. not (is_place Assignment (place_after Head k))) refl k
other_after Ports k e f = each_kind (λ k. not (is_place Assignment (place_after Ports k))) refl k
other_after Declaration k e f = each_kind (λ k. not (is_place Assignment (place_after Declaration k))) refl k
other_after Instances k e f = each_kind (λ k. not (is_place Assignment (place_after Instances k))) refl k
other_after Pins k e f = each_kind (λ k. not (is_place Assignment (place_after Pins k))) refl k
other_after Connection k e f = each_kind (λ k. not (is_place Assignment (place_after Connection k))) refl k
other_after p k e f = absurd (cc)

pub at_assignment : (p : Place) → is_place Assignment p ≡ true → p ≡ Assignment
at_assignment Assignment e = refl
at_assignment p e = absurd (cc)

pub same_after : (k : Kind) → (is_place Assignment (place_after Assignment k) || is_place Start (place_after Assignment k)) ≡ true
same_after = each_kind (λ k. is_place Assignment (place_after Assignment k) || is_place Start (place_after Assignment k)) refl

pub or_other : (a b : Bool) → (a || b) ≡ true → b ≡ false → a ≡ true
or_other true b e f = refl
or_other false true e f = absurd (cc)
or_other false false e f = absurd (cc)

not_true : (b : Bool) → not b ≡ true → b ≡ false
not_true true e = absurd (cc)
not_true false e = refl

abbrev IsInner : Row → Type 0
IsInner r = stands_in Start r ≡ false

-- tokens of an assignment stand in no connection
all_assigned : (p : Place) (rows : List Row) → is_place Assignment p ≡ true → Follow p rows → EachRow IsInner rows → EachRow (λ r. stands_in Connection r ≡ false) rows
all_assigned p [] e f k = tt
all_assigned p (r ∷ []) e f k = (ap (is_place Connection) (f.0 ∙ at_assignment p e), tt)
all_assigned p (r ∷ q ∷ rows) e f k =
    let off : is_place Start (place_after p r.kind) ≡ false = ap (is_place Start) (sym f.1.0) ∙ k.1.0 in
    let after : place_after p r.kind ≡ place_after Assignment r.kind = ap (λ x. place_after x r.kind) (at_assignment p e) in
    let on = or_other (is_place Assignment (place_after Assignment r.kind)) (is_place Start (place_after Assignment r.kind)) (same_after r.kind)
    (ap (is_place Start) (sym after) ∙ off) in (
      ap (is_place Connection) (f.0 ∙ at_assignment p e),
      all_assigned (place_after p r.kind) (q ∷ rows) (ap (is_place Assignment) after ∙ on) f.1 k.1,
    )

-- and those of other items in no assignment
none_assigned : (p : Place) (rows : List Row) → is_place Assignment p ≡ false → Follow p rows → EachRow IsInner rows
    → EachRow (λ r. is_name_in Assignment r ≡ false) rows
none_assigned p [] e f k = tt
none_assigned p (r ∷ rows) e f k =
    let off : is_place Start p ≡ false = ap (is_place Start) (sym f.0) ∙ k.0 in (
      not_both (is_identifier r) (stands_in Assignment r) (ap (is_place Assignment) f.0 ∙ e),
      none_assigned (place_after p r.kind) rows (not_true (is_place Assignment (place_after p r.kind)) (other_after p r.kind e off)) f.1 k.1,
    )

pub sections_none : (test : Row → Bool) (rows : List Row) → EachRow (λ r. test r ≡ false) rows → sections test rows ≡ []
sections_none test rows h = ap (sections test) (sym (append-nil rows)) ∙ sections_skip test rows [] h ∙ no_sections test

names_alike : (r q : Row) → r.place ≡ q.place → r.kind ≡ q.kind → is_name_in Assignment r ≡ is_name_in Assignment q
names_alike r q e f = λ i. is Identifier (f i) && is_place Assignment (e i)

only_same : (text new : List ℕ) (Free : ℕ → Type 0) (Becomes : List Row → List Row → Type 0) → ((old made : List Row) → Becomes old made → old ≡ [] → ⊥)
    → (rows others : List Row) → AreRelinked text new Free Becomes rows others → EachRow (λ r. stands_in Connection r ≡ false) rows → AreSame text new rows others
only_same text new Free Becomes some _ _ AreRelinked.none h = ArePairs.done
only_same text new Free Becomes some _ _ (AreRelinked.kept {r} {q} {rows} {others} same free more) h =
    ArePairs.pair same (only_same text new Free Becomes some rows others more h.1)
only_same text new Free Becomes some _ _ (AreRelinked.replaced old made rows others i more) h = absurd (no_old old i.before i.becomes h)
  where
    no_old : (us : List Row) → EachRow InOne us → Becomes us made → EachRow (λ r. stands_in Connection r ≡ false) (us ++ rows) → ⊥
    no_old [] f b g = some [] made b refl
    no_old (u ∷ us) f b g = let x = f.0 in let y = g.0 in absurd (cc)

-- the assignments of an item
abbrev pub assignments : Section → List Section
assignments s = sections (is_name_in Assignment) s.body

module _ (text new : List ℕ) (netlist : Netlist) (all : List Rewire) (cells : List NewCell) (wires : List (List ℕ)) where
  some_net : (old made : List Row) → IsNewNet text new netlist all old made → old ≡ [] → ⊥
  some_net old made h e = let f : h.first ∷ h.more ≡ [] = sym h.old_is ∙ e in absurd (cc)

  pub assignments_same : (s t : Section) → Paired text new netlist all cells wires s t → IsItem s → IsItem t → ArePairs (IsSameSection text new) (assignments s) (assignments t)
  assignments_same s t p i j = by_place (is_place Assignment (item_after s.head.kind)) refl
    where
      by_place : (b : Bool) → is_place Assignment (item_after s.head.kind) ≡ b → ArePairs (IsSameSection text new) (assignments s) (assignments t)
      by_place true e =
          sections_same text new (is_name_in Assignment) names_alike s.body t.body
          (only_same text new (IsFree netlist all) (IsNewNet text new netlist all) some_net s.body t.body p.body
          (all_assigned (item_after s.head.kind) s.body e i.body.follow i.body.inner))
      by_place false e =
          let olds = sections_none (is_name_in Assignment) s.body (none_assigned (item_after s.head.kind) s.body e i.body.follow i.body.inner) in
          let now : is_place Assignment (item_after t.head.kind) ≡ false = ap (λ k. is_place Assignment (item_after k)) (sym p.head.kind) ∙ e in
          let news = sections_none (is_name_in Assignment) t.body (none_assigned (item_after t.head.kind) t.body now j.body.follow j.body.inner) in
          subst (λ ss. ArePairs (IsSameSection text new) ss (assignments t)) (sym olds) (subst (ArePairs (IsSameSection text new) []) (sym news) ArePairs.done)
