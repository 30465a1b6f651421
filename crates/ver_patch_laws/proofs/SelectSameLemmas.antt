-- What the same tokens select in two texts.
use Rattle.std.proofs.Common.{◌≡◌, ℕ, cond, List, [], map, refl, sym, ap, ◌∙◌}
use Rattle.ver_text.specs.declared.kind.Kind.TheVariants.{Colon, OpenSquare}
use Rattle.ver_syntax.specs.declared.row.Row.{Row}
use Rattle.ver_syntax.specs.Grammar.{is}
use Rattle.ver_items.specs.declared.bits.Select.TheVariants.{Whole, Bit, Part}
use Rattle.ver_items.specs.Bits.{first_number, fits, select_before, select_in, selected}
use Rattle.ver_items.specs.Declarations.{declared_of, range_in}
use Rattle.ver_items.specs.Sections.{Section, name_at}
use Rattle.ver_file.specs.Flaws.{select_flaws}
use Rattle.ver_file.specs.Netlists.{range_at}
use Rattle.ver_file.proofs.NetLemmas.{passes}
use Rattle.ver_patch_laws.proofs.ChangedLemmas.{IsSame}
use Rattle.ver_patch_laws.specs.Links.{names_named}
use Rattle.ver_patch_laws.proofs.NameLemmas.{HaveRanges}
use Rattle.ver_patch_laws.proofs.RelinkedLemmas.{ArePairs}
use Rattle.ver_patch_laws.proofs.SameLemmas.{AreSame, IsSameSection, name_same, number_same}
use Rattle.ver_patch_laws.proofs.SetLemmas.{unless_not}

module _ (text new : List ℕ) (agree : HaveRanges text new) where
  first_same : (rows others : List Row) → AreSame text new rows others → first_number text rows ≡ first_number new others
  first_same _ _ ArePairs.done = refl
  first_same _ _ (ArePairs.pair {x = r} {y = q} {xs = rows} {ys = others} s h) = number_same text new r q s

  in_same : (rows others : List Row) → AreSame text new rows others → select_in text rows ≡ select_in new others
  in_same _ _ ArePairs.done = refl
  in_same _ _ (ArePairs.pair s ArePairs.done) = refl
  in_same _ _ (ArePairs.pair {x = k} {y = j} s (ArePairs.pair {x = c} {y = d} {xs = rows} {ys = others} t h)) =
      λ i. cond (is Colon (t.kind i)) (Part (record { left = number_same text new k j s i; right = first_same rows others h i })) (Bit (number_same text new k j s i))

  pub select_same : (rows others : List Row) → AreSame text new rows others → select_before text rows ≡ select_before new others
  select_same _ _ ArePairs.done = refl
  select_same _ _ (ArePairs.pair {x = r} {y = q} {xs = rows} {ys = others} s h) = λ i. cond (is OpenSquare (s.kind i)) (in_same rows others h i) Whole

  pub range_same : (r q : Row) → IsSame text new r q → range_at text r ≡ range_at new q
  range_same r q s = ap (range_in (declared_of text)) (name_same text new r q s) ∙ agree (name_at new q)

  pub names_same : (s t : Section) → IsSameSection text new s t → names_named text s ≡ names_named new t
  names_same s t h =
      let select = select_same s.body t.body h.body in
      let range = range_same s.head t.head h.head in
      λ i. map (λ bit. record { base = name_same text new s.head t.head h.head i; bit = bit }) (selected (select i) (range i))

  pub fits_same : (s t : Section) → IsSameSection text new s t → fits (select_before text s.body) (range_at text s.head) ≡ fits (select_before new t.body) (range_at new t.head)
  fits_same s t h = let select = select_same s.body t.body h.body in let range = range_same s.head t.head h.head in λ i. fits (select i) (range i)

  pub flaws_same : (s t : Section) → IsSameSection text new s t → select_flaws text s ≡ [] → select_flaws new t ≡ []
  flaws_same s t h e =
      unless_not (fits (select_before new t.body) (range_at new t.head)) t.head.from
      (sym (fits_same s t h) ∙ passes (fits (select_before text s.body) (range_at text s.head)) s.head.from e)
