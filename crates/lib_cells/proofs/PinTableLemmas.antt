-- The pins of a table.
use Rattle.std.proofs.Common.{◌≡◌, ℕ, zero, suc, ◌+◌, ◌<◌, List, [], ◌∷◌, ◌++◌, length, map, get_or, slice_get, Some, refl, sym, ap, subst, ◌∙◌, arith, length-append}
use Rattle.std.specs.List.{All}
use Rattle.std.proofs.Math.ListN.{get_or-append}
use Rattle.std.proofs.Math.Seq.{get_or-append_seam}
use Rattle.std.proofs.lemmas.List.{length-map}
use Rattle.std.proofs.lemmas.Option.{get_or_from_slice_get, slice_get_read}
use Rattle.std.proofs.lemmas.List.Elements.{All-append, All-head, All-map, All-tail, All-weaker}
use Rattle.lib_cells.specs.PinInfos.{PinInfo}
use Rattle.lib_cells.specs.PinTables.{group_at, named, NO_GROUP, pins_in}
use Rattle.lib_cells.specs.declared.pin.PinGroup.{PinGroup}

module _ (groups : List PinGroup) where
  pub length-pins_in : (names : List (List ℕ)) (numbers : List ℕ) → length numbers ≡ length names → length (pins_in groups names numbers) ≡ length names
  unfolding pins_in
  length-pins_in [] numbers e = refl
  length-pins_in (name ∷ names) [] e = absurd (omega arith)
  length-pins_in (name ∷ names) (number ∷ numbers) e = ap suc (length-pins_in names numbers (omega arith))

  pub names-pins_in : (names : List (List ℕ)) (numbers : List ℕ) → length numbers ≡ length names → map (λ (p : PinInfo). p.name) (pins_in groups names numbers) ≡ names
  unfolding pins_in
  names-pins_in [] numbers e = refl
  names-pins_in (name ∷ names) [] e = absurd (omega arith)
  names-pins_in (name ∷ names) (number ∷ numbers) e = ap (λ ns. name ∷ ns) (names-pins_in names numbers (omega arith))

  pub get-pins_in : (names : List (List ℕ)) (numbers : List ℕ) (at : ℕ) → length numbers ≡ length names → at < length names
      → slice_get (pins_in groups names numbers) at ≡ Some (named (group_at groups (get_or numbers at 0)) (get_or names at []))
  unfolding pins_in
  get-pins_in [] numbers at e l = absurd (omega (arith, l))
  get-pins_in (name ∷ names) [] at e l = absurd (omega (arith, e))
  get-pins_in (name ∷ names) (number ∷ numbers) zero e l = refl
  get-pins_in (name ∷ names) (number ∷ numbers) (suc at) e l = get-pins_in names numbers at (omega (arith, e)) (omega (arith, l))

  pins_named : (more : List (List ℕ)) (number : ℕ) → pins_in groups more (map (λ _. number) more) ≡ map (named (group_at groups number)) more
  unfolding pins_in
  pins_named [] number = refl
  pins_named (name ∷ more) number = ap (λ ps. named (group_at groups number) name ∷ ps) (pins_named more number)

  pins_more : (names more : List (List ℕ)) (numbers : List ℕ) (number : ℕ) → length numbers ≡ length names
      → pins_in groups (names ++ more) (numbers ++ map (λ _. number) more) ≡ pins_in groups names numbers ++ map (named (group_at groups number)) more
  unfolding pins_in
  pins_more [] more [] number e = pins_named more number
  pins_more [] more (k ∷ numbers) number e = absurd (omega (arith, e))
  pins_more (name ∷ names) more [] number e = absurd (omega (arith, e))
  pins_more (name ∷ names) more (k ∷ numbers) number e = ap (λ ps. named (group_at groups k) name ∷ ps) (pins_more names more numbers number (omega (arith, e)))

  groups_more : (group : PinGroup) (names : List (List ℕ)) (numbers : List ℕ) → All (λ number. number < length groups) numbers
      → pins_in (groups ++ group ∷ []) names numbers ≡ pins_in groups names numbers
  unfolding pins_in
  groups_more group [] numbers all = refl
  groups_more group (name ∷ names) [] all = refl
  groups_more group (name ∷ names) (number ∷ numbers) all =
      let here : group_at (groups ++ group ∷ []) number ≡ group_at groups number =
      get_or-append groups (group ∷ []) NO_GROUP number (All-head (λ number. number < length groups) number numbers all) in
      let rest = groups_more group names numbers (All-tail (λ number. number < length groups) number numbers all) in
      λ i. named (here i) name ∷ rest i

-- a group with its pins
pub group_pushed : (groups : List PinGroup) (group : PinGroup) (names more : List (List ℕ)) (numbers : List ℕ) (number : ℕ) → length numbers ≡ length names
    → All (λ number. number < length groups) numbers → number ≡ length groups
    → pins_in (groups ++ group ∷ []) (names ++ more) (numbers ++ map (λ _. number) more) ≡ pins_in groups names numbers ++ map (named group) more
group_pushed groups group names more numbers number e all is =
    let last : group_at (groups ++ group ∷ []) number ≡ group =
    ap (group_at (groups ++ group ∷ [])) is ∙ get_or-append_seam groups group [] NO_GROUP in
    pins_more (groups ++ group ∷ []) names more numbers number e
    ∙ (λ i. groups_more groups group names numbers all i ++ map (named (last i)) more)

pub numbers_pushed : (size : ℕ) (more : List (List ℕ)) (numbers : List ℕ) (number : ℕ) → All (λ k. k < size) numbers → number ≡ size
    → All (λ k. k < size + 1) (numbers ++ map (λ _. number) more)
numbers_pushed size more numbers number all is =
    All-append (λ k. k < size + 1) numbers (map (λ _. number) more)
    (All-weaker (λ k. k < size) (λ k. k < size + 1) (λ k low. omega arith) numbers all)
    (All-map (λ k. k < size + 1) (λ _. number) more (λ k d low. omega arith))

pub sizes_pushed : (names more : List (List ℕ)) (numbers : List ℕ) (number : ℕ) → length numbers ≡ length names
    → length (numbers ++ map (λ _. number) more) ≡ length (names ++ more)
sizes_pushed names more numbers number e =
    omega (arith, e, length-append numbers (map (λ _. number) more), length-append names more, length-map more (λ (_ : List ℕ). number))

-- ---- a row of a table

-- what stands at a place, whatever is read past the end
read_again : {X : Type 0} (xs : List X) (at : ℕ) (x d : X) → at < length xs → x ≡ get_or xs at x → get_or xs at d ≡ x
read_again xs at x d low e = get_or_from_slice_get xs at x d (slice_get_read xs (length xs) at x refl low e)

pub number_within : (size : ℕ) (numbers : List ℕ) (at number : ℕ) → All (λ k. k < size) numbers → at < length numbers → number ≡ get_or numbers at number → number < size
number_within size numbers at number all low e = subst (λ k. k < size) (sym e) (all at number low)

pub pin_read : (groups : List PinGroup) (names : List (List ℕ)) (numbers : List ℕ) (at number : ℕ) (name : List ℕ) (group : PinGroup)
    → length numbers ≡ length names → All (λ k. k < length groups) numbers → at < length names
    → number ≡ get_or numbers at number → name ≡ get_or names at [] → group ≡ get_or groups number group
    → slice_get (pins_in groups names numbers) at ≡ Some (named group name)
pin_read groups names numbers at number name group e all low n m g =
    let place : at < length numbers = omega (arith, e, low) in
    let is_number : get_or numbers at 0 ≡ number = read_again numbers at number 0 place n in
    let is_group : get_or groups number NO_GROUP ≡ group = read_again groups number group NO_GROUP (number_within (length groups) numbers at number all place n) g in
    get-pins_in groups names numbers at e low
    ∙ (λ i. Some (named (group_at groups (is_number i)) (sym m i)))
    ∙ ap (λ (x : PinGroup). Some (named x name)) is_group
