-- A printed node names the node.
use Rattle.std.proofs.Common.{◌≡◌, ℕ, zero, suc, ◌+◌, ◌==◌, ◌<◌, ◌≤◌, Bool, true, false, not, ◌&&◌, List, [], ◌∷◌, ◌++◌, refl, sym, ap, ◌∙◌, cond, arith, length, drop, get_or, slice_index, inl, inr, subst, add-one, Some, None, eqb}
use Rattle.std.proofs.lemmas.Bool.{cases_Bool, cases_eq, cases_lt, eq-eqb}
use Rattle.std.proofs.lemmas.Bool.Decides.{nat_tests}
use Rattle.std.proofs.lemmas.List.{append-nil, append_assoc, length-append, drop-drop, drop_at, take_at, get_or-drop}
use Rattle.vg_scan.specs.declared.chars.Chars.{Chars}
use Rattle.vg_scan.specs.Names.{is_backslash, is_escaped, is_bare, last_bare, canonical}
use Rattle.vg_scan.specs.Nodes.{leaf_at, node_of_parts}
use Rattle.vg_scan.specs.Printed.{printed, printed_byte, is_own}
use Rattle.vg_scan.specs.Separators.{is_separator, is_bus_pair}
use Rattle.vg_scan.proofs.PrintedLemmas.{no_reference, reads_again}
use Rattle.spef_file.specs.Files.{File}
use Rattle.spef_nodes.specs.Names.{node_in, node_split, owner_in}
use Rattle.spef_write.specs.Texts.{printed_node_with}

-- from one place to another the byte d stands nowhere unescaped, and nothing escapes the place after
record IsPassed (d : ℕ) (text : List ℕ) (from to : ℕ) : Type 0 where
  pub free : is_escaped text to ≡ false
  pub none : (at : ℕ) → from ≤ at → at < to → is_bare d text at ≡ false

passed_both : (d : ℕ) (text : List ℕ) (from mid to : ℕ) → IsPassed d text from mid → IsPassed d text mid to → IsPassed d text from to
passed_both d text from mid to a b = record {
  free = b.free;
  none = λ at low high.
      elim (cases_lt at mid) [
        | inl before ↦ a.none at low before
        | inr after ↦ b.none at after high
      ];
}

at_drop : (text : List ℕ) (a x : ℕ) (rest : List ℕ) → drop a text ≡ x ∷ rest → slice_index text a ≡ x
at_drop text a x rest e =
    let z : a + 0 ≡ a = omega arith in
    ap (λ k. get_or text k 0) (sym z) ∙ sym (get_or-drop a text 0 0) ∙ ap (λ xs. get_or xs 0 0) e

-- one byte that is neither a backslash nor d
passed_plain : (d : ℕ) (text : List ℕ) (a x : ℕ) (rest : List ℕ) → drop a text ≡ x ∷ rest → eqb x 92 ≡ false → eqb x d ≡ false → is_escaped text a ≡ false
    → IsPassed d text a (suc a)
passed_plain d text a x rest e plain other free = record {
  free = rw (at_drop text a x rest e, plain) refl;
  none = λ at low high.
      let same : at ≡ a = omega arith in
      rw (same, at_drop text a x rest e, other) refl;
}

-- a backslash, and the byte that it hides
passed_hidden : (d : ℕ) (text : List ℕ) (a b : ℕ) (rest : List ℕ) → drop a text ≡ 92 ∷ b ∷ rest → eqb 92 d ≡ false → is_escaped text a ≡ false
    → IsPassed d text a (suc (suc a))
passed_hidden d text a b rest e other free = record {
  free = ap (λ t. is_backslash (slice_index text (suc a)) && not t) hidden ∙ never (is_backslash (slice_index text (suc a)));
  none = λ at low high.
      elim (cases_eq at a) [
        | inl same ↦ rw (same, at_drop text a 92 (b ∷ rest) e, other) refl
        | inr later ↦
            let same : at ≡ suc a = omega arith in
            ap (is_bare d text) same ∙ ap (λ t. (slice_index text (suc a) == d) && not t) hidden ∙ never (slice_index text (suc a) == d)
      ];
}
  where
    hidden : is_escaped text (suc a) ≡ true
    hidden = rw (at_drop text a 92 (b ∷ rest) e, free) refl

    never : (t : Bool) → (t && false) ≡ false
    never true = refl
    never false = refl

apart : (x d : ℕ) → is_own x ≡ true → is_separator d ≡ true → (eqb x 92 ≡ false) × (eqb x d ≡ false)
apart x d own sep = (grind (arith, nat_tests), grind (arith, nat_tests))

apart_left : (l r d : ℕ) → is_bus_pair l r ≡ true → is_separator d ≡ true → (eqb l 92 ≡ false) × (eqb l d ≡ false)
apart_left l r d pair sep = (grind (arith, nat_tests), grind (arith, nat_tests))

apart_right : (l r d : ℕ) → is_bus_pair l r ≡ true → is_separator d ≡ true → (eqb r 92 ≡ false) × (eqb r d ≡ false)
apart_right l r d pair sep = (grind (arith, nat_tests), grind (arith, nat_tests))

no_backslash : (d : ℕ) → is_separator d ≡ true → (eqb 92 d ≡ false) × (eqb d 92 ≡ false)
no_backslash d sep = (grind (arith, nat_tests), grind (arith, nat_tests))

passed_byte : (chars : Chars) (d : ℕ) → is_separator d ≡ true → (text : List ℕ) (a b : ℕ) (rest : List ℕ)
    → drop a text ≡ printed_byte chars b ++ rest → is_escaped text a ≡ false
    → IsPassed d text a (a + length (printed_byte chars b))
passed_byte chars d sep text a b rest e free =
    elim (cases_Bool (is_own b)) as (λ _. IsPassed d text a (a + length (printed_byte chars b))) [
      | inl own ↦ one b (rw own refl) (apart b d own sep)
      | inr other ↦ elim (cases_Bool (b == 91)) as (λ _. IsPassed d text a (a + length (printed_byte chars b))) [
        | inl left ↦ one chars.bus_left (rw (other, left) refl) (apart_left chars.bus_left chars.bus_right d chars.encloses sep)
        | inr no_left ↦ elim (cases_Bool (b == 93)) as (λ _. IsPassed d text a (a + length (printed_byte chars b))) [
          | inl right ↦ one chars.bus_right (rw (other, no_left, right) refl) (apart_right chars.bus_left chars.bus_right d chars.encloses sep)
          | inr no_right ↦ two (rw (other, no_left, no_right) refl)
        ]
      ]
    ]
  where
    one : (x : ℕ) → printed_byte chars b ≡ x ∷ [] → (eqb x 92 ≡ false) × (eqb x d ≡ false) → IsPassed d text a (a + length (printed_byte chars b))
    one x is (plain, other) =
        let to : suc a ≡ a + length (printed_byte chars b) = omega (arith, ap {B = ℕ} (λ (xs : List ℕ). length xs) is) in
        subst (IsPassed d text a) to (passed_plain d text a x rest (e ∙ ap (λ xs. xs ++ rest) is) plain other free)

    two : printed_byte chars b ≡ 92 ∷ b ∷ [] → IsPassed d text a (a + length (printed_byte chars b))
    two is =
        let to : suc (suc a) ≡ a + length (printed_byte chars b) = omega (arith, ap {B = ℕ} (λ (xs : List ℕ). length xs) is) in
        subst (IsPassed d text a) to (passed_hidden d text a b rest (e ∙ ap (λ xs. xs ++ rest) is) (no_backslash d sep).0 free)

passed_name : (chars : Chars) (d : ℕ) → is_separator d ≡ true → (text : List ℕ) (a : ℕ) (name rest : List ℕ)
    → drop a text ≡ printed chars name ++ rest → is_escaped text a ≡ false
    → IsPassed d text a (a + length (printed chars name))
passed_name chars d sep text a [] rest e free =
    let to : a ≡ a + 0 = omega arith in
    subst (IsPassed d text a) to (record { free = free; none = λ at low high. absurd (omega arith) })
passed_name chars d sep text a (b ∷ bs) rest e free =
    let here : IsPassed d text a (a + length (printed_byte chars b)) =
    passed_byte chars d sep text a b (printed chars bs ++ rest) (e ∙ append_assoc (printed_byte chars b) (printed chars bs) rest) free in
    let next : drop (a + length (printed_byte chars b)) text ≡ printed chars bs ++ rest =
    sym (drop-drop (length (printed_byte chars b)) a text)
    ∙ ap (drop (length (printed_byte chars b))) (e ∙ append_assoc (printed_byte chars b) (printed chars bs) rest)
    ∙ drop_at (printed_byte chars b) (printed chars bs ++ rest) (length (printed_byte chars b)) refl in
    let to : a + length (printed_byte chars b) + length (printed chars bs) ≡ a + length (printed chars (b ∷ bs)) =
    omega (arith, length-append (printed_byte chars b) (printed chars bs)) in
    passed_both d text a (a + length (printed_byte chars b)) (a + length (printed chars (b ∷ bs))) here
    (subst (IsPassed d text (a + length (printed_byte chars b))) to (passed_name chars d sep text (a + length (printed_byte chars b)) bs rest next here.free))

-- the last unescaped place
last_is : (byte : ℕ) (text : List ℕ) (limit at : ℕ) → at < limit → is_bare byte text at ≡ true → ((k : ℕ) → at < k → k < limit → is_bare byte text k ≡ false)
    → last_bare byte text limit ≡ Some at
last_is byte text zero at low here none = absurd (omega arith)
last_is byte text (suc limit) at low here none =
    elim (cases_eq at limit) [
      | inl e ↦ ap (λ t. cond t (Some limit) (last_bare byte text limit)) (ap (is_bare byte text) (sym e) ∙ here) ∙ ap (λ k. Some k) (sym e)
      | inr other ↦
          ap (λ t. cond t (Some limit) (last_bare byte text limit)) (none limit (omega arith) (omega arith))
          ∙ last_is byte text limit at (omega arith) here (λ k low high. none k low (omega arith))
    ]

last_none : (byte : ℕ) (text : List ℕ) (limit : ℕ) → ((k : ℕ) → k < limit → is_bare byte text k ≡ false) → last_bare byte text limit ≡ None
last_none byte text zero none = refl
last_none byte text (suc limit) none =
    ap (λ t. cond t (Some limit) (last_bare byte text limit)) (none limit (omega arith))
    ∙ last_none byte text limit (λ k high. none k (omega arith))

owner_again : (file : File) (name : List ℕ) → 0 < length name → owner_in file (printed file.chars name) ≡ Some name
unfolding owner_in
owner_again file name some = rw (no_reference file.chars name) (reads_again file.chars name some)

-- a port
port_again : (file : File) (owner : List ℕ) → 0 < length owner → node_in file (printed file.chars owner) ≡ Some (record { owner = owner; leaf = [] })
unfolding node_in
port_again file owner some =
    ap (node_split file text) none
    ∙ ap (λ o. node_of_parts o (Some [])) (owner_again file owner some)
  where
    text : List ℕ
    text = printed file.chars owner

    passed : IsPassed file.chars.delimiter text 0 (0 + length (printed file.chars owner))
    passed = passed_name file.chars file.chars.delimiter file.chars.delimits text 0 owner [] (sym (append-nil text)) refl

    none : leaf_at file.chars text ≡ None
    none = last_none file.chars.delimiter text (length text) (λ k high. passed.none k (omega arith) (omega arith))

-- a pin or an inner node
inner_again : (file : File) (owner leaf : List ℕ) → 0 < length owner → 0 < length leaf
    → node_in file (printed file.chars owner ++ file.chars.delimiter ∷ printed file.chars leaf) ≡ Some (record { owner = owner; leaf = leaf })
unfolding node_in
inner_again file owner leaf some some_leaf =
    ap (node_split file (text file owner leaf)) found
    ∙ ap (λ o. node_of_parts (owner_in file o) (canonical file.chars (drop (length (printed file.chars owner) + 1) (text file owner leaf))))
    (take_at (printed file.chars owner) (file.chars.delimiter ∷ printed file.chars leaf) (length (printed file.chars owner)) refl)
    ∙ ap (λ o. node_of_parts o (canonical file.chars (drop (length (printed file.chars owner) + 1) (text file owner leaf)))) (owner_again file owner some)
    ∙ ap (λ o. node_of_parts (Some owner) (canonical file.chars o)) after
    ∙ ap (node_of_parts (Some owner)) (reads_again file.chars leaf some_leaf)
  where
    text : File → List ℕ → List ℕ → List ℕ
    text file owner leaf = printed file.chars owner ++ file.chars.delimiter ∷ printed file.chars leaf

    from : drop (length (printed file.chars owner)) (text file owner leaf) ≡ file.chars.delimiter ∷ printed file.chars leaf
    from = drop_at (printed file.chars owner) (file.chars.delimiter ∷ printed file.chars leaf) (length (printed file.chars owner)) refl

    after : drop (length (printed file.chars owner) + 1) (text file owner leaf) ≡ printed file.chars leaf
    after = sym (drop-drop 1 (length (printed file.chars owner)) (text file owner leaf)) ∙ ap (drop 1) from

    first : IsPassed file.chars.delimiter (text file owner leaf) 0 (length (printed file.chars owner))
    first =
        let to : 0 + length (printed file.chars owner) ≡ length (printed file.chars owner) = omega arith in
        subst (IsPassed file.chars.delimiter (text file owner leaf) 0) to
        (passed_name file.chars file.chars.delimiter file.chars.delimits (text file owner leaf) 0 owner
        (file.chars.delimiter ∷ printed file.chars leaf) refl refl)

    here : slice_index (text file owner leaf) (length (printed file.chars owner)) ≡ file.chars.delimiter
    here = at_drop (text file owner leaf) (length (printed file.chars owner)) file.chars.delimiter (printed file.chars leaf) from

    free : is_escaped (text file owner leaf) (length (printed file.chars owner) + 1) ≡ false
    free =
        ap (is_escaped (text file owner leaf)) (add-one (length (printed file.chars owner)))
        ∙ rw (here, (no_backslash file.chars.delimiter file.chars.delimits).1) refl

    second : IsPassed file.chars.delimiter (text file owner leaf) (length (printed file.chars owner) + 1)
        (length (printed file.chars owner) + 1 + length (printed file.chars leaf))
    second =
        passed_name file.chars file.chars.delimiter file.chars.delimits (text file owner leaf) (length (printed file.chars owner) + 1) leaf []
        (after ∙ sym (append-nil (printed file.chars leaf))) free

    found : leaf_at file.chars (text file owner leaf) ≡ Some (length (printed file.chars owner))
    found =
        last_is file.chars.delimiter (text file owner leaf) (length (text file owner leaf)) (length (printed file.chars owner))
        (omega (arith, length-append (printed file.chars owner) (file.chars.delimiter ∷ printed file.chars leaf)))
        (rw (here, first.free, eq-eqb file.chars.delimiter file.chars.delimiter refl) refl)
        (λ k low high. second.none k (omega arith) (omega (arith, length-append (printed file.chars owner) (file.chars.delimiter ∷ printed file.chars leaf))))

pub node_again : (file : File) (owner leaf : List ℕ) → 0 < length owner
    → node_in file (printed_node_with file.chars owner leaf) ≡ Some (record { owner = owner; leaf = leaf })
node_again file owner [] some = port_again file owner some
node_again file owner (b ∷ leaf) some = inner_again file owner (b ∷ leaf) some (omega arith)
