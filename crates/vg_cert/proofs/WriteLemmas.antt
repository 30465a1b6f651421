-- One line after another is written.
use Rattle.std.proofs.Common.{◌≡◌, ℕ, ◌+◌, ◌<◌, ◌≤◌, Bool, false, Option, None, ℤ, List, [], ◌∷◌, ◌++◌, map, length, take, drop, get_or, refl, sym, ap, ◌∙◌, arith, append_assoc}
use Rattle.std.specs.Prelude.{flat_map, codes, slice_index_or, IfOk, Result, Ok, Err, Vec}
use Rattle.vg_num.specs.declared.memory.Memory.{Memory}
use Rattle.std.specs.declared.alloc.Global.{Global}
use Rattle.elmore.specs.declared.pair.Pair.{Pair}
use Rattle.vg_cert.specs.Lines.{Line}
use Rattle.elmore.specs.declared.problem.Problem.{Problem}
use Rattle.vg_scan.specs.declared.name.NetNames.{NetNames}
use Rattle.vg_cert.specs.declared.certificate.Certificate.{Certificate}
use Rattle.vg_cert.specs.declared.certificate.NodeLists.{NodeLists}
use Rattle.vg_cert.specs.Denoted.{both}
use Rattle.vg_cert.specs.Written.{joined, line_text, pair_line, head_lines, count_line, cell_lines, node_lines, cells_part, lists_part, lines_written, text_of}
use Rattle.std.proofs.lemmas.List.{drop_more, length-drop, take_more, take_all, append-nil, get_or-map}
use Rattle.std.proofs.lemmas.Grind.{flat_map-append}
use Rattle.std.specs.List.{range_with_len}
use Rattle.std.proofs.lemmas.List.FromFn.{length-range_with_len, get_or-range_with_len}

-- the piece that is written gets longer, and so does the text
pub grown : (closed : List (Vec ℕ Global)) (old new more : List ℕ) → new ≡ old ++ more → joined closed ++ new ≡ (joined closed ++ old) ++ more
grown closed old new more e = ap (λ y. joined closed ++ y) e ∙ sym (append_assoc (joined closed) old more)

one_item : {X : Type 0} (f : X → List ℕ) (x : X) → flat_map f (x ∷ []) ≡ f x
one_item f x = append-nil (f x)

pub item_more : {X : Type 0} (f : X → List ℕ) (xs : List X) (i : ℕ) (d x : X) (before old new : List ℕ) → i < length xs → get_or xs i d ≡ x → old ≡ before ++ flat_map f (take i xs) → new ≡ old ++ f x
    → new ≡ before ++ flat_map f (take (i + 1) xs)
item_more f xs i d x before old new l is o n =
    n ∙ ap (λ y. y ++ f x) o ∙ append_assoc before (flat_map f (take i xs)) (f x)
    ∙ ap (λ y. before ++ y) (ap (λ y. flat_map f (take i xs) ++ y) (sym (one_item f x)) ∙ sym (flat_map-append f (take i xs) (x ∷ [])) ∙ ap (λ y. flat_map f (take i xs ++ y ∷ [])) (sym is) ∙ ap (flat_map f) (sym (take_more xs i d l)))

pub flat_mapped : {X Y : Type 0} (f : Y → List ℕ) (g : X → Y) (xs : List X) → flat_map f (map g xs) ≡ flat_map (λ x. f (g x)) xs
flat_mapped f g [] = refl
flat_mapped f g (x ∷ xs) = ap (λ y. f (g x) ++ y) (flat_mapped f g xs)

pub three : (old a b c one two new : List ℕ) → one ≡ old ++ a → two ≡ one ++ b → new ≡ two ++ c → new ≡ old ++ (a ++ (b ++ c))
three old a b c one two new e f g = g ∙ ap (λ x. x ++ c) (f ∙ ap (λ x. x ++ b) e) ∙ append_assoc (old ++ a) b c ∙ append_assoc old a (b ++ c)

pub flat_flat : {X Y : Type 0} (f : Y → List ℕ) (g : X → List Y) (xs : List X) → flat_map f (flat_map g xs) ≡ flat_map (λ x. flat_map f (g x)) xs
flat_flat f g [] = refl
flat_flat f g (x ∷ xs) = flat_map-append f (g x) (flat_map g xs) ∙ ap (λ y. flat_map f (g x) ++ y) (flat_flat f g xs)

pub section_text : (old first two new : List ℕ) (a : Line) (e o : List Pair) → first ≡ old ++ line_text a → two ≡ first ++ flat_map (λ x. line_text (pair_line x)) e → new ≡ two ++ flat_map (λ x. line_text (pair_line x)) o
    → new ≡ old ++ flat_map line_text (a ∷ (map pair_line e ++ map pair_line o))
section_text old first two new a e o f g h =
    three old (line_text a) (flat_map (λ x. line_text (pair_line x)) e) (flat_map (λ x. line_text (pair_line x)) o) first two new f g h
    ∙ ap (λ x. old ++ (line_text a ++ x)) (sym (flat_map-append line_text (map pair_line e) (map pair_line o)
    ∙ ap (λ x. x ++ flat_map line_text (map pair_line o)) (flat_mapped line_text pair_line e) ∙ ap (λ x. flat_map (λ y. line_text (pair_line y)) e ++ x) (flat_mapped line_text pair_line o)))

pub turn_more : (f : ℕ → List ℕ) (n v : ℕ) (before old new : List ℕ) → v < n → old ≡ before ++ flat_map f (take v (range_with_len 0 n)) → new ≡ old ++ f v → new ≡ before ++ flat_map f (take (v + 1) (range_with_len 0 n))
turn_more f n v before old new l = item_more f (range_with_len 0 n) v 0 v before old new (omega (arith, l, length-range_with_len 0 n)) (get_or-range_with_len 0 n v 0 l ∙ omega arith)

pub turns_done : (f : ℕ → List ℕ) (n v : ℕ) (before new : List ℕ) → n ≤ v → new ≡ before ++ flat_map f (take v (range_with_len 0 n)) → new ≡ before ++ flat_map f (range_with_len 0 n)
turns_done f n v before new l e = e ∙ ap (λ xs. before ++ flat_map f xs) (take_all v (range_with_len 0 n) (omega (arith, l, length-range_with_len 0 n)))

five : (old a b c d e o1 o2 o3 o4 new : List ℕ) → o1 ≡ old ++ a → o2 ≡ o1 ++ b → o3 ≡ o2 ++ c → o4 ≡ o3 ++ d → new ≡ o4 ++ e → new ≡ old ++ (a ++ ((b ++ c) ++ (d ++ e)))
five old a b c d e o1 o2 o3 o4 new h1 h2 h3 h4 h5 =
    h5 ∙ ap (λ x. x ++ e) h4 ∙ append_assoc o3 d e ∙ ap (λ x. x ++ (d ++ e)) (h3 ∙ ap (λ x. x ++ c) (h2 ∙ ap (λ x. x ++ b) h1) ∙ append_assoc (old ++ a) b c ∙ append_assoc old a (b ++ c))
    ∙ append_assoc old (a ++ (b ++ c)) (d ++ e) ∙ ap (λ x. old ++ x) (append_assoc a (b ++ c) (d ++ e))

-- what comes next of what is left of a list
pub left_next : {X : Type 0} (xs : List X) (v : ℕ) (x : X) (rest : List X) → drop v xs ≡ x ∷ rest → (v < length xs) × (get_or xs v x ≡ x) × (rest ≡ drop (v + 1) xs)
left_next xs v x rest e =
    let low : v < length xs = omega (arith, ap length e, length-drop v xs) in
    let next = drop_more xs v x low in
    (low, cc, cc)

-- all of it is gone through where nothing is left
pub left_none : {X : Type 0} (xs : List X) (v : ℕ) → drop v xs ≡ [] → length xs ≤ v
left_none xs v e = omega (arith, ap length e, length-drop v xs)

-- the lists of a node, as they stand
pub both_at : (lists : List NodeLists) (v : ℕ) (d : NodeLists) → v < length lists → both (get_or lists v d) ≡ get_or (map both lists) v ([], [])
both_at lists v d l = sym (get_or-map both lists v d ([], []) l)

-- the parts of a certificate's text
pub text_parts : {X : Type 0} (f g : X → List Line) (head : List Line) (count end : Line) (xs ys : List X) (old o1 o2 o3 o4 new : List ℕ) → o1 ≡ old ++ flat_map line_text head → o2 ≡ o1 ++ line_text count
    → o3 ≡ o2 ++ flat_map (λ v. flat_map line_text (f v)) xs → o4 ≡ o3 ++ flat_map (λ v. flat_map line_text (g v)) ys → new ≡ o4 ++ line_text end
    → new ≡ old ++ flat_map line_text (head ++ ((count ∷ flat_map f xs) ++ (flat_map g ys ++ end ∷ [])))
text_parts f g head count end xs ys old o1 o2 o3 o4 new a b c d e =
    let cells : flat_map line_text (flat_map f xs) ≡ flat_map (λ v. flat_map line_text (f v)) xs = flat_flat line_text f xs in
    let lists : flat_map line_text (flat_map g ys) ≡ flat_map (λ v. flat_map line_text (g v)) ys = flat_flat line_text g ys in
    let last : flat_map line_text (end ∷ []) ≡ line_text end = one_item line_text end in
    let tail : flat_map line_text (flat_map g ys ++ end ∷ []) ≡ flat_map (λ v. flat_map line_text (g v)) ys ++ line_text end
    = flat_map-append line_text (flat_map g ys) (end ∷ []) ∙ ap (λ x. x ++ flat_map line_text (end ∷ [])) lists ∙ ap (λ x. flat_map (λ v. flat_map line_text (g v)) ys ++ x) last in
    let middle : flat_map line_text ((count ∷ flat_map f xs) ++ (flat_map g ys ++ end ∷ [])) ≡ (line_text count ++ flat_map (λ v. flat_map line_text (f v)) xs) ++ (flat_map (λ v. flat_map line_text (g v)) ys ++ line_text end)
    = flat_map-append line_text (count ∷ flat_map f xs) (flat_map g ys ++ end ∷ []) ∙ ap (λ x. (line_text count ++ x) ++ flat_map line_text (flat_map g ys ++ end ∷ [])) cells
    ∙ ap (λ x. (line_text count ++ flat_map (λ v. flat_map line_text (f v)) xs) ++ x) tail in
    let whole : flat_map line_text (head ++ ((count ∷ flat_map f xs) ++ (flat_map g ys ++ end ∷ []))) ≡ flat_map line_text head ++ ((line_text count ++ flat_map (λ v. flat_map line_text (f v)) xs) ++ (flat_map (λ v. flat_map line_text (g v)) ys ++ line_text end))
    = flat_map-append line_text head ((count ∷ flat_map f xs) ++ (flat_map g ys ++ end ∷ [])) ∙ ap (λ x. flat_map line_text head ++ x) middle in
    five old (flat_map line_text head) (line_text count) (flat_map (λ v. flat_map line_text (f v)) xs) (flat_map (λ v. flat_map line_text (g v)) ys) (line_text end) o1 o2 o3 o4 new a b c d e ∙ ap (λ x. old ++ x) (sym whole)

abbrev whole_lines : NetNames → Option ℤ → List (Option ℕ) → List Bool → List NodeLists → List Line
whole_lines names slack cells live lists = head_lines names slack ++ (cells_part names cells ++ (lists_part names live lists ++ (codes "end" ∷ []) ∷ []))

pub whole_text : (p : Problem) (names : NetNames) (cert : Certificate) (cells : List (Option ℕ)) (live : List Bool) (lists : List NodeLists) (old o1 o2 o3 o4 new : List ℕ) → cells ≡ cert.placement.cells → live ≡ p.live
    → lists ≡ cert.lists.items → o1 ≡ old ++ flat_map line_text (head_lines names cert.slack) → o2 ≡ o1 ++ line_text (count_line cells)
    → o3 ≡ o2 ++ flat_map (λ v. flat_map line_text (cell_lines names v (slice_index_or cells v None))) (range_with_len 0 (length cells))
    → o4 ≡ o3 ++ flat_map (λ v. flat_map line_text (node_lines names v (get_or live v false) (get_or (map both lists) v ([], [])))) (range_with_len 0 (length live)) → new ≡ o4 ++ line_text (codes "end" ∷ [])
    → new ≡ old ++ text_of p names cert
unfolding text_of lines_written
whole_text p names cert cells live lists old o1 o2 o3 o4 new x y z a b c d e =
    text_parts (λ v. cell_lines names v (slice_index_or cells v None)) (λ v. node_lines names v (get_or live v false) (get_or (map both lists) v ([], []))) (head_lines names cert.slack) (count_line cells) (codes "end" ∷ [])
    (range_with_len 0 (length cells)) (range_with_len 0 (length live)) old o1 o2 o3 o4 new a b c d e
    ∙ ap (λ k. old ++ flat_map line_text (whole_lines names cert.slack k live lists)) x
    ∙ ap (λ k. old ++ flat_map line_text (whole_lines names cert.slack cert.placement.cells k lists)) y
    ∙ ap (λ k. old ++ flat_map line_text (whole_lines names cert.slack cert.placement.cells p.live k)) z

-- a text that grew from none is the pieces that were made of it
pub all_made : (text made begun : List ℕ) (result : Result (Vec (Vec ℕ Global) Global) Memory) → begun ≡ [] → made ≡ begun ++ text → IfOk result (λ pieces. joined pieces.items ≡ made)
    → IfOk result (λ pieces. joined pieces.items ≡ text)
all_made text made begun (Ok pieces) none all is = is ∙ all ∙ ap (λ x. x ++ text) none
all_made text made begun (Err memory) none all is = tt
