-- Parts of a text that become blank in place.
use Rattle.std.proofs.Common.{◌≡◌, ℕ, ◌+◌, ◌-◌, ◌<◌, ◌≤◌, List, [], ◌∷◌, ◌++◌, map, length, length-append, length-take, take, drop, get_or, set, sym, ap, ◌∙◌, arith, length-drop, drop-drop, append_assoc}
use Rattle.std.proofs.lemmas.List.{take_more, take_more_set, drop-set-lt, map-append, take-append-drop, length-map}
use Rattle.std.proofs.Math.Seq.{take-add, take-append_seam, drop-append_seam}
use Rattle.std.proofs.lemmas.Grind.{common_steps}
use Rattle.vg_scan.specs.declared.comments.Comments.{Comments}
use Rattle.vg_scan.specs.Lines.{part}
use Rattle.vg_scan.specs.Comments.{blanked, without_comments}
use Rattle.vg_scan.specs.Next.{IsNextComment}

get_dropped : (bytes : List ℕ) (at k : ℕ) → get_or (drop at bytes) k 0 ≡ get_or bytes (at + k) 0
get_dropped bytes at k = grind (arith, common_steps)

-- a byte more of a comment
module _ (old now : List ℕ) (at p x : ℕ) (low : at ≤ p) (high : p < length old) (long : length now ≡ length old)
    (rest : drop p now ≡ drop p old) (e : x ≡ blanked (get_or now p 0)) where
  same_byte : get_or now p 0 ≡ get_or old p 0
  same_byte =
      let k : p ≡ p + 0 = omega arith in
      ap (λ j. get_or now j 0) k ∙ sym (get_dropped now p 0) ∙ ap (λ xs. get_or xs 0 0) rest ∙ get_dropped old p 0 ∙ ap (λ j. get_or old j 0) (sym k)

  here : get_or (drop at old) (p - at) 0 ≡ get_or old p 0
  here = get_dropped old at (p - at) ∙ ap (λ j. get_or old j 0) (let k : at + (p - at) ≡ p = omega arith in k)

  pub front_more : take p now ≡ take at old ++ map blanked (take (p - at) (drop at old))
      → take (p + 1) (set now p x) ≡ take at old ++ map blanked (take (p + 1 - at) (drop at old))
  front_more f =
      let k : p + 1 - at ≡ (p - at) + 1 = omega arith in
      let t : take (p - at + 1) (drop at old) ≡ take (p - at) (drop at old) ++ get_or (drop at old) (p - at) 0 ∷ [] =
      take_more (drop at old) (p - at) 0 (omega (arith, length-drop at old)) in
      let x_is : x ≡ blanked (get_or old p 0) = e ∙ ap blanked same_byte in
      take_more_set now p x (omega (arith, long))
      ∙ ap (λ xs. xs ++ x ∷ []) f
      ∙ append_assoc (take at old) (map blanked (take (p - at) (drop at old))) (x ∷ [])
      ∙ ap (λ xs. take at old ++ xs)
      (ap (λ y. map blanked (take (p - at) (drop at old)) ++ y ∷ []) x_is
      ∙ sym (ap (λ n. map blanked (take n (drop at old))) k ∙ ap (map blanked) t
      ∙ map-append blanked (take (p - at) (drop at old)) (get_or (drop at old) (p - at) 0 ∷ [])
      ∙ ap (λ y. map blanked (take (p - at) (drop at old)) ++ blanked y ∷ []) here))

  pub rest_more : drop (p + 1) (set now p x) ≡ drop (p + 1) old
  rest_more =
      drop-set-lt (p + 1) now p x (omega arith)
      ∙ sym (drop-drop 1 p now) ∙ ap (drop 1) rest ∙ drop-drop 1 p old

-- the whole part is blank
pub all_blank : (old new : List ℕ) (at to : ℕ) → take to new ≡ take at old ++ map blanked (part old at to) → drop to new ≡ drop to old
    → new ≡ take at old ++ (map blanked (part old at to) ++ drop to old)
all_blank old new at to front rest =
    sym (take-append-drop to new) ∙ ap (λ xs. xs ++ drop to new) front ∙ ap (λ xs. (take at old ++ map blanked (part old at to)) ++ xs) rest
    ∙ append_assoc (take at old) (map blanked (part old at to)) (drop to old)

front_of : (text : List ℕ) (at to : ℕ) → at ≤ to → take to text ≡ take at text ++ part text at to
front_of text at to l = ap (λ k. take k text) (let x : to ≡ at + (to - at) = omega arith in x) ∙ take-add at (to - at) text

-- ---- comments

-- the next comment of the old text is blank in the new one
module _ (kind : Comments) (old new : List ℕ) (at from to : ℕ) (next : IsNextComment kind old at from to)
    (is : new ≡ take from old ++ (map blanked (part old from to) ++ drop to old)) where
  abbrev done : List ℕ
  done = take from old ++ map blanked (part old from to)

  done_length : length done ≡ to
  done_length = simp (length-append, length-take, length-map, length-drop) (omega (arith, next.some, next.within))

  joined : new ≡ done ++ drop to old
  joined = is ∙ sym (append_assoc (take from old) (map blanked (part old from to)) (drop to old))

  taken : take to new ≡ done
  taken = ap (take to) joined ∙ ap (λ n. take n (done ++ drop to old)) (sym done_length) ∙ take-append_seam done (drop to old)

  left : drop to new ≡ drop to old
  left = ap (drop to) joined ∙ ap (λ n. drop n (done ++ drop to old)) (sym done_length) ∙ drop-append_seam done (drop to old)

  pub one_cleared : take to new ++ without_comments kind (drop to new) ≡ take at old ++ without_comments kind (drop at old)
  one_cleared =
      let shown = map blanked (part old from to) in
      let rest = without_comments kind (drop to old) in
      ap (λ xs. take to new ++ without_comments kind xs) left ∙ ap (λ xs. xs ++ rest) taken
      ∙ append_assoc (take from old) shown rest
      ∙ ap (λ xs. xs ++ (shown ++ rest)) (front_of old at from next.after)
      ∙ append_assoc (take at old) (part old at from) (shown ++ rest)
      ∙ ap (λ xs. take at old ++ xs) (sym next.clear)
